-- One offer to a programme with guarantees: whom it lets go.
use Rattle.std.proofs.Common.{◌≡◌, ◌⊎◌, inl, inr, ℕ, true, List, Some, subst}
use Rattle.std.specs.Prelude.{slice_get}
use Rattle.std.proofs.lemmas.Bool.Decides.{eqb_tells}
use Rattle.office_base.specs.Lists.{IsAmong}
use Rattle.office_base.specs.declared.person.Person.{Person}
use Rattle.allocations.specs.Course.{KeepsAllBut, tried}
use Rattle.allocations.specs.Market.{Seeker}
use Rattle.allocations.specs.Rule.{Admits, Refuses}
use Rattle.kept_seats.specs.Kept.{Guarantees, StepRule, with_kept}
use Rattle.kept_seats.proofs.Kept as kept

-- after an offer the rule chooses whom it chose before, but for the one at this place
abbrev pub RuleKeepsAllBut : StepRule → ℕ → List Seeker → List ℕ → List ℕ → ℕ → Type 0
RuleKeepsAllBut rule p seekers next after out = (j : ℕ) (t : Seeker) → slice_get seekers j ≡ Some t → (j ≡ out → ⊥)
    → Admits rule p (tried p seekers next) t.person → Admits rule p (tried p seekers after) t.person

module _ (guaranteed : Guarantees) (rule : StepRule) (p : ℕ) (seekers : List Seeker) (next after : List ℕ)
    (decided : (x : Person) → Admits rule p (tried p seekers after) x ⊎ Refuses rule p (tried p seekers after) x) where
  -- who is guaranteed there and tried is admitted
  pub sure : (x : Person) → guaranteed p x ≡ true → IsAmong x (tried p seekers after) → Admits (with_kept guaranteed rule) p (tried p seekers after) x
  sure x is_sure among = elim (decided x) [
    | inl picked ↦ kept.chosen guaranteed rule p (tried p seekers after) x picked
    | inr out ↦ kept.kept guaranteed rule p (tried p seekers after) x (record { guaranteed_there = is_sure; applies = among; not_chosen = out })
  ]

  -- where the rule keeps all but one, so does the programme
  pub keeps_all_but : (out : ℕ) → ((x : Person) → IsAmong x (tried p seekers next) → IsAmong x (tried p seekers after)) → RuleKeepsAllBut rule p seekers next after out
      → KeepsAllBut (with_kept guaranteed rule) p seekers next after out
  keeps_all_but out more keeps = λ j t there apart admits. elim (kept.view guaranteed rule p (tried p seekers next) t.person admits.0 admits.1) [
    | inl picked ↦ kept.chosen guaranteed rule p (tried p seekers after) t.person (keeps j t there apart (picked.0, picked.2))
    | inr beside ↦ sure t.person beside.1.guaranteed_there (more t.person beside.1.applies)
  ]

  -- and where that one is guaranteed there, it keeps all
  pub keeps_all : (out : ℕ) (u : Seeker) → ((x : Person) → IsAmong x (tried p seekers next) → IsAmong x (tried p seekers after)) → RuleKeepsAllBut rule p seekers next after out
      → slice_get seekers out ≡ Some u → guaranteed p u.person ≡ true → IsAmong u.person (tried p seekers after) → (any : ℕ) → KeepsAllBut (with_kept guaranteed rule) p seekers next after any
  keeps_all out u more keeps there is_sure among any = λ j t there' apart admits. elim (eqb_tells j out) [
    | inl same ↦
        let there'' : slice_get seekers out ≡ Some t = subst (λ k. slice_get seekers k ≡ Some t) same.1 there' in
        let one : u ≡ t = cc in
        subst (λ (z : Seeker). Admits (with_kept guaranteed rule) p (tried p seekers after) z.person) one (sure u.person is_sure among)
    | inr other ↦ keeps_all_but out more keeps j t there' other.1 admits
  ]

  -- whom the rule refuses, with no guarantee there, the programme refuses
  pub lets_go : (x : Person) → (guaranteed p x ≡ true → ⊥) → Refuses rule p (tried p seekers after) x → Refuses (with_kept guaranteed rule) p (tried p seekers after) x
  lets_go x unsure out = kept.neither guaranteed rule p (tried p seekers after) x out (λ keeps. unsure keeps.guaranteed_there)
