-- Who is ahead, by the worst of the listed who are not needed and by the members whom the person can replace.
use Rattle.std.proofs.Common.{◌⊎◌, Option, Some, None, List, [], ◌∷◌, subst, inl, inr}
use Rattle.std.specs.Prelude.{◌↔◌}
use Rattle.std.specs.List.{AllByRecursion}
use Rattle.office_base.specs.Lists.{AnyByRecursion, IsAmong}
use Rattle.office_base.specs.Person.{IsBetter, number_in}
use Rattle.office_base.specs.declared.person.ListId.{ListId}
use Rattle.office_base.specs.declared.person.Person.{Person}
use Rattle.placements.proofs.Merit.{ahead_again}
use Rattle.placements.proofs.Ranks.{among_itself, any_all, any_at, placed_end, placed_front}
use Rattle.placements.specs.Ranks.{without}
use Rattle.slot_matching.specs.Augmented.{CanReplace}
use Rattle.slot_matching.specs.Kept.{Kept}
use Rattle.list_audit.specs.Reckoning.{IsAhead, IsBetterThan, IsReckoned, IsWorstFree}

-- one of them has the first and the third, where each has the first exactly where it has the second
pub any_of : {X : Type 0} (P Q R : X → Type 0) (xs : List X) → AllByRecursion (λ x. P x ↔ Q x) xs
    → AnyByRecursion (λ x. P x × R x) xs ↔ AnyByRecursion (λ x. Q x × R x) xs
any_of P Q R [] both = ((λ h. h), (λ h. h))
any_of P Q R (x ∷ xs) both =
    let rest = any_of P Q R xs both.1 in (
      (λ h. elim h [ inl here ↦ inl (both.0.0 here.0, here.1) | inr later ↦ inr (rest.0 later) ]),
      (λ h. elim h [ inl here ↦ inl (both.0.1 here.0, here.1) | inr later ↦ inr (rest.1 later) ]),
    )

module _ (list : ListId) (listed : List Person) (kept : Kept) (person : Person) where
  worse_free : (free : Option Person) → IsWorstFree list listed kept.members free → IsBetterThan list person free → IsAhead list kept.protections listed kept.members person
  worse_free None worst better = absurd better
  worse_free (Some free) worst better = inl (free, worst.0, worst.1, better)

  free_worse : (free : Option Person) (other : Person) → IsWorstFree list listed kept.members free → IsAmong other listed → (IsAmong other kept.members → ⊥) → IsBetter list person other
      → IsBetterThan list person free
  free_worse None other worst there gone better = absurd (worst other there gone)
  free_worse (Some free) other worst there gone better = elim (worst.2 other there gone) [
    | inl same ↦ subst (IsBetter list person) same better
    | inr behind ↦ ahead_again (number_in list person) (number_in list other) (number_in list free) better behind
  ]

  pub ahead_by : (free : Option Person) → IsReckoned list kept.protections listed kept free
      → (IsBetterThan list person free ⊎ AnyByRecursion (λ member. CanReplace kept person member × IsBetter list person member) kept.members)
      ↔ IsAhead list kept.protections listed kept.members person
  ahead_by free r = (
    (λ h. elim h [
      | inl better ↦ worse_free free r.worst better
      | inr worse ↦
          let found = any_all (λ member. CanReplace kept person member × IsBetter list person member) (λ member. IsAmong member kept.members) kept.members worse (among_itself kept.members) in
          inr (found.0, found.2, found.1.1, placed_front kept.protections person (without found.0.id kept.members) found.1.0)
    ]),
    (λ h. elim h [
      | inl f ↦ inl (free_worse free f.0 r.worst f.1 f.2 f.3)
      | inr w ↦ inr (any_at (λ member. CanReplace kept person member × IsBetter list person member) w.0 kept.members w.1
          (placed_end kept.protections person (without w.0.id kept.members) w.3, w.2))
    ]),
  )
