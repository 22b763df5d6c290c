-- The seats that the lists of the programmes show, step after step and programme after programme.
use Rattle.std.proofs.Common.{◌≡◌, ◌≢◌, ◌<◌, ◌≤◌, ◌+◌, ◌⊎◌, inl, inr, ℕ, zero, suc, List, [], ◌∷◌, length, Option, Some, arith, refl, sym, ap, ◌∙◌, subst}
use Rattle.std.specs.Prelude.{slice_get}
use Rattle.std.proofs.lemmas.Bool.Decides.{eqb_tells}
use Rattle.office_base.specs.CategorySteps.{all_steps}
use Rattle.office_base.specs.Lists.{IsAmong, Pairwise}
use Rattle.placements.proofs.Ranks.{one_person}
use Rattle.office_base.specs.declared.seat.Seat.{Seat}
use Rattle.office_base.specs.declared.person.Person.{Person}
use Rattle.office_base.specs.declared.seat.SeatKind.TheVariants.{Under}
use Rattle.office_base.specs.declared.step.StepKind.{StepKind}
use Rattle.allocations.specs.Market.{seat_at}
use Rattle.programme_lists.specs.declared.programme.Programme.{Programme}
use Rattle.programme_lists.specs.declared.programme.StepList.{StepList}
use Rattle.office_base.specs.StepNumbers.{step_number}
use Rattle.office_base.proofs.StepNumbers.{one_number, below_all}
use Rattle.placements.proofs.Convert.{same_cand}
use Rattle.programme_lists.proofs.Parts.{any_step}
use Rattle.apply_engine.specs.Made.{AreGiven, AreInOrder, AreOf, ArePut, AreShown, IsPut, IsShownOnce, admitted_of, shown}

-- the list at a place shows whom it admits
pub shows_at : (programme : Programme) (j : ℕ) (list : StepList) → AreInOrder programme → slice_get programme.steps j ≡ Some list → shown programme list.kind ≡ list.admitted
shows_at programme j list order at = ap (λ k. admitted_of (slice_get programme.steps k)) (order.each j list at) ∙ ap admitted_of at

-- one step more
pub step_more : (people : List Person) (p j : ℕ) (programme : Programme) (list : StepList) (old seats new : List (Option Seat)) → AreInOrder programme → IsShownOnce programme
    → slice_get programme.steps j ≡ Some list → ArePut people p j programme old seats → IsPut people (seat_at p (Under list.kind)) list.admitted seats new → ArePut people p (j + 1) programme old new
step_more people p j programme list old seats new order once at h put =
    let mine : shown programme list.kind ≡ list.admitted = shows_at programme j list order at in
    let number : step_number list.kind ≡ j = order.each j list at in
    record {
      full = put.full ∙ h.full;
      here = λ i person kind less there among. elim (cases (step_number kind) j (omega (arith, less))) [
        | inl before ↦
            let apart : IsAmong person list.admitted → ⊥ = λ here.
            let same = once person kind list.kind among (subst (λ l. IsAmong person l) (sym mine) here) in
            let number' : step_number kind ≡ j = ap step_number same ∙ number in
            omega (arith, before, number') in
            put.elsewhere i person there apart ∙ h.here i person kind before there among
        | inr now ↦
            let same : kind ≡ list.kind = one_number kind list.kind (now ∙ sym number) in
            let here : IsAmong person list.admitted = subst (λ l. IsAmong person l) (ap (λ k. shown programme k) same ∙ mine) among in
            put.here i person there here ∙ ap (λ k. Some (Some (seat_at p (Under k)))) (sym same)
      ];
      elsewhere = λ i person there apart.
          put.elsewhere i person there (λ here. apart list.kind (omega (arith, number)) (subst (λ l. IsAmong person l) (sym mine) here))
          ∙ h.elsewhere i person there (λ kind less. apart kind (omega (arith, less)));
    }
  where
    cases : (m n : ℕ) → m ≤ n → (m < n) ⊎ (m ≡ n)
    cases m zero less = inr (omega (arith, less))
    cases zero (suc n) less = inl (omega arith)
    cases (suc m) (suc n) less = elim (cases m n (omega (arith, less))) [ inl h ↦ inl (omega (arith, h)) | inr h ↦ inr (ap suc h) ]

-- one programme more: each person is shown by it, or has what the person had
pub one_programme_more : (people : List Person) (programmes : List Programme) (p : ℕ) (programme : Programme) (seats new : List (Option Seat)) → AreShown people programmes
    → slice_get programmes p ≡ Some programme → AreGiven people programmes p seats → ArePut people p (length all_steps) programme seats new
    → ((i : ℕ) (person : Person) (seat : Seat) → slice_get people i ≡ Some person → slice_get new i ≡ Some (Some seat)
    → ((kind : StepKind) × IsAmong person (shown programme kind)) ⊎ ((kind : StepKind) → IsAmong person (shown programme kind) → ⊥))
    → AreGiven people programmes (p + 1) new
one_programme_more people programmes p programme seats new shown_is at given put decide = record {
  full = put.full ∙ given.full;
  given = λ q i other person kind less at' there among. elim (cases q p (omega (arith, less))) [
    | inl before ↦
        put.elsewhere i person there (λ next less' among'.
        let same = (shown_is.once q p other programme person kind next at' at among among').0 in
        omega (arith, before, same))
        ∙ given.given q i other person kind before at' there among
    | inr now ↦
        let here : slice_get programmes p ≡ Some other = subst (λ k. slice_get programmes k ≡ Some other) now at' in
        let same : other ≡ programme = cc in
        put.here i person kind (below_all kind) there (subst (λ x. IsAmong person (shown x kind)) same among) ∙ ap (λ k. Some (Some (seat_at k (Under kind)))) (sym now)
  ];
  only = λ i person seat there has. elim (decide i person seat there has) [
    | inl mine ↦
        let set = put.here i person mine.0 (below_all mine.0) there mine.1 in
        let same : seat ≡ seat_at p (Under mine.0) = cc in
        let prog : seat.prog.0 ≡ p = ap (λ (s : Seat). s.prog.0) same in (
          omega (arith, prog),
          record {
            kind = mine.0;
            under = ap (λ (s : Seat). s.step) same;
            among = λ other at'.
                let at_p : slice_get programmes p ≡ Some other = subst (λ k. slice_get programmes k ≡ Some other) prog at' in
                let one : programme ≡ other = cc in
                subst (λ x. IsAmong person (shown x mine.0)) one mine.1;
          },
        )
    | inr none ↦
        let before = sym (put.elsewhere i person there (λ kind less. none kind)) ∙ has in
        let old = given.only i person seat there before in
        (let less = old.0 in omega (arith, less), old.1)
  ];
}
  where
    cases : (m n : ℕ) → m ≤ n → (m < n) ⊎ (m ≡ n)
    cases m zero less = inr (omega (arith, less))
    cases zero (suc n) less = inl (omega arith)
    cases (suc m) (suc n) less = elim (cases m n (omega (arith, less))) [ inl h ↦ inl (omega (arith, h)) | inr h ↦ inr (ap suc h) ]

-- whether a person is among some whose numbers are distinct
decide_among : (person : Person) (some all : List Person) → ((x : Person) → IsAmong x some → IsAmong x all) → IsAmong person all → Pairwise (λ (a b : Person). a.id ≢ b.id) all
    → IsAmong person some ⊎ (IsAmong person some → ⊥)
decide_among person [] all part there distinct = inr (λ h. h)
decide_among person (x ∷ some) all part there distinct = elim (eqb_tells person.id.0 x.id.0) [
  | inl h ↦ inl (inl (one_person all distinct person x there (part x (inl refl)) (same_cand person.id x.id h.1)))
  | inr h ↦ elim (decide_among person some all (λ y among. part y (inr among)) there distinct) [
    | inl among ↦ inl (inr among)
    | inr apart ↦ inr (λ among. elim among [ inl e ↦ h.1 (ap (λ (z : Person). z.id.0) e) | inr later ↦ apart later ])
  ]
]

is_one : (people : List Person) (i : ℕ) (x : Person) → slice_get people i ≡ Some x → IsAmong x people
is_one [] i x at = absurd (cc)
is_one (y ∷ people) zero x at = inl (let same : y ≡ x = cc in sym same)
is_one (y ∷ people) (suc i) x at = inr (is_one people i x at)

-- whether one of these steps shows a person
decide_steps : (P : StepKind → Type 0) (kinds : List StepKind) → ((kind : StepKind) → P kind ⊎ (P kind → ⊥)) → ((kind : StepKind) × P kind) ⊎ ((kind : StepKind) → IsAmong kind kinds → P kind → ⊥)
decide_steps P [] decide = inr (λ kind there. absurd there)
decide_steps P (first ∷ kinds) decide = elim (decide first) [
  | inl here ↦ inl (first, here)
  | inr apart ↦ elim (decide_steps P kinds decide) [
    | inl later ↦ inl later
    | inr none ↦ inr (λ kind there held. elim there [ inl same ↦ apart (subst P same held) | inr later ↦ none kind later held ])
  ]
]

-- whether a programme shows a person of the register
pub decide_shown : (people : List Person) (programme : Programme) (i : ℕ) (person : Person) → Pairwise (λ (a b : Person). a.id ≢ b.id) people
    → ((kind : StepKind) → AreOf people (shown programme kind)) → slice_get people i ≡ Some person
    → ((kind : StepKind) × IsAmong person (shown programme kind)) ⊎ ((kind : StepKind) → IsAmong person (shown programme kind) → ⊥)
decide_shown people programme i person distinct are there =
    let one : (kind : StepKind) → IsAmong person (shown programme kind) ⊎ (IsAmong person (shown programme kind) → ⊥) = λ kind.
    decide_among person (shown programme kind) people (λ x among. let found = are kind x among in is_one people found.0 x found.1) (is_one people i person there) distinct in
    elim (decide_steps (λ kind. IsAmong person (shown programme kind)) all_steps one) [
      | inl here ↦ inl here
      | inr none ↦ inr (λ kind held. none kind (any_step kind) held)
    ]
