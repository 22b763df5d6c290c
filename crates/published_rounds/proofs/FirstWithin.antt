-- Down the programmes, to the first one of which a person is within a line.
use Rattle.std.proofs.Common.{◌≡◌, ◌+◌, ◌≤◌, ◌<◌, ◌==◌, inl, inr, ℕ, List, [], ◌∷◌, Option, Some, None, false, length, arith, refl, sym, subst, eq-eqb}
use Rattle.std.proofs.lemmas.Bool.{cases_Bool, cond-false, cond-true, eqb-true}
use Rattle.office_base.specs.declared.seat.Seat.{Seat}
use Rattle.office_base.specs.declared.person.ListId.{ListId}
use Rattle.office_base.specs.declared.person.Person.{Person}
use Rattle.office_base.specs.declared.person.ProgId.{ProgId}
use Rattle.office_base.specs.declared.seat.SeatKind.TheVariants.{Under}
use Rattle.office_base.specs.declared.step.StepKind.{StepKind}
use Rattle.allocations.specs.Market.{place_of, rank_of}
use Rattle.list_cutoffs.specs.declared.cutoffs.StepCutoff.{StepCutoff}
use Rattle.programme_cutoffs.specs.Reading.{IsWithinFirst, IsWithinLines, IsWithinStep}
use Rattle.history_laws.proofs.Fits.{the_prog}
use Rattle.published_rounds.specs.Cutoffs.{IsSeatOfFirst}

-- a line is one of its step
pub of_some_step : (list : ListId) (person : Person) (lines : List StepCutoff) → IsWithinLines list person lines → (kind : StepKind) × IsWithinStep list person kind lines
of_some_step list person [] within = absurd within
of_some_step list person (line ∷ lines) within = elim within [
  | inl here ↦ (line.step, inl (refl, here))
  | inr later ↦ let rest = of_some_step list person lines later in (rest.0, inr rest.1)
]

module _ (lists : ℕ → ListId) (cutoffs : ℕ → List StepCutoff) (person : Person) where
  -- no programme before the seat has a line that the person is within
  abbrev AreOutside : List ProgId → Option Seat → Type 0
  AreOutside progs seat = (prog : ℕ) → place_of progs prog < length progs → place_of progs prog < rank_of progs seat → IsWithinLines (lists prog) person (cutoffs prog) → ⊥

  -- and that of the seat has
  abbrev IsInside : List ProgId → Option Seat → Type 0
  IsInside progs seat = (own : Seat) → seat ≡ Some own → (place_of progs own.prog.0 < length progs) × ((step : StepKind) × (own.step ≡ Under step) × IsWithinFirst (lists own.prog.0) person step (cutoffs own.prog.0))

  first_place : (first : ProgId) (progs : List ProgId) (prog : ℕ) → first.0 ≡ prog → place_of (first ∷ progs) prog ≡ 0
  first_place first progs prog same = cond-true (first.0 == prog) 0 (place_of progs prog + 1) (eq-eqb first.0 prog same)

  later_place : (first : ProgId) (progs : List ProgId) (prog : ℕ) → (first.0 == prog) ≡ false → place_of (first ∷ progs) prog ≡ place_of progs prog + 1
  later_place first progs prog other = cond-false (first.0 == prog) 0 (place_of progs prog + 1) other

  most_place : (first : ProgId) (progs : List ProgId) (prog : ℕ) → place_of (first ∷ progs) prog ≤ place_of progs prog + 1
  most_place first progs prog = elim (cases_Bool (first.0 == prog)) [
    | inl same ↦ (let zero = cond-true (first.0 == prog) 0 (place_of progs prog + 1) same in omega (arith, zero))
    | inr other ↦ (let next = later_place first progs prog other in omega (arith, next))
  ]

  pub first_along : (progs : List ProgId) (seat : Option Seat) → AreOutside progs seat → IsInside progs seat → IsSeatOfFirst lists cutoffs person progs seat
  first_along [] None outside inside = refl
  first_along [] (Some own) outside inside = absurd (let less = (inside own refl).0 in omega (arith, less))
  first_along (prog ∷ progs) None outside inside = inr (
    (λ within. outside prog.0 (omega (arith, first_place prog progs prog.0 refl)) (omega (arith, first_place prog progs prog.0 refl)) within),
    first_along progs None (λ other less later. outside other (let most = most_place prog progs other in omega (arith, most, less)) (let most = most_place prog progs other in omega (arith, most, less)))
        (λ own has. absurd (cc)),
  )
  first_along (prog ∷ progs) (Some own) outside inside = elim (cases_Bool (prog.0 == own.prog.0)) [
    | inl same ↦
        let number : prog.0 ≡ own.prog.0 = eqb-true _ _ same in
        let its = (inside own refl).1 in
        inl (own, its.0, refl, the_prog own.prog prog (sym number), its.1, subst (λ (n : ℕ). IsWithinFirst (lists n) person its.0 (cutoffs n)) (sym number) its.2)
    | inr other ↦
        let next = later_place prog progs own.prog.0 other in
        inr (
          (λ within. outside prog.0 (let zero = first_place prog progs prog.0 refl in omega (arith, zero)) (let zero = first_place prog progs prog.0 refl in omega (arith, zero, next)) within),
          first_along progs (Some own)
              (λ one less later. outside one (let most = most_place prog progs one in omega (arith, most, less)) (let most = most_place prog progs one in omega (arith, most, later, next)))
              (λ its has. let same : own ≡ its = cc in
              subst (λ (o : Seat). (place_of progs o.prog.0 < length progs) × ((step : StepKind) × (o.step ≡ Under step) × IsWithinFirst (lists o.prog.0) person step (cutoffs o.prog.0))) same
              (omega (arith, (inside own refl).0, next), (inside own refl).1)),
        )
  ]
