-- Lists that are checked against the tables of an office may be handed in or have one fault, never both.
use Rattle.std.proofs.Common.{◌≡◌, ◌≢◌, ◌⊎◌, inl, inr, ℕ, List, Option, Some, None, refl, sym, ap, ◌∙◌, subst}
use Rattle.section_rows.specs.Rows.{rows_of}
use Rattle.section_rows.specs.declared.fault.TableFault.TheVariants.{Bad, OutOfMemory as NoMemory}
use Rattle.kept_rows.specs.declared.rows.AllotRow.{AllotRow}
use Rattle.choice_lists.specs.Choices.{IsRead, Lists as ChoiceLists}
use Rattle.choice_lists.specs.Laws.{HaveOneReading}
use Rattle.office_moves.specs.Facts.{SeasonFacts, register_of}
use Rattle.office_moves.specs.State.{State}
use Rattle.special_round.specs.Laws.{HaveOneAnswer}
use Rattle.special_round.specs.Season.{IsSpecialFault, MayBeHeld, first_admitted}
use Rattle.special_round.specs.declared.fault.SpecialFault.{SpecialFault}
use Rattle.special_round.specs.declared.fault.SpecialFault.TheVariants.{Admitted, Lists, NotFinal, OutOfMemory}

-- against the season's own people and seats
abbrev Reading : SeasonFacts → List ℕ → Type 0
Reading facts body = HaveOneReading (register_of facts) facts.matrix (rows_of body)

some_one : {X : Type 0} (a b : X) → Some a ≡ Some b → a ≡ b
some_one a b e = cc

-- ---- one of both

some_answer : (facts : SeasonFacts) (state : State) (body : List ℕ) → Reading facts body
    → MayBeHeld facts state body ⊎ ((fault : SpecialFault) × IsSpecialFault facts state body fault × (fault ≢ OutOfMemory))
some_answer facts state body reading = by_finals state.finals refl
  where
    by_first : (rows : List AllotRow) → state.finals ≡ Some rows → (lists : ChoiceLists) → IsRead (register_of facts) facts.matrix (rows_of body) lists
        → (first : Option ℕ) → first_admitted rows (rows_of body) ≡ first
        → MayBeHeld facts state body ⊎ ((fault : SpecialFault) × IsSpecialFault facts state body fault × (fault ≢ OutOfMemory))
    by_first rows is lists read None e = inl (rows, is, (lists, read), e)
    by_first rows is lists read (Some row) e = inr (Admitted row, (rows, is, ((lists, read), e)), λ h. cc)

    by_finals : (finals : Option (List AllotRow)) → state.finals ≡ finals
        → MayBeHeld facts state body ⊎ ((fault : SpecialFault) × IsSpecialFault facts state body fault × (fault ≢ OutOfMemory))
    by_finals None is = inr (NotFinal state.now, (is, refl), λ h. cc)
    by_finals (Some rows) is = elim reading.some [
      | inl read ↦ by_first rows is read.0 read.1 (first_admitted rows (rows_of body)) refl
      | inr fault ↦ inr (Lists (Bad fault.0 fault.1), (rows, is, fault.2), λ h. cc)
    ]

-- ---- never both

pub never_both : (facts : SeasonFacts) (state : State) (body : List ℕ) → Reading facts body → (fault : SpecialFault) → MayBeHeld facts state body → IsSpecialFault facts state body fault
    → fault ≡ OutOfMemory
never_both facts state body reading (NotFinal now) held fault = absurd (let e : Some held.0 ≡ None = sym held.1 ∙ fault.0 in cc)
never_both facts state body reading (Lists (Bad row kind)) held fault = absurd (reading.apart held.2.0 row kind held.2.1 fault.2)
never_both facts state body reading (Lists NoMemory) held fault = absurd fault.2
never_both facts state body reading (Admitted row) held fault =
    absurd (
    let same = some_one fault.0 held.0 (sym fault.1 ∙ held.1) in
    let e : first_admitted held.0 (rows_of body) ≡ Some row = subst (λ rows. first_admitted rows (rows_of body) ≡ Some row) same fault.2.1 in
    let both : None ≡ Some row = sym held.3 ∙ e in
    cc)
never_both facts state body reading OutOfMemory held fault = refl

-- ---- one fault

one_wrong : (facts : SeasonFacts) (state : State) (body : List ℕ) → Reading facts body → (fault other : SpecialFault) → IsSpecialFault facts state body fault
    → IsSpecialFault facts state body other → fault ≢ OutOfMemory → other ≢ OutOfMemory → fault ≡ other
one_wrong facts state body reading OutOfMemory other first second sure sure' = absurd (sure refl)
one_wrong facts state body reading (NotFinal now) OutOfMemory first second sure sure' = absurd (sure' refl)
one_wrong facts state body reading (NotFinal now) (NotFinal now') first second sure sure' = ap NotFinal (first.1 ∙ sym second.1)
one_wrong facts state body reading (NotFinal now) (Lists fault) first second sure sure' = absurd (let e : None ≡ Some second.0 = sym first.0 ∙ second.1 in cc)
one_wrong facts state body reading (NotFinal now) (Admitted row) first second sure sure' = absurd (let e : None ≡ Some second.0 = sym first.0 ∙ second.1 in cc)
one_wrong facts state body reading (Lists NoMemory) other first second sure sure' = absurd first.2
one_wrong facts state body reading (Lists (Bad row kind)) OutOfMemory first second sure sure' = absurd (sure' refl)
one_wrong facts state body reading (Lists (Bad row kind)) (NotFinal now) first second sure sure' = absurd (let e : None ≡ Some first.0 = sym second.0 ∙ first.1 in cc)
one_wrong facts state body reading (Lists (Bad row kind)) (Lists NoMemory) first second sure sure' = absurd second.2
one_wrong facts state body reading (Lists (Bad row kind)) (Lists (Bad row' kind')) first second sure sure' =
    let same = reading.one_fault row row' kind kind' first.2 second.2 in
    ap (λ n. Lists (Bad n kind)) same.0 ∙ ap (λ k. Lists (Bad row' k)) same.1
one_wrong facts state body reading (Lists (Bad row kind)) (Admitted other) first second sure sure' = absurd (reading.apart second.2.0.0 row kind second.2.0.1 first.2)
one_wrong facts state body reading (Admitted row) OutOfMemory first second sure sure' = absurd (sure' refl)
one_wrong facts state body reading (Admitted row) (NotFinal now) first second sure sure' = absurd (let e : None ≡ Some first.0 = sym second.0 ∙ first.1 in cc)
one_wrong facts state body reading (Admitted row) (Lists NoMemory) first second sure sure' = absurd second.2
one_wrong facts state body reading (Admitted row) (Lists (Bad other kind)) first second sure sure' = absurd (reading.apart first.2.0.0 other kind first.2.0.1 second.2)
one_wrong facts state body reading (Admitted row) (Admitted other) first second sure sure' =
    let same = some_one first.0 second.0 (sym first.1 ∙ second.1) in
    let e : first_admitted second.0 (rows_of body) ≡ Some row = subst (λ rows. first_admitted rows (rows_of body) ≡ Some row) same first.2.1 in
    ap Admitted (some_one row other (sym e ∙ second.2.1))

pub one_answer : (facts : SeasonFacts) (state : State) (body : List ℕ) → Reading facts body → HaveOneAnswer facts state body
one_answer facts state body reading = record {
  some = some_answer facts state body reading;
  apart = λ fault held wrong. never_both facts state body reading fault held wrong;
  one = λ fault other first second sure sure'. one_wrong facts state body reading fault other first second sure sure';
  held = λ season left. (left.0, left.1, (season.choices, left.2.lists), left.2.nobody);
}
