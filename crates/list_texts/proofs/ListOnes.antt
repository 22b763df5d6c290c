-- A text is the list of one value alone.
use Rattle.std.proofs.Common.{◌≡◌, ◌<◌, ◌≤◌, ◌-◌, ◌^◌, ℕ, zero, suc, List, [], ◌∷◌, ◌++◌, length, refl, sym, ap, subst, ◌∙◌, arith}
use Rattle.office_base.specs.declared.person.Person.{Person}
use Rattle.office_base.specs.declared.step.Pair.{Pair}
use Rattle.office_base.specs.declared.step.StepKind.{StepKind}
use Rattle.programme_lists.specs.declared.programme.StepList.{StepList}
use Rattle.seat_matrix.specs.Matrix.{SeatTable}
use Rattle.text_readers.specs.Reading.{Grammar, HasNo}
use Rattle.text_readers.proofs.PartsLemmas.{cut-one}
use Rattle.list_texts.specs.ListLines.{CanStand, IsLineThen, IsListEnd, IsListHead, IsStepHead, Said, entry_words, honoured_text, honoured_words, last_words, lines_text, list_words, most_slots, rows_text, slots_in, step_list, step_text, step_words, steps_text, with_step}
use Rattle.list_texts.specs.ListReader.{AreKnown}
use Rattle.list_texts.specs.Listing.{IsListText, pair_of, step_kinds}
use Rattle.list_texts.specs.declared.lists.ListRead.{ListRead}
use Rattle.list_texts.proofs.FollowLemmas.{slots-few}
use Rattle.list_texts.proofs.ListTexts.{list-lines', read_of}
use Rattle.list_texts.proofs.StageLines.{entry-clear, entry-one}
use Rattle.list_texts.proofs.WordLemmas.{honoured-clear, honoured-one, last-clear, list-clear, list-one, step-head-clear, step-one}

-- a text has one value at most
IsOne : {V : Type 0} → Grammar V → Type 0
IsOne {V} grammar = (text : List ℕ) (v w : V) → grammar text v → grammar text w → v ≡ w

then-one : {P V : Type 0} (words : P → List ℕ) (can : P → Type 0) (next : P → Grammar V) → ((p : P) → can p → HasNo 10 (words p)) → ((p q : P) → can p → can q → words p ≡ words q → p ≡ q)
    → ((p : P) → can p → IsOne (next p)) → IsOne (IsLineThen words can next)
unfolding IsOne
then-one words can next clear one all text v w is its =
    let (head, tail) = cut-one 10 (words is.part) (words its.part) is.rest its.rest (clear is.part is.may) (clear its.part its.may) (sym is.same ∙ its.same) in
    let p = one is.part its.part is.may its.may head in
    all its.part its.may its.rest v w (subst (λ z. next z its.rest v) p (subst (λ z. next is.part z v) tail is.later)) its.later

end-one : (said : Said) → IsOne (IsListEnd said)
unfolding IsOne
end-one said text v w is its = is.all ∙ sym its.all

module _ (table : SeatTable) (people : List Person) (known : AreKnown table people) where
  rows-one : (after : List Person → List Pair → Grammar Said) → ((admitted : List Person) (pairs : List Pair) → IsOne (after admitted pairs)) → (rows slots : ℕ) (admitted : List Person) (pairs : List Pair)
      → IsOne (rows_text people after rows slots admitted pairs)
  rows-one after all zero slots admitted pairs = all admitted pairs
  rows-one after all (suc left) slots admitted pairs =
      then-one entry_words (CanStand people admitted left slots) (λ entry. rows_text people after left (slots - slots_in entry.1) (admitted ++ entry.0 ∷ []) (pairs ++ pair_of entry.0 entry.1))
      (entry-clear table people known left slots admitted) (entry-one table people known left slots admitted)
      (λ entry may. rows-one after all left (slots - slots_in entry.1) (admitted ++ entry.0 ∷ []) (pairs ++ pair_of entry.0 entry.1))

  step-text-one : (kind : StepKind) (after : StepList → Grammar Said) → ((list : StepList) → IsOne (after list)) → IsOne (step_text people kind after)
  step-text-one kind after all =
      then-one (step_words kind) (IsStepHead (length people)) (λ part. honoured_text people (λ admitted pairs. after (step_list kind part.0 part.1 admitted pairs)) kind part.2)
      (step-head-clear kind (length people) (omega (arith, known.few))) (step-one kind (length people) (omega (arith, known.few)))
      (λ part may.
      let fits : most_slots kind part.2 < 2 ^ 32 = omega (arith, slots-few kind part.2 (most_slots kind part.2) (omega arith), may.2, known.few) in
      then-one honoured_words (λ slots. slots ≤ most_slots kind part.2) (λ slots. rows_text people (λ admitted pairs. after (step_list kind part.0 part.1 admitted pairs)) part.2 slots [] [])
      (honoured-clear (most_slots kind part.2) fits) (honoured-one (most_slots kind part.2) fits)
      (λ slots few. rows-one (λ admitted pairs. after (step_list kind part.0 part.1 admitted pairs)) (λ admitted pairs. all (step_list kind part.0 part.1 admitted pairs)) part.2 slots [] []))

  steps-one : (kinds : List StepKind) (said : Said) → IsOne (steps_text people kinds said)
  steps-one [] said = then-one last_words (λ _. Unit {0}) (λ _. IsListEnd said) (λ p may. last-clear p) (λ p q may can e. refl) (λ p may. end-one said)
  steps-one (kind ∷ kinds) said = step-text-one kind (λ list. steps_text people kinds (with_step said list)) (λ list. steps-one kinds (with_step said list))

  lines-one : IsOne (lines_text table people)
  lines-one =
      then-one (list_words table) (IsListHead table) (λ part. steps_text people step_kinds (part.0, part.1, [])) (list-clear table known.spelled) (list-one table known.codes)
      (λ part may. steps-one step_kinds (part.0, part.1, []))

  pub list-text-one : (text : List ℕ) (a b : ListRead) → IsListText table people text a → IsListText table people text b → a ≡ b
  unfolding IsOne read_of
  list-text-one text a b is its =
      ap read_of (lines-one text (a.round, a.prog.0, a.programme.steps) (b.round, b.prog.0, b.programme.steps) (list-lines' table people text a known.rising is) (list-lines' table people text b known.rising its))
