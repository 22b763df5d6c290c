-- The stages of a list: what a line leads to at each of them.
use Rattle.std.proofs.Common.{◌≡◌, ◌≢◌, ◌<◌, ◌≤◌, ◌-◌, ◌^◌, ℕ, suc, true, List, [], ◌∷◌, ◌++◌, Option, length, refl, sym, ap, ◌∙◌, arith, unwrap_or}
use Rattle.office_base.specs.declared.person.Person.{Person}
use Rattle.office_base.specs.declared.step.Pair.{Pair}
use Rattle.office_base.specs.declared.step.StepKind.{StepKind}
use Rattle.rank_lists.specs.Register.{find_person}
use Rattle.seat_matrix.specs.Matrix.{SeatTable}
use Rattle.text_readers.specs.Parts.{is_prefix}
use Rattle.text_readers.specs.Reading.{Begins, EndsWithLines, HasNo, IsRefused, Leads}
use Rattle.list_texts.specs.ListLines.{BeginsLine, CanStand, IsListEnd, IsListHead, IsStepHead, Said, after_rows, entry_words, honoured_text, honoured_words, last_words, lines_text, list_words, most_slots, rows_text, slots_in, step_list, step_words, steps_text, with_step}
use Rattle.list_texts.specs.ListReader.{AreKnown, free_in}
use Rattle.list_texts.specs.Listing.{Entry, pair_of, step_kinds}
use Rattle.list_texts.specs.declared.list_stage.OpenStep.{OpenStep}
use Rattle.list_texts.proofs.FollowLemmas.{no-slots, slots-few, some-end, some-rows, some-steps}
use Rattle.list_texts.proofs.FreeLemmas.{found-small, free-all, free-less}
use Rattle.list_texts.proofs.LineThen.{LineForm, form-ends, then-ends, then-some}
use Rattle.list_texts.proofs.WordLemmas.{honoured-clear, honoured-one, last-clear, list-clear, list-one, row-no-lf, row-one, step-head-clear, step-one}

-- a person and a slot side by side
abbrev row_of : Person → Option ℕ → Entry
row_of person slot = (person, slot)

-- what the line of a step said of it
abbrev pub open_step : StepKind → ℕ × ℕ × ℕ → OpenStep
open_step kind part = record { kind = kind; seats = part.0; candidates = part.1 }

-- ---- the end

-- nothing is no line
pub end-refused : (said : Said) (line : List ℕ) → IsRefused (IsListEnd said) line
end-refused said [] rest read is = absurd (omega (arith, ap length is.empty))
end-refused said (b ∷ line) rest read is = absurd (omega (arith, ap length is.empty))

pub end-begins : (said : Said) (piece : List ℕ) → 0 < length piece → Begins (IsListEnd said) piece → ⊥
end-begins said [] some begins = omega (arith, some)
end-begins said (b ∷ piece) some (more, read, is) = omega (arith, ap length is.empty)

pub end-ends : (said : Said) (piece : List ℕ) → 0 < length piece → EndsWithLines (IsListEnd said) piece
end-ends said piece some read is = omega (arith, some, ap length is.empty)

module _ (table : SeatTable) (people : List Person) (known : AreKnown table people) where
  -- the first line
  pub head-form : LineForm (list_words table) (IsListHead table) (λ part. steps_text people step_kinds (part.0, part.1, []))
  head-form = record { clear = list-clear table known.spelled; one = list-one table known.codes; some = λ p may. some-steps people step_kinds (p.0, p.1, []) }

  -- ---- a row

  module _ (left slots : ℕ) (admitted : List Person) where
    pub entry-clear : (entry : Entry) → CanStand people admitted left slots entry → HasNo 10 (entry_words entry)
    entry-clear entry may = row-no-lf entry.0.id.0 (found-small people entry.0 known.small may.is.known) entry.1 may.is.slot

    pub entry-one : (p q : Entry) → CanStand people admitted left slots p → CanStand people admitted left slots q → entry_words p ≡ entry_words q → p ≡ q
    entry-one p q may can e =
        let (id, slot) = row-one p.0.id.0 q.0.id.0 (found-small people p.0 known.small may.is.known) (found-small people q.0 known.small can.is.known) p.1 q.1 may.is.slot can.is.slot e in
        let person : p.0 ≡ q.0 = ap (λ o. unwrap_or o p.0) (sym may.is.known ∙ ap (λ z. find_person z people) id ∙ can.is.known) in
        ap (λ z. row_of z p.1) person ∙ ap (λ z. row_of q.0 z) slot

  module _ (said : Said) where
    -- the last line
    pub last-form : LineForm last_words (λ _. Unit {0}) (λ _. IsListEnd said)
    last-form = record { clear = λ p may. last-clear p; one = λ p q may can e. refl; some = λ p may. some-end said }

    -- a step
    pub step-form : (kind : StepKind) (kinds : List StepKind)
        → LineForm (step_words kind) (IsStepHead (length people)) (λ part. honoured_text people (after_rows people kinds said (open_step kind part)) kind part.2)
    step-form kind kinds = record {
      clear = step-head-clear kind (length people) (omega (arith, known.few));
      one = step-one kind (length people) (omega (arith, known.few));
      some = λ part may.
          then-some honoured_words (λ slots. slots ≤ most_slots kind part.2) (λ slots. rows_text people (after_rows people kinds said (open_step kind part)) part.2 slots [] []) 0 (no-slots kind part.2)
          (some-rows people known.rising (after_rows people kinds said (open_step kind part)) (λ admitted pairs. some-steps people kinds (with_step said (step_list kind part.0 part.1 admitted pairs))) part.2 0 [] []
          (omega arith) (omega (arith, may.2, free-all people)));
    }

    pub steps-ends : (kinds : List StepKind) (piece : List ℕ) → HasNo 10 piece → EndsWithLines (steps_text people kinds said) piece
    steps-ends [] piece none = form-ends last-form piece none
    steps-ends (kind ∷ kinds) piece none = form-ends (step-form kind kinds) piece none

    -- ---- slots and rows

    module _ (kinds : List StepKind) (step : OpenStep) where
      pub rows-complete : (rows slots : ℕ) (admitted : List Person) (pairs : List Pair) → slots ≤ rows → rows ≤ free_in people admitted
          → Begins (rows_text people (after_rows people kinds said step) rows slots admitted pairs) []
      rows-complete rows slots admitted pairs enough few =
          some-rows people known.rising (after_rows people kinds said step) (λ all marks. some-steps people kinds (with_step said (step_list step.kind step.seats step.candidates all marks)))
          rows slots admitted pairs enough few

      most-small : (rows : ℕ) → rows ≤ length people → most_slots step.kind rows < 2 ^ 32
      most-small rows few = omega (arith, slots-few step.kind rows (most_slots step.kind rows) (omega arith), few, known.few)

      pub honoured-form : (rows : ℕ) → rows ≤ length people
          → LineForm honoured_words (λ slots. slots ≤ most_slots step.kind rows) (λ slots. rows_text people (after_rows people kinds said step) rows slots [] [])
      honoured-form rows few = record {
        clear = honoured-clear (most_slots step.kind rows) (most-small rows few);
        one = honoured-one (most_slots step.kind rows) (most-small rows few);
        some = λ slots may. rows-complete rows slots [] [] (slots-few step.kind rows slots may) (omega (arith, few, free-all people));
      }

      pub honoured-ends : (rows : ℕ) (piece : List ℕ) → HasNo 10 piece → EndsWithLines (honoured_text people (after_rows people kinds said step) step.kind rows) piece
      honoured-ends rows piece none =
          then-ends honoured_words (λ slots. slots ≤ most_slots step.kind rows) (λ slots. rows_text people (after_rows people kinds said step) rows slots [] []) piece none

      pub entry-form : (left slots : ℕ) (admitted : List Person) (pairs : List Pair) → suc left ≤ free_in people admitted
          → LineForm entry_words (CanStand people admitted left slots)
          (λ entry. rows_text people (after_rows people kinds said step) left (slots - slots_in entry.1) (admitted ++ entry.0 ∷ []) (pairs ++ pair_of entry.0 entry.1))
      entry-form left slots admitted pairs few = record {
        clear = entry-clear left slots admitted;
        one = entry-one left slots admitted;
        some = λ entry may.
            rows-complete left (slots - slots_in entry.1) (admitted ++ entry.0 ∷ []) (pairs ++ pair_of entry.0 entry.1) may.enough
            (omega (arith, few, free-less people admitted entry.0 known.rising may.is.known may.is.new));
      }
