-- What completes a list: it is there exactly where the numbers allow it.
use Rattle.std.proofs.Common.{◌<◌, ◌≤◌, ◌-◌, ℕ, zero, suc, List, [], ◌∷◌, ◌++◌, Option, Some, None, IfSome, length, refl, inl, inr, arith}
use Rattle.std.proofs.lemmas.Bool.{cases_lt}
use Rattle.office_base.specs.declared.person.Person.{Person}
use Rattle.office_base.specs.declared.step.Pair.{Pair}
use Rattle.office_base.specs.declared.step.StepKind.{StepKind}
use Rattle.office_base.specs.declared.step.StepKind.TheVariants.{Dereserved}
use Rattle.programme_lists.specs.declared.programme.StepList.{StepList}
use Rattle.seat_matrix.specs.Matrix.{SeatTable}
use Rattle.text_readers.specs.Reading.{Begins, Grammar}
use Rattle.list_texts.specs.ListLines.{CanStand, IsListEnd, IsListHead, IsStepHead, Said, entry_words, honoured_text, honoured_words, last_words, lines_text, list_words, most_slots, rows_text, slots_in, step_list, step_words, steps_text, with_step}
use Rattle.list_texts.specs.ListReader.{AreRising, free_in}
use Rattle.list_texts.specs.Listing.{pair_of, step_kinds}
use Rattle.list_texts.proofs.FreeLemmas.{free-less, free-some}
use Rattle.list_texts.proofs.LineThen.{then-some}

-- ---- steps

pub no-slots : (kind : StepKind) (rows : ℕ) → 0 ≤ most_slots kind rows
no-slots kind rows = omega arith

pub some-end : (said : Said) → Begins (IsListEnd said) []
some-end said = ([], said, record { all = refl; empty = refl })

pub some-steps : (people : List Person) (kinds : List StepKind) (said : Said) → Begins (steps_text people kinds said) []
some-steps people [] said = then-some last_words (λ _. Unit {0}) (λ _. IsListEnd said) tt tt (some-end said)
some-steps people (kind ∷ kinds) said =
    let after : StepList → Grammar Said = λ list. steps_text people kinds (with_step said list) in
    let rows : List Person → List Pair → Grammar Said = λ admitted pairs. after (step_list kind 0 0 admitted pairs) in
    then-some (step_words kind) (IsStepHead (length people)) (λ part. honoured_text people (λ admitted pairs. after (step_list kind part.0 part.1 admitted pairs)) kind part.2) (0, 0, 0)
    (omega arith, omega arith, omega arith)
    (then-some honoured_words (λ slots. slots ≤ most_slots kind 0) (λ slots. rows_text people rows 0 slots [] []) 0 (no-slots kind 0)
    (some-steps people kinds (with_step said (step_list kind 0 0 [] []))))

pub some-text : (table : SeatTable) (people : List Person) → 0 < length table.programmes → Begins (lines_text table people) []
some-text table people some =
    then-some (list_words table) (IsListHead table) (λ part. steps_text people step_kinds (part.0, part.1, [])) (0, 0) (omega arith, some) (some-steps people step_kinds (0, 0, []))

-- ---- rows

-- a slot that can be the first among that many rows
some-slot : (left slots : ℕ) → slots ≤ suc left → (slot : Option ℕ) × (IfSome slot (λ t. t < 6)) × (slots_in slot ≤ slots) × (slots - slots_in slot ≤ left)
some-slot left slots enough = elim (cases_lt left slots) [
  | inl more ↦ (Some 0, omega arith, omega (arith, more), omega (arith, enough))
  | inr fewer ↦ (None, tt, omega arith, omega (arith, fewer))
]

module _ (people : List Person) (rising : AreRising people) (after : List Person → List Pair → Grammar Said) (all : (admitted : List Person) (pairs : List Pair) → Begins (after admitted pairs) []) where
  pub some-rows : (rows slots : ℕ) (admitted : List Person) (pairs : List Pair) → slots ≤ rows → rows ≤ free_in people admitted → Begins (rows_text people after rows slots admitted pairs) []
  some-rows zero slots admitted pairs enough few = all admitted pairs
  some-rows (suc left) slots admitted pairs enough few =
      let (person, found, new) = free-some people admitted rising (omega (arith, few)) in
      let (slot, known, some, fits) = some-slot left slots enough in
      let less = free-less people admitted person rising found new in
      then-some entry_words (CanStand people admitted left slots) (λ entry. rows_text people after left (slots - slots_in entry.1) (admitted ++ entry.0 ∷ []) (pairs ++ pair_of entry.0 entry.1)) (person, slot)
      (record { is = record { known = found; new = new; slot = known }; some = some; enough = fits })
      (some-rows left (slots - slots_in slot) (admitted ++ person ∷ []) (pairs ++ pair_of person slot) fits (omega (arith, few, less)))

-- slots are no more than rows
pub slots-few : (kind : StepKind) (rows slots : ℕ) → slots ≤ most_slots kind rows → slots ≤ rows
slots-few Dereserved rows slots few = omega (arith, few)
slots-few kind rows slots few = few
