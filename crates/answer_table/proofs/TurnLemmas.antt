-- A slot with one choice more.
use Rattle.std.proofs.Common.{◌≡◌, ◌<◌, ◌+◌, ◌/◌, ◌%◌, ℕ, zero, suc, add-one, List, [], ◌∷◌, ◌++◌, Some, length, take, map, get_or, slice_set, arith, refl, ap, subst, ◌∙◌}
use Rattle.std.specs.Prelude.{slice_get, All, option_map, flat_map}
use Rattle.std.proofs.lemmas.Option.{slice_get_read, slice_get-map}
use Rattle.std.proofs.lemmas.List.{length-take-le, length-set, map-set}
use Rattle.std.proofs.lemmas.List.Elements.{All-set}
use Rattle.answer_table.specs.Turns.{choices_of, four_of, IsTurns, no_turns}
use Rattle.answer_table.proofs.Digits.{put_four, length_four}
use Rattle.office_base.specs.declared.choice.Choice.{Choice}
use Rattle.answer_table.specs.declared.turns.Turns.{Turns}

-- as many choices as turns
pub length_choices : (turns : Turns) → IsTurns turns → length (choices_of turns) ≡ turns.count
length_choices turns kept = length-take-le turns.count (flat_map four_of turns.packed) (omega (arith, kept.few, kept.room, length_four turns.packed))

-- the choices at a place of the table are those of its slot
pub slot_choices : (slots : List Turns) (at : ℕ) (slot : Turns) (value : List (List Choice)) → map choices_of slots ≡ value → at < length slots → slot ≡ get_or slots at slot → slice_get value at ≡ Some (choices_of slot)
slot_choices slots at slot value seen within read = rw (← seen) (slice_get-map choices_of slots at ∙ ap (option_map choices_of) (slice_get_read slots (length slots) at slot refl within read))

-- a slot of the table has a place for each turn
pub slot_kept : (slots : List Turns) (at : ℕ) (slot : Turns) → at < length slots → slot ≡ get_or slots at slot → All IsTurns slots → IsTurns slot
slot_kept slots at slot within read all = rw read (all at slot within)

-- how many turns were taken at a place of the table
pub taken_at : (slots : List Turns) (at : ℕ) (slot : Turns) (value : List (List Choice)) → map choices_of slots ≡ value → at < length slots → slot ≡ get_or slots at slot → All IsTurns slots
    → option_map (length {A = Choice}) (slice_get value at) ≡ Some slot.count
taken_at slots at slot value seen within read all =
    rw (slot_choices slots at slot value seen within read) (ap Some (length_choices slot (slot_kept slots at slot within read all)))

-- one choice more
pub put_choice : (turns : Turns) (byte : ℕ) (choice : Choice) → IsTurns turns → turns.count < 17 → take (turns.count % 4 + 1) (four_of byte) ≡ take (turns.count % 4) (four_of (get_or turns.packed (turns.count / 4) 0)) ++ choice ∷ []
    → choices_of (record { count = turns.count + 1; packed = slice_set turns.packed (turns.count / 4) byte }) ≡ choices_of turns ++ choice ∷ []
put_choice turns byte choice kept few same = put_four turns.packed turns.count byte choice (omega (arith, kept.room)) same

pub put_view : (slots : List Turns) (at n byte : ℕ) (slot : Turns) (value : List (List Choice)) (old : List Choice) (choice : Choice) → map choices_of slots ≡ value → at < length slots → slot ≡ get_or slots at slot
    → slice_get value at ≡ Some old → n ≡ slot.count → All IsTurns slots → length old < 17 → take (n % 4 + 1) (four_of byte) ≡ take (n % 4) (four_of (get_or slot.packed (n / 4) 0)) ++ choice ∷ []
    → map choices_of (slice_set slots at (record { count = slot.count + 1; packed = slice_set slot.packed (n / 4) byte })) ≡ slice_set value at (old ++ choice ∷ [])
put_view slots at n byte slot value old choice seen within read at_place count all few same =
    let there = slot_choices slots at slot value seen within read in
    let kept = slot_kept slots at slot within read all in
    let is_old : old ≡ choices_of slot = cc in
    let long : length old ≡ slot.count = rw is_old (length_choices slot kept) in
    let grown : choices_of (record { count = slot.count + 1; packed = slice_set slot.packed (n / 4) byte }) ≡ old ++ choice ∷ [] =
    rw (is_old, count) (put_choice slot byte choice kept (omega arith) (rw count at same)) in
    map-set choices_of slots at _ ∙ rw (seen, grown) refl

-- a place for each turn stays where one choice more is put
pub put_kept : (slots : List Turns) (at n byte : ℕ) (slot : Turns) (value : List (List Choice)) (old : List Choice) → map choices_of slots ≡ value → at < length slots → slot ≡ get_or slots at slot
    → slice_get value at ≡ Some old → All IsTurns slots → length old < 17 → All IsTurns (slice_set slots at (record { count = slot.count + 1; packed = slice_set slot.packed n byte }))
put_kept slots at n byte slot value old seen within read at_place all few =
    let there = slot_choices slots at slot value seen within read in
    let kept = slot_kept slots at slot within read all in
    let is_old : old ≡ choices_of slot = cc in
    let long : length old ≡ slot.count = rw is_old (length_choices slot kept) in
    All-set IsTurns slots at _ (record { few = omega arith; room = omega (arith, kept.room, length-set slot.packed n byte) }) all

pub no_turns_more : (n : ℕ) → no_turns (n + 1) ≡ no_turns n ++ [] ∷ []
no_turns_more zero = refl
no_turns_more (suc n) =
    let P : ℕ → Type 0 = λ m. no_turns m ≡ no_turns n ++ [] ∷ [] in
    let before : no_turns (suc n) ≡ no_turns n ++ [] ∷ [] = subst P (add-one n) (no_turns_more n) in
    rw add-one (ap (λ rest. [] ∷ rest) before)
