-- How the list of one step is written.
use Rattle.std.specs.Prelude.{ℕ, List, [], ◌∷◌, ◌++◌, length, Option, Some, None, codes}
use Rattle.std.specs.Fmt.{decimal}
use Rattle.std.specs.List.{flat_map}
use Rattle.office_base.specs.Certificate.{slot_of}
use Rattle.office_base.specs.declared.person.Person.{Person}
use Rattle.office_base.specs.declared.step.Pair.{Pair}
pub use Rattle.office_text.specs.Names.{seat_kind_name, step_name}
use Rattle.office_text.specs.Traits.{letter}

-- the letter of a slot's trait, or a dash where there is none
abbrev pub slot_letter : Option ℕ → ℕ
slot_letter None = 45
slot_letter (Some t) = letter t

-- the line of an admitted person: the number and the slot
abbrev pub admitted_line : List Pair → Person → List ℕ
admitted_line pairs person = decimal person.id.0 ++ 32 ∷ slot_letter (slot_of pairs person.id) ∷ 10 ∷ []

-- the numbers of a step, after its name
abbrev pub count_lines : ℕ → ℕ → ℕ → ℕ → List ℕ
count_lines seats candidates admitted honoured =
    codes " seats " ++ decimal seats ++ codes " candidates " ++ decimal candidates ++ codes " admitted " ++ decimal admitted ++ codes "\nhonoured " ++ decimal honoured ++ codes "\n"

-- the numbers of a step, and a line for each person admitted
abbrev pub step_lines : ℕ → ℕ → List Person → List Pair → List ℕ
step_lines seats candidates admitted pairs = count_lines seats candidates (length admitted) (length pairs) ++ flat_map (admitted_line pairs) admitted
