-- The stages of a text: what completes it at each of them.
use Rattle.std.proofs.Common.{◌≡◌, ◌<◌, ◌≤◌, ◌+◌, ◌-◌, ◌⊎◌, inl, inr, ℕ, List, [], ◌∷◌, ◌++◌, length, drop, get_or, sym, ap, subst, ◌∙◌, arith, append_assoc, length-append, length-drop}
use Rattle.std.proofs.lemmas.List.{drop_more}
use Rattle.std.specs.List.{flat_map}
use Rattle.kept_rows.specs.declared.rows.AllotRow.{AllotRow}
use Rattle.office_base.specs.declared.person.Person.{Person}
use Rattle.seat_matrix.specs.Matrix.{SeatTable}
use Rattle.text_readers.specs.Reading.{Begins, IsRefused}
use Rattle.publish.specs.Pieces.{BeginsRow, BeginsRows}
use Rattle.publish.specs.Rows.{IsEnd, IsRest, IsRowsText, Read, ending, head_words, row_line, tail_text}
use Rattle.publish.specs.declared.sort.Sort.{Sort}

-- nothing is no line
no-line : (a x : List ℕ) → [] ≡ a ++ 10 ∷ x → ⊥
no-line [] x e = absurd (omega (arith, ap length e))
no-line (b ∷ a) x e = absurd (omega (arith, ap length e))

pub head-open : (sort : Sort) (table : SeatTable) (people : List Person) (known : ℕ) (read : Read) → IsRowsText sort table people known [] read → ⊥
head-open sort table people known read is = no-line (head_words sort read.0 (length read.1)) (tail_text sort table read.1) is.same

pub rows-open : (sort : Sort) (table : SeatTable) (people : List Person) (number left : ℕ) (rows : List AllotRow) (read : Read) → IsRest sort table people number left rows [] read → ⊥
rows-open sort table people number left rows read is =
    no-line (flat_map (row_line sort table) is.later ++ ending sort) [] (is.tail.same ∙ sym (append_assoc (flat_map (row_line sort table) is.later) (ending sort) (10 ∷ [])))

pub done-refused : (number : ℕ) (rows : List AllotRow) (line : List ℕ) → IsRefused (IsEnd number rows) line
done-refused number rows line rest read is = no-line line rest (sym is.empty)

pub done-begins : (number : ℕ) (rows : List AllotRow) (piece : List ℕ) → 0 < length piece → Begins (IsEnd number rows) piece → ⊥
done-begins number rows piece some (more, read, is) = absurd (omega (arith, some, ap length is.empty, length-append piece more))

-- one of the people with whom no row begins is passed over
pub rows-skip : (word : List ℕ) (table : SeatTable) (left : ℕ) (people : List Person) (piece : List ℕ) (at : ℕ) (d : Person) → at < length people
    → (left ≤ length people - at → BeginsRow word table (get_or people at d).id.0 piece → ⊥)
    → (BeginsRows word table left (drop at people) piece → BeginsRows word table left (drop (at + 1) people) piece) × (BeginsRows word table left (drop (at + 1) people) piece → BeginsRows word table left (drop at people) piece)
rows-skip word table left people piece at d within never =
    let e = drop_more people at d within in (
      λ begins. first (subst (λ z. BeginsRows word table left z piece) e begins),
      λ later. subst (λ z. BeginsRows word table left z piece) (sym e) (inr later),
    )
  where
    first : ((left ≤ length (drop (at + 1) people) + 1) × BeginsRow word table (get_or people at d).id.0 piece) ⊎ BeginsRows word table left (drop (at + 1) people) piece → BeginsRows word table left (drop (at + 1) people) piece
    first (inl (enough, row)) = absurd (never (omega (arith, enough, length-drop (at + 1) people, within)) row)
    first (inr later) = later
