-- One line more of a round.
use Rattle.std.proofs.Common.{◌≡◌, ◌<◌, ◌+◌, ◌++◌, ℕ, List, ◌∷◌, Option, length, drop, get_or, append_assoc, sym, ap, ◌∙◌, subst}
use Rattle.std.proofs.lemmas.List.{drop_more}
use Rattle.office_base.specs.declared.seat.Seat.{Seat}
use Rattle.office_base.specs.declared.person.Person.{Person}
use Rattle.seat_matrix.specs.Matrix.{SeatTable}
use Rattle.published_texts.specs.Texts.{AreSeatsOf, allot_line, allot_lines}

-- the lines of the people and seats from a place on are the line at the place and those after it
pub allots_at : (table : SeatTable) (people : List Person) (seats : List (Option Seat)) (at : ℕ) (person : Person) (seat : Option Seat)
    → at < length people → at < length seats
    → allot_lines table (drop at people) (drop at seats) ≡ allot_line table (get_or people at person).id.0 (get_or seats at seat) ++ allot_lines table (drop (at + 1) people) (drop (at + 1) seats)
allots_at table people seats at person seat first second =
    ap (λ xs. allot_lines table xs (drop at seats)) (drop_more people at person first) ∙ ap (λ ys. allot_lines table (get_or people at person ∷ drop (at + 1) people) ys) (drop_more seats at seat second)

pub seats_after : (table : SeatTable) (seats : List (Option Seat)) (at : ℕ) (seat : Option Seat) → at < length seats → AreSeatsOf table (drop at seats) → AreSeatsOf table (drop (at + 1) seats)
seats_after table seats at seat within all = (subst (AreSeatsOf table) (drop_more seats at seat within) all).1

-- so one line more leaves what is to be written as it was
pub allots_more : (table : SeatTable) (people : List Person) (seats : List (Option Seat)) (at : ℕ) (person : Person) (seat : Option Seat)
    → at < length people → at < length seats → (before after out : List ℕ)
    → before ++ allot_lines table (drop at people) (drop at seats) ≡ out → after ≡ before ++ allot_line table (get_or people at person).id.0 (get_or seats at seat)
    → after ++ allot_lines table (drop (at + 1) people) (drop (at + 1) seats) ≡ out
allots_more table people seats at person seat first second before after out so_far more =
    let line = allot_line table (get_or people at person).id.0 (get_or seats at seat) in
    let rest = allot_lines table (drop (at + 1) people) (drop (at + 1) seats) in
    ap (λ z. z ++ rest) more ∙ append_assoc before line rest ∙ ap (λ z. before ++ z) (sym (allots_at table people seats at person seat first second)) ∙ so_far
