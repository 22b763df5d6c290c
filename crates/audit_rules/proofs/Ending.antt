-- Whether rows are the final ones.
use Rattle.std.proofs.Common.{◌≡◌, ◌<◌, ◌≤◌, ◌+◌, ℕ, List, [], ◌∷◌, ◌++◌, Option, Some, None, length, take, drop, get_or, arith, refl, sym, ap, ◌∙◌, append-nil, append_assoc}
use Rattle.std.specs.Prelude.{slice_get}
use Rattle.std.proofs.lemmas.List.{take-append-drop, take_more, length-take-le}
use Rattle.std.proofs.lemmas.Option.{get_or_from_slice_get, slice_get_within}
use Rattle.office_base.specs.declared.seat.Seat.{Seat}
use Rattle.office_base.specs.declared.person.CandId.{CandId}
use Rattle.office_base.specs.declared.person.Person.{Person}
use Rattle.kept_rows.specs.declared.rows.AllotRow.{AllotRow}
use Rattle.office_moves.specs.Moves.{row_before, rows_along}

-- the row of a seat, where there is one
abbrev one_row : ℕ → CandId → Option Seat → List AllotRow
one_row number cand seat = row_before number cand seat []

row_first : (number : ℕ) (cand : CandId) (seat : Option Seat) (rows : List AllotRow) → row_before number cand seat rows ≡ one_row number cand seat ++ rows
row_first number cand None rows = refl
row_first number cand (Some seat) rows = refl

rows_append : (number : ℕ) (seat : ℕ → Option Seat) (people more : List Person) → rows_along number seat (people ++ more) ≡ rows_along number seat people ++ rows_along number seat more
rows_append number seat [] more = refl
rows_append number seat (p ∷ people) more =
    ap (row_before number p.id (seat p.id.0)) (rows_append number seat people more)
    ∙ (row_first number p.id (seat p.id.0) (rows_along number seat people ++ rows_along number seat more)
    ∙ (sym (append_assoc (one_row number p.id (seat p.id.0)) (rows_along number seat people) (rows_along number seat more))
    ∙ ap (λ (z : List AllotRow). z ++ rows_along number seat more) (sym (row_first number p.id (seat p.id.0) (rows_along number seat people)))))

-- the first rows, so many, are those of the first people
pub record Ends (number : ℕ) (seat : ℕ → Option Seat) (people : List Person) (rows : List AllotRow) (k next : ℕ) : Type 0 where
  pub same : take next rows ≡ rows_along number seat (take k people)
  pub within : next ≤ length rows

next_people : (number : ℕ) (seat : ℕ → Option Seat) (people : List Person) (k : ℕ) (d : Person) → k < length people
    → rows_along number seat (take (k + 1) people) ≡ rows_along number seat (take k people) ++ one_row number (get_or people k d).id (seat (get_or people k d).id.0)
next_people number seat people k d less = ap (rows_along number seat) (take_more people k d less) ∙ rows_append number seat (take k people) (get_or people k d ∷ [])

-- one without a seat
pub ends_without : (number : ℕ) (seat : ℕ → Option Seat) (people : List Person) (rows : List AllotRow) (k next : ℕ) (d : Person) → Ends number seat people rows k next → k < length people
    → seat (get_or people k d).id.0 ≡ None → Ends number seat people rows (k + 1) next
ends_without number seat people rows k next d h less none = record {
  same = h.same ∙ (sym (append-nil (rows_along number seat (take k people)))
      ∙ (ap (λ (o : Option Seat). rows_along number seat (take k people) ++ one_row number (get_or people k d).id o) (sym none) ∙ sym (next_people number seat people k d less)));
  within = h.within;
}

-- one with a seat, whose row is the next
pub ends_with : (number : ℕ) (seat : ℕ → Option Seat) (people : List Person) (rows : List AllotRow) (k next : ℕ) (d : Person) (held : Seat) → Ends number seat people rows k next → k < length people
    → seat (get_or people k d).id.0 ≡ Some held → slice_get rows next ≡ Some (record { round = number; cand = (get_or people k d).id; prog = held.prog; step = held.step }) → Ends number seat people rows (k + 1) (next + 1)
ends_with number seat people rows k next d held h less some on =
    let row : AllotRow = record { round = number; cand = (get_or people k d).id; prog = held.prog; step = held.step } in
    let inside = slice_get_within rows next row on in
    record {
      same = take_more rows next row inside ∙ (ap (λ (z : List AllotRow). z ++ get_or rows next row ∷ []) h.same
          ∙ (ap (λ (z : AllotRow). rows_along number seat (take k people) ++ z ∷ []) (get_or_from_slice_get rows next row row on)
          ∙ (ap (λ (o : Option Seat). rows_along number seat (take k people) ++ one_row number (get_or people k d).id o) (sym some) ∙ sym (next_people number seat people k d less))));
      within = omega (arith, inside);
    }

after_all : {X : Type 0} (xs : List X) (y : X) (ys : List X) → slice_get (xs ++ y ∷ ys) (length xs) ≡ Some y
after_all [] y ys = refl
after_all (x ∷ xs) y ys = after_all xs y ys

-- the row that has to be the next one
pub must_be : (number : ℕ) (seat : ℕ → Option Seat) (people : List Person) (rows : List AllotRow) (k next : ℕ) (d : Person) (held : Seat) → Ends number seat people rows k next → k < length people
    → seat (get_or people k d).id.0 ≡ Some held → rows ≡ rows_along number seat people
    → slice_get rows next ≡ Some (record { round = number; cand = (get_or people k d).id; prog = held.prog; step = held.step })
must_be number seat people rows k next d held h less some all =
    let front = rows_along number seat (take k people) in
    let back = rows_along number seat (drop (k + 1) people) in
    let row : AllotRow = record { round = number; cand = (get_or people k d).id; prog = held.prog; step = held.step } in
    let whole : rows_along number seat people ≡ (front ++ row ∷ []) ++ back =
    ap (rows_along number seat) (sym (take-append-drop (k + 1) people)) ∙ (rows_append number seat (take (k + 1) people) (drop (k + 1) people)
    ∙ ap (λ (z : List AllotRow). z ++ back) (next_people number seat people k d less ∙ ap (λ (o : Option Seat). front ++ one_row number (get_or people k d).id o) some)) in
    let size : length front ≡ next = ap length (sym h.same) ∙ length-take-le next rows h.within in
    ap (λ (z : List AllotRow). slice_get z next) (all ∙ (whole ∙ append_assoc front (row ∷ []) back)) ∙ (ap (slice_get (front ++ row ∷ back)) (sym size) ∙ after_all front row back)
