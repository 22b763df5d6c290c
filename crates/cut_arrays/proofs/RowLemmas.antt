-- The rows of seats from a place on.
use Rattle.std.proofs.Common.{◌≡◌, ◌<◌, ◌≤◌, ◌+◌, ℕ, zero, suc, add-one, List, [], ◌∷◌, ◌++◌, Option, Some, None, length, take, drop, get_or, arith, refl, sym, ap, ◌∙◌, subst, append_assoc}
use Rattle.std.specs.Prelude.{slice_get, option_map}
use Rattle.std.proofs.lemmas.List.{length-map}
use Rattle.std.proofs.lemmas.Option.{same_Some, slice_get-get_or, slice_get-map}
use Rattle.office_base.specs.declared.choice.Choice.{Choice}
use Rattle.office_base.specs.declared.seat.Seat.{Seat}
use Rattle.office_base.specs.declared.person.CandId.{CandId}
use Rattle.office_base.specs.declared.person.Person.{Person}
use Rattle.office_base.specs.declared.person.ProgId.{ProgId}
use Rattle.kept_rows.specs.declared.rows.AllotRow.{AllotRow}
use Rattle.office_moves.specs.Moves.{row_before}
use Rattle.round_options.specs.declared.standing.Standing.{Standing}
use Rattle.cut_arrays.specs.Rows.{kept_seat, kept_seats, programmes_of, rows_of_seats}
use Rattle.cut_arrays.specs.WindowEnd.{standings, stands}
use Rattle.cut_arrays.proofs.PlaceLemmas.{standings_length, stood_at, take_next, take_whole}

row_first : (number : ℕ) (cand : CandId) (seat : Option Seat) (rows : List AllotRow) → row_before number cand seat rows ≡ row_before number cand seat [] ++ rows
row_first number cand None rows = refl
row_first number cand (Some seat) rows = refl

next_suc : (number : ℕ) (people : List Person) (seats : List (Option Seat)) (at : ℕ) (person : Person) (seat : Option Seat) → slice_get people at ≡ Some person → slice_get seats at ≡ Some seat
    → rows_of_seats number (drop at people) (drop at seats) ≡ row_before number person.id seat (rows_of_seats number (drop (suc at) people) (drop (suc at) seats))
next_suc number [] seats at person seat a b = absurd (cc)
next_suc number (x ∷ people) [] at person seat a b = absurd (cc)
next_suc number (x ∷ people) (y ∷ seats) zero person seat a b =
    ap (λ (z : Person). row_before number z.id y (rows_of_seats number people seats)) (same_Some x person a) ∙ ap (λ (z : Option Seat). row_before number person.id z (rows_of_seats number people seats)) (same_Some y seat b)
next_suc number (x ∷ people) (y ∷ seats) (suc at) person seat a b = next_suc number people seats at person seat a b

-- with the row of the one at a place, where there is one, the rows from the next place on are left
pub rows_next : (number : ℕ) (people : List Person) (seats : List (Option Seat)) (at : ℕ) (person : Person) (seat : Option Seat) (done new whole : List AllotRow)
    → slice_get people at ≡ Some person → slice_get seats at ≡ Some seat → new ≡ done ++ row_before number person.id seat []
    → done ++ rows_of_seats number (drop at people) (drop at seats) ≡ whole → new ++ rows_of_seats number (drop (at + 1) people) (drop (at + 1) seats) ≡ whole
rows_next number people seats at person seat done new whole a b made all =
    let rest = rows_of_seats number (drop (at + 1) people) (drop (at + 1) seats) in
    let here : rows_of_seats number (drop at people) (drop at seats) ≡ row_before number person.id seat rest =
    subst (λ (k : ℕ). rows_of_seats number (drop at people) (drop at seats) ≡ row_before number person.id seat (rows_of_seats number (drop k people) (drop k seats))) (sym (add-one at)) (next_suc number people seats at person seat a b) in
    ap (λ (z : List AllotRow). z ++ rest) made ∙ (append_assoc done (row_before number person.id seat []) rest
    ∙ (ap (λ (z : List AllotRow). done ++ z) (sym (here ∙ row_first number person.id seat rest)) ∙ all))

pub kept_at : (all : List Standing) (seats : List (Option Seat)) (at : ℕ) (s : Standing) (seat : Option Seat) → slice_get all at ≡ Some s → slice_get seats at ≡ Some seat
    → slice_get (kept_seats all seats) at ≡ Some (kept_seat s seat)
kept_at [] seats at s seat a b = absurd (cc)
kept_at (x ∷ all) [] at s seat a b = absurd (cc)
kept_at (x ∷ all) (y ∷ seats) zero s seat a b = ap Some (ap (λ (w : Standing). kept_seat w y) (same_Some x s a) ∙ ap (λ (w : Option Seat). kept_seat s w) (same_Some y seat b))
kept_at (x ∷ all) (y ∷ seats) (suc at) s seat a b = kept_at all seats at s seat a b

-- the rows with one more
pub rows_more : (number : ℕ) (people : List Person) (seats : List (Option Seat)) (at : ℕ) (d : Person) (seat : Option Seat) (done new whole : List AllotRow)
    → at < length people → slice_get seats at ≡ Some seat → new ≡ done ++ row_before number (get_or people at d).id seat []
    → done ++ rows_of_seats number (drop at people) (drop at seats) ≡ whole → new ++ rows_of_seats number (drop (at + 1) people) (drop (at + 1) seats) ≡ whole
rows_more number people seats at d seat done new whole less given made all =
    rows_next number people seats at (get_or people at d) seat done new whole (slice_get-get_or people at d less) given made all

-- the seat kept at a place
pub kept_there : (left : List Standing) (table : List (List Choice)) (seats : List (Option Seat)) (at count : ℕ) (e s : Standing) (seat kept : Option Seat) → at < count → length left ≡ count
    → option_map (stands (get_or left at e)) (slice_get table at) ≡ Some s → slice_get seats at ≡ Some seat → kept ≡ kept_seat s seat → slice_get (kept_seats (standings left table) seats) at ≡ Some kept
kept_there left table seats at count e s seat kept less full stood given same =
    kept_at (standings left table) seats at s seat (stood_at left table at (get_or left at e) s (slice_get-get_or left at e (omega (arith, less, full))) stood) given ∙ ap Some (sym same)

-- ---- the programmes of kept seats

kept_length : (all : List Standing) (seats : List (Option Seat)) → length seats ≡ length all → length (kept_seats all seats) ≡ length all
kept_length [] seats e = refl
kept_length (x ∷ all) [] e = absurd (omega arith)
kept_length (x ∷ all) (y ∷ seats) e = ap suc (kept_length all seats (omega arith))

-- with the one at a place more
pub programmes_more : (left : List Standing) (table : List (List Choice)) (seats : List (Option Seat)) (at : ℕ) (e s : Standing) (seat kept : Option Seat) (programme : Option ProgId)
    (done new : List (Option ProgId)) → at < length left → option_map (stands (get_or left at e)) (slice_get table at) ≡ Some s → slice_get seats at ≡ Some seat → kept ≡ kept_seat s seat
    → programme ≡ option_map (λ (held : Seat). held.prog) kept → done ≡ take at (programmes_of (kept_seats (standings left table) seats)) → new ≡ done ++ programme ∷ []
    → new ≡ take (at + 1) (programmes_of (kept_seats (standings left table) seats))
programmes_more left table seats at e s seat kept programme done new less stood given is prog so made =
    let all = kept_seats (standings left table) seats in
    let there = kept_there left table seats at (length left) e s seat kept less refl stood given is in
    let here : slice_get (programmes_of all) at ≡ Some programme = slice_get-map (λ (o : Option Seat). option_map (λ (held : Seat). held.prog) o) all at
    ∙ (ap (λ (o : Option (Option Seat)). option_map (λ (z : Option Seat). option_map (λ (held : Seat). held.prog) z) o) there ∙ ap Some (sym prog)) in
    take_next (programmes_of all) done new at programme so here made

pub programmes_whole : (left : List Standing) (table : List (List Choice)) (seats : List (Option Seat)) (at : ℕ) (done : List (Option ProgId)) → length left ≤ at → length table ≡ length left
    → length seats ≡ length left → done ≡ take at (programmes_of (kept_seats (standings left table) seats)) → done ≡ programmes_of (kept_seats (standings left table) seats)
programmes_whole left table seats at done end turns given so =
    let all = kept_seats (standings left table) seats in
    let size = standings_length left table turns in
    let full = kept_length (standings left table) seats (given ∙ sym size) in
    let long = length-map all (λ (o : Option Seat). option_map (λ (held : Seat). held.prog) o) in
    take_whole (programmes_of all) done at so (omega (arith, size, full, long, end))
