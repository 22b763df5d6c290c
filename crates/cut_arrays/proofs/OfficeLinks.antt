-- The lists along the people are what the office's definitions say of each of them.
use Rattle.std.proofs.Common.{◌≡◌, ◌<◌, ◌≤◌, ◌+◌, ℕ, zero, suc, add-one, List, [], ◌∷◌, ◌++◌, Option, Some, None, length, map, arith, refl, sym, ap, ◌∙◌, get_or, inl, inr}
use Rattle.std.specs.Prelude.{slice_get, option_map, replicate}
use Rattle.std.specs.Option.{option_and_then}
use Rattle.std.proofs.lemmas.Bool.{cases_lt}
use Rattle.std.proofs.lemmas.List.{length-map}
use Rattle.std.proofs.lemmas.Option.{same_Some, slice_get-get_or, slice_get-map, slice_get_past}
use Rattle.office_base.proofs.Lists.{get-after, get-before}
use Rattle.office_base.proofs.People.{at_person-get}
use Rattle.office_base.specs.Lists.{Pairwise}
use Rattle.office_base.specs.Person.{at_person}
use Rattle.office_base.specs.declared.choice.Choice.{Choice}
use Rattle.office_base.specs.declared.seat.Seat.{Seat}
use Rattle.office_base.specs.declared.person.Person.{Person}
use Rattle.kept_rows.specs.declared.rows.AllotRow.{AllotRow}
use Rattle.kept_rows.specs.declared.rows.AnswerRow.{AnswerRow}
use Rattle.choice_lists.specs.Choices.{Lists, list_of}
use Rattle.rounds.specs.declared.round.Round.{Round}
use Rattle.round_options.specs.Options.{after_cut, standing_of}
use Rattle.round_options.specs.declared.standing.Standing.{Standing}
use Rattle.office_moves.specs.Facts.{SeasonFacts}
use Rattle.office_moves.specs.State.{State, View, answered, in_window, left_by, round_at, rows_of, seat_of, standing_at, view_of, with_finals, with_round}
use Rattle.office_moves.specs.Moves.{allot_rows, final_rows, final_seat, kept_programmes, next_seeks, row_before, rows_along}
use Rattle.cut_arrays.specs.StateLists.{choices_along, left_along, standings_along}
use Rattle.cut_arrays.specs.Rows.{kept_seat, kept_seats, programmes_of, rows_of_seats}
use Rattle.cut_arrays.specs.NextSeeks.{seek_for, seeks_after}
use Rattle.cut_arrays.specs.WindowEnd.{after_cuts, seats_given, seats_of, standings, stands}

-- the ids of the people rise
abbrev pub AreRising : List Person → Type 0
AreRising people = Pairwise (λ a b. a.id.0 < b.id.0) people

-- ---- lists made along the people

stands_answered : (left : Standing) (rows : List AnswerRow) → stands left (map (λ (row : AnswerRow). row.choice) rows) ≡ answered left rows
stands_answered left [] = refl
stands_answered left (row ∷ rows) = stands_answered (standing_of row.choice) rows

standings_made : (left : Person → Standing) (rows : Person → List AnswerRow) (people : List Person)
    → standings (map left people) (map (λ (p : Person). map (λ (row : AnswerRow). row.choice) (rows p)) people) ≡ map (λ (p : Person). answered (left p) (rows p)) people
standings_made left rows [] = refl
standings_made left rows (p ∷ people) =
    ap (λ (z : List Standing). stands (left p) (map (λ (row : AnswerRow). row.choice) (rows p)) ∷ z) (standings_made left rows people)
    ∙ ap (λ (z : Standing). z ∷ map (λ (p : Person). answered (left p) (rows p)) people) (stands_answered (left p) (rows p))

after_made : (standing : Person → Standing) (seat : Person → Option Seat) (people : List Person)
    → after_cuts (map standing people) (map seat people) ≡ map (λ (p : Person). after_cut (standing p) (seat p)) people
after_made standing seat [] = refl
after_made standing seat (p ∷ people) = ap (λ (z : List Standing). after_cut (standing p) (seat p) ∷ z) (after_made standing seat people)

seeks_made : (lists : Lists) (standing : Person → Standing) (seat : Person → Option Seat) (people : List Person)
    → seeks_after lists people (map standing people) (map seat people) ≡ map (λ (p : Person). seek_for (list_of lists p.id.0) (standing p) (seat p)) people
seeks_made lists standing seat [] = refl
seeks_made lists standing seat (p ∷ people) = ap (λ z. seek_for (list_of lists p.id.0) (standing p) (seat p) ∷ z) (seeks_made lists standing seat people)

kept_made : (standing : Person → Standing) (seat : Person → Option Seat) (people : List Person)
    → kept_seats (map standing people) (map seat people) ≡ map (λ (p : Person). kept_seat (standing p) (seat p)) people
kept_made standing seat [] = refl
kept_made standing seat (p ∷ people) = ap (λ (z : List (Option Seat)). kept_seat (standing p) (seat p) ∷ z) (kept_made standing seat people)

rows_made : (number : ℕ) (seat : ℕ → Option Seat) (people : List Person) → rows_of_seats number people (map (λ (p : Person). seat p.id.0) people) ≡ rows_along number seat people
rows_made number seat [] = refl
rows_made number seat (p ∷ people) = ap (λ (z : List AllotRow). row_before number p.id (seat p.id.0) z) (rows_made number seat people)

-- two functions that agree give one list
pub same_map : {X : Type 0} (f g : Person → X) (people : List Person) → ((p : Person) → f p ≡ g p) → map f people ≡ map g people
same_map f g [] h = refl
same_map {X} f g (p ∷ people) h = ap (λ (z : X). z ∷ map f people) (h p) ∙ ap (λ (z : List X). g p ∷ z) (same_map f g people h)

-- ---- seats along the people

same_by_place : {X : Type 0} (xs ys : List X) → ((i : ℕ) → slice_get xs i ≡ slice_get ys i) → xs ≡ ys
same_by_place [] [] h = refl
same_by_place [] (y ∷ ys) h = absurd (let e = h 0 in cc)
same_by_place (x ∷ xs) [] h = absurd (let e = h 0 in cc)
same_by_place {X} (x ∷ xs) (y ∷ ys) h = ap (λ (z : X). z ∷ xs) (same_Some x y (h 0)) ∙ ap (λ (z : List X). y ∷ z) (same_by_place xs ys (λ i. h (suc i)))

abbrev own_seat : List Person → List (Option Seat) → Person → Option Seat
own_seat people seats p = option_and_then (λ seat. seat) (at_person p.id.0 people seats)

seat_there : (people : List Person) (seats : List (Option Seat)) (i : ℕ) (p : Person) (seat : Option Seat) → AreRising people → slice_get people i ≡ Some p → slice_get seats i ≡ Some seat → own_seat people seats p ≡ seat
seat_there people seats i p seat rising a b = ap (λ (o : Option (Option Seat)). option_and_then (λ s. s) o) (at_person-get people seats i p rising a ∙ b)

none_past : {X Y : Type 0} (f : Y → X) (xs : List X) (ys : List Y) (i : ℕ) → length xs ≡ length ys → length ys ≤ i → slice_get xs i ≡ slice_get (map f ys) i
none_past f xs ys i full end = slice_get_past xs i (omega (arith, full, end)) ∙ sym (slice_get_past (map f ys) i (let e = length-map ys f in omega (arith, e, end)))

pub seats_along : (people : List Person) (seats : List (Option Seat)) → AreRising people → length seats ≡ length people → seats ≡ map (own_seat people seats) people
seats_along people seats rising full = same_by_place seats (map (own_seat people seats) people) (λ i. elim (cases_lt i (length people)) [
  | inl less ↦ at_each i less
  | inr end ↦ none_past (own_seat people seats) seats people i full end
])
  where
    one_at : (i : ℕ) (o : Option Person) → i < length people → slice_get people i ≡ o → slice_get seats i ≡ option_map (own_seat people seats) o
    one_at i None less e = absurd (no_person people i less e)
      where
        no_person : (people : List Person) (i : ℕ) → i < length people → slice_get people i ≡ None → ⊥
        no_person [] i less e = omega arith
        no_person (p ∷ people) zero less e = cc
        no_person (p ∷ people) (suc i) less e = no_person people i (omega arith) e
    one_at i (Some p) less e =
        let there = slice_get-get_or seats i None (omega (arith, full, less)) in
        there ∙ ap Some (sym (seat_there people seats i p (get_or seats i None) rising e there))

    at_each : (i : ℕ) → i < length people → slice_get seats i ≡ slice_get (map (own_seat people seats) people) i
    at_each i less = one_at i (slice_get people i) less refl ∙ sym (slice_get-map (own_seat people seats) people i)

nobody_along : (people : List Person) → replicate (length people) None ≡ map (λ (p : Person). let none : Option Seat = None in none) people
nobody_along [] = refl
nobody_along (p ∷ people) = ap (λ (z : List (Option Seat)). None ∷ z) (nobody_along people)

-- the seats of a round are those that the office says
pub round_along : (facts : SeasonFacts) (round : Option Round) → AreRising facts.people → length (seats_of (length facts.people) round) ≡ length facts.people
    → seats_of (length facts.people) round ≡ map (λ (p : Person). seat_of facts round p.id.0) facts.people
round_along facts None rising full = nobody_along facts.people
round_along facts (Some round) rising full = seats_along facts.people round.seats rising full

-- ---- the office's definitions

-- with the answers of the open window they stand as they stand now
pub all_stand : (facts : SeasonFacts) (state : State) (left : List Standing) (table : List (List Choice)) → left ≡ left_along facts state → table ≡ choices_along facts state state.now
    → standings left table ≡ standings_along facts state
all_stand facts state left table so turns =
    ap (λ (z : List Standing). standings z table) so ∙ (ap (λ (z : List (List Choice)). standings (left_along facts state) z) turns
    ∙ standings_made (λ p. left_by facts (view_of state p.id.0) p.id.0 state.now) (λ p. in_window state.now (rows_of p.id.0 state.answers)) facts.people)

-- what all seek next
pub all_seek : (facts : SeasonFacts) (state : State) (left : List Standing) (table : List (List Choice)) (last : Option Round) → AreRising facts.people → left ≡ left_along facts state
    → table ≡ choices_along facts state state.now → last ≡ round_at state.rounds (length state.rounds) → length (seats_of (length facts.people) last) ≡ length facts.people
    → seeks_after facts.lists facts.people (standings left table) (seats_of (length facts.people) last) ≡ next_seeks facts state
all_seek facts state left table last rising so turns latest full =
    ap (λ (z : List Standing). seeks_after facts.lists facts.people z (seats_of (length facts.people) last)) (all_stand facts state left table so turns)
    ∙ (ap (λ (z : List (Option Seat)). seeks_after facts.lists facts.people (standings_along facts state) z) (round_along facts last rising full)
    ∙ (ap (λ (z : Option Round). seeks_after facts.lists facts.people (standings_along facts state) (map (λ (p : Person). seat_of facts z p.id.0) facts.people)) latest
    ∙ seeks_made facts.lists (λ p. standing_at facts (view_of state p.id.0) p.id.0 state.now) (λ p. seat_of facts (round_at state.rounds (length state.rounds)) p.id.0) facts.people))

map_twice : {X Y Z : Type 0} (f : X → Y) (g : Y → Z) (xs : List X) → map g (map f xs) ≡ map (λ (x : X). g (f x)) xs
map_twice f g [] = refl
map_twice {X} {Y} {Z} f g (x ∷ xs) = ap (λ (zs : List Z). g (f x) ∷ zs) (map_twice f g xs)

-- the seats that are kept
all_kept : (facts : SeasonFacts) (state : State) (left : List Standing) (table : List (List Choice)) (last : Option Round) → AreRising facts.people → left ≡ left_along facts state
    → table ≡ choices_along facts state state.now → last ≡ round_at state.rounds (length state.rounds) → length (seats_of (length facts.people) last) ≡ length facts.people
    → kept_seats (standings left table) (seats_of (length facts.people) last) ≡ map (λ (p : Person). final_seat facts state p.id.0) facts.people
all_kept facts state left table last rising so turns latest full =
    ap (λ (z : List Standing). kept_seats z (seats_of (length facts.people) last)) (all_stand facts state left table so turns)
    ∙ (ap (λ (z : List (Option Seat)). kept_seats (standings_along facts state) z) (round_along facts last rising full)
    ∙ (ap (λ (z : Option Round). kept_seats (standings_along facts state) (map (λ (p : Person). seat_of facts z p.id.0) facts.people)) latest
    ∙ kept_made (λ p. standing_at facts (view_of state p.id.0) p.id.0 state.now) (λ p. seat_of facts (round_at state.rounds (length state.rounds)) p.id.0) facts.people))

-- their programmes
pub all_guaranteed : (facts : SeasonFacts) (state : State) (left : List Standing) (table : List (List Choice)) (last : Option Round) → AreRising facts.people → left ≡ left_along facts state
    → table ≡ choices_along facts state state.now → last ≡ round_at state.rounds (length state.rounds) → length (seats_of (length facts.people) last) ≡ length facts.people
    → programmes_of (kept_seats (standings left table) (seats_of (length facts.people) last)) ≡ kept_programmes facts state
all_guaranteed facts state left table last rising so turns latest full =
    ap programmes_of (all_kept facts state left table last rising so turns latest full)
    ∙ map_twice (λ (p : Person). final_seat facts state p.id.0) (λ (o : Option Seat). option_map (λ (held : Seat). held.prog) o) facts.people

-- the final rows
pub all_end : (facts : SeasonFacts) (state : State) (left : List Standing) (table : List (List Choice)) (last : Option Round) → AreRising facts.people → left ≡ left_along facts state
    → table ≡ choices_along facts state state.now → last ≡ round_at state.rounds (length state.rounds) → length (seats_of (length facts.people) last) ≡ length facts.people
    → rows_of_seats (facts.rounds + 1) facts.people (kept_seats (standings left table) (seats_of (length facts.people) last)) ≡ final_rows facts state
all_end facts state left table last rising so turns latest full =
    ap (λ (z : List (Option Seat)). rows_of_seats (facts.rounds + 1) facts.people z) (all_kept facts state left table last rising so turns latest full)
    ∙ rows_made (facts.rounds + 1) (final_seat facts state) facts.people

-- the rows of a round
pub all_allotted : (facts : SeasonFacts) (round : Round) → AreRising facts.people → length round.seats ≡ length facts.people → rows_of_seats round.number facts.people round.seats ≡ allot_rows facts round
all_allotted facts round rising full =
    ap (λ (z : List (Option Seat)). rows_of_seats round.number facts.people z) (seats_along facts.people round.seats rising full)
    ∙ rows_made round.number (seat_of facts (Some round)) facts.people

-- ---- after a cut

-- a round more leaves what the cuts before it left
pub left_before : (facts : SeasonFacts) (now next : ℕ) (rounds : List Round) (round : Round) (rows : List AnswerRow) (id window : ℕ) → window ≤ length rounds
    → left_by facts (record { now = next; rounds = rounds ++ round ∷ []; rows = rows }) id window ≡ left_by facts (record { now = now; rounds = rounds; rows = rows }) id window
left_before facts now next rounds round rows id zero few = refl
left_before facts now next rounds round rows id (suc window) few =
    ap (λ (l : Standing). after_cut (answered l (in_window window rows)) (seat_of facts (slice_get (rounds ++ round ∷ []) window) id)) (left_before facts now next rounds round rows id window (omega arith))
    ∙ ap (λ (o : Option Round). after_cut (answered (left_by facts (record { now = now; rounds = rounds; rows = rows }) id window) (in_window window rows)) (seat_of facts o id)) (get-before rounds (round ∷ []) window (omega arith))

left_now : (facts : SeasonFacts) (view : View) (id n : ℕ) → left_by facts view id (n + 1) ≡ after_cut (standing_at facts view id n) (seat_of facts (slice_get view.rounds n) id)
left_now facts view id n = ap (λ (k : ℕ). left_by facts view id k) (add-one n)

one_left : (facts : SeasonFacts) (state : State) (round : Round) (id : ℕ) → length state.rounds ≡ state.now
    → left_by facts (view_of (with_round state round) id) id (state.now + 1) ≡ after_cut (standing_at facts (view_of state id) id state.now) (seat_of facts (Some round) id)
one_left facts state round id order =
    left_now facts (view_of (with_round state round) id) id state.now
    ∙ (ap (λ (l : Standing). after_cut (answered l (in_window state.now (rows_of id state.answers))) (seat_of facts (slice_get (state.rounds ++ round ∷ []) state.now) id))
    (left_before facts state.now (state.now + 1) state.rounds round (rows_of id state.answers) id state.now (omega (arith, order)))
    ∙ ap (λ (o : Option Round). after_cut (standing_at facts (view_of state id) id state.now) (seat_of facts o id))
    (ap (λ (n : ℕ). slice_get (state.rounds ++ round ∷ []) n) (sym order) ∙ get-after state.rounds round []))

-- the cut that publishes a round
pub all_left : (facts : SeasonFacts) (state : State) (left : List Standing) (table : List (List Choice)) (round : Round) → AreRising facts.people → left ≡ left_along facts state
    → table ≡ choices_along facts state state.now → length state.rounds ≡ state.now → length round.seats ≡ length facts.people
    → after_cuts (standings left table) round.seats ≡ left_along facts (with_round state round)
all_left facts state left table round rising so turns order full =
    ap (λ (z : List Standing). after_cuts z round.seats) (all_stand facts state left table so turns)
    ∙ (ap (λ (z : List (Option Seat)). after_cuts (standings_along facts state) z) (round_along facts (Some round) rising full)
    ∙ (after_made (λ p. standing_at facts (view_of state p.id.0) p.id.0 state.now) (λ p. seat_of facts (Some round) p.id.0) facts.people
    ∙ same_map (λ p. after_cut (standing_at facts (view_of state p.id.0) p.id.0 state.now) (seat_of facts (Some round) p.id.0))
    (λ p. left_by facts (view_of (with_round state round) p.id.0) p.id.0 (state.now + 1)) facts.people (λ p. sym (one_left facts state round p.id.0 order))))

left_whatever : (facts : SeasonFacts) (now next : ℕ) (rounds : List Round) (rows : List AnswerRow) (id window : ℕ)
    → left_by facts (record { now = next; rounds = rounds; rows = rows }) id window ≡ left_by facts (record { now = now; rounds = rounds; rows = rows }) id window
left_whatever facts now next rounds rows id zero = refl
left_whatever facts now next rounds rows id (suc window) =
    ap (λ (l : Standing). after_cut (answered l (in_window window rows)) (seat_of facts (slice_get rounds window) id)) (left_whatever facts now next rounds rows id window)

one_left_last : (facts : SeasonFacts) (state : State) (rows : List AllotRow) (id : ℕ) → length state.rounds ≡ state.now
    → left_by facts (view_of (with_finals state rows) id) id (state.now + 1) ≡ after_cut (standing_at facts (view_of state id) id state.now) None
one_left_last facts state rows id order =
    left_now facts (view_of (with_finals state rows) id) id state.now
    ∙ (ap (λ (l : Standing). after_cut (answered l (in_window state.now (rows_of id state.answers))) (seat_of facts (slice_get state.rounds state.now) id))
    (left_whatever facts state.now (state.now + 1) state.rounds (rows_of id state.answers) id state.now)
    ∙ ap (λ (o : Option Round). after_cut (standing_at facts (view_of state id) id state.now) (seat_of facts o id)) (slice_get_past state.rounds state.now (omega (arith, order))))

-- the last cut, which gives no seats
pub all_left_last : (facts : SeasonFacts) (state : State) (left : List Standing) (table : List (List Choice)) (rows : List AllotRow) → left ≡ left_along facts state
    → table ≡ choices_along facts state state.now → length state.rounds ≡ state.now
    → after_cuts (standings left table) (seats_given (length facts.people) None) ≡ left_along facts (with_finals state rows)
all_left_last facts state left table rows so turns order =
    ap (λ (z : List Standing). after_cuts z (replicate (length facts.people) None)) (all_stand facts state left table so turns)
    ∙ (ap (λ (z : List (Option Seat)). after_cuts (standings_along facts state) z) (nobody_along facts.people)
    ∙ (after_made (λ p. standing_at facts (view_of state p.id.0) p.id.0 state.now) (λ p. None) facts.people
    ∙ same_map (λ p. after_cut (standing_at facts (view_of state p.id.0) p.id.0 state.now) None)
    (λ p. left_by facts (view_of (with_finals state rows) p.id.0) p.id.0 (state.now + 1)) facts.people (λ p. sym (one_left_last facts state rows p.id.0 order))))
