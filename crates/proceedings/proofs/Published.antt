-- What holds of a published round.
use Rattle.std.proofs.Common.{◌≡◌, ◌<◌, ◌≤◌, ℕ, zero, suc, List, [], ◌∷◌, Option, Some, None, length, arith, refl, sym, ap, ◌∙◌, subst}
use Rattle.std.specs.Prelude.{slice_get}
use Rattle.std.specs.List.{AllZip}
use Rattle.std.proofs.lemmas.Option.{slice_get_within}
use Rattle.office_base.specs.CategorySteps.{all_steps}
use Rattle.office_base.specs.declared.seat.Seat.{Seat}
use Rattle.office_base.specs.declared.person.CandId.{CandId}
use Rattle.office_base.specs.declared.person.Person.{Person}
use Rattle.office_base.specs.declared.person.ProgId.{ProgId}
use Rattle.kept_rows.specs.declared.rows.AllotRow.{AllotRow}
use Rattle.allocations.specs.Market.{applicants}
use Rattle.seat_matrix.specs.Matrix.{seats_in}
use Rattle.seat_matrix.specs.declared.seats.ProgrammeSeats.{ProgrammeSeats}
use Rattle.office_base.specs.Merit.{in_merit}
use Rattle.office_base.proofs.Lists.{there_is}
use Rattle.programme_lists.specs.Chosen.{ShowsFrom}
use Rattle.programme_lists.specs.Listing.{ShowsStep}
use Rattle.programme_lists.specs.declared.programme.Programme.{Programme}
use Rattle.rank_lists.specs.Register.{row_of}
use Rattle.choice_lists.specs.Choices.{list_of}
use Rattle.seeks.specs.declared.seek.Seek.{Seek}
use Rattle.rounds.specs.Round.{seated}
use Rattle.rounds.specs.Rule.{AreSeeks, seekers_of}
use Rattle.rounds.specs.declared.round.Round.{Round}
use Rattle.office_moves.specs.Facts.{IsSound, SeasonFacts, lists_in_order}
use Rattle.office_moves.specs.State.{State, round_at}
use Rattle.office_moves.specs.Raised.{matrix_of_round}
use Rattle.office_moves.specs.Moves.{row_before, rows_along}
use Rattle.history_laws.proofs.Entering.{list_there, lists_full}
use Rattle.history_laws.proofs.Fits.{seeks_fit}
use Rattle.history_laws.specs.Course.{IsCourse, seeks_then}
use Rattle.history_laws.specs.Orderly.{IsOrderly}
use Rattle.proceedings.proofs.Positions.{stands}

-- a published round is at the place before its number
pub published : (rounds : List Round) (n : ℕ) (round : Round) → round_at rounds n ≡ Some round → (before : ℕ) × (n ≡ suc before) × (slice_get rounds before ≡ Some round)
published rounds zero round e = absurd (cc)
published rounds (suc before) round e = (before, refl, e)

pub programmes_of : (facts : SeasonFacts) (state : State) (n : ℕ) (round : Round) → IsCourse facts state → round_at state.rounds n ≡ Some round → length round.programmes ≡ length facts.matrix.programmes
programmes_of facts state n round course e =
    let p = published state.rounds n round e in
    (course.made p.0 round p.2).count ∙ ap length (course.programmes (suc p.0))

-- ---- how many

pub seated_most : (seats : List (Option Seat)) → seated seats ≤ length seats
seated_most [] = omega arith
seated_most (None ∷ seats) = omega (arith, seated_most seats)
seated_most (Some seat ∷ seats) = omega (arith, seated_most seats)

row_most : (number : ℕ) (cand : CandId) (seat : Option Seat) (rows : List AllotRow) (n : ℕ) → length rows ≤ n → length (row_before number cand seat rows) ≤ suc n
row_most number cand None rows n e = omega (arith, e)
row_most number cand (Some seat) rows n e = omega (arith, e)

pub rows_most : (number : ℕ) (seat : ℕ → Option Seat) (people : List Person) → length (rows_along number seat people) ≤ length people
rows_most number seat [] = omega arith
rows_most number seat (person ∷ people) = row_most number person.id (seat person.id.0) (rows_along number seat people) (length people) (rows_most number seat people)

-- ---- the choice lists along the people

-- the candidate's own list is at their position
pub list_at_position : (facts : SeasonFacts) (id at : ℕ) → IsSound facts → row_of id facts.people ≡ Some at → slice_get (lists_in_order facts) at ≡ Some (list_of facts.lists id)
list_at_position facts id at sound row =
    let s = stands id facts.people at row in
    let below = slice_get_within facts.people at s.person s.there in
    let list = there_is (lists_in_order facts) at (omega (arith, below, lists_full facts sound)) in
    let own : list_of facts.lists s.person.id.0 ≡ list.0 = list_there facts at s.person list.0 sound s.there list.1 in
    let P : ℕ → Type 0 = λ n. list_of facts.lists n ≡ list.0 in
    let mine : list_of facts.lists id ≡ list.0 = subst P s.mine own in
    list.1 ∙ ap (λ (l : List ProgId). Some l) (sym mine)

-- ---- seeks

-- everybody sought within their own list
pub seeks_of : (facts : SeasonFacts) (state : State) (n : ℕ) (round : Round) → IsSound facts → IsOrderly facts state → round_at state.rounds n ≡ Some round → AreSeeks (lists_in_order facts) round.seeks
seeks_of facts state n round sound orderly e =
    let p = published state.rounds n round e in
    let P : List Seek → Type 0 = λ seeks. AreSeeks (lists_in_order facts) seeks in
    subst P (sym (orderly.course.made p.0 round p.2).sought) (seeks_fit facts state p.0 sound orderly.course)

pub less_as : (n m k : ℕ) → n < m → m ≡ k → n < k
less_as n m k less e = omega arith

-- each programme of a published round has a list for each step
zip_length : {X Y : Type 0} (R : X → Y → Type 0) (xs : List X) (ys : List Y) → AllZip R xs ys → length xs ≡ length ys
zip_length R [] [] all = refl
zip_length R [] (y ∷ ys) all = absurd all
zip_length R (x ∷ xs) [] all = absurd all
zip_length R (x ∷ xs) (y ∷ ys) all = ap suc (zip_length R xs ys all.1)

lists_shown : (version : ℕ) (seats : ProgrammeSeats) (people : List Person) (programme : Programme) → ShowsFrom version seats people programme → length programme.steps ≡ length all_steps
lists_shown version seats people programme shows =
    sym (zip_length (ShowsStep version seats (in_merit seats.list people) shows.0) all_steps programme.steps shows.2)

pub a_list_each : (facts : SeasonFacts) (state : State) (n : ℕ) (round : Round) (p : ℕ) (programme : Programme) → IsCourse facts state → round_at state.rounds n ≡ Some round → slice_get round.programmes p ≡ Some programme
    → length programme.steps ≡ length all_steps
a_list_each facts state n round p programme course e there =
    let place = published state.rounds n round e in
    let table = matrix_of_round facts state (suc place.0) in
    lists_shown facts.version (seats_in table p) (applicants p (seekers_of table facts.people (lists_in_order facts) (seeks_then facts state place.0)) round.seats) programme ((course.made place.0 round place.2).shown p programme there)
