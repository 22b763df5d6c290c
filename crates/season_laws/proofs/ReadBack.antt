-- What is published of a state in which all is in order is read back.
use Rattle.std.proofs.Common.{◌≡◌, ◌≢◌, ◌≤◌, ◌<◌, ◌+◌, ◌-◌, ◌*◌, ◌++◌, ◌^◌, ◌==◌, inl, inr, ℕ, suc, Bool, true, false, List, [], ◌∷◌, Option, Some, None, length, map, arith, refl, sym, ap, ◌∙◌, subst, if◌then◌else◌}
use Rattle.std.specs.Prelude.{slice_get, slice_index_or}
use Rattle.std.specs.List.{AllByRecursion, AllZip}
use Rattle.std.specs.Option.{option_and_then}
use Rattle.std.proofs.lemmas.Bool.{eq-eqb}
use Rattle.std.proofs.lemmas.List.Sums.{sum-map, sum_by-le}
use Rattle.std.proofs.lemmas.Option.{slice_get_within}
use Rattle.office_base.proofs.Lists.{all-get, all_from, there_is}
use Rattle.office_base.proofs.People.{at_person-get}
use Rattle.office_base.specs.CategorySteps.{category_steps, gives_up, own_steps}
use Rattle.office_base.specs.Certificate.{IsCanonical}
use Rattle.office_base.specs.Limits.{most_step_seats}
use Rattle.office_base.specs.Lists.{IsAmong, IsSublist, Pairwise}
use Rattle.office_base.specs.Merit.{in_merit}
use Rattle.office_base.specs.Placement.{placed_on}
use Rattle.office_base.specs.declared.seat.Seat.{Seat}
use Rattle.office_base.specs.declared.category_steps.CategoryStep.{CategoryStep}
use Rattle.office_base.specs.declared.person.ListId.{ListId}
use Rattle.office_base.specs.declared.person.Person.{Person}
use Rattle.office_base.specs.declared.person.ProgId.{ProgId}
use Rattle.office_base.specs.declared.step.Pair.{Pair}
use Rattle.office_base.specs.declared.seat.SeatKind.TheVariants.{Under}
use Rattle.office_base.specs.declared.step.StepKind.{StepKind}
use Rattle.office_base.specs.declared.step.StepKind.TheVariants.{Dereserved}
use Rattle.kept_rows.specs.declared.rows.AllotRow.{AllotRow}
use Rattle.merit_choice.specs.InMerit.{InMeritRanks}
use Rattle.placements.proofs.Sublists.{length-sublist}
use Rattle.allocations.specs.Fair.{IsMarket}
use Rattle.allocations.specs.Market.{Seeker, applicants, applies, place_of, those}
use Rattle.allocations.proofs.Claims.{applicants_may}
use Rattle.allocations.proofs.Places.{place_read}
use Rattle.allocations.proofs.Those.{of_those}
use Rattle.choice_lists.specs.Choices.{list_of}
use Rattle.rank_lists.specs.Register.{find_person}
use Rattle.seat_matrix.specs.Matrix.{SeatTable, seats_in}
use Rattle.seat_matrix.specs.Seats.{AreProgrammeSeats, no_protections, seats_of}
use Rattle.seat_matrix.specs.declared.seats.ProgrammeSeats.{ProgrammeSeats}
use Rattle.seat_matrix.proofs.Unprotected.{no_position}
use Rattle.programme_lists.specs.Listing.{ShowsStep, seats_filled}
use Rattle.programme_lists.specs.Programme.{Admissions, admitted_by, people_of}
use Rattle.programme_lists.specs.declared.programme.Programme.{Programme}
use Rattle.programme_lists.specs.declared.programme.StepList.{StepList}
use Rattle.open_then_category.specs.Laws.{AdmittedOnce, SlotsAreTraits}
use Rattle.published_texts.specs.Texts.{AreSeatsOf, IsSeatOf, list_text, round_text}
use Rattle.list_texts.specs.Laws.{IsWritten, ListsAreRead, ListsAreTold}
use Rattle.list_texts.specs.Listing.{AreStepLists, IsListText, step_kinds}
use Rattle.publish.specs.Laws.{FinalsAreRead, RoundsAreRead, row_of, rows_of}
use Rattle.publish.specs.Rows.{AreRows, IsRoundText}
use Rattle.rounds.specs.Rule.{MayApplyIn, ProgrammesChooseWell, nobody, rule_of, seekers_of}
use Rattle.rounds.specs.declared.round.Round.{Round}
use Rattle.rounds.proofs.Entrants.{entered, length_seekers, market}
use Rattle.round_laws.proofs.People.{found_at}
use Rattle.programme_lists.proofs.Parts.{people_part}
use Rattle.round_laws.proofs.Everybody.{step_distinct}
use Rattle.office_moves.specs.Facts.{IsSound, SeasonFacts, lists_in_order}
use Rattle.office_moves.specs.State.{State, seat_in, seat_of}
use Rattle.office_moves.specs.Promise.{IsJust, kept_to_the_end, standing_then}
use Rattle.office_moves.specs.Raised.{matrix_of_round}
use Rattle.office_moves.specs.Moves.{allot_rows, row_before, rows_along}
use Rattle.history_laws.specs.Orderly.{IsOrderly}
use Rattle.history_laws.proofs.Entering.{entrants, lists_full}
use Rattle.history_laws.proofs.Fits.{full_seeks, placed, seat_there}
use Rattle.round_options.specs.Options.{holds}
use Rattle.season_laws.specs.ReadBack.{PublishedIsRead}

-- the laws on which this rests
pub record AreLaws : Type 0 where
  pub well : ProgrammesChooseWell
  pub once : AdmittedOnce
  pub slots : SlotsAreTraits
  pub merit : InMeritRanks
  pub rounds_read : RoundsAreRead
  pub finals_read : FinalsAreRead
  pub lists_told : ListsAreTold
  pub lists_read : ListsAreRead

-- ---- rows

-- the rows of the seats along the people are those of a seat for each id
rows_same : (number : ℕ) (seat : ℕ → Option Seat) (people : List Person) (seats : List (Option Seat)) → length seats ≡ length people
    → ((i : ℕ) (person : Person) (o : Option Seat) → slice_get people i ≡ Some person → slice_get seats i ≡ Some o → seat person.id.0 ≡ o)
    → rows_of number people seats ≡ rows_along number seat people
rows_same number seat [] seats full same = refl
rows_same number seat (person ∷ people) [] full same = absurd (omega (arith, full))
rows_same number seat (person ∷ people) (o ∷ seats) full same =
    let rest = rows_same number seat people seats (omega (arith, full)) (λ i. same (suc i)) in
    let here = same 0 person o refl refl in
    ap (λ rows. row_of number person.id o ++ rows) rest ∙ (before o (rows_along number seat people) ∙ ap (λ z. row_before number person.id z (rows_along number seat people)) (sym here))
  where
    before : (o : Option Seat) (rows : List AllotRow) → row_of number person.id o ++ rows ≡ row_before number person.id o rows
    before None rows = refl
    before (Some held) rows = refl

-- rows along people go along them
rows_in_order : (number : ℕ) (seat : ℕ → Option Seat) (people : List Person)
    → IsSublist (map (λ (row : AllotRow). row.cand.0) (rows_along number seat people)) (map (λ (person : Person). person.id.0) people)
rows_in_order number seat [] = refl
rows_in_order number seat (person ∷ people) = one (seat person.id.0) (rows_in_order number seat people)
  where
    one : (o : Option Seat) → IsSublist (map (λ (row : AllotRow). row.cand.0) (rows_along number seat people)) (map (λ (p : Person). p.id.0) people)
        → IsSublist (map (λ (row : AllotRow). row.cand.0) (row_before number person.id o (rows_along number seat people))) (person.id.0 ∷ map (λ (p : Person). p.id.0) people)
    one None rest = inl rest
    one (Some held) rest = inr (map (λ (row : AllotRow). row.cand.0) (rows_along number seat people), refl, rest)

rows_known : (table : SeatTable) (number : ℕ) (seat : ℕ → Option Seat) (people : List Person) → ((id : ℕ) (held : Seat) → seat id ≡ Some held → held.prog.0 < length table.programmes)
    → AllByRecursion (λ (row : AllotRow). (row.prog.0 < length table.programmes) × (row.round ≡ number)) (rows_along number seat people)
rows_known table number seat [] below = tt
rows_known table number seat (person ∷ people) below = one (seat person.id.0) refl (rows_known table number seat people below)
  where
    one : (o : Option Seat) → seat person.id.0 ≡ o → AllByRecursion (λ (row : AllotRow). (row.prog.0 < length table.programmes) × (row.round ≡ number)) (rows_along number seat people)
        → AllByRecursion (λ (row : AllotRow). (row.prog.0 < length table.programmes) × (row.round ≡ number)) (row_before number person.id o (rows_along number seat people))
    one None is rest = rest
    one (Some held) is rest = ((below person.id.0 held is, refl), rest)

-- ---- numbers of people

-- what holds of each of the people holds of all of them
all_among : (P : Person → Type 0) (people : List Person) → ((x : Person) → IsAmong x people → P x) → AllByRecursion P people
all_among P [] h = tt
all_among P (x ∷ people) h = (h x (inl refl), all_among P people (λ y there. h y (inr there)))

fewer_if : (b : Bool) (x : Person) (xs : List Person) (n : ℕ) → length xs ≤ n → length (if b then x ∷ xs else xs) ≤ suc n
fewer_if true x xs n less = omega (arith, less)
fewer_if false x xs n less = omega (arith, less)

-- no more pass a test than there are seekers
few_those : {X : Type 0} (f : Seeker → X → Bool) (seekers : List Seeker) (xs : List X) → length (those f seekers xs) ≤ length seekers
few_those f [] xs = omega arith
few_those f (s ∷ seekers) [] = omega arith
few_those f (s ∷ seekers) (x ∷ xs) = fewer_if (f s x) s.person (those f seekers xs) (length seekers) (few_those f seekers xs)

-- no more people stand for a step than there are applicants
few_people : (list : ListId) (people : List Person) (a : Admissions) (kind : StepKind) → length (people_of list people a kind) ≤ length people
few_people list people a kind = length-sublist (people_of list people a kind) people (people_part list people a kind)

few_if : (b : Bool) (m n : ℕ) → m ≤ most_step_seats → (if b then m - n else 0) ≤ most_step_seats
few_if true m n most = omega (arith, most)
few_if false m n most = omega arith

-- the seats that a step fills
few_seats : (version : ℕ) (seats : ProgrammeSeats) (a : Admissions) (kind : StepKind) → AreProgrammeSeats seats → seats_filled version seats a kind ≤ length own_steps * most_step_seats
few_seats version seats a Dereserved sound =
    let given : CategoryStep → ℕ = λ row. if gives_up row version then (seats_of seats row.step).seats - length (a row.step) else 0 in
    let few = sum_by-le given most_step_seats category_steps (λ k d less.
    let row = slice_index_or category_steps k d in few_if (gives_up row version) (seats_of seats row.step).seats (length (a row.step)) (sound.steps row.step).seats) in
    omega (arith, sum-map given category_steps, few)
few_seats version seats a kind sound = let most = (sound.steps kind).seats in omega (arith, most)

no_pairs : (people : List Person) (pairs : List Pair) → IsCanonical no_protections people pairs → pairs ≡ []
no_pairs people [] canonical = refl
no_pairs people (pair ∷ pairs) canonical = absurd (
    let within = canonical.placement.within pair.slot in
    let none = no_position pair.slot in
    let here = one (pair.slot == pair.slot) (placed_on pair.slot pairs) (eq-eqb pair.slot pair.slot refl) in
    omega (arith, within, none, here))
  where
    one : (b : Bool) (n : ℕ) → b ≡ true → 1 ≤ (if b then 1 else 0) + n
    one true n e = omega arith
    one false n e = absurd (cc)

-- ---- lists

-- the lists of the steps that these kinds name are such as a text can tell, where each of them is
told_all : ListsAreTold → (people : List Person) (Shows : StepKind → StepList → Type 0) (kinds : List StepKind) (lists : List StepList) → AllZip Shows kinds lists
    → AllByRecursion (λ (list : StepList). AllByRecursion (λ (pair : Pair). pair.slot < 6) list.cert.pairs) lists
    → ((kind : StepKind) (list : StepList) → Shows kind list → AllByRecursion (λ (pair : Pair). pair.slot < 6) list.cert.pairs → IsWritten people kind list)
    → AreStepLists people kinds lists
told_all told people Shows [] [] shows slots written = tt
told_all told people Shows [] (list ∷ lists) shows slots written = absurd shows
told_all told people Shows (kind ∷ kinds) [] shows slots written = absurd shows
told_all told people Shows (kind ∷ kinds) (list ∷ lists) shows slots written =
    (told people kind list (written kind list shows.0 slots.0), told_all told people Shows kinds lists shows.1 slots.1 written)

module _ (laws : AreLaws) (facts : SeasonFacts) (state : State) (sound : IsSound facts) (orderly : IsOrderly facts state) where
  -- a seat of a round is of a programme of the matrix
  seat_below : (window id : ℕ) (seat : Seat) → seat_in facts state.rounds window id ≡ Some seat → seat.prog.0 < length facts.matrix.programmes
  seat_below window id seat has =
      let less = placed facts state window id seat sound orderly.course has in
      let read = place_read (list_of facts.lists id) seat.prog.0 less in
      subst (λ n. n < length facts.matrix.programmes) read.2
      (all-get (λ (prog : ProgId). prog.0 < length facts.matrix.programmes) (list_of facts.lists id) (place_of (list_of facts.lists id) seat.prog.0) read.0 (sound.choices id).numbers read.1)

  module _ (before : ℕ) (round : Round) (published : slice_get state.rounds before ≡ Some round) where
    abbrev table : SeatTable
    table = matrix_of_round facts state (suc before)

    abbrev seekers : List Seeker
    seekers = seekers_of table facts.people (lists_in_order facts) round.seeks

    abbrev count : ℕ
    count = length table.programmes

    just : IsJust facts table round
    just = orderly.word.rounds before round published

    seats : length round.seats ≡ length facts.people
    seats = orderly.entries before round published

    small : round.number < 2 ^ 16
    small =
        let number = (orderly.course.made before round published).number in
        let less = slice_get_within state.rounds before round published in
        let few = orderly.course.few in
        let ten = sound.rounds.1 in
        omega (arith, number, less, few, ten)

    seat_of_there : (i : ℕ) (person : Person) (o : Option Seat) → slice_get facts.people i ≡ Some person → slice_get round.seats i ≡ Some o → seat_of facts (Some round) person.id.0 ≡ o
    seat_of_there i person o at has =
        ap (λ z. option_and_then (λ s. s) z) (at_person-get facts.people round.seats i person sound.ranks.rising at ∙ has)

    all_below : AreSeatsOf facts.matrix round.seats
    all_below = all_from (IsSeatOf facts.matrix) round.seats (λ i o has.
        let less = slice_get_within round.seats i o has in
        let size = seats in
        let person = there_is facts.people i (omega (arith, less, size)) in
        one o i person.0 person.1 has)
      where
        one : (o : Option Seat) (i : ℕ) (person : Person) → slice_get facts.people i ≡ Some person → slice_get round.seats i ≡ Some o → IsSeatOf facts.matrix o
        one None i person at has = tt
        one (Some seat) i person at has =
            seat_below (suc before) person.id.0 seat (seat_there facts state.rounds before i round person (Some seat) sound published at has)

    round_read : IsRoundText facts.matrix facts.people (round_text facts.matrix facts.people round) (record { round = round.number; rows = allot_rows facts round })
    round_read =
        subst (λ rows. IsRoundText facts.matrix facts.people (round_text facts.matrix facts.people round) (record { round = round.number; rows = rows }))
        (rows_same round.number (seat_of facts (Some round)) facts.people round.seats seats seat_of_there)
        (laws.rounds_read facts.matrix facts.people round seats all_below small)

    -- ---- one list

    are : IsMarket (MayApplyIn table) count seekers
    are = market table facts.people (lists_in_order facts) round.seeks (orderly.course.seats (suc before)) (entrants facts table sound (orderly.course.programmes (suc before)))

    may : (p : ℕ) → p < count → MayApplyIn table p (applicants p seekers round.seats)
    may p below =
        applicants_may (rule_of facts.version nobody table) (MayApplyIn table) count p seekers round.seats are (laws.well facts.version nobody table (orderly.course.seats (suc before))) below
        just.best.fair.allocation.full

    full : length seekers ≡ length facts.people
    full =
        length_seekers table facts.people (lists_in_order facts) round.seeks (lists_full facts sound)
        (ap (λ l. length l) (orderly.course.made before round published).sought ∙ full_seeks facts state before sound)

    -- a person who applies is found in the register
    known : (p : ℕ) (person : Person) → IsAmong person (applicants p seekers round.seats) → find_person person.id.0 facts.people ≡ Some person
    known p person applied =
        let found = of_those (λ s seat. applies p s.list seat) seekers round.seats person applied in
        let e = entered table facts.people (lists_in_order facts) round.seeks found.place found.s found.there in
        subst (λ (z : Person). find_person z.id.0 facts.people ≡ Some z) (sym found.person_is) (found_at facts.people found.place found.s.person sound.ranks.rising e.person_at)

    written : (p : ℕ) (programme : Programme) → p < count → slice_get round.programmes p ≡ Some programme → AreStepLists facts.people step_kinds programme.steps
    written p programme below at =
        let people = applicants p seekers round.seats in
        let shows = just.shown p programme at in
        let its = (orderly.course.seats (suc before)).sound p below in
        let once = laws.once facts.version (seats_in table p) people shows.0 its (may p below) shows.1 in
        told_all laws.lists_told facts.people (ShowsStep facts.version (seats_in table p) (in_merit (seats_in table p).list people) shows.0) step_kinds programme.steps shows.2
        (laws.slots facts.version (seats_in table p) people programme its (may p below) shows)
        (λ kind list shown slots.
        let size = full in
        let few_in_merit = (laws.merit (seats_in table p).list people (may p below)).3 in
        let few_seekers = few_those (λ s seat. applies p s.list seat) seekers round.seats in
        let few_stand = few_people (seats_in table p).list (in_merit (seats_in table p).list people) shows.0 kind in
        let few = sound.ranks.few in
        let candidates = shown.candidates in
        let of_seats = shown.of_seats in
        let few_filled = few_seats facts.version (seats_in table p) shows.0 kind its in
        record {
          named = shown.of_kind;
          seats = omega (arith, of_seats, few_filled);
          candidates = omega (arith, candidates, few_stand, few_in_merit, few_seekers, size, few);
          known = subst (λ l. AllByRecursion (λ (person : Person). find_person person.id.0 facts.people ≡ Some person) l) (sym shown.persons)
              (all_among (λ (person : Person). find_person person.id.0 facts.people ≡ Some person) (admitted_by shows.0 kind)
              (λ person there. known p person ((laws.well facts.version nobody table (orderly.course.seats (suc before))).among p people person (Under kind) (may p below) (shows.0, shows.1, there))));
          distinct = subst (λ l. Pairwise (λ (a b : Person). a.id ≢ b.id) l) (sym shown.persons) (step_distinct shows.0 kind once.0);
          in_order = subst (λ l. IsSublist (map (λ (pair : Pair). pair.cand) list.cert.pairs) (map (λ (person : Person). person.id) l)) (sym shown.persons) shown.certificate.in_order;
          slots = slots;
          none = λ e.
              no_pairs (admitted_by shows.0 kind) list.cert.pairs
              (subst (λ k. IsCanonical (seats_of (seats_in table p) k).protections (admitted_by shows.0 kind) list.cert.pairs) e shown.certificate);
        })

    list_read : (prog : ProgId) (programme : Programme) → slice_get round.programmes prog.0 ≡ Some programme
        → IsListText facts.matrix facts.people (list_text facts.matrix round.number prog.0 programme) (record { round = round.number; prog = prog; programme = programme })
    list_read prog programme at =
        let less = slice_get_within round.programmes prog.0 programme at in
        let size = just.count in
        let below : prog.0 < count = omega (arith, less, size) in
        let same : count ≡ length facts.matrix.programmes = ap (λ l. length l) (orderly.course.programmes (suc before)) in
        laws.lists_read facts.matrix facts.people round.number prog programme small (omega (arith, below, same)) (written prog.0 programme below at)

  finals_are : (rows : List AllotRow) → state.finals ≡ Some rows → AreRows facts.matrix facts.people (facts.rounds + 1) rows
  finals_are rows are =
      subst (λ l. AreRows facts.matrix facts.people (facts.rounds + 1) l) (sym (orderly.word.finals rows are)) (record {
        order = rows_in_order (facts.rounds + 1) (kept_to_the_end facts state) facts.people;
        known = rows_known facts.matrix (facts.rounds + 1) (kept_to_the_end facts state) facts.people
            (λ id held e. seat_below facts.rounds id held (kept (holds (standing_then facts state facts.rounds id)) (seat_in facts state.rounds facts.rounds id) held e));
      })
    where
      kept : (b : Bool) (o : Option Seat) (held : Seat) → (if b then o else None) ≡ Some held → o ≡ Some held
      kept true o held e = e
      kept false o held e = absurd (cc)

pub published_is_read : AreLaws → (facts : SeasonFacts) → PublishedIsRead facts
published_is_read laws facts state sound orderly = record {
  rounds = λ before round published. round_read laws facts state sound orderly before round published;
  lists = λ before round prog programme published at. list_read laws facts state sound orderly before round published prog programme at;
  finals = λ rows are. laws.finals_read facts.matrix facts.people (facts.rounds + 1) rows (finals_are laws facts state sound orderly rows are);
}
