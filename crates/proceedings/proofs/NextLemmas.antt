-- What the arrays have to be for what comes next.
use Rattle.std.proofs.Common.{◌≡◌, ◌+◌, ◌-◌, ℕ, zero, suc, true, List, [], ◌∷◌, Option, Some, None, length, map, arith, sym, ap, ◌∙◌, subst}
use Rattle.std.specs.Prelude.{slice_get, IsSome}
use Rattle.std.proofs.lemmas.List.{length-map, length-replicate}
use Rattle.std.proofs.lemmas.Option.{same_Some}
use Rattle.office_base.specs.declared.choice.Choice.{Choice}
use Rattle.office_base.specs.declared.seat.Seat.{Seat}
use Rattle.office_base.specs.declared.person.Person.{Person}
use Rattle.office_base.specs.declared.person.ProgId.{ProgId}
use Rattle.rounds.specs.declared.round.Round.{Round}
use Rattle.rounds.proofs.Entrants.{length_seekers}
use Rattle.round_laws.proofs.Season.{aligned_length}
use Rattle.round_options.specs.Options.{holds}
use Rattle.round_options.specs.declared.standing.Standing.{Standing}
use Rattle.office_moves.specs.Facts.{IsSound, SeasonFacts, lists_in_order}
use Rattle.office_moves.specs.State.{State, last_seat, round_at, seat_of}
use Rattle.office_moves.specs.Raised.{matrix_at}
use Rattle.office_moves.specs.Moves.{IsNextRound, allot_rows, final_rows, kept_programmes, next_seeks}
use Rattle.office_moves.specs.Promise.{standing_then}
use Rattle.history_laws.specs.Orderly.{IsOrderly}
use Rattle.cut_arrays.specs.NextSeeks.{AreSeated, seeks_after}
use Rattle.cut_arrays.specs.Rows.{kept_seats, programmes_of, rows_of_seats}
use Rattle.cut_arrays.specs.WindowEnd.{seats_of, standings}
use Rattle.cut_arrays.proofs.OfficeLinks.{AreRising, all_allotted, all_end, all_guaranteed, all_seek, all_stand, round_along}
use Rattle.proceedings.specs.Proceeding.{left_along, table_along}

pub left_full : (facts : SeasonFacts) (state : State) (left : List Standing) → left ≡ left_along facts state → length left ≡ length facts.people
left_full facts state left so = ap (λ (z : List Standing). length z) so ∙ length-map facts.people _

pub table_full : (facts : SeasonFacts) (state : State) (window : ℕ) (table : List (List Choice)) → table ≡ table_along facts state window → length table ≡ length facts.people
table_full facts state window table so = ap (λ (z : List (List Choice)). length z) so ∙ length-map facts.people _

-- the last of the rounds is the one of the greatest number
pub last_round : (rounds : List Round) (last : Option Round) → last ≡ slice_get rounds (length rounds - 1) → last ≡ round_at rounds (length rounds)
last_round [] last e = e
last_round (x ∷ rounds) last e = e ∙ ap (λ (n : ℕ). slice_get (x ∷ rounds) n) (let n : length (x ∷ rounds) - 1 ≡ length rounds = omega arith in n)

pub seats_full : (facts : SeasonFacts) (rounds : List Round) (last : Option Round) → ((before : ℕ) (round : Round) → slice_get rounds before ≡ Some round → length round.seats ≡ length facts.people)
    → last ≡ slice_get rounds (length rounds - 1) → length (seats_of (length facts.people) last) ≡ length facts.people
seats_full facts rounds None full e = length-replicate (length facts.people) None
seats_full facts rounds (Some round) full e = full (length rounds - 1) round (sym e)

made_seated : (stands : Person → Standing) (seat : Person → Option Seat) (people : List Person) → ((p : Person) → holds (stands p) ≡ true → IsSome (seat p))
    → (at : ℕ) (s : Standing) (has : Option Seat) → slice_get (map stands people) at ≡ Some s → slice_get (map seat people) at ≡ Some has → holds s ≡ true → IsSome has
made_seated stands seat [] each at s has a b h = absurd (cc)
made_seated stands seat (p ∷ people) each zero s has a b h =
    subst (λ (o : Option Seat). IsSome o) (same_Some (seat p) has b) (each p (ap holds (same_Some (stands p) s a) ∙ h))
made_seated stands seat (p ∷ people) each (suc at) s has a b h = made_seated stands seat people each at s has a b h

-- a candidate who keeps a seat has one
pub all_seated : (facts : SeasonFacts) (state : State) (left : List Standing) (table : List (List Choice)) (last : Option Round) → AreRising facts.people → left ≡ left_along facts state
    → table ≡ table_along facts state state.now → last ≡ round_at state.rounds (length state.rounds) → length (seats_of (length facts.people) last) ≡ length facts.people
    → ((id : ℕ) → holds (standing_then facts state state.now id) ≡ true → IsSome (last_seat facts state.rounds id))
    → AreSeated (standings left table) (seats_of (length facts.people) last)
all_seated facts state left table last rising so turns latest full seated = record {
  each = λ at s has a b h.
      let stood : slice_get (map (λ (p : Person). standing_then facts state state.now p.id.0) facts.people) at ≡ Some s =
      ap (λ (z : List Standing). slice_get z at) (sym (all_stand facts state left table so turns)) ∙ a in
      let given : slice_get (map (λ (p : Person). last_seat facts state.rounds p.id.0) facts.people) at ≡ Some has =
      ap (λ (z : Option Round). slice_get (map (λ (p : Person). seat_of facts z p.id.0) facts.people) at) (sym latest)
      ∙ (ap (λ (z : List (Option Seat)). slice_get z at) (sym (round_along facts last rising full)) ∙ b) in
      made_seated (λ p. standing_then facts state state.now p.id.0) (λ p. last_seat facts state.rounds p.id.0) facts.people (λ p. seated p.id.0) at s has stood given h;
}

-- ---- a round that may follow has an entry for each of the people

pub next_full : (facts : SeasonFacts) (state : State) (round : Round) → IsSound facts → IsNextRound facts state round → length round.seats ≡ length facts.people
next_full facts state round sound next =
    let lists : length (lists_in_order facts) ≡ length facts.people = length-map facts.lists (λ (held : ℕ × List ProgId). held.1) ∙ aligned_length facts.lists facts.people sound.aligned in
    let seeks : length (next_seeks facts state) ≡ length facts.people = length-map facts.people _ in
    next.best.fair.allocation.full ∙ length_seekers (matrix_at facts state) facts.people (lists_in_order facts) (next_seeks facts state) lists (seeks ∙ sym lists)

-- ---- over the arrays

pub by_seated : (facts : SeasonFacts) (state : State) (people : List Person) (left : List Standing) (table : List (List Choice)) (last : Option Round) → people ≡ facts.people → IsSound facts → IsOrderly facts state
    → left ≡ left_along facts state → table ≡ table_along facts state state.now → last ≡ slice_get state.rounds (length state.rounds - 1)
    → AreSeated (standings left table) (seats_of (length people) last)
by_seated facts state people left table last is sound orderly so turns latest =
    subst (λ (ps : List Person). AreSeated (standings left table) (seats_of (length ps) last)) (sym is)
    (all_seated facts state left table last sound.ranks.rising so turns (last_round state.rounds last latest) (seats_full facts state.rounds last orderly.entries latest) orderly.seated)

pub by_seeks : (facts : SeasonFacts) (state : State) (people : List Person) (left : List Standing) (table : List (List Choice)) (last : Option Round) → people ≡ facts.people → IsSound facts → IsOrderly facts state
    → left ≡ left_along facts state → table ≡ table_along facts state state.now → last ≡ slice_get state.rounds (length state.rounds - 1)
    → seeks_after facts.lists people (standings left table) (seats_of (length people) last) ≡ next_seeks facts state
by_seeks facts state people left table last is sound orderly so turns latest =
    ap (λ (ps : List Person). seeks_after facts.lists ps (standings left table) (seats_of (length ps) last)) is
    ∙ all_seek facts state left table last sound.ranks.rising so turns (last_round state.rounds last latest) (seats_full facts state.rounds last orderly.entries latest)

pub by_rows : (facts : SeasonFacts) (state : State) (people : List Person) (left : List Standing) (table : List (List Choice)) (last : Option Round) → people ≡ facts.people → IsSound facts → IsOrderly facts state
    → left ≡ left_along facts state → table ≡ table_along facts state state.now → last ≡ slice_get state.rounds (length state.rounds - 1)
    → rows_of_seats (facts.rounds + 1) people (kept_seats (standings left table) (seats_of (length people) last)) ≡ final_rows facts state
by_rows facts state people left table last is sound orderly so turns latest =
    ap (λ (ps : List Person). rows_of_seats (facts.rounds + 1) ps (kept_seats (standings left table) (seats_of (length ps) last))) is
    ∙ all_end facts state left table last sound.ranks.rising so turns (last_round state.rounds last latest) (seats_full facts state.rounds last orderly.entries latest)

pub by_allotted : (facts : SeasonFacts) (state : State) (people : List Person) (seats : List (Option Seat)) (round : Round) → people ≡ facts.people → seats ≡ round.seats → IsSound facts → IsNextRound facts state round
    → rows_of_seats round.number people seats ≡ allot_rows facts round
by_allotted facts state people seats round is given sound next =
    ap (λ (ps : List Person). rows_of_seats round.number ps seats) is ∙ (ap (λ (z : List (Option Seat)). rows_of_seats round.number facts.people z) given
    ∙ all_allotted facts round sound.ranks.rising (next_full facts state round sound next))

pub by_kept : (facts : SeasonFacts) (state : State) (left : List Standing) (table : List (List Choice)) (last : Option Round) → IsSound facts → IsOrderly facts state
    → left ≡ left_along facts state → table ≡ table_along facts state state.now → last ≡ slice_get state.rounds (length state.rounds - 1)
    → programmes_of (kept_seats (standings left table) (seats_of (length left) last)) ≡ kept_programmes facts state
by_kept facts state left table last sound orderly so turns latest =
    ap (λ (n : ℕ). programmes_of (kept_seats (standings left table) (seats_of n last))) (left_full facts state left so)
    ∙ all_guaranteed facts state left table last sound.ranks.rising so turns (last_round state.rounds last latest) (seats_full facts state.rounds last orderly.entries latest)
