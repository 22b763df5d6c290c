-- Between two fair rounds nobody who remains does worse, where programmes choose well and grow with their seats.
use Rattle.std.proofs.Common.{◌≡◌, ◌<◌, ◌≤◌, ℕ, List, Option, Some, None, length, ap, subst}
use Rattle.std.specs.Prelude.{slice_get}
use Rattle.office_base.specs.declared.seat.Seat.{Seat}
use Rattle.allocations.specs.Fair.{IsFair}
use Rattle.allocations.specs.Market.{Seeker, place_of}
use Rattle.allocations.proofs.Falls as falls
use Rattle.allocations.proofs.Places.{applies_means, place_read}
use Rattle.allocations.proofs.Those.{value_at}
use Rattle.kept_seats.specs.Kept.{Guarantees}
use Rattle.rounds.specs.Rule.{MayApplyIn, ProgrammesChooseWell, ProgrammesGrow, rule_of}
use Rattle.seat_matrix.specs.Matrix.{SeatTable}
use Rattle.round_laws.specs.Laws.{AreFairInTurn, NobodyFalls}

-- the number of programmes is the same
next_fair : (version : ℕ) (guaranteed wider : Guarantees) (table more : SeatTable) (seekers next : List Seeker) (seats others : List (Option Seat)) → AreFairInTurn version guaranteed wider table more seekers next seats others
    → IsFair (rule_of version wider more) (length table.programmes) next others
next_fair version guaranteed wider table more seekers next seats others turn =
    subst (λ n. IsFair (rule_of version wider more) n next others) (ap (λ l. length l) turn.raised.programmes) turn.next_fair

below : (version : ℕ) (guaranteed wider : Guarantees) (table more : SeatTable) (seekers next : List Seeker) (seats others : List (Option Seat)) (i : ℕ) (before : Seeker) (seat : Seat)
    → AreFairInTurn version guaranteed wider table more seekers next seats others → slice_get seekers i ≡ Some before → slice_get seats i ≡ Some (Some seat) → seat.prog.0 < length table.programmes
below version guaranteed wider table more seekers next seats others i before seat turn there has =
    let own : place_of before.list seat.prog.0 < length before.list = turn.fair.allocation.own i before (Some seat) there has in
    let read = place_read before.list seat.prog.0 own in
    subst (λ n. n < length table.programmes) read.2 (turn.market.below i _ before read.0 there read.1)

-- a seeker who still wants the programme of their seat has a seat, by what the next round gives
stays : ProgrammesChooseWell → ProgrammesGrow → (version : ℕ) (guaranteed wider : Guarantees) (table more : SeatTable) (seekers next : List Seeker) (seats others : List (Option Seat)) (i : ℕ) (before after : Seeker) (seat : Seat) (value : Option Seat)
    → AreFairInTurn version guaranteed wider table more seekers next seats others → slice_get seekers i ≡ Some before → slice_get next i ≡ Some after → slice_get seats i ≡ Some (Some seat)
    → place_of after.list seat.prog.0 < length after.list → slice_get others i ≡ Some value
    → (other : Seat) × (slice_get others i ≡ Some (Some other)) × (place_of before.list other.prog.0 ≤ place_of before.list seat.prog.0)
stays well grows version guaranteed wider table more seekers next seats others i before after seat None turn there there' has wanted at =
    absurd (falls.nobody_falls (rule_of version guaranteed table) (rule_of version wider more) (MayApplyIn table) (length table.programmes) seat.prog.0 i seekers next seats others before after seat.step turn.market
    (well version guaranteed table turn.are_seats) (grows version guaranteed wider table more turn.are_sure turn.are_seats turn.more_seats turn.raised) turn.fair (next_fair version guaranteed wider table more seekers next seats others turn) turn.narrowed
    (below version guaranteed wider table more seekers next seats others i before seat turn there has) there there' has wanted at)
stays well grows version guaranteed wider table more seekers next seats others i before after seat (Some other) turn there there' has wanted at =
    let own : place_of after.list other.prog.0 < length after.list = turn.next_fair.allocation.own i after (Some other) there' at in
    let applied = turn.narrowed.narrowed other.prog.0 i before after (Some seat) there there' has own in
    (other, at, (applies_means other.prog.0 before.list (Some seat) applied).within)

pub nobody_falls : ProgrammesChooseWell → ProgrammesGrow → NobodyFalls
nobody_falls well grows = λ version guaranteed wider table more seekers next seats others i before after seat turn there there' has wanted.
    let value = value_at next others i after turn.next_fair.allocation.full there' in
    stays well grows version guaranteed wider table more seekers next seats others i before after seat value.0 turn there there' has wanted value.1
