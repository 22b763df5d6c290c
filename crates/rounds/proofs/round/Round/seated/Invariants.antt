use Rattle.std.proofs.Common.{◌≡◌, ◌+◌, ◌≤◌, drop, length}
use Rattle.rounds.specs.Round.{seated}
use Rattle.rounds.proofs.round.Round.seated.Given as goal

abbrev pub invariant-loop-seat : goal.invariant-loop-seat
invariant-loop-seat l = record {
  counted : l.count + seated (drop l.seat-index l.seat-items) ≡ seated l.self.seats;
  few : l.count ≤ l.seat-index;
}
