use Rattle.std.proofs.Common.{◌≡◌, ◌++◌, drop}
use Rattle.published_texts.specs.Texts.{AreSeatsOf, allot_lines}
use Rattle.published_texts.proofs.round.push_allots.Given as goal

abbrev pub invariant-loop-at : goal.invariant-loop-at
invariant-loop-at l = record {
  so_far : l.out ++ allot_lines l.matrix (drop l.at l.people) (drop l.at l.seats) ≡ l.fn.out ++ allot_lines l.matrix l.people l.seats;
  programmes : AreSeatsOf l.matrix (drop l.at l.seats);
}
