use Rattle.std.proofs.Common.{◌+◌}
use Rattle.office_moves.specs.Moves.{final_seat}
use Rattle.season_facts.specs.Season.{facts_of}
use Rattle.audit_rules.proofs.Ending.{Ends}
use Rattle.audit_rules.proofs.finals.are_final.Given as goal

abbrev pub invariant-loop-k : goal.invariant-loop-k
invariant-loop-k g l = Ends ((facts_of l.season).rounds + 1) (final_seat (facts_of l.season) g.state) (facts_of l.season).people l.rows l.k l.next
