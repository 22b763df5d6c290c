use Rattle.std.proofs.Common.{◌≡◌, map, take}
use Rattle.season_facts.specs.Season.{facts_of}
use Rattle.office_moves.specs.State.{with_round}
use Rattle.audit_rules.specs.Replay.{round_of}
use Rattle.audit_rules.specs.Stands.{stand_of}
use Rattle.audit_rules.proofs.next.stands_after.Given as goal

abbrev pub invariant-loop-k : goal.invariant-loop-k
invariant-loop-k g l =
    l.next.items ≡ map (λ person. stand_of (facts_of l.season) (with_round g.at.state (round_of (facts_of l.season) g.at.papers g.at.state)) person.id.0) (take l.k (facts_of l.season).people)
