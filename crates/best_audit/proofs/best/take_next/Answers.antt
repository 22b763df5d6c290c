use Rattle.std.proofs.Common.{sym, ◌∙◌}
use Rattle.office_base.proofs.Options.{none_from}
use Rattle.season_facts.specs.Season.{facts_of}
use Rattle.season_audit.specs.Audit.{papers_in}
use Rattle.best_audit.proofs.Replaying.{found_there, goes_on, never_broken}
use Rattle.best_audit.proofs.best.take_next.Goals as goal

pub unreachable-requires : goal.unreachable-requires
unreachable-requires c =
    let found = found_there c.in_ok-take.field-0 (sym c.is_some.ensures ∙ c.if-is_some.true) in
    never_broken (facts_of c.args.dossier.now.season) c.args.dossier.now.script (papers_in c.args.dossier.now) c.args.at c.take.new.self c.in_ok-take.field-0 found.0 c.one_verdict.ensures c.requires.sound
    c.requires.within c.in_ok-take.ensures found.1

pub returns : goal.returns
returns c =
    goes_on (facts_of c.args.dossier.now.season) c.args.dossier.now.script (papers_in c.args.dossier.now) c.args.at c.take.new.self c.in_ok-take.field-0 c.requires.within c.in_ok-take.ensures
    (none_from c.in_ok-take.field-0 (sym c.is_some.ensures ∙ c.if-is_some.false))
