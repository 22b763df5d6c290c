use Rattle.std.proofs.Common.{inl, inr}
use Rattle.season_commands.proofs.GeneratedEnds.{stands_for_all, stands_for_first, summed}
use Rattle.season_commands.proofs.generated_run.counted_text.Goals as goal

pub returns-in-Ok-tallied_text-clause-summed : goal.returns-in-Ok-tallied_text-clause-summed
returns-in-Ok-tallied_text-clause-summed g c =
    summed c.args.n c.args.seed c.args.office.now.season c.args.office.now.state c.args.script.now c.count_all.new.office.state _ c.in-Ok.tally c.in-Ok-tallied_text.text c.requires.opening
    c.in-Ok.ensures.counted c.in-Ok-tallied_text.ensures

pub returns-in-Err-tallied_text-clause-memory : goal.returns-in-Err-tallied_text-clause-memory
returns-in-Err-tallied_text-clause-memory g c e =
    inr (stands_for_all c.args.office.now.season c.args.office.now.state c.args.script.now c.count_all.new.office.state _ c.in-Ok.tally c.requires.opening c.in-Ok.ensures.counted)

pub returns-in-Err-clause-keeper : goal.returns-in-Err-clause-keeper
returns-in-Err-clause-keeper g c e =
    stands_for_first c.args.office.now.season c.args.office.now.state c.args.script.now c.count_all.new.office.state _ c.requires.opening c.in-Err.ensures.stopped

pub returns-in-Err-clause-memory : goal.returns-in-Err-clause-memory
returns-in-Err-clause-memory g c e =
    inl (stands_for_first c.args.office.now.season c.args.office.now.state c.args.script.now c.count_all.new.office.state _ c.requires.opening c.in-Err.ensures.stopped)
