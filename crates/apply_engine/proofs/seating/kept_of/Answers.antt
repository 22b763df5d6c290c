use Rattle.std.proofs.Common.{arith}
use Rattle.apply_engine.proofs.Keeping.{last_is, last_is_not}
use Rattle.apply_engine.proofs.seating.kept_of.Goals as goal

pub returns-then-last-prog : goal.returns-then-last-prog
returns-then-last-prog c =
    last_is_not c.args.list.now c.args.tried _ c.args.prog _ (omega (arith, c.from.ensures, c.if-tried-eq0.false)) c.requires.within c.if-last-prog.true

pub returns : goal.returns
returns c =
    last_is c.args.list.now c.args.tried _ c.args.prog _ (omega (arith, c.from.ensures, c.if-tried-eq0.false)) c.requires.within c.requires.in_place c.if-last-prog.false
