use Rattle.std.proofs.Common.{subst}
use Rattle.office_moves.specs.Stands.{Stand}
use Rattle.round_cut.proofs.office.Office.into_keeper.Goals as goal

pub returns-clause-stands : goal.returns-clause-stands
returns-clause-stands g c = subst (λ o. Stand o.season o.state (g.K.Keeper.seen c.self.inside.keeper).tables) c.self.view_is c.self.invariant.0
