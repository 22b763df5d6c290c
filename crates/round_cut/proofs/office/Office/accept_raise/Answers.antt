use Rattle.std.proofs.Common.{◌∙◌, sym, ap, arith}
use Rattle.office_moves.specs.State.{State, with_raise}
use Rattle.round_cut.proofs.Standing.{stand_moved, stand_raise, stand_told}
use Rattle.round_cut.proofs.office.Office.accept_raise.Goals as goal

pub returns-clause-stands : goal.returns-clause-stands
returns-clause-stands g c =
    let season = c.lift.ensures.season ∙ c.reserve.ensures.season in
    let state = c.lift.ensures.state ∙ ap (λ (s : State). with_raise s c.args.row) c.reserve.ensures.state in
    let kept = stand_raise c.self.inside.book.season c.self.inside.book.state c.args.row (g.K.Keeper.seen c.self.inside.keeper).tables c.self.invariant.0 in
    stand_moved _ _ _ _ _ season state (stand_told c.self.inside.book.season (with_raise c.self.inside.book.state c.args.row) _ _ c.in_ok-put_raise.ensures.ok kept)

pub invariant_of-self-2 : goal.invariant_of-self-2
invariant_of-self-2 g c =
    let season = c.lift.ensures.season ∙ c.reserve.ensures.season in
    let state = c.lift.ensures.state ∙ ap (λ (s : State). with_raise s c.args.row) c.reserve.ensures.state in
    let kept = stand_raise c.self.inside.book.season c.self.inside.book.state c.args.row (g.K.Keeper.seen c.self.inside.keeper).tables c.self.invariant.0 in (
      stand_moved _ _ _ _ _ season state (stand_told c.self.inside.book.season (with_raise c.self.inside.book.state c.args.row) _ _ c.in_ok-put_raise.ensures.ok kept),
      λ holds.
          let few = c.self.invariant.1 (sym c.put_raise.ensures.call.blamed.room ∙ holds) in
          let spare = c.in_ok-put_raise.ensures.spare in
          let after = c.lift.ensures.still in
          let before = c.reserve.ensures.still in
          omega (arith, few, spare, after, before),
    )
