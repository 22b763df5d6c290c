use Rattle.std.proofs.Common.{◌≡◌, ◌+◌, ◌∙◌, Some, Ok, sym, ap, subst, arith}
use Rattle.office_moves.specs.Decided.{decided}
use Rattle.office_moves.specs.Facts.{SeasonFacts}
use Rattle.office_moves.specs.History.{asked, grown}
use Rattle.office_moves.specs.Moves.{Does, IsNextRound, allot_rows}
use Rattle.office_moves.specs.State.{State, with_round}
use Rattle.office_moves.specs.declared.decide.Decision.TheVariants.{Publish}
use Rattle.office_moves.specs.declared.moves.Act.TheVariants.{Cut}
use Rattle.office_moves.specs.declared.moves.Reply.TheVariants.{Published}
use Rattle.kept_rows.specs.Tables.{AreTold, with_cut}
use Rattle.proceedings.proofs.ChangeLemmas.{published_early}
use Rattle.round_cut.specs.Answering.{Accepts}
use Rattle.round_cut.specs.Office.{office_over}
use Rattle.round_cut.proofs.Publishing.{stand_round}
use Rattle.round_cut.proofs.Standing.{stand_moved, stand_told}
use Rattle.round_cut.proofs.office.Office.publish_round.Goals as goal

pub returns-clause-accepts : goal.returns-clause-accepts
returns-clause-accepts g c =
    let facts = c.self.inside.book.season in
    let state = c.self.inside.book.state in
    let round = c.in_ok-round.field-0.round in
    let reserved = c.reserve.ensures.state in
    let next : IsNextRound facts state round =
    subst (λ (s : State). IsNextRound facts s round) reserved (subst (λ (f : SeasonFacts). IsNextRound f c.reserve.new.self.state round) c.reserve.ensures.season c.in_ok-round.ensures.round) in
    let number = c.in_ok-round.ensures.round.number ∙ ap (λ (s : State). s.now + 1) reserved in
    let entered = c.publish.ensures.entries ∙ (λ i. grown (c.reserve.ensures.entries i) c.args.number (Some (Cut (reserved i).now))) in
    let moved : Does facts state Publish (Published round.number c.in_ok-round.field-0.seated) c.publish.new.self.state =
    (round, next, (λ i. Published (number i) (c.in_ok-round.ensures.seated i)), c.publish.ensures.state ∙ ap (λ (s : State). with_round s round) reserved) in
    subst (λ o. Accepts c.args.number Publish (Cut o.state.now) o (office_over c.publish.new.self c.put_cut.new.self) (Ok (Published round.number c.in_ok-round.field-0.seated))) c.self.view_is
    (record { moves = moved; entries = entered })

pub returns-clause-stands : goal.returns-clause-stands
returns-clause-stands g c =
    let facts = c.self.inside.book.season in
    let state = c.self.inside.book.state in
    let round = c.in_ok-round.field-0.round in
    let before = subst (λ o. decided o.season o.state (asked o.season (Cut o.state.now)) ≡ Publish) (sym c.self.view_is) c.requires.decided in
    let less = published_early facts state before in
    let order = c.entries-entries.ensures.orderly.course.order (omega (arith, less)) in
    let number = c.in_ok-round.ensures.round.number ∙ ap (λ (s : State). s.now + 1) c.reserve.ensures.state in
    let made = ap (λ (f : SeasonFacts). allot_rows f round) c.reserve.ensures.season in
    let rows = c.as_slice.ensures ∙ (c.in_ok-round.ensures.rows ∙ made) in
    let told = subst (λ r. AreTold (with_cut r (g.K.Keeper.seen c.self.inside.keeper).tables) (g.K.Keeper.seen c.put_cut.new.self).tables) rows c.in_ok-put_cut.ensures.ok in
    let kept = stand_round facts state round (g.K.Keeper.seen c.self.inside.keeper).tables order less number c.self.invariant.0 in
    stand_moved _ _ _ _ _ (c.publish.ensures.season ∙ c.reserve.ensures.season) (c.publish.ensures.state ∙ ap (λ (s : State). with_round s round) c.reserve.ensures.state)
    (stand_told facts (with_round state round) _ _ told kept)

pub invariant_of-self-2 : goal.invariant_of-self-2
invariant_of-self-2 g c =
    let facts = c.self.inside.book.season in
    let state = c.self.inside.book.state in
    let round = c.in_ok-round.field-0.round in
    let before = subst (λ o. decided o.season o.state (asked o.season (Cut o.state.now)) ≡ Publish) (sym c.self.view_is) c.requires.decided in
    let less = published_early facts state before in
    let order = c.entries-entries.ensures.orderly.course.order (omega (arith, less)) in
    let number = c.in_ok-round.ensures.round.number ∙ ap (λ (s : State). s.now + 1) c.reserve.ensures.state in
    let made = ap (λ (f : SeasonFacts). allot_rows f round) c.reserve.ensures.season in
    let rows = c.as_slice.ensures ∙ (c.in_ok-round.ensures.rows ∙ made) in
    let told = subst (λ r. AreTold (with_cut r (g.K.Keeper.seen c.self.inside.keeper).tables) (g.K.Keeper.seen c.put_cut.new.self).tables) rows c.in_ok-put_cut.ensures.ok in
    let kept = stand_round facts state round (g.K.Keeper.seen c.self.inside.keeper).tables order less number c.self.invariant.0 in (
      stand_moved _ _ _ _ _ (c.publish.ensures.season ∙ c.reserve.ensures.season) (c.publish.ensures.state ∙ ap (λ (s : State). with_round s round) c.reserve.ensures.state)
          (stand_told facts (with_round state round) _ _ told kept),
      λ holds.
          let few = c.self.invariant.1 (sym c.put_cut.ensures.call.blamed.room ∙ holds) in
          let spare = c.in_ok-put_cut.ensures.spare in
          let after = c.publish.ensures.still in
          let held = c.reserve.ensures.still in
          omega (arith, few, spare, after, held),
    )
