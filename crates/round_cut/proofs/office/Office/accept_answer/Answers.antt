use Rattle.std.proofs.Common.{◌≡◌, ◌∙◌, sym, ap, arith, rules}
use Rattle.office_base.specs.declared.choice.Choice.TheVariants.{Withdraw}
use Rattle.office_moves.specs.State.{State, with_row}
use Rattle.round_cut.proofs.Counts.{still_less, still_most}
use Rattle.round_cut.proofs.Standing.{stand_answer, stand_moved, stand_told}
use Rattle.round_cut.proofs.office.Office.accept_answer.Goals as goal

pub returns-then-eq-clause-stands : goal.returns-then-eq-clause-stands
returns-then-eq-clause-stands g c =
    let kept = stand_answer c.self.inside.book.season c.self.inside.book.state c.args.row (g.K.Keeper.seen c.self.inside.keeper).tables c.self.invariant.0 in
    stand_moved _ _ _ _ _ c.note.ensures.season c.note.ensures.state
    (stand_told c.self.inside.book.season (with_row c.self.inside.book.state c.args.row) _ _ c.in_ok-put_answer.ensures.put.ok kept)

pub invariant_of-self-then-eq : goal.invariant_of-self-then-eq
invariant_of-self-then-eq g c =
    let kept = stand_answer c.self.inside.book.season c.self.inside.book.state c.args.row (g.K.Keeper.seen c.self.inside.keeper).tables c.self.invariant.0 in
    let leaves : c.args.row.choice ≡ Withdraw = search rules in (
      stand_moved _ _ _ _ _ c.note.ensures.season c.note.ensures.state
          (stand_told c.self.inside.book.season (with_row c.self.inside.book.state c.args.row) _ _ c.in_ok-put_answer.ensures.put.ok kept),
      λ holds.
          let few = c.self.invariant.1 (sym c.put_answer.ensures.put.call.blamed.room ∙ holds) in
          let spare = c.in_ok-put_answer.ensures.put.spare in
          let after = still_less _ _ _ leaves c.note.ensures.still in
          omega (arith, few, spare, after),
    )

pub returns-clause-stands : goal.returns-clause-stands
returns-clause-stands g c =
    let season = c.note-2.ensures.season ∙ c.reserve.ensures.season in
    let state = c.note-2.ensures.state ∙ ap (λ (s : State). with_row s c.args.row) c.reserve.ensures.state in
    let told = stand_told c.self.inside.book.season c.self.inside.book.state _ _ c.reserve_answers.ensures.told c.self.invariant.0 in
    let kept = stand_answer c.self.inside.book.season c.self.inside.book.state c.args.row (g.K.Keeper.seen c.reserve_answers.new.self).tables told in
    stand_moved _ _ _ _ _ season state (stand_told c.self.inside.book.season (with_row c.self.inside.book.state c.args.row) _ _ c.in_ok-put_answer-2.ensures.put.ok kept)

pub invariant_of-self-2 : goal.invariant_of-self-2
invariant_of-self-2 g c =
    let season = c.note-2.ensures.season ∙ c.reserve.ensures.season in
    let state = c.note-2.ensures.state ∙ ap (λ (s : State). with_row s c.args.row) c.reserve.ensures.state in
    let told = stand_told c.self.inside.book.season c.self.inside.book.state _ _ c.reserve_answers.ensures.told c.self.invariant.0 in
    let kept = stand_answer c.self.inside.book.season c.self.inside.book.state c.args.row (g.K.Keeper.seen c.reserve_answers.new.self).tables told in (
      stand_moved _ _ _ _ _ season state (stand_told c.self.inside.book.season (with_row c.self.inside.book.state c.args.row) _ _ c.in_ok-put_answer-2.ensures.put.ok kept),
      λ holds.
          let held = sym c.reserve_answers.ensures.call.blamed.room ∙ (sym c.put_answer-2.ensures.put.call.blamed.room ∙ holds) in
          let room = c.in_ok-reserve_answers.ensures.ok held in
          let wanted = c.room_wanted-wanted.ensures in
          let spare = c.in_ok-put_answer-2.ensures.put.spare in
          let after = still_most _ _ _ c.note-2.ensures.still in
          let before = c.reserve.ensures.still in
          omega (arith, room, wanted, spare, after, before),
    )
