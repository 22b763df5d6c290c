use Rattle.std.proofs.Common.{◌≡◌, ◌≤◌, ◌∙◌, length, sym, ap, subst, arith}
use Rattle.office_moves.specs.Decided.{decided}
use Rattle.office_moves.specs.Facts.{SeasonFacts}
use Rattle.office_moves.specs.History.{asked}
use Rattle.office_moves.specs.Moves.{final_rows}
use Rattle.office_moves.specs.State.{State, with_finals}
use Rattle.office_moves.specs.declared.decide.Decision.TheVariants.{Finish}
use Rattle.office_moves.specs.declared.moves.Act.TheVariants.{Cut}
use Rattle.kept_rows.specs.Tables.{AreTold, with_cut}
use Rattle.proceedings.proofs.ChangeLemmas.{finished_last}
use Rattle.round_cut.proofs.Counts.{final_few}
use Rattle.round_cut.proofs.Publishing.{stand_finals}
use Rattle.round_cut.proofs.Standing.{stand_moved, stand_told}
use Rattle.round_cut.proofs.office.Office.finish_season.Goals as goal

pub returns-clause-stands : goal.returns-clause-stands
returns-clause-stands g c =
    let facts = c.self.inside.book.season in
    let state = c.self.inside.book.state in
    let before = subst (λ o. decided o.season o.state (asked o.season (Cut o.state.now)) ≡ Finish) (sym c.self.view_is) c.requires.decided in
    let last = finished_last facts state before in
    let none = c.entries-entries.ensures.orderly.unfinished (omega (arith, last)) in
    let made = ap (λ (f : SeasonFacts). final_rows f c.reserve.new.self.state) c.reserve.ensures.season ∙ ap (λ (s : State). final_rows facts s) c.reserve.ensures.state in
    let rows = c.in_ok-admissions.ensures ∙ made in
    let told = subst (λ r. AreTold (with_cut r (g.K.Keeper.seen c.self.inside.keeper).tables) (g.K.Keeper.seen c.put_cut.new.self).tables) (c.as_slice.ensures ∙ rows) c.in_ok-put_cut.ensures.ok in
    let kept = stand_finals facts state (g.K.Keeper.seen c.self.inside.keeper).tables none c.self.invariant.0 in
    let after = c.finish.ensures.state ∙ (ap (λ (s : State). with_finals s c.in_ok-admissions.admissions) c.reserve.ensures.state ∙ ap (λ r. with_finals state r) rows) in
    stand_moved _ _ _ _ _ (c.finish.ensures.season ∙ c.reserve.ensures.season) after (stand_told facts (with_finals state (final_rows facts state)) _ _ told kept)

pub invariant_of-self-2 : goal.invariant_of-self-2
invariant_of-self-2 g c =
    let facts = c.self.inside.book.season in
    let state = c.self.inside.book.state in
    let before = subst (λ o. decided o.season o.state (asked o.season (Cut o.state.now)) ≡ Finish) (sym c.self.view_is) c.requires.decided in
    let last = finished_last facts state before in
    let none = c.entries-entries.ensures.orderly.unfinished (omega (arith, last)) in
    let made = ap (λ (f : SeasonFacts). final_rows f c.reserve.new.self.state) c.reserve.ensures.season ∙ ap (λ (s : State). final_rows facts s) c.reserve.ensures.state in
    let rows = c.in_ok-admissions.ensures ∙ made in
    let told = subst (λ r. AreTold (with_cut r (g.K.Keeper.seen c.self.inside.keeper).tables) (g.K.Keeper.seen c.put_cut.new.self).tables) (c.as_slice.ensures ∙ rows) c.in_ok-put_cut.ensures.ok in
    let kept = stand_finals facts state (g.K.Keeper.seen c.self.inside.keeper).tables none c.self.invariant.0 in
    let after = c.finish.ensures.state ∙ (ap (λ (s : State). with_finals s c.in_ok-admissions.admissions) c.reserve.ensures.state ∙ ap (λ r. with_finals state r) rows) in (
      stand_moved _ _ _ _ _ (c.finish.ensures.season ∙ c.reserve.ensures.season) after (stand_told facts (with_finals state (final_rows facts state)) _ _ told kept),
      λ holds.
          let few = c.self.invariant.1 (sym c.put_cut.ensures.call.blamed.room ∙ holds) in
          let spare = c.in_ok-put_cut.ensures.spare in
          let falls = c.finish.ensures.still in
          let held = c.reserve.ensures.still in
          omega (arith, few, spare, falls, held),
    )

pub overflow_cast-admitted : goal.overflow_cast-admitted
overflow_cast-admitted g c =
    let book = c.reserve.new.self in
    let some : length c.in_ok-admissions.admissions ≤ length book.season.people =
    subst (λ rows. length rows ≤ length book.season.people) (sym c.in_ok-admissions.ensures) (final_few book.season book.state) in
    let people = ap (λ (f : SeasonFacts). length f.people) c.season.ensures in
    let few = c.people-people.ensures.ranks.few in
    let len = c.len-admitted.ensures in
    omega (arith, some, people, few, len)
