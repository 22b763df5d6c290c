use Rattle.std.proofs.Common.{◌∙◌, ap, subst, false}
use Rattle.kept_rows.specs.Tables.{AreTold, with_season}
use Rattle.office_moves.specs.Facts.{SeasonFacts}
use Rattle.round_cut.proofs.Standing.{found_told, stand_begun}
use Rattle.round_cut.proofs.office.keep_season.Goals as goal

pub returns-clause-stands : goal.returns-clause-stands
returns-clause-stands g c =
    let none = found_told false _ _ c.reserve_answers.ensures.told c.requires in
    let text = c.as_slice.ensures ∙ ap (λ (f : SeasonFacts). f.text) c.season.ensures in
    let told = subst (λ t. AreTold (with_season t (g.K.Keeper.seen c.reserve_answers.new.self).tables) (g.K.Keeper.seen c.put_season.new.self).tables) text c.in_ok-put_season.ensures.ok in
    stand_begun c.args.book.now.season (g.K.Keeper.seen c.reserve_answers.new.self).tables (g.K.Keeper.seen c.put_season.new.self).tables none told
