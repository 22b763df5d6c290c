use Rattle.std.proofs.Common.{◌≡◌, ◌∙◌, Err, ap, sym}
use Rattle.round_cut.specs.declared.fault.BeginFault.TheVariants.{KeeperFault}
use Rattle.round_cut.proofs.Blaming.{blames_after, blames_as}
use Rattle.round_cut.proofs.office.Office.begin.Goals as goal

pub returns-in-Err-keep_season-clause-blamed_err : goal.returns-in-Err-keep_season-clause-blamed_err
returns-in-Err-keep_season-clause-blamed_err g c =
    let kept = blames_as _ (c.in-Err-keep_season.fault ≡ KeeperFault) _ _ (λ same. cc (sym c.in-Err-keep_season.is ∙ same)) (λ same. c.in-Err-keep_season.is ∙ ap Err same) c.keep_season.ensures.blamed in
    blames_after _ _ _ _ _ (λ same. absurd (cc (sym c.in_default.is ∙ same))) c.expect_empty.ensures.blamed kept
