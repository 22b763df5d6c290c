use Rattle.std.proofs.Common.{Err, ap, sym, ◌∙◌}
use Rattle.season_commands.proofs.CheckFaults.{season_failed, season_held}
use Rattle.command_answers.proofs.Ended.{all_left}
use Rattle.season_commands.proofs.bundle.read_bundle.Goals as goal

pub returns-in-Ok-clause-bundle : goal.returns-in-Ok-clause-bundle
returns-in-Ok-clause-bundle g c =
    let (bytes, took, end, is) = c.in-Ok.ensures.value in
    (bytes, all_left bytes _ _ took end, is)

pub returns-in-Err-clause-failure : goal.returns-in-Err-clause-failure
returns-in-Err-clause-failure g c =
    season_failed c.args.requests _ _ _ c.in-Err.fault c.bundle_failure.result (λ same. c.read.ensures.cause (c.in-Err.is ∙ ap Err same)) c.in-Err.ensures.fault c.bundle_failure.ensures

pub returns-in-Err-clause-steady : goal.returns-in-Err-clause-steady
returns-in-Err-clause-steady g c other =
    season_held c.in-Err.fault c.bundle_failure.result _ (λ known. c.read.ensures.steady (λ same. known (cc (sym c.in-Err.is ∙ same)))) c.bundle_failure.ensures (λ same. other (ap Err same))
