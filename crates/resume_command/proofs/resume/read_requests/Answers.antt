use Rattle.std.proofs.Common.{Err, ap, sym, ◌∙◌}
use Rattle.season_commands.proofs.CheckFaults.{season_held}
use Rattle.resume_command.proofs.Requests.{requests_failed}
use Rattle.resume_command.proofs.resume.read_requests.Goals as goal

pub returns-in-Err-clause-failure : goal.returns-in-Err-clause-failure
returns-in-Err-clause-failure g c =
    requests_failed _ _ _ c.in-Err.fault c.bundle_failure.result (λ same. c.read_script.ensures.cause (c.in-Err.is ∙ ap Err same)) c.in-Err.ensures.fault c.bundle_failure.ensures

pub returns-in-Err-clause-steady : goal.returns-in-Err-clause-steady
returns-in-Err-clause-steady g c other =
    season_held c.in-Err.fault c.bundle_failure.result _ (λ known. c.read_script.ensures.steady (λ same. known (cc (sym c.in-Err.is ∙ same)))) c.bundle_failure.ensures (λ same. other (ap Err same))
