use Rattle.std.proofs.Common.{Err, ap, sym, ◌∙◌}
use Rattle.command_answers.proofs.Ended.{all_left}
use Rattle.units_command.proofs.UnitsEnds.{text_failed, unit_failed, unit_held}
use Rattle.units_command.proofs.units.read_units.Goals as goal

pub returns-in-Ok-of_text-clause-bundle : goal.returns-in-Ok-of_text-clause-bundle
returns-in-Ok-of_text-clause-bundle g c =
    let (bytes, took, end, made) = c.in-Ok.ensures.text in
    let read = c.in-Ok-of_text.ensures.value in (
      bytes,
      c.in-Ok.text,
      all_left bytes _ _ took end,
      (made, read, c.seats_right.ensures bytes c.in-Ok.text made c.in-Ok-of_text.season c.in-Ok-of_text.script read),
    )

pub returns-in-Err-clause-failure : goal.returns-in-Err-clause-failure
returns-in-Err-clause-failure g c =
    unit_failed _ _ _ c.in-Err.fault c.unit_failure.result (λ same. c.expand.ensures.cause (c.in-Err.is ∙ ap Err same)) c.in-Err.ensures.fault c.unit_failure.ensures

pub returns-in-Err-clause-steady : goal.returns-in-Err-clause-steady
returns-in-Err-clause-steady g c other =
    unit_held c.in-Err.fault c.unit_failure.result _ (λ known. c.expand.ensures.steady (λ same. known (cc (sym c.in-Err.is ∙ same)))) c.unit_failure.ensures (λ same. other (ap Err same))

pub returns-in-Err-of_text-clause-failure : goal.returns-in-Err-of_text-clause-failure
returns-in-Err-of_text-clause-failure g c =
    let (bytes, took, end, made) = c.in-Ok.ensures.text in
    text_failed _ bytes c.in-Ok.text _ c.in-Err-of_text.fault c.bundle_failure.result (all_left bytes _ _ took end) made.made c.in-Err-of_text.ensures.fault c.bundle_failure.ensures
