use Rattle.special_audit.proofs.OneFinding.{one_finding_of}
use Rattle.special_audit.proofs.laws.one_finding.Goals as goal

pub returns : goal.returns
returns c = λ bytes. one_finding_of (record {
  remaining = c.one_remaining_matrix.ensures;
  steps = c.one_step_changes.ensures;
  sound = c.one_season.ensures.sound;
  bytes_are = c.one_dossier_of_bytes.ensures;
  dossiers = c.one_dossier.ensures;
  texts = c.texts_are_one.ensures;
  verdicts = c.one_verdict.ensures;
  lists = c.one_remaining.ensures;
  readings = c.one_reading.ensures;
}) bytes
