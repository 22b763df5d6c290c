use Rattle.season_laws.proofs.Reasons.{told_reasons_just}
use Rattle.season_laws.proofs.laws.told_reasons_are_just.Goals as goal

pub returns : goal.returns
returns c = λ facts. told_reasons_just facts (c.office_reasons_are_just.ensures facts)
