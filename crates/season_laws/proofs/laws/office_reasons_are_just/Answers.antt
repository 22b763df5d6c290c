use Rattle.season_laws.proofs.Reasons.{reasons_just}
use Rattle.season_laws.proofs.laws.office_reasons_are_just.Goals as goal

pub returns : goal.returns
returns c = reasons_just (record { well = c.choose_well.ensures; one = c.one_programme_choice.ensures; reasons = c.reasons_are_just.ensures })
