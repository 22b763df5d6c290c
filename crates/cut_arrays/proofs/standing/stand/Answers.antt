use Rattle.std.proofs.Common.{ap, sym, ◌∙◌, Some}
use Rattle.cut_arrays.proofs.PlaceLemmas.{stood_none, stood_some}
use Rattle.cut_arrays.proofs.standing.stand.Goals as goal

pub returns-in-Some : goal.returns-in-Some
returns-in-Some c = stood_some _ _ c.in-Some.choice c.in-Some.ensures ∙ ap Some (sym c.standing_of.ensures)

pub returns-in-None : goal.returns-in-None
returns-in-None c = stood_none _ _ c.in-None.ensures
