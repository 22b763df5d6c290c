use Rattle.published_rounds.proofs.FairThen as then
use Rattle.published_rounds.proofs.laws.no_vacancy_fills_by_itself_then.Goals as goal

pub returns : goal.returns
returns c = then.no_vacancy_fills_by_itself_then c.orderly.ensures c.choose_well.ensures c.grow.ensures c.no_vacancy_fills_by_itself.ensures
