use Rattle.published_rounds.proofs.Vacancies as vacancies
use Rattle.published_rounds.proofs.laws.no_vacancy_fills_by_itself.Goals as goal

pub returns : goal.returns
returns c = vacancies.no_vacancy_fills_by_itself c.choose_well.ensures c.admit_no_fewer.ensures
