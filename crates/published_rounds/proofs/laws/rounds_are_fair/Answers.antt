use Rattle.published_rounds.proofs.Vacancies as vacancies
use Rattle.published_rounds.proofs.laws.rounds_are_fair.Goals as goal

pub returns : goal.returns
returns c = vacancies.rounds_are_fair
