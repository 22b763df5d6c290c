use Rattle.published_rounds.proofs.PaperVacancies as vacancies
use Rattle.published_rounds.proofs.laws.no_vacancy_fills_in_sound_papers.Goals as goal

pub returns : goal.returns
returns c =
    vacancies.no_vacancy_fills_in_sound_papers c.one_step_changes.ensures c.sound_is_fair.ensures c.no_vacancy_fills_by_itself.ensures c.few_new_holders.ensures c.few_newly_seated.ensures
