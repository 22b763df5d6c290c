use Rattle.published_rounds.proofs.Papers as papers
use Rattle.published_rounds.proofs.laws.sound_papers_are_justified.Goals as goal

pub returns : goal.returns
returns c = papers.sound_papers_are_justified c.one_step_changes.ensures c.sound_is_fair.ensures c.fair_seats_are_justified.ensures
