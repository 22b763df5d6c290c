use Rattle.season_laws.proofs.Answered.{every_request}
use Rattle.season_laws.proofs.laws.every_request_is_answered.Goals as goal

pub returns : goal.returns
returns c = λ facts. every_request facts (c.next_round_exists.ensures facts) c.lists_hold_choices.ensures c.cutoffs_exist.ensures
