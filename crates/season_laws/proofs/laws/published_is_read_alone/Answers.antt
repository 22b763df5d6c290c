use Rattle.season_laws.proofs.ReadAlone.{read_alone}
use Rattle.season_laws.proofs.laws.published_is_read_alone.Goals as goal

pub returns : goal.returns
returns c = λ facts. read_alone facts (c.published_is_read.ensures facts) c.rounds_are_one.ensures c.finals_are_one.ensures c.lists_are_one.ensures
