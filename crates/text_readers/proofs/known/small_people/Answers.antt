use Rattle.text_readers.proofs.KnownLemmas.{small-people}
use Rattle.text_readers.proofs.known.small_people.Goals as goal

pub returns-clause-small : goal.returns-clause-small
returns-clause-small c = rw c.people.ensures.same (small-people c.args.register.now.people (λ id person e. (c.people.ensures.ranks.registered id person e).high))
