use Rattle.std.proofs.lemmas.Option.{slice_get-get_or}
use Rattle.choice_lists.proofs.ChoicesLemmas.{row_own}
use Rattle.choice_lists.proofs.builder.read_person.Goals as goal

pub returns-clause-row : goal.returns-clause-row
returns-clause-row c =
    let people = c.args.register.now.people in
    rw c.people.ensures.same (row_own people c.in_ok-id.id c.in_ok-at.field-0 _ c.in_ok-at.ensures.row c.in_ok-at.ensures.person (slice_get-get_or people c.in_ok-at.field-0 _ c.in_ok-at.ensures.within))
