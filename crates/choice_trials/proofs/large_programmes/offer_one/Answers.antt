use Rattle.std.proofs.Common.{◌∷◌}
use Rattle.programme_lists.specs.Chosen.{everybody}
use Rattle.choice_trials.proofs.large_programmes.offer_one.Goals as goal
use Rattle.open_then_category.specs.State.{admissions_of}

pub returns-clause-may : goal.returns-clause-may
returns-clause-may g c =
    let state = c.args.state.now in
    let all = c.args.person.now ∷ everybody (admissions_of state) in
    let once = c.admitted_once.ensures state.version state.seats all (admissions_of c.offer.new.self) c.requires.sound c.requires.may c.offer.ensures.choice in
    c.part_can_be_ranked.ensures state.seats.list (everybody (admissions_of c.offer.new.self)) all once.0 c.requires.may once.1
