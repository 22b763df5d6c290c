use Rattle.std.proofs.Common.{◌∷◌}
use Rattle.placements.proofs.Ranks.{diminishing, same_people}
use Rattle.slot_matching.proofs.laws.diminishing_returns.Goals as goal

pub returns : goal.returns
returns c = λ protections some people some_with people_with person m m' n n' distinct in_some with_some with_people hs hp hs' hp'.
    diminishing protections person some people m m' n n' distinct in_some hs hp
    (same_people protections some_with (person ∷ some) n with_some.0 with_some.1 hs')
    (same_people protections people_with (person ∷ people) n' with_people.0 with_people.1 hp')
