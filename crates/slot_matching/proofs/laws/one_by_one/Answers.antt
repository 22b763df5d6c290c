use Rattle.std.proofs.Common.{suc, length, ◌∷◌}
use Rattle.placements.proofs.Ranks.{taken, refused, same_people, placed_end, placed_front}
use Rattle.slot_matching.proofs.laws.one_by_one.Goals as goal

pub returns : goal.returns
returns c = λ protections people chosen all person distinct in_chosen with_person can h. (
  (λ joins. same_people protections (person ∷ people) all (suc (length chosen)) with_person.1 with_person.0
      (taken protections person chosen people in_chosen h (placed_front protections person chosen joins))),
  (λ apart. same_people protections (person ∷ people) all (length chosen) with_person.1 with_person.0
      (refused protections person chosen people distinct in_chosen can h (λ joins. apart (placed_end protections person chosen joins)))),
)
