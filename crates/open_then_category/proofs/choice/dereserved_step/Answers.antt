use Rattle.std.proofs.Common.{◌≡◌, ℕ, List, take, length, ap, sym, subst, arith}
use Rattle.std.specs.List.{filter}
use Rattle.office_base.specs.StepChoice.{AreRanked}
use Rattle.office_base.specs.declared.person.ListId.{ListId}
use Rattle.office_base.specs.declared.person.Person.{Person}
use Rattle.placements.proofs.Sublists.{IsSublist-take, length-sublist}
use Rattle.placements.proofs.Ranks.{ranked_sublist}
use Rattle.placements.proofs.Filters.{filter-sublist}
use Rattle.office_base.specs.Person.{is_common}
use Rattle.open_then_category.proofs.choice.dereserved_step.Goals as goal

-- the best of those who pass are ranked
best_ranked : (list : ListId) (seats : ℕ) (left people admitted : List Person) → AreRanked list left → people ≡ filter (is_common list) left → admitted ≡ take seats people → AreRanked list admitted
best_ranked list seats left people admitted ranked same best =
    let some : AreRanked list people = subst (AreRanked list) (sym same) (ranked_sublist list (filter (is_common list) left) left ranked (filter-sublist (is_common list) left)) in
    subst (AreRanked list) (sym best) (ranked_sublist list (take seats people) people some (IsSublist-take seats people))

pub canonical_pairs-requires-clause-distinct : goal.canonical_pairs-requires-clause-distinct
canonical_pairs-requires-clause-distinct c =
    let best : c.as_slice.result.now ≡ take c.args.seats c.in_ok-people.people = cc (c.as_slice.ensures, c.in_ok-admitted.ensures, c.in_ok-people.ensures) in
    (best_ranked c.args.list c.args.seats c.args.left.now c.in_ok-people.people c.as_slice.result.now c.requires.ranked c.in_ok-people.ensures best).distinct

pub canonical_pairs-requires-clause-traits : goal.canonical_pairs-requires-clause-traits
canonical_pairs-requires-clause-traits c =
    let best : c.as_slice.result.now ≡ take c.args.seats c.in_ok-people.people = cc (c.as_slice.ensures, c.in_ok-admitted.ensures, c.in_ok-people.ensures) in
    (best_ranked c.args.list c.args.seats c.args.left.now c.in_ok-people.people c.as_slice.result.now c.requires.ranked c.in_ok-people.ensures best).traits

pub overflow_cast-result : goal.overflow_cast-result
overflow_cast-result c =
    let same = ap length c.in_ok-people.ensures in
    let fewer = length-sublist (filter (is_common c.args.list) c.args.left.now) c.args.left.now (filter-sublist (is_common c.args.list) c.args.left.now) in
    let long = c.len.ensures in
    omega arith
