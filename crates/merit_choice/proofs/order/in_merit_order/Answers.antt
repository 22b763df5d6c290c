use Rattle.std.proofs.Common.{subst, rules}
use Rattle.std.proofs.lemmas.List.Sorted.{IsNonDecreasingBy-from_sort_by_key}
use Rattle.std.specs.List.Sorted.{IsPermutation}
use Rattle.merit_choice.specs.Order.{merit_in}
use Rattle.merit_choice.proofs.Sorting.{IsMeritOrder, sorted_people, sorted_in_merit}
use Rattle.merit_choice.proofs.order.in_merit_order.Goals as goal

pub returns-clause-order : goal.returns-clause-order
returns-clause-order c =
    sorted_in_merit c.one_merit_order.ensures c.args.list c.args.people.now c.sort_by_key.new.self.items c.requires.people
    (sorted_people c.args.list c.args.people.now c.sort_by_key.new.self.items c.requires.people
    (subst (λ people. IsPermutation people c.sort_by_key.new.self.items) c.in_ok-ranked.ensures.items c.sort_by_key.ensures.permutation)
    (IsNonDecreasingBy-from_sort_by_key (merit_in c.args.list) _ c.in_ok-sort_by_key.ensures.sorted (λ a r q k. search rules)))

pub returns-clause-ranked : goal.returns-clause-ranked
returns-clause-ranked c =
    let order : IsMeritOrder c.args.list c.args.people.now c.sort_by_key.new.self.items =
    sorted_people c.args.list c.args.people.now c.sort_by_key.new.self.items c.requires.people
    (subst (λ people. IsPermutation people c.sort_by_key.new.self.items) c.in_ok-ranked.ensures.items c.sort_by_key.ensures.permutation)
    (IsNonDecreasingBy-from_sort_by_key (merit_in c.args.list) _ c.in_ok-sort_by_key.ensures.sorted (λ a r q k. search rules)) in
    order.in_order
