use Rattle.std.proofs.Common.{ℕ, List, Ok, subst, ◌∙◌}
use Rattle.std.proofs.lemmas.Iterator.{items_from_collect}
use Rattle.std.proofs.lemmas.Iterator.Consumers.{YieldsList-from_rest}
use Rattle.std.specs.declared.alloc.AllocError.{AllocError}
use Rattle.seat_matrix.specs.Builder.{AreNumbers}
use Rattle.seat_matrix.specs.declared.entry.Home.{Home}
use Rattle.seat_matrix.proofs.Numbers.{kept_apart, made, made_kept}
use Rattle.seat_matrix.proofs.builder.MatrixBuilder.finish.Goals as goal

pub number-requires-clause-distinct : goal.number-requires-clause-distinct
number-requires-clause-distinct c =
    let (entries, keeps) = c.requires in
    let those = items_from_collect {E = AllocError} (Ok c.in_ok-programmes.programmes) c.in_ok-programmes.ensures.ran (YieldsList-from_rest c.args.self.programmes.entries c.into_iter.ensures.into_iter_gives.0) in
    kept_apart entries c.args.self keeps c.as_slice.result.now (c.as_slice.ensures.value ∙ those)

pub invariant_of-result : goal.invariant_of-result
invariant_of-result c =
    let (entries, keeps) = c.requires in
    let those = items_from_collect {E = AllocError} (Ok c.in_ok-programmes.programmes) c.in_ok-programmes.ensures.ran (YieldsList-from_rest c.args.self.programmes.entries c.into_iter.ensures.into_iter_gives.0) in
    let given = c.into_iter-2.ensures.into_iter_gives in
    let pairs = items_from_collect {E = AllocError} (Ok c.in_ok-collect.field-0) c.in_ok-collect.ensures.ran (YieldsList-from_rest c.in_ok-numbers.numbers.entries given.0) in
    made_kept entries c.args.self keeps c.in_ok-programmes.programmes.items c.in_ok-steps.steps.items c.in_ok-numbers.numbers c.in_ok-collect.field-0.items those (c.in_ok-steps.ensures entries keeps) (subst (λ (l : List (List ℕ × Home)). AreNumbers l c.in_ok-numbers.numbers) c.as_slice.ensures.value c.in_ok-numbers.ensures) pairs given.5

pub returns : goal.returns
returns c = λ entries keeps.
    let those = items_from_collect {E = AllocError} (Ok c.in_ok-programmes.programmes) c.in_ok-programmes.ensures.ran (YieldsList-from_rest c.args.self.programmes.entries c.into_iter.ensures.into_iter_gives.0) in
    made entries c.args.self keeps c.in_ok-programmes.programmes.items c.in_ok-steps.steps.items those (c.in_ok-steps.ensures entries keeps)
