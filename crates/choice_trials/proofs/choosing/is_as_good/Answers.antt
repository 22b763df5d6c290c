use Rattle.std.proofs.Common.{arith, eqb-true}
use Rattle.placements.proofs.Sublists.{AllByRecursion-sublist}
use Rattle.placements.proofs.Ranks.{pairwise_sublist}
use Rattle.choice_trials.proofs.Against.{IsAsGood-from_no_worse, IsNoWorse-from_as_good, honours_no_fewer}
use Rattle.choice_trials.proofs.choosing.is_as_good.Goals as goal

pub honoured-number-requires-clause-distinct : goal.honoured-number-requires-clause-distinct
honoured-number-requires-clause-distinct c = pairwise_sublist _ _ _ c.requires.set c.requires.step.people.distinct

pub honoured-number-requires-clause-traits : goal.honoured-number-requires-clause-traits
honoured-number-requires-clause-traits c = AllByRecursion-sublist _ _ _ c.requires.set c.requires.step.people.traits

pub honoured-others_number-requires-clause-distinct : goal.honoured-others_number-requires-clause-distinct
honoured-others_number-requires-clause-distinct c = pairwise_sublist _ _ _ c.requires.other c.requires.step.people.distinct

pub honoured-others_number-requires-clause-traits : goal.honoured-others_number-requires-clause-traits
honoured-others_number-requires-clause-traits c = AllByRecursion-sublist _ _ _ c.requires.other c.requires.step.people.traits

pub returns-then-others_number-number-2 : goal.returns-then-others_number-number-2
returns-then-others_number-number-2 c = (
  λ yes. IsAsGood-from_no_worse _ _ _ _ _ c.honoured-number.ensures.number c.honoured-others_number.ensures.number c.if-others_number-number-2.true (c.is_no_worse.ensures.0 yes),
  λ good. c.is_no_worse.ensures.1 (IsNoWorse-from_as_good _ _ _ _ _ c.honoured-number.ensures.number c.honoured-others_number.ensures.number c.if-others_number-number-2.true good),
)

pub returns-else-others_number-number-2 : goal.returns-else-others_number-number-2
returns-else-others_number-number-2 c = (
  λ yes. absurd (c.if-others_number-number-2.false (eqb-true _ _ yes)),
  λ good.
      let fewer = honours_no_fewer _ _ _ _ _ c.honoured-number.ensures.number c.honoured-others_number.ensures.number good in
      absurd (c.if-others_number-number-2.false (omega arith)),
)
