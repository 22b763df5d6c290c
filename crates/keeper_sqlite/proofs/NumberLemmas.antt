-- The numbers of choices are small.
use Rattle.std.proofs.Common.{◌<◌, ◌^◌, arith}
use Rattle.office_base.specs.declared.choice.Choice.{Choice}
use Rattle.office_base.specs.declared.choice.Choice.TheVariants.{Freeze, Float, Slide, Withdraw}
use Rattle.keeper_sqlite.specs.Numbers.{choice_number}

pub small_choice : (choice : Choice) → choice_number choice < 2 ^ 32
small_choice Freeze = omega arith
small_choice Float = omega arith
small_choice Slide = omega arith
small_choice Withdraw = omega arith
