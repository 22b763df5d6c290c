-- What several calls of a keeper blame, one after another.
use Rattle.std.proofs.Common.{◌∙◌, arith}
use Rattle.keeper_mem.specs.Keeper.{Blames, KeeperView}

-- an equivalent cause has the same counts
pub blames_as : (one told : Type 0) (old new : KeeperView) → (one → told) → (told → one) → Blames one old new → Blames told old new
blames_as one told old new on back is = record { cause = λ t. is.cause (back t); count = is.count; steady = λ no. is.steady (λ o. no (on o)); room = is.room }

-- after a call that reports no fault
pub blames_after : (first told : Type 0) (old mid new : KeeperView) → (first → ⊥) → Blames first old mid → Blames told mid new → Blames told old new
blames_after first told old mid new none one two = record {
  cause = λ t. let rose = two.cause t in omega (arith, one.count, rose);
  count = omega (arith, one.count, two.count);
  steady = λ no. two.steady no ∙ one.steady none;
  room = two.room ∙ one.room;
}
