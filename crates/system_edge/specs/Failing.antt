-- Which object the result of a call blames.
use Rattle.std.specs.Prelude.{◌≡◌, ◌≤◌, ℕ, Result, OnOk, OnErr}
use Rattle.office_base.specs.Outside.{Rose}

-- A link or a door reports that it failed if and only if it failed in this call:
-- then its count of faults rose, and otherwise the count is unchanged.
pub record FailsIn {X Y : Type 0} (result : Result X Y) (old new : ℕ) : Type 0 where
  pub count : old ≤ new
  pub steady : OnOk result (new ≡ old)
  pub cause : OnErr result (Rose old new)
