-- The statuses that replies have.
use Rattle.std.specs.Prelude.{ℕ, Bool, ◌==◌, ◌||◌}

-- 200; or that of a refusal: 403 if the one who asks may not, 404 if there is no such thing, 409 if the state rules it out.
-- The statuses of the two faults are not among them.
abbrev pub is_reply_status : ℕ → Bool
is_reply_status status = (status == 200) || (status == 403) || (status == 404) || (status == 409)
