use Rattle.std.proofs.Common.{◌≡◌, ◌<◌, ℕ, get_or}
use Rattle.office_base.specs.declared.person.Place.TheVariants.{Absent}
use Rattle.list_audit.proofs.same.same_places.Given as goal

abbrev pub invariant-loop-k : goal.invariant-loop-k
invariant-loop-k l = (j : ℕ) → j < l.k → get_or l.a j Absent ≡ get_or l.b j Absent
