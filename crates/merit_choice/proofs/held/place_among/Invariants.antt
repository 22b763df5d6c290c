use Rattle.std.proofs.Common.{◌≤◌, ◌<◌, ◌-◌, length, get_or}
use Rattle.office_base.specs.Person.{IsBetter}
use Rattle.office_base.specs.declared.person.Person.{Person}
use Rattle.merit_choice.proofs.Places.{IsBefore}
use Rattle.merit_choice.proofs.held.place_among.Given as goal

-- nobody before the low place is worse, and up to the high one the person's place is the place among all
abbrev pub invariant-loop-low : goal.invariant-loop-low
invariant-loop-low l = (l.low ≤ l.high) × (l.high ≤ length l.people) × ((other : Person) → 0 < l.low → IsBetter l.list (get_or l.people (l.low - 1) other) l.person)
    × IsBefore l.list l.person l.people l.high

abbrev pub decreases-loop-low : goal.decreases-loop-low
decreases-loop-low l = l.high - l.low
