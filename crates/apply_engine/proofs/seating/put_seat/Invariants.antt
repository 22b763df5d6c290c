use Rattle.std.proofs.Common.{take}
use Rattle.apply_engine.specs.Made.{IsPut}
use Rattle.apply_engine.proofs.seating.put_seat.Given as goal

-- the first of those admitted have it
abbrev pub invariant-loop-person : goal.invariant-loop-person
invariant-loop-person l = IsPut l.register.people l.seat (take l.person-index l.admitted) l.fn.seats l.seats
