use Rattle.std.proofs.Common.{◌≡◌, take}
use Rattle.merit_choice.proofs.Marking.{IsMarked}
use Rattle.merit_choice.proofs.choice.find_needed.Given as goal

abbrev pub invariant-loop-person : goal.invariant-loop-person
invariant-loop-person l = (l.people ≡ l.step.people) × IsMarked l.step (take l.person-index l.people) l.matching l.marks
