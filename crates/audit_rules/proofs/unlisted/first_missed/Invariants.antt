use Rattle.std.proofs.Common.{List}
use Rattle.office_base.specs.declared.person.Person.{Person}
use Rattle.audit_rules.specs.Entries.{IsFirstMiss, IsMiss, IsWrong}
use Rattle.audit_rules.specs.declared.entries.Entry.{Entry}
use Rattle.audit_rules.proofs.unlisted.first_missed.Given as goal

abbrev pub invariant-loop-at : goal.invariant-loop-at
invariant-loop-at l = (people : List Person) (entries : List Entry) → IsFirstMiss (IsWrong people l.seats entries) l.fn.wrong → IsFirstMiss (IsMiss people l.seats entries l.marks l.fn.count l.at) l.first
