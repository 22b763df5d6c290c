use Rattle.std.proofs.Common.{◌<◌, ℕ, List}
use Rattle.office_base.specs.declared.person.Person.{Person}
use Rattle.slot_cert.specs.Bounds.{AreBounds}
use Rattle.slot_cert.specs.First.{MustPass}
use Rattle.slot_cert.proofs.canonical.Search.choose.Given as goal

abbrev pub invariant-loop-t : goal.invariant-loop-t
invariant-loop-t l = (rest : List Person) → AreBounds l.self.bounds l.self.room rest → (s : ℕ) → s < l.t → MustPass l.self.room rest l.self.most l.traits s
