use Rattle.std.proofs.Common.{◌≡◌, ◌<◌, ℕ, false, get_or}
use Rattle.std.specs.BTreeSet.{contains}
use Rattle.std.specs.Ordering.{nat_cmp}
use Rattle.office_base.specs.declared.person.Person.{Person}
use Rattle.list_texts.specs.ListPieces.{BeginsEntry}
use Rattle.list_texts.proofs.list_pieces.begins_entries.Given as goal

abbrev pub invariant-loop-person : goal.invariant-loop-person
invariant-loop-person l = (at : ℕ) (d : Person) → at < l.person-index → contains nat_cmp l.used (get_or l.people at d).id.0 ≡ false → BeginsEntry (get_or l.people at d).id.0 l.left l.slots l.piece → ⊥
