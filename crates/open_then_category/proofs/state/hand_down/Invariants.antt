use Rattle.std.proofs.Common.{◌≡◌, ◌++◌, List, drop, length, take}
use Rattle.std.specs.Prelude.{Option}
use Rattle.office_base.specs.declared.person.Person.{Person}
use Rattle.merit_choice.specs.State.{StepKept}
use Rattle.open_then_category.specs.State.{AreHanded, AreNew}
use Rattle.open_then_category.proofs.state.hand_down.Given as goal

abbrev pub invariant-loop-i : goal.invariant-loop-i
invariant-loop-i l = record {
  size : length l.categories ≡ length l.rows;
  new : AreNew (drop l.i l.rows) (drop l.i l.categories) l.coming;
  down : (after : List StepKept) (gone : Option Person) → AreHanded (drop l.i l.rows) (drop l.i l.categories) after l.coming gone
      → AreHanded l.rows l.fn.categories (take l.i l.categories ++ after) l.fn.coming gone;
}
