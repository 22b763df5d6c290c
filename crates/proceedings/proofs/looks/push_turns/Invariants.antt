use Rattle.std.proofs.Common.{◌≡◌, ◌++◌, List, Some, take}
use Rattle.std.specs.Prelude.{slice_get}
use Rattle.office_base.specs.declared.choice.Choice.{Choice}
use Rattle.proceedings.specs.Proceeding.{rows_after}
use Rattle.proceedings.proofs.looks.push_turns.Given as goal

abbrev pub invariant-loop-before : goal.invariant-loop-before
invariant-loop-before l = (choices : List Choice) → slice_get l.table l.at ≡ Some choices → l.rows ≡ l.fn.rows ++ rows_after l.window l.cand 0 (take l.before choices)
