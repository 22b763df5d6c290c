use Rattle.std.proofs.Common.{◌≡◌, drop}
use Rattle.std.specs.Prelude.{find}
use Rattle.office_base.specs.CategorySteps.{own_steps}
use Rattle.office_text.specs.Names.{is_named}
use Rattle.office_text.proofs.names.read_step.Given as goal

abbrev pub invariant-loop-kind : goal.invariant-loop-kind
invariant-loop-kind l = record {
  rows : l.kind-items ≡ own_steps;
  rest : find (is_named l.text) (drop l.kind-index own_steps) ≡ find (is_named l.text) own_steps;
}
