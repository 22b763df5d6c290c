-- What the list of a step shows.
use Rattle.std.specs.Prelude.{◌≡◌, length}
use Rattle.office_base.specs.Certificate.{IsCanonical}
use Rattle.office_base.specs.StepChoice.{IsStepChoice}
use Rattle.office_base.specs.declared.step.Step.{Step}
use Rattle.office_base.specs.declared.step.StepKind.{StepKind}
use Rattle.choice_trials.specs.declared.listing.PlainList.{PlainList}

-- the list of a step of this kind
pub record IsListOf (kind : StepKind) (step : Step) (list : PlainList) : Type 0 where
  pub same : list.kind ≡ kind
  pub seats : list.seats ≡ step.seats
  pub candidates : list.candidates ≡ length step.people
  pub choice : IsStepChoice step list.admitted
  pub certificate : IsCanonical step.protections list.admitted list.pairs
