-- The laws of the choice of a step on which those of cutoffs rest.
use Rattle.merit_choice.specs.Laws.{ChoiceExists, HonoursAsAll, LeavingOutRefused, NoJustifiedEnvy, OneChoice}

-- the laws of the choice of a step
pub record AreLawful : Type 0 where
  pub one_choice : OneChoice
  pub choice_exists : ChoiceExists
  pub honours_as_all : HonoursAsAll
  pub no_justified_envy : NoJustifiedEnvy
  pub leaving_out_refused : LeavingOutRefused
