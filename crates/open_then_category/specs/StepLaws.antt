-- The laws of the choice of a step and of people by merit on which those of the choice of a programme rest.
use Rattle.merit_choice.specs.InMerit.{InMeritRanks, OneMeritOrder, PartCanBeRanked, PartInMerit, RankedInMerit, WithPersonRanks}
use Rattle.merit_choice.specs.Laws.{ChoiceExists, ChoiceSize, LeavingOutRefused, MoreSeats, HonoursAsAll, NoFewer, NoJustifiedEnvy, RefusedBefore, RefusedStaysRefused, SeatsForAll}

-- the laws of the choice of a step
pub record AreLawful : Type 0 where
  pub choice_exists : ChoiceExists
  pub choice_size : ChoiceSize
  pub refused_stays_refused : RefusedStaysRefused
  pub no_fewer : NoFewer
  pub leaving_out_refused : LeavingOutRefused
  pub more_seats : MoreSeats
  pub in_merit_ranks : InMeritRanks
  pub part_in_merit : PartInMerit
  pub part_can_be_ranked : PartCanBeRanked
  pub refused_before : RefusedBefore
  pub one_merit_order : OneMeritOrder
  pub ranked_in_merit : RankedInMerit
  pub with_person_ranks : WithPersonRanks
  pub seats_for_all : SeatsForAll
  pub honours_as_all : HonoursAsAll
  pub no_justified_envy : NoJustifiedEnvy
