use Rattle.shown_replies.proofs.Shown.{shows}
use Rattle.shown_replies.proofs.laws.replies_can_be_shown.Goals as goal

pub returns : goal.returns
returns c = λ facts sound state reply orderly came.
    shows facts state reply (record { well = c.choose_well.ensures; slots = c.slots_are_traits.ensures }) sound orderly came
