-- Which decisions the office answers at once.
use Rattle.std.specs.Prelude.{Bool, true, false}
use Rattle.office_moves.specs.declared.decide.Decision.{Decision}
use Rattle.office_moves.specs.declared.decide.Decision.TheVariants.{Refuse, NotedAgain, RaisedAgain, CutAgain, Note, Lift, Publish, Finish, Tell}
use Rattle.office_moves.specs.declared.decide.Question.{Question}
use Rattle.office_moves.specs.declared.decide.Question.TheVariants.{List as TheList, Choices as TheChoices, Cutoffs as TheCutoffs, Answers as TheAnswers}

-- The reply to the question makes no list of what is asked for, and takes no memory.
abbrev pub copies_nothing : Question → Bool
copies_nothing (TheList number prog) = false
copies_nothing (TheChoices cand) = false
copies_nothing (TheCutoffs number prog) = false
copies_nothing (TheAnswers cand) = false
copies_nothing _ = true

-- The reply takes no memory, and nothing changes.
abbrev pub takes_nothing : Decision → Bool
takes_nothing (Refuse refusal) = true
takes_nothing (NotedAgain row) = true
takes_nothing (RaisedAgain row) = true
takes_nothing (CutAgain window) = true
takes_nothing (Note row) = false
takes_nothing (Lift row) = false
takes_nothing Publish = false
takes_nothing Finish = false
takes_nothing (Tell question) = copies_nothing question

-- the request is refused, or was accepted before
abbrev pub is_repeat : Decision → Bool
is_repeat (Refuse refusal) = true
is_repeat (NotedAgain row) = true
is_repeat (RaisedAgain row) = true
is_repeat (CutAgain window) = true
is_repeat _ = false
