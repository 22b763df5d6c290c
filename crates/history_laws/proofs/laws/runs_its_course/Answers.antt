use Rattle.history_laws.proofs.Coursed.{course_of}
use Rattle.history_laws.proofs.laws.runs_its_course.Goals as goal

pub returns : goal.returns
returns c facts entries state sound reached =
    let rise = c.seats_only_rise.ensures facts sound entries state reached in course_of facts entries state reached (c.windows_pass.ensures facts entries state reached) rise.seats rise.raised rise.programmes
