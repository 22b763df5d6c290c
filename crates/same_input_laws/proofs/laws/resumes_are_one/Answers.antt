use Rattle.same_input_laws.proofs.ResumeEnds as ends
use Rattle.same_input_laws.proofs.laws.resumes_are_one.Goals as goal

pub returns : goal.returns
returns c =
    ends.resumes_are_one c.one_reading.ensures c.one_script_answer.ensures (record { seasons = c.one_season.ensures.kept; sound = c.one_season.ensures.sound; records = c.one_end.ensures })
    c.history_grows.ensures c.one_run.ensures
