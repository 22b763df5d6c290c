use Rattle.same_input_laws.proofs.Calls as calls
use Rattle.same_input_laws.proofs.laws.calls_are_one.Goals as goal

pub returns : goal.returns
returns g c = λ words first second status end.
    calls.calls_are_one (record {
      steps = c.one_answer.ensures;
      checks = c.one_answer-2.ensures;
      bundles = c.one_bundle_answer.ensures;
      units = c.one_units_answer.ensures;
      spelling = c.one_spelling.ensures;
      seasons = c.one_season.ensures;
      outputs = c.one_output.ensures;
      tally = c.one_tally.ensures;
      resumes = c.resumes_are_one.ensures;
      specials = c.specials_are_one.ensures;
      audits = c.audits_are_one.ensures;
    }) words _ _ status end
