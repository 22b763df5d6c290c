use Rattle.step_cutoffs.proofs.laws.step_laws.Goals as goal

pub returns : goal.returns
returns c = record {
  one_choice = c.one_choice.ensures;
  choice_exists = c.choice_exists.ensures;
  honours_as_all = c.honours_as_all.ensures;
  no_justified_envy = c.no_justified_envy.ensures;
  leaving_out_refused = c.leaving_out_refused.ensures;
}
