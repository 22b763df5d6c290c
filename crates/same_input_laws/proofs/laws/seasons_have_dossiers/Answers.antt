use Rattle.same_input_laws.proofs.SeasonDossiers as dossiers
use Rattle.same_input_laws.proofs.laws.seasons_have_dossiers.Goals as goal

pub returns : goal.returns
returns c =
    dossiers.seasons_have_dossiers
    (record {
      size = c.choice_size.ensures;
      ranks = c.in_merit_ranks.ensures;
      axioms = c.axioms_are_the_rule.ensures;
      one = c.one_programme_choice.ensures;
      well = c.choose_well.ensures;
    }) c.one_verdict_of_bytes.ensures
    (record { seasons = c.one_season.ensures.kept; dossiers = c.one_dossier.ensures; texts = c.texts_are_one.ensures; best = c.one_best_verdict.ensures }) c.one_season.ensures.sound c.orderly.ensures c.history_grows.ensures c.every_request_is_answered.ensures c.published_is_read.ensures
