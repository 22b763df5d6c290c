-- The requests of a bundle have one output.
use Rattle.std.proofs.Common.{List, [], refl, sym, ◌∙◌, subst}
use Rattle.office_asks.specs.declared.ask.Request.{Request}
use Rattle.office_moves.specs.Facts.{SeasonFacts}
use Rattle.season_facts.specs.Season.{facts_of}
use Rattle.office_moves.specs.State.{opening}
use Rattle.season_commands.specs.Laws.{OneRun}
use Rattle.season_commands.specs.Laws as runs
use Rattle.season_commands.specs.Runs.{Answers}
use Rattle.season_commands.specs.Tally.{AreHandled}
use Rattle.one_output.specs.Laws.{GiveOneSeason, OneOutput, OneTally}

pub one_output : GiveOneSeason → ((facts : SeasonFacts) → OneRun facts) → OneOutput
one_output seasons run requests bytes season other script more output again state then one two answers answers' =
    let same = seasons.bundles requests bytes season other script more one two in
    let by_season = subst (λ (f : SeasonFacts). Answers f opening more again then) (sym same.0) answers' in
    let by_script = subst (λ (s : List Request). Answers (facts_of season) opening s again then) (sym same.1) by_season in
    run (facts_of season) (seasons.sound requests bytes season one.row script one.given) [] opening state then script output again (record { numbers = refl; reached = refl }) answers by_script

pub one_tally : GiveOneSeason → ((facts : SeasonFacts) → runs.OneTally facts) → OneTally
one_tally seasons run requests bytes season other script more handled again state then one two moves moves' asked asked' =
    let same = seasons.bundles requests bytes season other script more one two in
    run (facts_of season) (seasons.sound requests bytes season one.row script one.given) [] opening state then handled again (record { numbers = refl; reached = refl }) moves
    (subst (λ (f : SeasonFacts). AreHandled f opening again then) (sym same.0) moves') (asked ∙ (same.1 ∙ sym asked'))
