-- A run that stopped and was resumed is the run that did not stop.
use Rattle.std.proofs.Common.{◌≡◌, ◌++◌, ℕ, List, [], refl, sym, ap, subst, ◌∙◌}
use Rattle.kept_rows.specs.declared.rows.Kept.{Kept}
use Rattle.office_asks.specs.declared.ask.Request.{Request}
use Rattle.office_moves.specs.Facts.{IsSound, SeasonFacts}
use Rattle.office_moves.specs.History.{IsHistory}
use Rattle.office_moves.specs.State.{State, opening}
use Rattle.replays.specs.Laws.{HaveOneEnd}
use Rattle.season_commands.specs.Laws.{OneRun, PrefixIsARun}
use Rattle.season_commands.specs.Runs.{Answers}
use Rattle.season_laws.specs.Kept.{KeptIsReplayed}
use Rattle.same_input_laws.specs.Stops.{AStopCostsNothing}

pub stop_costs : ((facts : SeasonFacts) → KeptIsReplayed facts) → ((facts : SeasonFacts) (kept : Kept) → IsSound facts → HaveOneEnd facts kept) → ((facts : SeasonFacts) → PrefixIsARun facts)
    → ((facts : SeasonFacts) → OneRun facts) → AStopCostsNothing
stop_costs replayed one_end prefix one_run facts first rest some tail whole stopped resumed end ended kept sound before back after all =
    let (entries, history) = before.history in
    let same : resumed ≡ stopped = (one_end facts kept sound).one_state resumed stopped back (replayed facts entries stopped kept history before.stands) in
    let split = prefix facts opening ended first rest whole all in
    let start : IsHistory facts [] opening = record { numbers = refl; reached = refl } in
    let (front, mid) = one_run facts sound [] opening stopped split.mid first some split.some start before.answers split.before in
    let going : Answers facts stopped rest tail end = subst (λ state. Answers facts state rest tail end) same after in
    let goes : Answers facts stopped rest split.rest ended = subst (λ state. Answers facts state rest split.rest ended) (sym mid) split.after in
    let (back_part, last) = one_run facts sound entries stopped end ended rest tail split.rest history going goes in
    (ap (λ z. z ++ tail) front ∙ ap (λ z. split.some ++ z) back_part ∙ sym split.whole, last)
