-- Requests that are answered after a history have one output, and leave one state.
use Rattle.std.proofs.Common.{◌≡◌, ◌+◌, List, [], ◌∷◌, ◌++◌, map, arith, sym, ap, subst, ◌∙◌}
use Rattle.office_base.specs.Numbered.{last_of_numbers}
use Rattle.office_moves.specs.Facts.{IsSound, SeasonFacts}
use Rattle.office_moves.specs.State.{State, opening}
use Rattle.office_moves.specs.Decided.{decided}
use Rattle.office_moves.specs.History.{Reaches, grown, newly}
use Rattle.office_moves.specs.Laws.{CutoffsAreOne, NextRoundsAreOne, OneNextRound, OneReply}
use Rattle.office_moves.specs.declared.moves.Entry.{Entry}
use Rattle.history_laws.specs.Laws.{HistoryGrows}
use Rattle.history_laws.specs.Orderly.{IsOrderly}
use Rattle.season_commands.specs.Laws.{OneRun}
use Rattle.shown_replies.specs.Shown.{reply_bytes}
use Rattle.season_commands.specs.Runs.{Answers}

-- the laws on which it rests
pub record Determined (facts : SeasonFacts) : Type 0 where
  pub grows : HistoryGrows facts
  pub orderly : (entries : List Entry) (state : State) → IsSound facts → Reaches facts opening entries state → IsOrderly facts state
  pub one_round : (state : State) → IsSound facts → IsOrderly facts state → OneNextRound facts state
  pub one_cutoffs : IsSound facts → CutoffsAreOne facts
  pub one_reply : OneReply facts

pub one_run : (facts : SeasonFacts) → Determined facts → OneRun facts
one_run facts laws sound entries old new then [] output other history run again = (run.0 ∙ sym again.0, run.1 ∙ sym again.1)
one_run facts laws sound entries old new then (request ∷ requests) output other history run again =
    let rounds : NextRoundsAreOne facts = λ es state reached. laws.one_round state sound (laws.orderly es state sound reached) in
    let same = laws.one_reply rounds (laws.one_cutoffs sound) entries old run.1 again.1 request run.0 again.0 history run.3 again.3 in
    let number = last_of_numbers (map (λ (entry : Entry). entry.number) entries) + 1 in
    let later = laws.grows entries old run.1 request run.0 number history (omega arith) run.3 in
    let rest : Answers facts run.1 requests again.2 then = subst (λ s. Answers facts s requests again.2 then) (sym same.1) again.5 in
    let end = one_run facts laws sound (grown entries number (newly old.now (decided facts old request))) run.1 new then requests run.2 again.2 later run.5 rest in
    let first : reply_bytes facts run.1 run.0 ≡ reply_bytes facts again.1 again.0 = ap (λ s. reply_bytes facts s run.0) same.1 ∙ ap (λ r. reply_bytes facts again.1 r) same.0 in
    (run.4 ∙ (ap (λ z. z ++ run.2) first ∙ (ap (λ z. reply_bytes facts again.1 again.0 ++ z) end.0 ∙ sym again.4)), end.1)
