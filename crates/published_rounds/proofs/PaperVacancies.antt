-- No vacancy fills by itself in papers that break no clause.
use Rattle.std.proofs.Common.{◌≡◌, ◌<◌, ◌≤◌, ◌+◌, ℕ, suc, add-one, List, Option, length, arith, sym, ap, ◌∙◌, subst}
use Rattle.std.proofs.lemmas.Option.{slice_get_within}
use Rattle.office_asks.specs.declared.ask.Request.{Request}
use Rattle.office_base.specs.declared.seat.Seat.{Seat}
use Rattle.seat_matrix.specs.Laws.{OneStepChanges}
use Rattle.office_moves.specs.Facts.{SeasonFacts}
use Rattle.office_moves.specs.History.{newly}
use Rattle.office_moves.specs.Raised.{matrix_at}
use Rattle.office_moves.specs.State.{State}
use Rattle.office_moves.specs.declared.decide.Decision.TheVariants.{Publish}
use Rattle.office_moves.specs.declared.moves.Act.{Act}
use Rattle.history_laws.proofs.Changes.{Accepts, LastCut, NewAnswer, NewCut, NewRaise, accepts}
use Rattle.published_rounds.specs.Fair.{AreFairOver}
use Rattle.published_rounds.specs.FairLaws.{FewNewHolders, FewNewlySeated, NoVacancyFillsByItself}
use Rattle.audit_rules.specs.Cut.{seekers_at}
use Rattle.audit_rules.specs.Fair.{AreFairRounds, IsCutBy}
use Rattle.audit_rules.specs.InOrder.{IsInOrder}
use Rattle.audit_rules.specs.Laws.{SoundIsFair}
use Rattle.audit_rules.specs.Papers.{Papers, rows_after, seats_told}
use Rattle.audit_rules.specs.Replay.{before}
use Rattle.published_rounds.specs.Papers.{HasFewNewHolders, NoVacancyFillsInSoundPapers}
use Rattle.published_rounds.proofs.Narrows.{AreCuts, are_cuts, next_market_told, raised_since}
use Rattle.published_rounds.proofs.Papers.{in_order, over_seekers}

-- the seats that the text of the round after a window gives
abbrev told : SeasonFacts → Papers → ℕ → List (Option Seat)
told facts papers window = seats_told (rows_after papers window) facts.people

-- a window whose cut publishes a round comes before the last cut
early_window : (facts : SeasonFacts) (script : List Request) (papers : Papers) (window : ℕ) → IsCutBy facts script papers window Publish → window < facts.rounds
early_window facts script papers window cut =
    let state = before facts script papers cut.at in
    subst (λ n. n < facts.rounds) cut.now (by_act (accepts facts state cut.request.by cut.request.ask _ (ap (newly state.now) cut.decides)))
  where
    by_act : {act : Act} → Accepts facts (before facts script papers cut.at) cut.request.by cut.request.ask act → (before facts script papers cut.at).now < facts.rounds
    by_act (NewAnswer row asks is n decides) = absurd (let e = sym cut.decides ∙ decides in cc)
    by_act (NewRaise row code asks found known is n decides) = absurd (let e = sym cut.decides ∙ decides in cc)
    by_act (LastCut window asks is n last decides) = absurd (let e = sym cut.decides ∙ decides in cc)
    by_act (NewCut window asks is n less decides) = less

-- of two cuts that follow each other, with fair seats
few_after : OneStepChanges → NoVacancyFillsByItself → FewNewHolders → FewNewlySeated → (facts : SeasonFacts) (papers : Papers) (old state : State) (prog : ℕ) → AreCuts facts papers old state
    → AreFairOver facts.version (matrix_at facts old) (seekers_at facts old) (told facts papers old.now)
    → AreFairOver facts.version (matrix_at facts state) (seekers_at facts state) (told facts papers state.now) → prog < length (matrix_at facts old).programmes
    → prog < length (matrix_at facts state).programmes → HasFewNewHolders (matrix_at facts old) (matrix_at facts state) (told facts papers old.now) (told facts papers state.now) prog
few_after law none few newly facts papers old state prog cuts over over' below below' =
    let narrows = next_market_told facts papers old state cuts in
    let more = (raised_since facts papers old state cuts law).seats prog in
    record {
      raised = few facts.version (matrix_at facts old) (matrix_at facts state) (seekers_at facts old) (seekers_at facts state) (told facts papers old.now) (told facts papers state.now) prog
          over over' narrows below below' more;
      unraised = λ same. none facts.version (matrix_at facts old) (matrix_at facts state) (seekers_at facts old) (seekers_at facts state) (told facts papers old.now) (told facts papers state.now) prog
          over over' narrows below below' same;
      newly = newly facts.version (matrix_at facts old) (matrix_at facts state) (seekers_at facts old) (seekers_at facts state) (told facts papers old.now) (told facts papers state.now) prog
          over over' narrows below below' more;
    }

pub no_vacancy_fills_in_sound_papers : OneStepChanges → SoundIsFair → NoVacancyFillsByItself → FewNewHolders → FewNewlySeated → NoVacancyFillsInSoundPapers
no_vacancy_fills_in_sound_papers law fair_cuts none few newly facts script papers rounds window prog sound whole verdict first next below =
    let old = before facts script papers first.at in
    let state = before facts script papers next.at in
    let orders : (j : ℕ) → j ≤ length script → IsInOrder facts (before facts script papers j) = in_order law facts script papers sound verdict.1 in
    let within = slice_get_within script first.at first.request first.there in
    let within' = slice_get_within script next.at next.request next.there in
    let order = orders first.at (omega (arith, within)) in
    let order' = orders next.at (omega (arith, within')) in
    let fair : AreFairRounds facts script papers = fair_cuts facts script papers rounds sound whole verdict in
    let early : old.now < facts.rounds = (let same = first.now in let less = early_window facts script papers window first in omega (arith, same, less)) in
    let follows : state.now ≡ old.now + 1 = next.now ∙ (ap suc (sym first.now) ∙ sym (add-one old.now)) in
    let cuts = are_cuts facts script papers sound orders first.at next.at first.request next.request first.there next.there first.decides
    (verdict.1 first.at first.request first.there) early follows in
    let over = over_seekers facts papers old sound order (fair.rounds first.at first.request first.there first.decides).fair in
    let over' = over_seekers facts papers state sound order' (fair.rounds next.at next.request next.there next.decides).fair in
    let size = ap (λ l. length l) order.programmes in
    let size' = ap (λ l. length l) order'.programmes in
    let got = few_after law none few newly facts papers old state prog cuts over over' (omega (arith, below, size)) (omega (arith, below, size')) in
    subst (λ (n : ℕ). HasFewNewHolders (matrix_at facts old) (matrix_at facts state) (told facts papers n) (told facts papers (suc window)) prog) first.now
    (subst (λ (n : ℕ). HasFewNewHolders (matrix_at facts old) (matrix_at facts state) (told facts papers old.now) (told facts papers n) prog) next.now got)
