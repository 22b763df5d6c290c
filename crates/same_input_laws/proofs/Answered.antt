-- The office answers every script, and its cuts are those that the script makes due.
use Rattle.std.proofs.Common.{◌≡◌, ◌+◌, ℕ, suc, Bool, true, false, List, [], ◌∷◌, Option, Some, None, map, arith, refl, sym, ap, ◌∙◌, subst, ◌==◌, not, nat_lt, if◌then◌else◌}
use Rattle.std.specs.Prelude.{◌&&◌, ◌||◌, nat_le}
use Rattle.std.proofs.lemmas.Bool.Decides.{nat_tests}
use Rattle.office_base.specs.Numbered.{last_of_numbers}
use Rattle.office_asks.specs.declared.ask.Ask.{Ask}
use Rattle.office_asks.specs.declared.ask.Ask.TheVariants.{Cut as AskCut}
use Rattle.office_asks.specs.declared.ask.By.{By}
use Rattle.office_asks.specs.declared.ask.By.TheVariants.{Clerk, Candidate, Nobody}
use Rattle.office_asks.specs.declared.ask.Request.{Request}
use Rattle.office_moves.specs.Decided.{decided, decided_by}
use Rattle.office_moves.specs.Facts.{IsSound, SeasonFacts}
use Rattle.office_moves.specs.History.{IsHistory, Reaches, grown, newly}
use Rattle.office_moves.specs.Judge.{refuse_if}
use Rattle.office_moves.specs.Moves.{Does}
use Rattle.office_moves.specs.State.{State, opening}
use Rattle.office_moves.specs.declared.decide.Decision.{Decision}
use Rattle.office_moves.specs.declared.decide.Decision.TheVariants.{CutAgain, Note, Lift, Publish, Finish}
use Rattle.office_moves.specs.declared.moves.Act.{Act}
use Rattle.office_moves.specs.declared.moves.Entry.{Entry}
use Rattle.office_moves.specs.declared.moves.Reply.{Reply}
use Rattle.office_moves.specs.declared.refusal.Refusal.TheVariants.{Ahead}
use Rattle.history_laws.specs.Laws.{HistoryGrows}
use Rattle.history_laws.specs.Orderly.{IsOrderly}
use Rattle.history_laws.proofs.Changes.{Accepts, LastCut, NewAnswer, NewCut, NewRaise, accepts}
use Rattle.season_laws.specs.NextRounds.{EveryRequestIsAnswered}
use Rattle.season_commands.specs.Runs.{Answers}
use Rattle.dossier_file.specs.Due.{cuts_accepted, is_cut_by}

-- ---- how many windows are cut

module _ (facts : SeasonFacts) (old new : State) (reply : Reply) where
  -- a decision that newly accepts nothing leaves the state
  pub unmoved : (decision : Decision) → newly old.now decision ≡ None → Does facts old decision reply new → new ≡ old
  unmoved (Note row) none does = absurd (cc)
  unmoved (Lift row) none does = absurd (cc)
  unmoved Publish none does = absurd (cc)
  unmoved Finish none does = absurd (cc)
  unmoved _ none does = does.1

  -- another ask than a cut cuts no window
  no_cut : (by : By) (ask : Ask) → ((window : ℕ) → ask ≡ AskCut window → ⊥) → Does facts old (decided_by facts old by ask) reply new → new.now ≡ old.now
  no_cut by ask other does = go (newly old.now (decided_by facts old by ask)) refl
    where
      accepted : (act : Act) → Accepts facts old by ask act → new.now ≡ old.now
      accepted act (NewAnswer row asks is n decides) = ap (λ (s : State). s.now) (subst (λ (d : Decision). Does facts old d reply new) decides does).1
      accepted act (NewRaise row code asks found known is n decides) = ap (λ (s : State). s.now) (subst (λ (d : Decision). Does facts old d reply new) decides does).1
      accepted act (LastCut window asks is n last decides) = absurd (other window asks)
      accepted act (NewCut window asks is n less decides) = absurd (other window asks)

      go : (o : Option Act) → newly old.now (decided_by facts old by ask) ≡ o → new.now ≡ old.now
      go None e = ap (λ (s : State). s.now) (unmoved (decided_by facts old by ask) e does)
      go (Some act) e = accepted act (accepts facts old by ask act e)

  -- the clerk's cut, by its tests
  cut_moves : (early ahead last : Bool) (window : ℕ) → Does facts old (if early then CutAgain window else refuse_if ahead (Ahead old.now) (if last then Finish else Publish)) reply new
      → new.now ≡ (if not early && not ahead then suc old.now else old.now)
  cut_moves true ahead last window does = ap (λ (s : State). s.now) does.1
  cut_moves false true last window does = ap (λ (s : State). s.now) does.1
  cut_moves false false true window does = (let e : new.now ≡ old.now + 1 = ap (λ (s : State). s.now) does.1 in omega (arith, e))
  cut_moves false false false window does = (let e : new.now ≡ old.now + 1 = ap (λ (s : State). s.now) does.3 in omega (arith, e))

  same_cut : (now rounds window : ℕ) → (not (nat_lt window now) && not (nat_lt now window || nat_lt rounds window)) ≡ (window == now && nat_le now rounds)
  same_cut now rounds window = grind (arith, nat_tests)

  -- a request cuts the open window, or leaves it open
  step : (by : By) (ask : Ask) → Does facts old (decided_by facts old by ask) reply new → new.now ≡ (if is_cut_by old.now by ask && nat_le old.now facts.rounds then suc old.now else old.now)
  step Clerk (AskCut window) does =
      cut_moves (nat_lt window old.now) (nat_lt old.now window || nat_lt facts.rounds window) (window == facts.rounds) window does
      ∙ ap (λ (b : Bool). if b then suc old.now else old.now) (same_cut old.now facts.rounds window)
  step Clerk ask does = no_cut Clerk ask (λ window e. absurd (cc)) does
  step (Candidate id) (AskCut window) does = ap (λ (s : State). s.now) does.1
  step (Candidate id) ask does = no_cut (Candidate id) ask (λ window e. absurd (cc)) does
  step Nobody (AskCut window) does = ap (λ (s : State). s.now) does.1
  step Nobody ask does = no_cut Nobody ask (λ window e. absurd (cc)) does

-- A script cuts as many windows as it makes due.
pub counts : (facts : SeasonFacts) (old new : State) (script : List Request) (output : List ℕ) → Answers facts old script output new → new.now ≡ old.now + cuts_accepted facts.rounds old.now script
counts facts old new [] output answers = (let e : new.now ≡ old.now = ap (λ (s : State). s.now) answers.1 in omega (arith, e))
counts facts old new (request ∷ script) output answers =
    by_test answers.1 (is_cut_by old.now request.by request.ask && nat_le old.now facts.rounds) (step facts old answers.1 answers.0 request.by request.ask answers.3)
    (counts facts answers.1 new script answers.2 answers.5)
  where
    by_test : (mid : State) (b : Bool) → mid.now ≡ (if b then suc old.now else old.now) → new.now ≡ mid.now + cuts_accepted facts.rounds mid.now script
        → new.now ≡ old.now + (if b then suc (cuts_accepted facts.rounds (suc old.now) script) else cuts_accepted facts.rounds old.now script)
    by_test mid true here rest =
        let more : new.now ≡ suc old.now + cuts_accepted facts.rounds (suc old.now) script = subst (λ (n : ℕ). new.now ≡ n + cuts_accepted facts.rounds n script) here rest in
        omega (arith, more)
    by_test mid false here rest = subst (λ (n : ℕ). new.now ≡ n + cuts_accepted facts.rounds n script) here rest

-- ---- every script is answered

-- a number above those of some entries
abbrev pub above : List Entry → ℕ
above entries = last_of_numbers (map (λ (entry : Entry). entry.number) entries) + 1

-- requests after a history lead to the state of a history
pub ends_history : (facts : SeasonFacts) → HistoryGrows facts → (entries : List Entry) (old new : State) (script : List Request) (output : List ℕ) → IsHistory facts entries old
    → Answers facts old script output new → (more : List Entry) × IsHistory facts more new
ends_history facts grows entries old new [] output history answers = (entries, subst (IsHistory facts entries) (sym answers.1) history)
ends_history facts grows entries old new (request ∷ script) output history answers =
    ends_history facts grows (grown entries (above entries) (newly old.now (decided facts old request))) answers.1 new script answers.2
    (grows entries old answers.1 request answers.0 (above entries) history (omega arith) answers.3) answers.5

pub answered : (facts : SeasonFacts) → HistoryGrows facts → EveryRequestIsAnswered facts → IsSound facts
    → ((entries : List Entry) (state : State) → Reaches facts opening entries state → IsOrderly facts state) → (entries : List Entry) (old : State) (script : List Request) → IsHistory facts entries old
    → (output : List ℕ) × (new : State) × Answers facts old script output new
answered facts grows every sound orderly entries old [] history = ([], old, (refl, refl))
answered facts grows every sound orderly entries old (request ∷ script) history =
    let move = every old request sound (orderly entries old history.reached) in
    let rest = answered facts grows every sound orderly (grown entries (above entries) (newly old.now (decided facts old request))) move.1 script
    (grows entries old move.1 request move.0 (above entries) history (omega arith) move.2) in
    (_, rest.1, (move.0, move.1, rest.0, move.2, refl, rest.2))
