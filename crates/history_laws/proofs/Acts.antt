-- A newly accepted request comes to what its act does, asked by its candidate or by the clerk; so a history goes on with it.
use Rattle.std.proofs.Common.{◌≡◌, ◌<◌, ℕ, Bool, true, not, List, [], ◌∷◌, ◌++◌, Option, Some, None, map, refl, sym, ap, ◌∙◌, subst, nat_lt, ◌==◌, ◌||◌, if◌then◌else◌}
use Rattle.std.proofs.lemmas.Bool.{and_from, and_parts, eq-eqb, lt-ltb}
use Rattle.office_moves.specs.Facts.{SeasonFacts, find_programme}
use Rattle.history_laws.specs.Laws.{AcceptedByItsAct, HistoryGrows}
use Rattle.office_base.specs.Numbered.{last_from, rises}
use Rattle.office_asks.specs.declared.ask.Ask.{Ask}
use Rattle.office_asks.specs.declared.ask.Ask.TheVariants.{Cut as AskCut}
use Rattle.office_asks.specs.declared.ask.By.{By}
use Rattle.office_asks.specs.declared.ask.By.TheVariants.{Candidate, Clerk}
use Rattle.office_asks.specs.declared.ask.Request.{Request}
use Rattle.office_base.specs.declared.person.ProgId.{ProgId}
use Rattle.office_base.specs.declared.step.StepKind.{StepKind}
use Rattle.kept_rows.specs.declared.rows.AnswerRow.{AnswerRow}
use Rattle.kept_rows.specs.declared.rows.RaiseRow.{RaiseRow}
use Rattle.office_moves.specs.State.{State, opening, view_of}
use Rattle.office_moves.specs.Judge.{is_candidate, is_clerk, judge_answer, judge_cut, judge_new_answer, judge_new_seats, not_open, once_more, refuse_as, refuse_if, with_programme}
use Rattle.office_moves.specs.Decided.{answer_facts, decide_raise, decided, decided_by, raise_facts}
use Rattle.office_moves.specs.Moves.{Does, IsMove}
use Rattle.office_moves.specs.History.{IsHistory, asked, grown, newly}
use Rattle.office_moves.specs.declared.decide.AnswerFacts.{AnswerFacts}
use Rattle.office_moves.specs.declared.decide.Decision.{Decision}
use Rattle.office_moves.specs.declared.decide.Decision.TheVariants.{Refuse, NotedAgain, RaisedAgain, CutAgain, Note, Lift, Publish, Finish, Tell}
use Rattle.office_moves.specs.declared.refusal.Refusal.TheVariants.{Ahead, Denied, LastWindow, UnknownCandidate}
use Rattle.office_moves.specs.declared.moves.Act.{Act}
use Rattle.office_moves.specs.declared.moves.Act.TheVariants.{Cut}
use Rattle.office_moves.specs.declared.moves.Entry.{Entry}
use Rattle.office_moves.specs.declared.moves.Reply.{Reply}
use Rattle.office_moves.proofs.Chains.{IsNewCut}
use Rattle.office_moves.proofs.OneState.{reaches_more}
use Rattle.history_laws.proofs.Changes.{Accepts, LastCut, NewAnswer, NewCut, NewRaise, accepts}

-- ---- who asks

by_candidate : (looks : AnswerFacts) (by : By) (row : AnswerRow) → is_candidate by row.cand ≡ true → judge_answer looks (Candidate row.cand) row ≡ judge_answer looks by row
by_candidate looks by row own =
    ap (λ (given : Bool). refuse_if (not looks.known) UnknownCandidate (refuse_if (not given) (Denied 1) (once_more looks.kept row (judge_new_answer looks row))))
    (eq-eqb row.cand.0 row.cand.0 refl ∙ sym own)

by_clerk : (by : By) (now rounds window : ℕ) → is_clerk by ≡ true → window ≡ now → judge_cut Clerk now rounds now ≡ judge_cut by now rounds window
by_clerk by now rounds window clerk open_now =
    ap (judge_cut Clerk now rounds) (sym open_now)
    ∙ ap (λ (given : Bool). refuse_if (not given) (Denied 2)
    (if nat_lt window now then CutAgain window else refuse_if (nat_lt now window || nat_lt rounds window) (Ahead now) (if window == rounds then Finish else Publish))) (sym clerk)

-- a raise of a programme, by whether the clerk asks
abbrev raise_when : SeasonFacts → State → ℕ → StepKind → ℕ → Bool → ProgId → Decision
raise_when facts state window step seats clerk prog =
    let row : RaiseRow = record { window = window; prog = prog; step = step; seats = seats } in
    refuse_if (not clerk) (Denied 4)
    (if (raise_facts facts state row).again then RaisedAgain row
    else refuse_as (not_open state.now facts.rounds window) (refuse_if (window == facts.rounds) LastWindow (judge_new_seats (raise_facts facts state row) row)))

raise_by_clerk : (facts : SeasonFacts) (state : State) (by : By) (window : ℕ) (code : List ℕ) (step : StepKind) (seats : ℕ) → is_clerk by ≡ true
    → decide_raise facts state Clerk window code step seats ≡ decide_raise facts state by window code step seats
raise_by_clerk facts state by window code step seats clerk =
    ap (λ (given : Bool). with_programme (find_programme facts code) (raise_when facts state window step seats given)) (sym clerk)

-- ---- the act of a newly accepted request

cut_by : (facts : SeasonFacts) (state : State) (by : By) (ask : Ask) (act : Act) (window : ℕ) → ask ≡ AskCut window → act ≡ Cut state.now → IsNewCut by state.now facts.rounds window
    → decided facts state (asked facts act) ≡ decided_by facts state by ask
cut_by facts state by ask act window asks is n =
    subst (λ (a : Act). decided facts state (asked facts a) ≡ decided_by facts state by ask) (sym is)
    (by_clerk by state.now facts.rounds window n.clerk n.opened ∙ sym (ap (decided_by facts state by) asks))

accepted_by : (facts : SeasonFacts) (state : State) (by : By) (ask : Ask) (act : Act) → Accepts facts state by ask act → decided facts state (asked facts act) ≡ decided_by facts state by ask
accepted_by facts state by ask act (NewAnswer row asks is n decides) =
    subst (λ (a : Act). decided facts state (asked facts a) ≡ decided_by facts state by ask) (sym is)
    (by_candidate (answer_facts facts (view_of state row.cand.0) row) by row n.own ∙ sym (ap (decided_by facts state by) asks))
accepted_by facts state by ask act (NewRaise row code asks found known is n decides) =
    subst (λ (a : Act). decided facts state (asked facts a) ≡ decided_by facts state by ask) (sym is)
    (ap (λ (c : List ℕ). decide_raise facts state Clerk row.window c row.step row.seats) found.own
    ∙ (raise_by_clerk facts state by row.window code row.step row.seats n.clerk ∙ sym (ap (decided_by facts state by) asks)))
accepted_by facts state by ask act (LastCut window asks is n last decides) = cut_by facts state by ask act window asks is n
accepted_by facts state by ask act (NewCut window asks is n less decides) = cut_by facts state by ask act window asks is n

pub accepted_by_its_act : (facts : SeasonFacts) → AcceptedByItsAct facts
accepted_by_its_act facts state request act h = accepted_by facts state request.by request.ask act (accepts facts state request.by request.ask act h)

-- ---- a history goes on

rises_more : (before number : ℕ) (act : Act) (entries : List Entry) → rises before (map (λ (entry : Entry). entry.number) entries) ≡ true
    → last_from before (map (λ (entry : Entry). entry.number) entries) < number
    → rises before (map (λ (entry : Entry). entry.number) (entries ++ record { number = number; act = act } ∷ [])) ≡ true
rises_more before number act [] e less = and_from _ _ (lt-ltb before number less) refl
rises_more before number act (entry ∷ entries) e less =
    let both = and_parts (nat_lt before entry.number) (rises entry.number (map (λ (entry : Entry). entry.number) entries)) e in
    and_from _ _ both.0 (rises_more entry.number number act entries both.1 less)

-- what is not newly accepted leaves the state
unmoved : (facts : SeasonFacts) (old : State) (decision : Decision) (reply : Reply) (new : State) → newly old.now decision ≡ None → Does facts old decision reply new → new ≡ old
unmoved facts old (Refuse refusal) reply new e does = does.1
unmoved facts old (NotedAgain row) reply new e does = does.1
unmoved facts old (RaisedAgain row) reply new e does = does.1
unmoved facts old (CutAgain window) reply new e does = does.1
unmoved facts old (Note row) reply new e does = absurd (cc)
unmoved facts old (Lift row) reply new e does = absurd (cc)
unmoved facts old Publish reply new e does = absurd (cc)
unmoved facts old Finish reply new e does = absurd (cc)
unmoved facts old (Tell question) reply new e does = does.1

grows_by : (facts : SeasonFacts) (entries : List Entry) (old new : State) (request : Request) (reply : Reply) (number : ℕ) (found : Option Act) → IsHistory facts entries old
    → last_from 0 (map (λ (entry : Entry). entry.number) entries) < number → IsMove facts old request reply new → newly old.now (decided facts old request) ≡ found
    → IsHistory facts (grown entries number found) new
grows_by facts entries old new request reply number None history less moves h =
    subst (λ (s : State). IsHistory facts entries s) (sym (unmoved facts old (decided facts old request) reply new h moves)) history
grows_by facts entries old new request reply number (Some act) history less moves h =
    let same = accepted_by_its_act facts old request act h in
    record {
      numbers = rises_more 0 number act entries history.numbers less;
      reached = reaches_more facts opening old new entries (record { number = number; act = act }) reply history.reached (ap (newly old.now) same ∙ h)
          (subst (λ (d : Decision). Does facts old d reply new) (sym same) moves);
    }

pub history_grows : (facts : SeasonFacts) → HistoryGrows facts
history_grows facts entries old new request reply number history less moves = grows_by facts entries old new request reply number _ history less moves refl
