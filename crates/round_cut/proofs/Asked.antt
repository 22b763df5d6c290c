-- An act that is newly accepted is decided in the same way if its candidate or the clerk asks it by its row.
use Rattle.std.proofs.Common.{◌≡◌, inl, inr, ℕ, true, List, [], Some, refl, sym, ap, ◌∙◌, subst}
use Rattle.std.specs.Prelude.{map, position, bytes_eq}
use Rattle.std.proofs.lemmas.Bool.{eqb-true}
use Rattle.std.proofs.lemmas.List.Quantifiers.{position-Some}
use Rattle.std.proofs.lemmas.Slice.Eq.{bytes_eq-Decides}
use Rattle.office_asks.specs.declared.ask.Ask.{Ask}
use Rattle.office_asks.specs.declared.ask.By.{By}
use Rattle.office_asks.specs.declared.ask.By.TheVariants.{Candidate, Clerk, Nobody}
use Rattle.office_asks.specs.declared.ask.Request.{Request}
use Rattle.office_base.specs.declared.person.CandId.{CandId}
use Rattle.office_base.specs.declared.person.ProgId.{ProgId}
use Rattle.office_base.specs.declared.step.StepKind.{StepKind}
use Rattle.kept_rows.specs.declared.rows.AnswerRow.{AnswerRow}
use Rattle.kept_rows.specs.declared.rows.RaiseRow.{RaiseRow}
use Rattle.seat_matrix.specs.declared.entry.Home.{Home}
use Rattle.office_moves.specs.Facts.{SeasonFacts, code_in, find_programme}
use Rattle.office_moves.specs.Judge.{is_candidate, is_clerk, judge_answer, judge_cut}
use Rattle.office_moves.specs.State.{State, view_of}
use Rattle.office_moves.specs.Decided.{answer_facts, decide_raise, decided, decided_by, raise_facts}
use Rattle.office_moves.specs.History.{asked, newly}
use Rattle.office_moves.specs.declared.decide.Decision.TheVariants.{Finish, Lift, Note, Publish}
use Rattle.office_moves.specs.declared.moves.Act.{Act}
use Rattle.office_moves.specs.declared.moves.Act.TheVariants.{Answer, Raise, Cut}
use Rattle.office_moves.proofs.Chains.{answer_new, cut_new, raise_new, with_new}
use Rattle.office_moves.proofs.Decisions.{by_kind, question_old}
use Rattle.history_laws.proofs.Changes.{code_at, found_number, same_act}
use Rattle.proceedings.specs.Changes.{IsAnswerAt, IsAt}

own_by : (by : By) (cand : CandId) → is_candidate by cand ≡ true → by ≡ Candidate cand
own_by Clerk cand e = absurd (cc)
own_by (Candidate id) cand e = let named : ℕ → By = λ n. Candidate (record { 0 = n }) in ap named (eqb-true id.0 cand.0 e)
own_by Nobody cand e = absurd (cc)

clerk_by : (by : By) → is_clerk by ≡ true → by ≡ Clerk
clerk_by Clerk e = refl
clerk_by (Candidate id) e = absurd (cc)
clerk_by Nobody e = absurd (cc)

-- ---- codes of programmes

-- a programme that was found by a code has that code
own_code : (facts : SeasonFacts) (code : List ℕ) (prog : ProgId) → find_programme facts code ≡ Some prog → code_in facts prog.0 ≡ code
own_code facts code prog e =
    let number = found_number (position (bytes_eq code) (map (λ held. held.0) facts.matrix.programmes)) prog e in
    let there = position-Some (bytes_eq code) (map (λ (held : List ℕ × Home). held.0) facts.matrix.programmes) prog.0 [] number in
    code_at facts.matrix.programmes prog.0 ∙ sym ((bytes_eq-Decides code _).0 there.1)

-- ---- acts

asked_answer : (facts : SeasonFacts) (state : State) (by : By) (row : AnswerRow) (act : Act) → newly state.now (judge_answer (answer_facts facts (view_of state row.cand.0) row) by row) ≡ Some act
    → decided facts state (asked facts act) ≡ judge_answer (answer_facts facts (view_of state row.cand.0) row) by row
asked_answer facts state by row act h =
    let n = answer_new state.now (answer_facts facts (view_of state row.cand.0) row) by row act h in
    let is : act ≡ Answer row = same_act _ _ (sym (ap (newly state.now) n.noted) ∙ h) in
    ap (λ a. decided facts state (asked facts a)) is ∙ ap (λ b. judge_answer (answer_facts facts (view_of state row.cand.0) row) b row) (sym (own_by by row.cand n.own))

asked_cut : (facts : SeasonFacts) (state : State) (by : By) (window : ℕ) (act : Act) → newly state.now (judge_cut by state.now facts.rounds window) ≡ Some act
    → decided facts state (asked facts act) ≡ judge_cut by state.now facts.rounds window
asked_cut facts state by window act h =
    let n = cut_new by state.now facts.rounds window act h in
    let same : judge_cut Clerk state.now facts.rounds state.now ≡ judge_cut by state.now facts.rounds window =
    ap (λ b. judge_cut b state.now facts.rounds state.now) (sym (clerk_by by n.clerk)) ∙ ap (λ w. judge_cut by state.now facts.rounds w) (sym n.opened) in
    let is : act ≡ Cut state.now = elim n.ends [
      | inl e ↦ same_act _ _ (sym (ap (newly state.now) e.0) ∙ h)
      | inr e ↦ same_act _ _ (sym (ap (newly state.now) e.0) ∙ h)
    ] in
    ap (λ a. decided facts state (asked facts a)) is ∙ same

asked_raise : (facts : SeasonFacts) (state : State) (by : By) (window : ℕ) (code : List ℕ) (step : StepKind) (seats : ℕ) (act : Act)
    → newly state.now (decide_raise facts state by window code step seats) ≡ Some act → decided facts state (asked facts act) ≡ decide_raise facts state by window code step seats
asked_raise facts state by window code step seats act h =
    let found = with_new state.now (find_programme facts code) _ act h in
    let row : RaiseRow = record { window = window; prog = found.0; step = step; seats = seats } in
    let n = raise_new state.now (raise_facts facts state row) by row act found.2 in
    let is : act ≡ Raise row = same_act _ _ (sym (ap (newly state.now) (found.3 ∙ n.lifted)) ∙ h) in
    ap (λ a. decided facts state (asked facts a)) is
    ∙ (ap (λ c. decide_raise facts state Clerk window c step seats) (own_code facts code found.0 found.1)
    ∙ ap (λ b. decide_raise facts state b window code step seats) (sym (clerk_by by n.clerk)))

pub asked_by : (facts : SeasonFacts) (state : State) (by : By) (ask : Ask) (act : Act) → newly state.now (decided_by facts state by ask) ≡ Some act
    → decided facts state (asked facts act) ≡ decided_by facts state by ask
asked_by facts state by ask act =
    by_kind (λ a. newly state.now (decided_by facts state by a) ≡ Some act → decided facts state (asked facts act) ≡ decided_by facts state by a)
    (λ cand window turn choice h. asked_answer facts state by (record { window = window; cand = cand; turn = turn; choice = choice }) act h)
    (λ window h. asked_cut facts state by window act h)
    (λ window code step seats h. asked_raise facts state by window code step seats act h)
    (λ a is h. absurd (let e = question_old facts state state.now by a is in cc)) ask

-- ---- each decision that accepts

pub asked_note : (facts : SeasonFacts) (state : State) (request : Request) (row : AnswerRow) (at : ℕ) → decided facts state request ≡ Note row → IsAt facts at (decided facts state request) → IsAnswerAt facts state row at
asked_note facts state request row at e here = (asked_by facts state request.by request.ask (Answer row) (ap (newly state.now) e) ∙ e, subst (IsAt facts at) e here)

pub asked_lift : (facts : SeasonFacts) (state : State) (request : Request) (row : RaiseRow) → decided facts state request ≡ Lift row → decided facts state (asked facts (Raise row)) ≡ Lift row
asked_lift facts state request row e = asked_by facts state request.by request.ask (Raise row) (ap (newly state.now) e) ∙ e

pub asked_publish : (facts : SeasonFacts) (state : State) (request : Request) → decided facts state request ≡ Publish → decided facts state (asked facts (Cut state.now)) ≡ Publish
asked_publish facts state request e = asked_by facts state request.by request.ask (Cut state.now) (ap (newly state.now) e) ∙ e

pub asked_finish : (facts : SeasonFacts) (state : State) (request : Request) → decided facts state request ≡ Finish → decided facts state (asked facts (Cut state.now)) ≡ Finish
asked_finish facts state request e = asked_by facts state request.by request.ask (Cut state.now) (ap (newly state.now) e) ∙ e
