-- The reply to each request is a function of what it looks at.
use Rattle.std.proofs.Common.{◌≡◌, ◌∙◌, ℕ, suc, List, [], Some, None, length, option_map, sym, ap, subst}
use Rattle.office_asks.specs.declared.ask.Ask.TheVariants.{Choices, Register}
use Rattle.office_asks.specs.declared.ask.By.{By}
use Rattle.office_base.specs.declared.step.StepKind.{StepKind}
use Rattle.kept_rows.specs.declared.rows.AnswerRow.{AnswerRow}
use Rattle.kept_rows.specs.declared.rows.RaiseRow.{RaiseRow}
use Rattle.seat_matrix.specs.Matrix.{seats_in}
use Rattle.programme_lists.specs.declared.programme.Programme.{Programme}
use Rattle.list_cutoffs.specs.Cutoffs.{AreCutoffsIn}
use Rattle.list_cutoffs.specs.Laws.{OneListOfCutoffs}
use Rattle.list_cutoffs.specs.declared.cutoffs.StepCutoff.{StepCutoff}
use Rattle.office_moves.specs.Facts.{SeasonFacts, find_programme}
use Rattle.office_moves.specs.Judge.{judge_list, judge_round}
use Rattle.office_moves.specs.Decided.{decide_raise, is_known, raise_facts}
use Rattle.office_moves.specs.Moves.{Does, in_windows, programme_in}
use Rattle.office_moves.specs.declared.decide.Decision.{Decision}
use Rattle.office_moves.specs.declared.decide.Question.TheVariants.{List as TheList, Choices as TheChoices, Cutoffs as TheCutoffs, Register as TheRegister, Answers as TheAnswers}
use Rattle.office_moves.specs.declared.moves.Reply.TheVariants.{AnswersAre, CutoffsAre, ListIs}
use Rattle.office_moves.proofs.Decisions.{list_keeps, own_keeps, programme_keeps, raise_keeps, round_keeps}
use Rattle.history_laws.specs.Laws.{ListsHoldChoices}
use Rattle.season_laws.specs.Looks.{AnswersLookAtOwnRows, CutoffsLookAtTheRound, EntriesLookAtTheSeason, ListsLookAtTheRound, RaisesLookAtRaises, RoundsLookAtNumbers, StateLooksAtNumbers}

-- ---- the state, and what was published

pub state_looks : (facts : SeasonFacts) → StateLooksAtNumbers facts
state_looks facts a b after then by reply other now published first second = cc (first.0, second.0, now, published)

pub rounds_look : (facts : SeasonFacts) → RoundsLookAtNumbers facts
rounds_look facts a b after then by number reply other now published first second =
    round_keeps (λ d. Does facts a d reply after → Does facts b d other then → reply ≡ other) (λ r x y. x.0 ∙ sym y.0) b.now (length b.rounds) number (λ within x y. x.0 ∙ sym y.0)
    (subst (λ (n : ℕ). Does facts a (judge_round n (length b.rounds) number) reply after) now
    (subst (λ (n : ℕ). Does facts a (judge_round a.now n number) reply after) published first)) second

-- ---- a list

pub list_looks : (facts : SeasonFacts) → ListsLookAtTheRound facts
list_looks facts a b after then by number code reply other published same first second =
    let prog = find_programme facts code in
    list_keeps (λ d. Does facts a d reply after → Does facts b d other then → reply ≡ other) (λ r x y. x.0 ∙ sym y.0) (λ p. TheList number p) prog (length b.rounds) number
    (λ p is within x y.
    let there : Some x.0.0 ≡ Some y.0.0 = sym x.0.1 ∙ (ap (λ o. programme_in o p.0) same ∙ y.0.1) in
    let one : x.0.0 ≡ y.0.0 = cc in
    x.0.2 ∙ (ap (λ q. ListIs number p q) one ∙ sym y.0.2))
    (subst (λ n. Does facts a (judge_list (option_map (λ p. TheList number p) prog) n number) reply after) published first) second

-- ---- cutoffs

pub cutoffs_look : ListsHoldChoices → OneListOfCutoffs → (facts : SeasonFacts) → CutoffsLookAtTheRound facts
cutoffs_look hold one facts a b after then by number code reply other sound orderly published same first second =
    let prog = find_programme facts code in
    list_keeps (λ d. Does facts a d reply after → Does facts b d other then → reply ≡ other) (λ r x y. x.0 ∙ sym y.0) (λ p. TheCutoffs number p) prog (length b.rounds) number
    (λ p is within x y.
    let there : Some y.0.0 ≡ Some x.0.0 = sym y.0.2 ∙ (ap (λ o. programme_in o p.0) (sym same) ∙ x.0.2) in
    let shown : y.0.0 ≡ x.0.0 = cc in
    let again = subst (λ (programme : Programme). AreCutoffsIn (seats_in facts.matrix p.0) programme.steps y.0.1) shown y.0.3 in
    let lines = one (seats_in facts.matrix p.0) x.0.0.steps x.0.1 y.0.1 (hold facts a number p.0 x.0.0 sound orderly x.0.2) x.0.3 again in
    x.0.4 ∙ (ap (λ (lines : List StepCutoff). CutoffsAre number p lines) lines ∙ sym y.0.4))
    (subst (λ n. Does facts a (judge_list (option_map (λ p. TheCutoffs number p) prog) n number) reply after) published first) second

-- ---- what the season has of a candidate, and the candidate's answers

pub entries_look : (facts : SeasonFacts) → EntriesLookAtTheSeason facts
entries_look facts a b after then by (Choices cand) reply other is first second =
    own_keeps (λ d. Does facts a d reply after → Does facts b d other then → reply ≡ other) (λ r x y. x.0 ∙ sym y.0) (is_known facts cand) by cand (TheChoices cand)
    (λ known x y. x.0 ∙ sym y.0) first second
entries_look facts a b after then by (Register cand) reply other is first second =
    own_keeps (λ d. Does facts a d reply after → Does facts b d other then → reply ≡ other) (λ r x y. x.0 ∙ sym y.0) (is_known facts cand) by cand (TheRegister cand)
    (λ known x y. let one = x.0 in let two = y.0 in cc) first second
entries_look facts a b after then by _ reply other is first second = absurd (cc)

pub answers_look : (facts : SeasonFacts) → AnswersLookAtOwnRows facts
answers_look facts a b after then by cand reply other same first second =
    own_keeps (λ d. Does facts a d reply after → Does facts b d other then → reply ≡ other) (λ r x y. x.0 ∙ sym y.0) (is_known facts cand) by cand (TheAnswers cand)
    (λ known x y. x.0 ∙ (ap (λ (rows : List AnswerRow). AnswersAre cand (in_windows (suc facts.rounds) rows)) same ∙ sym y.0)) first second

-- ---- a raise

-- what comes of a raise, by how many cuts were made and the accepted raises
abbrev decide_by : SeasonFacts → By → ℕ → List ℕ → StepKind → ℕ → ℕ → List RaiseRow → Decision
decide_by facts by window code step seats now raises =
    decide_raise facts (record { now = now; rounds = []; finals = None; answers = []; raises = raises }) by window code step seats

pub raise_looks_alone : (facts : SeasonFacts) → RaisesLookAtRaises facts
raise_looks_alone facts a b after then by window code step seats reply other now raises first second =
    let one : decide_by facts by window code step seats a.now a.raises ≡ decide_by facts by window code step seats b.now b.raises =
    ap (λ n. decide_by facts by window code step seats n a.raises) now ∙ ap (λ rows. decide_by facts by window code step seats b.now rows) raises in
    let alike : Decision → Type 0 = λ d. Does facts a d reply after → Does facts b d other then → reply ≡ other in
    programme_keeps alike (λ r x y. x.0 ∙ sym y.0) (find_programme facts code) _ (λ prog is.
    let row : RaiseRow = record { window = window; prog = prog; step = step; seats = seats } in
    raise_keeps alike (λ r x y. x.0 ∙ sym y.0) (raise_facts facts (record { now = b.now; rounds = []; finals = None; answers = []; raises = b.raises }) row) by row
    (λ x y. x.0 ∙ sym y.0) (λ x y. x.0 ∙ sym y.0))
    (subst (λ d. Does facts a d reply after) one first) second
