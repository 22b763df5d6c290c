-- What the office replies to a candidate looks at the candidate's own view.
use Rattle.std.proofs.Common.{◌≡◌, Some, length, sym, ap, ◌∙◌, subst}
use Rattle.office_asks.specs.declared.ask.Ask.TheVariants.{Answer, Seat, Why, Choices, Register, Answers}
use Rattle.office_base.specs.declared.person.CandId.{CandId}
use Rattle.kept_rows.specs.declared.rows.AnswerRow.{AnswerRow}
use Rattle.office_moves.specs.Facts.{SeasonFacts, find_programme}
use Rattle.office_moves.specs.State.{State, view_of}
use Rattle.office_moves.specs.Decided.{answer_facts, decide_answer, decide_why, is_chosen_by, is_known}
use Rattle.office_moves.specs.Moves.{Does, answers_reply, seat_reply, why_reply}
use Rattle.office_moves.specs.Laws.{OwnViewOnly}
use Rattle.office_moves.specs.declared.decide.Decision.{Decision}
use Rattle.office_moves.specs.declared.decide.Question.TheVariants.{Seat as TheSeat, Choices as TheChoices, Register as TheRegister, Answers as TheAnswers}
use Rattle.office_moves.specs.declared.moves.Reply.{Reply}
use Rattle.office_moves.proofs.Decisions.{answer_keeps, own_keeps, why_keeps}

-- the decision has one reply in both states
abbrev HasOne : SeasonFacts → (a b after then : State) → (reply other : Reply) → Decision → Type 0
HasOne facts a b after then reply other decision = Does facts a decision reply after → Does facts b decision other then → reply ≡ other

views : (a b : State) (one cand : CandId) → Some one ≡ Some cand → view_of a cand.0 ≡ view_of b cand.0 → view_of a one.0 ≡ view_of b one.0
views a b one cand e same = let is : one ≡ cand = cc in subst (λ z. view_of a z.0 ≡ view_of b z.0) (sym is) same

pub own_view_only : (facts : SeasonFacts) → OwnViewOnly facts
own_view_only facts a b after then by (Answer one window turn choice) cand reply other e same first second =
    let row : AnswerRow = record { window = window; cand = one; turn = turn; choice = choice } in
    answer_keeps (HasOne facts a b after then reply other) (λ r x y. x.0 ∙ sym y.0) (answer_facts facts (view_of b one.0) row) by row (λ x y. x.0 ∙ sym y.0) (λ x y. x.0 ∙ sym y.0)
    (subst (λ view. Does facts a (decide_answer facts view by row) reply after) (views a b one cand e same) first) second
own_view_only facts a b after then by (Seat one) cand reply other e same first second =
    own_keeps (HasOne facts a b after then reply other) (λ r x y. x.0 ∙ sym y.0) (is_known facts one) by one (TheSeat one)
    (λ known x y. x.0 ∙ (ap (λ view. seat_reply facts view one) (views a b one cand e same) ∙ sym y.0)) first second
own_view_only facts a b after then by (Why one code) cand reply other e same first second =
    let prog = find_programme facts code in
    why_keeps (HasOne facts a b after then reply other) (λ r x y. x.0 ∙ sym y.0) (is_known facts one) prog (is_chosen_by facts one prog) (length b.rounds) by one
    (λ known p found some x y. x.0 ∙ (ap (λ view. why_reply facts view one p) (views a b one cand e same) ∙ sym y.0))
    (subst (λ view. Does facts a (decide_why facts view by one code) reply after) (views a b one cand e same) first) second
own_view_only facts a b after then by (Choices one) cand reply other e same first second =
    own_keeps (HasOne facts a b after then reply other) (λ r x y. x.0 ∙ sym y.0) (is_known facts one) by one (TheChoices one) (λ known x y. x.0 ∙ sym y.0) first second
own_view_only facts a b after then by (Register one) cand reply other e same first second =
    own_keeps (HasOne facts a b after then reply other) (λ r x y. x.0 ∙ sym y.0) (is_known facts one) by one (TheRegister one)
    (λ known x y. let first = x.0 in let second = y.0 in cc) first second
own_view_only facts a b after then by (Answers one) cand reply other e same first second =
    own_keeps (HasOne facts a b after then reply other) (λ r x y. x.0 ∙ sym y.0) (is_known facts one) by one (TheAnswers one)
    (λ known x y. x.0 ∙ (ap (λ view. answers_reply facts view one) (views a b one cand e same) ∙ sym y.0)) first second
own_view_only facts a b after then by _ cand reply other e same first second = absurd (cc)
