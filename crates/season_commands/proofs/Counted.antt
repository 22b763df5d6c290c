-- Each answer is noted or refused, and no other request is counted.
use Rattle.std.proofs.Common.{◌≡◌, ◌+◌, ◌&&◌, ℕ, Bool, true, false, [], ◌∷◌, Option, Some, None, option_map, cond, if◌then◌else◌, arith, refl, ap, ◌∙◌}
use Rattle.std.proofs.lemmas.List.Sums.{sum_by-cons}
use Rattle.office_asks.specs.declared.ask.Ask.{Ask}
use Rattle.office_asks.specs.declared.ask.Ask.TheVariants.{Answer, Cut, Raise}
use Rattle.office_asks.specs.declared.ask.By.{By}
use Rattle.office_base.specs.declared.person.Person.{Person}
use Rattle.rank_lists.specs.Register.{find_person}
use Rattle.kept_rows.specs.declared.rows.AnswerRow.{AnswerRow}
use Rattle.kept_rows.specs.declared.rows.RaiseRow.{RaiseRow}
use Rattle.office_moves.specs.Facts.{SeasonFacts, find_programme}
use Rattle.office_moves.specs.State.{State, view_of}
use Rattle.office_moves.specs.Decided.{answer_facts, decided_by, raise_facts}
use Rattle.office_moves.specs.Moves.{Does, Tells}
use Rattle.office_moves.specs.declared.decide.Decision.{Decision}
use Rattle.office_moves.specs.declared.decide.Decision.TheVariants.{Refuse, NotedAgain, CutAgain, Note, Publish, Tell}
use Rattle.office_moves.specs.declared.decide.Question.{Question}
use Rattle.office_moves.specs.declared.decide.Question.TheVariants.{List as TheList, Cutoffs as TheCutoffs, Register as TheRegister}
use Rattle.office_moves.specs.declared.moves.Reply.{Reply}
use Rattle.office_moves.specs.declared.moves.Reply.TheVariants.{Published, Final, RegisterIs}
use Rattle.office_moves.proofs.Decisions.{answer_keeps, cut_keeps, programme_keeps, question_keeps, raise_keeps}
use Rattle.season_commands.specs.Laws.{EachAnswerIsCounted}
use Rattle.season_commands.specs.Tally.{is_answer, is_receipt, is_refusal, is_refused_answer, requests_of}

-- ---- decisions and their replies

-- the reply is the receipt of an answer
abbrev notes : Decision → Bool
notes (NotedAgain row) = true
notes (Note row) = true
notes _ = false

-- the reply is a refusal
abbrev refuses : Decision → Bool
refuses (Refuse refusal) = true
refuses _ = false

record IsReplyTo (decision : Decision) (reply : Reply) : Type 0 where
  pub receipt : is_receipt reply ≡ notes decision
  pub refusal : is_refusal reply ≡ refuses decision

-- a reply that is this one
as_reply : (decision : Decision) (shown reply : Reply) → reply ≡ shown → is_receipt shown ≡ notes decision → is_refusal shown ≡ refuses decision → IsReplyTo decision reply
as_reply decision shown reply same noted refused = record { receipt = ap is_receipt same ∙ noted; refusal = ap is_refusal same ∙ refused }

-- the receipt of a cut is no receipt of an answer, and no refusal
a_cut : (b : Bool) (m s n : ℕ) (reply : Reply) (window : ℕ) → reply ≡ (if b then Published m s else Final n) → IsReplyTo (CutAgain window) reply
a_cut true m s n reply window same = as_reply (CutAgain window) (Published m s) reply same refl refl
a_cut false m s n reply window same = as_reply (CutAgain window) (Final n) reply same refl refl

-- nor is the reply to a question
told : (facts : SeasonFacts) (state : State) (question : Question) (reply : Reply) → Tells facts state question reply → IsReplyTo (Tell question) reply
told facts state (TheList number prog) reply tells = as_reply (Tell (TheList number prog)) _ reply tells.2 refl refl
told facts state (TheCutoffs number prog) reply tells = as_reply (Tell (TheCutoffs number prog)) _ reply tells.4 refl refl
told facts state (TheRegister cand) reply tells = an_entry (find_person cand.0 facts.people) tells
  where
    an_entry : (entry : Option Person) → option_map (λ person. RegisterIs person) entry ≡ Some reply → IsReplyTo (Tell (TheRegister cand)) reply
    an_entry None tells = absurd (cc)
    an_entry (Some person) tells = let same : reply ≡ RegisterIs person = cc in as_reply (Tell (TheRegister cand)) (RegisterIs person) reply same refl refl
told facts state question reply tells = as_reply (Tell question) _ reply tells refl refl

replied : (facts : SeasonFacts) (old : State) (decision : Decision) (reply : Reply) (new : State) → Does facts old decision reply new → IsReplyTo decision reply
replied facts old (CutAgain window) reply new does = a_cut _ _ _ _ reply window does.0
replied facts old Publish reply new does = as_reply Publish _ reply does.2 refl refl
replied facts old (Tell question) reply new does = told facts old question reply does.0
replied facts old decision reply new does = as_reply decision _ reply does.0 refl refl

-- ---- one request

-- a decision on this ask counts once if the ask is an answer, and otherwise never
abbrev Counts : Ask → Decision → Type 0
Counts ask decision = cond (notes decision) 1 0 + cond (is_answer ask && refuses decision) 1 0 ≡ cond (is_answer ask) 1 0

counted : (facts : SeasonFacts) (state : State) (by : By) (ask : Ask) → Counts ask (decided_by facts state by ask)
counted facts state by (Answer cand window turn choice) =
    let row : AnswerRow = record { window = window; cand = cand; turn = turn; choice = choice } in
    answer_keeps (Counts (Answer cand window turn choice)) (λ r. refl) (answer_facts facts (view_of state cand.0) row) by row refl refl
counted facts state by (Cut window) = cut_keeps (Counts (Cut window)) (λ r. refl) by state.now facts.rounds window refl refl refl
counted facts state by (Raise window code step seats) =
    programme_keeps (Counts (Raise window code step seats)) (λ r. refl) (find_programme facts code) _
    (λ prog is. let row : RaiseRow = record { window = window; prog = prog; step = step; seats = seats } in
    raise_keeps (Counts (Raise window code step seats)) (λ r. refl) (raise_facts facts state row) by row refl refl)
counted facts state by ask = question_keeps (Counts ask) (λ r. refl) facts state by ask refl (λ question. refl)

counts_for : (facts : SeasonFacts) (old new : State) (by : By) (ask : Ask) (reply : Reply) → Does facts old (decided_by facts old by ask) reply new
    → cond (is_receipt reply) 1 0 + cond (is_answer ask && is_refusal reply) 1 0 ≡ cond (is_answer ask) 1 0
counts_for facts old new by ask reply does = let is = replied facts old (decided_by facts old by ask) reply new does in rw (is.receipt, is.refusal) (counted facts old by ask)

-- ---- all requests

pub each_answer : (facts : SeasonFacts) → EachAnswerIsCounted facts
each_answer facts old new [] handled = refl
each_answer facts old new (one ∷ rest) handled =
    let noted = sum_by-cons (λ h. cond (is_receipt h.reply) 1 0) one rest in
    let refused = sum_by-cons (λ h. cond (is_refused_answer h.request h.reply) 1 0) one rest in
    let answers = sum_by-cons (λ r. cond (is_answer r.ask) 1 0) one.request (requests_of rest) in
    let first = counts_for facts old handled.0 one.request.by one.request.ask one.reply handled.1 in
    let later = each_answer facts handled.0 new rest handled.2 in
    omega (arith, noted, refused, answers, first, later)
