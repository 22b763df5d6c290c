-- A history leads to one state, where rounds are one.
use Rattle.std.proofs.Common.{◌≡◌, ◌+◌, List, [], ◌∷◌, ◌++◌, Some, refl, sym, ap, ◌∙◌, subst}
use Rattle.seat_matrix.specs.Matrix.{seats_in}
use Rattle.programme_lists.specs.declared.programme.Programme.{Programme}
use Rattle.list_cutoffs.specs.Cutoffs.{AreCutoffsIn}
use Rattle.list_cutoffs.specs.declared.cutoffs.StepCutoff.{StepCutoff}
use Rattle.rounds.specs.Round.{seated}
use Rattle.rounds.specs.declared.round.Round.{Round}
use Rattle.office_moves.specs.Facts.{SeasonFacts}
use Rattle.office_moves.specs.State.{State, opening, with_round}
use Rattle.office_moves.specs.Decided.{decided}
use Rattle.office_moves.specs.Moves.{Does, IsMove, Tells}
use Rattle.office_moves.specs.History.{Reaches, asked, newly}
use Rattle.office_moves.specs.Laws.{NextRoundsAreOne, OneListOfCutoffs, OneNextRound, OneReply, OneState}
use Rattle.office_moves.specs.declared.decide.Decision.{Decision}
use Rattle.office_moves.specs.declared.decide.Decision.TheVariants.{Publish, Tell}
use Rattle.office_moves.specs.declared.decide.Question.{Question}
use Rattle.office_moves.specs.declared.decide.Question.TheVariants.{List as TheList, Cutoffs as TheCutoffs, Register as TheRegister}
use Rattle.office_moves.specs.declared.moves.Entry.{Entry}
use Rattle.office_moves.specs.declared.moves.Reply.{Reply}
use Rattle.office_moves.specs.declared.moves.Reply.TheVariants.{CutoffsAre, ListIs, Published}

one_told : (facts : SeasonFacts) (state : State) (question : Question) (reply other : Reply) → OneListOfCutoffs facts state → Tells facts state question reply → Tells facts state question other
    → reply ≡ other
one_told facts state (TheList number prog) reply other cutoffs first second =
    let e = first.1 in
    let f = second.1 in
    let same : first.0 ≡ second.0 = cc in
    first.2 ∙ (ap (λ (programme : Programme). ListIs number prog programme) same ∙ sym second.2)
one_told facts state (TheCutoffs number prog) reply other cutoffs first second =
    let e = first.2 in
    let f = second.2 in
    let same : second.0 ≡ first.0 = cc in
    let again = subst (λ (programme : Programme). AreCutoffsIn (seats_in facts.matrix prog.0) programme.steps second.1) same second.3 in
    let lines = cutoffs number prog first.0 first.1 second.1 e first.3 again in
    first.4 ∙ (ap (λ (lines : List StepCutoff). CutoffsAre number prog lines) lines ∙ sym second.4)
one_told facts state (TheRegister cand) reply other cutoffs first second = cc
one_told facts state question reply other cutoffs first second = first ∙ sym second

-- what follows a decision is one state
one_after : (facts : SeasonFacts) (old : State) (decision : Decision) (reply other : Reply) (after then : State) → OneNextRound facts old → Does facts old decision reply after
    → Does facts old decision other then → after ≡ then
one_after facts old Publish reply other after then one first second =
    let same = one first.0 second.0 first.1 second.1 in
    first.3 ∙ (ap (with_round old) same ∙ sym second.3)
one_after facts old decision reply other after then one first second = first.1 ∙ sym second.1

-- and its reply is one
one_answer : (facts : SeasonFacts) (old : State) (decision : Decision) (reply other : Reply) (after then : State) → OneNextRound facts old → OneListOfCutoffs facts old
    → Does facts old decision reply after → Does facts old decision other then → reply ≡ other
one_answer facts old Publish reply other after then one cutoffs first second =
    let same = one first.0 second.0 first.1 second.1 in
    first.2 ∙ (ap (λ (round : Round). Published (old.now + 1) (seated round.seats)) same ∙ sym second.2)
one_answer facts old (Tell question) reply other after then one cutoffs first second = one_told facts old question reply other cutoffs first.0 second.0
one_answer facts old decision reply other after then one cutoffs first second = first.0 ∙ sym second.0

-- an act more at the end
pub reaches_more : (facts : SeasonFacts) (old mid new : State) (entries : List Entry) (entry : Entry) (reply : Reply) → Reaches facts old entries mid
    → newly mid.now (decided facts mid (asked facts entry.act)) ≡ Some entry.act → IsMove facts mid (asked facts entry.act) reply new → Reaches facts old (entries ++ entry ∷ []) new
reaches_more facts old mid new [] entry reply same accepted moves =
    (new, reply, subst (λ s. newly s.now (decided facts s (asked facts entry.act)) ≡ Some entry.act) same accepted, subst (λ s. IsMove facts s (asked facts entry.act) reply new) same moves, refl)
reaches_more facts old mid new (first ∷ entries) entry reply reached accepted moves =
    (reached.0, reached.1, reached.2, reached.3, reaches_more facts reached.0 mid new entries entry reply reached.4 accepted moves)

one_from : (facts : SeasonFacts) (before entries : List Entry) (old a b : State) → NextRoundsAreOne facts → Reaches facts opening before old → Reaches facts old entries a
    → Reaches facts old entries b → a ≡ b
one_from facts before [] old a b one there first second = first ∙ sym second
one_from facts before (entry ∷ entries) old a b one there first second =
    let same = one_after facts old _ _ _ _ _ (one before old there) first.3 second.3 in
    let there' = reaches_more facts opening old first.0 before entry first.1 there first.2 first.3 in
    one_from facts (before ++ entry ∷ []) entries first.0 a b one there' first.4 (subst (λ s. Reaches facts s entries b) (sym same) second.4)

pub one_state : (facts : SeasonFacts) → OneState facts
one_state facts one entries a b first second = one_from facts [] entries opening a b one refl first.reached second.reached

pub one_reply : (facts : SeasonFacts) → OneReply facts
one_reply facts one cutoffs entries state after then request reply other history first second =
    let round = one entries state history.reached in
    (one_answer facts state _ _ _ _ _ round (cutoffs entries state history.reached) first second, one_after facts state _ _ _ _ _ round first second)
