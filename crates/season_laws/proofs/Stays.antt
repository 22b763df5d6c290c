-- The replies about a published round stay.
use Rattle.std.proofs.Common.{◌≡◌, ◌||◌, ◌==◌, ◌∙◌, ℕ, zero, suc, Bool, true, false, List, Option, Some, None, length, nat_lt, option_map, arith, sym, ap, subst}
use Rattle.std.proofs.lemmas.Bool.{eqb-true, le-ltb, ne_eqb}
use Rattle.std.proofs.lemmas.Option.{slice_get_within}
use Rattle.office_asks.specs.declared.ask.Ask.TheVariants.{List as AskList, Cutoffs}
use Rattle.office_base.specs.declared.person.ProgId.{ProgId}
use Rattle.seat_matrix.specs.Matrix.{seats_in}
use Rattle.programme_lists.specs.declared.programme.Programme.{Programme}
use Rattle.list_cutoffs.specs.Cutoffs.{AreCutoffsIn}
use Rattle.list_cutoffs.specs.declared.cutoffs.StepCutoff.{StepCutoff}
use Rattle.rounds.specs.declared.round.Round.{Round}
use Rattle.office_moves.specs.Facts.{IsSound, SeasonFacts, find_programme}
use Rattle.office_moves.specs.State.{State, round_at}
use Rattle.office_moves.specs.Judge.{judge_list, refuse_if}
use Rattle.office_moves.specs.Moves.{Does, Tells, programme_in}
use Rattle.office_moves.specs.Laws.{CutoffsAreOne, OneListOfCutoffs}
use Rattle.office_moves.specs.declared.decide.Decision.TheVariants.{Tell}
use Rattle.office_moves.specs.declared.decide.Question.{Question}
use Rattle.office_moves.specs.declared.decide.Question.TheVariants.{List as TheList, Cutoffs as TheCutoffs}
use Rattle.office_moves.specs.declared.moves.Reply.{Reply}
use Rattle.office_moves.specs.declared.moves.Reply.TheVariants.{CutoffsAre, ListIs, Refused}
use Rattle.office_moves.specs.declared.refusal.Refusal.TheVariants.{NoSuchRound, UnknownProgramme}
use Rattle.office_moves.proofs.Grows.{reaches_grows, round_stays}
use Rattle.season_laws.specs.Looks.{PublishedRepliesStay}

-- ---- the round is there

is_there : (rounds : List Round) (number : ℕ) (round : Round) → round_at rounds number ≡ Some round → (number == 0 || nat_lt (length rounds) number) ≡ false
is_there rounds zero round e = absurd (cc)
is_there rounds (suc before) round e = let within = slice_get_within rounds before round e in rw (ne_eqb (suc before) 0 (λ same. absurd (omega (arith, same)))) (le-ltb (length rounds) (suc before) (omega (arith, within)))

-- ---- what is replied

-- the reply to a question about a programme in a round that is there, or that no programme has the code
abbrev IsTold : SeasonFacts → State → (ProgId → Question) → Option ProgId → Reply → Type 0
IsTold facts state question None reply = reply ≡ Refused UnknownProgramme
IsTold facts state question (Some prog) reply = Tells facts state (question prog) reply

told_of : (facts : SeasonFacts) (state after : State) (question : ProgId → Question) (prog : Option ProgId) (published number : ℕ) (reply : Reply)
    → (number == 0 || nat_lt published number) ≡ false → Does facts state (judge_list (option_map question prog) published number) reply after → IsTold facts state question prog reply
told_of facts state after question None published number reply within does = does.0
told_of facts state after question (Some prog) published number reply within does = by (number == 0 || nat_lt published number) within does
  where
    by : (b : Bool) → b ≡ false → Does facts state (refuse_if b (NoSuchRound published) (Tell (question prog))) reply after → Tells facts state (question prog) reply
    by true e does = absurd (cc)
    by false e does = does.0

module _ (facts : SeasonFacts) (old new : State) (number : ℕ) (same : round_at new.rounds number ≡ round_at old.rounds number) (cutoffs : OneListOfCutoffs facts old) where
  same_list : (prog : Option ProgId) (reply again : Reply) → IsTold facts old (λ p. TheList number p) prog reply → IsTold facts new (λ p. TheList number p) prog again → again ≡ reply
  same_list None reply again first second = second ∙ sym first
  same_list (Some prog) reply again first second =
      let there : Some second.0 ≡ Some first.0 = sym second.1 ∙ (ap (λ o. programme_in o prog.0) same ∙ first.1) in
      let one : second.0 ≡ first.0 = cc in
      second.2 ∙ (ap (λ (programme : Programme). ListIs number prog programme) one ∙ sym first.2)

  same_cutoffs : (prog : Option ProgId) (reply again : Reply) → IsTold facts old (λ p. TheCutoffs number p) prog reply → IsTold facts new (λ p. TheCutoffs number p) prog again → again ≡ reply
  same_cutoffs None reply again first second = second ∙ sym first
  same_cutoffs (Some prog) reply again first second =
      let there : Some second.0 ≡ Some first.0 = sym second.2 ∙ (ap (λ o. programme_in o prog.0) same ∙ first.2) in
      let one : second.0 ≡ first.0 = cc in
      let lines = cutoffs number prog first.0 second.1 first.1 first.2 (subst (λ (programme : Programme). AreCutoffsIn (seats_in facts.matrix prog.0) programme.steps second.1) one second.3) first.3 in
      second.4 ∙ (ap (λ (those : List StepCutoff). CutoffsAre number prog those) lines ∙ sym first.4)

pub published_replies_stay : ((facts : SeasonFacts) → IsSound facts → CutoffsAreOne facts) → (facts : SeasonFacts) → PublishedRepliesStay facts
published_replies_stay one facts before more old new after then by other (AskList round code) number shown reply again sound reached later there asks first second =
    let grown = (reaches_grows facts old new more later).rounds in
    let is : round ≡ number = eqb-true round number asks in
    let here = subst (λ n. round_at old.rounds n ≡ Some shown) (sym is) there in
    let still = subst (λ rounds. round_at rounds round ≡ Some shown) (sym grown.1) (round_stays old.rounds grown.0 round shown here) in
    same_list facts old new round (still ∙ sym here) (one facts sound before old reached) (find_programme facts code) reply again
    (told_of facts old after (λ p. TheList round p) (find_programme facts code) (length old.rounds) round reply (is_there old.rounds round shown here) first)
    (told_of facts new then (λ p. TheList round p) (find_programme facts code) (length new.rounds) round again (is_there new.rounds round shown still) second)
published_replies_stay one facts before more old new after then by other (Cutoffs round code) number shown reply again sound reached later there asks first second =
    let grown = (reaches_grows facts old new more later).rounds in
    let is : round ≡ number = eqb-true round number asks in
    let here = subst (λ n. round_at old.rounds n ≡ Some shown) (sym is) there in
    let still = subst (λ rounds. round_at rounds round ≡ Some shown) (sym grown.1) (round_stays old.rounds grown.0 round shown here) in
    same_cutoffs facts old new round (still ∙ sym here) (one facts sound before old reached) (find_programme facts code) reply again
    (told_of facts old after (λ p. TheCutoffs round p) (find_programme facts code) (length old.rounds) round reply (is_there old.rounds round shown here) first)
    (told_of facts new then (λ p. TheCutoffs round p) (find_programme facts code) (length new.rounds) round again (is_there new.rounds round shown still) second)
published_replies_stay one facts before more old new after then by other _ number shown reply again sound reached later there asks first second = absurd (cc)
