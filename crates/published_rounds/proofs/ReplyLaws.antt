-- The lines of a reply are those of the laws.
use Rattle.std.proofs.Common.{◌≡◌, inl, inr, ℕ, suc, List, [], ◌∷◌, Option, Some, None, refl, sym, ap, ◌∙◌, subst}
use Rattle.std.specs.Prelude.{slice_get, true}
use Rattle.office_base.specs.Lists.{IsAmong}
use Rattle.office_base.specs.declared.person.Person.{Person}
use Rattle.office_base.specs.declared.person.ProgId.{ProgId}
use Rattle.allocations.specs.Market.{wants}
use Rattle.seat_matrix.specs.Matrix.{list_in, seats_in}
use Rattle.seat_matrix.specs.declared.seats.ProgrammeSeats.{ProgrammeSeats}
use Rattle.programme_lists.specs.declared.programme.Programme.{Programme}
use Rattle.list_cutoffs.specs.Cutoffs.{AreCutoffsIn, AreKeptListed}
use Rattle.list_cutoffs.specs.Laws.{CutoffsExist, OneListOfCutoffs}
use Rattle.list_cutoffs.specs.declared.cutoffs.StepCutoff.{StepCutoff}
use Rattle.programme_cutoffs.specs.Reading.{IsWithinLines}
use Rattle.rounds.specs.declared.round.Round.{Round}
use Rattle.office_moves.specs.Facts.{IsSound, SeasonFacts}
use Rattle.office_moves.specs.History.{IsHistory}
use Rattle.office_moves.specs.Moves.{Tells, programme_in}
use Rattle.office_moves.specs.State.{State, round_at, seat_of}
use Rattle.office_moves.specs.declared.decide.Question.TheVariants.{Cutoffs as TheCutoffs}
use Rattle.office_moves.specs.declared.moves.Entry.{Entry}
use Rattle.office_moves.specs.declared.moves.Reply.{Reply}
use Rattle.office_moves.specs.declared.moves.Reply.TheVariants.{CutoffsAre}
use Rattle.history_laws.specs.Laws.{ListsHoldChoices}
use Rattle.history_laws.specs.Orderly.{IsOrderly}
use Rattle.published_rounds.specs.CutoffLaws.{WithinCutoffsIsSeated}
use Rattle.published_rounds.specs.Cutoffs.{AreCutoffsThen}
use Rattle.published_rounds.specs.Published.{IsPublished, IsThatOrEarlier, wanted_then}
use Rattle.published_rounds.specs.ReplyLaws.{RepliesDecide}
use Rattle.published_rounds.proofs.Places.{AreOrderly}

-- what a programme's lists have, if it has any
abbrev AreLines : ProgrammeSeats → Option Programme → List StepCutoff → Type 0
AreLines seats found lines = (programme : Programme) → found ≡ Some programme → AreCutoffsIn seats programme.steps lines

lines_at : CutoffsExist → (seats : ProgrammeSeats) (found : Option Programme) → ((programme : Programme) → found ≡ Some programme → AreKeptListed seats programme.steps)
    → (lines : List StepCutoff) × AreLines seats found lines
lines_at exist seats None kept = ([], (λ programme is. absurd (cc)))
lines_at exist seats (Some programme) kept =
    let made = exist seats programme.steps (kept programme refl) in
    (made.0, (λ other is. let same : programme ≡ other = cc in subst (λ (p : Programme). AreCutoffsIn seats p.steps made.0) same made.1))

in_reply : AreOrderly → CutoffsExist → OneListOfCutoffs → ListsHoldChoices → ((facts : SeasonFacts) → WithinCutoffsIsSeated facts) → (facts : SeasonFacts) (entries : List Entry) (state : State)
    (window : ℕ) (prog : ProgId) (lines : List StepCutoff) (person : Person) (found : Option Round) → slice_get state.rounds window ≡ found → IsSound facts → IsHistory facts entries state
    → (programme : Programme) → programme_in found prog.0 ≡ Some programme → AreCutoffsIn (seats_in facts.matrix prog.0) programme.steps lines → IsAmong person facts.people
    → wants prog.0 (wanted_then facts state window person.id.0) ≡ true → IsWithinLines (list_in facts.matrix prog.0) person lines
    → IsThatOrEarlier (wanted_then facts state window person.id.0) prog.0 (seat_of facts found person.id.0)
in_reply orderly exist one hold within facts entries state window prog lines person None there sound history programme shown are here wanted inside = absurd (cc)
in_reply orderly exist one hold within facts entries state window prog lines person (Some round) there sound history programme shown are here wanted inside =
    let in_order : IsOrderly facts state = orderly facts entries state sound history.reached in
    let kept : (q : ℕ) (other : Programme) → slice_get round.programmes q ≡ Some other → AreKeptListed (seats_in facts.matrix q) other.steps =
    λ q other is. hold facts state (suc window) q other sound in_order (ap (λ o. programme_in o q) there ∙ is) in
    let all : (q : ℕ) → (found : List StepCutoff) × AreLines (seats_in facts.matrix q) (slice_get round.programmes q) found =
    λ q. lines_at exist (seats_in facts.matrix q) (slice_get round.programmes q) (kept q) in
    let cutoffs : ℕ → List StepCutoff = λ q. (all q).0 in
    let then : AreCutoffsThen facts round cutoffs = λ q other is. (all q).1 other is in
    let same : cutoffs prog.0 ≡ lines = one (seats_in facts.matrix prog.0) programme.steps (cutoffs prog.0) lines (kept prog.0 programme shown) (then prog.0 programme shown) are in
    let published : IsPublished facts entries state window round = record { sound = sound; history = history; there = there } in
    within facts entries state window round person cutoffs prog.0 published here then wanted (subst (λ (l : List StepCutoff). IsWithinLines (list_in facts.matrix prog.0) person l) (sym same) inside)

pub replies_decide : AreOrderly → CutoffsExist → OneListOfCutoffs → ListsHoldChoices → ((facts : SeasonFacts) → WithinCutoffsIsSeated facts) → (facts : SeasonFacts) → RepliesDecide facts
replies_decide orderly exist one hold within facts entries state window prog lines person sound history tells here wanted inside =
    let same : CutoffsAre (suc window) prog lines ≡ CutoffsAre (suc window) prog tells.1 = tells.4 in
    let equal : lines ≡ tells.1 = cc in
    let are = subst (λ (l : List StepCutoff). AreCutoffsIn (seats_in facts.matrix prog.0) tells.0.steps l) (sym equal) tells.3 in
    in_reply orderly exist one hold within facts entries state window prog lines person (slice_get state.rounds window) refl sound history tells.0 tells.2 are here wanted inside
