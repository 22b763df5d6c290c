-- The cut of the open window, and the seats that are published.
use Rattle.std.proofs.Common.{◌≡◌, ◌<◌, ◌+◌, ℕ, Bool, true, false, List, [], Option, Some, None, length, refl, sym, ap, ◌∙◌, subst, arith, ◌==◌, if◌then◌else◌}
use Rattle.std.proofs.lemmas.Bool.{eq-eqb, eqb-true}
use Rattle.office_base.specs.declared.seat.Seat.{Seat}
use Rattle.office_base.specs.declared.person.Person.{Person}
use Rattle.kept_rows.specs.declared.rows.AllotRow.{AllotRow}
use Rattle.rounds.specs.Round.{seated}
use Rattle.rounds.specs.declared.round.Round.{Round}
use Rattle.office_moves.specs.Decided.{decided}
use Rattle.office_moves.specs.Facts.{SeasonFacts}
use Rattle.office_moves.specs.History.{asked, newly}
use Rattle.office_moves.specs.Moves.{Does, IsNextRound, final_rows, rows_along}
use Rattle.office_moves.specs.State.{State, with_finals, with_round}
use Rattle.office_moves.specs.declared.decide.Decision.{Decision}
use Rattle.office_moves.specs.declared.decide.Decision.TheVariants.{Finish, Publish}
use Rattle.office_moves.specs.declared.moves.Act.TheVariants.{Cut}
use Rattle.office_moves.specs.declared.moves.Reply.TheVariants.{Final, Published}
use Rattle.history_laws.specs.Orderly.{IsOrderly}
use Rattle.office_moves.specs.Promise.{kept_to_the_end}
use Rattle.office_moves.specs.Stands.{first_allot, seat_in_finals}
use Rattle.office_moves.proofs.Cuts.{ends}
use Rattle.replays.specs.Differences.{AreFound, IsOfNobody, seat_along}
use Rattle.replays.specs.Replay.{CutPasses}
use Rattle.replays.proofs.Seats.{AreRising, found_along, rows_outside}

pub publishes : (facts : SeasonFacts) (state : State) → state.now < facts.rounds → decided facts state (asked facts (Cut state.now)) ≡ Publish
publishes facts state less = ends facts state (omega (arith, less)) ∙ step (state.now == facts.rounds) refl
  where
    step : (b : Bool) → (state.now == facts.rounds) ≡ b → (if b then Finish else Publish) ≡ Publish
    step true e = absurd (let f = eqb-true state.now facts.rounds e in omega (arith, f, less))
    step false e = refl

pub finishes : (facts : SeasonFacts) (state : State) → state.now ≡ facts.rounds → decided facts state (asked facts (Cut state.now)) ≡ Finish
finishes facts state last = ends facts state (omega (arith, last)) ∙ step (state.now == facts.rounds) (eq-eqb state.now facts.rounds last)
  where
    step : (b : Bool) → b ≡ true → (if b then Finish else Publish) ≡ Finish
    step true e = refl
    step false e = absurd (cc)

pub round_cut : (facts : SeasonFacts) (old new : State) (round : Round) → old.now < facts.rounds → IsNextRound facts old round → new ≡ with_round old round → CutPasses facts old new
round_cut facts old new round less next is =
    let decides = publishes facts old less in
    record {
      accepted = ap (newly old.now) decides;
      reply = Published (old.now + 1) (seated round.seats);
      moves = subst (λ (d : Decision). Does facts old d (Published (old.now + 1) (seated round.seats)) new) (sym decides) (round, next, refl, is);
    }

pub last_cut : (facts : SeasonFacts) (old new : State) (rows : List AllotRow) → old.now ≡ facts.rounds → rows ≡ final_rows facts old → new ≡ with_finals old rows → CutPasses facts old new
last_cut facts old new rows last same is =
    let decides = finishes facts old last in
    record {
      accepted = ap (newly old.now) decides;
      reply = Final (length (final_rows facts old));
      moves = subst (λ (d : Decision). Does facts old d (Final (length (final_rows facts old))) new) (sym decides) (refl, is ∙ ap (λ (r : List AllotRow). with_finals old r) same);
    }

-- ---- the final seats

pub final_along : (facts : SeasonFacts) (people : List Person) (state : State) (rows slice : List AllotRow) (number : ℕ) (found : List (Option Seat)) → IsOrderly facts state → AreRising people
    → people ≡ facts.people → Some rows ≡ state.finals → slice ≡ rows → AreFound number people slice [] found
    → (id : ℕ) → seat_along facts.people found id ≡ seat_in_finals state.finals number id
final_along facts people state rows slice number found orderly rising same last read are id =
    let along : slice ≡ rows_along (facts.rounds + 1) (kept_to_the_end facts state) facts.people = read ∙ orderly.course.finals rows (sym last) in
    let strangers : (other : ℕ) → IsOfNobody people other → first_allot number other slice ≡ None = λ other nobody.
    ap (λ (r : List AllotRow). first_allot number other r) along
    ∙ rows_outside (facts.rounds + 1) number other (kept_to_the_end facts state) facts.people (subst (λ (p : List Person). IsOfNobody p other) same nobody) in
    ap (λ (p : List Person). seat_along p found id) (sym same)
    ∙ (found_along number people slice found rising are strangers id
    ∙ (ap (λ (r : List AllotRow). first_allot number id r) read ∙ ap (λ (f : Option (List AllotRow)). seat_in_finals f number id) last))
