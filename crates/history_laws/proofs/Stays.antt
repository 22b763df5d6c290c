-- What answers and cuts leave of the past.
use Rattle.std.proofs.Common.{◌≡◌, ◌<◌, ◌≤◌, ℕ, zero, suc, List, [], ◌∷◌, ◌++◌, Option, length, arith, refl, ap, ◌∙◌}
use Rattle.office_base.proofs.Lists.{get-before}
use Rattle.office_base.specs.declared.seat.Seat.{Seat}
use Rattle.kept_rows.specs.declared.rows.AnswerRow.{AnswerRow}
use Rattle.rounds.specs.declared.round.Round.{Round}
use Rattle.round_options.specs.Options.{after_cut}
use Rattle.round_options.specs.declared.standing.Standing.{Standing}
use Rattle.office_moves.specs.Facts.{SeasonFacts}
use Rattle.office_moves.specs.State.{State, View, answered, in_window, left_by, round_at, rows_of, seat_in, seat_of, view_of, with_finals, with_round, with_row}
use Rattle.office_moves.specs.Moves.{final_rows}
use Rattle.office_moves.specs.Promise.{standing_then}
use Rattle.history_laws.specs.Course.{left_then}
use Rattle.history_laws.proofs.Rows.{window_same}

-- ---- published rounds

round_append : (rounds more : List Round) (number : ℕ) → number ≤ length rounds → round_at (rounds ++ more) number ≡ round_at rounds number
round_append rounds more zero few = refl
round_append rounds more (suc before) few = get-before rounds more before (omega (arith, few))

-- ---- how cuts left a candidate

-- two views say the same of the windows before this one, and of the rounds up to it
record AreAlike (facts : SeasonFacts) (a b : View) (id window : ℕ) : Type 0 where
  rows : (w : ℕ) → w < window → in_window w a.rows ≡ in_window w b.rows
  rounds : (w : ℕ) → w ≤ window → round_at a.rounds w ≡ round_at b.rounds w

left_alike : (facts : SeasonFacts) (a b : View) (id window : ℕ) → AreAlike facts a b id window → left_by facts a id window ≡ left_by facts b id window
left_alike facts a b id zero alike = refl
left_alike facts a b id (suc window) alike =
    let before = left_alike facts a b id window (record {
      rows = λ w less. alike.rows w (omega (arith, less));
      rounds = λ w few. alike.rounds w (omega (arith, few));
    }) in
    let own = alike.rows window (omega arith) in
    let there : seat_in facts a.rounds (suc window) id ≡ seat_in facts b.rounds (suc window) id = ap (λ (z : Option Round). seat_of facts z id) (alike.rounds (suc window) (omega arith)) in
    ap (λ (s : Standing). after_cut (answered s (in_window window a.rows)) (seat_in facts a.rounds (suc window) id)) before
    ∙ (ap (λ (z : List AnswerRow). after_cut (answered (left_by facts b id window) z) (seat_in facts a.rounds (suc window) id)) own
    ∙ ap (λ (z : Option Seat). after_cut (answered (left_by facts b id window) (in_window window b.rows)) z) there)

-- what a state says of a candidate at a window stays
pub record Stays (facts : SeasonFacts) (old new : State) (window id : ℕ) : Type 0 where
  pub left : left_then facts new window id ≡ left_then facts old window id
  pub standing : standing_then facts new window id ≡ standing_then facts old window id
  pub seat : seat_in facts new.rounds window id ≡ seat_in facts old.rounds window id

stays_alike : (facts : SeasonFacts) (old new : State) (window id : ℕ) → AreAlike facts (view_of new id) (view_of old id) id window
    → in_window window (rows_of id new.answers) ≡ in_window window (rows_of id old.answers) → Stays facts old new window id
stays_alike facts old new window id alike own =
    let left = left_alike facts (view_of new id) (view_of old id) id window alike in
    record {
      left = left;
      standing = ap (λ (s : Standing). answered s (in_window window (rows_of id new.answers))) left
          ∙ ap (λ (z : List AnswerRow). answered (left_then facts old window id) z) own;
      seat = ap (λ (z : Option Round). seat_of facts z id) (alike.rounds window (omega arith));
    }

-- an answer changes nothing of other candidates
pub others_stay : (facts : SeasonFacts) (old : State) (row : AnswerRow) (window id : ℕ) → (row.cand.0 ≡ id → ⊥) → Stays facts old (with_row old row) window id
others_stay facts old row window id apart =
    stays_alike facts old (with_row old row) window id (record {
      rows = λ w less. window_same w id old.answers row (λ own here. apart own);
      rounds = λ w few. refl;
    }) (window_same window id old.answers row (λ own here. apart own))

-- nor of the windows before its own
pub answered_stays : (facts : SeasonFacts) (old : State) (row : AnswerRow) (window id : ℕ) → window < row.window → Stays facts old (with_row old row) window id
answered_stays facts old row window id early =
    stays_alike facts old (with_row old row) window id (record {
      rows = λ w less. window_same w id old.answers row (λ own here. omega (arith, early, less, here));
      rounds = λ w few. refl;
    }) (window_same window id old.answers row (λ own here. omega (arith, early, here)))

-- nor of how the cuts before its own left anybody
pub answered_left : (facts : SeasonFacts) (old : State) (row : AnswerRow) (window id : ℕ) → window ≤ row.window → left_then facts (with_row old row) window id ≡ left_then facts old window id
answered_left facts old row window id early =
    left_alike facts (view_of (with_row old row) id) (view_of old id) id window (record {
      rows = λ w less. window_same w id old.answers row (λ own here. omega (arith, early, less, here));
      rounds = λ w few. refl;
    })

-- a round changes nothing of the windows up to the last round before it
pub published_stays : (facts : SeasonFacts) (old : State) (round : Round) (window id : ℕ) → window ≤ length old.rounds → Stays facts old (with_round old round) window id
published_stays facts old round window id few =
    stays_alike facts old (with_round old round) window id (record {
      rows = λ w less. refl;
      rounds = λ w less. round_append old.rounds (round ∷ []) w (omega (arith, few, less));
    }) refl

pub finished_stays : (facts : SeasonFacts) (old : State) (window id : ℕ) → Stays facts old (with_finals old (final_rows facts old)) window id
finished_stays facts old window id =
    stays_alike facts old (with_finals old (final_rows facts old)) window id (record { rows = λ w less. refl; rounds = λ w few. refl }) refl
