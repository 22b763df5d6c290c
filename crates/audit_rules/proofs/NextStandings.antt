-- How candidates stand after an answer, and after a cut.
use Rattle.std.proofs.Common.{◌≡◌, ◌<◌, ◌≤◌, ◌+◌, ℕ, Bool, true, false, List, [], ◌∷◌, ◌++◌, Option, Some, arith, refl, sym, ap, ◌∙◌, nat_lt, if◌then◌else◌}
use Rattle.std.proofs.lemmas.Bool.Decides.{nat_tests}
use Rattle.office_base.specs.declared.seat.Seat.{Seat}
use Rattle.kept_rows.specs.declared.rows.AnswerRow.{AnswerRow}
use Rattle.rounds.specs.declared.round.Round.{Round}
use Rattle.round_options.specs.declared.standing.Standing.{Standing}
use Rattle.office_moves.specs.Facts.{SeasonFacts}
use Rattle.office_moves.specs.State.{State, answered as stands_so, greater, in_window, last_turn, left_by, rows_of, seat_of, view_of, with_round, with_row}
use Rattle.history_laws.proofs.Rows.{answered_last, window_more, window_same}
use Rattle.history_laws.proofs.Turns.{greater_next}
use Rattle.audit_rules.specs.InOrder.{IsInOrder}
use Rattle.audit_rules.proofs.Ordering.{cut_left, cut_stands, last_is, row_left}
use Rattle.audit_rules.specs.Stands.{after_answer, cut, stand_of}
use Rattle.audit_rules.specs.declared.stand.Stand.{Stand}

-- ---- the last turn

greater_first : (k n : ℕ) → n ≤ k → greater k n ≡ k
greater_first k n less = by (nat_lt k n) refl
  where
    by : (b : Bool) → nat_lt k n ≡ b → (if b then n else k) ≡ k
    by true e = grind (arith, nat_tests)
    by false e = refl

greater_least : (k n m : ℕ) → greater k n < m → (k < m) × (n < m)
greater_least k n m less = by (nat_lt k n) refl less
  where
    by : (b : Bool) → nat_lt k n ≡ b → (if b then n else k) < m → (k < m) × (n < m)
    by true e less = (grind (arith, nat_tests), less)
    by false e less = (less, grind (arith, nat_tests))

-- a later turn is the last
pub last_turn_more : (rows : List AnswerRow) (row : AnswerRow) → last_turn rows < row.turn → last_turn (rows ++ row ∷ []) ≡ row.turn
last_turn_more [] row less = greater_first row.turn 0 (omega arith)
last_turn_more (first ∷ rows) row less =
    let parts = greater_least first.turn (last_turn rows) row.turn less in
    ap (greater first.turn) (last_turn_more rows row parts.1) ∙ greater_next first.turn row.turn (let early = parts.0 in omega (arith, early))

-- ---- after an answer

abbrev standing_so : Standing → ℕ → Standing → Option Seat → Stand
standing_so left last standing seat = record { left = left; last = last; standing = standing; seat = seat }

same_stand : (l l' : Standing) (t t' : ℕ) (s s' : Standing) (seat seat' : Option Seat) → l ≡ l' → t ≡ t' → s ≡ s' → seat ≡ seat' → standing_so l t s seat ≡ standing_so l' t' s' seat'
same_stand l l' t t' s s' seat seat' a b c d =
    ap (λ (z : Standing). standing_so z t s seat) a
    ∙ (ap (λ (z : ℕ). standing_so l' z s seat) b ∙ (ap (λ (z : Standing). standing_so l' t' z seat) c ∙ ap (λ (z : Option Seat). standing_so l' t' s' z) d))

pub stand_answered : (facts : SeasonFacts) (old : State) (row : AnswerRow) → row.window ≡ old.now → row.turn ≡ (stand_of facts old row.cand.0).last + 1
    → stand_of facts (with_row old row) row.cand.0 ≡ after_answer (stand_of facts old row.cand.0) row
stand_answered facts old row opened turn =
    let id = row.cand.0 in
    let more = window_more old.now id old.answers row refl opened in
    same_stand _ _ _ _ _ _ _ _
    (row_left facts old row id opened)
    (ap last_turn more ∙ last_turn_more (in_window old.now (rows_of id old.answers)) row (omega (arith, turn)))
    (ap (λ (z : List AnswerRow). stands_so (left_by facts (view_of (with_row old row) id) id old.now) z) more
    ∙ answered_last (left_by facts (view_of (with_row old row) id) id old.now) (in_window old.now (rows_of id old.answers)) row)
    refl

pub stand_other : (facts : SeasonFacts) (old : State) (row : AnswerRow) (id : ℕ) → row.window ≡ old.now → (id ≡ row.cand.0 → ⊥) → stand_of facts (with_row old row) id ≡ stand_of facts old id
stand_other facts old row id opened other =
    let same = window_same old.now id old.answers row (λ own at. other (sym own)) in
    let left = row_left facts old row id opened in
    same_stand _ _ _ _ _ _ _ _ left (ap last_turn same)
    (ap (λ (z : List AnswerRow). stands_so (left_by facts (view_of (with_row old row) id) id old.now) z) same ∙ ap (λ (s : Standing). stands_so s (in_window old.now (rows_of id old.answers))) left)
    refl

-- ---- after a cut

pub stand_cut : (facts : SeasonFacts) (old : State) (round : Round) (id : ℕ) → IsInOrder facts old → old.now < facts.rounds
    → stand_of facts (with_round old round) id ≡ cut (stand_of facts old id) (seat_of facts (Some round) id)
stand_cut facts old round id here less =
    same_stand _ _ _ _ _ _ _ _
    (cut_left facts old round id (here.order (omega (arith, less))))
    (ap last_turn (here.later (old.now + 1) id (omega arith)))
    (cut_stands facts old round id here less)
    (last_is facts old round id)
