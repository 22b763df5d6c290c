-- What was looked up at a candidate's position is what an answer of the candidate is judged by.
use Rattle.std.proofs.Common.{◌≡◌, ℕ, Bool, true, List, Option, Some, refl, ap, ◌∙◌}
use Rattle.std.specs.Prelude.{is_some, option_map, slice_get}
use Rattle.office_base.specs.declared.choice.Choice.{Choice}
use Rattle.office_base.specs.declared.seat.Seat.{Seat}
use Rattle.office_base.specs.declared.person.Person.{Person}
use Rattle.kept_rows.specs.declared.rows.AnswerRow.{AnswerRow}
use Rattle.rank_lists.specs.Register.{find_person, row_of}
use Rattle.rank_lists.proofs.Known.{known}
use Rattle.round_options.specs.declared.standing.Standing.{Standing}
use Rattle.office_moves.specs.Facts.{SeasonFacts}
use Rattle.office_moves.specs.State.{State, accepted, in_window, last_seat, last_turn, left_by, rows_of, standing_at, view_of}
use Rattle.office_moves.specs.Decided.{answer_facts}
use Rattle.proceedings.proofs.Positions.{stands, told}

-- what f gives at the position is that of the candidate of this id
pub told_of : {X : Type 0} (f : ℕ → X) (id : ℕ) (people : List Person) (at : ℕ) (x : X) → row_of id people ≡ Some at → option_map (λ (person : Person). f person.id.0) (slice_get people at) ≡ Some x → x ≡ f id
told_of f id people at x place e =
    let s = stands id people at place in
    told (λ (person : Person). f person.id.0) people at s.person x e s.there ∙ ap f s.mine

pub answer_facts_are : (facts : SeasonFacts) (state : State) (row : AnswerRow) (kept : Option Choice) (window rounds last : ℕ) (left standing : Standing) (seat : Option Seat) (seated : Bool)
    → is_some (find_person row.cand.0 facts.people) ≡ true
    → kept ≡ accepted row.window row.turn (rows_of row.cand.0 state.answers) → window ≡ state.now → rounds ≡ facts.rounds
    → last ≡ last_turn (in_window state.now (rows_of row.cand.0 state.answers)) → left ≡ left_by facts (view_of state row.cand.0) row.cand.0 state.now
    → standing ≡ standing_at facts (view_of state row.cand.0) row.cand.0 state.now → seat ≡ last_seat facts state.rounds row.cand.0 → seated ≡ is_some seat
    → record { known = true; kept = kept; window = window; rounds = rounds; last = last; left = left; standing = standing; seated = seated } ≡ answer_facts facts (view_of state row.cand.0) row
answer_facts_are facts state row kept window rounds last left standing seat seated is_known k w r t l s h i = rw (k, w, r, t, l, s, i, h, is_known) refl
