-- What the lists of the rounds of a state do not change: what a request results in, what everybody seeks next, and the final rows.
use Rattle.std.proofs.Common.{◌≡◌, ◌+◌, ℕ, zero, suc, List, [], ◌∷◌, ◌++◌, Option, Some, None, length, map, refl, sym, ap, ◌∙◌}
use Rattle.std.specs.Prelude.{is_some, option_map, slice_get, if◌then◌else◌}
use Rattle.std.proofs.lemmas.List.{length-map, map-append}
use Rattle.office_asks.specs.declared.ask.Ask.{Ask}
use Rattle.office_asks.specs.declared.ask.Ask.TheVariants.{Answer, Cut, Seat as AskSeat, Why, List as AskList, Round as AskRound, Choices as AskChoices, Cutoffs as AskCutoffs, Register as AskRegister, Answers as AskAnswers, State as AskState, Raise}
use Rattle.office_asks.specs.declared.ask.By.{By}
use Rattle.office_asks.specs.declared.ask.Request.{Request}
use Rattle.office_base.specs.declared.seat.Seat.{Seat}
use Rattle.office_base.specs.declared.person.ProgId.{ProgId}
use Rattle.kept_rows.specs.declared.rows.AllotRow.{AllotRow}
use Rattle.kept_rows.specs.declared.rows.AnswerRow.{AnswerRow}
use Rattle.choice_lists.specs.Choices.{list_of}
use Rattle.allocations.specs.Market.{place_of}
use Rattle.rounds.specs.declared.round.Round.{Round}
use Rattle.round_options.specs.Options.{after_cut, holds, seek_after}
use Rattle.round_options.specs.declared.standing.Standing.{Standing}
use Rattle.office_moves.specs.Decided.{answer_facts, decide_list, decided, decided_by, is_chosen_by, is_known}
use Rattle.office_moves.specs.Facts.{SeasonFacts, find_programme}
use Rattle.office_moves.specs.Judge.{judge_answer, judge_list, judge_round, judge_why}
use Rattle.office_moves.specs.Moves.{final_rows, next_seek, next_seeks, rows_along}
use Rattle.office_moves.specs.State.{State, answered, in_window, last_seat, left_by, seat_in, seat_of, standing_at, view_of}
use Rattle.office_moves.specs.declared.decide.AnswerFacts.{AnswerFacts}
use Rattle.office_moves.specs.declared.decide.Question.{Question}
use Rattle.office_moves.specs.declared.decide.Question.TheVariants.{List as TheList, Cutoffs as TheCutoffs}

-- a round without its lists
abbrev pub bare_round : Round → Round
bare_round round = record { number = round.number; seeks = round.seeks; seats = round.seats; programmes = [] }

-- a state without the lists of its rounds
abbrev pub bare : State → State
bare state = record { now = state.now; rounds = map bare_round state.rounds; finals = state.finals; answers = state.answers; raises = state.raises }

module _ (facts : SeasonFacts) where
  -- ---- seats

  seat_here : (rounds : List Round) (before id : ℕ) → seat_of facts (slice_get (map bare_round rounds) before) id ≡ seat_of facts (slice_get rounds before) id
  seat_here [] before id = refl
  seat_here (round ∷ rounds) zero id = refl
  seat_here (round ∷ rounds) (suc before) id = seat_here rounds before id

  same_seat : (rounds : List Round) (number id : ℕ) → seat_in facts (map bare_round rounds) number id ≡ seat_in facts rounds number id
  same_seat rounds zero id = refl
  same_seat rounds (suc before) id = seat_here rounds before id

  same_last : (rounds : List Round) (id : ℕ) → last_seat facts (map bare_round rounds) id ≡ last_seat facts rounds id
  same_last rounds id = ap (λ (n : ℕ). seat_in facts (map bare_round rounds) n id) (length-map rounds bare_round) ∙ same_seat rounds (length rounds) id

  -- ---- standings

  same_left : (state : State) (id window : ℕ) → left_by facts (view_of (bare state) id) id window ≡ left_by facts (view_of state id) id window
  same_left state id zero = refl
  same_left state id (suc window) =
      ap (λ (s : Standing). after_cut (answered s (in_window window (view_of state id).rows)) (seat_in facts (map bare_round state.rounds) (suc window) id)) (same_left state id window)
      ∙ ap (λ (o : Option Seat). after_cut (answered (left_by facts (view_of state id) id window) (in_window window (view_of state id).rows)) o) (same_seat state.rounds (suc window) id)

  same_standing : (state : State) (id window : ℕ) → standing_at facts (view_of (bare state) id) id window ≡ standing_at facts (view_of state id) id window
  same_standing state id window = ap (λ (s : Standing). answered s (in_window window (view_of state id).rows)) (same_left state id window)

  -- ---- what is sought next, and the final rows

  same_seek : (state : State) (id : ℕ) → next_seek facts (bare state) id ≡ next_seek facts state id
  same_seek state id =
      ap (λ (s : Standing). seek_after s (option_map (λ (seat : Seat). place_of (list_of facts.lists id) seat.prog.0) (last_seat facts (map bare_round state.rounds) id))) (same_standing state id state.now)
      ∙ ap (λ (o : Option Seat). seek_after (standing_at facts (view_of state id) id state.now) (option_map (λ (seat : Seat). place_of (list_of facts.lists id) seat.prog.0) o)) (same_last state.rounds id)

  pub same_seeks : (state : State) → next_seeks facts (bare state) ≡ next_seeks facts state
  same_seeks state = λ i. map (λ person. same_seek state person.id.0 i) facts.people

  pub same_finals : (state : State) → final_rows facts (bare state) ≡ final_rows facts state
  same_finals state = λ i. rows_along (facts.rounds + 1) (λ (id : ℕ). if holds (same_standing state id state.now i) then same_last state.rounds id i else None) facts.people

  -- ---- what a request results in

  same_looks : (state : State) (row : AnswerRow) → answer_facts facts (view_of (bare state) row.cand.0) row ≡ answer_facts facts (view_of state row.cand.0) row
  same_looks state row = λ i. record (answer_facts facts (view_of state row.cand.0) row) {
    left = same_left state row.cand.0 state.now i;
    standing = same_standing state row.cand.0 state.now i;
    seated = is_some (same_last state.rounds row.cand.0 i);
  }

  same_list : (state : State) (round : ℕ) (code : List ℕ) (question : ProgId → Question) → decide_list facts (bare state) round code question ≡ decide_list facts state round code question
  same_list state round code question = ap (λ (n : ℕ). judge_list (option_map question (find_programme facts code)) n round) (length-map state.rounds bare_round)

  by_ask : (state : State) (by : By) (ask : Ask) → decided_by facts (bare state) by ask ≡ decided_by facts state by ask
  by_ask state by (Answer cand window turn choice) =
      let row : AnswerRow = record { window = window; cand = cand; turn = turn; choice = choice } in
      ap (λ (looks : AnswerFacts). judge_answer looks by row) (same_looks state row)
  by_ask state by (Cut window) = refl
  by_ask state by (AskSeat cand) = refl
  by_ask state by (Why cand code) =
      ap (λ (n : ℕ). judge_why (is_known facts cand) (find_programme facts code) (is_chosen_by facts cand (find_programme facts code)) n by cand) (length-map state.rounds bare_round)
  by_ask state by (AskList round code) = same_list state round code (λ prog. TheList round prog)
  by_ask state by (AskRound round) = ap (λ (n : ℕ). judge_round state.now n round) (length-map state.rounds bare_round)
  by_ask state by (AskChoices cand) = refl
  by_ask state by (AskCutoffs round code) = same_list state round code (λ prog. TheCutoffs round prog)
  by_ask state by (AskRegister cand) = refl
  by_ask state by (AskAnswers cand) = refl
  by_ask state by AskState = refl
  by_ask state by (Raise window code step seats) = refl

  pub same_decision : (state : State) (request : Request) → decided facts (bare state) request ≡ decided facts state request
  same_decision state request = by_ask state request.by request.ask

-- ---- states that differ in the lists of their rounds alone

abbrev pub Alike : State → State → Type 0
Alike one other = bare one ≡ bare other

module _ (facts : SeasonFacts) (one other : State) (alike : Alike one other) where
  pub alike_decision : (request : Request) → decided facts one request ≡ decided facts other request
  alike_decision request = sym (same_decision facts one request) ∙ (ap (λ (s : State). decided facts s request) alike ∙ same_decision facts other request)

  pub alike_seeks : next_seeks facts one ≡ next_seeks facts other
  alike_seeks = sym (same_seeks facts one) ∙ (ap (next_seeks facts) alike ∙ same_seeks facts other)

  pub alike_finals : final_rows facts one ≡ final_rows facts other
  alike_finals = sym (same_finals facts one) ∙ (ap (final_rows facts) alike ∙ same_finals facts other)
