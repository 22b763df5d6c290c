-- Every request in a state in which all is in order has a reply and a next state.
use Rattle.std.proofs.Common.{◌≡◌, ◌<◌, ◌≤◌, ◌+◌, ℕ, zero, suc, true, Option, Some, None, is_some, option_map, length, arith, refl, ap, ◌∙◌}
use Rattle.office_asks.specs.declared.ask.Ask.{Ask}
use Rattle.office_asks.specs.declared.ask.Ask.TheVariants.{Answer, Cut, Raise}
use Rattle.office_asks.specs.declared.ask.By.{By}
use Rattle.office_base.specs.declared.person.Person.{Person}
use Rattle.office_base.specs.declared.person.ProgId.{ProgId}
use Rattle.office_base.proofs.Lists.{there_is}
use Rattle.kept_rows.specs.declared.rows.AnswerRow.{AnswerRow}
use Rattle.kept_rows.specs.declared.rows.RaiseRow.{RaiseRow}
use Rattle.rank_lists.specs.Register.{find_person}
use Rattle.seat_matrix.specs.Matrix.{seats_in}
use Rattle.list_cutoffs.specs.Laws.{CutoffsExist}
use Rattle.programme_lists.specs.declared.programme.Programme.{Programme}
use Rattle.rounds.specs.Round.{seated}
use Rattle.rounds.specs.declared.round.Round.{Round}
use Rattle.office_moves.specs.Facts.{IsSound, SeasonFacts, find_programme}
use Rattle.office_moves.specs.State.{State, round_at, view_of, with_finals, with_raise, with_round, with_row}
use Rattle.office_moves.specs.Raised.{matrix_of_round}
use Rattle.office_moves.specs.Decided.{answer_facts, decided_by, raise_facts}
use Rattle.office_moves.specs.Moves.{Does, IsNextRound, final_rows, noted, programme_in, raised_reply, receipt}
use Rattle.office_moves.specs.declared.decide.Decision.{Decision}
use Rattle.office_moves.specs.declared.decide.Decision.TheVariants.{Refuse, Tell}
use Rattle.office_moves.specs.declared.decide.Question.{Question}
use Rattle.office_moves.specs.declared.decide.Question.TheVariants.{List as TheList, Cutoffs as TheCutoffs, Register as TheRegister}
use Rattle.office_moves.specs.declared.moves.Reply.{Reply}
use Rattle.office_moves.specs.declared.moves.Reply.TheVariants.{CutoffsAre, Final, ListIs, Published, Refused, RegisterIs}
use Rattle.office_moves.specs.declared.refusal.Refusal.{Refusal}
use Rattle.office_moves.proofs.Decisions.{IsThere, answer_keeps, cut_keeps, programme_keeps, question_there, raise_keeps}
use Rattle.history_laws.specs.Laws.{ListsHoldChoices}
use Rattle.history_laws.specs.Orderly.{IsOrderly}
use Rattle.season_laws.specs.NextRounds.{EveryRequestIsAnswered}

-- what a decision does is there
abbrev IsDone : SeasonFacts → State → Decision → Type 0
IsDone facts state decision = (reply : Reply) × (after : State) × Does facts state decision reply after

-- a candidate of the register has an entry there
entry_of : (entry : Option Person) → is_some entry ≡ true → (person : Person) × (entry ≡ Some person)
entry_of None known = absurd (cc)
entry_of (Some person) known = (person, refl)

module _ (facts : SeasonFacts) (state : State) (sound : IsSound facts) (orderly : IsOrderly facts state) (next : (round : Round) × IsNextRound facts state round) (hold : ListsHoldChoices)
    (have : CutoffsExist) where
  refused : (r : Refusal) → IsDone facts state (Refuse r)
  refused r = (Refused r, state, (refl, refl))

  -- the list that is asked for is there
  listed : (number : ℕ) (prog : ProgId) → (0 < number) × (number ≤ length state.rounds) × (prog.0 < length facts.matrix.programmes)
      → (programme : Programme) × (programme_in (round_at state.rounds number) prog.0 ≡ Some programme)
  listed zero prog there = absurd (omega (arith, there.0))
  listed (suc before) prog there =
      let within = there.1 in
      let below = there.2 in
      let round = there_is state.rounds before (omega (arith, within)) in
      let size = (orderly.word.rounds before round.0 round.1).count in
      let same : length (matrix_of_round facts state (suc before)).programmes ≡ length facts.matrix.programmes = ap (λ l. length l) (orderly.course.programmes (suc before)) in
      let programme = there_is round.0.programmes prog.0 (omega (arith, below, size, same)) in
      (programme.0, ap (λ o. programme_in o prog.0) round.1 ∙ programme.1)

  -- the reply to a question is there, if what it names is there
  told : (question : Question) → IsThere facts state question → IsDone facts state (Tell question)
  told (TheList number prog) there = let shown = listed number prog there in (ListIs number prog shown.0, state, ((shown.0, shown.1, refl), refl))
  told (TheCutoffs number prog) there =
      let shown = listed number prog there in
      let lines = have (seats_in facts.matrix prog.0) shown.0.steps (hold facts state number prog.0 shown.0 sound orderly shown.1) in
      (CutoffsAre number prog lines.0, state, ((shown.0, lines.0, shown.1, lines.1, refl), refl))
  told (TheRegister cand) there =
      let entry = entry_of (find_person cand.0 facts.people) there in
      (RegisterIs entry.0, state, (ap (λ o. option_map (λ person. RegisterIs person) o) entry.1, refl))
  told question there = (_, state, (refl, refl))

  done : (by : By) (ask : Ask) → IsDone facts state (decided_by facts state by ask)
  done by (Answer cand window turn choice) =
      let row : AnswerRow = record { window = window; cand = cand; turn = turn; choice = choice } in
      answer_keeps (IsDone facts state) refused (answer_facts facts (view_of state cand.0) row) by row (noted row, state, (refl, refl)) (noted row, with_row state row, (refl, refl))
  done by (Cut window) =
      cut_keeps (IsDone facts state) refused by state.now facts.rounds window (receipt facts state window, state, (refl, refl))
      (Final (length (final_rows facts state)), with_finals state (final_rows facts state), (refl, refl))
      (Published (state.now + 1) (seated next.0.seats), with_round state next.0, (next.0, next.1, refl, refl))
  done by (Raise window code step seats) =
      programme_keeps (IsDone facts state) refused (find_programme facts code) _
      (λ prog is. let row : RaiseRow = record { window = window; prog = prog; step = step; seats = seats } in
      raise_keeps (IsDone facts state) refused (raise_facts facts state row) by row (raised_reply row, state, (refl, refl)) (raised_reply row, with_raise state row, (refl, refl)))
  done by ask = question_there (IsDone facts state) refused facts state by ask refl told

pub every_request : (facts : SeasonFacts) → ((state : State) → IsSound facts → IsOrderly facts state → (round : Round) × IsNextRound facts state round) → ListsHoldChoices → CutoffsExist
    → EveryRequestIsAnswered facts
every_request facts next hold have state request sound orderly = done facts state sound orderly (next state sound orderly) hold have request.by request.ask
