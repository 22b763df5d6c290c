-- Where no clause of papers is broken and each round is the best, the office's rounds and final admissions are those of the papers.
use Rattle.std.proofs.Common.{◌≡◌, ◌<◌, ◌≤◌, ◌+◌, ◌++◌, inl, inr, ℕ, zero, suc, List, [], ◌∷◌, Option, Some, None, length, map, take, arith, refl, sym, ap, ◌∙◌, subst}
use Rattle.std.specs.Prelude.{slice_get}
use Rattle.std.specs.Option.{unwrap_or}
use Rattle.std.proofs.lemmas.Bool.{cases_lt}
use Rattle.std.proofs.lemmas.List.{length-append, map-append}
use Rattle.std.proofs.lemmas.Option.{same_Some, slice_get_within}
use Rattle.office_base.proofs.Lists.{get-after, there_is}
use Rattle.office_asks.specs.declared.ask.Ask.{Ask}
use Rattle.office_asks.specs.declared.ask.By.{By}
use Rattle.office_asks.specs.declared.ask.Request.{Request}
use Rattle.office_base.specs.declared.seat.Seat.{Seat}
use Rattle.kept_rows.specs.declared.rows.AllotRow.{AllotRow}
use Rattle.seat_matrix.specs.Matrix.{SeatTable}
use Rattle.seeks.specs.declared.seek.Seek.{Seek}
use Rattle.allocations.specs.Fair.{IsBest}
use Rattle.allocations.proofs.Claims.{one_best}
use Rattle.rounds.specs.Round.{IsRound}
use Rattle.rounds.specs.Rule.{MayApplyIn, ProgrammesChooseWell, nobody, rule_of, seekers_of}
use Rattle.rounds.specs.declared.round.Round.{Round}
use Rattle.rounds.proofs.Entrants.{market}
use Rattle.office_moves.specs.Decided.{decided, decided_by}
use Rattle.office_moves.specs.Facts.{IsSound, SeasonFacts, lists_in_order}
use Rattle.office_moves.specs.History.{IsHistory, Reaches, grown, newly}
use Rattle.office_moves.specs.Moves.{Does, IsNextRound, final_rows, next_seeks}
use Rattle.office_moves.specs.Raised.{matrix_at}
use Rattle.office_moves.specs.State.{State, opening, with_finals, with_raise, with_round, with_row}
use Rattle.office_moves.specs.declared.decide.Decision.{Decision}
use Rattle.office_moves.specs.declared.decide.Decision.TheVariants.{Refuse, NotedAgain, RaisedAgain, CutAgain, Note, Lift, Publish, Finish, Tell}
use Rattle.office_moves.specs.declared.moves.Act.TheVariants.{Cut}
use Rattle.office_moves.specs.declared.moves.Entry.{Entry}
use Rattle.office_moves.specs.declared.moves.Reply.{Reply}
use Rattle.office_moves.proofs.Grows.{get_stays}
use Rattle.history_laws.specs.Laws.{HistoryGrows}
use Rattle.history_laws.specs.Orderly.{IsOrderly}
use Rattle.history_laws.proofs.Changes.{Accepts, LastCut, NewAnswer, NewCut, NewRaise, accepts}
use Rattle.history_laws.proofs.Entering.{entrants}
use Rattle.season_commands.specs.Runs.{Answers}
use Rattle.audit_rules.specs.Cut.{HoldsAt}
use Rattle.audit_rules.specs.Papers.{Papers, rows_after, seats_told}
use Rattle.audit_rules.specs.Replay.{finals_of, replayed, round_of, taken}
use Rattle.best_audit.specs.Best.{IsBestCut, seats_given}
use Rattle.same_input_laws.proofs.Answered.{above}
use Rattle.same_input_laws.proofs.BareStates.{Alike, alike_decision, alike_finals, alike_seeks, bare, bare_round}
use Rattle.same_input_laws.proofs.OwnPapers.{IsPart, part_of}

-- a cut that publishes a round comes before the last window
early_by : (facts : SeasonFacts) (state : State) (by : By) (ask : Ask) → decided_by facts state by ask ≡ Publish → Accepts facts state by ask (Cut state.now) → state.now < facts.rounds
early_by facts state by ask is (Accepts.NewAnswer row asks act n decides) = absurd (cc)
early_by facts state by ask is (Accepts.NewRaise row code asks found known act n decides) = absurd (cc)
early_by facts state by ask is (Accepts.LastCut window asks act n last decides) = absurd (cc)
early_by facts state by ask is (Accepts.NewCut window asks act n early decides) = early

module _ (facts : SeasonFacts) (sound : IsSound facts) (papers : Papers) (well : ProgrammesChooseWell) where
  -- No clause is broken by a decision, and a round that it publishes is the best one.
  abbrev Fine : State → Decision → Type 0
  Fine rep decision = HoldsAt facts papers rep decision × (decision ≡ Publish → IsBestCut facts papers rep)

  -- What a request of the office leaves, next to what a replay of the papers leaves.
  record Next (old mid next : State) : Type 0 where
    alike : Alike next mid
    few : length mid.rounds ≤ length old.rounds + 1
    seats : (round : Round) → slice_get mid.rounds (length old.rounds) ≡ Some round → seats_told (rows_after papers (length old.rounds)) facts.people ≡ round.seats
    finals : old.now ≤ facts.rounds → facts.rounds < mid.now → papers.finals ≡ mid.finals

  module _ (old rep : State) (alike : Alike rep old) where
    -- without a round and without an end
    quiet : (mid next : State) → Alike next mid → mid.rounds ≡ old.rounds → mid.now ≡ old.now → Next old mid next
    quiet mid next same rounds now = record {
      alike = same;
      few = let size = ap (λ (l : List Round). length l) rounds in omega (arith, size);
      seats = λ round at. absurd (let less = slice_get_within mid.rounds (length old.rounds) round at in let size = ap (λ (l : List Round). length l) rounds in omega (arith, less, size));
      finals = λ early over. absurd (omega (arith, early, over, now));
    }

    unmoved : (mid : State) → mid ≡ old → Next old mid rep
    unmoved mid same = quiet mid rep (alike ∙ ap bare (sym same)) (ap (λ (s : State). s.rounds) same) (ap (λ (s : State). s.now) same)

    now_same : rep.now ≡ old.now
    now_same = ap (λ (s : State). s.now) alike

    matrix_same : matrix_at facts rep ≡ matrix_at facts old
    matrix_same = ap (λ (s : State). matrix_at facts s) alike

    module _ (orderly : IsOrderly facts old) (round : Round) (early : old.now < facts.rounds) (follows : IsNextRound facts old round) (best : IsBestCut facts papers rep) where
      next : IsRound facts.version nobody (matrix_at facts old) facts.people (lists_in_order facts) (old.now + 1) (next_seeks facts old) round
      next = orderly.next_alone early round follows

      abbrev IsBestBy : SeatTable → ℕ → List Seek → List (Option Seat) → Type 0
      IsBestBy table count seeks seats = IsBest (rule_of facts.version nobody table) count (seekers_of table facts.people (lists_in_order facts) seeks) seats

      -- the seats of the text are the office's
      same_seats : seats_given facts papers rep ≡ round.seats
      same_seats =
          let by_matrix = subst (λ (m : SeatTable). IsBestBy m (length facts.matrix.programmes) (next_seeks facts rep) (seats_given facts papers rep)) matrix_same best in
          let by_seeks = subst (λ (q : List Seek). IsBestBy (matrix_at facts old) (length facts.matrix.programmes) q (seats_given facts papers rep)) (alike_seeks facts rep old alike) by_matrix in
          let by_count = subst (λ (n : ℕ). IsBestBy (matrix_at facts old) n (next_seeks facts old) (seats_given facts papers rep)) (sym (ap (λ l. length l) orderly.programmes)) by_seeks in
          one_best (rule_of facts.version nobody (matrix_at facts old)) (MayApplyIn (matrix_at facts old)) (length (matrix_at facts old).programmes)
          (seekers_of (matrix_at facts old) facts.people (lists_in_order facts) (next_seeks facts old)) (seats_given facts papers rep) round.seats
          (market (matrix_at facts old) facts.people (lists_in_order facts) (next_seeks facts old) orderly.seats (entrants facts (matrix_at facts old) sound orderly.programmes))
          (well facts.version nobody (matrix_at facts old) orderly.seats) by_count next.best

      same_round : bare_round (round_of facts papers rep) ≡ bare_round round
      same_round = λ i. record {
        number = (ap (λ (n : ℕ). n + 1) now_same ∙ sym next.number) i;
        seeks = (alike_seeks facts rep old alike ∙ sym next.sought) i;
        seats = same_seats i;
        programmes = [];
      }

      bare_with : (state : State) (r : Round) → bare (with_round state r) ≡ with_round (bare state) (bare_round r)
      bare_with state r =
          ap (λ (l : List Round). let s : State = record { now = state.now + 1; rounds = l; finals = state.finals; answers = state.answers; raises = state.raises } in s)
          (map-append bare_round state.rounds (r ∷ []))

      alike_after : Alike (with_round rep (round_of facts papers rep)) (with_round old round)
      alike_after =
          bare_with rep (round_of facts papers rep) ∙ (ap (λ (s : State). with_round s (bare_round (round_of facts papers rep))) alike
          ∙ (ap (λ (r : Round). with_round (bare old) r) same_round ∙ sym (bare_with old round)))

      publishes : Next old (with_round old round) (with_round rep (round_of facts papers rep))
      publishes =
          let order = orderly.course.order (omega (arith, early)) in
          record {
            alike = alike_after;
            few = let size = length-append old.rounds (round ∷ []) in omega (arith, size);
            seats = λ other at.
                let same : round ≡ other = same_Some round other (sym (get-after old.rounds round []) ∙ at) in
                ap (λ (n : ℕ). seats_told (rows_after papers n) facts.people) (order ∙ sym now_same) ∙ (same_seats ∙ ap (λ (r : Round). r.seats) same);
            finals = λ before over. absurd (omega (arith, early, over));
          }

    -- the last cut
    finishes : papers.finals ≡ Some (final_rows facts rep) → Next old (with_finals old (final_rows facts old)) (with_finals rep (finals_of papers))
    finishes holds =
        let rows : finals_of papers ≡ final_rows facts old = ap (λ (o : Option (List AllotRow)). unwrap_or o []) holds ∙ alike_finals facts rep old alike in
        record {
          alike = ap (λ (l : List AllotRow). with_finals (bare rep) l) rows ∙ ap (λ (s : State). with_finals s (final_rows facts old)) alike;
          few = omega arith;
          seats = λ round at. absurd (let less = slice_get_within old.rounds (length old.rounds) round at in omega (arith, less));
          finals = λ before over. holds ∙ ap (λ (l : List AllotRow). Some l) (alike_finals facts rep old alike);
        }

    -- one request
    decides : (orderly : IsOrderly facts old) (mid : State) (reply : Reply) (decision : Decision) → (decision ≡ Publish → old.now < facts.rounds) → Fine rep decision → Does facts old decision reply mid
        → Next old mid (taken facts papers rep decision)
    decides orderly mid reply (Refuse refusal) early fine does = unmoved mid does.1
    decides orderly mid reply (NotedAgain row) early fine does = unmoved mid does.1
    decides orderly mid reply (RaisedAgain row) early fine does = unmoved mid does.1
    decides orderly mid reply (CutAgain window) early fine does = unmoved mid does.1
    decides orderly mid reply (Note row) early fine does =
        quiet mid (with_row rep row) (ap (λ (s : State). with_row s row) alike ∙ ap bare (sym does.1)) (ap (λ (s : State). s.rounds) does.1) (ap (λ (s : State). s.now) does.1)
    decides orderly mid reply (Lift row) early fine does =
        quiet mid (with_raise rep row) (ap (λ (s : State). with_raise s row) alike ∙ ap bare (sym does.1)) (ap (λ (s : State). s.rounds) does.1) (ap (λ (s : State). s.now) does.1)
    decides orderly mid reply Publish early fine does =
        subst (λ (s : State). Next old s (with_round rep (round_of facts papers rep))) (sym does.3) (publishes orderly does.0 (early refl) does.1 (fine.1 refl))
    decides orderly mid reply Finish early fine does = subst (λ (s : State). Next old s (with_finals rep (finals_of papers))) (sym does.1) (finishes fine.0)
    decides orderly mid reply (Tell question) early fine does = unmoved mid does.1

  -- ---- all requests

  -- What the office's state at the end has of the papers.
  pub record Same (old final last : State) : Type 0 where
    pub alike : Alike last final
    pub seats : (k : ℕ) (round : Round) → length old.rounds ≤ k → slice_get final.rounds k ≡ Some round → seats_told (rows_after papers k) facts.people ≡ round.seats
    pub finals : old.now ≤ facts.rounds → facts.rounds < final.now → papers.finals ≡ final.finals

  nothing_left : (old rep final : State) → Alike rep old → final ≡ old → Same old final rep
  nothing_left old rep final alike same = record {
    alike = alike ∙ ap bare (sym same);
    seats = λ k round below at. absurd (let less = slice_get_within final.rounds k round at in let size = ap (λ (s : State). length s.rounds) same in omega (arith, below, less, size));
    finals = λ early over. absurd (let now = ap (λ (s : State). s.now) same in omega (arith, early, over, now));
  }

  one_more : (old mid next final last : State) → Next old mid next → IsPart facts mid final → Same mid final last → Same old final last
  one_more old mid next final last here part rest = record {
    alike = rest.alike;
    seats = λ k round below at. elim (cases_lt k (length mid.rounds)) [
      | inl less ↦ (let few = here.few in
          let place : k ≡ length old.rounds = omega (arith, below, less, few) in
          let there = there_is mid.rounds k less in
          let stays = ap (λ (l : List Round). slice_get l k) part.rounds.1 ∙ get_stays mid.rounds part.rounds.0 k there.0 there.1 in
          let same : there.0 ≡ round = same_Some there.0 round (sym stays ∙ at) in
          let mine = here.seats there.0 (subst (λ (n : ℕ). slice_get mid.rounds n ≡ Some there.0) place there.1) in
          ap (λ (n : ℕ). seats_told (rows_after papers n) facts.people) place ∙ (mine ∙ ap (λ (r : Round). r.seats) same))
      | inr past ↦ rest.seats k round past at
    ];
    finals = λ before over. elim (cases_lt facts.rounds mid.now) [
      | inl ended ↦ here.finals before ended ∙ sym (part.finals ended)
      | inr not_yet ↦ rest.finals not_yet over
    ];
  }

  module _ (grows : HistoryGrows facts) (orderly : (entries : List Entry) (state : State) → Reaches facts opening entries state → IsOrderly facts state) (final : State) where
    pub run : (entries : List Entry) (old rep : State) (script : List Request) (output : List ℕ) → IsHistory facts entries old → Alike rep old → Answers facts old script output final
        → ((j : ℕ) (request : Request) → slice_get script j ≡ Some request → Fine (replayed facts papers rep (take j script)) (decided facts (replayed facts papers rep (take j script)) request))
        → Same old final (replayed facts papers rep script)
    run entries old rep [] output history alike answers fine = nothing_left old rep final alike answers.1
    run entries old rep (request ∷ script) output history alike answers fine =
        let later = grows entries old answers.1 request answers.0 (above entries) history (omega arith) answers.3 in
        let same = alike_decision facts rep old alike request in
        let does = subst (λ (d : Decision). Does facts old d answers.0 answers.1) (sym same) answers.3 in
        let early : decided facts rep request ≡ Publish → old.now < facts.rounds =
        (λ is. let here : decided facts old request ≡ Publish = sym same ∙ is in early_by facts old request.by request.ask here (accepts facts old request.by request.ask (Cut old.now) (ap (newly old.now) here))) in
        let next = decides old rep alike (orderly entries old history.reached) answers.1 answers.0 (decided facts rep request) early (fine 0 request refl) does in
        one_more old answers.1 (taken facts papers rep (decided facts rep request)) final (replayed facts papers rep (request ∷ script)) next (part_of facts answers.1 final script answers.2 answers.5)
        (run (grown entries (above entries) (newly old.now (decided facts old request))) answers.1 (taken facts papers rep (decided facts rep request)) script answers.2 later next.alike answers.5
        (λ j other at. fine (suc j) other at))
