-- What is so of a state to which kept records were replayed: it has their rows and their seats.
use Rattle.std.proofs.Common.{◌≡◌, ◌≢◌, ◌<◌, ◌≤◌, ◌+◌, ◌⊎◌, inl, inr, ℕ, zero, suc, add-one, Bool, true, false, List, [], ◌∷◌, ◌++◌, Option, Some, length, arith, refl, sym, ap, ◌∙◌, subst, ◌==◌, nat_lt, if◌then◌else◌}
use Rattle.std.specs.Prelude.{slice_get}
use Rattle.std.proofs.lemmas.Bool.{cases_lt, lt-ltb, ne_eqb, le-ltb}
use Rattle.std.proofs.lemmas.List.{length_push}
use Rattle.office_asks.specs.declared.ask.By.TheVariants.{Clerk}
use Rattle.kept_rows.specs.declared.rows.AllotRow.{AllotRow}
use Rattle.kept_rows.specs.declared.rows.AnswerRow.{AnswerRow}
use Rattle.kept_rows.specs.declared.rows.Kept.{Kept}
use Rattle.kept_rows.specs.declared.rows.RaiseRow.{RaiseRow}
use Rattle.rounds.specs.declared.round.Round.{Round}
use Rattle.seat_matrix.specs.Matrix.{AreSeats}
use Rattle.office_moves.specs.Facts.{SeasonFacts}
use Rattle.office_moves.specs.Moves.{Does, IsNextRound, final_rows}
use Rattle.office_moves.specs.Stands.{AreRecordsOf, published_seat, raises_in, seat_in_finals}
use Rattle.office_moves.specs.State.{State, in_window, opening, round_at, seat_in, seat_of, with_finals, with_round}
use Rattle.office_moves.specs.declared.decide.Decision.{Decision}
use Rattle.office_moves.specs.declared.decide.Decision.TheVariants.{Finish, Publish}
use Rattle.office_moves.specs.declared.moves.Act.TheVariants.{Cut}
use Rattle.office_moves.proofs.Chains.{cut_new}
use Rattle.replays.specs.Replay.{AllPass, AreAllotsOf, Closes, CutPasses, IsReplayed, Pass, RowsPass}
use Rattle.replays.proofs.RowLemmas.{answers_ahead, answers_lead, raises_ahead, raises_lead}
use Rattle.replays.proofs.Tables.{Holds, answer_of, answers_as, below_next, held_whole, holds_more, holds_nothing, raise_of, raises_as}

-- ---- the rows of one window

-- the state with the rows of a window
pub record HasRows (kept : Kept) (window : ℕ) (old new : State) : Type 0 where
  pub now : new.now ≡ old.now
  pub rounds : new.rounds ≡ old.rounds
  pub finals : new.finals ≡ old.finals
  pub raises : new.raises ≡ old.raises ++ raises_in window kept.raises
  pub answers : new.answers ≡ old.answers ++ in_window window kept.answers

pub rows_lead : (facts : SeasonFacts) (kept : Kept) (window : ℕ) (old new : State) → RowsPass facts kept window old new → HasRows kept window old new
rows_lead facts kept window old new rows =
    let one = raises_lead facts window kept.raises old rows.raised rows.raises in
    let two = answers_lead facts window kept.answers rows.raised new rows.answers in
    let same : new ≡ record old { raises = old.raises ++ raises_in window kept.raises; answers = old.answers ++ in_window window kept.answers } =
    two ∙ ap (λ (s : State). record s { answers = s.answers ++ in_window window kept.answers }) one in
    record {
      now = ap (λ (s : State). s.now) same;
      rounds = ap (λ (s : State). s.rounds) same;
      finals = ap (λ (s : State). s.finals) same;
      raises = ap (λ (s : State). s.raises) same;
      answers = ap (λ (s : State). s.answers) same;
    }

-- the seats are those of before
pub seats_stay : (facts : SeasonFacts) (kept : Kept) (window : ℕ) (old new : State) (number id : ℕ) → HasRows kept window old new → published_seat facts new number id ≡ published_seat facts old number id
seats_stay facts kept window old new number id has =
    ap (λ (f : Option (List AllotRow)). if number == facts.rounds + 1 then seat_in_finals f number id else seat_in facts new.rounds number id) has.finals
    ∙ ap (λ (r : List Round). if number == facts.rounds + 1 then seat_in_finals old.finals number id else seat_in facts r number id) has.rounds

-- ---- a cut

-- a cut publishes the next round, or is the last one
abbrev pub CutLeads : SeasonFacts → State → State → Type 0
CutLeads facts old new = ((old.now < facts.rounds) × (round : Round) × IsNextRound facts old round × (new ≡ with_round old round))
    ⊎ ((old.now ≡ facts.rounds) × (new ≡ with_finals old (final_rows facts old)))

pub cut_leads : (facts : SeasonFacts) (old new : State) → CutPasses facts old new → CutLeads facts old new
cut_leads facts old new passes =
    let n = cut_new Clerk old.now facts.rounds old.now (Cut old.now) passes.accepted in
    elim n.ends [
      | inl last ↦ let does : Does facts old Finish passes.reply new = subst (λ (d : Decision). Does facts old d passes.reply new) last.0 passes.moves in inr (last.1, does.1)
      | inr next ↦ let does : Does facts old Publish passes.reply new = subst (λ (d : Decision). Does facts old d passes.reply new) next.0 passes.moves in inl (next.1, does.0, does.1, does.3)
    ]

get_beside : {X : Type 0} (xs : List X) (x : X) (k : ℕ) → k < length xs → slice_get (xs ++ x ∷ []) k ≡ slice_get xs k
get_beside [] x k less = absurd (omega arith)
get_beside (y ∷ xs) x zero less = refl
get_beside (y ∷ xs) x (suc k) less = get_beside xs x k (omega arith)

round_before : (rounds : List Round) (round : Round) (number : ℕ) → number ≤ length rounds → round_at (rounds ++ round ∷ []) number ≡ round_at rounds number
round_before rounds round zero few = refl
round_before rounds round (suc before) few = get_beside rounds round before (omega arith)

no_last : (facts : SeasonFacts) (finals : Option (List AllotRow)) (rounds : List Round) (number id : ℕ) → number ≢ facts.rounds + 1
    → (if number == facts.rounds + 1 then seat_in_finals finals number id else seat_in facts rounds number id) ≡ seat_in facts rounds number id
no_last facts finals rounds number id apart = step (number == facts.rounds + 1) (ne_eqb number (facts.rounds + 1) apart)
  where
    step : (b : Bool) → b ≡ false → (if b then seat_in_finals finals number id else seat_in facts rounds number id) ≡ seat_in facts rounds number id
    step true e = absurd (cc)
    step false e = refl

-- a cut leaves the seats of the rounds before it, and the rows
pub record HasCut (facts : SeasonFacts) (old new : State) : Type 0 where
  pub now : new.now ≡ old.now + 1
  pub within : old.now ≤ facts.rounds
  pub order : new.now ≤ facts.rounds → length new.rounds ≡ new.now
  pub raises : new.raises ≡ old.raises
  pub answers : new.answers ≡ old.answers
  pub seats : (number id : ℕ) → number ≤ old.now → published_seat facts new number id ≡ published_seat facts old number id

pub has_cut : (facts : SeasonFacts) (old new : State) → (old.now ≤ facts.rounds → length old.rounds ≡ old.now) → CutPasses facts old new → HasCut facts old new
has_cut facts old new order passes = elim (cut_leads facts old new passes) [
  | inl next ↦
      let round = next.1 in
      let full : length old.rounds ≡ old.now = order (let less = next.0 in omega (arith, less)) in
      subst (λ (s : State). HasCut facts old s) (sym next.3) (record {
        now = refl;
        within = (let less = next.0 in omega (arith, less));
        order = λ few. length_push old.rounds round ∙ ap (λ n. n + 1) full;
        raises = refl;
        answers = refl;
        seats = λ number id few.
            let apart : number ≢ facts.rounds + 1 = λ e. absurd (let less = next.0 in omega (arith, e, few, less)) in
            no_last facts old.finals (old.rounds ++ round ∷ []) number id apart
            ∙ (ap (λ (r : Option Round). seat_of facts r id) (round_before old.rounds round number (omega (arith, few, full)))
            ∙ sym (no_last facts old.finals old.rounds number id apart));
      })
  | inr last ↦
      subst (λ (s : State). HasCut facts old s) (sym last.1) (record {
        now = refl;
        within = (let end = last.0 in omega (arith, end));
        order = λ few. absurd (let end = last.0 in omega (arith, end, few));
        raises = refl;
        answers = refl;
        seats = λ number id few.
            let apart : number ≢ facts.rounds + 1 = λ e. absurd (let end = last.0 in omega (arith, e, few, end)) in
            no_last facts (Some (final_rows facts old)) old.rounds number id apart ∙ sym (no_last facts old.finals old.rounds number id apart);
      })
]

-- ---- windows that passed

-- A state holds the rows of the first windows, so many, and no others.
pub record HoldsRows (kept : Kept) (windows : ℕ) (state : State) : Type 0 where
  pub raises : Holds raise_of windows kept.raises state.raises
  pub answers : Holds answer_of windows kept.answers state.answers

one_window : (kept : Kept) (windows : ℕ) (old new : State) → new.raises ≡ old.raises ++ raises_in windows kept.raises → new.answers ≡ old.answers ++ in_window windows kept.answers
    → HoldsRows kept windows old → HoldsRows kept (windows + 1) new
one_window kept windows old new raises answers holds = record {
  raises = holds_more raise_of windows kept.raises old.raises new.raises (raises ∙ ap (λ (z : List RaiseRow). old.raises ++ z) (sym (raises_as windows kept.raises))) holds.raises;
  answers = holds_more answer_of windows kept.answers old.answers new.answers (answers ∙ ap (λ (z : List AnswerRow). old.answers ++ z) (sym (answers_as windows kept.answers))) holds.answers;
}

-- What is so after the first windows, each of which has a cut.
pub record HasPassed (facts : SeasonFacts) (kept : Kept) (windows : ℕ) (state : State) : Type 0 where
  pub now : state.now ≡ windows
  pub order : state.now ≤ facts.rounds → length state.rounds ≡ state.now
  pub rows : HoldsRows kept windows state
  pub allots : (number : ℕ) → 1 ≤ number → number ≤ windows → AreAllotsOf facts state kept number

pub passed_none : (facts : SeasonFacts) (kept : Kept) (state : State) → state ≡ opening → HasPassed facts kept 0 state
passed_none facts kept state is = subst (λ (s : State). HasPassed facts kept 0 s) (sym is) (record {
  now = refl;
  order = λ few. refl;
  rows = record { raises = holds_nothing raise_of kept.raises; answers = holds_nothing answer_of kept.answers };
  allots = λ number some few. absurd (omega (arith, some, few));
})

pub passed_cut : (facts : SeasonFacts) (kept : Kept) (window : ℕ) (old last new : State) → HasPassed facts kept window old → RowsPass facts kept window old last → CutPasses facts last new
    → AreAllotsOf facts new kept (window + 1) → HasPassed facts kept (window + 1) new
passed_cut facts kept window old last new passed rows cut allots =
    let has = rows_lead facts kept window old last rows in
    let now : last.now ≡ window = has.now ∙ passed.now in
    let order : last.now ≤ facts.rounds → length last.rounds ≡ last.now = λ few. ap (λ (r : List Round). length r) has.rounds ∙ (passed.order (let same = has.now in omega (arith, few, same)) ∙ sym has.now) in
    let made = has_cut facts last new order cut in
    record {
      now = made.now ∙ ap (λ n. n + 1) now;
      order = made.order;
      rows = one_window kept window old new (made.raises ∙ has.raises) (made.answers ∙ has.answers) passed.rows;
      allots = λ number some few. elim (below_next number (window + 1) (omega (arith, few))) [
        | inl before ↦ λ id.
            passed.allots number some (omega (arith, before)) id ∙ sym (made.seats number id (omega (arith, before, now)) ∙ seats_stay facts kept window old last number id has)
        | inr own ↦ subst (λ n. AreAllotsOf facts new kept n) (sym own) allots
      ];
    }

pub closes_by : (facts : SeasonFacts) (kept : Kept) (window : ℕ) (last new : State) → window < kept.cuts → Closes facts kept window (nat_lt window kept.cuts) last new
    → CutPasses facts last new × AreAllotsOf facts new kept (window + 1)
closes_by facts kept window last new less close = subst (λ (b : Bool). Closes facts kept window b last new) (lt-ltb window kept.cuts less) close

pub stays_by : (facts : SeasonFacts) (kept : Kept) (window : ℕ) (last new : State) → kept.cuts ≤ window → Closes facts kept window (nat_lt window kept.cuts) last new → new ≡ last
stays_by facts kept window last new past close = subst (λ (b : Bool). Closes facts kept window b last new) (le-ltb window kept.cuts past) close

pub has_passed : (facts : SeasonFacts) (kept : Kept) (windows : ℕ) (state : State) → windows ≤ kept.cuts → Pass facts kept windows state → HasPassed facts kept windows state
has_passed facts kept zero state few pass = passed_none facts kept state pass
has_passed facts kept (suc window) state few pass =
    let before = has_passed facts kept window pass.0 (omega (arith, few)) pass.1 in
    let close = closes_by facts kept window pass.2.last state (omega (arith, few)) pass.2.close in
    let P : ℕ → Type 0 = λ n. HasPassed facts kept n state in
    subst P (add-one window) (passed_cut facts kept window pass.0 pass.2.last state before pass.2.rows close.0 close.1)

-- after the counted cuts no more windows open
pub now_after : (facts : SeasonFacts) (kept : Kept) (windows : ℕ) (state : State) → kept.cuts ≤ windows → Pass facts kept windows state → state.now ≡ kept.cuts
now_after facts kept zero state past pass = ap (λ (s : State). s.now) pass ∙ omega (arith, past)
now_after facts kept (suc window) state past pass = elim (cases_lt window kept.cuts) [
  | inl less ↦ let passed = has_passed facts kept (suc window) state (omega (arith, less)) pass in passed.now ∙ omega (arith, less, past)
  | inr more ↦
      let stays = stays_by facts kept window pass.2.last state more pass.2.close in
      let has = rows_lead facts kept window pass.0 pass.2.last pass.2.rows in
      ap (λ (s : State). s.now) stays ∙ (has.now ∙ now_after facts kept window pass.0 more pass.1)
]

-- nothing is kept of windows after the counted cuts, where all windows pass
later_none : (facts : SeasonFacts) (kept : Kept) (state : State) (window : ℕ) → AreSeats facts.matrix → AllPass facts kept state → kept.cuts < window
    → (raises_in window kept.raises ≡ []) × (in_window window kept.answers ≡ [])
later_none facts kept state window seats all past =
    let pass : Pass facts kept (suc window) state = all (suc window) (omega (arith, past)) in
    let now = now_after facts kept window pass.0 (omega (arith, past)) pass.1 in
    let rows = pass.2.rows in
    let lead = raises_lead facts window kept.raises pass.0 rows.raised rows.raises in
    let raised : rows.raised.now ≡ kept.cuts = ap (λ (s : State). s.now) lead ∙ now in (
      raises_ahead facts window kept.raises pass.0 rows.raised seats (omega (arith, past, now)) rows.raises,
      answers_ahead facts window kept.answers rows.raised pass.2.last seats (omega (arith, past, raised)) rows.answers,
    )

-- the state after all windows
record HasEnded (facts : SeasonFacts) (kept : Kept) (state : State) : Type 0 where
  old : State
  passed : HasPassed facts kept kept.cuts old
  has : HasRows kept kept.cuts old state

ended : (facts : SeasonFacts) (kept : Kept) (state : State) → AllPass facts kept state → HasEnded facts kept state
ended facts kept state all =
    let pass : Pass facts kept (suc kept.cuts) state = all (suc kept.cuts) (omega arith) in
    let stays = stays_by facts kept kept.cuts pass.2.last state (omega arith) pass.2.close in
    record {
      old = pass.0;
      passed = has_passed facts kept kept.cuts pass.0 (omega arith) pass.1;
      has = subst (λ (s : State). HasRows kept kept.cuts pass.0 s) (sym stays) (rows_lead facts kept kept.cuts pass.0 pass.2.last pass.2.rows);
    }

-- Records that are replayed to a state stand for it.
pub stand_for : (facts : SeasonFacts) (kept : Kept) (state : State) → AreSeats facts.matrix → kept.season ≡ facts.text → IsReplayed facts kept state → AreRecordsOf facts state kept
stand_for facts kept state seats text replayed =
    let end = ended facts kept state replayed.passed in
    let rows = one_window kept kept.cuts end.old state end.has.raises end.has.answers end.passed.rows in
    record {
      season = text;
      raises = held_whole raise_of raises_in (kept.cuts + 1) kept.raises state.raises raises_as rows.raises (λ window past. (later_none facts kept state window seats replayed.passed (omega (arith, past))).0);
      answers = held_whole answer_of in_window (kept.cuts + 1) kept.answers state.answers answers_as rows.answers (λ window past. (later_none facts kept state window seats replayed.passed (omega (arith, past))).1);
      cuts = sym (end.has.now ∙ end.passed.now);
      allots = λ number id. elim (cases_lt kept.cuts number) [
        | inl past ↦ replayed.uncounted number (inr past) id
        | inr few ↦ elim (cases_lt 0 number) [
          | inl some ↦ end.passed.allots number (omega (arith, some)) few id ∙ sym (seats_stay facts kept kept.cuts end.old state number id end.has)
          | inr none ↦ replayed.uncounted number (inl (omega (arith, none))) id
        ]
      ];
    }
