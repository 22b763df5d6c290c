-- The matrix along a history: each raise gives a step more seats, and those of a window come after those of the windows before it.
use Rattle.std.proofs.Common.{◌≡◌, ◌<◌, ◌≤◌, ◌+◌, inl, inr, ℕ, suc, Bool, true, false, List, [], ◌∷◌, ◌++◌, length, arith, refl, sym, ap, ◌∙◌, subst, nat_lt, ◌||◌, if◌then◌else◌, append-nil, append_assoc}
use Rattle.std.specs.Prelude.{◌-◌, nat_le}
use Rattle.std.proofs.lemmas.Bool.{cases_lt, lt-ltb, ltb-false}
use Rattle.std.proofs.lemmas.Bool.Decides.{nat_tests}
use Rattle.office_base.specs.Limits.{most_matrix_seats, most_step_seats}
use Rattle.kept_rows.specs.declared.rows.RaiseRow.{RaiseRow}
use Rattle.seat_matrix.specs.Laws.{OneStepChanges}
use Rattle.seat_matrix.specs.Matrix.{AreSeats, SeatTable}
use Rattle.seat_matrix.specs.Seats.{is_dereserved}
use Rattle.rounds.specs.Rule.{IsRaised}
use Rattle.office_moves.specs.Facts.{IsSound, SeasonFacts}
use Rattle.office_moves.specs.State.{State, opening}
use Rattle.office_moves.specs.Raised.{matrix_at, matrix_of_round, raised, raised_before}
use Rattle.office_moves.specs.Judge.{judge_new_seats, refuse_if}
use Rattle.office_moves.specs.Decided.{raise_facts}
use Rattle.office_moves.specs.History.{Reaches}
use Rattle.office_moves.specs.declared.decide.Decision.TheVariants.{Lift}
use Rattle.office_moves.specs.declared.moves.Act.{Act}
use Rattle.office_moves.specs.declared.moves.Entry.{Entry}
use Rattle.office_moves.specs.declared.refusal.Refusal.{Refusal}
use Rattle.office_moves.proofs.Rising.{AreLifts, IsLift, lifts_append, raised_append, raised_well, with_raise}
use Rattle.history_laws.specs.Laws.{SeatsOnlyRise, SeatsRise}
use Rattle.history_laws.proofs.Accepted.{is_open}
use Rattle.history_laws.proofs.Changes.{Answered, Finishes, Follows, Publishes, Raised}
use Rattle.history_laws.proofs.Rows.{before_append, before_more, before_same}
use Rattle.history_laws.proofs.Windows.{Runs, along_windows, runs_well}

-- ---- the raises before a window

row_if : (b c : Bool) (row : RaiseRow) (rows : List RaiseRow) → b ≡ c → (if b then row ∷ rows else rows) ≡ (if c then row ∷ rows else rows)
row_if b c row rows e = ap (λ (z : Bool). if z then row ∷ rows else rows) e

-- what was raised before a window was raised before the next one
still_before : (n : ℕ) (rows : List RaiseRow) → raised_before (suc n) (raised_before n rows) ≡ raised_before n rows
still_before n [] = refl
still_before n (row ∷ rows) = by (nat_lt row.window n) refl (still_before n rows)
  where
    by : (b : Bool) → nat_lt row.window n ≡ b → raised_before (suc n) (raised_before n rows) ≡ raised_before n rows
        → raised_before (suc n) (if b then row ∷ raised_before n rows else raised_before n rows) ≡ (if b then row ∷ raised_before n rows else raised_before n rows)
    by true e rest =
        row_if (nat_lt row.window (suc n)) true row (raised_before (suc n) (raised_before n rows)) (lt-ltb row.window (suc n) (grind (arith, nat_tests)))
        ∙ ap (λ (z : List RaiseRow). row ∷ z) rest
    by false e rest = rest

-- ---- prefixes of lifts

lifts_prefix : (table : SeatTable) (rows more : List RaiseRow) → AreLifts table (rows ++ more) → AreLifts table rows × AreLifts (raised table rows) more
lifts_prefix table [] more lifts = (tt, lifts)
lifts_prefix table (row ∷ rows) more lifts = let rest = lifts_prefix (with_raise table row) rows more lifts.1 in ((lifts.0, rest.0), rest.1)

-- ---- an accepted raise

either_false : (a b : Bool) → a || b ≡ false → a ≡ false
either_false true b e = e
either_false false b e = refl

-- the tests of the seats of a raise
record Passes (fixed few many : Bool) : Type 0 where
  is_own : fixed ≡ false
  is_more : few ≡ false
  is_within : many ≡ false

passes : (fixed few many : Bool) (first second third : Refusal) (row : RaiseRow) → refuse_if fixed first (refuse_if few second (refuse_if many third (Lift row))) ≡ Lift row
    → Passes fixed few many
passes true few many first second third row h = absurd (cc)
passes false true many first second third row h = absurd (cc)
passes false false true first second third row h = absurd (cc)
passes false false false first second third row h = record { is_own = refl; is_more = refl; is_within = refl }

not_fewer : (m n : ℕ) → nat_le m n ≡ false → n ≤ m
not_fewer m n e = grind (arith, nat_tests)

pub was_lift : (facts : SeasonFacts) (old : State) (row : RaiseRow) → row.prog.0 < length (matrix_at facts old).programmes → judge_new_seats (raise_facts facts old row) row ≡ Lift row
    → IsLift (matrix_at facts old) row
was_lift facts old row below next =
    let looks = raise_facts facts old row in
    let passed = passes (is_dereserved row.step) (nat_le row.seats looks.seats) (nat_lt most_step_seats row.seats || nat_lt most_matrix_seats (looks.total - looks.seats + row.seats))
    _ _ _ row next in
    record {
      below = below;
      own = passed.is_own;
      more = not_fewer row.seats looks.seats passed.is_more;
      most = ltb-false 4000 row.seats (either_false (nat_lt 4000 row.seats) (nat_lt most_matrix_seats (looks.total - looks.seats + row.seats)) passed.is_within);
    }

-- ---- along a history

-- Each raise lifts the matrix with those before it, and those before a window come first.
pub record AreRaises (facts : SeasonFacts) (state : State) : Type 0 where
  pub lifts : AreLifts facts.matrix state.raises
  pub first : (n : ℕ) → (more : List RaiseRow) × (state.raises ≡ raised_before n state.raises ++ more)

no_raises : (facts : SeasonFacts) → AreRaises facts opening
no_raises facts = record { lifts = tt; first = λ n. ([], refl) }

-- with the same raises
same_raises : (facts : SeasonFacts) (old new : State) → new.raises ≡ old.raises → AreRaises facts old → AreRaises facts new
same_raises facts old new same here = record {
  lifts = subst (AreLifts facts.matrix) (sym same) here.lifts;
  first = λ n. subst (λ (rows : List RaiseRow). (more : List RaiseRow) × (rows ≡ raised_before n rows ++ more)) (sym same) (here.first n);
}

-- with a raise of the open window
first_more : (raises : List RaiseRow) (row : RaiseRow) → ((n : ℕ) → row.window < n → raised_before n raises ≡ raises)
    → ((n : ℕ) → (more : List RaiseRow) × (raises ≡ raised_before n raises ++ more)) → (n : ℕ)
    → (more : List RaiseRow) × (raises ++ row ∷ [] ≡ raised_before n (raises ++ row ∷ []) ++ more)
first_more raises row all first n = elim (cases_lt row.window n) [
  | inl less ↦ ([], sym (append-nil _ ∙ (before_more n raises row less ∙ ap (λ (z : List RaiseRow). z ++ row ∷ []) (all n less))))
  | inr late ↦
      let before = first n in (
        before.0 ++ row ∷ [],
        ap (λ (z : List RaiseRow). z ++ row ∷ []) before.1
            ∙ (append_assoc (raised_before n raises) before.0 (row ∷ []) ∙ ap (λ (z : List RaiseRow). z ++ (before.0 ++ row ∷ [])) (sym (before_same n raises row late))),
      )
]

raises_follow : OneStepChanges → (facts : SeasonFacts) → AreSeats facts.matrix → (old new : State) (act : Act) → Runs facts old → Runs facts new → AreRaises facts old → Follows facts old act new
    → AreRaises facts new
raises_follow law facts seats old new act runs after here (Answered row asks is accepts same) = same_raises facts old new (ap (λ (s : State). s.raises) same) here
raises_follow law facts seats old new act runs after here (Raised row code asks found known is accepts same) =
    let time = (is_open old.now facts.rounds row.window accepts.opened).0 in
    let programmes = (raised_well law facts.matrix old.raises seats here.lifts).1.programmes in
    let below : row.prog.0 < length (matrix_at facts old).programmes = subst (λ z. row.prog.0 < length z) (sym programmes) found.below in
    subst (AreRaises facts) (sym same) (record {
      lifts = lifts_append facts.matrix old.raises (row ∷ []) here.lifts (was_lift facts old row below accepts.next, tt);
      first = first_more old.raises row (λ n less. runs.raises n (omega (arith, time, less))) here.first;
    })
raises_follow law facts seats old new act runs after here (Publishes window round asks is cuts less next same) = same_raises facts old new (ap (λ (s : State). s.raises) same) here
raises_follow law facts seats old new act runs after here (Finishes window asks is cuts last same) = same_raises facts old new (ap (λ (s : State). s.raises) same) here

pub are_raises : OneStepChanges → (facts : SeasonFacts) → IsSound facts → (entries : List Entry) (state : State) → Reaches facts opening entries state → AreRaises facts state
are_raises law facts sound entries state reached = along_windows facts (AreRaises facts) (no_raises facts) (raises_follow law facts sound.seats) entries state reached

-- ---- the matrix of each round

-- the matrix of a round, and the raises that lead from it to the next one's
record Leads (facts : SeasonFacts) (state : State) (n : ℕ) : Type 0 where
  more : List RaiseRow
  lifts : AreLifts facts.matrix (raised_before n state.raises)
  onward : AreLifts (matrix_of_round facts state n) more
  next : matrix_of_round facts state (suc n) ≡ raised (matrix_of_round facts state n) more

leads : (facts : SeasonFacts) (state : State) (n : ℕ) → AreRaises facts state → Leads facts state n
leads facts state n here =
    let split = here.first n in
    let after = here.first (suc n) in
    let more : List RaiseRow = raised_before (suc n) split.0 in
    let grown : raised_before (suc n) state.raises ≡ raised_before n state.raises ++ more =
    ap (raised_before (suc n)) split.1 ∙ (before_append (suc n) (raised_before n state.raises) split.0 ∙ ap (λ (z : List RaiseRow). z ++ more) (still_before n state.raises)) in
    let upto : AreLifts facts.matrix (raised_before (suc n) state.raises) =
    (lifts_prefix facts.matrix (raised_before (suc n) state.raises) after.0 (subst (AreLifts facts.matrix) after.1 here.lifts)).0 in
    let both = lifts_prefix facts.matrix (raised_before n state.raises) more (subst (AreLifts facts.matrix) grown upto) in
    record {
      more = more;
      lifts = both.0;
      onward = both.1;
      next = ap (raised facts.matrix) grown ∙ raised_append facts.matrix (raised_before n state.raises) more;
    }

pub seats_rise : OneStepChanges → (facts : SeasonFacts) → IsSound facts → (entries : List Entry) (state : State) → Reaches facts opening entries state → SeatsRise facts state
seats_rise law facts sound entries state reached =
    let here = are_raises law facts sound entries state reached in
    let upto = λ (n : ℕ). raised_well law facts.matrix (raised_before n state.raises) sound.seats (leads facts state n here).lifts in
    let whole = raised_well law facts.matrix state.raises sound.seats here.lifts in
    record {
      seats = λ n. (upto n).0;
      raised = λ n. (let to = leads facts state n here in
          subst (λ (z : SeatTable). IsRaised (matrix_of_round facts state n) z) (sym to.next) (raised_well law (matrix_of_round facts state n) to.more (upto n).0 to.onward).1);
      programmes = λ n. (upto n).1.programmes;
      matrix = ap (raised facts.matrix) (sym ((runs_well facts entries state reached).raises (suc state.now) (omega arith)));
      whole = whole.0;
      whole_programmes = whole.1.programmes;
    }

pub seats_only_rise : OneStepChanges → (facts : SeasonFacts) → SeatsOnlyRise facts
seats_only_rise law facts sound entries state reached = seats_rise law facts sound entries state reached
