-- Two answers of different candidates that follow each other can be exchanged.
use Rattle.std.proofs.Common.{◌≡◌, ◌≢◌, ◌+◌, inl, inr, ℕ, Bool, true, List, [], ◌∷◌, ◌++◌, Option, Some, None, length, map, refl, sym, ap, ◌∙◌, subst, ◌==◌, if◌then◌else◌, append-nil}
use Rattle.std.specs.Prelude.{option_map}
use Rattle.std.proofs.lemmas.Bool.{cases_Bool, eqb-false, eqb-true}
use Rattle.office_base.specs.Numbered.{rises}
use Rattle.office_asks.specs.declared.ask.By.{By}
use Rattle.office_asks.specs.declared.ask.By.TheVariants.{Clerk}
use Rattle.office_base.specs.declared.seat.Seat.{Seat}
use Rattle.office_base.specs.declared.person.Person.{Person}
use Rattle.office_base.specs.declared.person.ProgId.{ProgId}
use Rattle.office_base.specs.declared.step.StepKind.{StepKind}
use Rattle.kept_rows.specs.declared.rows.AllotRow.{AllotRow}
use Rattle.kept_rows.specs.declared.rows.AnswerRow.{AnswerRow}
use Rattle.kept_rows.specs.declared.rows.RaiseRow.{RaiseRow}
use Rattle.allocations.specs.Market.{place_of}
use Rattle.choice_lists.specs.Choices.{list_of}
use Rattle.seat_matrix.specs.Matrix.{SeatTable}
use Rattle.seeks.specs.declared.seek.Seek.{Seek}
use Rattle.rounds.specs.Round.{IsRound, seated}
use Rattle.rounds.specs.Rule.{guarantees}
use Rattle.rounds.specs.declared.round.Round.{Round}
use Rattle.round_options.specs.Options.{holds, seek_after}
use Rattle.office_moves.specs.Facts.{SeasonFacts, code_in, lists_in_order}
use Rattle.office_moves.specs.Judge.{judge_cut}
use Rattle.office_moves.specs.State.{State, View, last_seat, opening, rows_of, standing_at, view_of, with_finals, with_raise, with_round, with_row}
use Rattle.office_moves.specs.Raised.{matrix_at, raised}
use Rattle.office_moves.specs.Decided.{decide_answer, decide_raise, decided}
use Rattle.office_moves.specs.History.{Reaches, asked, newly}
use Rattle.office_moves.specs.Moves.{Does, IsNextRound, final_rows, kept_programmes, next_seeks, noted, rows_along}
use Rattle.office_moves.specs.declared.decide.Decision.{Decision}
use Rattle.office_moves.specs.declared.decide.Decision.TheVariants.{Note, Lift, Publish, Finish}
use Rattle.office_moves.specs.declared.moves.Act.{Act}
use Rattle.office_moves.specs.declared.moves.Act.TheVariants.{Answer, Raise, Cut}
use Rattle.office_moves.specs.declared.moves.Entry.{Entry}
use Rattle.office_moves.specs.declared.moves.Reply.{Reply}
use Rattle.office_moves.specs.declared.moves.Reply.TheVariants.{Final, Published}
use Rattle.office_moves.proofs.Repeats.{rows_append}
use Rattle.season_laws.specs.Laws.{AnswersCanBeExchanged, CameToTheSame, answer_entry}

-- ---- states that differ in how the rows of several candidates follow each other, and in no more

pub record AreAlike (state other : State) : Type 0 where
  pub now : other.now ≡ state.now
  pub rounds : other.rounds ≡ state.rounds
  pub finals : other.finals ≡ state.finals
  pub raises : other.raises ≡ state.raises
  pub rows : (id : ℕ) → rows_of id other.answers ≡ rows_of id state.answers

module _ (facts : SeasonFacts) (state other : State) (alike : AreAlike state other) where
  views : (id : ℕ) → view_of other id ≡ view_of state id
  views id = λ i. record { now = alike.now i; rounds = alike.rounds i; rows = alike.rows id i }

  -- what an act comes to is the same
  abbrev raise_by : By → ℕ → List ℕ → StepKind → ℕ → ℕ → List RaiseRow → Decision
  raise_by by window code step seats now raises = decide_raise facts (record { now = now; rounds = []; finals = None; answers = []; raises = raises }) by window code step seats

  decides : (act : Act) → decided facts other (asked facts act) ≡ decided facts state (asked facts act)
  decides (Answer row) = ap (λ (view : View). decide_answer facts view (asked facts (Answer row)).by row) (views row.cand.0)
  decides (Raise row) =
      let request = asked facts (Raise row) in
      λ i. raise_by request.by row.window (code_in facts row.prog.0) row.step row.seats (alike.now i) (alike.raises i)
  decides (Cut window) = ap (λ (n : ℕ). judge_cut Clerk n facts.rounds window) alike.now

  next_same : next_seeks facts other ≡ next_seeks facts state
  next_same = λ i. map (λ (person : Person). seek_after (standing_at facts (views person.id.0 i) person.id.0 (alike.now i))
      (option_map (λ (seat : Seat). place_of (list_of facts.lists person.id.0) seat.prog.0) (last_seat facts (alike.rounds i) person.id.0))) facts.people

  finals_same : final_rows facts other ≡ final_rows facts state
  finals_same = λ i. rows_along (facts.rounds + 1)
      (λ (id : ℕ). if holds (standing_at facts (views id i) id (alike.now i)) then last_seat facts (alike.rounds i) id else None) facts.people

  kept_same : kept_programmes facts other ≡ kept_programmes facts state
  kept_same = λ i. map (λ (person : Person). option_map (λ (seat : Seat). seat.prog)
      (if holds (standing_at facts (views person.id.0 i) person.id.0 (alike.now i)) then last_seat facts (alike.rounds i) person.id.0 else None)) facts.people

  round_same : (round : Round) → IsNextRound facts state round → IsNextRound facts other round
  round_same round next =
      let IsRoundBy : List (Option ProgId) → SeatTable → ℕ → List Seek → Type 0 = λ kept table n q. IsRound facts.version (guarantees facts.people kept) table facts.people (lists_in_order facts) (n + 1) q round in
      subst (λ (k : List (Option ProgId)). IsRoundBy k (matrix_at facts other) other.now (next_seeks facts other)) (sym kept_same)
      (subst (λ (q : List Seek). IsRoundBy (kept_programmes facts state) (matrix_at facts other) other.now q) (sym next_same)
      (subst (λ (n : ℕ). IsRoundBy (kept_programmes facts state) (matrix_at facts other) n (next_seeks facts state)) (sym alike.now)
      (subst (λ (r : List RaiseRow). IsRoundBy (kept_programmes facts state) (raised facts.matrix r) state.now (next_seeks facts state)) (sym alike.raises) next)))

  -- what a newly accepting decision does
  does_alike : (decision : Decision) (act : Act) (reply : Reply) (after : State) → newly state.now decision ≡ Some act → Does facts state decision reply after
      → (later : State) × Does facts other decision reply later × AreAlike after later
  does_alike (Note row) act reply after h does = (
    with_row other row,
    (does.0, refl),
    subst (λ (s : State). AreAlike s (with_row other row)) (sym does.1) (record {
      now = alike.now;
      rounds = alike.rounds;
      finals = alike.finals;
      raises = alike.raises;
      rows = λ id. rows_append id other.answers (row ∷ []) ∙ (ap (λ (z : List AnswerRow). z ++ rows_of id (row ∷ [])) (alike.rows id) ∙ sym (rows_append id state.answers (row ∷ [])));
    }),
  )
  does_alike (Lift row) act reply after h does = (
    with_raise other row,
    (does.0, refl),
    subst (λ (s : State). AreAlike s (with_raise other row)) (sym does.1) (record {
      now = alike.now;
      rounds = alike.rounds;
      finals = alike.finals;
      raises = ap (λ (z : List RaiseRow). z ++ row ∷ []) alike.raises;
      rows = alike.rows;
    }),
  )
  does_alike Publish act reply after h does = (
    with_round other does.0,
    (does.0, round_same does.0 does.1, does.2 ∙ ap (λ (n : ℕ). Published (n + 1) (seated does.0.seats)) (sym alike.now), refl),
    subst (λ (s : State). AreAlike s (with_round other does.0)) (sym does.3) (record {
      now = ap (λ (n : ℕ). n + 1) alike.now;
      rounds = ap (λ (z : List Round). z ++ does.0 ∷ []) alike.rounds;
      finals = alike.finals;
      raises = alike.raises;
      rows = alike.rows;
    }),
  )
  does_alike Finish act reply after h does = (
    with_finals other (final_rows facts other),
    (does.0 ∙ ap (λ (z : List AllotRow). Final (length z)) (sym finals_same), refl),
    subst (λ (s : State). AreAlike s (with_finals other (final_rows facts other))) (sym does.1) (record {
      now = ap (λ (n : ℕ). n + 1) alike.now;
      rounds = alike.rounds;
      finals = ap (λ (z : List AllotRow). Some z) finals_same;
      raises = alike.raises;
      rows = alike.rows;
    }),
  )
  does_alike _ act reply after h does = absurd (cc)

  came : CameToTheSame facts state other
  came = record { now = alike.now; rounds = alike.rounds; finals = alike.finals; standings = λ window id. ap (λ (view : View). standing_at facts view id window) (views id) }

-- the same entries lead from such states to such states
reaches_alike : (facts : SeasonFacts) (entries : List Entry) (old other new : State) → AreAlike old other → Reaches facts old entries new
    → (later : State) × Reaches facts other entries later × AreAlike new later
reaches_alike facts [] old other new alike same = (other, refl, subst (λ (s : State). AreAlike s other) (sym same) alike)
reaches_alike facts (entry ∷ entries) old other new alike reached =
    let same = decides facts old other alike entry.act in
    let step = does_alike facts old other alike (decided facts old (asked facts entry.act)) entry.act reached.1 reached.0 reached.2 reached.3 in
    let rest = reaches_alike facts entries reached.0 step.0 new step.2 reached.4 in (
      rest.0,
      (
        step.0,
        reached.1,
        ap (newly other.now) same ∙ (ap (λ (n : ℕ). newly n (decided facts old (asked facts entry.act))) alike.now ∙ reached.2),
        subst (λ (d : Decision). Does facts other d reached.1 step.0) (sym same) step.1,
        rest.1,
      ),
      rest.2,
    )

-- ---- two answers

note_of : (now : ℕ) (decision : Decision) (row : AnswerRow) → newly now decision ≡ Some (Answer row) → decision ≡ Note row
note_of now (Note other) row h = let same : other ≡ row = cc in ap (λ (r : AnswerRow). Note r) same
note_of now _ row h = absurd (cc)

-- a row of another candidate changes nothing of the rows of a candidate
not_own : (id : ℕ) (row : AnswerRow) → row.cand.0 ≢ id → rows_of id (row ∷ []) ≡ []
not_own id row apart = elim (cases_Bool (row.cand.0 == id)) [
  | inl e ↦ absurd (apart (eqb-true row.cand.0 id e))
  | inr e ↦ ap (λ (b : Bool). if b then row ∷ [] else []) e
]

rows_stay : (id : ℕ) (rows : List AnswerRow) (row : AnswerRow) → row.cand.0 ≢ id → rows_of id (rows ++ row ∷ []) ≡ rows_of id rows
rows_stay id rows row apart = rows_append id rows (row ∷ []) ∙ (ap (λ (z : List AnswerRow). rows_of id rows ++ z) (not_own id row apart) ∙ append-nil (rows_of id rows))

rows_exchanged : (id : ℕ) (rows : List AnswerRow) (one two : AnswerRow) → one.cand.0 ≢ id → rows_of id ((rows ++ two ∷ []) ++ one ∷ []) ≡ rows_of id ((rows ++ one ∷ []) ++ two ∷ [])
rows_exchanged id rows one two apart =
    rows_stay id (rows ++ two ∷ []) one apart
    ∙ (rows_append id rows (two ∷ [])
    ∙ (ap (λ (z : List AnswerRow). z ++ rows_of id (two ∷ [])) (sym (rows_stay id rows one apart)) ∙ sym (rows_append id (rows ++ one ∷ []) (two ∷ []))))

exchanged : (old : State) (one two : AnswerRow) → one.cand.0 ≢ two.cand.0 → AreAlike (with_row (with_row old one) two) (with_row (with_row old two) one)
exchanged old one two apart = record {
  now = refl;
  rounds = refl;
  finals = refl;
  raises = refl;
  rows = λ id. elim (cases_Bool (one.cand.0 == id)) [
    | inl mine ↦ sym (rows_exchanged id old.answers two one (λ e. apart (eqb-true one.cand.0 id mine ∙ sym e)))
    | inr other ↦ rows_exchanged id old.answers one two (eqb-false one.cand.0 id other)
  ];
}

-- what an answer comes to is the same after one of another candidate
same_after : (facts : SeasonFacts) (old : State) (one two : AnswerRow) → one.cand.0 ≢ two.cand.0
    → decided facts (with_row old one) (asked facts (Answer two)) ≡ decided facts old (asked facts (Answer two))
same_after facts old one two apart =
    ap (λ (rows : List AnswerRow). decide_answer facts (record { now = old.now; rounds = old.rounds; rows = rows }) (asked facts (Answer two)).by two)
    (rows_stay two.cand.0 old.answers one apart)

module _ (facts : SeasonFacts) (after : List Entry) (m n : ℕ) (one two : AnswerRow) (apart : one.cand.0 ≢ two.cand.0) where
  other_way : two.cand.0 ≢ one.cand.0
  other_way e = apart (sym e)

  at_once : (old new : State) → Reaches facts old (answer_entry m one ∷ answer_entry n two ∷ after) new
      → (other : State) × Reaches facts old (answer_entry m two ∷ answer_entry n one ∷ after) other × AreAlike new other
  at_once old new reached =
      let mid = reached.0 in
      let notes = note_of old.now (decided facts old (asked facts (Answer one))) one reached.2 in
      let did : (reached.1 ≡ noted one) × (mid ≡ with_row old one) = subst (λ (d : Decision). Does facts old d reached.1 mid) notes reached.3 in
      let rest = subst (λ (s : State). Reaches facts s (answer_entry n two ∷ after) new) did.1 reached.4 in
      let notes' = note_of old.now (decided facts (with_row old one) (asked facts (Answer two))) two rest.2 in
      let did' : (rest.1 ≡ noted two) × (rest.0 ≡ with_row (with_row old one) two) = subst (λ (d : Decision). Does facts (with_row old one) d rest.1 rest.0) notes' rest.3 in
      let last = subst (λ (s : State). Reaches facts s after new) did'.1 rest.4 in
      let go = reaches_alike facts after (with_row (with_row old one) two) (with_row (with_row old two) one) new (exchanged old one two apart) last in
      let first : decided facts old (asked facts (Answer two)) ≡ Note two = sym (same_after facts old one two apart) ∙ notes' in
      let second : decided facts (with_row old two) (asked facts (Answer one)) ≡ Note one = same_after facts old two one other_way ∙ notes in (
        go.0,
        (
          with_row old two,
          noted two,
          ap (newly old.now) first,
          subst (λ (d : Decision). Does facts old d (noted two) (with_row old two)) (sym first) (refl, refl),
          (
            with_row (with_row old two) one,
            noted one,
            ap (newly old.now) second,
            subst (λ (d : Decision). Does facts (with_row old two) d (noted one) (with_row (with_row old two) one)) (sym second) (refl, refl),
            go.1,
          ),
        ),
        go.2,
      )

  exchange : (before : List Entry) (old new : State) → Reaches facts old (before ++ answer_entry m one ∷ answer_entry n two ∷ after) new
      → (other : State) × Reaches facts old (before ++ answer_entry m two ∷ answer_entry n one ∷ after) other × AreAlike new other
  exchange [] old new reached = at_once old new reached
  exchange (entry ∷ before) old new reached =
      let rest = exchange before reached.0 new reached.4 in
      (rest.0, (reached.0, reached.1, reached.2, reached.3, rest.1), rest.2)

  numbers : (before : List Entry) → map (λ (entry : Entry). entry.number) (before ++ answer_entry m one ∷ answer_entry n two ∷ after)
      ≡ map (λ (entry : Entry). entry.number) (before ++ answer_entry m two ∷ answer_entry n one ∷ after)
  numbers [] = refl
  numbers (entry ∷ before) = ap (λ (z : List ℕ). entry.number ∷ z) (numbers before)

pub answers_can_be_exchanged : (facts : SeasonFacts) → AnswersCanBeExchanged facts
answers_can_be_exchanged facts before after m n one two state apart history =
    let other = exchange facts after m n one two apart before opening state history.reached in
    (other.0, record { numbers = subst (λ (z : List ℕ). rises 0 z ≡ true) (numbers facts after m n one two apart before) history.numbers; reached = other.1 }, came facts state other.0 other.2)
