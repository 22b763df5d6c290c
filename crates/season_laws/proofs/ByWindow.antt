-- The rounds and the final rows of a history look at the rows of each candidate in each window and at the raises of each window, and at no other order.
use Rattle.std.proofs.Common.{◌≡◌, ◌≢◌, ◌<◌, ◌≤◌, ◌+◌, inl, inr, ℕ, zero, suc, Bool, List, [], ◌∷◌, ◌++◌, Option, Some, None, length, map, arith, refl, sym, ap, ◌∙◌, subst, ◌==◌, if◌then◌else◌, append_assoc, append-nil}
use Rattle.std.specs.Prelude.{slice_get, option_map}
use Rattle.std.proofs.lemmas.Bool.{cases_lt, cases_order, eq-eqb, ne_eqb}
use Rattle.office_base.specs.declared.seat.Seat.{Seat}
use Rattle.office_base.specs.declared.person.Person.{Person}
use Rattle.office_base.proofs.Lists.{there_is}
use Rattle.office_base.proofs.Options.{some_value}
use Rattle.kept_rows.specs.declared.rows.AllotRow.{AllotRow}
use Rattle.kept_rows.specs.declared.rows.AnswerRow.{AnswerRow}
use Rattle.kept_rows.specs.declared.rows.RaiseRow.{RaiseRow}
use Rattle.allocations.specs.Market.{place_of}
use Rattle.choice_lists.specs.Choices.{list_of}
use Rattle.seat_matrix.specs.Matrix.{AreSeats, SeatTable}
use Rattle.seeks.specs.declared.seek.Seek.{Seek}
use Rattle.rounds.specs.Round.{IsRound}
use Rattle.rounds.specs.Rule.{nobody}
use Rattle.rounds.specs.declared.round.Round.{Round}
use Rattle.round_options.specs.Options.{after_cut, holds, seek_after}
use Rattle.round_options.specs.declared.standing.Standing.{Standing}
use Rattle.office_moves.specs.Facts.{IsSound, SeasonFacts, lists_in_order}
use Rattle.office_moves.specs.State.{State, answered, in_window, left_by, opening, rows_of, seat_in, seat_of, view_of}
use Rattle.office_moves.specs.History.{Reaches, asked}
use Rattle.office_moves.specs.Moves.{rows_along}
use Rattle.office_moves.specs.Promise.{kept_to_the_end, standing_then}
use Rattle.office_moves.specs.Raised.{matrix_of_round, raised, raised_before}
use Rattle.office_moves.specs.declared.moves.Act.{Act}
use Rattle.office_moves.specs.declared.moves.Entry.{Entry}
use Rattle.office_moves.proofs.Grows.{none_raised}
use Rattle.history_laws.specs.Course.{seek_then, seeks_then}
use Rattle.history_laws.specs.Orderly.{IsOrderly}
use Rattle.history_laws.proofs.Changes.{Answered, Finishes, Follows, Publishes, Raised, along, changes}
use Rattle.history_laws.proofs.Rows.{before_more, before_same, lifted_when}
use Rattle.history_laws.proofs.Accepted.{is_open}
use Rattle.season_laws.specs.Laws.{AreSameByWindow, CameToTheSame, OrderWithinWindowsIsFree, answers_among, cuts_among, raises_among, raises_in}

-- ---- the raises of a window

in_append : (window : ℕ) (rows more : List RaiseRow) → raises_in window (rows ++ more) ≡ raises_in window rows ++ raises_in window more
in_append window [] more = refl
in_append window (row ∷ rows) more =
    ap (λ (z : List RaiseRow). if row.window == window then row ∷ z else z) (in_append window rows more)
    ∙ lifted_when (row.window == window) row (raises_in window rows) (raises_in window more)

-- a raise of the window is the last one there
in_more : (window : ℕ) (rows : List RaiseRow) (row : RaiseRow) → row.window ≡ window → raises_in window (rows ++ row ∷ []) ≡ raises_in window rows ++ row ∷ []
in_more window rows row here =
    in_append window rows (row ∷ []) ∙ ap (λ (b : Bool). raises_in window rows ++ (if b then row ∷ [] else [])) (eq-eqb row.window window here)

-- a raise of another window is not there
in_same : (window : ℕ) (rows : List RaiseRow) (row : RaiseRow) → row.window ≢ window → raises_in window (rows ++ row ∷ []) ≡ raises_in window rows
in_same window rows row apart =
    in_append window rows (row ∷ [])
    ∙ (ap (λ (b : Bool). raises_in window rows ++ (if b then row ∷ [] else [])) (ne_eqb row.window window apart) ∙ append-nil (raises_in window rows))

-- ---- the raises of a history are in the order of their windows

-- the raises before a window and those of it are the raises before the next one, and none is of a window to come
record AreInOrder (now : ℕ) (raises : List RaiseRow) : Type 0 where
  whole : (window : ℕ) → now < window → raised_before window raises ≡ raises
  none : (window : ℕ) → now < window → raises_in window raises ≡ []
  next : (window : ℕ) → raised_before (suc window) raises ≡ raised_before window raises ++ raises_in window raises

later_on : (now : ℕ) (raises : List RaiseRow) → AreInOrder now raises → AreInOrder (now + 1) raises
later_on now raises here = record {
  whole = λ window late. here.whole window (omega (arith, late));
  none = λ window late. here.none window (omega (arith, late));
  next = here.next;
}

one_more : (now : ℕ) (raises : List RaiseRow) (row : RaiseRow) → row.window ≡ now → AreInOrder now raises → AreInOrder now (raises ++ row ∷ [])
one_more now raises row opened here = record { whole = whole; none = none; next = λ window. next_one window }
  where
    whole : (window : ℕ) → now < window → raised_before window (raises ++ row ∷ []) ≡ raises ++ row ∷ []
    whole window late = before_more window raises row (omega (arith, opened, late)) ∙ ap (λ (z : List RaiseRow). z ++ row ∷ []) (here.whole window late)

    none : (window : ℕ) → now < window → raises_in window (raises ++ row ∷ []) ≡ []
    none window late = in_same window raises row (λ at. omega (arith, at, opened, late)) ∙ here.none window late

    next_one : (window : ℕ) → raised_before (suc window) (raises ++ row ∷ []) ≡ raised_before window (raises ++ row ∷ []) ++ raises_in window (raises ++ row ∷ [])
    next_one window = elim (cases_order window now) [
      | inl same ↦
          before_more (suc window) raises row (omega (arith, opened, same))
          ∙ (ap (λ (z : List RaiseRow). z ++ row ∷ []) (here.next window)
          ∙ (append_assoc (raised_before window raises) (raises_in window raises) (row ∷ [])
          ∙ (ap (λ (z : List RaiseRow). z ++ (raises_in window raises ++ row ∷ [])) (sym (before_same window raises row (omega (arith, opened, same))))
          ∙ ap (λ (z : List RaiseRow). raised_before window (raises ++ row ∷ []) ++ z) (sym (in_more window raises row (opened ∙ sym same))))))
      | inr apart ↦ elim apart [
        | inl less ↦
            before_same (suc window) raises row (omega (arith, opened, less))
            ∙ (here.next window
            ∙ (ap (λ (z : List RaiseRow). z ++ raises_in window raises) (sym (before_same window raises row (omega (arith, opened, less))))
            ∙ ap (λ (z : List RaiseRow). raised_before window (raises ++ row ∷ []) ++ z) (sym (in_same window raises row (λ at. omega (arith, at, opened, less))))))
        | inr more ↦
            whole (suc window) (omega (arith, more))
            ∙ (sym (append-nil (raises ++ row ∷ []))
            ∙ (ap (λ (z : List RaiseRow). z ++ []) (sym (whole window more))
            ∙ ap (λ (z : List RaiseRow). raised_before window (raises ++ row ∷ []) ++ z) (sym (none window more))))
      ]
    ]

in_order : (facts : SeasonFacts) (old new : State) (act : Act) → AreInOrder old.now old.raises → Follows facts old act new → AreInOrder new.now new.raises
in_order facts old new act here (Answered row asks is n e) = subst (λ (s : State). AreInOrder s.now s.raises) (sym e) here
in_order facts old new act here (Raised row code asks found known is n e) =
    subst (λ (s : State). AreInOrder s.now s.raises) (sym e) (one_more old.now old.raises row (is_open old.now facts.rounds row.window n.opened).0 here)
in_order facts old new act here (Publishes window round asks is cuts less next e) = subst (λ (s : State). AreInOrder s.now s.raises) (sym e) (later_on old.now old.raises here)
in_order facts old new act here (Finishes window asks is cuts last e) = subst (λ (s : State). AreInOrder s.now s.raises) (sym e) (later_on old.now old.raises here)

raises_in_order : (facts : SeasonFacts) (entries : List Entry) (state : State) → Reaches facts opening entries state → AreInOrder state.now state.raises
raises_in_order facts entries state reached =
    along facts (λ (s : State). AreInOrder s.now s.raises) (in_order facts) entries opening state (record { whole = λ window late. refl; none = λ window late. refl; next = λ window. refl }) reached

-- so those before a window are the same, where those of each window are
same_before : (now now' : ℕ) (raises others : List RaiseRow) → AreInOrder now raises → AreInOrder now' others → ((window : ℕ) → raises_in window others ≡ raises_in window raises) → (n : ℕ)
    → raised_before n others ≡ raised_before n raises
same_before now now' raises others first second same zero = none_raised others ∙ sym (none_raised raises)
same_before now now' raises others first second same (suc n) =
    second.next n
    ∙ (ap (λ (z : List RaiseRow). z ++ raises_in n others) (same_before now now' raises others first second same n)
    ∙ (ap (λ (z : List RaiseRow). raised_before n raises ++ z) (same n) ∙ sym (first.next n)))

-- ---- lists

same_list : {X : Type 0} (xs ys : List X) → length xs ≡ length ys → ((i : ℕ) → i < length ys → slice_get xs i ≡ slice_get ys i) → xs ≡ ys
same_list [] [] size each = refl
same_list [] (y ∷ ys) size each = absurd (omega (arith, size))
same_list (x ∷ xs) [] size each = absurd (omega (arith, size))
same_list (x ∷ xs) (y ∷ ys) size each =
    let first : Some x ≡ Some y = each 0 (omega arith) in
    let head : x ≡ y = cc in
    let tail = same_list xs ys (omega (arith, size)) (λ i less. each (suc i) (omega (arith, less))) in
    ap (λ z. z ∷ xs) head ∙ ap (λ zs. y ∷ zs) tail

-- ---- what a state keeps of its history

record Keeps (entries : List Entry) (old new : State) : Type 0 where
  now : new.now ≡ old.now + cuts_among entries
  answers : new.answers ≡ old.answers ++ answers_among entries
  raises : new.raises ≡ old.raises ++ raises_among entries

-- with an entry before
module _ (facts : SeasonFacts) (old mid new : State) (entries : List Entry) where
  keeps_one : (act : Act) (number : ℕ) → Follows facts old act mid → Keeps entries mid new → Keeps (record { number = number; act = act } ∷ entries) old new
  keeps_one act number (Answered row asks is n e) rest =
      let now = rest.now in
      let same : mid.now ≡ old.now = ap (λ (s : State). s.now) e in
      subst (λ (a : Act). Keeps (record { number = number; act = a } ∷ entries) old new) (sym is) (record {
        now = omega (arith, now, same);
        answers = rest.answers ∙ (ap (λ (s : State). s.answers ++ answers_among entries) e ∙ append_assoc old.answers (row ∷ []) (answers_among entries));
        raises = rest.raises ∙ ap (λ (s : State). s.raises ++ raises_among entries) e;
      })
  keeps_one act number (Raised row code asks found known is n e) rest =
      let now = rest.now in
      let same : mid.now ≡ old.now = ap (λ (s : State). s.now) e in
      subst (λ (a : Act). Keeps (record { number = number; act = a } ∷ entries) old new) (sym is) (record {
        now = omega (arith, now, same);
        answers = rest.answers ∙ ap (λ (s : State). s.answers ++ answers_among entries) e;
        raises = rest.raises ∙ (ap (λ (s : State). s.raises ++ raises_among entries) e ∙ append_assoc old.raises (row ∷ []) (raises_among entries));
      })
  keeps_one act number (Publishes window round asks is cuts less next e) rest =
      let now = rest.now in
      let same : mid.now ≡ old.now + 1 = ap (λ (s : State). s.now) e in
      subst (λ (a : Act). Keeps (record { number = number; act = a } ∷ entries) old new) (sym is) (record {
        now = omega (arith, now, same);
        answers = rest.answers ∙ ap (λ (s : State). s.answers ++ answers_among entries) e;
        raises = rest.raises ∙ ap (λ (s : State). s.raises ++ raises_among entries) e;
      })
  keeps_one act number (Finishes window asks is cuts last e) rest =
      let now = rest.now in
      let same : mid.now ≡ old.now + 1 = ap (λ (s : State). s.now) e in
      subst (λ (a : Act). Keeps (record { number = number; act = a } ∷ entries) old new) (sym is) (record {
        now = omega (arith, now, same);
        answers = rest.answers ∙ ap (λ (s : State). s.answers ++ answers_among entries) e;
        raises = rest.raises ∙ ap (λ (s : State). s.raises ++ raises_among entries) e;
      })

keeps_all : (facts : SeasonFacts) (entries : List Entry) (old new : State) → Reaches facts old entries new → Keeps entries old new
keeps_all facts [] old new same = record {
  now = ap (λ (s : State). s.now) same ∙ (omega arith);
  answers = ap (λ (s : State). s.answers) same ∙ sym (append-nil old.answers);
  raises = ap (λ (s : State). s.raises) same ∙ sym (append-nil old.raises);
}
keeps_all facts (entry ∷ entries) old new reached =
    keeps_one facts old reached.0 new entries entry.act entry.number
    (changes facts old (asked facts entry.act).by (asked facts entry.act).ask entry.act reached.1 reached.0 reached.2 reached.3) (keeps_all facts entries reached.0 new reached.4)

-- the same of the states
record IsSameByWindow (state other : State) : Type 0 where
  now : other.now ≡ state.now
  answers : (window id : ℕ) → in_window window (rows_of id other.answers) ≡ in_window window (rows_of id state.answers)
  raises : (window : ℕ) → raises_in window other.raises ≡ raises_in window state.raises

same_states : (facts : SeasonFacts) (entries others : List Entry) (state other : State) → Reaches facts opening entries state → Reaches facts opening others other
    → AreSameByWindow entries others → IsSameByWindow state other
same_states facts entries others state other reached reached' h =
    let first = keeps_all facts entries opening state reached in
    let second = keeps_all facts others opening other reached' in
    record {
      now = second.now ∙ (ap (λ (n : ℕ). 0 + n) h.cuts ∙ sym first.now);
      answers = λ window id.
          ap (λ (rows : List AnswerRow). in_window window (rows_of id rows)) second.answers
          ∙ (h.answers window id ∙ ap (λ (rows : List AnswerRow). in_window window (rows_of id rows)) (sym first.answers));
      raises = λ window.
          ap (λ (rows : List RaiseRow). raises_in window rows) second.raises ∙ (h.raises window ∙ ap (λ (rows : List RaiseRow). raises_in window rows) (sym first.raises));
    }

-- ---- two states that are the same by window

module _ (facts : SeasonFacts) (state other : State) (sound : IsSound facts) (orderly : IsOrderly facts state) (orderly' : IsOrderly facts other) (h : IsSameByWindow state other)
    (matrices : (n : ℕ) → matrix_of_round facts other n ≡ matrix_of_round facts state n)
    (one_round : (table : SeatTable) (n : ℕ) (seeks : List Seek) (first second : Round) → AreSeats table → table.programmes ≡ facts.matrix.programmes
    → IsRound facts.version nobody table facts.people (lists_in_order facts) n seeks first → IsRound facts.version nobody table facts.people (lists_in_order facts) n seeks second → first ≡ second) where
  -- the first rounds, so many, are the same
  abbrev AreSameUpTo : ℕ → Type 0
  AreSameUpTo n = (m : ℕ) → m < n → slice_get other.rounds m ≡ slice_get state.rounds m

  seat_same : (window id : ℕ) → AreSameUpTo window → seat_in facts other.rounds window id ≡ seat_in facts state.rounds window id
  seat_same zero id up = refl
  seat_same (suc before) id up = ap (λ (o : Option Round). seat_of facts o id) (up before (omega arith))

  answered_same : (window id : ℕ) → left_by facts (view_of other id) id window ≡ left_by facts (view_of state id) id window → standing_then facts other window id ≡ standing_then facts state window id
  answered_same window id left =
      ap (λ (s : Standing). answered s (in_window window (rows_of id other.answers))) left
      ∙ ap (λ (rows : List AnswerRow). answered (left_by facts (view_of state id) id window) rows) (h.answers window id)

  left_same : (window id : ℕ) → AreSameUpTo window → left_by facts (view_of other id) id window ≡ left_by facts (view_of state id) id window
  left_same zero id up = refl
  left_same (suc window) id up =
      ap (λ (s : Standing). after_cut s (seat_in facts other.rounds (suc window) id)) (answered_same window id (left_same window id (λ m less. up m (omega (arith, less)))))
      ∙ ap (λ (seat : Option Seat). after_cut (standing_then facts state window id) seat) (seat_same (suc window) id up)

  standing_same : (window id : ℕ) → AreSameUpTo window → standing_then facts other window id ≡ standing_then facts state window id
  standing_same window id up = answered_same window id (left_same window id up)

  seek_same : (window id : ℕ) → AreSameUpTo window → seek_then facts other window id ≡ seek_then facts state window id
  seek_same window id up =
      ap (λ (s : Standing). seek_after s (option_map (λ (seat : Seat). place_of (list_of facts.lists id) seat.prog.0) (seat_in facts other.rounds window id))) (standing_same window id up)
      ∙ ap (λ (o : Option Seat). seek_after (standing_then facts state window id) (option_map (λ (seat : Seat). place_of (list_of facts.lists id) seat.prog.0) o)) (seat_same window id up)

  seeks_same : (window : ℕ) → AreSameUpTo window → seeks_then facts other window ≡ seeks_then facts state window
  seeks_same window up = λ i. map (λ (person : Person). seek_same window person.id.0 up i) facts.people

  -- as many rounds
  count : length other.rounds ≡ length state.rounds
  count = let now = h.now in elim (cases_lt facts.rounds state.now) [
    | inl over ↦ (orderly'.finished (omega (arith, now, over))).0 ∙ sym (orderly.finished over).0
    | inr few ↦ orderly'.course.order (omega (arith, now, few)) ∙ (now ∙ sym (orderly.course.order few))
  ]

  -- each round is the same, where those before it are
  next_same : (n : ℕ) → n < length state.rounds → AreSameUpTo n → slice_get other.rounds n ≡ slice_get state.rounds n
  next_same n less up =
      let many = count in
      let first = there_is state.rounds n less in
      let second = there_is other.rounds n (omega (arith, less, many)) in
      let table = matrix_of_round facts state (suc n) in
      let made = orderly.alone n first.0 first.1 in
      let made' = subst (λ (t : SeatTable). IsRound facts.version nobody t facts.people (lists_in_order facts) (n + 1) (seeks_then facts other n) second.0) (matrices (suc n))
      (orderly'.alone n second.0 second.1) in
      let again = subst (λ (z : List Seek). IsRound facts.version nobody table facts.people (lists_in_order facts) (n + 1) z second.0) (seeks_same n up) made' in
      let same = one_round table (n + 1) (seeks_then facts state n) second.0 first.0 (orderly.course.seats (suc n)) (orderly.course.programmes (suc n)) again made in
      second.1 ∙ (ap (λ (r : Round). Some r) same ∙ sym first.1)

  up_to : (n : ℕ) → n ≤ length state.rounds → AreSameUpTo n
  up_to zero few m less = absurd (omega (arith, less))
  up_to (suc n) few m less = elim (cases_order m n) [
    | inl last ↦ subst (λ (k : ℕ). slice_get other.rounds k ≡ slice_get state.rounds k) (sym last) (next_same n (omega (arith, few)) (up_to n (omega (arith, few))))
    | inr apart ↦ elim apart [
      | inl early ↦ up_to n (omega (arith, few)) m early
      | inr more ↦ absurd (omega (arith, less, more))
    ]
  ]

  rounds_same : other.rounds ≡ state.rounds
  rounds_same = same_list other.rounds state.rounds count (up_to (length state.rounds) (omega arith))

  -- a candidate who keeps a seat to the end keeps the same
  kept_same : (id : ℕ) → AreSameUpTo facts.rounds → kept_to_the_end facts other id ≡ kept_to_the_end facts state id
  kept_same id up =
      ap (λ (s : Standing). if holds s then seat_in facts other.rounds facts.rounds id else None) (standing_same facts.rounds id up)
      ∙ ap (λ (o : Option Seat). if holds (standing_then facts state facts.rounds id) then o else None) (seat_same facts.rounds id up)

  finals_same : other.finals ≡ state.finals
  finals_same = let now = h.now in elim (cases_lt facts.rounds state.now) [
    | inl over ↦
        let done = orderly.finished over in
        let done' = orderly'.finished (omega (arith, now, over)) in
        let size = done.0 in
        let rows = some_value state.finals done.1 in
        let rows' = some_value other.finals done'.1 in
        let up : AreSameUpTo facts.rounds = up_to facts.rounds (omega (arith, size)) in
        let along_same : rows_along (facts.rounds + 1) (kept_to_the_end facts other) facts.people ≡ rows_along (facts.rounds + 1) (kept_to_the_end facts state) facts.people =
        λ i. rows_along (facts.rounds + 1) (λ (id : ℕ). kept_same id up i) facts.people in
        rows'.1 ∙ (ap (λ (z : List AllotRow). Some z) (orderly'.course.finals rows'.0 rows'.1 ∙ (along_same ∙ sym (orderly.course.finals rows.0 rows.1))) ∙ sym rows.1)
    | inr few ↦ orderly'.unfinished (omega (arith, now, few)) ∙ sym (orderly.unfinished few)
  ]

  same : CameToTheSame facts state other
  same = record {
    now = h.now;
    rounds = rounds_same;
    finals = finals_same;
    standings = λ window id. standing_same window id (λ m less. ap (λ (rounds : List Round). slice_get rounds m) rounds_same);
  }

pub order_within_windows_is_free : ((facts : SeasonFacts) (entries : List Entry) (state : State) → IsSound facts → Reaches facts opening entries state → IsOrderly facts state)
    → ((facts : SeasonFacts) (table : SeatTable) (n : ℕ) (seeks : List Seek) (first second : Round) → IsSound facts → AreSeats table → table.programmes ≡ facts.matrix.programmes
    → IsRound facts.version nobody table facts.people (lists_in_order facts) n seeks first → IsRound facts.version nobody table facts.people (lists_in_order facts) n seeks second → first ≡ second)
    → (facts : SeasonFacts) → OrderWithinWindowsIsFree facts
order_within_windows_is_free orderly one_round facts entries others state other sound history history' alike =
    let h = same_states facts entries others state other history.reached history'.reached alike in
    let first = orderly facts entries state sound history.reached in
    let second = orderly facts others other sound history'.reached in
    let before = same_before state.now other.now state.raises other.raises (raises_in_order facts entries state history.reached) (raises_in_order facts others other history'.reached) h.raises in
    let matrices : (n : ℕ) → matrix_of_round facts other n ≡ matrix_of_round facts state n = λ n. ap (λ (z : List RaiseRow). raised facts.matrix z) (before n) in
    let one : (table : SeatTable) (n : ℕ) (seeks : List Seek) (a b : Round) → AreSeats table → table.programmes ≡ facts.matrix.programmes
    → IsRound facts.version nobody table facts.people (lists_in_order facts) n seeks a → IsRound facts.version nobody table facts.people (lists_in_order facts) n seeks b → a ≡ b =
    λ table n seeks a b seats same x y. one_round facts table n seeks a b sound seats same x y in
    same facts state other sound first second h matrices one
