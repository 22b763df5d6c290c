-- The least of some numbers, and what is kept of windows and rounds that no counted cut closes.
use Rattle.std.proofs.Common.{◌≡◌, ◌<◌, ◌≤◌, ◌⊎◌, inl, inr, ℕ, Bool, true, false, List, [], ◌∷◌, Option, Some, None, arith, refl, sym, ap, ◌∙◌, subst, ◌==◌, nat_lt, if◌then◌else◌}
use Rattle.std.proofs.lemmas.Bool.{cases_Bool, cases_lt, eq-eqb, eqb-true, lt-ltb, ltb-true, or_cases, or_left, or_right}
use Rattle.kept_rows.specs.declared.rows.AllotRow.{AllotRow}
use Rattle.kept_rows.specs.declared.rows.Kept.{Kept}
use Rattle.office_moves.specs.Stands.{first_allot, raises_in}
use Rattle.office_moves.specs.State.{in_window}
use Rattle.replays.specs.Later.{IsEmptyRound, IsLaterRound, IsLaterWindow, is_later, is_uncounted, least_by, lesser}
use Rattle.replays.specs.Replay.{IsUncounted}
use Rattle.replays.proofs.Seats.{row_hits, row_skips}
use Rattle.replays.proofs.Tables.{answer_of, answers_as, raise_of, raises_as, with_number}

lesser_low : (b n : ℕ) → lesser (Some b) n ≤ b
lesser_low b n = elim (cases_Bool (nat_lt n b)) [
  | inl less ↦ rw less (let f = ltb-true n b less in omega (arith, f))
  | inr other ↦ rw other (omega arith)
]

lesser_own : (best : Option ℕ) (n : ℕ) → lesser best n ≤ n
lesser_own None n = omega arith
lesser_own (Some b) n = elim (cases_Bool (nat_lt n b)) [
  | inl less ↦ rw less (omega arith)
  | inr other ↦ rw other (not_below n b other)
]
  where
    not_below : (m n : ℕ) → nat_lt m n ≡ false → n ≤ m
    not_below m n e = elim (cases_lt m n) [ inl less ↦ absurd (let f = lt-ltb m n less in cc) | inr past ↦ past ]

lesser_one : (best : Option ℕ) (n : ℕ) → (lesser best n ≡ n) ⊎ ((b : ℕ) × (best ≡ Some b) × (lesser best n ≡ b))
lesser_one None n = inl refl
lesser_one (Some b) n = step (nat_lt n b)
  where
    step : (t : Bool) → ((if t then n else b) ≡ n) ⊎ ((c : ℕ) × (Some b ≡ Some c) × ((if t then n else b) ≡ c))
    step true = inl refl
    step false = inr (b, refl, refl)

-- a number at most this one is found
record IsLow (o : Option ℕ) (most : ℕ) : Type 0 where
  it : ℕ
  is : o ≡ Some it
  low : it ≤ most

least_low : {X : Type 0} (test : X → Bool) (number : X → ℕ) (b : ℕ) (rows : List X) → IsLow (least_by test number (Some b) rows) b
least_low test number b [] = record { it = b; is = refl; low = omega arith }
least_low test number b (row ∷ rows) = step (test row) (least_low test number (lesser (Some b) (number row)) rows) (least_low test number b rows)
  where
    step : (t : Bool) → IsLow (least_by test number (Some (lesser (Some b) (number row))) rows) (lesser (Some b) (number row)) → IsLow (least_by test number (Some b) rows) b
        → IsLow (least_by test number (if t then Some (lesser (Some b) (number row)) else Some b) rows) b
    step true rest other =
        let low = lesser_low b (number row) in
        record { it = rest.it; is = rest.is; low = (let few = rest.low in omega (arith, low, few)) }
    step false rest other = other

-- what is found is above
abbrev IsAbove : ℕ → Option ℕ → Type 0
IsAbove n None = Unit {0}
IsAbove n (Some found) = n < found

none_below : {X : Type 0} (test : X → Bool) (number : X → ℕ) (n : ℕ) (best : Option ℕ) (rows : List X) → ((row : X) → number row ≡ n → test row ≡ true)
    → IsAbove n (least_by test number best rows) → with_number number n rows ≡ []
none_below test number n best [] passes above = refl
none_below {X} test number n best (row ∷ rows) passes above =
    step (number row == n) refl (none_below test number n (if test row then Some (lesser best (number row)) else best) rows passes above)
  where
    own : (t : Bool) → t ≡ true → IsAbove n (least_by test number (if t then Some (lesser best (number row)) else best) rows) → number row ≡ n → ⊥
    own false e above same = cc
    own true e above same =
        let found = least_low test number (lesser best (number row)) rows in
        let high : n < found.it = subst (λ (o : Option ℕ). IsAbove n o) found.is above in
        let low = lesser_own best (number row) in
        let few = found.low in
        omega (arith, high, low, few, same)

    step : (b : Bool) → (number row == n) ≡ b → with_number number n rows ≡ [] → (if b then row ∷ with_number number n rows else with_number number n rows) ≡ []
    step true e rest = absurd (let same = eqb-true (number row) n e in own (test row) (passes row same) above same)
    step false e rest = rest

-- a row of this number that passes
record IsThere {X : Type 0} (test : X → Bool) (number : X → ℕ) (n : ℕ) (rows : List X) : Type 0 where
  row : X
  passes : test row ≡ true
  own : number row ≡ n
  some : with_number number n rows ≡ [] → ⊥

there_later : {X : Type 0} (test : X → Bool) (number : X → ℕ) (n : ℕ) (first : X) (rows : List X) → IsThere test number n rows → IsThere test number n (first ∷ rows)
there_later test number n first rows there = record { row = there.row; passes = there.passes; own = there.own; some = step (number first == n) }
  where
    step : (b : Bool) → (if b then first ∷ with_number number n rows else with_number number n rows) ≡ [] → ⊥
    step true e = cc
    step false e = there.some e

there_first : {X : Type 0} (test : X → Bool) (number : X → ℕ) (n : ℕ) (first : X) (rows : List X) → test first ≡ true → number first ≡ n → IsThere test number n (first ∷ rows)
there_first test number n first rows passes own = record { row = first; passes = passes; own = own; some = step (number first == n) (eq-eqb (number first) n own) }
  where
    step : (b : Bool) → b ≡ true → (if b then first ∷ with_number number n rows else with_number number n rows) ≡ [] → ⊥
    step true same e = cc
    step false same e = cc

least_there : {X : Type 0} (test : X → Bool) (number : X → ℕ) (best : Option ℕ) (rows : List X) (n : ℕ) → least_by test number best rows ≡ Some n → (best ≡ Some n) ⊎ IsThere test number n rows
least_there test number best [] n e = inl e
least_there {X} test number best (row ∷ rows) n e =
    step (test row) refl (least_there test number best rows n) (least_there test number (Some (lesser best (number row))) rows n) e
  where
    step : (t : Bool) → test row ≡ t → (least_by test number best rows ≡ Some n → (best ≡ Some n) ⊎ IsThere test number n rows)
        → (least_by test number (Some (lesser best (number row))) rows ≡ Some n → (Some (lesser best (number row)) ≡ Some n) ⊎ IsThere test number n rows) → least_by test number (if t then Some (lesser best (number row)) else best) rows ≡ Some n → (best ≡ Some n) ⊎ IsThere test number n (row ∷ rows)
    step false passes past on e = elim (past e) [
      | inl before ↦ inl before
      | inr there ↦ inr (there_later test number n row rows there)
    ]
    step true passes past on e = elim (on e) [
      | inl now ↦ elim (lesser_one best (number row)) [
        | inl own ↦ inr (there_first test number n row rows passes (let f : lesser best (number row) ≡ n = cc in sym own ∙ f))
        | inr before ↦ inl (before.1 ∙ ap Some (let f : lesser best (number row) ≡ n = cc in sym before.2 ∙ f))
      ]
      | inr there ↦ inr (there_later test number n row rows there)
    ]

-- ---- windows

-- the first number above one that is not empty, or there is none
abbrev IsNext : (ℕ → Type 0) → ℕ → Option ℕ → Type 0
IsNext empty after None = (n : ℕ) → after < n → empty n
IsNext empty after (Some first) = (after < first) × (empty first → ⊥) × ((n : ℕ) → after < n → n < first → empty n)

next_of : {X : Type 0} (number : X → ℕ) (after : ℕ) (rows : List X) (found : Option ℕ) → least_by (λ row. nat_lt after (number row)) number None rows ≡ found
    → IsNext (λ n. with_number number n rows ≡ []) after found
next_of number after rows None e = λ n less. none_below (λ row. nat_lt after (number row)) number n None rows (λ row same. lt-ltb after (number row) (omega (arith, same, less))) (subst (λ (o : Option ℕ). IsAbove n o) (sym e) tt)
next_of {X} number after rows (Some first) e = elim (least_there (λ row. nat_lt after (number row)) number None rows first e) [
  | inl none ↦ absurd (cc)
  | inr there ↦ (
    (let less = ltb-true after (number there.row) there.passes in let own = there.own in omega (arith, less, own)),
    there.some,
    λ n less low. none_below (λ (row : X). nat_lt after (number row)) number n None rows (λ row same. lt-ltb after (number row) (omega (arith, same, less))) (subst (λ (o : Option ℕ). IsAbove n o) (sym e) low),
  )
]

-- the first window of which a raise is kept, and that of an answer
abbrev pub IsNextRaise : Kept → Option ℕ → Type 0
IsNextRaise kept found = IsNext (λ n. raises_in n kept.raises ≡ []) kept.cuts found

abbrev pub IsNextAnswer : Kept → Option ℕ → Type 0
IsNextAnswer kept found = IsNext (λ n. in_window n kept.answers ≡ []) kept.cuts found

next_as : (one other : ℕ → Type 0) (after : ℕ) (found : Option ℕ) → ((n : ℕ) → one n → other n) → ((n : ℕ) → other n → one n) → IsNext one after found → IsNext other after found
next_as one other after None f g next = λ n less. f n (next n less)
next_as one other after (Some first) f g next = (next.0, λ h. next.1 (g first h), λ n less low. f n (next.2 n less low))

pub next_raise : (kept : Kept) (found : Option ℕ) → found ≡ least_by (λ row. is_later kept.cuts row.window) (λ row. row.window) None kept.raises → IsNextRaise kept found
next_raise kept found e =
    next_as (λ n. with_number raise_of n kept.raises ≡ []) (λ n. raises_in n kept.raises ≡ []) kept.cuts found
    (λ n h. sym (raises_as n kept.raises) ∙ h) (λ n h. raises_as n kept.raises ∙ h) (next_of raise_of kept.cuts kept.raises found (sym e))

pub next_answer : (kept : Kept) (found : Option ℕ) → found ≡ least_by (λ row. is_later kept.cuts row.window) (λ row. row.window) None kept.answers → IsNextAnswer kept found
next_answer kept found e =
    next_as (λ n. with_number answer_of n kept.answers ≡ []) (λ n. in_window n kept.answers ≡ []) kept.cuts found
    (λ n h. sym (answers_as n kept.answers) ∙ h) (λ n h. answers_as n kept.answers ∙ h) (next_of answer_of kept.cuts kept.answers found (sym e))

pub no_answer_later : (kept : Kept) (raise : Option ℕ) → IsNextRaise kept raise → IsNextAnswer kept None → IsLaterWindow kept raise
no_answer_later kept None raises answers = λ n less. (raises n less, answers n less)
no_answer_later kept (Some first) raises answers = (raises.0, λ empty. raises.1 empty.0, λ n less low. (raises.2 n less low, answers n less))

pub answer_later : (kept : Kept) (raise : Option ℕ) (answer : ℕ) → IsNextRaise kept raise → IsNextAnswer kept (Some answer) → IsLaterWindow kept (Some (lesser raise answer))
answer_later kept None answer raises answers = (answers.0, λ empty. answers.1 empty.1, λ n less low. (raises n less, answers.2 n less low))
answer_later kept (Some first) answer raises answers = step (nat_lt answer first) refl
  where
    step : (b : Bool) → nat_lt answer first ≡ b → IsLaterWindow kept (Some (if b then answer else first))
    step true e = (answers.0, λ empty. answers.1 empty.1, λ n less low. (raises.2 n less (let f = ltb-true answer first e in omega (arith, f, low)), answers.2 n less low))
    step false e = (
      raises.0,
      λ empty. raises.1 empty.0,
      λ n less low. (
        raises.2 n less low,
        answers.2 n less (elim (cases_lt answer first) [
          | inl before ↦ absurd (let f = lt-ltb answer first before in cc)
          | inr past ↦ omega (arith, past, low)
        ]),
      ),
    )

-- ---- rounds

uncounted_true : (kept : Kept) (number : ℕ) → IsUncounted kept number → is_uncounted kept.cuts number ≡ true
uncounted_true kept number (inl none) = or_left (number == 0) (nat_lt kept.cuts number) (eq-eqb number 0 none)
uncounted_true kept number (inr past) = or_right (number == 0) (nat_lt kept.cuts number) (lt-ltb kept.cuts number past)

uncounted_means : (kept : Kept) (number : ℕ) → is_uncounted kept.cuts number ≡ true → IsUncounted kept number
uncounted_means kept number e = elim (or_cases (number == 0) (nat_lt kept.cuts number) e) [
  | inl none ↦ inl (eqb-true number 0 none)
  | inr past ↦ inr (ltb-true kept.cuts number past)
]

-- the rows of a round
abbrev in_round : ℕ → List AllotRow → List AllotRow
in_round number rows = with_number (λ (row : AllotRow). row.round) number rows

round_empty : (number : ℕ) (rows : List AllotRow) → in_round number rows ≡ [] → IsEmptyRound rows number
round_empty number [] none id = refl
round_empty number (row ∷ rows) none id = step (row.round == number) refl (λ rest. round_empty number rows rest id) none
  where
    step : (b : Bool) → (row.round == number) ≡ b → (in_round number rows ≡ [] → first_allot number id rows ≡ None) → (if b then row ∷ in_round number rows else in_round number rows) ≡ [] → first_allot number id (row ∷ rows) ≡ None
    step true e rest none = absurd (cc)
    step false e rest none = row_skips number id row rows (λ same mine. let f = eq-eqb row.round number same in cc) ∙ rest none

round_filled : (number : ℕ) (rows : List AllotRow) → (in_round number rows ≡ [] → ⊥) → IsEmptyRound rows number → ⊥
round_filled number [] some none = some refl
round_filled number (row ∷ rows) some none = step (row.round == number) refl (round_filled number rows) some
  where
    step : (b : Bool) → (row.round == number) ≡ b → ((in_round number rows ≡ [] → ⊥) → IsEmptyRound rows number → ⊥) → ((if b then row ∷ in_round number rows else in_round number rows) ≡ [] → ⊥) → ⊥
    step true e rest some = let hit = row_hits number row.cand.0 row rows (eqb-true row.round number e) refl in let miss = none row.cand.0 in cc
    step false e rest some = rest some (λ id. sym (row_skips number id row rows (λ same mine. let f = eq-eqb row.round number same in cc)) ∙ none id)

pub later_round : (kept : Kept) (found : Option ℕ) → found ≡ least_by (λ row. is_uncounted kept.cuts row.round) (λ row. row.round) None kept.allots → IsLaterRound kept found
later_round kept None e = λ number uncounted.
    round_empty number kept.allots (none_below (λ (row : AllotRow). is_uncounted kept.cuts row.round) (λ (row : AllotRow). row.round) number None kept.allots
    (λ row same. uncounted_true kept row.round (subst (λ n. IsUncounted kept n) (sym same) uncounted)) (subst (λ (o : Option ℕ). IsAbove number o) e tt))
later_round kept (Some first) e = elim (least_there (λ (row : AllotRow). is_uncounted kept.cuts row.round) (λ (row : AllotRow). row.round) None kept.allots first (sym e)) [
  | inl none ↦ absurd (cc)
  | inr there ↦ (
    subst (λ n. IsUncounted kept n) there.own (uncounted_means kept there.row.round there.passes),
    round_filled first kept.allots there.some,
    λ number low uncounted.
        round_empty number kept.allots (none_below (λ (row : AllotRow). is_uncounted kept.cuts row.round) (λ (row : AllotRow). row.round) number None kept.allots
        (λ row same. uncounted_true kept row.round (subst (λ n. IsUncounted kept n) (sym same) uncounted)) (subst (λ (o : Option ℕ). IsAbove number o) e low)),
  )
]
