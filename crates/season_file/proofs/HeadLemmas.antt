-- How many rounds the season's rows give.
use Rattle.std.proofs.Common.{◌≡◌, ◌≤◌, ◌+◌, ℕ, Bool, true, false, cond, List, [], ◌∷◌, Option, Some, None, Ok, refl, subst}
use Rattle.std.specs.Prelude.{is_some, nat_le, length, bytes_eq, codes}
use Rattle.std.specs.Option.{option_map}
use Rattle.office_text.specs.Number.{number_within}
use Rattle.section_rows.specs.Rows.{Row, field}
use Rattle.section_rows.specs.Steps.{needs}
use Rattle.section_rows.proofs.StepsLemmas.{needs_ok, within_range}
use Rattle.rank_lists.specs.Register.{token_of}
use Rattle.season_file.specs.Head.{head_after, head_of, with_clerk, with_row, with_rounds}
use Rattle.season_file.specs.declared.head.Head.{Head}
use Rattle.season_file.specs.declared.head.Keys.{Keys}

-- the number of rounds, where there is one, is from 1 to 10
abbrev AreRounds : Option ℕ → Type 0
AreRounds None = Unit {0}
AreRounds (Some n) = (1 ≤ n) × (n ≤ 10)

-- a number of rounds that was spelled is from 1 to 10
spelled : (keys next : Keys) (value : Option ℕ) (b : Bool) → cond b None (option_map (λ n. record { rounds = Some n; clerk = keys.clerk }) value) ≡ Some next
    → ((n : ℕ) → value ≡ Some n → (1 ≤ n) × (n ≤ 10)) → AreRounds next.rounds
spelled keys next value true e within = absurd cc
spelled keys next None false e within = absurd cc
spelled keys next (Some n) false e within = let same : Some n ≡ next.rounds = cc e in subst AreRounds same (within n refl)

-- a token leaves the number of rounds as it is
kept : (keys next : Keys) (number : ℕ) (value : Option (List ℕ)) (b : Bool) → cond b None (option_map (λ token. record { rounds = keys.rounds; clerk = Some (token, number) }) value) ≡ Some next
    → AreRounds keys.rounds → AreRounds next.rounds
kept keys next number value true e rounds = absurd cc
kept keys next number None false e rounds = absurd cc
kept keys next number (Some token) false e rounds = let same : keys.rounds ≡ next.rounds = cc e in subst AreRounds same rounds

-- a row leaves the number of rounds within its range
row_rounds : (keys next : Keys) (number : ℕ) (row : Row) → with_row keys number row ≡ Some next → AreRounds keys.rounds → AreRounds next.rounds
row_rounds keys next number row e rounds = by (nat_le 3 (length row)) (bytes_eq (field row 0) (codes "rounds")) (bytes_eq (field row 0) (codes "clerk")) e
  where
    by : (long is_rounds is_clerk : Bool)
        → cond long None (cond is_rounds (with_rounds keys (number_within 1 10 (field row 1))) (cond is_clerk (with_clerk keys number (token_of (field row 1))) None)) ≡ Some next
        → AreRounds next.rounds
    by true is_rounds is_clerk h = absurd cc
    by false true is_clerk h = spelled keys next (number_within 1 10 (field row 1)) (is_some keys.rounds) h (λ n f. within_range 1 10 n (field row 1) f)
    by false false true h = kept keys next number (token_of (field row 1)) (is_some keys.clerk) h rounds
    by false false false h = absurd cc

-- The number of rounds of a season is from 1 to 10.
rounds_after : (keys : Keys) (number : ℕ) (rows : List Row) (head : Head) → AreRounds keys.rounds → head_after keys number rows ≡ Ok head → AreRounds (Some head.rounds)
rounds_after keys number [] head rounds e =
    let (n, e1, r1) = needs_ok keys.rounds number (λ n. needs keys.clerk number (λ clerk. Ok (record { rounds = n; clerk = clerk.0; row = clerk.1 }))) head e in
    let (clerk, e2, r2) = needs_ok keys.clerk number (λ clerk. Ok (record { rounds = n; clerk = clerk.0; row = clerk.1 })) head r1 in
    let same : keys.rounds ≡ Some head.rounds = cc in
    subst AreRounds same rounds
rounds_after keys number (row ∷ rows) head rounds e =
    let (next, e1, r1) = needs_ok (with_row keys number row) number (λ next. head_after next (number + 1) rows) head e in
    rounds_after next (number + 1) rows head (row_rounds keys next number row e1 rounds) r1

pub rounds_within : (rows : List Row) (head : Head) → head_of rows ≡ Ok head → (1 ≤ head.rounds) × (head.rounds ≤ 10)
rounds_within rows head e = rounds_after (record { rounds = None; clerk = None }) 1 rows head tt e
