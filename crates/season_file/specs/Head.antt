-- What the rows of the season's section give.
use Rattle.std.specs.Prelude.{◌+◌, ℕ, nat_le, List, [], ◌∷◌, Option, Some, None, Result, Ok, is_some, length, bytes_eq, codes, if◌then◌else◌}
use Rattle.std.specs.Option.{option_map}
use Rattle.office_text.specs.Number.{number_within}
use Rattle.section_rows.specs.Rows.{Row, field}
use Rattle.section_rows.specs.Steps.{needs}
use Rattle.rank_lists.specs.Register.{token_of}
use Rattle.season_file.specs.declared.head.Head.{Head}
use Rattle.season_file.specs.declared.head.Keys.{Keys}

-- the keys with the number of rounds, where it is spelled and no row gave it before
abbrev pub with_rounds : Keys → Option ℕ → Option Keys
with_rounds keys value = if is_some keys.rounds then None else option_map (λ n. record { rounds = Some n; clerk = keys.clerk }) value

-- the keys with the clerk's token and its row, where it is spelled and no row gave it before
abbrev pub with_clerk : Keys → ℕ → Option (List ℕ) → Option Keys
with_clerk keys number value = if is_some keys.clerk then None else option_map (λ token. record { rounds = keys.rounds; clerk = Some (token, number) }) value

-- the keys with what the row of this number gives: `rounds` and a number from 1 to 10, or `clerk` and a token
abbrev pub with_row : Keys → ℕ → Row → Option Keys
with_row keys number row =
    if nat_le 3 (length row) then None
    else if bytes_eq (field row 0) (codes "rounds") then with_rounds keys (number_within 1 10 (field row 1))
    else if bytes_eq (field row 0) (codes "clerk") then with_clerk keys number (token_of (field row 1))
    else None

-- what the keys and the further rows give, of which the first has this number; or the number of the first wrong row, which is
-- that of the end where a key is missing
abbrev pub head_after : Keys → ℕ → List Row → Result Head ℕ
head_after keys number [] = needs keys.rounds number (λ rounds. needs keys.clerk number (λ clerk. Ok (record { rounds = rounds; clerk = clerk.0; row = clerk.1 })))
head_after keys number (row ∷ rows) = needs (with_row keys number row) number (λ next. head_after next (number + 1) rows)

-- what the rows give, in any order and each key once
abbrev pub head_of : List Row → Result Head ℕ
head_of rows = head_after (record { rounds = None; clerk = None }) 1 rows

-- how many keys there are
abbrev pub one_if : {X : Type 0} → Option X → ℕ
one_if None = 0
one_if (Some x) = 1

abbrev pub key_count : Keys → ℕ
key_count keys = one_if keys.rounds + one_if keys.clerk
