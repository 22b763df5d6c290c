-- The codes of entries are distinct.
use Rattle.std.proofs.Common.{◌≡◌, ◌<◌, ℕ, zero, suc, Bool, true, false, cond, List, [], ◌∷◌, ◌++◌, Some, get_or, length, lt-ltb, refl, sym, ap, ◌∙◌, arith}
use Rattle.std.specs.Prelude.{bytes_eq, nat_lt, option_map, position, slice_get}
use Rattle.std.proofs.lemmas.Bool.{or_parts}
use Rattle.std.specs.List.{AllByRecursion, list_any, position_or_len}
use Rattle.std.proofs.lemmas.List.Sums.{position_or_len_is}
use Rattle.std.proofs.lemmas.Option.{get_or_from_slice_get, slice_get-map, slice_get_within}
use Rattle.std.proofs.lemmas.Slice.Eq.{bytes_eq-Decides}
use Rattle.office_base.proofs.Lists.{all-get}
use Rattle.office_base.specs.Lists.{Pairwise}
use Rattle.seat_matrix.specs.Matrix.{codes_after, codes_in, with_code}
use Rattle.seat_matrix.specs.declared.entry.Entry.{Entry}
use Rattle.seat_matrix.specs.declared.entry.Home.{Home}

-- no code is listed twice among these
abbrev pub Distinct : List (List ℕ) → Type 0
Distinct codes = Pairwise (λ a b. a ≡ b → ⊥) codes

-- a code that is not among others is another one
all_other : (first code : List ℕ) (codes : List (List ℕ)) → (first ≡ code → ⊥) → AllByRecursion (λ other. first ≡ other → ⊥) codes → AllByRecursion (λ other. first ≡ other → ⊥) (codes ++ code ∷ [])
all_other first code [] other all = (other, tt)
all_other first code (next ∷ codes) other all = (all.0, all_other first code codes other all.1)

distinct-push : (codes : List (List ℕ)) (code : List ℕ) → list_any (bytes_eq code) codes ≡ false → Distinct codes → Distinct (codes ++ code ∷ [])
distinct-push [] code e distinct = (tt, tt)
distinct-push (first ∷ codes) code e distinct =
    let parts = or_parts (bytes_eq code first) (list_any (bytes_eq code) codes) e in
    (all_other first code codes (λ same. cc (parts.0, (bytes_eq-Decides code first).1 (sym same))) distinct.0, distinct-push codes code parts.1 distinct.1)

distinct-with : (codes : List (List ℕ)) (code : List ℕ) → Distinct codes → Distinct (with_code codes code)
distinct-with codes code distinct = by (list_any (bytes_eq code) codes) refl
  where
    by : (b : Bool) → list_any (bytes_eq code) codes ≡ b → Distinct (cond b codes (codes ++ code ∷ []))
    by true e = distinct
    by false e = distinct-push codes code e distinct

-- The codes of entries are distinct.
pub codes-distinct : (codes : List (List ℕ)) (entries : List Entry) → Distinct codes → Distinct (codes_after codes entries)
codes-distinct codes [] distinct = distinct
codes-distinct codes (entry ∷ entries) distinct = codes-distinct (with_code codes entry.programme) entries (distinct-with codes entry.programme distinct)

-- a code that differs from all of some programmes is none of theirs
pub code_apart : (code : List ℕ) (programmes : List (List ℕ × Home)) (prog : ℕ) (held : List ℕ × Home) → AllByRecursion (λ other. code ≡ other → ⊥) (codes_in programmes) → slice_get programmes prog ≡ Some held
    → code ≡ held.0 → ⊥
code_apart code [] prog held apart e same = cc e
code_apart code (first ∷ programmes) zero held apart e same = let here : first ≡ held = cc e in apart.0 (same ∙ ap (λ (h : List ℕ × Home). h.0) (sym here))
code_apart code (first ∷ programmes) (suc prog) held apart e same = code_apart code programmes prog held apart.1 e same

-- an earlier code is another one
earlier : (codes : List (List ℕ)) (n k : ℕ) (code : List ℕ) → Distinct codes → slice_get codes n ≡ Some code → k < n → bytes_eq code (get_or codes k []) ≡ false
earlier [] n k code distinct e less = cc e
earlier (first ∷ codes) zero k code distinct e less = absurd (omega (arith, less))
earlier (first ∷ codes) (suc n) zero code distinct e less = by (bytes_eq code first) refl
  where
    by : (b : Bool) → bytes_eq code first ≡ b → b ≡ false
    by true same = absurd (all-get (λ other. first ≡ other → ⊥) codes n code distinct.0 e (sym ((bytes_eq-Decides code first).0 same)))
    by false same = refl
earlier (first ∷ codes) (suc n) (suc k) code distinct e less = earlier codes n k code distinct.1 e (omega (arith, less))

-- The number of a programme is the place where its code comes first.
pub number_of : (codes : List (List ℕ)) (n : ℕ) (code : List ℕ) → Distinct codes → slice_get codes n ≡ Some code → position (bytes_eq code) codes ≡ Some n
number_of codes n code distinct e =
    let within : n < length codes = slice_get_within codes n code e in
    let here : get_or codes n [] ≡ code = get_or_from_slice_get codes n code [] e in
    let first : position_or_len (bytes_eq code) codes ≡ n =
    position_or_len_is (bytes_eq code) codes n [] (omega (arith, within)) (λ k less. earlier codes n k code distinct e less) (λ _. (bytes_eq-Decides code (get_or codes n [])).1 (sym here)) in
    let less : nat_lt n (length codes) ≡ true = lt-ltb n (length codes) within in
    rw (first, less) refl

-- the code of a programme is among the codes
pub code_there : (programmes : List (List ℕ × Home)) (prog : ℕ) (code : List ℕ) → option_map (λ (held : List ℕ × Home). held.0) (slice_get programmes prog) ≡ Some code → slice_get (codes_in programmes) prog ≡ Some code
code_there programmes prog code e = slice_get-map (λ (held : List ℕ × Home). held.0) programmes prog ∙ e
