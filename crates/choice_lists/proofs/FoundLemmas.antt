-- The list of a candidate among lists that go along with ids that rise.
use Rattle.std.proofs.Common.{◌≡◌, ◌⊎◌, ◌<◌, ◌≤◌, ℕ, zero, suc, Bool, true, false, cond, List, [], ◌∷◌, map, Option, Some, None, Result, Ok, Err, length, get_or, refl, sym, ap, inl, inr, ◌∙◌, arith}
use Rattle.std.specs.Prelude.{◌==◌, IsSome, MatchResult, is_some, option_map, slice_get}
use Rattle.std.specs.List.{AllByRecursion}
use Rattle.std.specs.List.Sorted.{IsBinarySearchResult}
use Rattle.std.specs.Ordering.{nat_cmp}
use Rattle.std.proofs.lemmas.Bool.{cases_order, cond-false, cond-true, eq-eqb, eqb-true, ne_eqb}
use Rattle.std.proofs.lemmas.List.Sorted.{searched}
use Rattle.office_base.specs.Lists.{Pairwise}
use Rattle.office_base.specs.declared.person.Person.{Person}
use Rattle.office_base.specs.declared.person.ProgId.{ProgId}
use Rattle.section_rows.specs.Steps.{first_of}
use Rattle.rank_lists.specs.Register.{Ranks, find_person}
use Rattle.choice_lists.specs.Choices.{Entry, list_at, list_of, listed, lists_along, lists_for}

-- numbers rise
abbrev Rising : List ℕ → Type 0
Rising ids = Pairwise (λ a b. a < b) ids

-- the list that is found for a candidate
abbrev found : ℕ → List ℕ → List (List ProgId) → Option (List ProgId)
found q ids lists = first_of (λ held. q == held.0) (λ held. held.1) (lists_along ids lists)

all_at : (P : ℕ → Type 0) (ids : List ℕ) (i : ℕ) → AllByRecursion P ids → i < length ids → P (get_or ids i 0)
all_at P [] i all within = absurd (omega arith)
all_at P (id ∷ ids) zero all within = all.0
all_at P (id ∷ ids) (suc i) all within = all_at P ids i all.1 (omega arith)

rising_at : (ids : List ℕ) (i j : ℕ) → Rising ids → i < j → j < length ids → get_or ids i 0 < get_or ids j 0
rising_at [] i j rising less within = absurd (omega arith)
rising_at (id ∷ ids) i zero rising less within = absurd (omega arith)
rising_at (id ∷ ids) zero (suc j) rising less within = all_at (λ b. id < b) ids j rising.0 (omega arith)
rising_at (id ∷ ids) (suc i) (suc j) rising less within = rising_at ids i j rising.1 (omega arith) (omega arith)

pub never_falls : (ids : List ℕ) → Rising ids → (i j : ℕ) → i ≤ j → j < length ids → get_or ids i 0 ≤ get_or ids j 0
never_falls ids rising i j le within = elim (cases_order i j) [
  | inl same ↦ omega (arith, ap (λ (k : ℕ). get_or ids k 0) same)
  | inr other ↦ elim other [
    | inl less ↦ omega (arith, rising_at ids i j rising less within)
    | inr more ↦ absurd (omega arith)
  ]
]

found_here : (ids : List ℕ) (lists : List (List ProgId)) (q i : ℕ) → Rising ids → length ids ≡ length lists → i < length ids → get_or ids i 0 ≡ q → found q ids lists ≡ slice_get lists i
found_here [] lists q i rising count within e = absurd (omega arith)
found_here (id ∷ ids) [] q i rising count within e = absurd (omega (arith, count))
found_here (id ∷ ids) (list ∷ lists) q zero rising count within e = cond-true (q == id) _ _ (eq-eqb q id (sym e))
found_here (id ∷ ids) (list ∷ lists) q (suc i) rising count within e =
    let less : id < get_or ids i 0 = all_at (λ b. id < b) ids i rising.0 (omega arith) in
    cond-false (q == id) _ _ (ne_eqb q id (λ same. absurd (omega (arith, e, same)))) ∙ found_here ids lists q i rising.1 (omega (arith, count)) (omega arith) e

found_nowhere : (ids : List ℕ) (lists : List (List ProgId)) (q : ℕ) → ((i : ℕ) → i < length ids → get_or ids i 0 ≡ q → ⊥) → found q ids lists ≡ None
found_nowhere [] lists q none = refl
found_nowhere (id ∷ ids) [] q none = refl
found_nowhere (id ∷ ids) (list ∷ lists) q none =
    cond-false (q == id) _ _ (ne_eqb q id (λ same. none 0 (omega arith) (sym same))) ∙ found_nowhere ids lists q (λ i within e. none (suc i) (omega arith) e)

-- A binary search of the ids finds the place of the candidate's list, or the candidate has none.
pub search_found : (ids : List ℕ) (lists : List (List ProgId)) (q : ℕ) (r : Result ℕ ℕ) → Rising ids → length ids ≡ length lists → IsBinarySearchResult (λ y. nat_cmp y q) ids r
    → MatchResult r (λ at. (at < length lists) × (listed (slice_get lists at) ≡ list_of (lists_along ids lists) q)) (λ at. [] ≡ list_of (lists_along ids lists) q)
search_found ids lists q (Ok at) rising count result =
    let (within, same) = searched ids q (Ok at) result (never_falls ids rising) in
    (omega (arith, within, count), ap listed (sym (found_here ids lists q at rising count within same)))
search_found ids lists q (Err at) rising count result =
    let (end, below, above) = searched ids q (Err at) result (never_falls ids rising) in
    ap listed (sym (found_nowhere ids lists q (λ i within e. elim (cases_order i at) [
      | inl same ↦ (let more = above i (omega (arith, same)) within in omega arith)
      | inr other ↦ elim other [
        | inl less ↦ (let h = below i less in omega arith)
        | inr more ↦ (let h = above i (omega arith) within in omega arith)
      ]
    ])))

-- If the id of a candidate is at a place, the candidate's list is at that place.
pub found_there : (ids : List ℕ) (lists : List (List ProgId)) (q at : ℕ) → Rising ids → length ids ≡ length lists → at < length ids → get_or ids at 0 ≡ q
    → (at < length lists) × (listed (slice_get lists at) ≡ list_of (lists_along ids lists) q)
found_there ids lists q at rising count within same = (omega (arith, within, count), ap listed (sym (found_here ids lists q at rising count within same)))

-- There are as many candidates as lists, and the lists are at the same places.
pub length_along : (ids : List ℕ) (lists : List (List ProgId)) → length ids ≡ length lists → length (lists_along ids lists) ≡ length lists
length_along [] [] count = refl
length_along [] (list ∷ lists) count = absurd (omega (arith, count))
length_along (id ∷ ids) [] count = absurd (omega (arith, count))
length_along (id ∷ ids) (list ∷ lists) count = ap suc (length_along ids lists (omega (arith, count)))

pub list_there : (ids : List ℕ) (lists : List (List ProgId)) (at : ℕ) → length ids ≡ length lists → option_map (λ (held : ℕ × List ProgId). held.1) (slice_get (lists_along ids lists) at) ≡ slice_get lists at
list_there [] [] at count = refl
list_there [] (list ∷ lists) at count = absurd (omega (arith, count))
list_there (id ∷ ids) [] at count = absurd (omega (arith, count))
list_there (id ∷ ids) (list ∷ lists) zero count = refl
list_there (id ∷ ids) (list ∷ lists) (suc at) count = list_there ids lists at (omega (arith, count))

-- ---- the lists that entries give people

-- a candidate's list among those of the people
list_of-known : (entries : List Entry) (people : List Person) (q : ℕ)
    → list_of (map (λ person. (person.id.0, listed (list_at person.id.0 entries))) people) q ≡ cond (is_some (find_person q people)) (listed (list_at q entries)) []
list_of-known entries [] q = refl
list_of-known entries (p ∷ people) q = by (q == p.id.0) refl (list_of-known entries people q)
  where
    by : (b : Bool) → (q == p.id.0) ≡ b
        → list_of (map (λ person. (person.id.0, listed (list_at person.id.0 entries))) people) q ≡ cond (is_some (find_person q people)) (listed (list_at q entries)) []
        → listed (cond b (Some (listed (list_at p.id.0 entries))) (first_of (λ (held : ℕ × List ProgId). q == held.0) (λ (held : ℕ × List ProgId). held.1) (map (λ (person : Person). (person.id.0, listed (list_at person.id.0 entries))) people)))
        ≡ cond (is_some (cond b (Some p) (find_person q people))) (listed (list_at q entries)) []
    by true e more = ap (λ (k : ℕ). listed (list_at k entries)) (sym (eqb-true q p.id.0 e))
    by false e more = more

unknown : (o : Option (List ProgId)) (b : Bool) → (IsSome o → b ≡ true) → cond b (listed o) [] ≡ listed o
unknown None true h = refl
unknown None false h = refl
unknown (Some l) true h = refl
unknown (Some l) false h = cc (h refl)

-- The lists that entries give people are those of the entries, if they are lists of people.
pub lists-found : (ranks : Ranks) (entries : List Entry) → ((q : ℕ) → IsSome (list_at q entries) → IsSome (find_person q ranks.people)) → (q : ℕ) → list_of (lists_for ranks entries) q ≡ listed (list_at q entries)
lists-found ranks entries known q = list_of-known entries ranks.people q ∙ unknown (list_at q entries) (is_some (find_person q ranks.people)) (known q)

-- or they are none
pub listed-or-none : (ranks : Ranks) (entries : List Entry) (q : ℕ) → (list_of (lists_for ranks entries) q ≡ listed (list_at q entries)) ⊎ (list_of (lists_for ranks entries) q ≡ [])
listed-or-none ranks entries q = by (is_some (find_person q ranks.people)) (list_of-known entries ranks.people q)
  where
    by : (b : Bool) → list_of (lists_for ranks entries) q ≡ cond b (listed (list_at q entries)) [] → (list_of (lists_for ranks entries) q ≡ listed (list_at q entries)) ⊎ (list_of (lists_for ranks entries) q ≡ [])
    by true e = inl e
    by false e = inr e
