-- The register that is made of a builder, and what is found in it.
use Rattle.std.proofs.Common.{◌≡◌, ◌<◌, ◌≤◌, ℕ, zero, suc, Bool, true, false, cond, List, [], ◌∷◌, Option, Some, None, Result, Ok, Err, length, get_or, refl, sym, ap, inl, inr, ◌∙◌, add-one, arith}
use Rattle.std.specs.Prelude.{◌==◌, ◌+◌, IsSome, MatchResult, map, option_map, slice_get}
use Rattle.std.specs.Option.{option_and_then}
use Rattle.std.specs.Bool.{one_answer}
use Rattle.std.specs.FinMap.{is_sorted}
use Rattle.std.specs.FinMap.Entries.{below_all}
use Rattle.std.specs.BTreeMap as tree
use Rattle.std.specs.Cmp.Lexicographic.{slice_cmp}
use Rattle.std.specs.List.{AllByRecursion}
use Rattle.std.specs.List.Sorted.{IsBinarySearchResult, IsNonDecreasingBy, IsSearchInRange, IsStrictlySortedBy}
use Rattle.std.specs.Map.{keys_of, lookup, values_of}
use Rattle.std.specs.Ordering.{is_eq, is_lt, nat_cmp, ordering_index}
use Rattle.std.specs.declared.cmp.Ordering.TheVariants.{Less}
use Rattle.std.proofs.lemmas.Bool.{and_from, cases_order, cond-true, cond-false, eq-eqb, ne_eqb}
use Rattle.std.proofs.lemmas.Bool.Decides.{nat_tests}
use Rattle.std.proofs.lemmas.Cmp.{ranked}
use Rattle.std.proofs.lemmas.List.{get_or-map, length-map}
use Rattle.std.proofs.lemmas.Map.Text.{is_eq-slice_cmp}
use Rattle.office_base.specs.Lists.{Pairwise}
use Rattle.office_base.specs.declared.person.CandId.{CandId}
use Rattle.office_base.specs.declared.person.Person.{Person}
use Rattle.rank_lists.specs.Builder.{Keeps}
use Rattle.rank_lists.specs.Register.{IsKeptRegister, IsRegister, find_holder, find_person, row_of}
use Rattle.rank_lists.specs.declared.entry.Entry.{Entry}
use Rattle.rank_lists.specs.declared.builder.RegisterBuilder.{RegisterBuilder}
use Rattle.rank_lists.proofs.LawsLemmas.{ranks_sound}
use Rattle.section_rows.proofs.StepsLemmas.{nat_at, number_decides}

-- people rise by id
abbrev Rising : List Person → Type 0
Rising people = Pairwise (λ a b. a.id.0 < b.id.0) people

-- each person is kept under the person's own id
abbrev Keyed : List (ℕ × Person) → Type 0
Keyed es = AllByRecursion (λ held. held.0 ≡ held.1.id.0) es

-- a person is found among the values as under the keys
find-value : (q : ℕ) (es : List (ℕ × Person)) → Keyed es → find_person q (values_of es) ≡ lookup (λ k. is_eq (nat_cmp q k)) es
find-value q [] keyed = refl
find-value q (e ∷ es) keyed =
    let test : (q == e.1.id.0) ≡ is_eq (nat_cmp q e.0) = ap (λ (k : ℕ). q == k) (sym keyed.0) ∙ one_answer _ _ (number_decides q e.0) (nat_at q e.0) in
    ap (λ (b : Bool). cond b (Some e.1) (find_person q (values_of es))) test
    ∙ ap (λ (o : Option Person). cond (is_eq (nat_cmp q e.0)) (Some e.1) o) (find-value q es keyed.1)

-- a holder is found by bytes as by the order of tokens
pub find-holder : (token : List ℕ) (es : List (List ℕ × CandId)) → find_holder token es ≡ lookup (λ k. is_eq (slice_cmp nat_cmp token k)) es
find-holder token [] = refl
find-holder token (e ∷ es) =
    ap (λ (b : Bool). cond b (Some e.1) (find_holder token es)) (sym (is_eq-slice_cmp token e.0))
    ∙ ap (λ (o : Option CandId). cond (is_eq (slice_cmp nat_cmp token e.0)) (Some e.1) o) (find-holder token es)

less_from : (a b : ℕ) → nat_cmp a b ≡ Less → a < b
less_from a b e = ranked a b Less (sym e)

all_above : (k : ℕ) (es : List (ℕ × Person)) → Keyed es → AllByRecursion (λ y. nat_cmp k y ≡ Less) (keys_of es) → AllByRecursion (λ (p : Person). k < p.id.0) (values_of es)
all_above k [] keyed all = tt
all_above k (e ∷ es) keyed all = (omega (arith, less_from k e.0 all.0, keyed.0), all_above k es keyed.1 all.1)

pub above_same : (k m : ℕ) (people : List Person) → k ≡ m → AllByRecursion (λ (p : Person). k < p.id.0) people → AllByRecursion (λ (p : Person). m < p.id.0) people
above_same k m [] e all = tt
above_same k m (p ∷ people) e all = (omega (arith, e, all.0), above_same k m people e all.1)

-- keys that rise are ids that rise
rising_values : (es : List (ℕ × Person)) → Keyed es → IsStrictlySortedBy nat_cmp (keys_of es) → Rising (values_of es)
unfolding IsStrictlySortedBy
rising_values [] keyed sorted = tt
rising_values (e ∷ es) keyed sorted = (above_same e.0 e.1.id.0 (values_of es) keyed.0 (all_above e.0 es keyed.1 sorted.0), rising_values es keyed.1 sorted.1)

-- tokens that rise are sorted
below_from : (token : List ℕ) (es : List (List ℕ × CandId)) → AllByRecursion (λ other. slice_cmp nat_cmp token other ≡ Less) (keys_of es) → below_all (slice_cmp nat_cmp) token es ≡ true
below_from token [] all = refl
below_from token (e ∷ es) all = and_from _ _ (ap is_lt all.0) (below_from token es all.1)

sorted_is : (es : List (List ℕ × CandId)) → IsStrictlySortedBy (slice_cmp nat_cmp) (keys_of es) → is_sorted (slice_cmp nat_cmp) es ≡ true
unfolding IsStrictlySortedBy
sorted_is [] rise = refl
sorted_is (e ∷ es) rise = and_from _ _ (below_from e.0 es rise.0) (sorted_is es rise.1)

-- The values of a builder are the register of its entries.
pub made : (entries : List Entry) (builder : RegisterBuilder) (people : List Person) (holders : List (List ℕ × CandId)) → Keeps entries builder → people ≡ tree.values builder.people → tree.IsOrdered nat_cmp builder.people
    → holders ≡ builder.holders.entries → tree.IsOrdered (slice_cmp nat_cmp) builder.holders → IsRegister entries (record { people = people; holders = holders })
made entries builder people holders keeps e ordered same tokens = record {
  rising = rw e (rising_values builder.people.entries keeps.keyed ordered);
  people = λ id. ap (find_person id) e ∙ find-value id builder.people.entries keeps.keyed ∙ keeps.people id;
  sorted = rw same (sorted_is builder.holders.entries tokens);
  holders = λ token. ap (find_holder token) same ∙ find-holder token builder.holders.entries ∙ keeps.holders token;
}

-- The register of sound entries, with the ids of its people, is one.
pub made_sound : (entries : List Entry) (builder : RegisterBuilder) (people : List Person) (ids : List ℕ) (holders : List (List ℕ × CandId)) → Keeps entries builder → people ≡ tree.values builder.people → tree.IsOrdered nat_cmp builder.people
    → holders ≡ builder.holders.entries → tree.IsOrdered (slice_cmp nat_cmp) builder.holders → ids ≡ map (λ p. p.id.0) people → IsKeptRegister ids (record { people = people; holders = holders })
made_sound entries builder people ids holders keeps e ordered same tokens counted = record {
  sound = ranks_sound entries _ keeps.sound (made entries builder people holders keeps e ordered same tokens);
  same = counted;
  rising = rw same tokens;
}

all_at : (P : Person → Type 0) (people : List Person) (i : ℕ) (d : Person) → AllByRecursion P people → i < length people → P (get_or people i d)
all_at P [] i d all within = absurd (omega arith)
all_at P (p ∷ people) zero d all within = all.0
all_at P (p ∷ people) (suc i) d all within = all_at P people i d all.1 (omega arith)

rising_at : (people : List Person) (i j : ℕ) (d : Person) → Rising people → i < j → j < length people → (get_or people i d).id.0 < (get_or people j d).id.0
rising_at [] i j d rising less within = absurd (omega arith)
rising_at (p ∷ people) i zero d rising less within = absurd (omega arith)
rising_at (p ∷ people) zero (suc j) d rising less within = all_at (λ b. p.id.0 < b.id.0) people j d rising.0 (omega arith)
rising_at (p ∷ people) (suc i) (suc j) d rising less within = rising_at people i j d rising.1 (omega arith) (omega arith)

-- the comparisons with an id rise along the people, as a binary search asks
comparisons_rise : (people : List Person) (q : ℕ) → Rising people → IsNonDecreasingBy (λ p. ordering_index (nat_cmp p.id.0 q)) people
comparisons_rise people q rising i j d le within =
    let a : ℕ = (get_or people i d).id.0 in
    let b : ℕ = (get_or people j d).id.0 in
    let ids : a ≤ b = elim (cases_order i j) [
      | inl same ↦ omega (arith, ap (λ (k : ℕ). (get_or people k d).id.0) same)
      | inr other ↦ elim other [
        | inl less ↦ omega (arith, rising_at people i j d rising less within)
        | inr more ↦ absurd (omega arith)
      ]
    ] in
    grind (arith, nat_tests)

-- the position of a person is found by the person's own id
row_here : (people : List Person) (q i : ℕ) (d : Person) → Rising people → i < length people → (get_or people i d).id.0 ≡ q → row_of q people ≡ Some i
row_here [] q i d rising within e = absurd (omega arith)
row_here (p ∷ people) q zero d rising within e = cond-true (q == p.id.0) _ _ (eq-eqb q p.id.0 (sym e))
row_here (p ∷ people) q (suc i) d rising within e =
    let less : p.id.0 < (get_or people i d).id.0 = all_at (λ b. p.id.0 < b.id.0) people i d rising.0 (omega arith) in
    cond-false (q == p.id.0) _ _ (ne_eqb q p.id.0 (λ same. absurd (omega arith)))
    ∙ ap (λ (o : Option ℕ). option_map (λ n. n + 1) o) (row_here people q i d rising.1 (omega arith) e) ∙ ap (λ (n : ℕ). Some n) (add-one i)

-- an id that nobody has has no position
row_nowhere : (people : List Person) (q : ℕ) → ((i : ℕ) (d : Person) → i < length people → (get_or people i d).id.0 ≡ q → ⊥) → row_of q people ≡ None
row_nowhere [] q none = refl
row_nowhere (p ∷ people) q none =
    cond-false (q == p.id.0) _ _ (ne_eqb q p.id.0 (λ same. none 0 p (omega arith) (sym same)))
    ∙ ap (λ (o : Option ℕ). option_map (λ n. n + 1) o) (row_nowhere people q (λ i d within e. none (suc i) d (omega arith) e))

-- one further on is found behind one more
further : (p : Person) (people : List Person) (o : Option ℕ) → option_and_then (λ at. slice_get (p ∷ people) at) (option_map (λ n. n + 1) o) ≡ option_and_then (λ at. slice_get people at) o
further p people None = refl
further p people (Some n) = ap (λ (k : ℕ). slice_get (p ∷ people) k) (add-one n)

-- The person of an id is the one at the position of the id.
pub person_there : (people : List Person) (q : ℕ) → option_and_then (λ at. slice_get people at) (row_of q people) ≡ find_person q people
person_there [] q = refl
person_there (p ∷ people) q = by (q == p.id.0) (further p people (row_of q people) ∙ person_there people q)
  where
    by : (b : Bool) → option_and_then (λ at. slice_get (p ∷ people) at) (option_map (λ n. n + 1) (row_of q people)) ≡ find_person q people
        → option_and_then (λ at. slice_get (p ∷ people) at) (cond b (Some 0) (option_map (λ n. n + 1) (row_of q people))) ≡ cond b (Some p) (find_person q people)
    by true e = refl
    by false e = e

some_person : (people : List Person) (at : ℕ) → at < length people → Person
some_person [] at within = absurd (omega arith)
some_person (p ∷ people) at within = p

-- A binary search by id finds the position of the person, or nobody has the id.
searched : (people : List Person) (q : ℕ) (r : Result ℕ ℕ) → Rising people → IsSearchInRange r (length people) → IsBinarySearchResult (λ p. nat_cmp p.id.0 q) people r
    → MatchResult r (λ at. Some at ≡ row_of q people) (λ at. None ≡ row_of q people)
searched people q (Ok at) rising within equal =
    let d = some_person people at within in
    sym (row_here people q at d rising within (ranked _ q _ (sym (equal d))))
searched people q (Err at) rising within parted =
    sym (row_nowhere people q (λ j d inside same. elim (cases_order j at) [
      | inl e ↦ (let above : q < (get_or people j d).id.0 = ranked _ q _ (sym ((parted (comparisons_rise people q rising)).1 j d (omega arith) inside)) in omega arith)
      | inr other ↦ elim other [
        | inl less ↦ (let below : (get_or people j d).id.0 < q = ranked _ q _ (sym ((parted (comparisons_rise people q rising)).0 j d (omega arith) less)) in omega arith)
        | inr more ↦ (let above : q < (get_or people j d).id.0 = ranked _ q _ (sym ((parted (comparisons_rise people q rising)).1 j d (omega arith) inside)) in omega arith)
      ]
    ]))

-- the id of a person
abbrev id_of : Person → ℕ
id_of person = person.id.0

-- what is found among ids is found among their people
over_ids : (people : List Person) (q : ℕ) (r : Result ℕ ℕ) → IsSearchInRange r (length people) → Rising people → IsBinarySearchResult (λ k. nat_cmp k q) (map id_of people) r
    → IsBinarySearchResult (λ p. nat_cmp p.id.0 q) people r
over_ids people q (Ok at) within rising equal = λ d. ap (λ (k : ℕ). nat_cmp k q) (sym (get_or-map id_of people at d (id_of d) within)) ∙ equal (id_of d)
over_ids people q (Err at) within rising parted =
    let size : length (map id_of people) ≡ length people = length-map people id_of in
    let ids = parted (λ i j d le inside.
    let room : j < length people = omega (arith, inside, size) in
    let p = some_person people j room in
    rw (get_or-map id_of people i p d (omega (arith, le, room))) (rw (get_or-map id_of people j p d room) (comparisons_rise people q rising i j p le room))) in
    λ rise. (
      (λ j d low inside. ap (λ (k : ℕ). nat_cmp k q) (sym (get_or-map id_of people j d (id_of d) (omega (arith, inside, within)))) ∙ ids.0 j (id_of d) low inside),
      (λ j d low inside. ap (λ (k : ℕ). nat_cmp k q) (sym (get_or-map id_of people j d (id_of d) inside)) ∙ ids.1 j (id_of d) low (omega (arith, inside, size))),
    )

-- A binary search among the ids finds the position of the person, or nobody has the id.
pub searched_ids : (people : List Person) (ids : List ℕ) (q : ℕ) (r : Result ℕ ℕ) → Rising people → ids ≡ map (λ p. p.id.0) people → IsSearchInRange r (length ids) → IsBinarySearchResult (λ k. nat_cmp k q) ids r
    → MatchResult r (λ at. Some at ≡ row_of q people) (λ at. None ≡ row_of q people)
searched_ids people ids q r rising same within found =
    let here : IsSearchInRange r (length people) = rw (sym (ap length same ∙ length-map people id_of)) within in
    searched people q r rising here (over_ids people q r here rising (rw (sym same) found))

-- The position of an id that is at a place is that place.
pub id_there : (people : List Person) (ids : List ℕ) (q at : ℕ) → Rising people → ids ≡ map (λ p. p.id.0) people → at < length ids → get_or ids at 0 ≡ q → Some at ≡ row_of q people
id_there people ids q at rising same within here =
    let size = ap length same ∙ length-map people id_of in
    let inside : at < length people = omega (arith, within, size) in
    let d = some_person people at inside in
    let told : (get_or people at d).id.0 ≡ q = sym (get_or-map id_of people at d 0 inside) ∙ ap (λ (those : List ℕ). get_or those at 0) (sym same) ∙ here in
    sym (row_here people q at d rising inside told)

-- where a text is no token, nobody holds it
pub not_held : (o : Option CandId) (b : Bool) → (IsSome o → b ≡ true) → b ≡ false → None ≡ o
not_held None b h e = refl
not_held (Some x) b h e = cc (h refl, e)

-- what was read as nothing is no token, and what was read is itself
pub no_token : (b : Bool) (x : List ℕ) → None ≡ cond b (Some x) None → b ≡ false
no_token true x e = cc e
no_token false x e = refl

pub same_token : (b : Bool) (x y : List ℕ) → Some y ≡ cond b (Some x) None → y ≡ x
same_token true x y e = cc e
same_token false x y e = cc e
