-- How many tried each programme: nobody at first, and one more after each offer.
use Rattle.std.proofs.Common.{◌≡◌, ◌<◌, ◌≤◌, ◌+◌, inl, inr, ℕ, zero, suc, Bool, true, false, List, [], ◌∷◌, Some, length, map, slice_set, arith, refl, sym, ap, ◌∙◌, subst, length-set, cond, nat_lt}
use Rattle.std.specs.Prelude.{slice_get, if◌then◌else◌}
use Rattle.std.specs.List.{AllByRecursion, filter}
use Rattle.std.proofs.lemmas.Bool.{lt-ltb}
use Rattle.std.proofs.lemmas.Bool.Decides.{nat_tests, eqb_tells}
use Rattle.office_base.specs.CategorySteps.{category_steps}
use Rattle.office_base.specs.Limits.{most_candidates}
use Rattle.office_base.specs.Person.{IsList, is_common}
use Rattle.office_base.specs.declared.category_steps.CategoryStep.{CategoryStep}
use Rattle.office_base.specs.declared.person.ListId.{ListId}
use Rattle.office_base.specs.declared.person.Person.{Person}
use Rattle.office_base.proofs.Lists.{get_set_other}
use Rattle.placements.proofs.Filters.{filter-sublist}
use Rattle.placements.proofs.Sublists.{length-sublist}
use Rattle.allocations.specs.Course.{MayTry, tried}
use Rattle.allocations.specs.Market.{Seeker, place_of, those}
use Rattle.allocations.proofs.Course.{get_set_same}
use Rattle.allocations.proofs.Settled.{other_programmes}
use Rattle.programme_lists.specs.Programme.{is_of}
use Rattle.seat_matrix.specs.Matrix.{list_in}
use Rattle.open_then_category.specs.Tried.{counted, one_if, with_member, with_one}
use Rattle.open_then_category.specs.declared.kept_lists.Tried.{Tried}
use Rattle.apply_engine.specs.Engine.{AreTallied, AreUntried, IsSet, Setting, seekers_in, rule_in}
use Rattle.apply_engine.proofs.Setting.{length_with}

-- what is read where there is no count
abbrev pub no_tally : Tried
no_tally = record { list = record { 0 = 0 }; common = 0; members = [] }

-- how many of those who tried a programme pass a test
abbrev count : (Person → Bool) → ℕ → List Seeker → List ℕ → ℕ
count test p seekers next = length (filter test (tried p seekers next))

count_more : (test : Person → Bool) (person : Person) (people : List Person) → length (filter test (person ∷ people)) ≡ length (filter test people) + one_if (test person)
count_more test person people = by_test (test person) (filter test people)
  where
    by_test : (b : Bool) (rest : List Person) → length (cond b (person ∷ rest) rest) ≡ length rest + one_if b
    by_test true rest = omega arith
    by_test false rest = omega arith

not_below : (k : ℕ) → nat_lt k k ≡ false
not_below k = grind (arith, nat_tests)

-- the seeker at a place tries the programme, and is one more of those who tried it
count_tried : (test : Person → Bool) (p i n : ℕ) (seekers : List Seeker) (next : List ℕ) (s : Seeker) → slice_get seekers i ≡ Some s → slice_get next i ≡ Some n → place_of s.list p ≡ n
    → count test p seekers (slice_set next i (n + 1)) ≡ count test p seekers next + one_if (test s.person)
count_tried test p i n [] next s there at place = absurd (cc)
count_tried test p i n (t ∷ seekers) [] s there at place = absurd (cc)
count_tried test p zero n (t ∷ seekers) (m ∷ next) s there at place =
    let same : t ≡ s = cc in
    let value : m ≡ n = cc in
    let rest = tried p seekers next in
    let here : place_of t.list p ≡ m = ap (λ (z : Seeker). place_of z.list p) same ∙ (place ∙ sym value) in
    let before : nat_lt (place_of t.list p) m ≡ false = ap (λ k. nat_lt k m) here ∙ not_below m in
    let after : nat_lt (place_of t.list p) (n + 1) ≡ true = lt-ltb (place_of t.list p) (n + 1) (omega (arith, here, value)) in
    let a : tried p (t ∷ seekers) ((n + 1) ∷ next) ≡ t.person ∷ rest = ap (λ b. if b then t.person ∷ rest else rest) after in
    let b : tried p (t ∷ seekers) (m ∷ next) ≡ rest = ap (λ b. if b then t.person ∷ rest else rest) before in
    let d = ap (λ (l : List Person). length (filter test l)) a in
    let e = ap (λ (l : List Person). length (filter test l)) b in
    let f = count_more test t.person rest in
    let g = ap (λ (z : Seeker). one_if (test z.person)) same in
    omega (arith, d, e, f, g)
count_tried test p (suc i) n (t ∷ seekers) (m ∷ next) s there at place =
    by_test (nat_lt (place_of t.list p) m) (tried p seekers (slice_set next i (n + 1))) (tried p seekers next) (count_tried test p i n seekers next s there at place)
  where
    by_test : (b : Bool) (after before : List Person) → length (filter test after) ≡ length (filter test before) + one_if (test s.person)
        → length (filter test (if b then t.person ∷ after else after)) ≡ length (filter test (if b then t.person ∷ before else before)) + one_if (test s.person)
    by_test true after before e = (let a = count_more test t.person after in let b = count_more test t.person before in omega (arith, a, b, e))
    by_test false after before e = e

-- one more is counted for each category
members_more : (person : Person) (before after : List Person) (rows : List CategoryStep) → ((test : Person → Bool) → length (filter test before) + one_if (test person) ≡ length (filter test after))
    → with_member person rows (map (λ row. length (filter (is_of row.category) before)) rows) ≡ map (λ row. length (filter (is_of row.category) after)) rows
members_more person before after [] more = refl
members_more person before after (row ∷ rows) more = λ i. more (is_of row.category) i ∷ members_more person before after rows more i

counted_more : (list : ListId) (p i n : ℕ) (seekers : List Seeker) (next : List ℕ) (s : Seeker) → slice_get seekers i ≡ Some s → slice_get next i ≡ Some n → place_of s.list p ≡ n
    → with_one s.person (counted list (tried p seekers next)) ≡ counted list (tried p seekers (slice_set next i (n + 1)))
counted_more list p i n seekers next s there at place =
    let one : (test : Person → Bool) → length (filter test (tried p seekers next)) + one_if (test s.person) ≡ length (filter test (tried p seekers (slice_set next i (n + 1)))) =
    λ test. sym (count_tried test p i n seekers next s there at place) in
    λ j. record { list = list; common = one (is_common list) j; members = members_more s.person (tried p seekers next) (tried p seekers (slice_set next i (n + 1))) category_steps one j }

-- ---- room for one more

those_fewer : {X : Type 0} (test : Seeker → X → Bool) (seekers : List Seeker) (xs : List X) → length (those test seekers xs) ≤ length seekers
those_fewer test [] xs = omega arith
those_fewer test (s ∷ seekers) [] = omega arith
those_fewer test (s ∷ seekers) (x ∷ xs) = by_test (test s x) (those test seekers xs) (those_fewer test seekers xs)
  where
    by_test : (b : Bool) (rest : List Person) → length rest ≤ length seekers → length (if b then s.person ∷ rest else rest) ≤ length (s ∷ seekers)
    by_test true rest less = omega (arith, less)
    by_test false rest less = omega (arith, less)

count_few : (test : Person → Bool) (over : Setting) (next : List ℕ) (p : ℕ) → IsSet over → count test p (seekers_in over) next ≤ most_candidates
count_few test over next p set =
    let people = tried p (seekers_in over) next in
    let a = length-sublist (filter test people) people (filter-sublist test people) in
    let b = those_fewer (λ (s : Seeker) (n : ℕ). nat_lt (place_of s.list p) n) (seekers_in over) next in
    let d = length_with over.people over.lists set.full in
    let e = set.few in
    omega (arith, a, b, d, e)

-- What a count has to be that takes one more.
pub record HasRoom (tally : Tried) : Type 0 where
  pub list : IsList tally.list
  pub common : tally.common < 4294967295
  pub members : AllByRecursion (λ count. count < 4294967295) tally.members

-- no category has more members among some people than there are
few_members : (people : List Person) (rows : List CategoryStep) → ((test : Person → Bool) → length (filter test people) ≤ most_candidates)
    → AllByRecursion (λ count. count < 4294967295) (map (λ row. length (filter (is_of row.category) people)) rows)
few_members people [] few = tt
few_members people (row ∷ rows) few = (let h = few (is_of row.category) in omega (arith, h), few_members people rows few)

pub has_room : (over : Setting) (next : List ℕ) (tallies : List Tried) (p : ℕ) (tally : Tried) → IsSet over → AreTallied over next tallies → p < length over.table.programmes → slice_get tallies p ≡ Some tally
    → HasRoom tally
has_room over next tallies p tally set tallied below at =
    let is = tallied.each p tally at in
    let few = λ (test : Person → Bool). count_few test over next p set in
    subst (λ (t : Tried). HasRoom t) (sym is) (record {
      list = (set.seats.sound p below).list;
      common = (let h = few (is_common (list_in over.table p)) in omega (arith, h));
      members = few_members (tried p (seekers_in over) next) category_steps few;
    })

-- ---- all programmes

pub tallied_more : (over : Setting) (next : List ℕ) (tallies : List Tried) (i p n : ℕ) (s : Seeker) (old new : Tried) → AreTallied over next tallies
    → MayTry (rule_in over) (length over.table.programmes) (seekers_in over) next i p n s → slice_get tallies p ≡ Some old → new ≡ with_one s.person old
    → AreTallied over (slice_set next i (n + 1)) (slice_set tallies p new)
tallied_more over next tallies i p n s old new tallied try at more = record {
  full = length-set tallies p new ∙ tallied.full;
  each = λ q tally here. elim (eqb_tells q p) [
    | inl h ↦
        let mine : slice_get (slice_set tallies p new) q ≡ Some new = subst (λ k. slice_get (slice_set tallies p new) k ≡ Some new) (sym h.1) (get_set_same tallies p new old at) in
        let same : tally ≡ new = cc in
        let list = list_in over.table p in
        let now : new ≡ counted list (tried p (seekers_in over) (slice_set next i (n + 1))) =
        more ∙ (ap (λ (t : Tried). with_one s.person t) (tallied.each p old at) ∙ counted_more list p i n (seekers_in over) next s try.there try.at try.place) in
        same ∙ subst (λ k. new ≡ counted (list_in over.table k) (tried k (seekers_in over) (slice_set next i (n + 1)))) (sym h.1) now
    | inr h ↦
        let his : slice_get tallies q ≡ Some tally = sym (get_set_other tallies p q new h.1) ∙ here in
        tallied.each q tally his
        ∙ ap (λ people. counted (list_in over.table q) people) (sym (other_programmes (rule_in over) (length over.table.programmes) p i n q (seekers_in over) next s try h.1))
  ];
}

-- where nobody tried anything
pub untried : (over : Setting) (next : List ℕ) (tallies : List Tried) → AreUntried over.table tallies → ((p : ℕ) → tried p (seekers_in over) next ≡ []) → AreTallied over next tallies
untried over next tallies begun none = record {
  full = begun.full;
  each = λ p tally at. begun.each p tally at ∙ ap (λ people. counted (list_in over.table p) people) (sym (none p));
}
