-- The people who had no row yet, and that each row takes one of them.
use Rattle.std.proofs.Common.{◌≡◌, ◌<◌, ◌+◌, ◌^◌, ℕ, Bool, true, false, ◌||◌, cond, eqb, List, [], ◌∷◌, ◌++◌, Some, length, is_some, refl, sym, inl, inr, ap, subst, ◌∙◌, arith, eq-eqb, unwrap_or}
use Rattle.std.proofs.lemmas.Bool.{cases_eq, cond-true, cond-false, false≢true, ne_eqb, cases_Bool}
use Rattle.std.proofs.lemmas.List.Folds.{list_any-append}
use Rattle.std.proofs.lemmas.Bool.Decides.{nat_tests}
use Rattle.std.specs.List.{AllByRecursion}
use Rattle.std.specs.Ordering.{is_eq, nat_cmp}
use Rattle.office_base.specs.declared.person.Person.{Person}
use Rattle.rank_lists.specs.Register.{find_person}
use Rattle.text_readers.specs.Parts.{AreSmall}
use Rattle.list_texts.specs.ListReader.{AreRising, free_in}
use Rattle.list_texts.specs.Listing.{is_listed}

-- who is found has the property of all, and the id
pub found-all : (P : Person → Type 0) (people : List Person) (id : ℕ) (person : Person) → AllByRecursion P people → find_person id people ≡ Some person → P person × (person.id.0 ≡ id)
found-all P [] id person all e = absurd (false≢true (ap is_some e))
found-all P (p ∷ people) id person all e = elim (cases_eq id p.id.0) [
  | inl same ↦
      let is : p ≡ person = ap (λ o. unwrap_or o p) (sym (cond-true (eqb id p.id.0) (Some p) (find_person id people) (eq-eqb id p.id.0 same)) ∙ e) in
      (subst P is all.0, ap (λ z. z.id.0) (sym is) ∙ sym same)
  | inr other ↦ found-all P people id person all.1 (sym (cond-false (eqb id p.id.0) (Some p) (find_person id people) (ne_eqb id p.id.0 other)) ∙ e)
]

pub all-unit : (people : List Person) → AllByRecursion (λ person. Unit {0}) people
all-unit [] = tt
all-unit (p ∷ people) = (tt, all-unit people)

pub found-small : (people : List Person) (person : Person) → AreSmall people → find_person person.id.0 people ≡ Some person → person.id.0 < 2 ^ 32
found-small people person small e = (found-all (λ z. z.id.0 < 2 ^ 32) people person.id.0 person small e).0

-- a later person is found with the first one too
pub found-later : (p : Person) (people : List Person) (person : Person) → AreRising (p ∷ people) → find_person person.id.0 people ≡ Some person → find_person person.id.0 (p ∷ people) ≡ Some person
found-later p people person rising e =
    let above = (found-all (λ z. p.id.0 < z.id.0) people person.id.0 person rising.0 e).0 in
    cond-false (eqb person.id.0 p.id.0) (Some p) (find_person person.id.0 people) (ne_eqb person.id.0 p.id.0 (λ z. omega (arith, z, above))) ∙ e

-- with one more, this id is listed where it was, or is the one's
pub listed-more : (id : ℕ) (used : List Person) (p : Person) → is_listed id (used ++ p ∷ []) ≡ (is_listed id used || (eqb id p.id.0 || false))
listed-more id used p = list_any-append (λ (person : Person). eqb id person.id.0) used (p ∷ [])

or-true : (a : Bool) → (a || true) ≡ true
or-true true = refl
or-true false = refl

or-false : (a : Bool) → (a || false) ≡ a
or-false true = refl
or-false false = refl

pub listed-here : (used : List Person) (p : Person) → is_listed p.id.0 (used ++ p ∷ []) ≡ true
listed-here used p = listed-more p.id.0 used p ∙ ap (λ z. is_listed p.id.0 used || (z || false)) (eq-eqb p.id.0 p.id.0 refl) ∙ or-true (is_listed p.id.0 used)

pub listed-other : (id : ℕ) (used : List Person) (p : Person) → (id ≡ p.id.0 → ⊥) → is_listed id (used ++ p ∷ []) ≡ is_listed id used
listed-other id used p other = listed-more id used p ∙ ap (λ z. is_listed id used || (z || false)) (ne_eqb id p.id.0 other) ∙ or-false (is_listed id used)

pub listed-kept : (id : ℕ) (used : List Person) (p : Person) → is_listed id used ≡ true → is_listed id (used ++ p ∷ []) ≡ true
listed-kept id used p e = listed-more id used p ∙ ap (λ z. z || (eqb id p.id.0 || false)) e

-- before the first row all are free
pub free-all : (people : List Person) → free_in people [] ≡ length people
free-all [] = refl
free-all (p ∷ people) = ap (λ n. 1 + n) (free-all people) ∙ omega arith

-- other people stay free
free-same : (people used : List Person) (p : Person) → AllByRecursion (λ z. p.id.0 < z.id.0) people → free_in people (used ++ p ∷ []) ≡ free_in people used
free-same [] used p above = refl
free-same (q ∷ people) used p above =
    ap (λ b. cond b 0 1 + free_in people (used ++ p ∷ [])) (listed-other q.id.0 used p (λ z. omega (arith, z, above.0))) ∙ ap (λ n. cond (is_listed q.id.0 used) 0 1 + n) (free-same people used p above.1)

-- a row takes one of them
pub free-less : (people used : List Person) (person : Person) → AreRising people → find_person person.id.0 people ≡ Some person → is_listed person.id.0 used ≡ false
    → free_in people used ≡ free_in people (used ++ person ∷ []) + 1
free-less [] used person rising e new = absurd (false≢true (ap is_some e))
free-less (p ∷ people) used person rising e new = elim (cases_eq person.id.0 p.id.0) [
  | inl same ↦
      let is : p ≡ person = ap (λ o. unwrap_or o p) (sym (cond-true (eqb person.id.0 p.id.0) (Some p) (find_person person.id.0 people) (eq-eqb person.id.0 p.id.0 same)) ∙ e) in
      let before : free_in (p ∷ people) used ≡ free_in people used + 1 = ap (λ b. cond b 0 1 + free_in people used) (ap (λ n. is_listed n used) (sym same) ∙ new) ∙ omega arith in
      let here : is_listed p.id.0 (used ++ person ∷ []) ≡ true = ap (λ n. is_listed n (used ++ person ∷ [])) (sym same) ∙ listed-here used person in
      let after : free_in (p ∷ people) (used ++ person ∷ []) ≡ 0 + free_in people (used ++ person ∷ []) = ap (λ b. cond b 0 1 + free_in people (used ++ person ∷ [])) here in
      let others = free-same people used person (subst (λ z. AllByRecursion (λ q. z.id.0 < q.id.0) people) is rising.0) in
      omega (arith, before, after, others)
  | inr other ↦
      let later = free-less people used person rising.1 (sym (cond-false (eqb person.id.0 p.id.0) (Some p) (find_person person.id.0 people) (ne_eqb person.id.0 p.id.0 other)) ∙ e) new in
      let one : Bool → ℕ = λ b. cond b 0 1 in
      let same : one (is_listed p.id.0 (used ++ person ∷ [])) ≡ one (is_listed p.id.0 used) = ap one (listed-other p.id.0 used person (λ z. other (sym z))) in
      omega (arith, later, same)
]

-- where some are free, there is one
pub free-some : (people used : List Person) → AreRising people → 0 < free_in people used → (person : Person) × (find_person person.id.0 people ≡ Some person) × (is_listed person.id.0 used ≡ false)
free-some [] used rising some = absurd (omega (arith, some))
free-some (p ∷ people) used rising some = elim (cases_Bool (is_listed p.id.0 used)) [
  | inl listed ↦
      let fewer : free_in (p ∷ people) used ≡ 0 + free_in people used = ap (λ b. cond b 0 1 + free_in people used) listed in
      let (person, found, new) = free-some people used rising.1 (omega (arith, some, fewer)) in
      (person, found-later p people person rising found, new)
  | inr new ↦ (p, cond-true (eqb p.id.0 p.id.0) (Some p) (find_person p.id.0 people) (eq-eqb p.id.0 p.id.0 refl), new)
]

-- ---- ids in a set

put-same : (x id : ℕ) (known : Bool) → x ≡ id → cond (is_eq (nat_cmp x id)) true known ≡ (known || (eqb id x || false))
put-same x id true same = grind (arith, nat_tests)
put-same x id false same = grind (arith, nat_tests)

put-other : (x id : ℕ) (known : Bool) → (x ≡ id → ⊥) → cond (is_eq (nat_cmp x id)) true known ≡ (known || (eqb id x || false))
put-other x id true other = grind (arith, nat_tests)
put-other x id false other = grind (arith, nat_tests)

-- a set with one more id has the ids of the persons with one more
pub put-listed : (used : List Person) (p : Person) (id : ℕ) (before after : Bool) → before ≡ is_listed id used → after ≡ cond (is_eq (nat_cmp p.id.0 id)) true before → after ≡ is_listed id (used ++ p ∷ [])
put-listed used p id before after same e =
    let put : cond (is_eq (nat_cmp p.id.0 id)) true before ≡ (before || (eqb id p.id.0 || false)) = elim (cases_eq p.id.0 id) [ inl here ↦ put-same p.id.0 id before here | inr other ↦ put-other p.id.0 id before other ] in
    e ∙ put ∙ ap (λ z. z || (eqb id p.id.0 || false)) same ∙ sym (listed-more id used p)
