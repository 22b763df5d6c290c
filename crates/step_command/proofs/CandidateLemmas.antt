-- Candidate lines, read one after another.
use Rattle.std.proofs.Common.{◌≡◌, ◌≢◌, ◌<◌, ◌≤◌, ◌+◌, inl, inr, ℕ, zero, suc, Bool, true, false, ◌||◌, eqb, cond, List, [], ◌∷◌, ◌++◌, length, take, drop, Option, Some, None, refl, sym, ap, ◌∙◌, subst, arith, add-one}
use Rattle.std.specs.List.{list_any, slice_get, AllByRecursion}
use Rattle.std.specs.Ordering.{nat_cmp, is_eq}
use Rattle.std.proofs.lemmas.Bool.{cases_lt, cases_order, or_parts, eqb-false}
use Rattle.std.proofs.lemmas.Option.{slice_get_past}
use Rattle.std.proofs.lemmas.Bool.Decides.{nat_tests}
use Rattle.std.proofs.lemmas.List.{append_assoc, length-take-le, take_all, length_push}
use Rattle.std.proofs.lemmas.List.Recursion.{or_push}
use Rattle.std.proofs.lemmas.Grind.{flat_map-append}
use Rattle.office_base.specs.Lists.{Pairwise}
use Rattle.office_base.specs.Person.{IsAhead, number_in}
use Rattle.office_base.specs.StepChoice.{AreRanked}
use Rattle.office_base.specs.declared.person.CandId.{CandId}
use Rattle.office_base.specs.declared.person.Person.{Person}
use Rattle.office_text.specs.FirstFault.{fault_at, IsFirstFault, IsFaultless}
use Rattle.office_base.specs.Limits.{most_candidates}
use Rattle.office_base.proofs.Lists.{all_weaker, all_push}
use Rattle.step_command.specs.declared.fault.SheetFault.{SheetFault}
use Rattle.step_command.specs.declared.fault.SheetKind.{SheetKind}
use Rattle.step_command.specs.Reading.{AreRead}
use Rattle.step_command.specs.Sheet.{cand_of, id_of, ids_of, cand_fault, cand_judge, person_of, persons_at, people_from, IsFaultOfRows}

-- A row at n, after the first n and before the others.
pub take-at : {X : Type 0} (xs : List X) (n : ℕ) (x : X) (rest : List X) → drop n xs ≡ x ∷ rest → take (suc n) xs ≡ take n xs ++ x ∷ []
take-at [] zero x rest e = absurd cc
take-at [] (suc n) x rest e = absurd cc
take-at (y ∷ xs) zero x rest e = let same : y ≡ x = cc in ap (λ (z : _). z ∷ []) same
take-at (y ∷ xs) (suc n) x rest e = ap (λ (zs : List _). y ∷ zs) (take-at xs n x rest e)

-- That row is the one at n.
pub slice_get-at : {X : Type 0} (xs : List X) (n : ℕ) (x : X) (rest : List X) → drop n xs ≡ x ∷ rest → slice_get xs n ≡ Some x
slice_get-at [] zero x rest e = absurd cc
slice_get-at [] (suc n) x rest e = absurd cc
slice_get-at (y ∷ xs) zero x rest e = cc
slice_get-at (y ∷ xs) (suc n) x rest e = slice_get-at xs n x rest e

-- The others come after it.
pub drop-at : {X : Type 0} (xs : List X) (n : ℕ) (x : X) (rest : List X) → drop n xs ≡ x ∷ rest → drop (suc n) xs ≡ rest
drop-at [] zero x rest e = absurd cc
drop-at [] (suc n) x rest e = absurd cc
drop-at (y ∷ xs) zero x rest e = cc
drop-at (y ∷ xs) (suc n) x rest e = drop-at xs n x rest e

-- So there are more than n rows.
pub below-at : {X : Type 0} (xs : List X) (n : ℕ) (x : X) (rest : List X) → drop n xs ≡ x ∷ rest → n < length xs
below-at [] zero x rest e = absurd cc
below-at [] (suc n) x rest e = absurd cc
below-at (y ∷ xs) zero x rest e = omega arith
below-at (y ∷ xs) (suc n) x rest e = omega (arith, below-at xs n x rest e)

-- If there is no row at n, there are n at most.
pub end-at : {X : Type 0} (xs : List X) (n : ℕ) → drop n xs ≡ [] → length xs ≤ n
end-at [] n e = omega arith
end-at (y ∷ xs) zero e = absurd cc
end-at (y ∷ xs) (suc n) e = omega (arith, end-at xs n e)

-- Equal numbers known make equal faults.
cand_fault-same : (m n : ℕ) (known other : ℕ → Bool) (cand : Option (ℕ × ℕ)) → m ≡ n → ((id : ℕ) → known id ≡ other id) → cand_fault m known cand ≡ cand_fault n other cand
cand_fault-same m n known other None e same = refl
cand_fault-same m n known other (Some cand) e same = rw (e, same cand.0) refl

-- What is wrong at the row after those read is what is wrong with its line.
pub fault_at-read : (lines : List (List ℕ)) (people : List Person) (known : ℕ → Bool) (line : List ℕ) (rest : List (List ℕ)) → AreRead lines people known → drop (length people) lines ≡ line ∷ rest → fault_at cand_judge lines (length people) ≡ cand_fault (length people) known (cand_of line)
fault_at-read lines people known line rest read left =
    let n = length people in
    let row : slice_get lines n ≡ Some line = slice_get-at lines n line rest left in
    let count : length (take n lines) ≡ n = length-take-le n lines read.within in
    ap (λ (o : Option (List ℕ)). cand_judge (take n lines) o) row
    ∙ cand_fault-same (length (take n lines)) n (λ id. list_any (λ other. eqb other id) (ids_of (take n lines))) known (cand_of line) count (λ id. sym (read.told id))

-- A fault at the row after those read is the first one.
first_at-read : (lines : List (List ℕ)) (people : List Person) (known : ℕ → Bool) (line : List ℕ) (rest : List (List ℕ)) (kind : SheetKind) → AreRead lines people known → drop (length people) lines ≡ line ∷ rest → cand_fault (length people) known (cand_of line) ≡ Some kind → IsFirstFault cand_judge lines (length people) kind
first_at-read lines people known line rest kind read left fault = record {
  here = fault_at-read lines people known line rest read left ∙ fault;
  within = read.within;
  before = read.faultless;
}

-- It is reported with the number of its row.
pub fault-read : (rows : List (List ℕ)) (numbers : List ℕ) (people : List Person) (known : ℕ → Bool) (line : List ℕ) (rest : List (List ℕ)) (fault : SheetFault) (after : List ℕ) → AreRead rows people known → drop (length people) rows ≡ line ∷ rest → drop (length people) numbers ≡ fault.line ∷ after → cand_fault (length people) known (cand_of line) ≡ Some fault.kind → IsFaultOfRows cand_judge rows numbers fault
fault-read rows numbers people known line rest fault after read left told wrong = record {
  row = length people;
  line = slice_get-at numbers (length people) fault.line after told;
  first = first_at-read rows people known line rest fault.kind read left wrong;
}

-- The people of one line more.
people_from-push : (place at : ℕ) (lines : List (List ℕ)) (line : List ℕ) (cand : ℕ × ℕ) → cand_of line ≡ Some cand → at ≡ place + length lines → people_from place (lines ++ line ∷ []) ≡ people_from place lines ++ person_of at cand ∷ []
people_from-push place at [] line cand e same =
    let here : at ≡ place = omega arith in
    rw (e, here) refl
people_from-push place at (x ∷ lines) line cand e same =
    ap (λ (people : List Person). persons_at place (cand_of x) ++ people) (people_from-push (suc place) at lines line cand e (omega arith))
    ∙ sym (append_assoc (persons_at place (cand_of x)) (people_from (suc place) lines) (person_of at cand ∷ []))

-- The numbers of one line more.
ids_of-push : (lines : List (List ℕ)) (line : List ℕ) (cand : ℕ × ℕ) → cand_of line ≡ Some cand → ids_of (lines ++ line ∷ []) ≡ ids_of lines ++ cand.0 ∷ []
ids_of-push lines line cand e =
    flat_map-append (λ (l : List ℕ). id_of (cand_of l)) lines (line ∷ [])
    ∙ ap (λ (o : Option (ℕ × ℕ)). ids_of lines ++ (id_of o ++ [])) e

known-put_same : (x id : ℕ) (known : Bool) → x ≡ id → cond (is_eq (nat_cmp x id)) true known ≡ (known || eqb x id)
known-put_same x id true same = grind (arith, nat_tests)
known-put_same x id false same = grind (arith, nat_tests)

known-put_other : (x id : ℕ) (known : Bool) → x ≢ id → cond (is_eq (nat_cmp x id)) true known ≡ (known || eqb x id)
known-put_other x id true same = grind (arith, nat_tests)
known-put_other x id false same = grind (arith, nat_tests)

-- A number put into the set is found there, like those before.
known-put : (x id : ℕ) (known : Bool) → cond (is_eq (nat_cmp x id)) true known ≡ (known || eqb x id)
known-put x id known = elim (cases_order x id) [
  | inl same ↦ known-put_same x id known same
  | inr other ↦ known-put_other x id known (λ same. elim other [ inl less ↦ omega arith | inr more ↦ omega arith ])
]

-- The numbers and the people of a line are not this number, and neither are those of the lines after it.
apart_at : (place : ℕ) (o : Option (ℕ × ℕ)) (people : List Person) (ids : List ℕ) (id : CandId) → (list_any (λ other. eqb other id.0) ids ≡ false → AllByRecursion (λ (p : Person). p.id ≢ id) people) → list_any (λ other. eqb other id.0) (id_of o ++ ids) ≡ false → AllByRecursion (λ (p : Person). p.id ≢ id) (persons_at place o ++ people)
apart_at place None people ids id more none = more none
apart_at place (Some cand) people ids id more none =
    let parts = or_parts (eqb cand.0 id.0) (list_any (λ other. eqb other id.0) ids) none in
    (λ same. eqb-false cand.0 id.0 parts.0 (ap (λ (c : CandId). c.0) same), more parts.1)

-- A number that is not among those of lines is nobody's of their people.
apart_from : (place : ℕ) (lines : List (List ℕ)) (id : CandId) → list_any (λ other. eqb other id.0) (ids_of lines) ≡ false → AllByRecursion (λ (p : Person). p.id ≢ id) (people_from place lines)
apart_from place [] id none = tt
apart_from place (line ∷ lines) id none = apart_at place (cand_of line) (people_from (suc place) lines) (ids_of lines) id (apart_from (suc place) lines id) none

pairwise_push : {X : Type 0} (R : X → X → Type 0) (xs : List X) (y : X) → Pairwise R xs → AllByRecursion (λ x. R x y) xs → Pairwise R (xs ++ y ∷ [])
pairwise_push R [] y pairs all = (tt, tt)
pairwise_push R (x ∷ xs) y pairs all = (all_push (R x) xs y pairs.0 all.0, pairwise_push R xs y pairs.1 all.1)

-- What is ahead of n is ahead of every larger number.
ahead_more : (o : Option ℕ) (n more : ℕ) → n ≤ more → IsAhead o (Some n) → IsAhead o (Some more)
ahead_more None n more h ahead = ahead
ahead_more (Some m) n more h ahead = omega arith

-- Ranked people stay ranked with one more, who has the next place and a new number.
ranked_push : (people : List Person) (place : ℕ) (cand : ℕ × ℕ) → AreRanked (record { 0 = 1 }) people → AllByRecursion (λ (p : Person). IsAhead (number_in (record { 0 = 1 }) p) (Some place)) people → cand.1 < 64 → AllByRecursion (λ (p : Person). p.id ≢ (person_of place cand).id) people → AreRanked (record { 0 = 1 }) (people ++ person_of place cand ∷ [])
ranked_push people place cand ranked below set apart = record {
  traits = all_push _ people (person_of place cand) ranked.traits set;
  placed = all_push _ people (person_of place cand) ranked.placed refl;
  in_order = pairwise_push _ people (person_of place cand) ranked.in_order below;
  distinct = pairwise_push _ people (person_of place cand) ranked.distinct apart;
}

-- Lines read stay right with one more.
read_below : (lines : List (List ℕ)) (people : List Person) (known : ℕ → Bool) (line : List ℕ) (rest : List (List ℕ)) → AreRead lines people known → drop (length people) lines ≡ line ∷ rest → cand_fault (length people) known (cand_of line) ≡ None → (row : ℕ) → row < suc (length people) → fault_at cand_judge lines row ≡ None
read_below lines people known line rest read left right row below =
    elim (cases_order row (length people)) [
      | inl same ↦ subst (λ (n : ℕ). fault_at cand_judge lines n ≡ None) (sym same) (fault_at-read lines people known line rest read left ∙ right)
      | inr other ↦ elim other [ inl less ↦ read.faultless row less | inr more ↦ absurd (omega arith) ]
    ]

-- One line more is read.
pub read_more : (lines : List (List ℕ)) (people : List Person) (known next : ℕ → Bool) (line : List ℕ) (rest : List (List ℕ)) (cand : ℕ × ℕ) → AreRead lines people known → drop (length people) lines ≡ line ∷ rest → cand_of line ≡ Some cand → cand_fault (length people) known (cand_of line) ≡ None → length people < most_candidates → cand.1 < 64 → known cand.0 ≡ false → ((q : ℕ) → next q ≡ cond (is_eq (nat_cmp cand.0 q)) true (known q)) → AreRead lines (people ++ person_of (length people + 1) cand ∷ []) next
read_more lines people known next line rest cand read left given right few set new put =
    let n = length people in
    let person = person_of (n + 1) cand in
    let size : length (people ++ person ∷ []) ≡ suc n = length_push people person ∙ add-one n in
    let taken : take (suc n) lines ≡ take n lines ++ line ∷ [] = take-at lines n line rest left in
    let count : length (take n lines) ≡ n = length-take-le n lines read.within in
    let made : people_from 1 (take (suc n) lines) ≡ people_from 1 (take n lines) ++ person ∷ [] =
    ap (people_from 1) taken ∙ people_from-push 1 (n + 1) (take n lines) line cand given (omega (arith, count)) in
    let ids : ids_of (take (suc n) lines) ≡ ids_of (take n lines) ++ cand.0 ∷ [] =
    ap ids_of taken ∙ ids_of-push (take n lines) line cand given in
    let apart : AllByRecursion (λ (p : Person). p.id ≢ person.id) people =
    subst (λ (xs : List Person). AllByRecursion (λ (p : Person). p.id ≢ person.id) xs) (sym read.made)
    (apart_from 1 (take n lines) person.id (sym (read.told cand.0) ∙ new)) in
    record {
      within = omega (arith, size, below-at lines n line rest left);
      few = omega (arith, size);
      made = rw (size, made) (ap (λ (xs : List Person). xs ++ person ∷ []) read.made);
      told = λ id. rw (size, ids) (
          put id
          ∙ known-put cand.0 id (known id)
          ∙ ap (λ (b : Bool). b || eqb cand.0 id) (read.told id)
          ∙ sym (or_push (list_any (λ other. eqb other id)) (λ other. eqb other id) refl (λ _ _. refl) (ids_of (take n lines)) cand.0)
          );
      faultless = λ row below. read_below lines people known line rest read left right row (omega (arith, size));
      ranked = ranked_push people (n + 1) cand read.ranked read.below set apart;
      below = rw size (all_push _ people person
          (all_weaker _ _ (λ (p : Person) ahead. ahead_more (number_in (record { 0 = 1 }) p) (n + 1) (suc n + 1) (omega arith) ahead) people read.below)
          (omega arith));
    }

-- What comes after it is left.
pub left_more : {X : Type 0} (rows : List X) (people : List Person) (person : Person) (row : X) (rest : List X) → drop (length people) rows ≡ row ∷ rest → drop (length (people ++ person ∷ [])) rows ≡ rest
left_more rows people person row rest left =
    let size : length (people ++ person ∷ []) ≡ suc (length people) = length_push people person ∙ add-one (length people) in
    rw size (drop-at rows (length people) row rest left)

-- All lines are read: they have no fault.
pub all_read : (lines : List (List ℕ)) (people : List Person) (known : ℕ → Bool) → AreRead lines people known → drop (length people) lines ≡ [] → IsFaultless cand_judge lines
all_read lines people known read left row within =
    let end = end-at lines (length people) left in
    elim (cases_lt row (length people)) [
      | inl below ↦ read.faultless row below
      | inr past ↦ ap (λ (o : Option (List ℕ)). cand_judge (take row lines) o) (slice_get_past lines row (omega arith))
    ]

-- And these are all their people.
pub all_people : (lines : List (List ℕ)) (people : List Person) (known : ℕ → Bool) → AreRead lines people known → drop (length people) lines ≡ [] → people ≡ people_from 1 lines
all_people lines people known read left = read.made ∙ ap (people_from 1) (take_all (length people) lines (end-at lines (length people) left))
