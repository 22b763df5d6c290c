-- The places of people in merit order, and marks at places.
use Rattle.std.proofs.Common.{◌≡◌, ◌≢◌, ◌≤◌, ◌<◌, ◌⊎◌, ℕ, zero, suc, Option, Bool, true, false, cond, List, [], ◌∷◌, ◌++◌, length, take, drop, get_or, set, append_assoc, refl, sym, ap, ◌∙◌, subst, inl, inr, arith}
use Rattle.std.specs.Prelude.{IsSome}
use Rattle.std.specs.List.{AllByRecursion, AllZip, insert, remove}
use Rattle.std.proofs.lemmas.Bool.{cases_Bool}
use Rattle.std.proofs.lemmas.List.{get_or_past}
use Rattle.office_base.specs.Lists.{Pairwise}
use Rattle.office_base.specs.Person.{IsAhead, IsBetter, number_in}
use Rattle.office_base.specs.declared.person.CandId.{CandId}
use Rattle.office_base.specs.declared.person.ListId.{ListId}
use Rattle.office_base.specs.declared.person.Person.{Person}
use Rattle.placements.specs.Ranks.{AreAmong, AreDistinct, without}
use Rattle.placements.proofs.Ranks.{any_all}
use Rattle.placements.proofs.Without.{without_first, without_later}
use Rattle.placements.proofs.Merit.{ahead_again, not_ahead, ahead_true}
use Rattle.merit_choice.specs.Held.{IsLastFree, AreAllSet}
use Rattle.merit_choice.specs.InMerit.{is_ahead, is_better, with_person}
use Rattle.merit_choice.specs.Laws.{IsAmong}
use Rattle.merit_choice.specs.Needed.{Tells}
use Rattle.merit_choice.proofs.InMerit.{ahead_false}

-- ---- the place of a new person

-- of two numbers, where the second is ahead the first is not
pub not_ahead_back : (first second : Option ℕ) → IsAhead second first → is_ahead first second ≡ false
not_ahead_back first second ahead = elim (cases_Bool (is_ahead first second)) [
  | inl told ↦ absurd (not_ahead first (ahead_again first second first (ahead_true first second told) ahead))
  | inr told ↦ told
]

-- before one who is worse the person has the same place as among those before that one
pub with_before : (list : ListId) (person worse : Person) (front rest : List Person) → is_better list person worse ≡ true
    → with_person list person (front ++ worse ∷ rest) ≡ with_person list person front ++ worse ∷ rest
with_before list person worse [] rest told =
    ap (λ (b : Bool). cond b (person ∷ worse ∷ rest) (worse ∷ with_person list person rest)) told
with_before list person worse (one ∷ front) rest told =
    elim (is_better list person one) as (λ b. cond b (person ∷ one ∷ (front ++ worse ∷ rest)) (one ∷ with_person list person (front ++ worse ∷ rest))
    ≡ cond b (person ∷ one ∷ front) (one ∷ with_person list person front) ++ worse ∷ rest) [
      | true ↦ refl
      | false ↦ ap (λ (people : List Person). one ∷ people) (with_before list person worse front rest told)
    ]

-- after people none of whom is worse the person comes last
with_last : (list : ListId) (person : Person) (front : List Person) → AllByRecursion (λ one. is_better list person one ≡ false) front → with_person list person front ≡ front ++ person ∷ []
with_last list person [] all = refl
with_last list person (one ∷ front) all =
    ap (λ (b : Bool). cond b (person ∷ one ∷ front) (one ∷ with_person list person front)) all.0 ∙ ap (λ (people : List Person). one ∷ people) (with_last list person front all.1)

-- up to one who is better than the person nobody is worse
none_worse : (list : ListId) (person other : Person) (people : List Person) (at : ℕ) → Pairwise (IsBetter list) people → at < length people → IsBetter list (get_or people at other) person
    → AllByRecursion (λ one. is_better list person one ≡ false) (take (suc at) people)
none_worse list person other [] at order inside better = absurd (omega arith)
none_worse list person other (one ∷ people) zero order inside better = (not_ahead_back (number_in list person) (number_in list one) better, tt)
none_worse list person other (one ∷ people) (suc at) order inside better =
    let there = at_all people at order.0 (omega arith) in (
      not_ahead_back (number_in list person) (number_in list one) (ahead_again (number_in list one) (number_in list (get_or people at other)) (number_in list person) there better),
      none_worse list person other people at order.1 (omega arith) better,
    )
  where
    at_all : (others : List Person) (k : ℕ) → AllByRecursion (IsBetter list one) others → k < length others → IsBetter list one (get_or others k other)
    at_all [] k all inside = absurd (omega arith)
    at_all (first ∷ others) zero all inside = all.0
    at_all (first ∷ others) (suc k) all inside = at_all others k all.1 (omega arith)

-- how far the search has come: the person's place among those before this place is the place among all
abbrev pub IsBefore : ListId → Person → List Person → ℕ → Type 0
IsBefore list person people at = with_person list person (take at people) ++ drop at people ≡ with_person list person people

-- behind one who is better the person's place is here
pub place_here : (list : ListId) (person other : Person) (people : List Person) (at last : ℕ) → Pairwise (IsBetter list) people → at ≡ suc last → at ≤ length people
    → IsBetter list (get_or people last other) person → IsBefore list person people at → insert people at person ≡ with_person list person people
place_here list person other people at last order next inside better so_far =
    let none : AllByRecursion (λ one. is_better list person one ≡ false) (take at people) =
    subst (λ (k : ℕ). AllByRecursion (λ one. is_better list person one ≡ false) (take k people)) (sym next) (none_worse list person other people last order (omega arith) better) in
    sym (append_assoc (take at people) (person ∷ []) (drop at people))
    ∙ ap (λ (front : List Person). front ++ drop at people) (sym (with_last list person (take at people) none))
    ∙ so_far

-- who is at a place is one of the people
pub among_at : (people : List Person) (at : ℕ) (other : Person) → at < length people → IsAmong (get_or people at other) people
among_at [] at other inside = absurd (omega arith)
among_at (one ∷ people) zero other inside = inl refl
among_at (one ∷ people) (suc at) other inside = inr (among_at people at other (omega arith))

-- of two with places apart, where the first is not better the second is
pub else_better : (list : ListId) (people : List Person) (person other : Person) → IsSome (number_in list person) → AllByRecursion (λ one. IsSome (number_in list one)) people
    → AllByRecursion (λ one. number_in list person ≢ number_in list one) people → IsAmong other people → (IsBetter list other person → ⊥) → is_better list person other ≡ true
else_better list people person other placed all numbers there not_better = elim (cases_Bool (is_better list person other)) [
  | inl told ↦ told
  | inr told ↦
      let has = any_all (λ one. other ≡ one) (λ one. IsSome (number_in list one)) people there all in
      let apart = any_all (λ one. other ≡ one) (λ one. number_in list person ≢ number_in list one) people there numbers in
      absurd (not_better (ahead_false (number_in list person) (number_in list other) placed
      (subst (λ one. IsSome (number_in list one)) (sym has.1) has.2)
      (subst (λ one. number_in list person ≢ number_in list one) (sym apart.1) apart.2) told))
]

-- ---- people and their marks

-- one more at a place
pub zip_insert : {A B : Type 0} (R : A → B → Type 0) (xs : List A) (ys : List B) (at : ℕ) (x : A) (y : B) → at ≤ length xs → R x y → AllZip R xs ys → AllZip R (insert xs at x) (insert ys at y)
zip_insert R xs ys zero x y inside here all = (here, all)
zip_insert R [] [] (suc at) x y inside here all = absurd (omega arith)
zip_insert R [] (other ∷ ys) (suc at) x y inside here all = absurd all
zip_insert R (one ∷ xs) [] (suc at) x y inside here all = absurd all
zip_insert R (one ∷ xs) (other ∷ ys) (suc at) x y inside here all = (all.0, zip_insert R xs ys at x y (omega arith) here all.1)

-- one fewer
pub zip_remove : {A B : Type 0} (R : A → B → Type 0) (xs : List A) (ys : List B) (at : ℕ) → AllZip R xs ys → AllZip R (remove xs at) (remove ys at)
zip_remove R [] [] zero all = tt
zip_remove R [] [] (suc at) all = tt
zip_remove R [] (other ∷ ys) at all = absurd all
zip_remove R (one ∷ xs) [] at all = absurd all
zip_remove R (one ∷ xs) (other ∷ ys) zero all = all.1
zip_remove R (one ∷ xs) (other ∷ ys) (suc at) all = (all.0, zip_remove R xs ys at all.1)

-- as many
pub zip_length : {A B : Type 0} (R : A → B → Type 0) (xs : List A) (ys : List B) → AllZip R xs ys → length xs ≡ length ys
zip_length R [] [] all = refl
zip_length R [] (other ∷ ys) all = absurd all
zip_length R (one ∷ xs) [] all = absurd all
zip_length R (one ∷ xs) (other ∷ ys) all = ap suc (zip_length R xs ys all.1)

-- a mark that is not set says that the person there is not needed
pub free_at : (needed people : List Person) (marks : List Bool) (at : ℕ) (other : Person) → AllZip (Tells needed) people marks → at < length people
    → get_or marks at true ≡ false → IsAmong (get_or people at other) needed → ⊥
free_at needed [] marks at other all inside free = absurd (omega arith)
free_at needed (one ∷ people) [] at other all inside free = absurd all
free_at needed (one ∷ people) (false ∷ marks) zero other all inside free = all.0
free_at needed (one ∷ people) (true ∷ marks) zero other all inside free = absurd (let e : false ≡ true = sym free in cc)
free_at needed (one ∷ people) (mark ∷ marks) (suc at) other all inside free = free_at needed people marks at other all.1 (omega arith) free

-- where all marks are set all people are needed
pub all_needed : (needed people : List Person) (marks : List Bool) → AllZip (Tells needed) people marks → AreAllSet marks → AreAmong people needed
all_needed needed [] marks all set = tt
all_needed needed (one ∷ people) [] all set = absurd all
all_needed needed (one ∷ people) (true ∷ marks) all set = (all.0, all_needed needed people marks all.1 (λ k. set (suc k)))
all_needed needed (one ∷ people) (false ∷ marks) all set = absurd (let e : false ≡ true = set 0 in cc)

-- a person who is not needed is the last one whose mark is not set, or is better
pub last_is_worst : (list : ListId) (needed people : List Person) (marks : List Bool) (at : ℕ) (other : Person) → Pairwise (IsBetter list) people → AllZip (Tells needed) people marks
    → at < length people → IsLastFree marks at → (one : Person) → IsAmong one people → (IsAmong one needed → ⊥) → (one ≡ get_or people at other) ⊎ IsBetter list one (get_or people at other)
last_is_worst list needed [] marks at other order all inside last one there out = absurd there
last_is_worst list needed (first ∷ people) [] at other order all inside last one there out = absurd all
last_is_worst list needed (first ∷ people) (mark ∷ marks) zero other order all inside last one there out = elim there [
  | inl here ↦ inl here
  | inr later ↦ absurd (
      let set = all_needed needed people marks all.1 (λ k. last.later (suc k) (omega arith)) in
      let found = any_all (λ (each : Person). one ≡ each) (λ (each : Person). IsAmong each needed) people later set in
      out (subst (λ (each : Person). IsAmong each needed) (sym found.1) found.2))
]
last_is_worst list needed (first ∷ people) (mark ∷ marks) (suc at) other order all inside last one there out = elim there [
  | inl here ↦
      let found = any_all (λ (each : Person). get_or people at other ≡ each) (IsBetter list first) people (among_at people at other (omega arith)) order.0 in
      inr (subst (λ (each : Person). IsBetter list each (get_or people at other)) (sym here) (subst (IsBetter list first) (sym found.1) found.2))
  | inr later ↦ last_is_worst list needed people marks at other order.1 all.1 (omega arith)
      (record { free = last.free; later = λ k more. last.later (suc k) (omega arith) }) one later out
]

-- a place with a mark that is not set is a place
pub free_inside : (marks : List Bool) (at : ℕ) → get_or marks at true ≡ false → at < length marks
free_inside [] at free = absurd (let e : true ≡ false = sym (get_or_past [] at true (omega arith)) ∙ free in cc)
free_inside (mark ∷ marks) zero free = omega arith
free_inside (mark ∷ marks) (suc at) free = let inside = free_inside marks at free in omega arith

-- of distinct people the one at a place is taken out there
pub remove-without : (people : List Person) (at : ℕ) (other : Person) → AreDistinct people → at < length people → remove people at ≡ without (get_or people at other).id people
remove-without [] at other distinct inside = absurd (omega arith)
remove-without (one ∷ people) zero other distinct inside = sym (without_first one.id one people refl)
remove-without (one ∷ people) (suc at) other distinct inside =
    let found = any_all (λ (each : Person). get_or people at other ≡ each) (λ (each : Person). one.id ≢ each.id) people (among_at people at other (omega arith)) distinct.0 in
    let apart : one.id ≢ (get_or people at other).id = λ same. found.2 (same ∙ ap (λ (p : Person). p.id) found.1) in
    ap (λ (rest : List Person). one ∷ rest) (remove-without people at other distinct.1 (omega arith)) ∙ sym (without_later (get_or people at other).id one people apart)

-- the marks show other needed ones too, if these are the same of the people
pub told_again : (needed again people : List Person) (marks : List Bool) → ((one : Person) → IsAmong one people → IsAmong one needed → IsAmong one again)
    → ((one : Person) → IsAmong one people → IsAmong one again → IsAmong one needed) → AllZip (Tells needed) people marks → AllZip (Tells again) people marks
told_again needed again [] [] there back all = tt
told_again needed again [] (mark ∷ marks) there back all = absurd all
told_again needed again (one ∷ people) [] there back all = absurd all
told_again needed again (one ∷ people) (true ∷ marks) there back all =
    (there one (inl refl) all.0, told_again needed again people marks (λ each in_people. there each (inr in_people)) (λ each in_people. back each (inr in_people)) all.1)
told_again needed again (one ∷ people) (false ∷ marks) there back all =
    ((λ his. all.0 (back one (inl refl) his)), told_again needed again people marks (λ each in_people. there each (inr in_people)) (λ each in_people. back each (inr in_people)) all.1)

-- and where one of the needed, at a place, is so no longer, without the mark there
pub told_without : (needed again people : List Person) (marks : List Bool) (at : ℕ) (cand : CandId) (other : Person) → AreDistinct people → at < length people
    → (get_or people at other).id ≡ cand
    → ((one : Person) → IsAmong one people → one.id ≢ cand → IsAmong one needed → IsAmong one again)
    → ((one : Person) → IsAmong one people → IsAmong one again → IsAmong one needed × (one.id ≢ cand))
    → AllZip (Tells needed) people marks → AllZip (Tells again) people (set marks at false)
told_without needed again [] marks at cand other distinct inside who there back all = absurd (omega arith)
told_without needed again (one ∷ people) [] at cand other distinct inside who there back all = absurd all
told_without needed again (one ∷ people) (mark ∷ marks) zero cand other distinct inside who there back all = (
  (λ his. (back one (inl refl) his).1 who),
  told_again needed again people marks
      (λ each in_people mine. there each (inr in_people) (λ same.
      let found = any_all (λ (p : Person). each ≡ p) (λ (p : Person). one.id ≢ p.id) people in_people distinct.0 in
      found.2 (who ∙ sym same ∙ ap (λ (p : Person). p.id) found.1)) mine)
      (λ each in_people his. (back each (inr in_people) his).0) all.1,
)
told_without needed again (one ∷ people) (mark ∷ marks) (suc at) cand other distinct inside who there back all =
    let found = any_all (λ (each : Person). get_or people at other ≡ each) (λ (each : Person). one.id ≢ each.id) people (among_at people at other (omega arith)) distinct.0 in
    let apart : one.id ≢ cand = λ same. found.2 (same ∙ sym who ∙ ap (λ (p : Person). p.id) found.1) in (
      first mark apart all.0,
      told_without needed again people marks at cand other distinct.1 (omega arith) who
          (λ each in_people. there each (inr in_people)) (λ each in_people. back each (inr in_people)) all.1,
    )
  where
    first : (m : Bool) → (one.id ≢ cand) → Tells needed one m → Tells again one m
    first true apart his = there one (inl refl) apart his
    first false apart not_his = λ his. not_his (back one (inl refl) his).0
