-- Who is found by a number, and at which place.
use Rattle.std.proofs.Common.{◌≡◌, ◌+◌, ◌⊎◌, inl, inr, ℕ, suc, Bool, true, false, List, [], ◌∷◌, Option, Some, None, arith, refl, sym, ap, ◌∙◌, ◌==◌, if◌then◌else◌}
use Rattle.std.specs.Prelude.{is_some, option_map}
use Rattle.std.proofs.lemmas.Bool.{eqb-true}
use Rattle.office_base.specs.declared.person.Person.{Person}
use Rattle.rank_lists.specs.Register.{find_person, row_of}

-- The place is the first one, or a later one.
pub row_cases : (b : Bool) (rest : Option ℕ) (at : ℕ) → (if b then Some 0 else option_map (λ n. n + 1) rest) ≡ Some at
    → ((b ≡ true) × (at ≡ 0)) ⊎ ((n : ℕ) × (b ≡ false) × (rest ≡ Some n) × (at ≡ suc n))
row_cases true rest at e = inl (refl, cc)
row_cases false None at e = absurd (cc)
row_cases false (Some n) at e = inr (n, refl, refl, let same : n + 1 ≡ at = cc in omega (arith, same))

-- There is no place: it is neither the first one nor a later one.
pub none_when : (b : Bool) (rest : Option ℕ) → (if b then Some 0 else option_map (λ n. n + 1) rest) ≡ None → (b ≡ false) × (rest ≡ None)
none_when true rest e = absurd (cc)
none_when false None e = (refl, refl)
none_when false (Some n) e = absurd (cc)

known_when : (b : Bool) (p : Person) (rest : Option ℕ) (found : Option Person) (at : ℕ) → (if b then Some 0 else option_map (λ n. n + 1) rest) ≡ Some at
    → ((n : ℕ) → rest ≡ Some n → is_some found ≡ true) → is_some (if b then Some p else found) ≡ true
known_when true p rest found at e later = refl
known_when false p None found at e later = absurd (cc)
known_when false p (Some n) found at e later = later n refl

-- A number with a place is somebody's.
pub known : (id : ℕ) (people : List Person) (at : ℕ) → row_of id people ≡ Some at → is_some (find_person id people) ≡ true
known id [] at e = absurd (cc)
known id (p ∷ people) at e = known_when (id == p.id.0) p (row_of id people) (find_person id people) at e (λ n rest. known id people n rest)

-- The person who is found by a number has it.
pub found_id : (id : ℕ) (people : List Person) (person : Person) → find_person id people ≡ Some person → person.id.0 ≡ id
found_id id [] person e = absurd (cc)
found_id id (p ∷ people) person e = by (found_id id people person) (id == p.id.0) refl e
  where
    by : (find_person id people ≡ Some person → person.id.0 ≡ id) → (b : Bool) → (id == p.id.0) ≡ b → (if b then Some p else find_person id people) ≡ Some person → person.id.0 ≡ id
    by next true is h = let same : p ≡ person = cc in sym (ap (λ (q : Person). q.id.0) same) ∙ sym (eqb-true id p.id.0 is)
    by next false is h = next h
