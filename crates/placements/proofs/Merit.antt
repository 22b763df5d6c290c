-- The order of two by merit.
use Rattle.std.proofs.Common.{◌≡◌, ℕ, suc, List, [], ◌∷◌, length, Option, Some, None, true, false, cond, refl, ap, arith}
use Rattle.std.proofs.lemmas.Bool.{ltb-true}
use Rattle.office_base.specs.Merit.{is_ahead, is_better, with_person}
use Rattle.office_base.specs.Person.{IsAhead, IsBetter, number_in}
use Rattle.office_base.specs.declared.person.ListId.{ListId}
use Rattle.office_base.specs.declared.person.Person.{Person}

-- a number that the test finds ahead is ahead
pub ahead_true : (first second : Option ℕ) → is_ahead first second ≡ true → IsAhead first second
ahead_true None second told = absurd (let e : false ≡ true = told in cc)
ahead_true (Some m) None told = absurd (let e : false ≡ true = told in cc)
ahead_true (Some m) (Some n) told = ltb-true m n told

-- nobody is ahead of themselves
pub not_ahead : (first : Option ℕ) → IsAhead first first → ⊥
not_ahead None ahead = ahead
not_ahead (Some m) ahead = absurd (omega arith)

-- ahead of one who is ahead is ahead
pub ahead_again : (first second third : Option ℕ) → IsAhead first second → IsAhead second third → IsAhead first third
ahead_again None second third one two = absurd one
ahead_again (Some m) None third one two = absurd one
ahead_again (Some m) (Some n) None one two = absurd two
ahead_again (Some m) (Some n) (Some k) one two = omega arith

-- Of two, not each is ahead of the other.
pub not_both_ahead : (first second : Option ℕ) → IsAhead first second → IsAhead second first → ⊥
not_both_ahead first second there back = not_ahead first (ahead_again first second first there back)

pub not_both_better : (list : ListId) (a b : Person) → IsBetter list a b → IsBetter list b a → ⊥
not_both_better list a b = not_both_ahead (number_in list a) (number_in list b)

-- With one person more, people are one more.
pub length_with : (list : ListId) (person : Person) (people : List Person) → length (with_person list person people) ≡ suc (length people)
length_with list person [] = refl
length_with list person (other ∷ people) =
    elim (is_better list person other) as (λ b. length (cond b (person ∷ other ∷ people) (other ∷ with_person list person people)) ≡ suc (suc (length people))) [
      | true ↦ refl
      | false ↦ ap suc (length_with list person people)
    ]
