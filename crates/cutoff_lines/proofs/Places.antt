-- People one after another, by their places in a list.
use Rattle.std.proofs.Common.{◌<◌, ℕ, zero, suc, List, [], ◌∷◌, length, take, drop, get_or, subst, inl, inr, arith}
use Rattle.std.specs.List.{AllByRecursion}
use Rattle.office_base.specs.Lists.{AnyByRecursion, IsAmong, Pairwise}
use Rattle.office_base.specs.Person.{IsBetter, number_in}
use Rattle.office_base.specs.declared.person.ListId.{ListId}
use Rattle.office_base.specs.declared.person.Person.{Person}
use Rattle.office_base.proofs.Lists.{all_among}
use Rattle.placements.proofs.Merit.{not_ahead, not_both_better}

-- the one at a place is one of them
pub any_get : (P : Person → Type 0) (people : List Person) (at : ℕ) (other : Person) → at < length people → P (get_or people at other) → AnyByRecursion P people
any_get P [] at other inside here = absurd (omega (arith, inside))
any_get P (person ∷ people) zero other inside here = inl here
any_get P (person ∷ people) (suc at) other inside here = inr (any_get P people at other (omega (arith, inside)) here)

pub all_get : (P : Person → Type 0) (people : List Person) (at : ℕ) (other : Person) → at < length people → AllByRecursion P people → P (get_or people at other)
all_get P [] at other inside all = absurd (omega (arith, inside))
all_get P (person ∷ people) zero other inside all = all.0
all_get P (person ∷ people) (suc at) other inside all = all_get P people at other (omega (arith, inside)) all.1

-- of those before a place each is in the relation to the one there
pub before_get : (R : Person → Person → Type 0) (people : List Person) (at : ℕ) (other : Person) → at < length people → Pairwise R people
    → AllByRecursion (λ earlier. R earlier (get_or people at other)) (take at people)
before_get R [] at other inside order = absurd (omega (arith, inside))
before_get R (person ∷ people) zero other inside order = tt
before_get R (person ∷ people) (suc at) other inside order =
    (all_get (R person) people at other (omega (arith, inside)) order.0, before_get R people at other (omega (arith, inside)) order.1)

-- of people in merit order the last one for whom P holds: nobody who is worse is one
pub last_get : (P : Person → Type 0) (list : ListId) (people : List Person) (at : ℕ) (other : Person) → at < length people → Pairwise (IsBetter list) people
    → AllByRecursion (λ one. P one → ⊥) (drop (suc at) people) → (one : Person) → IsAmong one people → P one → IsBetter list (get_or people at other) one → ⊥
last_get P list [] at other inside order none one here holds worse = absurd (omega (arith, inside))
last_get P list (person ∷ people) zero other inside order none one here holds worse = elim here [
  | inl same ↦ not_ahead (number_in list person) (subst (IsBetter list person) same worse)
  | inr later ↦ all_among (λ who. P who → ⊥) people one none later holds
]
last_get P list (person ∷ people) (suc at) other inside order none one here holds worse = elim here [
  | inl same ↦ not_both_better list person (get_or people at other) (all_get (IsBetter list person) people at other (omega (arith, inside)) order.0)
      (subst (IsBetter list (get_or people at other)) same worse)
  | inr later ↦ last_get P list people at other (omega (arith, inside)) order.1 none one later holds worse
]

-- from the next place on, and at this one
pub one_more : (P : Person → Type 0) (people : List Person) (at : ℕ) (other : Person) → at < length people → P (get_or people at other) → AllByRecursion P (drop (suc at) people)
    → AllByRecursion P (drop at people)
one_more P [] at other inside here later = absurd (omega (arith, inside))
one_more P (person ∷ people) zero other inside here later = (here, later)
one_more P (person ∷ people) (suc at) other inside here later = one_more P people at other (omega (arith, inside)) here later
