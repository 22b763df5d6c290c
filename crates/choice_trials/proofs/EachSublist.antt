-- `sublists_of` has each sublist, and nothing else.
use Rattle.std.proofs.Common.{◌≡◌, List, [], ◌∷◌, map, refl, sym, subst, inl, inr, ⊎_elim, All}
use Rattle.std.proofs.lemmas.List.Elements.{All-append, All-map, All-nil, All-cons, All-weaker}
use Rattle.std.specs.List.{AllByRecursion}
use Rattle.office_base.specs.Lists.{IsSublist}
use Rattle.office_base.specs.declared.person.Person.{Person}
use Rattle.office_base.proofs.Lists.{all_left, all_right}
use Rattle.choice_trials.specs.Sublists.{sublists_of}

-- with one more in front on both sides it is a sublist still
sublist-cons : (person : Person) (people set : List Person) → IsSublist set people → IsSublist (person ∷ set) (person ∷ people)
sublist-cons person people set h = inr (set, refl, h)

-- each of the sets is a sublist
pub sublists_of-only : (people : List Person) → All (λ set. IsSublist set people) (sublists_of people)
sublists_of-only [] = All-cons (λ set. IsSublist set []) [] [] refl (All-nil (λ set. IsSublist set []))
sublists_of-only (person ∷ people) =
    let P : List Person → Type 0 = λ set. IsSublist set (person ∷ people) in
    let only = sublists_of-only people in
    All-append P (sublists_of people) (map (λ set. person ∷ set) (sublists_of people))
    (All-weaker (λ set. IsSublist set people) P (λ set h. inl h) (sublists_of people) only)
    (All-map P (λ set. person ∷ set) (sublists_of people) (All-weaker (λ set. IsSublist set people) (λ set. P (person ∷ set)) (sublist-cons person people) (sublists_of people) only))

-- what holds of each image holds of the element before
all_before : {X : Type 0} (P : X → Type 0) (f : X → X) (xs : List X) → AllByRecursion P (map f xs) → AllByRecursion (λ x. P (f x)) xs
all_before P f [] h = tt
all_before P f (x ∷ xs) h = (h.0, all_before P f xs h.1)

-- what holds of each of the sets holds of every sublist
pub sublists_of-each : (people : List Person) (P : List Person → Type 0) → AllByRecursion P (sublists_of people)
    → (set : List Person) → IsSublist set people → P set
sublists_of-each [] P h set sub = subst P (sym sub) h.0
sublists_of-each (person ∷ people) P h set sub = ⊎_elim
    (λ (k : IsSublist set people). sublists_of-each people P (all_left P (sublists_of people) _ h) set k)
    (λ (k : (rest : List Person) × (set ≡ person ∷ rest) × IsSublist rest people). subst P (sym k.1)
    (sublists_of-each people (λ l. P (person ∷ l)) (all_before P (λ l. person ∷ l) (sublists_of people) (all_right P (sublists_of people) _ h)) k.0 k.2))
    sub
