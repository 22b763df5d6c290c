-- Marks along the people of a step, one for each of them in their order: who is needed for the protections, and whom the seats take.
use Rattle.std.specs.Prelude.{◌≡◌, ℕ, zero, suc, List, [], ◌∷◌, Bool, true, false, if◌then◌else◌}
use Rattle.office_base.specs.Placement.{IsHonoured}
use Rattle.office_base.specs.declared.person.Person.{Person}
use Rattle.office_base.specs.declared.step.Protections.{Protections}
use Rattle.placements.specs.Ranks.{CanBePlaced}
use Rattle.slot_matching.specs.Kept.{Kept, with_member}

-- how many of the marks are set
abbrev pub marked : List Bool → ℕ
marked [] = 0
marked (true ∷ marks) = suc (marked marks)
marked (false ∷ marks) = marked marks

-- those whose mark is set
abbrev pub kept : {X : Type 0} → List X → List Bool → List X
kept [] marks = []
kept (x ∷ xs) [] = []
kept (x ∷ xs) (true ∷ marks) = x ∷ kept xs marks
kept (x ∷ xs) (false ∷ marks) = kept xs marks

-- the marks, and so many more of the first that were not set
abbrev pub filled_up : List Bool → ℕ → List Bool
filled_up [] free = []
filled_up (true ∷ marks) free = true ∷ filled_up marks free
filled_up (false ∷ marks) zero = false ∷ filled_up marks zero
filled_up (false ∷ marks) (suc free) = true ∷ filled_up marks free

-- whether a person raises the number that the people before honour
abbrev pub IsRaise : Protections → List Person → Person → Bool → Type 0
IsRaise protections before person true = (n : ℕ) → IsHonoured protections before n → IsHonoured protections (person ∷ before) (suc n)
IsRaise protections before person false = (n : ℕ) → IsHonoured protections before n → IsHonoured protections (person ∷ before) n

-- one mark for each of the people: whether the person raises the number that those before honour
abbrev pub AreRaises : Protections → List Person → List Person → List Bool → Type 0
AreRaises protections before [] [] = Unit {0}
AreRaises protections before [] (mark ∷ marks) = ⊥
AreRaises protections before (person ∷ people) [] = ⊥
AreRaises protections before (person ∷ people) (mark ∷ marks) = IsRaise protections before person mark × AreRaises protections (person ∷ before) people marks

-- one mark for each of the people: whether the person raises the number that those honour who were marked before
abbrev pub AreMarkedByHand : Protections → List Person → List Person → List Bool → Type 0
AreMarkedByHand protections before [] [] = Unit {0}
AreMarkedByHand protections before [] (mark ∷ marks) = ⊥
AreMarkedByHand protections before (person ∷ people) [] = ⊥
AreMarkedByHand protections before (person ∷ people) (mark ∷ marks) =
    IsRaise protections before person mark × AreMarkedByHand protections (if mark then person ∷ before else before) people marks

-- The person joined the members of a matching exactly where the members can all be placed with the person.
abbrev pub IsJoined : Kept → Person → Bool → Kept → Type 0
IsJoined before person true after = CanBePlaced before.protections (with_member before person).members × (after ≡ with_member before person)
IsJoined before person false after = (¬ CanBePlaced before.protections (with_member before person).members) × (after ≡ before)
