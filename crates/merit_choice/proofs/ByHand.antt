-- Going down the people by hand: a person who raises the number that those marked before honour raises the number of
-- all before.
use Rattle.std.proofs.Common.{Bool, true, false, List, [], ◌∷◌, length, refl, inl, arith}
use Rattle.office_base.specs.Placement.{IsHonoured}
use Rattle.office_base.specs.declared.person.Person.{Person}
use Rattle.office_base.specs.declared.step.Protections.{Protections}
use Rattle.placements.specs.Ranks.{AreAmong, AreDistinct, CanBePlaced}
use Rattle.placements.proofs.Ranks.{among_longer, no_more_than_people, taken, refused}
use Rattle.merit_choice.specs.Laws.{ByHand, MarksByHand}
use Rattle.merit_choice.specs.Marks.{IsRaise, AreRaises, AreMarkedByHand}
use Rattle.merit_choice.proofs.Raises.{AreNew, apart_part, new-from_nobody, raise-exists, raise_from, no_raise_from, honoured_nobody}
use Rattle.merit_choice.proofs.Filled.{best_with-is_choice}

-- people who can all be placed honour as many as they are
pub honoured_placed : (protections : Protections) (people : List Person) → CanBePlaced protections people → IsHonoured protections people (length people)
honoured_placed protections people can = record { reached = can; most = λ pairs p. no_more_than_people protections people pairs p }

-- nobody can be placed, all of them
pub placed_nobody : (protections : Protections) → CanBePlaced protections []
placed_nobody protections = ([], record { held = tt; once = tt; within = λ t. omega arith }, refl)

-- the marks by hand say who raises the number of all before
raises_by_hand : (protections : Protections) (chosen before people : List Person) (marks : List Bool) → AreNew people before → AreAmong chosen before
    → CanBePlaced protections chosen → IsHonoured protections before (length chosen) → AreMarkedByHand protections chosen people marks → AreRaises protections before people marks
raises_by_hand protections chosen before [] [] new among can was told = tt
raises_by_hand protections chosen before [] (mark ∷ marks) new among can was told = absurd told
raises_by_hand protections chosen before (person ∷ people) [] new among can was told = absurd told
raises_by_hand protections chosen before (person ∷ people) (true ∷ marks) new among can was told =
    let up = told.0 (length chosen) (honoured_placed protections chosen can) in
    let all : CanBePlaced protections (person ∷ chosen) = (up.reached.0, up.reached.1, up.reached.2) in
    let now = taken protections person chosen before among was all in (
      raise_from protections before person (length chosen) was now,
      raises_by_hand protections (person ∷ chosen) (person ∷ before) people marks new.1 (inl refl, among_longer person chosen before among) all now told.1,
    )
raises_by_hand protections chosen before (person ∷ people) (false ∷ marks) new among can was told =
    let same = told.0 (length chosen) (honoured_placed protections chosen can) in
    let cannot : CanBePlaced protections (person ∷ chosen) → ⊥ = λ all. let most = same.most all.0 all.1 in absurd (omega (arith, all.2)) in
    let now = refused protections person chosen before new.0 among can was cannot in (
      no_raise_from protections before person (length chosen) was now,
      raises_by_hand protections chosen (person ∷ before) people marks new.1 (among_longer person chosen before among) can now told.1,
    )

pub by_hand : ByHand
by_hand step marks ok told =
    best_with-is_choice step marks ok (raises_by_hand step.protections [] [] step.people marks (new-from_nobody step.people ok.people.distinct) tt
    (placed_nobody step.protections) (honoured_nobody step.protections) told)

-- so people can be marked
marks_down : (protections : Protections) (chosen before people : List Person) → AreNew people before → AreDistinct chosen → AreAmong chosen before
    → (marks : List Bool) × AreMarkedByHand protections chosen people marks
marks_down protections chosen before [] new own among = ([], tt)
marks_down protections chosen before (person ∷ people) new own among =
    let apart : AreDistinct (person ∷ chosen) = (apart_part person chosen before among new.0.0, own) in
    let first = raise-exists protections chosen person apart in
    let rest : IsRaise protections chosen person first.0 → (marks : List Bool) × AreMarkedByHand protections chosen (person ∷ people) marks =
    elim first.0 as (λ mark. IsRaise protections chosen person mark → (marks : List Bool) × AreMarkedByHand protections chosen (person ∷ people) marks) [
      | true ↦ (λ raise.
          let rest = marks_down protections (person ∷ chosen) (person ∷ before) people new.1 apart (inl refl, among_longer person chosen before among) in
          (true ∷ rest.0, (raise, rest.1)))
      | false ↦ (λ raise.
          let rest = marks_down protections chosen (person ∷ before) people new.1 own (among_longer person chosen before among) in
          (false ∷ rest.0, (raise, rest.1)))
    ] in
    rest first.1

pub marks_by_hand : MarksByHand
marks_by_hand step ok = marks_down step.protections [] [] step.people (new-from_nobody step.people ok.people.distinct) tt tt
