-- The way down the people: the pairs so far, and what is left.
use Rattle.std.proofs.Common.{◌≡◌, ◌-◌, ℕ, List, [], ◌∷◌, ◌++◌, length, Option, Some, None, sym, ◌∙◌, subst, append_assoc}
use Rattle.std.proofs.lemmas.List.{append-nil}
use Rattle.office_base.specs.Certificate.{IsCanonical}
use Rattle.std.specs.List.{AllByRecursion}
use Rattle.office_base.specs.Person.{IsTraitSet}
use Rattle.office_base.specs.declared.person.Person.{Person}
use Rattle.office_base.specs.declared.step.Pair.{Pair}
use Rattle.office_base.specs.declared.step.Protections.{Protections}
use Rattle.placements.specs.Greatest.{one_less}
use Rattle.placements.specs.Slots.{pairs_of}
use Rattle.placements.specs.Ranks.{AreDistinct}
use Rattle.slot_cert.specs.Bounds.{IsLeastBound}
use Rattle.slot_cert.specs.First.{IsFirstChoice, AreFirstSlots}
use Rattle.slot_cert.specs.Search.{IsSearch, Moves}
use Rattle.slot_cert.specs.declared.canonical.Search.{Search}
use Rattle.slot_cert.proofs.First.{IsCanonical-first}

-- the pairs so far, before the pairs of any first slots of those who follow, are the pairs of first slots of all
pub record IsOnTheWay (protections : Protections) (people : List Person) (pairs : List Pair) (room : Protections) (rest : List Person) (most : ℕ) : Type 0 where
  pub start : ℕ
  pub least : IsLeastBound protections people start
  pub way : (slots : List (Option ℕ)) → AreFirstSlots room rest most slots
      → (all : List (Option ℕ)) × AreFirstSlots protections people start all × (pairs_of people all ≡ pairs ++ pairs_of rest slots)

-- the next one is passed over
pub IsOnTheWay-passed : (protections : Protections) (people : List Person) (pairs : List Pair) (room : Protections) (person : Person) (rest : List Person) (most : ℕ)
    → IsFirstChoice room rest most person.traits None → IsOnTheWay protections people pairs room (person ∷ rest) most → IsOnTheWay protections people pairs room rest most
IsOnTheWay-passed protections people pairs room person rest most choice on = record {
  start = on.start;
  least = on.least;
  way = λ slots first. on.way (None ∷ slots) (choice, first);
}

-- the next one is placed
pub IsOnTheWay-placed : (protections : Protections) (people : List Person) (pairs : List Pair) (room : Protections) (person : Person) (rest : List Person) (most t : ℕ)
    → IsFirstChoice room rest most person.traits (Some t) → IsOnTheWay protections people pairs room (person ∷ rest) most
    → IsOnTheWay protections people (pairs ++ record { cand = person.id; slot = t } ∷ []) (one_less room t) rest (most - 1)
IsOnTheWay-placed protections people pairs room person rest most t choice on = record {
  start = on.start;
  least = on.least;
  way = λ slots first.
      let all = on.way (Some t ∷ slots) (choice, first) in
      (all.0, all.1, all.2 ∙ sym (append_assoc pairs (record { cand = person.id; slot = t } ∷ []) (pairs_of rest slots)));
}

-- nobody is left
pub IsCanonical-at_end : (protections : Protections) (people : List Person) (pairs : List Pair) (room : Protections) (most : ℕ) → length protections.counts ≡ 6
    → AreDistinct people → AllByRecursion (λ person. IsTraitSet person.traits) people → IsOnTheWay protections people pairs room [] most
    → IsCanonical protections people pairs
IsCanonical-at_end protections people pairs room most six apart traits on =
    let all = on.way [] tt in
    subst (IsCanonical protections people) (all.2 ∙ append-nil pairs) (IsCanonical-first protections people on.start all.0 six apart traits on.least all.1)

-- the pair of the next one, if placed
abbrev pub pair_of : Person → Option ℕ → List Pair
pair_of person None = []
pair_of person (Some t) = record { cand = person.id; slot = t } ∷ []

-- the search moves past the next one
pub IsOnTheWay-next : (protections : Protections) (people : List Person) (pairs more : List Pair) (old new : Search) (whole rest : List Person) (slot : Option ℕ) {person : Person}
    → ((others : List Person) → IsSearch old (person ∷ others) → IsFirstChoice old.room others old.most person.traits slot)
    → ((others : List Person) → IsSearch old (person ∷ others) → IsSearch new others)
    → Moves old slot new → whole ≡ person ∷ rest → more ≡ pairs ++ pair_of person slot
    → IsSearch old whole → IsOnTheWay protections people pairs old.room whole old.most
    → IsSearch new rest × IsOnTheWay protections people more new.room rest new.most
IsOnTheWay-next protections people pairs more old new whole rest None {person} choice search moves split added here on =
    let at = subst (IsSearch old) split here in
    let way = subst (λ (l : List Person). IsOnTheWay protections people pairs old.room l old.most) split on in
    let passed = IsOnTheWay-passed protections people pairs old.room person rest old.most (choice rest at) way in
    (search rest at, rw (added, append-nil, moves.0, moves.1) passed)
IsOnTheWay-next protections people pairs more old new whole rest (Some t) {person} choice search moves split added here on =
    let at = subst (IsSearch old) split here in
    let way = subst (λ (l : List Person). IsOnTheWay protections people pairs old.room l old.most) split on in
    let placed = IsOnTheWay-placed protections people pairs old.room person rest old.most t (choice rest at) way in
    (search rest at, rw (added, moves.0, moves.1) placed)
