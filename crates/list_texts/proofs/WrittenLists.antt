-- A text can spell a list as it is published.
use Rattle.std.proofs.Common.{◌≡◌, ◌≢◌, ◌<◌, ℕ, false, List, [], ◌∷◌, ◌++◌, Some, None, IfSome, length, map, get_or, drop, refl, sym, inl, inr, ap, subst, ◌∙◌, arith}
use Rattle.std.specs.List.{AllByRecursion}
use Rattle.office_base.specs.Lists.{IsSublist, Pairwise}
use Rattle.office_base.specs.declared.person.CandId.{CandId}
use Rattle.office_base.specs.declared.person.Person.{Person}
use Rattle.office_base.specs.declared.step.Pair.{Pair}
use Rattle.rank_lists.specs.Register.{find_person}
use Rattle.list_texts.specs.Laws.{ListsAreTold}
use Rattle.list_texts.specs.Listing.{AreEntries, Entry, is_listed, pairs_of, persons_of}
use Rattle.list_texts.proofs.FreeLemmas.{listed-other}

-- rows of these persons with these pairs
record AreRowsOf (admitted : List Person) (pairs : List Pair) : Type 0 where
  entries : List Entry
  persons : persons_of entries ≡ admitted
  pairs' : pairs_of entries ≡ pairs
  slots : AllByRecursion (λ entry. IfSome entry.1 (λ t. t < 6)) entries

abbrev pair_with : CandId → ℕ → Pair
pair_with cand slot = record { cand = cand; slot = slot }

head-same : (a b : CandId) (xs ys : List CandId) → a ∷ xs ≡ b ∷ ys → a ≡ b
head-same a b xs ys e = ap (λ (z : List CandId). get_or z 0 a) e

tail-same : (a b : CandId) (xs ys : List CandId) → a ∷ xs ≡ b ∷ ys → xs ≡ ys
tail-same a b xs ys e = ap (λ (z : List CandId). drop 1 z) e

rows-along : (admitted : List Person) (pairs : List Pair) → IsSublist (map (λ pair. pair.cand) pairs) (map (λ person. person.id) admitted) → AllByRecursion (λ pair. pair.slot < 6) pairs → AreRowsOf admitted pairs
rows-along [] [] sub slots = record { entries = []; persons = refl; pairs' = refl; slots = tt }
rows-along [] (pair ∷ pairs) sub slots = absurd (omega (arith, ap length sub))
rows-along (person ∷ admitted) pairs (inl sub) slots =
    let r = rows-along admitted pairs sub slots in
    record { entries = (person, None) ∷ r.entries; persons = ap (λ z. person ∷ z) r.persons; pairs' = r.pairs'; slots = (tt, r.slots) }
rows-along (person ∷ admitted) [] (inr (rest, e, sub)) slots = absurd (omega (arith, ap length e))
rows-along (person ∷ admitted) (pair ∷ pairs) (inr (rest, e, sub)) slots =
    let cand = head-same pair.cand person.id (map (λ p. p.cand) pairs) rest e in
    let later = tail-same pair.cand person.id (map (λ p. p.cand) pairs) rest e in
    let r = rows-along admitted pairs (subst (λ z. IsSublist z (map (λ p. p.id) admitted)) (sym later) sub) slots.1 in
    record {
      entries = (person, Some pair.slot) ∷ r.entries;
      persons = ap (λ z. person ∷ z) r.persons;
      pairs' = ap (λ z. pair_with person.id pair.slot ∷ z) r.pairs' ∙ ap (λ z. pair_with z pair.slot ∷ pairs) (sym cand);
      slots = (slots.0, r.slots);
    }

-- who is no other than the last is new to the persons with this one too
new-more : (used : List Person) (p : Person) (people : List Person) → AllByRecursion (λ q. p.id ≢ q.id) people → AllByRecursion (λ person. is_listed person.id.0 used ≡ false) people
    → AllByRecursion (λ person. is_listed person.id.0 (used ++ p ∷ []) ≡ false) people
new-more used p [] other new = tt
new-more used p (q ∷ people) other new =
    let cand : ℕ → CandId = λ n. record { 0 = n } in
    (listed-other q.id.0 used p (λ same. other.0 (ap cand (sym same))) ∙ new.0, new-more used p people other.1 new.1)

entries-are : (people used : List Person) (entries : List Entry) → AllByRecursion (λ person. find_person person.id.0 people ≡ Some person) (persons_of entries) → Pairwise (λ a b. a.id ≢ b.id) (persons_of entries)
    → AllByRecursion (λ person. is_listed person.id.0 used ≡ false) (persons_of entries) → AllByRecursion (λ entry. IfSome entry.1 (λ t. t < 6)) entries → AreEntries people used entries
entries-are people used [] known distinct new slots = tt
entries-are people used (entry ∷ entries) known distinct new slots =
    (record { known = known.0; new = new.0; slot = slots.0 }, entries-are people (used ++ entry.0 ∷ []) entries known.1 distinct.1 (new-more used entry.0 (persons_of entries) distinct.0 new.1) slots.1)

none-listed : (people : List Person) → AllByRecursion (λ person. is_listed person.id.0 [] ≡ false) people
none-listed [] = tt
none-listed (p ∷ people) = (refl, none-listed people)

pub lists-told : ListsAreTold
lists-told people kind list is =
    let r = rows-along list.admitted list.cert.pairs is.in_order is.slots in
    record {
      named = is.named;
      seats = is.seats;
      candidates = is.candidates;
      entries = r.entries;
      are = entries-are people [] r.entries (subst (AllByRecursion (λ person. find_person person.id.0 people ≡ Some person)) (sym r.persons) is.known) (subst (Pairwise (λ a b. a.id ≢ b.id)) (sym r.persons) is.distinct)
          (none-listed (persons_of r.entries)) r.slots;
      admitted = sym r.persons;
      pairs = sym r.pairs';
      none = is.none;
    }
