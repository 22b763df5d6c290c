-- The grammar of the register: what a row gives behind the entries of the rows before it, or what is wrong with it.
use Rattle.std.specs.Prelude.{◌≡◌, ◌<◌, ◌≤◌, ◌+◌, ℕ, Bool, true, false, ◌==◌, ◌&&◌, ◌||◌, nat_le, List, [], ◌∷◌, is_some, IsSome, IsTrue, Option, Some, None, Result, Ok, length, map, slice_index_or, bytes_eq, codes, option_map, if◌then◌else◌}
use Rattle.std.specs.Cmp.Lexicographic.{slice_cmp}
use Rattle.std.specs.FinMap.{is_sorted}
use Rattle.std.specs.List.Sorted.{IsStrictlySortedBy}
use Rattle.std.specs.Map.{keys_of}
use Rattle.std.specs.Ordering.{nat_cmp}
use Rattle.office_base.specs.Codes.{is_token}
use Rattle.office_base.specs.Limits.{last_id, most_candidates}
use Rattle.office_base.specs.Lists.{Pairwise}
use Rattle.office_base.specs.Person.{number_of, place_in, IsBetter, IsTraitSet}
use Rattle.office_base.specs.declared.person.CandId.{CandId}
use Rattle.office_base.specs.declared.person.Category.{Category}
use Rattle.office_base.specs.declared.person.Category.TheVariants.{Gen}
use Rattle.office_base.specs.declared.person.ListId.{ListId}
use Rattle.office_base.specs.declared.person.Person.{Person}
use Rattle.office_base.specs.declared.person.Place.{Place}
use Rattle.office_base.specs.declared.person.Place.TheVariants.{Absent, Common, Relaxed}
use Rattle.office_text.specs.Number.{number_within}
use Rattle.office_text.specs.Traits.{traits_of}
use Rattle.section_rows.specs.Rows.{Row, field}
use Rattle.section_rows.specs.Steps.{after, first_of, needs, unless}
use Rattle.section_rows.specs.Table.{Given, IsTableFault, Reading, table_of}
use Rattle.section_rows.specs.declared.fault.TableFault.{TableFault}
use Rattle.rank_lists.specs.Fields.{category_of, place_of}
use Rattle.rank_lists.specs.declared.entry.Entry.{Entry}
use Rattle.rank_lists.specs.declared.fault.RankKind.{RankKind}
use Rattle.rank_lists.specs.declared.fault.RankKind.TheVariants.{BadHeader, BadId, RepeatedId, BadCategory, BadTrait, BadPlace, RepeatedPlace, RelaxedGeneral, BadToken, TooMany}

-- the fields of the header
abbrev pub header : Row
header = codes "id" ∷ codes "category" ∷ codes "traits" ∷ codes "token" ∷ codes "m1" ∷ codes "m2" ∷ codes "m3" ∷ codes "m4" ∷ []

-- the person of this id
abbrev pub person_at : ℕ → List Entry → Option Person
person_at id entries = first_of (λ entry. id == entry.person.id.0) (λ entry. entry.person) entries

-- the candidate of this token
abbrev pub holder_at : List ℕ → List Entry → Option CandId
holder_at token entries = first_of (λ entry. bytes_eq token entry.token) (λ entry. entry.person.id) entries

-- the number is there and is this one
abbrev pub is_number : ℕ → Option ℕ → Bool
is_number n None = false
is_number n (Some m) = n == m

-- the place in the list of this number, from 0
abbrev pub place_at : List Place → ℕ → Place
place_at places list = slice_index_or places list Absent

-- an entry has this number in the list
abbrev pub is_taken : ℕ → ℕ → List Entry → Bool
is_taken list n [] = false
is_taken list n (entry ∷ entries) = is_number n (number_of (place_at entry.person.places list)) || is_taken list n entries

-- the number is there and is taken in the list
abbrev pub repeats : ℕ → Option ℕ → List Entry → Bool
repeats list None entries = false
repeats list (Some n) entries = is_taken list n entries

-- the place is relaxed
abbrev pub is_relaxed : Place → Bool
is_relaxed Absent = false
is_relaxed (Common n) = false
is_relaxed (Relaxed n) = true

-- the general category
abbrev pub is_general : Category → Bool
is_general Gen = true
is_general category = false

-- a new id: the number of candidates, the spelling of the id, and the ids of the entries
abbrev pub new_id : List Entry → Row → Result ℕ RankKind
new_id entries row =
    unless (nat_le most_candidates (length entries)) TooMany
    (needs (number_within 1 last_id (field row 0)) BadId (λ id. unless (is_some (person_at id entries)) RepeatedId (Ok id)))

-- four places, where each is spelled and no field follows
abbrev pub places_of : Row → Result (List Place) RankKind
places_of row =
    needs (place_of (field row 4)) BadPlace (λ first. needs (place_of (field row 5)) BadPlace (λ second. needs (place_of (field row 6)) BadPlace
    (λ third. needs (place_of (field row 7)) BadPlace (λ fourth. unless (nat_le 9 (length row)) BadPlace (Ok (first ∷ second ∷ third ∷ fourth ∷ []))))))

-- one of the numbers is taken in its list
abbrev pub any_repeats : List Place → List Entry → Bool
any_repeats places entries =
    repeats 0 (number_of (place_at places 0)) entries || repeats 1 (number_of (place_at places 1)) entries
    || repeats 2 (number_of (place_at places 2)) entries || repeats 3 (number_of (place_at places 3)) entries

-- one of the places is relaxed
abbrev pub any_relaxed : List Place → Bool
any_relaxed places = is_relaxed (place_at places 0) || is_relaxed (place_at places 1) || is_relaxed (place_at places 2) || is_relaxed (place_at places 3)

-- the token that a text spells
abbrev pub token_of : List ℕ → Option (List ℕ)
token_of text = if is_token text then Some text else None

-- a new token
abbrev pub new_token : List Entry → List ℕ → Result (List ℕ) RankKind
new_token entries text = needs (token_of text) BadToken (λ token. unless (is_some (holder_at token entries)) BadToken (Ok token))

-- What a row gives behind these entries, or the first of its faults.
unfoldable pub reading : Reading Entry RankKind
reading entries row =
    after (new_id entries row) (λ id. needs (category_of (field row 1)) BadCategory (λ category. needs (traits_of (field row 2)) BadTrait (λ traits.
    after (places_of row) (λ places. unless (any_repeats places entries) RepeatedPlace (unless (is_general category && any_relaxed places) RelaxedGeneral
    (after (new_token entries (field row 3)) (λ token.
    Ok (record { person = record { id = record { 0 = id }; category = category; traits = record { 0 = traits }; places = places }; token = token }))))))))

-- the entries of a register's rows, or the first fault
abbrev pub entries_of : List Row → Given Entry RankKind
entries_of rows = table_of BadHeader header reading rows

-- what a register knows: its people, and who holds which token
pub record Ranks : Type 0 where
  pub people : List Person
  pub holders : List (List ℕ × CandId)

-- the person of this id
abbrev pub find_person : ℕ → List Person → Option Person
find_person id people = first_of (λ person. id == person.id.0) (λ person. person) people

-- the position of the person of this id among the people, from 0
abbrev pub row_of : ℕ → List Person → Option ℕ
row_of id [] = None
row_of id (person ∷ people) = if id == person.id.0 then Some 0 else option_map (λ n. n + 1) (row_of id people)

-- the candidate of this token
abbrev pub find_holder : List ℕ → List (List ℕ × CandId) → Option CandId
find_holder token holders = first_of (λ held. bytes_eq token held.0) (λ held. held.1) holders

-- The register of these entries: their people in rising order of id, and their tokens in rising order of bytes.
pub record IsRegister (entries : List Entry) (ranks : Ranks) : Type 0 where
  pub rising : Pairwise (λ a b. a.id.0 < b.id.0) ranks.people
  pub people : (id : ℕ) → find_person id ranks.people ≡ person_at id entries
  pub sorted : IsTrue (is_sorted (slice_cmp nat_cmp) ranks.holders)
  pub holders : (token : List ℕ) → find_holder token ranks.holders ≡ holder_at token entries

-- this number of a list is one person's alone
abbrev pub AreApart : (ℕ → Option Person) → Type 0
AreApart person = (i j list n : ℕ) (a b : Person) → person i ≡ Some a → person j ≡ Some b
    → number_of (place_at a.places list) ≡ Some n → number_of (place_at b.places list) ≡ Some n → i ≡ j

-- a candidate's number, traits and places are within their ranges, and a general candidate has no relaxed place
pub record IsRegistered (person : Person) : Type 0 where
  pub low : 1 ≤ person.id.0
  pub high : person.id.0 ≤ last_id
  pub traits : IsTraitSet person.traits
  pub general : (is_general person.category && any_relaxed person.places) ≡ false

-- What holds of the entries of every register.
pub record AreEntries (entries : List Entry) : Type 0 where
  pub few : length entries ≤ most_candidates
  pub apart : AreApart (λ id. person_at id entries)
  pub registered : (id : ℕ) (person : Person) → person_at id entries ≡ Some person → IsRegistered person
  pub tokens : (token : List ℕ) → IsSome (holder_at token entries) → IsTrue (is_token token)

-- What holds of every register.
pub record AreRanks (ranks : Ranks) : Type 0 where
  pub few : length ranks.people ≤ most_candidates
  pub rising : Pairwise (λ a b. a.id.0 < b.id.0) ranks.people
  pub apart : AreApart (λ id. find_person id ranks.people)
  pub registered : (id : ℕ) (person : Person) → find_person id ranks.people ≡ Some person → IsRegistered person
  pub tokens : (token : List ℕ) → IsSome (find_holder token ranks.holders) → IsTrue (is_token token)

-- what a register keeps: its ranks with the tokens in rising order, and the ids of its people in their order
pub record IsKeptRegister (ids : List ℕ) (ranks : Ranks) : Type 0 where
  pub sound : AreRanks ranks
  pub same : ids ≡ map (λ person. person.id.0) ranks.people
  pub rising : IsStrictlySortedBy (slice_cmp nat_cmp) (keys_of ranks.holders)

-- a body's rows have no fault, and these are the ranks of their entries
abbrev pub IsRead : List Row → Ranks → Type 0
IsRead rows ranks = (entries : List Entry) × (entries_of rows ≡ Ok entries) × IsRegister entries ranks

-- the first fault of a body's rows; `OutOfMemory` says nothing of them
abbrev pub IsFault : List Row → TableFault RankKind → Type 0
IsFault rows = IsTableFault (entries_of rows)

-- the place of a person in a list; an unknown person has none
abbrev pub place_of_person : ListId → Option Person → Place
place_of_person list None = Absent
place_of_person list (Some person) = place_in list person

-- both persons are known, and the first one is better
abbrev pub IsBefore : ListId → Option Person → Option Person → Type 0
IsBefore list None b = ⊥
IsBefore list (Some a) None = ⊥
IsBefore list (Some a) (Some b) = IsBetter list a b
