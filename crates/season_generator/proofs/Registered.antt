-- The register that is made up has no fault, and who is in it.
use Rattle.std.proofs.Common.{◌≡◌, ◌≤◌, ◌<◌, ◌+◌, ◌*◌, ◌==◌, ℕ, zero, suc, Bool, true, false, ◌&&◌, nat_le, List, [], ◌∷◌, ◌++◌, Some, None, Ok, length, drop, refl, sym, ap, ◌∙◌, append_assoc, arith}
use Rattle.std.specs.Prelude.{bytes_eq, codes, slice_index}
use Rattle.std.specs.Fmt.{decimal}
use Rattle.std.specs.List.{flat_map, range_with_len}
use Rattle.std.proofs.lemmas.Bool.{cond-false, cond-true, eq-eqb, false_from_ne_true, lt-leb, ne_eqb, or_from}
use Rattle.std.proofs.lemmas.List.{append-nil}
use Rattle.std.proofs.lemmas.Slice.Eq.{bytes_eq-Decides}
use Rattle.office_base.specs.Limits.{last_id, most_candidates}
use Rattle.office_base.specs.Person.{number_of}
use Rattle.office_base.specs.declared.person.Category.{Category}
use Rattle.office_base.specs.declared.person.Category.TheVariants.{Gen}
use Rattle.office_base.specs.declared.person.Person.{Person}
use Rattle.office_base.specs.declared.person.Place.{Place}
use Rattle.office_base.specs.declared.person.Place.TheVariants.{Absent, Common, Relaxed}
use Rattle.office_text.specs.Number.{AreInverse, number_within}
use Rattle.office_text.specs.Traits.{traits_of}
use Rattle.section_rows.specs.Rows.{Row}
use Rattle.section_rows.specs.Steps.{first_of}
use Rattle.rank_lists.specs.Fields.{category_of, place_of}
use Rattle.rank_lists.specs.Register.{any_relaxed, header, holder_at, is_general, is_number, is_taken, entries_of, person_at, place_at, reading, token_of}
use Rattle.rank_lists.specs.declared.entry.Entry.{Entry}
use Rattle.rank_lists.specs.declared.fault.RankKind.TheVariants.{BadHeader}
use Rattle.office_text.specs.Names.{category_name}
use Rattle.season_generator.specs.Bundle.{eight_digits, has_relaxed, lines, place_field, profile_at, profile_of, register_row, register_text, stride_of, traits_name}
use Rattle.season_generator.specs.Draws.{state_after, drawn}
use Rattle.season_generator.specs.declared.profile.Profile.{Profile}
use Rattle.season_generator.proofs.PlaceLemmas.{drawn_below}
use Rattle.season_generator.proofs.Numbers.{are-digits, common-place, eight-apart, own-token, read-within, relaxed-place, word-append}
use Rattle.season_generator.proofs.ListedPlaces.{ArePlaces}
use Rattle.season_generator.proofs.Plain.{AreWordRows, IsWordRow, is_word, line_of, text_of}
use Rattle.season_generator.proofs.Ranges.{first-found, none-found, reads-range, reads-table, text-range, words-range}

-- ---- what is drawn for a candidate

-- A profile as it may be drawn.
pub record IsProfile (profile : Profile) : Type 0 where
  pub chance : Bool
  pub relaxed : profile.relaxed ≡ (has_relaxed profile.category && chance)
  pub first : profile.first < 100
  pub number : ℕ
  pub stride : profile.stride ≡ stride_of number

pub profile-drawn : (state : ℕ) → IsProfile (profile_at state)
unfolding profile_at
profile-drawn state = record {
  chance = drawn 10 (state_after 3 state) == 0;
  relaxed = refl;
  first = drawn_below 100 (state_after 4 state) (omega arith);
  number = drawn 4 (state_after 5 state);
  stride = refl;
}

-- ---- a row

-- a place as it is written
abbrev pub place_text : ℕ → Bool → List ℕ
place_text place false = decimal place
place_text place true = decimal place ++ codes "R"

-- and as it is read
abbrev pub place_made : ℕ → Bool → Place
place_made place false = Common place
place_made place true = Relaxed place

-- the traits W and D as they are read
abbrev traits_made : Bool → Bool → ℕ
traits_made false false = 0
traits_made true false = 1
traits_made false true = 2
traits_made true true = 3

abbrev pub token_made : ℕ → List ℕ
token_made id = codes "g" ++ eight_digits id

-- the words of a row of the register
abbrev pub row_words : ℕ → Profile → ℕ → ℕ → Row
row_words id profile first second =
    decimal id ∷ category_name profile.category ∷ traits_name profile.women profile.disabled ∷ token_made id ∷ place_text first profile.relaxed ∷ place_text second profile.relaxed ∷ []

-- what it gives
abbrev pub person_made : ℕ → Profile → ℕ → ℕ → Person
person_made id profile first second = record {
  id = record { 0 = id };
  category = profile.category;
  traits = record { 0 = traits_made profile.women profile.disabled };
  places = place_made first profile.relaxed ∷ place_made second profile.relaxed ∷ Absent ∷ Absent ∷ [];
}

abbrev pub entry_made : ℕ → Profile → ℕ → ℕ → Entry
entry_made id profile first second = record { person = person_made id profile first second; token = token_made id }

place-line : (place : ℕ) (relaxed : Bool) → place_field place relaxed ≡ 44 ∷ place_text place relaxed
place-line place false = refl
place-line place true = refl

-- the row is written as its words
row-line : (id : ℕ) (profile : Profile) (first second : ℕ) → register_row id profile first second ≡ line_of (row_words id profile first second)
unfolding register_row
row-line id profile first second = rw (place-line first profile.relaxed, place-line second profile.relaxed) (simp append_assoc)

category-word : (category : Category) → is_word (category_name category) ≡ true
category-word Gen = refl
category-word category = refl

traits-word : (women disabled : Bool) → is_word (traits_name women disabled) ≡ true
traits-word false false = refl
traits-word true false = refl
traits-word false true = refl
traits-word true true = refl

place-word : (place : ℕ) (relaxed : Bool) → place ≤ 100000 → is_word (place_text place relaxed) ≡ true
place-word place false high = (are-digits place (omega (arith, high))).word
place-word place true high = word-append (decimal place) (82 ∷ []) (are-digits place (omega (arith, high))).word refl

row-is-words : (id : ℕ) (profile : Profile) (first second : ℕ) → id ≤ 100000 → first ≤ 100000 → second ≤ 100000 → IsWordRow (row_words id profile first second)
row-is-words id profile first second low high more = (
  (are-digits id (omega (arith, low))).word,
  (category-word profile.category, (traits-word profile.women profile.disabled, ((own-token id (omega (arith, low))).word, (place-word first profile.relaxed high, (place-word second profile.relaxed more, tt))))),
)

-- ---- what a row gives

category-read : (category : Category) → category_of (category_name category) ≡ Some category
category-read Gen = refl
category-read category = refl

traits-read : (women disabled : Bool) → traits_of (traits_name women disabled) ≡ Some (traits_made women disabled)
traits-read false false = refl
traits-read true false = refl
traits-read false true = refl
traits-read true true = refl

place-read : AreInverse → (place : ℕ) (relaxed : Bool) → 1 ≤ place → place ≤ 100000 → place_of (place_text place relaxed) ≡ Some (place_made place relaxed)
place-read inverse place false low high = common-place inverse place low (omega (arith, high))
place-read inverse place true low high = relaxed-place inverse place low (omega (arith, high))

pub place-number : (place : ℕ) (relaxed : Bool) → number_of (place_made place relaxed) ≡ Some place
place-number place false = refl
place-number place true = refl

-- a general candidate has no relaxed place
not-general : (category : Category) (chance relaxed : Bool) (first second : ℕ) → relaxed ≡ (has_relaxed category && chance)
    → (is_general category && any_relaxed (place_made first relaxed ∷ place_made second relaxed ∷ Absent ∷ Absent ∷ [])) ≡ false
not-general Gen chance relaxed first second e = ap (λ (b : Bool). any_relaxed (place_made first b ∷ place_made second b ∷ Absent ∷ Absent ∷ [])) e
not-general category chance relaxed first second e = refl

-- What has to hold of a row after others.
record IsNew (before : List Entry) (id first second : ℕ) : Type 0 where
  few : nat_le most_candidates (length before) ≡ false
  person : person_at id before ≡ None
  token : holder_at (token_made id) before ≡ None
  first-free : is_taken 0 first before ≡ false
  second-free : is_taken 1 second before ≡ false

row-read : AreInverse → (before : List Entry) (id : ℕ) (profile : Profile) (first second : ℕ) → 1 ≤ id → id ≤ 100000 → 1 ≤ first → first ≤ 100000 → 1 ≤ second → second ≤ 100000
    → IsProfile profile → IsNew before id first second → reading before (row_words id profile first second) ≡ Ok (entry_made id profile first second)
unfolding reading
row-read inverse before id profile first second id-low id-high first-low first-high second-low second-high is new =
    let id-read : number_within 1 last_id (decimal id) ≡ Some id = read-within inverse 1 last_id id (omega (arith, id-high)) id-low (omega (arith, id-high)) in
    let category : category_of (category_name profile.category) ≡ Some profile.category = category-read profile.category in
    let traits : traits_of (traits_name profile.women profile.disabled) ≡ Some (traits_made profile.women profile.disabled) = traits-read profile.women profile.disabled in
    let one : place_of (place_text first profile.relaxed) ≡ Some (place_made first profile.relaxed) = place-read inverse first profile.relaxed first-low first-high in
    let two : place_of (place_text second profile.relaxed) ≡ Some (place_made second profile.relaxed) = place-read inverse second profile.relaxed second-low second-high in
    let token : token_of (token_made id) ≡ Some (token_made id) = cond-true _ (Some (token_made id)) None (own-token id (omega (arith, id-high))).spelled in
    let general = not-general profile.category is.chance profile.relaxed first second is.relaxed in
    rw (new.few, id-read, new.person, category, traits, one, two, place-number first profile.relaxed, new.first-free, place-number second profile.relaxed, new.second-free, general, token, new.token) refl

-- ---- all rows

-- the entry of a candidate, counted from 0
abbrev pub entry_at : ℕ → List ℕ → List ℕ → ℕ → Entry
entry_at state first second i = entry_made (i + 1) (profile_of state i) (slice_index first i) (slice_index second i)

abbrev pub entries_at : ℕ → List ℕ → List ℕ → ℕ → List Entry
entries_at state first second i = entry_at state first second i ∷ []

abbrev pub rows_at : ℕ → List ℕ → List ℕ → ℕ → List Row
rows_at state first second i = row_words (i + 1) (profile_of state i) (slice_index first i) (slice_index second i) ∷ []

-- the entries of the candidates before one
abbrev pub entries_to : ℕ → List ℕ → List ℕ → ℕ → List Entry
entries_to state first second i = flat_map (entries_at state first second) (range_with_len 0 i)

pub length-singles : {X : Type 0} (f : ℕ → X) (a k : ℕ) → length (flat_map (λ i. f i ∷ []) (range_with_len a k)) ≡ k
length-singles f a zero = refl
length-singles f a (suc k) = ap suc (length-singles f (a + 1) k)

-- a place that no entry has is not taken
not-taken : (list place : ℕ) (f : ℕ → Entry) (a k : ℕ) → ((j : ℕ) → j < a + k → is_number place (number_of (place_at (f j).person.places list)) ≡ false)
    → is_taken list place (flat_map (λ j. f j ∷ []) (range_with_len a k)) ≡ false
not-taken list place f a zero each = refl
not-taken list place f a (suc k) each =
    or_from (is_number place (number_of (place_at (f a).person.places list))) (is_taken list place (flat_map (λ j. f j ∷ []) (range_with_len (a + 1) k))) (each a (omega arith))
    (not-taken list place f (a + 1) k (λ j less. each j (omega (arith, less))))

-- tokens of different numbers are different
tokens-apart : AreInverse → (m n : ℕ) → m ≤ 100000 → n ≤ 100000 → (m ≡ n → ⊥) → bytes_eq (token_made m) (token_made n) ≡ false
tokens-apart inverse m n m-high n-high other =
    false_from_ne_true (bytes_eq (token_made m) (token_made n)) (λ t.
    other (eight-apart inverse m n (omega (arith, m-high)) (omega (arith, n-high)) (ap (λ (l : List ℕ). drop 1 l) ((bytes_eq-Decides (token_made m) (token_made n)).0 t))))

pub found-none : {X V : Type 0} (test : X → Bool) (value : X → V) (x : X) → test x ≡ false → first_of test value (x ∷ []) ≡ None
found-none test value x e = cond-false (test x) (Some (value x)) None e

new-row : AreInverse → (n state : ℕ) (first second : List ℕ) (i : ℕ) → n ≤ 100000 → ArePlaces n first → ArePlaces n second → i < n
    → IsNew (entries_to state first second i) (i + 1) (slice_index first i) (slice_index second i)
new-row inverse n state first second i most firsts seconds less =
    let long = length-singles (entry_at state first second) 0 i in
    record {
      few = lt-leb most_candidates _ (omega (arith, long, less, most));
      person = none-found (λ entry. (i + 1) == entry.person.id.0) (λ entry. entry.person) (entries_at state first second) 0 i
          (λ j low high. found-none (λ entry. (i + 1) == entry.person.id.0) (λ entry. entry.person) (entry_at state first second j) (ne_eqb (i + 1) (j + 1) (λ e. omega (arith, e, high))));
      token = none-found (λ entry. bytes_eq (token_made (i + 1)) entry.token) (λ entry. entry.person.id) (entries_at state first second) 0 i
          (λ j low high. found-none (λ entry. bytes_eq (token_made (i + 1)) entry.token) (λ entry. entry.person.id) (entry_at state first second j)
          (tokens-apart inverse (i + 1) (j + 1) (omega (arith, less, most)) (omega (arith, less, most, high)) (λ e. omega (arith, e, high))));
      first-free = not-taken 0 (slice_index first i) (entry_at state first second) 0 i (λ j high.
          ap (is_number (slice_index first i)) (place-number (slice_index first j) (profile_of state j).relaxed)
          ∙ ne_eqb (slice_index first i) (slice_index first j) (λ e. let same = firsts.apart i j less (omega (arith, less, high)) e in omega (arith, same, high)));
      second-free = not-taken 1 (slice_index second i) (entry_at state first second) 0 i (λ j high.
          ap (is_number (slice_index second i)) (place-number (slice_index second j) (profile_of state j).relaxed)
          ∙ ne_eqb (slice_index second i) (slice_index second j) (λ e. let same = seconds.apart i j less (omega (arith, less, high)) e in omega (arith, same, high)));
    }

-- What the register's section is.
pub record IsRegistered (n state : ℕ) (first second : List ℕ) (rows : List Row) : Type 0 where
  pub text : register_text n state first second ≡ codes "[register]\n" ++ text_of rows
  pub words : AreWordRows rows
  pub read : entries_of rows ≡ Ok (entries_to state first second n)

abbrev pub register_rows : ℕ → ℕ → List ℕ → List ℕ → List Row
register_rows n state first second = header ∷ flat_map (rows_at state first second) (range_with_len 0 n)

pub row-single : (row : Row) (line : List ℕ) → line ≡ line_of row → line ≡ text_of (row ∷ [])
row-single row line e = e ∙ sym (append-nil (line_of row))

pub registered : AreInverse → (n state : ℕ) (first second : List ℕ) → n ≤ 100000 → ArePlaces n first → ArePlaces n second → IsRegistered n state first second (register_rows n state first second)
unfolding register_text lines
registered inverse n state first second most firsts seconds =
    let reads = reads-table BadHeader header reading header (flat_map (rows_at state first second) (range_with_len 0 n)) (entries_to state first second n) refl
    (reads-range reading (rows_at state first second) (entries_at state first second) 0 n [] (λ i less. (
      row-read inverse (entries_to state first second i) (i + 1) (profile_of state i) (slice_index first i) (slice_index second i) (omega arith) (omega (arith, less, most)) (firsts.low i (omega (arith, less)))
          (omega (arith, firsts.high i (omega (arith, less)), most)) (seconds.low i (omega (arith, less))) (omega (arith, seconds.high i (omega (arith, less)), most)) (profile-drawn (state_after (6 * i) state))
          (new-row inverse n state first second i most firsts seconds (omega (arith, less))),
      tt,
    )) refl) in
    record {
      text = ap (λ (l : List ℕ). codes "[register]\nid,category,traits,token,m1,m2,m3,m4\n" ++ l)
          (text-range (λ i. register_row (i + 1) (profile_of state i) (slice_index first i) (slice_index second i)) (rows_at state first second) 0 n
          (λ i. row-single (row_words (i + 1) (profile_of state i) (slice_index first i) (slice_index second i)) _ (row-line (i + 1) (profile_of state i) (slice_index first i) (slice_index second i))));
      words = (
        (refl, (refl, (refl, (refl, (refl, (refl, (refl, (refl, tt)))))))),
        words-range (rows_at state first second) 0 n (λ i less. (
          row-is-words (i + 1) (profile_of state i) (slice_index first i) (slice_index second i) (omega (arith, less, most)) (omega (arith, firsts.high i (omega (arith, less)), most))
              (omega (arith, seconds.high i (omega (arith, less)), most)),
          tt,
        )),
      );
      read = reads;
    }

-- ---- who is in it

-- A candidate is found by the candidate's own number.
pub person-found : (n state : ℕ) (first second : List ℕ) (i : ℕ) → i < n
    → person_at (i + 1) (entries_to state first second n) ≡ Some (person_made (i + 1) (profile_of state i) (slice_index first i) (slice_index second i))
person-found n state first second i less =
    first-found (λ entry. (i + 1) == entry.person.id.0) (λ entry. entry.person) (entries_at state first second) 0 n i _ (omega arith) (omega (arith, less))
    (λ j low high. found-none (λ entry. (i + 1) == entry.person.id.0) (λ entry. entry.person) (entry_at state first second j) (ne_eqb (i + 1) (j + 1) (λ e. omega (arith, e, high))))
    (cond-true ((i + 1) == (i + 1)) (Some (person_made (i + 1) (profile_of state i) (slice_index first i) (slice_index second i))) None (eq-eqb (i + 1) (i + 1) refl))

-- The clerk's token is nobody's.
pub clerk-apart : (n state : ℕ) (first second : List ℕ) → holder_at (codes "clerk0001") (entries_to state first second n) ≡ None
clerk-apart n state first second =
    none-found (λ entry. bytes_eq (codes "clerk0001") entry.token) (λ entry. entry.person.id) (entries_at state first second) 0 n (λ j low high. refl)
