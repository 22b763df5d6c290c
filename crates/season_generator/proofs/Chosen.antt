-- The choices that are made up have no fault, given the register and the matrix.
use Rattle.std.proofs.Common.{◌≡◌, ◌≤◌, ◌<◌, ◌+◌, ◌-◌, ◌*◌, ◌%◌, ◌==◌, ℕ, zero, suc, Bool, true, false, cond, nat_lt, List, [], ◌∷◌, ◌++◌, Some, None, Ok, length, map, refl, sym, ap, ◌∙◌, append_assoc, arith, inl, inr, if◌then◌else◌}
use Rattle.std.specs.Prelude.{bytes_eq, codes, is_some, position, slice_get, slice_index_or, slice_index}
use Rattle.std.specs.Fmt.{decimal}
use Rattle.std.specs.List.{flat_map, position_or_len, range_with_len}
use Rattle.std.proofs.lemmas.Bool.{cases_eq, cond-false, cond-true, le-ltb, lt-ltb, ne_eqb, or_from}
use Rattle.std.proofs.lemmas.List.FromFn.{length-map-range_with_len, map-range_with_len_more}
use Rattle.std.proofs.lemmas.Nat.{mod_below}
use Rattle.office_base.specs.Limits.{last_id, most_choices, most_row_choices}
use Rattle.office_base.specs.Person.{number_of}
use Rattle.office_base.specs.declared.person.Person.{Person}
use Rattle.office_base.specs.declared.person.Place.TheVariants.{Absent}
use Rattle.office_base.specs.declared.person.ProgId.{ProgId}
use Rattle.office_text.specs.Number.{AreInverse, number_within}
use Rattle.section_rows.specs.Rows.{Row}
use Rattle.section_rows.specs.Steps.{after as follows}
use Rattle.rank_lists.specs.Register.{Ranks, find_person}
use Rattle.seat_matrix.specs.Matrix.{SeatTable, codes_in, find_home}
use Rattle.seat_matrix.specs.declared.entry.Home.{Home}
use Rattle.choice_lists.specs.Choices.{Entry, all_choices, choice, choices, choices_after, entries_of, header, is_chosen, is_ranked, list_at, programme_of, reading}
use Rattle.choice_lists.specs.declared.fault.ChoiceKind.TheVariants.{BadHeader}
use Rattle.season_generator.specs.Bundle.{programme_code, lines, profile_of}
use Rattle.season_generator.specs.Draws.{state_after}
use Rattle.season_generator.specs.declared.profile.Profile.{Profile}
use Rattle.season_generator.proofs.Numbers.{are-digits, read-within}
use Rattle.season_generator.proofs.Plain.{AreWordRows, AreWords, IsWordRow, further, line_of, text_of}
use Rattle.season_generator.proofs.Ranges.{none-found, reads-range, reads-table, text-range, words-range}
use Rattle.season_generator.proofs.Registered.{IsProfile, found-none, person_made, place-number, place_made, profile-drawn, row-single}
use Rattle.season_generator.proofs.Seated.{bytes-same, code-read, code-word, codes-apart, home_made}

-- ---- the programmes of the matrix

-- What a matrix knows of so many programmes.
pub record HasProgrammes (count : ℕ) (table : SeatTable) : Type 0 where
  pub few : count ≤ 100
  pub all : 100 ≤ count
  pub codes : codes_in table.programmes ≡ map programme_code (range_with_len 0 count)
  pub homes : (p : ℕ) → p < count → find_home (programme_code p) table.programmes ≡ Some (home_made p)

-- where a code is among those of a range
position-range : (p a k : ℕ) → a ≤ p → p < a + k → a + position_or_len (bytes_eq (programme_code p)) (map programme_code (range_with_len a k)) ≡ p
position-range p a zero low high = absurd (omega (arith, low, high))
position-range p a (suc k) low high = elim (cases_eq a p) [
  | inl same ↦
      let is : bytes_eq (programme_code p) (programme_code a) ≡ true = ap (λ (q : ℕ). bytes_eq (programme_code p) (programme_code q)) same ∙ bytes-same (programme_code p) in
      rw is (omega (arith, same))
  | inr other ↦
      let rest = position-range p (a + 1) k (omega (arith, low, other)) (omega (arith, high)) in
      rw (codes-apart p a (λ e. other (sym e))) (omega (arith, rest))
]

programme-read : (count : ℕ) (table : SeatTable) (p : ℕ) → HasProgrammes count table → p < count → programme_of table (programme_code p) ≡ Some p
programme-read count table p has low =
    let few = has.few in
    let held = map programme_code (range_with_len 0 count) in
    let at : position_or_len (bytes_eq (programme_code p)) held ≡ p = omega (arith, position-range p 0 count (omega arith) (omega (arith, low))) in
    let within : nat_lt p (length held) ≡ true = lt-ltb p (length held) (omega (arith, low, length-map-range_with_len programme_code 0 count)) in
    let found : position (bytes_eq (programme_code p)) held ≡ Some p =
    ap (λ (n : ℕ). cond (nat_lt n (length held)) (Some n) None) at ∙ cond-true (nat_lt p (length held)) (Some p) None within in
    rw (code-read p (omega (arith, low, few))) (ap (λ (l : List (List ℕ)). position (bytes_eq (programme_code p)) l) has.codes ∙ found)

-- A programme at its number.
record IsHeld (programmes : List (List ℕ × Home)) (d : ℕ) (home : Home) : Type 0 where
  held : List ℕ × Home
  there : slice_get programmes d ≡ Some held
  home-is : held.1 ≡ home

held-at : (programmes : List (List ℕ × Home)) (a k d p : ℕ) (home : Home) → p ≡ a + d → d < k → codes_in programmes ≡ map programme_code (range_with_len a k) → find_home (programme_code p) programmes ≡ Some home
    → IsHeld programmes d home
held-at programmes a zero d p home is less same found = absurd (omega (arith, less))
held-at [] a (suc k) d p home is less same found = absurd cc
held-at (h ∷ programmes) a (suc k) zero p home is less same found =
    let here : h.0 ≡ programme_code a = cc in
    let at : p ≡ a = omega (arith, is) in
    let test : bytes_eq (programme_code p) h.0 ≡ true = ap (λ (c : List ℕ). bytes_eq (programme_code p) c) (here ∙ ap programme_code (sym at)) ∙ bytes-same (programme_code p) in
    let one : Some h.1 ≡ Some home = sym (cond-true (bytes_eq (programme_code p) h.0) (Some h.1) (find_home (programme_code p) programmes) test) ∙ found in
    record { held = h; there = refl; home-is = cc }
held-at (h ∷ programmes) a (suc k) (suc d) p home is less same found =
    let here : h.0 ≡ programme_code a = cc in
    let rest : codes_in programmes ≡ map programme_code (range_with_len (a + 1) k) = cc in
    let test : bytes_eq (programme_code p) h.0 ≡ false = ap (λ (c : List ℕ). bytes_eq (programme_code p) c) here ∙ codes-apart p a (λ e. omega (arith, e, is)) in
    let more : find_home (programme_code p) programmes ≡ Some home = sym (cond-false (bytes_eq (programme_code p) h.0) (Some h.1) (find_home (programme_code p) programmes) test) ∙ found in
    let found-held = held-at programmes (a + 1) k d p home (omega (arith, is)) (omega (arith, less)) rest more in
    record { held = found-held.held; there = found-held.there; home-is = found-held.home-is }

-- a person with places in the lists 1 and 2 has one in the list of each programme
in-list : (p first second : ℕ) (relaxed : Bool) → is_some (number_of (slice_index_or (place_made first relaxed ∷ place_made second relaxed ∷ Absent ∷ Absent ∷ []) (1 + p % 2 - 1) Absent)) ≡ true
in-list p first second relaxed = elim (cases_eq (p % 2) 0) [
  | inl even ↦ rw (even, place-number first relaxed) refl
  | inr odd ↦
      let one : p % 2 ≡ 1 = omega (arith, odd) in
      rw (one, place-number second relaxed) refl
]

ranked : (count : ℕ) (table : SeatTable) (p id : ℕ) (profile : Profile) (first second : ℕ) → HasProgrammes count table → p < count → is_ranked table (person_made id profile first second) p ≡ true
ranked count table p id profile first second has low =
    let found = held-at table.programmes 0 count p p (home_made p) (omega arith) low has.codes (has.homes p low) in
    rw found.there (ap (λ (h : Home). is_some (number_of (slice_index_or (place_made first profile.relaxed ∷ place_made second profile.relaxed ∷ Absent ∷ Absent ∷ []) (h.list.0 - 1) Absent))) found.home-is
    ∙ in-list p first second profile.relaxed)

-- ---- the programmes of a row

-- the number of a choice
abbrev pub number_at : Profile → ℕ → ℕ
number_at profile place = (profile.first + place * profile.stride) % 100

abbrev prog_at : Profile → ℕ → ProgId
prog_at profile place = record { 0 = number_at profile place }

-- forty numbers that go on by such a stride are different
strides : (a b c : Bool) (first i j : ℕ) → i < j → j < 40
    → (first + i * (if a then 1 else (if b then 3 else (if c then 7 else 9)))) % 100 ≡ (first + j * (if a then 1 else (if b then 3 else (if c then 7 else 9)))) % 100 → ⊥
strides true b c first i j less small same = omega (arith, less, small, same)
strides false true c first i j less small same = omega (arith, less, small, same)
strides false false true first i j less small same = omega (arith, less, small, same)
strides false false false first i j less small same = omega (arith, less, small, same)

numbers-apart : (profile : Profile) (i j : ℕ) → IsProfile profile → i < j → j < 40 → number_at profile i ≡ number_at profile j → ⊥
numbers-apart profile i j is less small same =
    strides (is.number == 0) (is.number == 1) (is.number == 2) profile.first i j less small
    (ap (λ (s : ℕ). (profile.first + i * s) % 100) (sym is.stride) ∙ same ∙ ap (λ (s : ℕ). (profile.first + j * s) % 100) is.stride)

not-chosen : (profile : Profile) (n a k : ℕ) → ((j : ℕ) → j < a + k → n ≡ number_at profile j → ⊥) → is_chosen n (map (prog_at profile) (range_with_len a k)) ≡ false
not-chosen profile n a zero each = refl
not-chosen profile n a (suc k) each =
    or_from (n == number_at profile a) (is_chosen n (map (prog_at profile) (range_with_len (a + 1) k))) (ne_eqb n (number_at profile a) (each a (omega arith)))
    (not-chosen profile n (a + 1) k (λ j less. each j (omega (arith, less))))

choice-read : (table : SeatTable) (person : Person) (chosen : List ProgId) (p : ℕ) → programme_of table (programme_code p) ≡ Some p → is_ranked table person p ≡ true → is_chosen p chosen ≡ false
    → choice table person chosen (programme_code p) ≡ Ok (record { 0 = p })
choice-read table person chosen p found there new = rw (found, new, there) refl

choices-read : (count : ℕ) (table : SeatTable) (person : Person) (profile : Profile) (a k : ℕ) → IsProfile profile → HasProgrammes count table → ((p : ℕ) → p < 100 → is_ranked table person p ≡ true) → a + k ≤ 40
    → choices table person (map (prog_at profile) (range_with_len 0 a)) (map (λ j. programme_code (number_at profile j)) (range_with_len a k)) ≡ Ok (map (prog_at profile) (range_with_len 0 (a + k)))
choices-read count table person profile a zero is has ranked most = ap (λ (n : ℕ). Ok (map (prog_at profile) (range_with_len 0 n))) (omega arith)
choices-read count table person profile a (suc k) is has ranked most =
    let p = number_at profile a in
    let small : p < 100 = mod_below (profile.first + a * profile.stride) 100 (omega arith) in
    let chosen = map (prog_at profile) (range_with_len 0 a) in
    let texts = map (λ j. programme_code (number_at profile j)) (range_with_len (a + 1) k) in
    let one = choice-read table person chosen p (programme-read count table p has (omega (arith, small, has.all))) (ranked p small)
    (not-chosen profile p 0 a (λ j less e. numbers-apart profile j a is (omega (arith, less)) (omega (arith, most)) (sym e))) in
    ap (λ r. follows r (λ prog. choices table person (chosen ++ prog ∷ []) texts)) one
    ∙ ap (λ (l : List ProgId). choices table person l texts) (sym (map-range_with_len_more (prog_at profile) 0 a a (omega arith)))
    ∙ choices-read count table person profile (a + 1) k is has ranked (omega (arith, most)) ∙ ap (λ (n : ℕ). Ok (map (prog_at profile) (range_with_len 0 n))) (omega arith)

-- ---- a row

-- the words of a candidate's row
abbrev pub row_words : ℕ → ℕ → Profile → Row
row_words most id profile = decimal id ∷ map (λ j. programme_code (number_at profile j)) (range_with_len 0 most)

-- and how it is written
abbrev pub choices_line : ℕ → ℕ → Profile → List ℕ
choices_line most id profile = decimal id ++ lines most (λ place. codes "," ++ programme_code ((profile.first + place * profile.stride) % 100)) ++ codes "\n"

further-range : (word : ℕ → List ℕ) (a k : ℕ) → flat_map (λ j. 44 ∷ word j) (range_with_len a k) ++ 10 ∷ [] ≡ further (map word (range_with_len a k))
further-range word a zero = refl
further-range word a (suc k) = ap (λ (l : List ℕ). 44 ∷ l) (append_assoc (word a) (flat_map (λ j. 44 ∷ word j) (range_with_len (a + 1) k)) (10 ∷ []) ∙ ap (λ (l : List ℕ). word a ++ l) (further-range word (a + 1) k))

row-line : (most id : ℕ) (profile : Profile) → choices_line most id profile ≡ line_of (row_words most id profile)
unfolding lines
row-line most id profile =
    append_assoc (decimal id) (flat_map (λ j. 44 ∷ programme_code (number_at profile j)) (range_with_len 0 most)) (10 ∷ [])
    ∙ ap (λ (l : List ℕ). decimal id ++ l) (further-range (λ j. programme_code (number_at profile j)) 0 most)

choice-words : (profile : Profile) (a k : ℕ) → AreWords (map (λ j. programme_code (number_at profile j)) (range_with_len a k))
choice-words profile a zero = tt
choice-words profile a (suc k) = (code-word (number_at profile a) (mod_below (profile.first + a * profile.stride) 100 (omega arith)), choice-words profile (a + 1) k)

row-is-words : (most id : ℕ) (profile : Profile) → id ≤ 100000 → IsWordRow (row_words most id profile)
row-is-words most id profile low = ((are-digits id (omega (arith, low))).word, choice-words profile 0 most)

abbrev pub entry_made : ℕ → ℕ → Profile → Entry
entry_made most id profile = record { candidate = id; programmes = map (prog_at profile) (range_with_len 0 most) }

row-read : AreInverse → (count : ℕ) (ranks : Ranks) (table : SeatTable) (before : List Entry) (most id : ℕ) (profile : Profile) (first second : ℕ) → most ≤ 40 → 1 ≤ id → id ≤ 100000 → IsProfile profile → HasProgrammes count table
    → find_person id ranks.people ≡ Some (person_made id profile first second) → list_at id before ≡ None → all_choices before ≤ 4000000 → reading ranks table before (row_words most id profile) ≡ Ok (entry_made most id profile)
unfolding reading
row-read inverse count ranks table before most id profile first second short low high is has person new few =
    let read : number_within 1 last_id (decimal id) ≡ Some id = read-within inverse 1 last_id id (omega (arith, high)) low (omega (arith, high)) in
    let long : length (map (λ j. programme_code (number_at profile j)) (range_with_len 0 most)) ≡ most = length-map-range_with_len (λ j. programme_code (number_at profile j)) 0 most in
    let not-long : nat_lt most_row_choices (length (row_words most id profile) - 1) ≡ false = le-ltb most_row_choices _ (omega (arith, long, short)) in
    let not-many : nat_lt most_choices (all_choices before + (length (row_words most id profile) - 1)) ≡ false = le-ltb most_choices _ (omega (arith, long, short, few)) in
    let total : 0 + most ≡ most = omega arith in
    let all : choices table (person_made id profile first second) [] (map (λ j. programme_code (number_at profile j)) (range_with_len 0 most)) ≡ Ok (map (prog_at profile) (range_with_len 0 most)) =
    choices-read count table (person_made id profile first second) profile 0 most is has (λ p less. ranked count table p id profile first second has (omega (arith, less, has.all))) (omega (arith, short))
    ∙ ap (λ (n : ℕ). Ok (map (prog_at profile) (range_with_len 0 n))) total in
    rw (read, person, new, not-long, not-many, all) refl

-- ---- all rows

abbrev entries_at : ℕ → ℕ → ℕ → List Entry
entries_at most state i = entry_made most (i + 1) (profile_of state i) ∷ []

abbrev pub rows_at : ℕ → ℕ → ℕ → List Row
rows_at most state i = row_words most (i + 1) (profile_of state i) ∷ []

abbrev pub entries_to : ℕ → ℕ → ℕ → List Entry
entries_to most state i = flat_map (entries_at most state) (range_with_len 0 i)

few-choices : (most state a k count : ℕ) → most ≤ 40 → choices_after count (flat_map (entries_at most state) (range_with_len a k)) ≤ count + k * 40
few-choices most state a zero count short = omega arith
few-choices most state a (suc k) count short =
    let one = map (prog_at (profile_of state a)) (range_with_len 0 most) in
    let long : length one ≡ most = length-map-range_with_len (prog_at (profile_of state a)) 0 most in
    let rest = few-choices most state (a + 1) k (count + length one) short in
    omega (arith, rest, long, short)

-- the choices' section with so many choices of each candidate
abbrev pub choices_lines : ℕ → ℕ → ℕ → List ℕ
choices_lines most n state = codes "[choices]\ncandidate,programmes\n" ++ lines n (λ candidate. choices_line most (candidate + 1) (profile_of state candidate))

-- What it is.
pub record AreChosen (most n state : ℕ) (ranks : Ranks) (table : SeatTable) (rows : List Row) : Type 0 where
  pub text : choices_lines most n state ≡ codes "[choices]\n" ++ text_of rows
  pub words : AreWordRows rows
  pub read : entries_of ranks table rows ≡ Ok (entries_to most state n)

abbrev pub choice_rows : ℕ → ℕ → ℕ → List Row
choice_rows most n state = header ∷ flat_map (rows_at most state) (range_with_len 0 n)

-- What a register knows of the candidates.
abbrev pub HasCandidates : ℕ → ℕ → List ℕ → List ℕ → Ranks → Type 0
HasCandidates n state first second ranks = (i : ℕ) → i < n → find_person (i + 1) ranks.people ≡ Some (person_made (i + 1) (profile_of state i) (slice_index first i) (slice_index second i))

pub chosen : AreInverse → (count most n state : ℕ) (first second : List ℕ) (ranks : Ranks) (table : SeatTable) → most ≤ 40 → n ≤ 100000 → HasCandidates n state first second ranks → HasProgrammes count table
    → AreChosen most n state ranks table (choice_rows most n state)
unfolding lines
chosen inverse count most n state first second ranks table short small people has =
    let reads = reads-table BadHeader header (reading ranks table) header (flat_map (rows_at most state) (range_with_len 0 n)) (entries_to most state n) refl
    (reads-range (reading ranks table) (rows_at most state) (entries_at most state) 0 n [] (λ i less. (
      row-read inverse count ranks table (entries_to most state i) most (i + 1) (profile_of state i) (slice_index first i) (slice_index second i) short (omega arith) (omega (arith, less, small))
          (profile-drawn (state_after (6 * i) state)) has (people i (omega (arith, less)))
          (none-found (λ entry. (i + 1) == entry.candidate) (λ entry. entry.programmes) (entries_at most state) 0 i
          (λ j from to. found-none (λ entry. (i + 1) == entry.candidate) (λ entry. entry.programmes) (entry_made most (j + 1) (profile_of state j)) (ne_eqb (i + 1) (j + 1) (λ e. omega (arith, e, to)))))
          (omega (arith, few-choices most state 0 i 0 short, less, small)),
      tt,
    )) refl) in
    record {
      text = ap (λ (l : List ℕ). codes "[choices]\ncandidate,programmes\n" ++ l) (text-range (λ i. choices_line most (i + 1) (profile_of state i)) (rows_at most state) 0 n
          (λ i. row-single (row_words most (i + 1) (profile_of state i)) _ (row-line most (i + 1) (profile_of state i))));
      words = ((refl, (refl, tt)), words-range (rows_at most state) 0 n (λ i less. (row-is-words most (i + 1) (profile_of state i) (omega (arith, less, small)), tt)));
      read = reads;
    }
