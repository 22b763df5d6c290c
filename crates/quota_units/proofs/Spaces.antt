-- Spaces for LFs change nothing of what rows of choices give.
use Rattle.std.proofs.Common.{◌≡◌, ◌+◌, ◌-◌, ℕ, zero, suc, Bool, true, false, not, List, [], ◌∷◌, ◌++◌, Option, Some, None, Result, Ok, Err, length, map, drop, refl, sym, ap, ◌∙◌, ◌==◌, if◌then◌else◌}
use Rattle.std.specs.Prelude.{◌&&◌, bytes_eq, nat_eq, nat_le, nat_lt, is_some, position}
use Rattle.std.specs.Option.{option_and_then}
use Rattle.std.specs.Char.{is_ascii_digit}
use Rattle.std.specs.List.{list_all}
use Rattle.std.proofs.lemmas.Bool.{and_parts, eqb-true}
use Rattle.std.proofs.lemmas.List.{length-map}
use Rattle.office_base.specs.Codes.{is_code, is_code_byte}
use Rattle.office_base.specs.Limits.{last_id, longest_code, most_choices, most_row_choices, shortest_code}
use Rattle.office_base.specs.declared.person.Person.{Person}
use Rattle.office_base.specs.declared.person.ProgId.{ProgId}
use Rattle.office_text.specs.Names.{code_of}
use Rattle.office_text.specs.Number.{is_number, number_within, value_of}
use Rattle.section_rows.specs.Rows.{Row, field, same_fields}
use Rattle.section_rows.specs.Steps.{after, needs, unless}
use Rattle.section_rows.specs.Table.{Given, entries_from, then_read}
use Rattle.section_rows.specs.declared.fault.TableFault.TheVariants.{Bad}
use Rattle.rank_lists.specs.Register.{Ranks, find_person}
use Rattle.seat_matrix.specs.Matrix.{SeatTable}
use Rattle.choice_lists.specs.Choices.{Entry, IsFault, IsRead, Lists, all_choices, choice, choices, entries_of, header, is_chosen, is_ranked, list_at, new_candidate, person_of, programme_of, reading}
use Rattle.choice_lists.specs.declared.fault.ChoiceKind.{ChoiceKind}
use Rattle.choice_lists.specs.declared.fault.ChoiceKind.TheVariants.{BadHeader, UnknownCandidate, RepeatedCandidate, UnknownProgramme, RepeatedProgramme, NotRankedThere, TooLong, TooMany}
use Rattle.quota_units.specs.Quoted.{no_lf, spaced, spaced_row}

-- ---- bytes and texts

-- a test that treats LF and space alike treats all alike
byte-spaced : (p : ℕ → Bool) → p 32 ≡ p 10 → (b : ℕ) → p (no_lf b) ≡ p b
byte-spaced p same b = by (b == 10) refl
  where
    by : (t : Bool) → (b == 10) ≡ t → p (if t then 32 else b) ≡ p b
    by true e = same ∙ ap p (sym (eqb-true b 10 e))
    by false e = refl

all-spaced : (p : ℕ → Bool) → p 32 ≡ p 10 → (t : List ℕ) → list_all p (spaced t) ≡ list_all p t
all-spaced p same [] = refl
all-spaced p same (b ∷ t) = ap (λ (x : Bool). x && list_all p (spaced t)) (byte-spaced p same b) ∙ ap (λ (x : Bool). p b && x) (all-spaced p same t)

byte-stays : (p : ℕ → Bool) → p 10 ≡ false → (b : ℕ) → p b ≡ true → no_lf b ≡ b
byte-stays p other b h = by (b == 10) refl
  where
    by : (t : Bool) → (b == 10) ≡ t → (if t then 32 else b) ≡ b
    by true e = absurd (let f : true ≡ false = sym h ∙ ap p (eqb-true b 10 e) ∙ other in cc)
    by false e = refl

all-stays : (p : ℕ → Bool) → p 10 ≡ false → (t : List ℕ) → list_all p t ≡ true → spaced t ≡ t
all-stays p other [] h = refl
all-stays p other (b ∷ t) h =
    let (here, rest) = and_parts (p b) (list_all p t) h in
    ap (λ (x : ℕ). x ∷ spaced t) (byte-stays p other b here) ∙ ap (λ (l : List ℕ). b ∷ l) (all-stays p other t rest)

is_number-spaced : (t : List ℕ) → is_number (spaced t) ≡ is_number t
is_number-spaced [] = refl
is_number-spaced (b ∷ []) = byte-spaced is_ascii_digit refl b
is_number-spaced (b ∷ n ∷ t) =
    ap (λ (x : Bool). x && list_all is_ascii_digit (spaced (n ∷ t))) (byte-spaced (λ x. nat_le 49 x && nat_le x 57) refl b)
    ∙ ap (λ (x : Bool). (nat_le 49 b && nat_le b 57) && x) (all-spaced is_ascii_digit refl (n ∷ t))

number-stays : (t : List ℕ) → is_number t ≡ true → spaced t ≡ t
number-stays [] h = refl
number-stays (b ∷ []) h = ap (λ (x : ℕ). x ∷ []) (byte-stays is_ascii_digit refl b h)
number-stays (b ∷ n ∷ t) h =
    let (first, digits) = and_parts (nat_le 49 b && nat_le b 57) (list_all is_ascii_digit (n ∷ t)) h in
    ap (λ (x : ℕ). x ∷ spaced (n ∷ t)) (byte-stays (λ x. nat_le 49 x && nat_le x 57) refl b first) ∙ ap (λ (l : List ℕ). b ∷ l) (all-stays is_ascii_digit refl (n ∷ t) digits)

abbrev number_if : ℕ → ℕ → List ℕ → Bool → Option ℕ
number_if low high t is = if is && nat_le low (value_of t) && nat_le (value_of t) high then Some (value_of t) else None

number-spaced : (low high : ℕ) (t : List ℕ) → number_within low high (spaced t) ≡ number_within low high t
number-spaced low high t = by (is_number t) refl
  where
    by : (is : Bool) → is_number t ≡ is → number_within low high (spaced t) ≡ number_within low high t
    by true e = ap (number_within low high) (number-stays t e)
    by false e = ap (number_if low high (spaced t)) (is_number-spaced t ∙ e) ∙ sym (ap (number_if low high t) e)

is_code-spaced : (t : List ℕ) → is_code (spaced t) ≡ is_code t
is_code-spaced t =
    ap (λ (n : ℕ). nat_le shortest_code n && nat_le n longest_code && list_all is_code_byte (spaced t)) (length-map t no_lf)
    ∙ ap (λ (x : Bool). nat_le shortest_code (length t) && nat_le (length t) longest_code && x) (all-spaced is_code_byte refl t)

code-stays : (t : List ℕ) → is_code t ≡ true → spaced t ≡ t
code-stays t h = all-stays is_code_byte refl t (and_parts (nat_le shortest_code (length t) && nat_le (length t) longest_code) (list_all is_code_byte t) h).1

abbrev code_if : List ℕ → Bool → Option (List ℕ)
code_if t is = if is then Some t else None

code-spaced : (t : List ℕ) → code_of (spaced t) ≡ code_of t
code-spaced t = by (is_code t) refl
  where
    by : (is : Bool) → is_code t ≡ is → code_of (spaced t) ≡ code_of t
    by true e = ap code_of (code-stays t e)
    by false e = ap (code_if (spaced t)) (is_code-spaced t ∙ e) ∙ sym (ap (code_if t) e)

-- ---- rows

field-spaced : (row : Row) (n : ℕ) → field (spaced_row row) n ≡ spaced (field row n)
field-spaced [] n = refl
field-spaced (f ∷ row) zero = refl
field-spaced (f ∷ row) (suc n) = field-spaced row n

person-spaced : (ranks : Ranks) (row : Row) → person_of ranks (field (spaced_row row) 0) ≡ person_of ranks (field row 0)
person-spaced ranks row =
    ap (person_of ranks) (field-spaced row 0) ∙ ap (λ (o : Option ℕ). option_and_then (λ id. find_person id ranks.people) o) (number-spaced 1 last_id (field row 0))

programme-spaced : (seats : SeatTable) (t : List ℕ) → programme_of seats (spaced t) ≡ programme_of seats t
programme-spaced seats t = ap (λ (o : Option (List ℕ)). option_and_then (λ code. position (bytes_eq code) (map (λ held. held.0) seats.programmes)) o) (code-spaced t)

choice-spaced : (seats : SeatTable) (person : Person) (chosen : List ProgId) (t : List ℕ) → choice seats person chosen (spaced t) ≡ choice seats person chosen t
choice-spaced seats person chosen t =
    ap (λ (o : Option ℕ). needs o UnknownProgramme (λ n. unless (is_chosen n chosen) RepeatedProgramme (unless (not (is_ranked seats person n)) NotRankedThere (Ok (record { 0 = n }))))) (programme-spaced seats t)

choices-spaced : (seats : SeatTable) (person : Person) (chosen : List ProgId) (texts : Row) → choices seats person chosen (spaced_row texts) ≡ choices seats person chosen texts
choices-spaced seats person chosen [] = refl
choices-spaced seats person chosen (t ∷ texts) =
    ap (λ (r : Result ProgId ChoiceKind). after r (λ prog. choices seats person (chosen ++ prog ∷ []) (spaced_row texts))) (choice-spaced seats person chosen t)
    ∙ by (λ c. choices-spaced seats person c texts) (choice seats person chosen t)
  where
    by : ((c : List ProgId) → choices seats person c (spaced_row texts) ≡ choices seats person c texts) → (r : Result ProgId ChoiceKind) → after r (λ prog. choices seats person (chosen ++ prog ∷ []) (spaced_row texts)) ≡ after r (λ prog. choices seats person (chosen ++ prog ∷ []) texts)
    by next (Ok prog) = next (chosen ++ prog ∷ [])
    by next (Err kind) = refl

abbrev candidate_if : List Entry → Option Person → ℕ → Result Person ChoiceKind
candidate_if entries o n =
    needs o UnknownCandidate (λ person. unless (is_some (list_at person.id.0 entries)) RepeatedCandidate
    (unless (nat_lt most_row_choices (n - 1)) TooLong (unless (nat_lt most_choices (all_choices entries + (n - 1))) TooMany (Ok person))))

candidate-spaced : (ranks : Ranks) (entries : List Entry) (row : Row) → new_candidate ranks entries (spaced_row row) ≡ new_candidate ranks entries row
candidate-spaced ranks entries row =
    ap (λ (o : Option Person). candidate_if entries o (length (spaced_row row))) (person-spaced ranks row) ∙ ap (candidate_if entries (person_of ranks (field row 0))) (length-map row spaced)

drop-spaced : (row : Row) → drop 1 (spaced_row row) ≡ spaced_row (drop 1 row)
drop-spaced [] = refl
drop-spaced (f ∷ row) = refl

-- what the fields of a row give a person
abbrev wanted : SeatTable → Row → Person → Result Entry ChoiceKind
wanted seats row person = after (choices seats person [] (drop 1 row)) (λ programmes. Ok (record { candidate = person.id.0; programmes = programmes }))

reading-spaced : (ranks : Ranks) (seats : SeatTable) (entries : List Entry) (row : Row) → reading ranks seats entries (spaced_row row) ≡ reading ranks seats entries row
unfolding reading
reading-spaced ranks seats entries row = ap (λ (r : Result Person ChoiceKind). after r (wanted seats (spaced_row row))) (candidate-spaced ranks entries row) ∙ by (new_candidate ranks entries row)
  where
    by : (r : Result Person ChoiceKind) → after r (wanted seats (spaced_row row)) ≡ after r (wanted seats row)
    by (Ok person) =
        ap (λ (t : Result (List ProgId) ChoiceKind). after t (λ programmes. Ok (record { candidate = person.id.0; programmes = programmes })))
        (ap (choices seats person []) (drop-spaced row) ∙ choices-spaced seats person [] (drop 1 row))
    by (Err kind) = refl

entries-spaced : (ranks : Ranks) (seats : SeatTable) (number : ℕ) (before : List Entry) (rows : List Row) → entries_from (reading ranks seats) number before (map spaced_row rows) ≡ entries_from (reading ranks seats) number before rows
entries-spaced ranks seats number before [] = refl
entries-spaced ranks seats number before (row ∷ rows) =
    ap (λ (r : Result Entry ChoiceKind). then_read number r (λ entry. entries_from (reading ranks seats) (number + 1) (before ++ entry ∷ []) (map spaced_row rows))) (reading-spaced ranks seats before row)
    ∙ by (λ entry. entries-spaced ranks seats (number + 1) (before ++ entry ∷ []) rows) (reading ranks seats before row)
  where
    by : ((entry : Entry) → entries_from (reading ranks seats) (number + 1) (before ++ entry ∷ []) (map spaced_row rows) ≡ entries_from (reading ranks seats) (number + 1) (before ++ entry ∷ []) rows) → (r : Result Entry ChoiceKind)
        → then_read number r (λ entry. entries_from (reading ranks seats) (number + 1) (before ++ entry ∷ []) (map spaced_row rows)) ≡ then_read number r (λ entry. entries_from (reading ranks seats) (number + 1) (before ++ entry ∷ []) rows)
    by next (Ok entry) = next entry
    by next (Err kind) = refl

-- ---- the header

abbrev is_apart : ℕ → Bool
is_apart c = not (nat_eq 32 c) && not (nat_eq 10 c)

apart : (c : ℕ) → is_apart c ≡ true → nat_eq 32 c ≡ nat_eq 10 c
apart c h = by (nat_eq 32 c) (nat_eq 10 c) h
  where
    by : (a b : Bool) → (not a && not b) ≡ true → a ≡ b
    by true b h = absurd (cc)
    by false true h = absurd (cc)
    by false false h = refl

name-spaced : (f name : List ℕ) → list_all is_apart name ≡ true → bytes_eq (spaced f) name ≡ bytes_eq f name
name-spaced [] name h = refl
name-spaced (b ∷ f) [] h = refl
name-spaced (b ∷ f) (c ∷ name) h =
    let (here, rest) = and_parts (is_apart c) (list_all is_apart name) h in
    ap (λ (x : Bool). x && bytes_eq (spaced f) name) (byte-spaced (λ x. nat_eq x c) (apart c here) b) ∙ ap (λ (x : Bool). nat_eq b c && x) (name-spaced f name rest)

names-spaced : (row names : Row) → list_all (list_all is_apart) names ≡ true → same_fields (spaced_row row) names ≡ same_fields row names
names-spaced [] [] h = refl
names-spaced [] (name ∷ names) h = refl
names-spaced (f ∷ row) [] h = refl
names-spaced (f ∷ row) (name ∷ names) h =
    let (here, rest) = and_parts (list_all is_apart name) (list_all (list_all is_apart) names) h in
    ap (λ (x : Bool). x && same_fields (spaced_row row) names) (name-spaced f name here) ∙ ap (λ (x : Bool). bytes_eq f name && x) (names-spaced row names rest)

-- ---- the table

table-spaced : (ranks : Ranks) (seats : SeatTable) (rows : List Row) → entries_of ranks seats (map spaced_row rows) ≡ entries_of ranks seats rows
table-spaced ranks seats [] = refl
table-spaced ranks seats (row ∷ rows) =
    ap (λ (b : Bool). if b then entries_from (reading ranks seats) 2 [] (map spaced_row rows) else Err (1, BadHeader)) (names-spaced row header refl)
    ∙ ap (λ (t : Given Entry ChoiceKind). if same_fields row header then t else Err (1, BadHeader)) (entries-spaced ranks seats 2 [] rows)

-- Rows with spaces give the lists that the rows give, and have their first fault.
pub read-spaced : (ranks : Ranks) (seats : SeatTable) (rows : List Row) (lists : Lists) → IsRead ranks seats (map spaced_row rows) lists → IsRead ranks seats rows lists
read-spaced ranks seats rows lists h = (h.0, sym (table-spaced ranks seats rows) ∙ h.1, h.2)

pub first-spaced : (ranks : Ranks) (seats : SeatTable) (rows : List Row) (row : ℕ) (kind : ChoiceKind) → IsFault ranks seats (map spaced_row rows) (Bad row kind) → IsFault ranks seats rows (Bad row kind)
first-spaced ranks seats rows row kind h = sym (table-spaced ranks seats rows) ∙ h
