-- The matrix that is made up has no fault, and which programmes it has.
use Rattle.std.proofs.Common.{◌≡◌, ◌≤◌, ◌<◌, ◌+◌, ◌*◌, ◌/◌, ◌%◌, ◌==◌, ℕ, zero, suc, true, false, cond, ◌&&◌, nat_lt, List, [], ◌∷◌, ◌++◌, Option, Some, None, Ok, length, get_or, map, refl, sym, ap, ◌∙◌, append_assoc, subst, add-one, arith, sum}
use Rattle.std.specs.Prelude.{bytes_eq, codes}
use Rattle.std.specs.Fmt.{decimal}
use Rattle.std.specs.List.{flat_map, list_any, range_with_len}
use Rattle.std.proofs.lemmas.Bool.{and_from, and_parts, and_right, cond-false, cond-true, eq-eqb, eqb-true, false_from_ne_true, le-ltb, lt-leb, ne_eqb, or_from, or_left, or_right}
use Rattle.std.proofs.lemmas.Fmt.{decimal_digit}
use Rattle.std.proofs.lemmas.List.FromFn.{length-map-range_with_len, map-range_with_len_more}
use Rattle.std.proofs.lemmas.Slice.Eq.{bytes_eq-Decides}
use Rattle.office_base.specs.Codes.{is_code, is_code_byte}
use Rattle.office_base.specs.CategorySteps.{category_steps, own_steps}
use Rattle.office_base.specs.Limits.{most_matrix_seats, most_programmes, most_step_seats}
use Rattle.office_base.specs.StepNumbers.{step_number}
use Rattle.office_base.specs.declared.step.StepKind.{StepKind}
use Rattle.office_base.specs.declared.step.StepKind.TheVariants.{Open, Obc, St, Dereserved}
use Rattle.office_base.proofs.StepNumbers.{numbered}
use Rattle.office_text.specs.Names.{code_of, step_name, step_of}
use Rattle.office_text.specs.Number.{AreInverse, number_within}
use Rattle.section_rows.specs.Rows.{Row}
use Rattle.section_rows.specs.Steps.{or_else}
use Rattle.section_rows.proofs.StepsLemmas.{first_of-push}
use Rattle.seat_matrix.specs.Fields.{count_of, protection_of}
use Rattle.seat_matrix.specs.Matrix.{all_seats, codes_after, codes_of, entries_of, header, home_at, reading, seating_at, seats_after, settles, with_code}
use Rattle.seat_matrix.specs.declared.entry.Entry.{Entry}
use Rattle.seat_matrix.specs.declared.entry.Home.{Home}
use Rattle.seat_matrix.specs.declared.fault.MatrixKind.TheVariants.{BadHeader}
use Rattle.seat_matrix.specs.declared.seats.Seating.{Seating}
use Rattle.seat_matrix.proofs.SeatsLemmas.{seats-push}
use Rattle.season_generator.specs.Bundle.{lines, matrix_row, programme_code, programme_rows, step_row, step_seats}
use Rattle.season_generator.proofs.Numbers.{are-digits, digit-byte, digit-plain, not-empty, read-within}
use Rattle.season_generator.proofs.Plain.{AreWordRows, IsWordRow, is_word, line_of, text_of}
use Rattle.season_generator.proofs.Ranges.{Reads, first-found, none-found, reads-range, reads-table, text-range, words-range}

-- ---- the codes of programmes

pub bytes-same : (xs : List ℕ) → bytes_eq xs xs ≡ true
bytes-same xs = (bytes_eq-Decides xs xs).1 refl

-- Different programmes have different codes.
pub codes-apart : (p q : ℕ) → (p ≡ q → ⊥) → bytes_eq (programme_code p) (programme_code q) ≡ false
codes-apart p q other =
    false_from_ne_true (bytes_eq (programme_code p) (programme_code q)) (λ t.
    let same : programme_code p ≡ programme_code q = (bytes_eq-Decides (programme_code p) (programme_code q)).0 t in
    let tens : 48 + p / 10 ≡ 48 + q / 10 = ap (λ (l : List ℕ). get_or l 1 0) same in
    let ones : 48 + p % 10 ≡ 48 + q % 10 = ap (λ (l : List ℕ). get_or l 2 0) same in
    other (omega (arith, tens, ones)))

code-byte : (d : ℕ) → d < 10 → is_code_byte (48 + d) ≡ true
code-byte d small = or_left _ _ (digit-plain d small)

pub code-read : (p : ℕ) → p < 100 → code_of (programme_code p) ≡ Some (programme_code p)
code-read p low = cond-true (is_code (programme_code p)) (Some (programme_code p)) None (and_from _ _ (code-byte (p / 10) (omega (arith, low))) (and_from _ true (code-byte (p % 10) (omega arith)) refl))

pub code-word : (p : ℕ) → p < 100 → is_word (programme_code p) ≡ true
code-word p low = and_from _ _ (digit-byte (p / 10) (omega (arith, low))) (and_from _ true (digit-byte (p % 10) (omega arith)) refl)

abbrev pub institute : ℕ → List ℕ
institute p = codes "I" ++ decimal (p / 10)

institute-read : (p : ℕ) → p < 100 → code_of (institute p) ≡ Some (institute p)
institute-read p low =
    let small : p / 10 < 10 = omega (arith, low) in
    let is : is_code (institute p) ≡ true = ap (λ (l : List ℕ). is_code (73 ∷ l)) (decimal_digit (p / 10) small) ∙ and_from _ true (code-byte (p / 10) small) refl in
    cond-true (is_code (institute p)) (Some (institute p)) None is

institute-word : (p : ℕ) → p < 100 → is_word (institute p) ≡ true
institute-word p low =
    let small : p / 10 < 10 = omega (arith, low) in
    ap (λ (l : List ℕ). is_word (73 ∷ l)) (decimal_digit (p / 10) small) ∙ and_from _ true (digit-byte (p / 10) small) refl

-- ---- a row

-- the words of a row of the matrix
abbrev pub matrix_words : ℕ → List ℕ → ℕ → ℕ → ℕ → Row
matrix_words p step seats women disabled = programme_code p ∷ institute p ∷ decimal (1 + p % 2) ∷ step ∷ decimal seats ∷ decimal women ∷ decimal disabled ∷ []

-- what they give
abbrev pub home_made : ℕ → Home
home_made p = record { institute = institute p; list = record { 0 = 1 + p % 2 } }

abbrev seating_made : ℕ → ℕ → ℕ → Seating
seating_made seats women disabled = record { seats = seats; protections = record { counts = women ∷ disabled ∷ 0 ∷ 0 ∷ 0 ∷ 0 ∷ [] } }

abbrev entry_made : ℕ → StepKind → ℕ → ℕ → ℕ → Entry
entry_made p step seats women disabled = record { programme = programme_code p; home = home_made p; step = step; seating = seating_made seats women disabled }

matrix-line : (p : ℕ) (step : List ℕ) (seats women disabled : ℕ) → matrix_row p step seats women disabled ≡ line_of (matrix_words p step seats women disabled)
unfolding matrix_row
matrix-line p step seats women disabled = simp append_assoc

-- Seats of a step that the office takes.
pub record AreFew (seats women disabled : ℕ) : Type 0 where
  pub total : seats ≤ 252
  pub part : women + disabled ≤ seats

row-is-words : (p : ℕ) (step : List ℕ) (seats women disabled : ℕ) → p < 100 → is_word step ≡ true → AreFew seats women disabled → IsWordRow (matrix_words p step seats women disabled)
row-is-words p step seats women disabled low word few =
    let total = few.total in
    let part = few.part in
    (code-word p low, (institute-word p low, ((are-digits (1 + p % 2) (omega arith)).word, (word, ((are-digits seats (omega (arith, total))).word, ((are-digits women (omega (arith, total, part))).word, ((are-digits disabled (omega (arith, total, part))).word, tt)))))))

-- the seats of a programme, at most
abbrev most_here : ℕ
most_here = length own_steps * 252

-- Where the rows of a programme are read up to the step of this number.
record IsAt (p done : ℕ) (entries : List Entry) : Type 0 where
  free : (step : ℕ) → done ≤ step → seating_at (programme_code p) step entries ≡ None
  settled : settles (home_at (programme_code p) entries) (length (codes_of entries)) (home_made p) ≡ Ok (home_made p)
  seats : all_seats entries ≤ p * most_here + done * 252

count-read : AreInverse → (n : ℕ) → n ≤ 252 → count_of (decimal n) ≡ Some n
count-read inverse n low = read-within inverse 0 most_step_seats n (omega (arith, low)) (omega arith) (omega (arith, low))

protection-read : AreInverse → (n : ℕ) → n ≤ 252 → protection_of (decimal n) ≡ Some n
protection-read inverse n low = cond-false (length (decimal n) == 0) (Some 0) (count_of (decimal n)) (not-empty (decimal n) (are-digits n (omega (arith, low))).word) ∙ count-read inverse n low

row-read : AreInverse → (p : ℕ) (step : StepKind) (name : List ℕ) (seats women disabled done : ℕ) (entries : List Entry) → p < 100 → done < length own_steps → AreFew seats women disabled → step_of name ≡ Some step → step_number step ≡ done
    → IsAt p done entries → reading entries (matrix_words p name seats women disabled) ≡ Ok (entry_made p step seats women disabled)
unfolding reading
row-read inverse p step name seats women disabled done entries low early few named number at =
    let total = few.total in
    let part = few.part in
    let so-far = at.seats in
    let free : seating_at (programme_code p) (step_number step) entries ≡ None = ap (λ (s : ℕ). seating_at (programme_code p) s entries) number ∙ at.free done (omega arith) in
    let count : count_of (decimal seats) ≡ Some seats = count-read inverse seats total in
    let one : protection_of (decimal women) ≡ Some women = protection-read inverse women (omega (arith, total, part)) in
    let two : protection_of (decimal disabled) ≡ Some disabled = protection-read inverse disabled (omega (arith, total, part)) in
    let protected : nat_lt seats (sum (women ∷ disabled ∷ 0 ∷ 0 ∷ 0 ∷ 0 ∷ [])) ≡ false = le-ltb seats _ (omega (arith, part)) in
    let list : number_within 1 4 (decimal (1 + p % 2)) ≡ Some (1 + p % 2) = read-within inverse 1 4 (1 + p % 2) (omega arith) (omega arith) (omega arith) in
    let room : nat_lt most_matrix_seats (all_seats entries + seats) ≡ false = le-ltb most_matrix_seats _ (omega (arith, so-far, total, low, early)) in
    rw (code-read p low, institute-read p low, named, free, count, one, two, protected, list, at.settled, room) refl

-- A home that is known settles, whatever came before.
settles-more : (o : Option Home) (count other : ℕ) (home : Home) → settles o count home ≡ Ok home → settles (or_else o (Some home)) other home ≡ Ok home
settles-more None count other home e = rw (bytes-same home.institute, eq-eqb home.list.0 home.list.0 refl) refl
settles-more (Some known) count other home e = e

at-next : (p : ℕ) (step : StepKind) (seats women disabled done : ℕ) (entries : List Entry) → AreFew seats women disabled → step_number step ≡ done → IsAt p done entries
    → IsAt p (done + 1) (entries ++ entry_made p step seats women disabled ∷ [])
at-next p step seats women disabled done entries few number at =
    let entry = entry_made p step seats women disabled in
    record {
      free = λ other later.
          let apart : (bytes_eq (programme_code p) (programme_code p) && other == step_number step) ≡ false = and_right _ _ (ne_eqb other (step_number step) (λ e. omega (arith, e, number, later))) in
          first_of-push (λ e. bytes_eq (programme_code p) e.programme && other == step_number e.step) (λ e. e.seating) entries entry
          ∙ ap (λ (o : Option Seating). or_else o (cond (bytes_eq (programme_code p) (programme_code p) && other == step_number step) (Some entry.seating) None)) (at.free other (omega (arith, later)))
          ∙ cond-false _ (Some entry.seating) None apart;
      settled = ap (λ (o : Option Home). settles o (length (codes_of (entries ++ entry ∷ []))) (home_made p))
          (first_of-push (λ e. bytes_eq (programme_code p) e.programme) (λ e. e.home) entries entry
          ∙ ap (or_else (home_at (programme_code p) entries)) (cond-true (bytes_eq (programme_code p) (programme_code p)) (Some (home_made p)) None (bytes-same (programme_code p))))
          ∙ settles-more (home_at (programme_code p) entries) (length (codes_of entries)) (length (codes_of (entries ++ entry ∷ []))) (home_made p) at.settled;
      seats = omega (arith, seats-push 0 entries entry, at.seats, few.total);
    }

-- ---- the rows of a programme

-- the row of a step, and what it gives
abbrev row_made : ℕ → ℕ → StepKind → Row
row_made size p step = matrix_words p (step_name step) (step_seats size step).seats (step_seats size step).women (step_seats size step).disabled

abbrev entry_of : ℕ → ℕ → StepKind → Entry
entry_of size p step = entry_made p step (step_seats size step).seats (step_seats size step).women (step_seats size step).disabled

-- those of some steps
abbrev pub rows_of_steps : ℕ → ℕ → List StepKind → List Row
rows_of_steps size p steps = map (row_made size p) steps

abbrev entries_of_steps : ℕ → ℕ → List StepKind → List Entry
entries_of_steps size p steps = map (entry_of size p) steps

abbrev pub rows_of_programme : ℕ → ℕ → List Row
rows_of_programme size p = rows_of_steps size p own_steps

abbrev pub entries_of_programme : ℕ → ℕ → List Entry
entries_of_programme size p = entries_of_steps size p own_steps

-- the entries of the programmes before one
abbrev pub entries_to : ℕ → ℕ → List Entry
entries_to size p = flat_map (entries_of_programme size) (range_with_len 0 p)

pub few-made : (size : ℕ) (step : StepKind) → size ≤ 126 → AreFew (step_seats size step).seats (step_seats size step).women (step_seats size step).disabled
few-made size Open small = record { total = omega (arith, small); part = omega (arith, small) }
few-made size Obc small = record { total = omega (arith, small); part = omega (arith, small) }
few-made size St small = record { total = omega (arith, small); part = omega (arith, small) }
few-made size step small = record { total = omega (arith, small); part = omega (arith, small) }

-- the name of a step with seats of its own is read
name-read : (step : StepKind) → step_number step < length own_steps → step_of (step_name step) ≡ Some step
name-read Dereserved below = absurd (omega (arith, below))
name-read step below = refl

name-word : (step : StepKind) → is_word (step_name step) ≡ true
name-word Open = refl
name-word step = refl

steps-read : AreInverse → (size p done : ℕ) (steps : List StepKind) (entries : List Entry) → size ≤ 126 → p < 100 → done + length steps ≤ length own_steps → numbered done steps ≡ true → IsAt p done entries
    → Reads reading entries (rows_of_steps size p steps) (entries_of_steps size p steps)
steps-read inverse size p done [] entries small low within numbers at = tt
steps-read inverse size p done (step ∷ steps) entries small low within numbers at =
    let parts = and_parts (step_number step == done) (numbered (suc done) steps) numbers in
    let number : step_number step ≡ done = eqb-true (step_number step) done parts.0 in
    let has = step_seats size step in
    let few = few-made size step small in
    let next : IsAt p (suc done) (entries ++ entry_of size p step ∷ []) = subst (λ n. IsAt p n (entries ++ entry_of size p step ∷ [])) (add-one done) (at-next p step has.seats has.women has.disabled done entries few number at) in (
      row-read inverse p step (step_name step) has.seats has.women has.disabled done entries low (omega (arith, within)) few (name-read step (omega (arith, within, number))) number at,
      steps-read inverse size p (suc done) steps (entries ++ entry_of size p step ∷ []) small low (omega (arith, within)) parts.1 next,
    )

programme-reads : AreInverse → (size p : ℕ) (entries : List Entry) → size ≤ 126 → p < 100 → IsAt p 0 entries → Reads reading entries (rows_of_programme size p) (entries_of_programme size p)
programme-reads inverse size p entries small low at = steps-read inverse size p 0 own_steps entries small low (omega arith) refl at

steps-words : (size p : ℕ) (steps : List StepKind) → size ≤ 126 → p < 100 → AreWordRows (rows_of_steps size p steps)
steps-words size p [] small low = tt
steps-words size p (step ∷ steps) small low =
    let has = step_seats size step in
    (row-is-words p (step_name step) has.seats has.women has.disabled low (name-word step) (few-made size step small), steps-words size p steps small low)

programme-words : (size p : ℕ) → size ≤ 126 → p < 100 → AreWordRows (rows_of_programme size p)
programme-words size p small low = steps-words size p own_steps small low

steps-text : (size p : ℕ) (steps : List StepKind) → flat_map (step_row size p) steps ≡ text_of (rows_of_steps size p steps)
steps-text size p [] = refl
steps-text size p (step ∷ steps) =
    let has = step_seats size step in
    ap (λ (l : List ℕ). l ++ flat_map (step_row size p) steps) (matrix-line p (step_name step) has.seats has.women has.disabled) ∙ ap (λ (l : List ℕ). line_of (row_made size p step) ++ l) (steps-text size p steps)

programme-text : (size p : ℕ) → programme_rows size p ≡ text_of (rows_of_programme size p)
unfolding programme_rows
programme-text size p = steps-text size p own_steps

-- ---- all programmes

-- a code that is new is put at the end, and one that is there is not
with-new : (held : List (List ℕ)) (code : List ℕ) → list_any (bytes_eq code) held ≡ false → with_code held code ≡ held ++ code ∷ []
with-new held code e = cond-false (list_any (bytes_eq code) held) held (held ++ code ∷ []) e

is-there : (held : List (List ℕ)) (code : List ℕ) → list_any (bytes_eq code) (held ++ code ∷ []) ≡ true
is-there [] code = or_left _ _ (bytes-same code)
is-there (first ∷ held) code = or_right _ _ (is-there held code)

with-old : (held : List (List ℕ)) (code : List ℕ) → with_code (held ++ code ∷ []) code ≡ held ++ code ∷ []
with-old held code = cond-true (list_any (bytes_eq code) (held ++ code ∷ [])) _ _ (is-there held code)

codes-append : (held : List (List ℕ)) (xs ys : List Entry) → codes_after held (xs ++ ys) ≡ codes_after (codes_after held xs) ys
codes-append held [] ys = refl
codes-append held (x ∷ xs) ys = codes-append (with_code held x.programme) xs ys

none-same : (p a k : ℕ) → a + k ≤ p → list_any (bytes_eq (programme_code p)) (map programme_code (range_with_len a k)) ≡ false
none-same p a zero less = refl
none-same p a (suc k) less = or_from _ _ (codes-apart p a (λ e. omega (arith, e, less))) (none-same p (a + 1) k (omega (arith, less)))

-- more entries of a programme whose code is there
codes-same : (size p : ℕ) (steps : List StepKind) (held : List (List ℕ)) → codes_after (held ++ programme_code p ∷ []) (entries_of_steps size p steps) ≡ held ++ programme_code p ∷ []
codes-same size p [] held = refl
codes-same size p (step ∷ steps) held = ap (λ (l : List (List ℕ)). codes_after l (entries_of_steps size p steps)) (with-old held (programme_code p)) ∙ codes-same size p steps held

-- the codes after the entries of a new programme
codes-new : (size p : ℕ) (held : List (List ℕ)) → list_any (bytes_eq (programme_code p)) held ≡ false → codes_after held (entries_of_programme size p) ≡ held ++ programme_code p ∷ []
codes-new size p held new =
    let rest = map (λ row. row.step) category_steps in
    ap (λ (l : List (List ℕ)). codes_after l (entries_of_steps size p rest)) (with-new held (programme_code p) new) ∙ codes-same size p rest held

codes-range : (size a k : ℕ) → codes_after (map programme_code (range_with_len 0 a)) (flat_map (entries_of_programme size) (range_with_len a k)) ≡ map programme_code (range_with_len 0 (a + k))
codes-range size a zero = ap (λ (n : ℕ). map programme_code (range_with_len 0 n)) (omega arith)
codes-range size a (suc k) =
    let held = map programme_code (range_with_len 0 a) in
    let rest = flat_map (entries_of_programme size) (range_with_len (a + 1) k) in
    codes-append held (entries_of_programme size a) rest
    ∙ ap (λ (l : List (List ℕ)). codes_after l rest) (codes-new size a held (none-same a 0 a (omega arith)) ∙ sym (map-range_with_len_more programme_code 0 a a (omega arith)))
    ∙ codes-range size (a + 1) k ∙ ap (λ (n : ℕ). map programme_code (range_with_len 0 n)) (omega arith)

-- The programmes that come before one.
pub codes-to : (size p : ℕ) → codes_of (entries_to size p) ≡ map programme_code (range_with_len 0 p)
codes-to size p = codes-range size 0 p ∙ ap (λ (n : ℕ). map programme_code (range_with_len 0 n)) (omega arith)

seats-append : (seats : ℕ) (xs ys : List Entry) → seats_after seats (xs ++ ys) ≡ seats_after (seats_after seats xs) ys
seats-append seats [] ys = refl
seats-append seats (x ∷ xs) ys = seats-append (seats + x.seating.seats) xs ys

-- the seats of some steps
seats-few : (size p : ℕ) (steps : List StepKind) (seats : ℕ) → size ≤ 126 → seats_after seats (entries_of_steps size p steps) ≤ seats + length steps * 252
seats-few size p [] seats small = omega arith
seats-few size p (step ∷ steps) seats small = omega (arith, (few-made size step small).total, seats-few size p steps (seats + (step_seats size step).seats) small)

seats-range : (size a k seats : ℕ) → size ≤ 126 → seats_after seats (flat_map (entries_of_programme size) (range_with_len a k)) ≤ seats + k * most_here
seats-range size a zero seats small = omega arith
seats-range size a (suc k) seats small =
    let here = seats_after seats (entries_of_programme size a) in
    let rest = flat_map (entries_of_programme size) (range_with_len (a + 1) k) in
    let more : seats_after here rest ≤ here + k * most_here = seats-range size (a + 1) k here small in
    let few : here ≤ seats + most_here = seats-few size a own_steps seats small in
    omega (arith, seats-append seats (entries_of_programme size a) rest, more, few)

at-programme : (size p : ℕ) → size ≤ 126 → p < 100 → IsAt p 0 (entries_to size p)
at-programme size p small low =
    let count : length (codes_of (entries_to size p)) ≡ p = ap length (codes-to size p) ∙ length-map-range_with_len programme_code 0 p in
    let no-home : home_at (programme_code p) (entries_to size p) ≡ None =
    none-found (λ entry. bytes_eq (programme_code p) entry.programme) (λ entry. entry.home) (entries_of_programme size) 0 p (λ i from less. rw (codes-apart p i (λ e. omega (arith, e, less))) refl) in
    record {
      free = λ step from. none-found (λ entry. bytes_eq (programme_code p) entry.programme && step == step_number entry.step) (λ entry. entry.seating) (entries_of_programme size) 0 p
          (λ i low less. rw (codes-apart p i (λ e. omega (arith, e, less))) refl);
      settled = ap (λ (o : Option Home). settles o (length (codes_of (entries_to size p))) (home_made p)) no-home
          ∙ rw (lt-leb most_programmes (length (codes_of (entries_to size p))) (omega (arith, count, low))) refl;
      seats = omega (arith, seats-range size 0 p 0 small);
    }

-- the matrix's section with so many programmes
abbrev pub matrix_lines : ℕ → ℕ → List ℕ
matrix_lines size count = codes "[matrix]\nprogramme,institute,list,step,seats,W,D,X,S,F,L\n" ++ lines count (programme_rows size)

-- What it is.
pub record IsSeated (size count : ℕ) (rows : List Row) : Type 0 where
  pub text : matrix_lines size count ≡ codes "[matrix]\n" ++ text_of rows
  pub words : AreWordRows rows
  pub read : entries_of rows ≡ Ok (entries_to size count)

abbrev pub matrix_rows : ℕ → ℕ → List Row
matrix_rows size count = header ∷ flat_map (rows_of_programme size) (range_with_len 0 count)

pub seated : AreInverse → (size count : ℕ) → size ≤ 126 → count ≤ 100 → IsSeated size count (matrix_rows size count)
unfolding lines
seated inverse size count small most =
    let reads = reads-table BadHeader header reading header (flat_map (rows_of_programme size) (range_with_len 0 count)) (entries_to size count) refl
    (reads-range reading (rows_of_programme size) (entries_of_programme size) 0 count []
    (λ i less. programme-reads inverse size i (entries_to size i) small (omega (arith, less, most)) (at-programme size i small (omega (arith, less, most)))) refl) in
    record {
      text = ap (λ (l : List ℕ). codes "[matrix]\nprogramme,institute,list,step,seats,W,D,X,S,F,L\n" ++ l) (text-range (programme_rows size) (rows_of_programme size) 0 count (programme-text size));
      words = ((refl, (refl, (refl, (refl, (refl, (refl, (refl, (refl, (refl, (refl, (refl, tt))))))))))), words-range (rows_of_programme size) 0 count (λ i less. programme-words size i small (omega (arith, less, most))));
      read = reads;
    }

-- The `Home` of each programme is that of the first of its rows.
pub home-found : (size count p : ℕ) → p < count → home_at (programme_code p) (entries_to size count) ≡ Some (home_made p)
home-found size count p low =
    first-found (λ entry. bytes_eq (programme_code p) entry.programme) (λ entry. entry.home) (entries_of_programme size) 0 count p (home_made p) (omega arith) (omega (arith, low))
    (λ i from less. rw (codes-apart p i (λ e. omega (arith, e, less))) refl) (rw (bytes-same (programme_code p)) refl)
