-- How long the text is that is made up: every word has nine bytes at most.
use Rattle.std.proofs.Common.{◌≡◌, ◌≤◌, ◌<◌, ◌+◌, ◌*◌, ◌/◌, ◌%◌, ◌==◌, ℕ, zero, suc, Bool, true, false, List, [], ◌∷◌, ◌++◌, length, map, ap, length-append, arith, lit≤, suc-mul, if◌then◌else◌, nat_lt}
use Rattle.std.specs.Prelude.{codes, slice_index}
use Rattle.std.specs.Fmt.{decimal}
use Rattle.std.specs.List.{AllByRecursion, flat_map, range_with_len}
use Rattle.std.proofs.lemmas.Fmt.{length-decimal-le}
use Rattle.std.proofs.lemmas.List.FromFn.{length-map-range_with_len}
use Rattle.office_base.specs.CategorySteps.{own_steps}
use Rattle.office_base.specs.declared.person.Category.{Category}
use Rattle.office_base.specs.declared.person.Category.TheVariants.{Gen}
use Rattle.office_base.specs.declared.step.StepKind.{StepKind}
use Rattle.office_base.specs.declared.step.StepKind.TheVariants.{Open}
use Rattle.section_rows.specs.Rows.{Row}
use Rattle.office_text.specs.Names.{category_name, step_name}
use Rattle.season_generator.specs.Bundle.{choice_name, programme_code, profile_of, step_seats, traits_name}
use Rattle.season_generator.specs.Draws.{state_after, drawn}
use Rattle.season_generator.specs.declared.profile.Profile.{Profile}
use Rattle.season_generator.proofs.Numbers.{own-token}
use Rattle.season_generator.proofs.ListedPlaces.{ArePlaces}
use Rattle.season_generator.proofs.Plain.{further, line_of, text-append, text_of}
use Rattle.season_generator.proofs.Registered.{place_text, register_rows, rows_at as register_rows_at, row_words as register_words}
use Rattle.season_generator.proofs.Requested.{answer_words, answers_at, cut_words, request_rows, window_at}
use Rattle.season_generator.proofs.Seated.{AreFew, few-made, matrix_rows, matrix_words, rows_of_programme, rows_of_steps}
use Rattle.season_generator.proofs.Chosen.{choice_rows, number_at, row_words as choice_words, rows_at as choice_rows_at}

-- ---- rows of short words

abbrev IsShort : List ℕ → Type 0
IsShort word = length word ≤ 9

abbrev AreShort : Row → Type 0
AreShort words = AllByRecursion IsShort words

further-length : (words : Row) → AreShort words → length (further words) ≤ 10 * length words + 1
further-length [] all = omega arith
further-length (word ∷ words) all = omega (arith, all.0, further-length words all.1, length-append word (further words))

line-length : (row : Row) → AreShort row → length (line_of row) ≤ 10 * length row + 1
line-length [] all = omega arith
line-length (word ∷ words) all = omega (arith, all.0, further-length words all.1, length-append word (further words))

-- a row alone
row-length : (row : Row) → AreShort row → length (text_of (row ∷ [])) ≤ 10 * length row + 1
row-length row all = omega (arith, line-length row all, length-append (line_of row) [])

-- the rows of a range, where those of each number have so many bytes at most
range-length : (rows : ℕ → List Row) (most a k : ℕ) → ((i : ℕ) → i < a + k → length (text_of (rows i)) ≤ most) → length (text_of (flat_map rows (range_with_len a k))) ≤ k * most
range-length rows most a zero each = omega arith
range-length rows most a (suc k) each =
    let rest = flat_map rows (range_with_len (a + 1) k) in
    let split : length (text_of (rows a ++ rest)) ≡ length (text_of (rows a) ++ text_of rest) = ap length (text-append (rows a) rest) in
    let next = range-length rows most (a + 1) k (λ i less. each i (omega (arith, less))) in
    omega (arith, each a (omega arith), next, split, length-append (text_of (rows a)) (text_of rest), suc-mul k most)

decimal-short : (n : ℕ) → n ≤ 100000 → length (decimal n) ≤ 6
decimal-short n low = length-decimal-le 6 n (omega arith) (omega (arith, low)) (omega (arith, low))

-- ---- the register

category-short : (category : Category) → IsShort (category_name category)
category-short Gen = lit≤ tt
category-short category = lit≤ tt

traits-short : (women disabled : Bool) → IsShort (traits_name women disabled)
traits-short false false = lit≤ tt
traits-short true false = lit≤ tt
traits-short false true = lit≤ tt
traits-short true true = lit≤ tt

place-short : (place : ℕ) (relaxed : Bool) → place ≤ 100000 → IsShort (place_text place relaxed)
place-short place false low = omega (arith, decimal-short place low)
place-short place true low = omega (arith, decimal-short place low, length-append (decimal place) (82 ∷ []))

register-row : (id : ℕ) (profile : Profile) (first second : ℕ) → id ≤ 100000 → first ≤ 100000 → second ≤ 100000 → length (text_of (register_words id profile first second ∷ [])) ≤ 61
register-row id profile first second low one two =
    row-length (register_words id profile first second) (
      omega (arith, decimal-short id low),
      (
        category-short profile.category,
        (
          traits-short profile.women profile.disabled,
          (
            omega (arith, (own-token id (omega (arith, low))).long),
            (place-short first profile.relaxed one, (place-short second profile.relaxed two, tt)),
          ),
        ),
      ),
    )

pub register-length : (n state : ℕ) (first second : List ℕ) → n ≤ 100000 → ArePlaces n first → ArePlaces n second → length (text_of (register_rows n state first second)) ≤ 100 + n * 61
register-length n state first second most firsts seconds =
    let rest = flat_map (register_rows_at state first second) (range_with_len 0 n) in
    let all : length (text_of rest) ≤ n * 61 = range-length (register_rows_at state first second) 61 0 n
    (λ i less. register-row (i + 1) (profile_of state i) (slice_index first i) (slice_index second i) (omega (arith, less, most)) (omega (arith, firsts.high i (omega (arith, less)), most)) (omega (arith, seconds.high i (omega (arith, less)), most))) in
    omega (arith, all)

-- ---- the matrix

matrix-row : (p : ℕ) (step : List ℕ) (seats women disabled : ℕ) → p < 100 → IsShort step → AreFew seats women disabled → length (line_of (matrix_words p step seats women disabled)) ≤ 71
matrix-row p step seats women disabled low short few =
    let total = few.total in
    let part = few.part in
    line-length (matrix_words p step seats women disabled) (
      lit≤ tt,
      (
        omega (arith, decimal-short (p / 10) (omega (arith, low))),
        (
          omega (arith, decimal-short (1 + p % 2) (omega arith)),
          (
            short,
            (
              omega (arith, decimal-short seats (omega (arith, total))),
              (omega (arith, decimal-short women (omega (arith, total, part))), (omega (arith, decimal-short disabled (omega (arith, total, part))), tt)),
            ),
          ),
        ),
      ),
    )

name-short : (step : StepKind) → IsShort (step_name step)
name-short Open = lit≤ tt
name-short step = lit≤ tt

steps-length : (size p : ℕ) (steps : List StepKind) → size ≤ 126 → p < 100 → length (text_of (rows_of_steps size p steps)) ≤ length steps * 71
steps-length size p [] small low = omega arith
steps-length size p (step ∷ steps) small low =
    let has = step_seats size step in
    let words = matrix_words p (step_name step) has.seats has.women has.disabled in
    let here : length (line_of words) ≤ 71 = matrix-row p (step_name step) has.seats has.women has.disabled low (name-short step) (few-made size step small) in
    omega (arith, here, steps-length size p steps small low, length-append (line_of words) (text_of (rows_of_steps size p steps)))

-- the bytes of the rows of a programme, at most
abbrev pub most_bytes : ℕ
most_bytes = length own_steps * 71

pub matrix-length : (size count : ℕ) → size ≤ 126 → count ≤ 100 → length (text_of (matrix_rows size count)) ≤ 100 + count * most_bytes
matrix-length size count small most =
    let rest = flat_map (rows_of_programme size) (range_with_len 0 count) in
    let all : length (text_of rest) ≤ count * most_bytes = range-length (rows_of_programme size) most_bytes 0 count (λ i less. steps-length size i own_steps small (omega (arith, less, most))) in
    omega (arith, all)

-- ---- the choices

codes-short : (profile : Profile) (a k : ℕ) → AreShort (map (λ j. programme_code (number_at profile j)) (range_with_len a k))
codes-short profile a zero = tt
codes-short profile a (suc k) = (lit≤ tt, codes-short profile (a + 1) k)

choice-row : (most id : ℕ) (profile : Profile) → most ≤ 40 → id ≤ 100000 → length (text_of (choice_words most id profile ∷ [])) ≤ 411
choice-row most id profile short low =
    let one = row-length (choice_words most id profile) (omega (arith, decimal-short id low), codes-short profile 0 most) in
    let count = length-map-range_with_len (λ j. programme_code (number_at profile j)) 0 most in
    omega (arith, one, count, short)

pub choices-length : (most n state : ℕ) → most ≤ 40 → n ≤ 100000 → length (text_of (choice_rows most n state)) ≤ 100 + n * 411
choices-length most n state short small =
    let rest = flat_map (choice_rows_at most state) (range_with_len 0 n) in
    let all : length (text_of rest) ≤ n * 411 = range-length (choice_rows_at most state) 411 0 n (λ i less. choice-row most (i + 1) (profile_of state i) short (omega (arith, less, small))) in
    omega (arith, all)

-- ---- the requests

choice-by : (a b c : Bool) → IsShort (if a then codes "withdraw" else (if b then codes "freeze" else (if c then codes "slide" else codes "float")))
choice-by true b c = lit≤ tt
choice-by false true c = lit≤ tt
choice-by false false true = lit≤ tt
choice-by false false false = lit≤ tt

choice-short : (number : ℕ) → IsShort (choice_name number)
choice-short number = choice-by (number == 0) (nat_lt number 4) (nat_lt number 7)

cut-length : (window : ℕ) → window ≤ 6 → length (text_of (cut_words window ∷ [])) ≤ 31
cut-length window low = row-length (cut_words window) (lit≤ tt, (lit≤ tt, (omega (arith, decimal-short window (omega (arith, low))), tt)))

answer-length : (window id : ℕ) (choice : List ℕ) → window ≤ 6 → id ≤ 100000 → IsShort choice → length (text_of (answer_words window id choice ∷ [])) ≤ 61
answer-length window id choice low most short =
    let digits : IsShort (decimal id) = omega (arith, decimal-short id most) in
    row-length (answer_words window id choice) (lit≤ tt, (digits, (digits, (omega (arith, decimal-short window (omega (arith, low))), (lit≤ tt, (short, tt))))))

window-length : (n state before : ℕ) → n ≤ 100000 → before < 6 → length (text_of (window_at n state before)) ≤ n * 61 + 31
window-length n state before most low =
    let from = state_after (n * before) state in
    let answers = flat_map (answers_at (before + 1) from) (range_with_len 0 n) in
    let own : List Row = cut_words (before + 1) ∷ [] in
    let all : length (text_of answers) ≤ n * 61 =
    range-length (answers_at (before + 1) from) 61 0 n (λ i less. answer-length (before + 1) (i + 1) (choice_name (drawn 20 (state_after i from))) (omega (arith, low)) (omega (arith, less, most)) (choice-short (drawn 20 (state_after i from)))) in
    let split : length (text_of (answers ++ own)) ≡ length (text_of answers ++ text_of own) = ap length (text-append answers own) in
    omega (arith, all, cut-length (before + 1) (omega (arith, low)), split, length-append (text_of answers) (text_of own))

pub requests-length : (n state : ℕ) → n ≤ 100000 → length (text_of (request_rows n state)) ≤ 31 + 6 * (n * 61 + 31)
requests-length n state most =
    let rest = flat_map (window_at n state) (range_with_len 0 6) in
    let all : length (text_of rest) ≤ 6 * (n * 61 + 31) = range-length (window_at n state) (n * 61 + 31) 0 6 (λ i less. window-length n state i most (omega (arith, less))) in
    let split : length (text_of (cut_words 0 ∷ rest)) ≡ length (text_of (cut_words 0 ∷ []) ++ text_of rest) = ap length (text-append (cut_words 0 ∷ []) rest) in
    omega (arith, all, split, cut-length 0 (omega arith), length-append (text_of (cut_words 0 ∷ [])) (text_of rest))
