-- The texts of reasons, lists, rounds and final admissions are all ASCII, if the codes of programmes are.
use Rattle.std.proofs.Common.{◌≡◌, ◌<◌, ◌+◌, ◌/◌, ◌%◌, ◌==◌, ◌&&◌, ℕ, zero, suc, Bool, true, false, List, [], ◌∷◌, ◌++◌, Option, Some, None, arith, refl, sym, subst, codes, if◌then◌else◌, nat_lt, nat_le, length, ap, slice_get, unwrap_or, option_map}
use Rattle.std.specs.Str.{IsAscii}
use Rattle.std.specs.List.{AllByRecursion, flat_map, list_all}
use Rattle.std.specs.Fmt.{decimal, digits, digits_onto, digit_glyph}
use Rattle.std.proofs.lemmas.Str.{IsAscii-append}
use Rattle.std.proofs.lemmas.Str.Ascii.{IsAscii-nil, IsAscii-cons}
use Rattle.std.proofs.lemmas.List.Concat.{flat_map-cons}
use Rattle.kept_rows.specs.declared.rows.AllotRow.{AllotRow}
use Rattle.office_base.specs.Certificate.{slot_of}
use Rattle.office_base.specs.Codes.{is_code, is_code_byte}
use Rattle.office_base.specs.Limits.{longest_code, shortest_code}
use Rattle.office_base.specs.Person.{has_trait}
use Rattle.office_base.specs.declared.seat.Seat.{Seat}
use Rattle.office_base.specs.declared.seat.SeatKind.{SeatKind}
use Rattle.office_base.specs.declared.seat.SeatKind.TheVariants.{Kept, Under}
use Rattle.office_base.specs.declared.person.Person.{Person}
use Rattle.office_base.specs.declared.person.Place.{Place}
use Rattle.office_base.specs.declared.person.Place.TheVariants.{Absent, Common, Relaxed}
use Rattle.office_base.specs.declared.person.TraitSet.{TraitSet}
use Rattle.office_base.specs.declared.step.Pair.{Pair}
use Rattle.office_base.specs.declared.step.StepKind.{StepKind}
use Rattle.office_base.proofs.StepNumbers.{each_step}
use Rattle.office_text.specs.Traits.{letter, letters}
use Rattle.step_cutoffs.specs.declared.cutoff.Cutoff.{Cutoff}
use Rattle.step_cutoffs.specs.declared.cutoff.Cutoff.TheVariants.{Nobody, UpTo, Anybody}
use Rattle.list_cutoffs.specs.declared.cutoffs.StepCutoff.{StepCutoff}
use Rattle.programme_lists.specs.declared.programme.Programme.{Programme}
use Rattle.programme_lists.specs.declared.programme.StepList.{StepList}
use Rattle.published_texts.specs.Texts.{AreSeatsOf, IsSeatOf, admit_line, allot_line, allot_lines, answer_lines, better_line, code_in, final_head, final_text, list_head, list_step, list_text, reason_head, reason_lines, reason_text, round_head, round_text, seat_line, step_why, why_line, worse_words}
use Rattle.reasons.specs.declared.reason.Reason.{Reason}
use Rattle.reasons.specs.declared.reason.Reason.TheVariants.{Admitted, Refused}
use Rattle.reasons.specs.declared.reason.StepWhy.{StepWhy}
use Rattle.reasons.specs.declared.reason.WhyAnswer.{WhyAnswer}
use Rattle.reasons.specs.declared.reason.WhyAnswer.TheVariants.{Reason as ReasonIs, Better, NotSought}
use Rattle.reply_bodies.specs.Plain.{ArePlainCodes, HasPlainCode}
use Rattle.reply_texts.specs.Replies.{AreShownOf, cutoff_line, cutoff_word, cutoffs_head, cutoffs_text, letter_if, letters_below, place_word, shown_text, traits_word}
use Rattle.rounds.specs.Round.{seated}
use Rattle.rounds.specs.declared.round.Round.{Round}
use Rattle.seat_matrix.specs.Matrix.{SeatTable}
use Rattle.step_lines.specs.Lines.{seat_kind_name, step_name, slot_letter, admitted_line, count_lines, step_lines}

-- ---- bytes

either_case : (b : Bool) (xs ys : List ℕ) → IsAscii xs → IsAscii ys → IsAscii (if b then xs else ys)
either_case true xs ys x y = x
either_case false xs ys x y = y

-- words that a person wrote
words : (text : List ℕ) → list_all (λ b. nat_lt b 128) text ≡ true → IsAscii text
words [] e = IsAscii-nil
words (b ∷ bs) e = IsAscii-cons b bs (grind (arith, e)) (words bs (grind (arith, e)))

then_text : (xs ys : List ℕ) → IsAscii xs → IsAscii ys → IsAscii (xs ++ ys)
then_text xs ys x y = IsAscii-append xs ys x y

-- ---- numbers

one_glyph : (b : Bool) (d : ℕ) → d < 10 → (if b then 48 + d else 87 + d) < 128
one_glyph true d few = omega (arith, few)
one_glyph false d few = omega (arith, few)

glyph : (d : ℕ) → d < 10 → digit_glyph false d < 128
glyph d few = one_glyph (nat_lt d 10) d few

some_digits : (k n : ℕ) (acc : List ℕ) → IsAscii acc → IsAscii (digits_onto k 10 false n acc)
some_digits zero n acc a = a
some_digits (suc k) n acc a =
    let more : IsAscii (digit_glyph false (n % 10) ∷ acc) = IsAscii-cons (digit_glyph false (n % 10)) acc (glyph (n % 10) (omega arith)) a in
    either_case (n / 10 == 0) _ _ more (some_digits k (n / 10) (digit_glyph false (n % 10) ∷ acc) more)

number : (n : ℕ) → IsAscii (decimal n)
unfolding digits
number n = some_digits 64 n [] IsAscii-nil

-- ---- steps

step : (kind : StepKind) → IsAscii (step_name kind)
step kind = words (step_name kind) (each_step (λ k. list_all (λ b. nat_lt b 128) (step_name k)) refl kind)

seat_kind : (kind : SeatKind) → IsAscii (seat_kind_name kind)
seat_kind (Under kind) = step kind
seat_kind Kept = words (seat_kind_name Kept) refl

a_letter : (slot : Option ℕ) → slot_letter slot < 128
a_letter None = omega arith
a_letter (Some t) = words letters refl t

each : {X : Type 0} (f : X → List ℕ) → ((x : X) → IsAscii (f x)) → (xs : List X) → IsAscii (flat_map f xs)
each f all [] = IsAscii-nil
each f all (x ∷ xs) = subst IsAscii (sym (flat_map-cons f x xs)) (then_text (f x) (flat_map f xs) (all x) (each f all xs))

after_dash : (slot : Option ℕ) → IsAscii (32 ∷ slot_letter slot ∷ 10 ∷ [])
after_dash slot = IsAscii-cons 32 (slot_letter slot ∷ 10 ∷ []) (omega arith) (IsAscii-cons (slot_letter slot) (10 ∷ []) (a_letter slot) (words (10 ∷ []) refl))

an_admitted : (pairs : List Pair) (person : Person) → IsAscii (admitted_line pairs person)
an_admitted pairs person = then_text (decimal person.id.0) (32 ∷ slot_letter (slot_of pairs person.id) ∷ 10 ∷ []) (number person.id.0) (after_dash (slot_of pairs person.id))

-- what is said so far, and then words; and then a number
say : (so_far text : List ℕ) → IsAscii so_far → list_all (λ b. nat_lt b 128) text ≡ true → IsAscii (so_far ++ text)
say so_far text s e = then_text so_far text s (words text e)

count : (so_far : List ℕ) (n : ℕ) → IsAscii so_far → IsAscii (so_far ++ decimal n)
count so_far n s = then_text so_far (decimal n) s (number n)

some_counts : (seats candidates admitted honoured : ℕ) → IsAscii (count_lines seats candidates admitted honoured)
some_counts seats candidates admitted honoured =
    let a = codes " seats " ++ decimal seats in
    let b = a ++ codes " candidates " ++ decimal candidates in
    let c = b ++ codes " admitted " ++ decimal admitted in
    let d = c ++ codes "\nhonoured " ++ decimal honoured in
    let sa : IsAscii a = count (codes " seats ") seats (words (codes " seats ") refl) in
    let sb : IsAscii b = count (a ++ codes " candidates ") candidates (say a (codes " candidates ") sa refl) in
    let sc : IsAscii c = count (b ++ codes " admitted ") admitted (say b (codes " admitted ") sb refl) in
    let sd : IsAscii d = count (c ++ codes "\nhonoured ") honoured (say c (codes "\nhonoured ") sc refl) in
    say d (codes "\n") sd refl

lines_of_step : (seats candidates : ℕ) (admitted : List Person) (pairs : List Pair) → IsAscii (step_lines seats candidates admitted pairs)
lines_of_step seats candidates admitted pairs =
    then_text (count_lines seats candidates (length admitted) (length pairs)) (flat_map (admitted_line pairs) admitted) (some_counts seats candidates (length admitted) (length pairs))
    (each (admitted_line pairs) (an_admitted pairs) admitted)

a_step : (list : StepList) → IsAscii (list_step list)
a_step list =
    then_text (codes "step " ++ step_name list.kind) (step_lines list.seats list.candidates list.admitted list.cert.pairs)
    (then_text (codes "step ") (step_name list.kind) (words (codes "step ") refl) (step list.kind)) (lines_of_step list.seats list.candidates list.admitted list.cert.pairs)

-- ---- lists

head_of_list : (table : SeatTable) (round prog : ℕ) → IsAscii (code_in table prog) → IsAscii (list_head table round prog)
head_of_list table round prog code =
    let a = codes "list " ++ decimal round in
    let b = a ++ codes " " in
    let c = b ++ code_in table prog in
    let sa : IsAscii a = count (codes "list ") round (words (codes "list ") refl) in
    let sc : IsAscii c = then_text b (code_in table prog) (say a (codes " ") sa refl) code in
    say c (codes "\n") sc refl

pub ascii_list : (table : SeatTable) (round prog : ℕ) (programme : Programme) → IsAscii (code_in table prog) → IsAscii (list_text table round prog programme)
ascii_list table round prog programme code =
    let a = list_head table round prog ++ flat_map list_step programme.steps in
    say a (codes "end list\n") (then_text (list_head table round prog) (flat_map list_step programme.steps) (head_of_list table round prog code) (each list_step a_step programme.steps)) refl

-- ---- rounds and final admissions

line_of_seat : (table : SeatTable) (cand prog : ℕ) (kind : SeatKind) → IsAscii (code_in table prog) → IsAscii (seat_line table cand prog kind)
line_of_seat table cand prog kind code =
    let a = decimal cand ++ codes " " in
    let b = a ++ code_in table prog in
    let c = b ++ codes " " in
    let d = c ++ seat_kind_name kind in
    let sa : IsAscii a = say (decimal cand) (codes " ") (number cand) refl in
    let sb : IsAscii b = then_text a (code_in table prog) sa code in
    let sd : IsAscii d = then_text c (seat_kind_name kind) (say b (codes " ") sb refl) (seat_kind kind) in
    say d (codes "\n") sd refl

an_allot : (table : SeatTable) (cand : ℕ) (seat : Option Seat) → ArePlainCodes table → IsSeatOf table seat → IsAscii (allot_line table cand seat)
an_allot table cand None plain is = IsAscii-nil
an_allot table cand (Some seat) plain is =
    then_text (codes "allot ") (seat_line table cand seat.prog.0 seat.step) (words (codes "allot ") refl) (line_of_seat table cand seat.prog.0 seat.step (plain seat.prog.0 is))

all_allots : (table : SeatTable) (people : List Person) (seats : List (Option Seat)) → ArePlainCodes table → AreSeatsOf table seats → IsAscii (allot_lines table people seats)
all_allots table [] seats plain are = IsAscii-nil
all_allots table (person ∷ people) [] plain are = IsAscii-nil
all_allots table (person ∷ people) (seat ∷ seats) plain are =
    then_text (allot_line table person.id.0 seat) (allot_lines table people seats) (an_allot table person.id.0 seat plain are.0) (all_allots table people seats plain are.1)

head_of_round : (n m : ℕ) → IsAscii (round_head n m)
head_of_round n m =
    let a = codes "round " ++ decimal n in
    let b = a ++ codes " seated " in
    let c = b ++ decimal m in
    let sa : IsAscii a = count (codes "round ") n (words (codes "round ") refl) in
    let sc : IsAscii c = count b m (say a (codes " seated ") sa refl) in
    say c (codes "\n") sc refl

ascii_round : (table : SeatTable) (people : List Person) (round : Round) → ArePlainCodes table → AreSeatsOf table round.seats → IsAscii (round_text table people round)
ascii_round table people round plain are =
    let head = round_head round.number (seated round.seats) in
    let lines = allot_lines table people round.seats in
    say (head ++ lines) (codes "end round\n") (then_text head lines (head_of_round round.number (seated round.seats)) (all_allots table people round.seats plain are)) refl

an_admit : (table : SeatTable) (row : AllotRow) → IsAscii (code_in table row.prog.0) → IsAscii (admit_line table row)
an_admit table row code =
    then_text (codes "admit ") (seat_line table row.cand.0 row.prog.0 row.step) (words (codes "admit ") refl) (line_of_seat table row.cand.0 row.prog.0 row.step code)

all_admits : (table : SeatTable) (rows : List AllotRow) → ArePlainCodes table → AllByRecursion (λ row. row.prog.0 < length table.programmes) rows → IsAscii (flat_map (admit_line table) rows)
all_admits table [] plain are = IsAscii-nil
all_admits table (row ∷ rows) plain are =
    subst IsAscii (sym (flat_map-cons (admit_line table) row rows))
    (then_text (admit_line table row) (flat_map (admit_line table) rows) (an_admit table row (plain row.prog.0 are.0)) (all_admits table rows plain are.1))

ascii_final : (table : SeatTable) (rows : List AllotRow) → ArePlainCodes table → AllByRecursion (λ row. row.prog.0 < length table.programmes) rows → IsAscii (final_text table rows)
ascii_final table rows plain are =
    let head = final_head (length rows) in
    let lines = flat_map (admit_line table) rows in
    let first : IsAscii head = say (codes "final " ++ decimal (length rows)) (codes "\n") (count (codes "final ") (length rows) (words (codes "final ") refl)) refl in
    say (head ++ lines) (codes "end final\n") (then_text head lines first (all_admits table rows plain are)) refl

pub ascii_shown : (table : SeatTable) (people : List Person) (round : Option Round) (rows : List AllotRow) → ArePlainCodes table → AreShownOf table people round rows
    → IsAscii (shown_text table people round rows)
ascii_shown table people None rows plain are = ascii_final table rows plain are.1
ascii_shown table people (Some round) rows plain are = ascii_round table people round plain are.0.programmes

-- ---- what the register has

a_trait : (traits : TraitSet) (t : ℕ) → IsAscii (letter_if traits t)
a_trait traits t = either_case (has_trait traits t) (letter t ∷ []) [] (IsAscii-cons (letter t) [] (words letters refl t) IsAscii-nil) IsAscii-nil

some_traits : (traits : TraitSet) (t : ℕ) → IsAscii (letters_below traits t)
some_traits traits zero = IsAscii-nil
some_traits traits (suc t) = then_text (letters_below traits t) (letter_if traits t) (some_traits traits t) (a_trait traits t)

pub ascii_traits : (traits : TraitSet) → IsAscii (traits_word traits)
ascii_traits traits = either_case (traits.0 == 0) (codes "-") (letters_below traits 6) (words (codes "-") refl) (some_traits traits 6)

pub ascii_place : (place : Place) → IsAscii (place_word place)
ascii_place Absent = words (codes "-") refl
ascii_place (Common n) = number n
ascii_place (Relaxed n) = say (decimal n) (codes "R") (number n) refl

-- ---- cutoffs

a_place : (cutoff : Cutoff) → IsAscii (cutoff_word cutoff)
a_place Nobody = words (codes "none") refl
a_place (UpTo last) = number last
a_place Anybody = words (codes "any") refl

a_cutoff : (line : StepCutoff) → IsAscii (cutoff_line line)
a_cutoff line =
    let a = step_name line.step ++ codes " " in
    let b = a ++ traits_word line.traits in
    let c = b ++ codes " " in
    let d = c ++ cutoff_word line.cutoff in
    let sa : IsAscii a = say (step_name line.step) (codes " ") (step line.step) refl in
    let sb : IsAscii b = then_text a (traits_word line.traits) sa (ascii_traits line.traits) in
    let sd : IsAscii d = then_text c (cutoff_word line.cutoff) (say b (codes " ") sb refl) (a_place line.cutoff) in
    say d (codes "\n") sd refl

head_of_cutoffs : (table : SeatTable) (round prog : ℕ) → IsAscii (code_in table prog) → IsAscii (cutoffs_head table round prog)
head_of_cutoffs table round prog code =
    let a = codes "cutoffs " ++ decimal round in
    let b = a ++ codes " " in
    let c = b ++ code_in table prog in
    let sa : IsAscii a = count (codes "cutoffs ") round (words (codes "cutoffs ") refl) in
    let sc : IsAscii c = then_text b (code_in table prog) (say a (codes " ") sa refl) code in
    say c (codes "\n") sc refl

pub ascii_cutoffs : (table : SeatTable) (round prog : ℕ) (lines : List StepCutoff) → IsAscii (code_in table prog) → IsAscii (cutoffs_text table round prog lines)
ascii_cutoffs table round prog lines code =
    let a = cutoffs_head table round prog ++ flat_map cutoff_line lines in
    say a (codes "end cutoffs\n") (then_text (cutoffs_head table round prog) (flat_map cutoff_line lines) (head_of_cutoffs table round prog code) (each cutoff_line a_cutoff lines)) refl

-- ---- reasons

some_worse : (worse : Bool) → IsAscii (worse_words worse)
some_worse true = words (codes " worse yes\n") refl
some_worse false = words (codes " worse no\n") refl

a_step_why : (why : StepWhy) → IsAscii (step_why why)
a_step_why why =
    let a = step_name why.kind ++ codes " seats " in
    let b = a ++ decimal why.seats in
    then_text b (worse_words why.worse) (count a why.seats (say (step_name why.kind) (codes " seats ") (step why.kind) refl)) (some_worse why.worse)

a_why : (why : Option StepWhy) → IsAscii (why_line why)
a_why None = IsAscii-nil
a_why (Some why) = a_step_why why

a_reason : (reason : Reason) → IsAscii (reason_lines reason)
a_reason (Admitted kind) = say (codes " admitted " ++ seat_kind_name kind) (codes "\n") (then_text (codes " admitted ") (seat_kind_name kind) (words (codes " admitted ") refl) (seat_kind kind)) refl
a_reason (Refused at_open at_category at_dereserved) =
    let a = codes " refused\n" ++ why_line at_open in
    let b = a ++ why_line at_category in
    let c = b ++ why_line at_dereserved in
    let sa : IsAscii a = then_text (codes " refused\n") (why_line at_open) (words (codes " refused\n") refl) (a_why at_open) in
    let sb : IsAscii b = then_text a (why_line at_category) sa (a_why at_category) in
    let sc : IsAscii c = then_text b (why_line at_dereserved) sb (a_why at_dereserved) in
    say c (codes "end why\n") sc refl

a_better : (table : SeatTable) (held : ℕ) → IsAscii (code_in table held) → IsAscii (better_line table held)
a_better table held code = say (codes " better " ++ code_in table held) (codes "\n") (then_text (codes " better ") (code_in table held) (words (codes " better ") refl) code) refl

an_answer : (table : SeatTable) (answer : WhyAnswer) → HasPlainCode table answer → IsAscii (answer_lines table answer)
an_answer table (ReasonIs reason) code = a_reason reason
an_answer table (Better held) code = a_better table held.0 code
an_answer table NotSought code = words (codes " notsought\n") refl

head_of_reason : (table : SeatTable) (cand prog : ℕ) → IsAscii (code_in table prog) → IsAscii (reason_head table cand prog)
head_of_reason table cand prog code =
    let a = codes "why " ++ decimal cand in
    let b = a ++ codes " " in
    then_text b (code_in table prog) (say a (codes " ") (count (codes "why ") cand (words (codes "why ") refl)) refl) code

pub ascii_reason : (table : SeatTable) (cand prog : ℕ) (answer : WhyAnswer) → IsAscii (code_in table prog) → HasPlainCode table answer → IsAscii (reason_text table cand prog answer)
ascii_reason table cand prog answer code better = then_text (reason_head table cand prog) (answer_lines table answer) (head_of_reason table cand prog code) (an_answer table answer better)

-- ---- codes

one_byte : (b : ℕ) → is_code_byte b ≡ true → b < 128
one_byte b e = grind (arith, e)

code_bytes : (text : List ℕ) → list_all is_code_byte text ≡ true → IsAscii text
code_bytes [] e = IsAscii-nil
code_bytes (b ∷ bs) e = IsAscii-cons b bs (one_byte b (grind (arith, e))) (code_bytes bs (grind (arith, e)))

last_part : (a b : Bool) → (a && b) ≡ true → b ≡ true
last_part true b e = e
last_part false b e = grind (arith, e)

pub ascii_code : (text : List ℕ) → is_code text ≡ true → IsAscii text
ascii_code text e = code_bytes text (last_part (nat_le shortest_code (length text) && nat_le (length text) longest_code) (list_all is_code_byte text) e)

code_is : (found : Option (List ℕ)) (code : List ℕ) → found ≡ Some code → unwrap_or found [] ≡ code
code_is found code e = ap (λ (o : Option (List ℕ)). unwrap_or o []) e

-- the code of a programme that the matrix has
pub ascii_in : (table : SeatTable) (prog : ℕ) (code : List ℕ) → option_map (λ held. held.0) (slice_get table.programmes prog) ≡ Some code → is_code code ≡ true → IsAscii (code_in table prog)
ascii_in table prog code found spelled = subst IsAscii (sym (code_is _ code found)) (ascii_code code spelled)
