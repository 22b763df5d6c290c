-- Rows with their numbers, and rows that are passed.
use Rattle.std.proofs.Common.{◌≡◌, ◌<◌, ◌≤◌, ◌+◌, ◌-◌, inl, inr, ℕ, zero, suc, true, false, List, [], ◌∷◌, length, drop, map, set, get_or, sum_by, Option, Some, None, refl, sym, ap, ◌∙◌, subst, arith}
use Rattle.std.specs.List.{slice_get}
use Rattle.std.proofs.lemmas.Bool.{cases_lt}
use Rattle.std.proofs.lemmas.Option.{slice_get_past}
use Rattle.std.proofs.lemmas.List.{drop-drop}
use Rattle.std.proofs.lemmas.List.Sums.{sum-map, sum_by-set}
use Rattle.office_text.specs.FirstFault.{Judge, fault_at, IsFaultless}
use Rattle.step_command.specs.declared.fault.SheetError.{SheetError}
use Rattle.step_command.specs.declared.fault.SheetError.TheVariants.{Bad, OutOfMemory}
use Rattle.step_command.specs.declared.fault.SheetFault.{SheetFault}
use Rattle.step_command.specs.declared.fault.SheetKind.{SheetKind}
use Rattle.step_command.specs.Reading.{ArePassed, AreNamed, IsErrorOfRows, IsSeatsFault, protects_next, seats_row_fault}
use Rattle.step_command.specs.Sheet.{filled, numbers_from, texts_of, numbers_of, is_protect, first_fault, seats_of, protect_of, protect_fault, named_with, named_from, none_named, cand_lines, count_of, total, cand_judge, body_judge, sheet_judge, IsFaultOfRows}

-- There is one number more than there are rows.
numbers_from-length : (n : ℕ) (lines : List (List ℕ)) → length (numbers_from n lines) ≡ suc (length (filled lines))
numbers_from-length n [] = refl
numbers_from-length n ([] ∷ lines) = numbers_from-length (n + 1) lines
numbers_from-length n ((byte ∷ line) ∷ lines) = ap suc (numbers_from-length (n + 1) lines)

pub numbers_of-length : (lines : List (List ℕ)) → length (numbers_of lines) ≡ suc (length (texts_of lines))
numbers_of-length [] = refl
numbers_of-length (first ∷ lines) = ap suc (numbers_from-length 2 lines)

-- An element after k others is one of what is left without them.
slice_get-drop : {X : Type 0} (xs : List X) (k m n : ℕ) → n ≡ k + m → slice_get xs n ≡ slice_get (drop k xs) m
slice_get-drop xs zero m n e = ap (slice_get xs) (omega arith)
slice_get-drop [] (suc k) m n e = slice_get_past [] n (omega arith) ∙ sym (slice_get_past [] m (omega arith))
slice_get-drop (x ∷ xs) (suc k) m zero e = absurd (omega arith)
slice_get-drop (x ∷ xs) (suc k) m (suc n) e = slice_get-drop xs k m n (omega arith)

-- Rows are passed without a step where both judges say the same of them.
passed_same : (judge next : Judge (List ℕ) SheetKind) (rows : List (List ℕ)) (numbers : List ℕ) → ((m : ℕ) → fault_at judge rows m ≡ fault_at next rows m) → ArePassed judge rows numbers next rows numbers
passed_same judge next rows numbers same = record {
  count = zero;
  rows_left = omega arith;
  numbers_left = refl;
  before = λ m below. absurd (omega arith);
  same = λ m n e. subst (λ (i : ℕ). fault_at judge rows i ≡ fault_at next rows m) (let back : m ≡ n = omega arith in back) (same m);
}

-- Rows that are passed one after another are passed.
passed_both : (judge middle next : Judge (List ℕ) SheetKind) (rows between others : List (List ℕ)) (numbers left after : List ℕ) → ArePassed judge rows numbers middle between left → ArePassed middle between left next others after → ArePassed judge rows numbers next others after
passed_both judge middle next rows between others numbers left after a b = record {
  count = a.count + b.count;
  rows_left = omega (arith, a.rows_left, b.rows_left);
  numbers_left = sym (drop-drop b.count a.count numbers) ∙ ap (drop b.count) a.numbers_left ∙ b.numbers_left;
  before = λ m below. elim (cases_lt m a.count) [
    | inl first ↦ a.before m first
    | inr past ↦ a.same (m - a.count) m (omega arith) ∙ b.before (m - a.count) (omega arith)
  ];
  same = λ m n e. a.same (b.count + m) n (omega arith) ∙ b.same m (b.count + m) refl;
}

-- A fault that is the first one of the rows left is the first one of all.
fault_passed : (judge next : Judge (List ℕ) SheetKind) (rows others : List (List ℕ)) (numbers after : List ℕ) (fault : SheetFault) → ArePassed judge rows numbers next others after → IsFaultOfRows next others after fault → IsFaultOfRows judge rows numbers fault
fault_passed judge next rows others numbers after fault p f = record {
  row = p.count + f.row;
  line = slice_get-drop numbers p.count f.row (p.count + f.row) refl ∙ ap (λ (xs : List ℕ). slice_get xs f.row) p.numbers_left ∙ f.line;
  first = record {
    here = p.same f.row (p.count + f.row) refl ∙ f.first.here;
    within = omega (arith, p.rows_left, f.first.within);
    before = λ m below. elim (cases_lt m p.count) [
      | inl early ↦ p.before m early
      | inr past ↦ p.same (m - p.count) m (omega arith) ∙ f.first.before (m - p.count) (omega arith)
    ];
  };
}

-- The same of an error.
pub error_passed : (judge next : Judge (List ℕ) SheetKind) (rows others : List (List ℕ)) (numbers after : List ℕ) (e : SheetError) → ArePassed judge rows numbers next others after → IsErrorOfRows next others after e → IsErrorOfRows judge rows numbers e
error_passed judge next rows others numbers after (Bad fault) p f = fault_passed judge next rows others numbers after fault p f
error_passed judge next rows others numbers after OutOfMemory p f = tt

-- Where the rows left have no fault, none has.
pub faultless_passed : (judge next : Judge (List ℕ) SheetKind) (rows others : List (List ℕ)) (numbers after : List ℕ) → ArePassed judge rows numbers next others after → IsFaultless next others → IsFaultless judge rows
faultless_passed judge next rows others numbers after p none m within =
    elim (cases_lt m p.count) [
      | inl early ↦ p.before m early
      | inr past ↦ p.same (m - p.count) m (omega arith) ∙ none (m - p.count) (omega (arith, p.rows_left, within))
    ]

-- What is wrong with the row that is next is the first fault.
fault_next : (judge next : Judge (List ℕ) SheetKind) (rows others : List (List ℕ)) (numbers after : List ℕ) (line : List ℕ) (fault : SheetFault) → ArePassed judge rows numbers next (line ∷ others) (fault.line ∷ after) → next [] (Some line) ≡ Some fault.kind → IsFaultOfRows judge rows numbers fault
fault_next judge next rows others numbers after line fault p here =
    fault_passed judge next rows (line ∷ others) numbers (fault.line ∷ after) fault p (record {
      row = zero;
      line = refl;
      first = record { here = here; within = omega arith; before = λ m below. absurd (omega arith) };
    })

-- A row that protects seats and has no fault is passed.
protect_before : (seats : ℕ) (named : List (Option ℕ)) (line : List ℕ) (rows : List (List ℕ)) → is_protect line ≡ true → protect_fault seats named (protect_of line) ≡ None → (m : ℕ) → m < suc zero → fault_at (body_judge seats named) (line ∷ rows) m ≡ None
protect_before seats named line rows protect right zero below = rw (protect, right) refl
protect_before seats named line rows protect right (suc m) below = absurd (omega arith)

pub protect_after : (seats : ℕ) (named : List (Option ℕ)) (line : List ℕ) (rows : List (List ℕ)) → is_protect line ≡ true → (m n : ℕ) → n ≡ suc zero + m → fault_at (body_judge seats named) (line ∷ rows) n ≡ fault_at (body_judge seats (named_with named (protect_of line))) rows m
protect_after seats named line rows protect m zero e = absurd (omega arith)
protect_after seats named line rows protect m (suc n) e =
    let same : m ≡ n = omega arith in
    subst (λ (i : ℕ). fault_at (body_judge seats named) (line ∷ rows) (suc i) ≡ fault_at (body_judge seats (named_with named (protect_of line))) rows m) same (rw protect refl)

passed_protect : (seats : ℕ) (named : List (Option ℕ)) (line : List ℕ) (rows : List (List ℕ)) (number : ℕ) (numbers : List ℕ) → is_protect line ≡ true → protect_fault seats named (protect_of line) ≡ None → ArePassed (body_judge seats named) (line ∷ rows) (number ∷ numbers) (body_judge seats (named_with named (protect_of line))) rows numbers
passed_protect seats named line rows number numbers protect right = record {
  count = suc zero;
  rows_left = omega arith;
  numbers_left = refl;
  before = protect_before seats named line rows protect right;
  same = protect_after seats named line rows protect;
}

-- What is wrong with a row that protects seats next is the first fault.
pub fault_protect : (seats left : ℕ) (rows : List (List ℕ)) (numbers : List ℕ) (named : List (Option ℕ)) (line : List ℕ) (others : List (List ℕ)) (after : List ℕ) (fault : SheetFault) → AreNamed seats rows numbers named (line ∷ others) (fault.line ∷ after) → is_protect line ≡ true → total named + left ≡ seats → protect_fault (total named + left) named (protect_of line) ≡ Some fault.kind → IsFaultOfRows (body_judge seats none_named) rows numbers fault
fault_protect seats left rows numbers named line others after fault so_far protect sum wrong =
    let here : protect_fault seats named (protect_of line) ≡ Some fault.kind = subst (λ (n : ℕ). protect_fault n named (protect_of line) ≡ Some fault.kind) sum wrong in
    fault_next (body_judge seats none_named) (body_judge seats named) rows others numbers after line fault so_far.passed (rw protect here)

-- Where no row protects seats next, the rows are those of candidates.
pub judged_same : (seats : ℕ) (named : List (Option ℕ)) (rows : List (List ℕ)) → protects_next rows ≡ false → (m : ℕ) → fault_at (body_judge seats named) rows m ≡ fault_at cand_judge rows m
judged_same seats named [] other zero = refl
judged_same seats named [] other (suc m) = refl
judged_same seats named (line ∷ rows) other zero = rw other refl
judged_same seats named (line ∷ rows) other (suc m) = rw other refl

pub named_end_same : (named : List (Option ℕ)) (rows : List (List ℕ)) → protects_next rows ≡ false → named_from named rows ≡ named
named_end_same named [] other = refl
named_end_same named (line ∷ rows) other = rw other refl

pub cands_end_same : (rows : List (List ℕ)) → protects_next rows ≡ false → cand_lines rows ≡ rows
cands_end_same [] other = refl
cands_end_same (line ∷ rows) other = rw other refl

-- One more row names its trait.
named_more : (seats : ℕ) (rows : List (List ℕ)) (numbers : List ℕ) (named : List (Option ℕ)) (line : List ℕ) (others : List (List ℕ)) (number : ℕ) (after : List ℕ) (pair : ℕ × ℕ) → AreNamed seats rows numbers named (line ∷ others) (number ∷ after) → is_protect line ≡ true → protect_fault seats named (protect_of line) ≡ None → protect_of line ≡ Some pair → AreNamed seats rows numbers (set named pair.0 (Some pair.1)) others after
named_more seats rows numbers named line others number after pair so_far protect right given =
    let more : named_with named (protect_of line) ≡ set named pair.0 (Some pair.1) = rw given refl in
    subst (λ (xs : List (Option ℕ)). AreNamed seats rows numbers xs others after) more (record {
      passed = passed_both (body_judge seats none_named) (body_judge seats named) (body_judge seats (named_with named (protect_of line))) rows (line ∷ others) others numbers (number ∷ after) after so_far.passed (passed_protect seats named line others number after protect right);
      named_same = so_far.named_same ∙ rw protect refl;
      cands_same = so_far.cands_same ∙ rw protect refl;
    })

pub named_step : (seats left : ℕ) (rows : List (List ℕ)) (numbers : List ℕ) (named : List (Option ℕ)) (line : List ℕ) (others : List (List ℕ)) (number : ℕ) (after : List ℕ) (t n i : ℕ) → AreNamed seats rows numbers named (line ∷ others) (number ∷ after) → is_protect line ≡ true → total named + left ≡ seats → protect_fault (total named + left) named (protect_of line) ≡ None → protect_of line ≡ Some (t, n) → i ≡ t → AreNamed seats rows numbers (set named i (Some n)) others after
named_step seats left rows numbers named line others number after t n i so_far protect sum right given same =
    let here : protect_fault seats named (protect_of line) ≡ None = subst (λ (m : ℕ). protect_fault m named (protect_of line) ≡ None) sum right in
    subst (λ (j : ℕ). AreNamed seats rows numbers (set named j (Some n)) others after) (sym same) (named_more seats rows numbers named line others number after (t, n) so_far protect here given)

-- Where no row protects seats next, those named are all.
pub passed_named : (seats : ℕ) (rows : List (List ℕ)) (numbers : List ℕ) (named : List (Option ℕ)) (others : List (List ℕ)) (after : List ℕ) → AreNamed seats rows numbers named others after → protects_next others ≡ false → ArePassed (body_judge seats none_named) rows numbers cand_judge others after
passed_named seats rows numbers named others after all other =
    passed_both (body_judge seats none_named) (body_judge seats named) cand_judge rows others others numbers after after all.passed (passed_same (body_judge seats named) cand_judge others after (judged_same seats named others other))

pub all_named : (seats : ℕ) (rows : List (List ℕ)) (numbers : List ℕ) (named : List (Option ℕ)) (others : List (List ℕ)) (after : List ℕ) → AreNamed seats rows numbers named others after → protects_next others ≡ false → map count_of named ≡ map count_of (named_from none_named rows)
all_named seats rows numbers named others after all other = ap (map count_of) (sym (all.named_same ∙ named_end_same named others other))

pub cands_named : (seats : ℕ) (rows : List (List ℕ)) (numbers : List ℕ) (named : List (Option ℕ)) (others : List (List ℕ)) (after : List ℕ) → AreNamed seats rows numbers named others after → protects_next others ≡ false → cand_lines rows ≡ others
cands_named seats rows numbers named others after all other = all.cands_same ∙ cands_end_same others other

-- The seats of a trait that was not named are protected in addition to the others.
pub total-more : (named : List (Option ℕ)) (t n : ℕ) → t < length named → get_or named t None ≡ None → total (set named t (Some n)) ≡ total named + n
total-more named t n within new =
    let more : sum_by count_of (set named t (Some n)) + count_of (get_or named t None) ≡ sum_by count_of named + n = sum_by-set count_of named t (Some n) None within in
    let nought : count_of (get_or named t None) ≡ 0 = ap count_of new in
    let before : total named ≡ sum_by count_of named = sum-map count_of named in
    let after : total (set named t (Some n)) ≡ sum_by count_of (set named t (Some n)) = sum-map count_of (set named t (Some n)) in
    omega arith

pub total_step : (named : List (Option ℕ)) (t n i left seats : ℕ) → i ≡ t → t < length named → get_or named t None ≡ None → n ≤ left → total named + left ≡ seats → total (set named i (Some n)) + (left - n) ≡ seats
total_step named t n i left seats same within new few sum =
    let more : total (set named t (Some n)) ≡ total named + n = total-more named t n within new in
    let there : total (set named i (Some n)) ≡ total (set named t (Some n)) = ap (λ (j : ℕ). total (set named j (Some n))) same in
    omega arith

-- The first two rows of a sheet are passed.
head_before : (first second : List ℕ) (rows : List (List ℕ)) (seats : ℕ) → first_fault first ≡ None → seats_of second ≡ Some seats → (m : ℕ) → m < suc (suc zero) → fault_at sheet_judge (first ∷ second ∷ rows) m ≡ None
head_before first second rows seats sheet given zero below = sheet
head_before first second rows seats sheet given (suc zero) below = rw given refl
head_before first second rows seats sheet given (suc (suc m)) below = absurd (omega arith)

head_after : (first second : List ℕ) (rows : List (List ℕ)) (seats : ℕ) → seats_of second ≡ Some seats → (m n : ℕ) → n ≡ suc (suc zero) + m → fault_at sheet_judge (first ∷ second ∷ rows) n ≡ fault_at (body_judge seats none_named) rows m
head_after first second rows seats given m zero e = absurd (omega arith)
head_after first second rows seats given m (suc zero) e = absurd (omega arith)
head_after first second rows seats given m (suc (suc n)) e =
    let same : m ≡ n = omega arith in
    subst (λ (i : ℕ). fault_at sheet_judge (first ∷ second ∷ rows) (suc (suc i)) ≡ fault_at (body_judge seats none_named) rows m) same (rw given refl)

pub passed_head : (first second : List ℕ) (rows : List (List ℕ)) (one number : ℕ) (numbers : List ℕ) (seats : ℕ) → first_fault first ≡ None → seats_of second ≡ Some seats → ArePassed sheet_judge (first ∷ second ∷ rows) (one ∷ number ∷ numbers) (body_judge seats none_named) rows numbers
passed_head first second rows one number numbers seats sheet given = record {
  count = suc (suc zero);
  rows_left = omega arith;
  numbers_left = refl;
  before = head_before first second rows seats sheet given;
  same = head_after first second rows seats given;
}

-- A fault of the second row, or of the end after the first, is the first one of a sheet whose first row is right.
second_here : (first : List ℕ) (rows : List (List ℕ)) (kind : SheetKind) → seats_row_fault rows ≡ Some kind → fault_at sheet_judge (first ∷ rows) (suc zero) ≡ Some kind
second_here first [] kind wrong = wrong
second_here first (second ∷ rows) kind wrong = wrong

second_before : (first : List ℕ) (rows : List (List ℕ)) → first_fault first ≡ None → (m : ℕ) → m < suc zero → fault_at sheet_judge (first ∷ rows) m ≡ None
second_before first rows right zero below = right
second_before first rows right (suc m) below = absurd (omega arith)

fault_second : (first : List ℕ) (rows : List (List ℕ)) (numbers : List ℕ) (fault : SheetFault) → first_fault first ≡ None → IsSeatsFault rows numbers fault → IsFaultOfRows sheet_judge (first ∷ rows) (1 ∷ numbers) fault
fault_second first rows numbers fault right f = record {
  row = suc zero;
  line = ap (λ (xs : List ℕ). slice_get (1 ∷ xs) (suc zero)) f.line;
  first = record { here = second_here first rows fault.kind f.kind; within = omega arith; before = second_before first rows right };
}

pub fault_after_first : (lines : List (List ℕ)) (line : List ℕ) (more : List (List ℕ)) (fault : SheetFault) → lines ≡ line ∷ more → first_fault line ≡ None → IsSeatsFault (filled more) (numbers_from 2 more) fault → IsFaultOfRows sheet_judge (texts_of lines) (numbers_of lines) fault
fault_after_first lines line more fault e right f = rw e (fault_second line (filled more) (numbers_from 2 more) fault right f)
