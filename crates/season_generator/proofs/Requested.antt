-- The requests that are made up are requests.
use Rattle.std.proofs.Common.{◌≡◌, ◌≤◌, ◌<◌, ◌+◌, ◌-◌, ◌*◌, ◌==◌, ℕ, zero, suc, Bool, true, false, List, [], ◌∷◌, ◌++◌, Some, Ok, length, get_or, refl, sym, ap, ◌∙◌, append_assoc, arith, if◌then◌else◌, nat_lt, lit<}
use Rattle.std.specs.Prelude.{bytes_eq, codes}
use Rattle.std.specs.Fmt.{decimal}
use Rattle.std.specs.List.{AllByRecursion, flat_map, range_with_len}
use Rattle.std.proofs.lemmas.Bool.{false_from_ne_true}
use Rattle.std.proofs.lemmas.Slice.Eq.{bytes_eq-Decides}
use Rattle.office_base.specs.Limits.{last_id, last_window}
use Rattle.office_asks.specs.declared.ask.Ask.TheVariants.{Answer, Cut}
use Rattle.office_asks.specs.declared.ask.By.TheVariants.{Candidate, Clerk}
use Rattle.office_base.specs.declared.choice.Choice.{Choice}
use Rattle.office_base.specs.declared.choice.Choice.TheVariants.{Float, Freeze, Slide, Withdraw}
use Rattle.office_asks.specs.declared.ask.Request.{Request}
use Rattle.office_text.specs.Names.{choice_of}
use Rattle.office_text.specs.Number.{AreInverse, number_within}
use Rattle.section_rows.specs.Rows.{Row}
use Rattle.request_rows.specs.Requests.{request_of, script_from, script_of}
use Rattle.season_generator.specs.Bundle.{answer_row, choice_name, cut_row, lines, requests_text, window_rows}
use Rattle.season_generator.specs.Draws.{state_after, drawn}
use Rattle.season_generator.proofs.Numbers.{are-digits, read-within}
use Rattle.season_generator.proofs.Plain.{AreWordRows, IsWordRow, is_word, line_of, rows-append, text-append, text_of}
use Rattle.season_generator.proofs.Ranges.{text-range, words-range}
use Rattle.season_generator.proofs.Registered.{row-single}

-- ---- the rows of a script

-- The row is a request.
pub record IsRequest (row : Row) : Type 0 where
  pub request : Request
  pub read : request_of row ≡ Some request

abbrev pub AreRequests : List Row → Type 0
AreRequests rows = AllByRecursion IsRequest rows

pub requests-append : (rows more : List Row) → AreRequests rows → AreRequests more → AreRequests (rows ++ more)
requests-append [] more all others = others
requests-append (row ∷ rows) more all others = (all.0, requests-append rows more all.1 others)

pub requests-range : (rows : ℕ → List Row) (a k : ℕ) → ((i : ℕ) → i < a + k → AreRequests (rows i)) → AreRequests (flat_map rows (range_with_len a k))
requests-range rows a zero each = tt
requests-range rows a (suc k) each = requests-append (rows a) (flat_map rows (range_with_len (a + 1) k)) (each a (omega arith)) (requests-range rows (a + 1) k (λ i less. each i (omega (arith, less))))

-- What rows of requests give.
pub script-read : (number : ℕ) (rows : List Row) → AreRequests rows → (script : List Request) × (script_from number rows ≡ Ok script)
script-read number [] all = ([], refl)
script-read number (row ∷ rows) all =
    let rest = script-read (number + 1) rows all.1 in
    (all.0.request ∷ rest.0, rw (all.0.read, rest.1) refl)

-- ---- a cut

abbrev pub cut_words : ℕ → Row
cut_words window = codes "cut" ∷ codes "clerk" ∷ decimal window ∷ []

cut-line : (window : ℕ) → cut_row window ≡ line_of (cut_words window)
unfolding cut_row
cut-line window = refl

cut-is-words : (window : ℕ) → window ≤ 6 → IsWordRow (cut_words window)
cut-is-words window low = (refl, (refl, ((are-digits window (omega (arith, low))).word, tt)))

cut-read : AreInverse → (window : ℕ) → window ≤ 6 → IsRequest (cut_words window)
cut-read inverse window low =
    let read : number_within 0 last_window (decimal window) ≡ Some window = read-within inverse 0 last_window window (omega (arith, low)) (omega arith) (omega (arith, low)) in
    record { request = record { by = Clerk; ask = Cut window }; read = rw read refl }

-- ---- an answer

abbrev pub answer_words : ℕ → ℕ → List ℕ → Row
answer_words window id choice = codes "answer" ∷ decimal id ∷ decimal id ∷ decimal window ∷ codes "1" ∷ choice ∷ []

answer-line : (window id : ℕ) (choice : List ℕ) → answer_row window id choice ≡ line_of (answer_words window id choice)
unfolding answer_row
answer-line window id choice = simp append_assoc

-- What a choice is that is drawn.
record IsChoiceName (text : List ℕ) : Type 0 where
  word : is_word text ≡ true
  choice : Choice
  read : choice_of text ≡ Some choice

choice-by : (a b c : Bool) → IsChoiceName (if a then codes "withdraw" else (if b then codes "freeze" else (if c then codes "slide" else codes "float")))
choice-by true b c = record { word = refl; choice = Withdraw; read = refl }
choice-by false true c = record { word = refl; choice = Freeze; read = refl }
choice-by false false true = record { word = refl; choice = Slide; read = refl }
choice-by false false false = record { word = refl; choice = Float; read = refl }

choice-drawn : (number : ℕ) → IsChoiceName (choice_name number)
choice-drawn number = choice-by (number == 0) (nat_lt number 4) (nat_lt number 7)

answer-is-words : (window id : ℕ) (choice : List ℕ) → window ≤ 6 → id ≤ 100000 → is_word choice ≡ true → IsWordRow (answer_words window id choice)
answer-is-words window id choice low most word =
    let digits = (are-digits id (omega (arith, most))).word in
    (refl, (digits, (digits, ((are-digits window (omega (arith, low))).word, (refl, (word, tt))))))

-- digits are no name with a letter at its end
no-name : (id : ℕ) (name : List ℕ) → id ≤ 100000 → 57 < get_or name (length name - 1) 0 → bytes_eq (decimal id) name ≡ false
no-name id name most letter =
    false_from_ne_true (bytes_eq (decimal id) name) (λ t.
    let same : decimal id ≡ name = (bytes_eq-Decides (decimal id) name).0 t in
    let ends : get_or (decimal id) (length (decimal id) - 1) 0 ≡ get_or name (length name - 1) 0 = ap (λ (l : List ℕ). get_or l (length l - 1) 0) same in
    omega (arith, ends, letter, (are-digits id (omega (arith, most))).last))

answer-read : AreInverse → (window id : ℕ) (choice : List ℕ) → window ≤ 6 → 1 ≤ id → id ≤ 100000 → IsChoiceName choice → IsRequest (answer_words window id choice)
answer-read inverse window id choice low some most is =
    let clerk : bytes_eq (decimal id) (codes "clerk") ≡ false = no-name id (codes "clerk") most (lit< tt) in
    let nobody : bytes_eq (decimal id) (codes "nobody") ≡ false = no-name id (codes "nobody") most (lit< tt) in
    let candidate : number_within 1 last_id (decimal id) ≡ Some id = read-within inverse 1 last_id id (omega (arith, most)) some (omega (arith, most)) in
    let read : number_within 0 last_window (decimal window) ≡ Some window = read-within inverse 0 last_window window (omega (arith, low)) (omega arith) (omega (arith, low)) in
    record {
      request = record { by = Candidate (record { 0 = id }); ask = Answer (record { 0 = id }) window 1 is.choice };
      read = rw (clerk, nobody, candidate, read, is.read) refl;
    }

-- ---- all rows

abbrev pub answers_at : ℕ → ℕ → ℕ → List Row
answers_at window state candidate = answer_words window (candidate + 1) (choice_name (drawn 20 (state_after candidate state))) ∷ []

abbrev pub window_at : ℕ → ℕ → ℕ → List Row
window_at n state before = flat_map (answers_at (before + 1) (state_after (n * before) state)) (range_with_len 0 n) ++ cut_words (before + 1) ∷ []

abbrev pub request_rows : ℕ → ℕ → List Row
request_rows n state = cut_words 0 ∷ flat_map (window_at n state) (range_with_len 0 6)

-- What the section of the requests is.
pub record AreRequested (n state : ℕ) (rows : List Row) : Type 0 where
  pub text : requests_text n state ≡ codes "[requests]\n" ++ text_of rows
  pub words : AreWordRows rows
  pub script : List Request
  pub read : script_of rows ≡ Ok script

window-text : (n state before : ℕ) → window_rows n (state_after (n * before) state) (before + 1) ≡ text_of (window_at n state before)
unfolding window_rows lines
window-text n state before =
    let from = state_after (n * before) state in
    let answers = flat_map (answers_at (before + 1) from) (range_with_len 0 n) in
    ap (λ (l : List ℕ). l ++ cut_row (before + 1))
    (text-range (λ candidate. answer_row (before + 1) (candidate + 1) (choice_name (drawn 20 (state_after candidate from)))) (answers_at (before + 1) from) 0 n (λ i. row-single (answer_words (before + 1) (i + 1) (choice_name (drawn 20 (state_after i from)))) _ (answer-line (before + 1) (i + 1) (choice_name (drawn 20 (state_after i from))))))
    ∙ ap (λ (l : List ℕ). text_of answers ++ l) (row-single (cut_words (before + 1)) _ (cut-line (before + 1)))
    ∙ sym (text-append answers (cut_words (before + 1) ∷ []))

window-words : (n state before : ℕ) → n ≤ 100000 → before < 6 → AreWordRows (window_at n state before)
window-words n state before most low =
    rows-append (flat_map (answers_at (before + 1) (state_after (n * before) state)) (range_with_len 0 n)) (cut_words (before + 1) ∷ [])
    (words-range (answers_at (before + 1) (state_after (n * before) state)) 0 n (λ i less. (answer-is-words (before + 1) (i + 1) (choice_name (drawn 20 (state_after i (state_after (n * before) state)))) (omega (arith, low)) (omega (arith, less, most)) (choice-drawn (drawn 20 (state_after i (state_after (n * before) state)))).word, tt)))
    (cut-is-words (before + 1) (omega (arith, low)), tt)

window-requests : AreInverse → (n state before : ℕ) → n ≤ 100000 → before < 6 → AreRequests (window_at n state before)
window-requests inverse n state before most low =
    requests-append (flat_map (answers_at (before + 1) (state_after (n * before) state)) (range_with_len 0 n)) (cut_words (before + 1) ∷ [])
    (requests-range (answers_at (before + 1) (state_after (n * before) state)) 0 n (λ i less.
    (answer-read inverse (before + 1) (i + 1) (choice_name (drawn 20 (state_after i (state_after (n * before) state)))) (omega (arith, low)) (omega arith) (omega (arith, less, most)) (choice-drawn (drawn 20 (state_after i (state_after (n * before) state)))), tt)))
    (cut-read inverse (before + 1) (omega (arith, low)), tt)

pub requested : AreInverse → (n state : ℕ) → n ≤ 100000 → AreRequested n state (request_rows n state)
unfolding requests_text lines
requested inverse n state most =
    let windows = requests-range (window_at n state) 0 6 (λ i less. window-requests inverse n state i most (omega (arith, less))) in
    let read = script-read 1 (request_rows n state) (cut-read inverse 0 (omega arith), windows) in
    record {
      text = append_assoc (codes "[requests]\n") (cut_row 0) (flat_map (λ before. window_rows n (state_after (n * before) state) (before + 1)) (range_with_len 0 6))
          ∙ ap (λ (l : List ℕ). codes "[requests]\n" ++ (l ++ flat_map (λ before. window_rows n (state_after (n * before) state) (before + 1)) (range_with_len 0 6))) (cut-line 0)
          ∙ ap (λ (l : List ℕ). codes "[requests]\n" ++ (line_of (cut_words 0) ++ l)) (text-range (λ before. window_rows n (state_after (n * before) state) (before + 1)) (window_at n state) 0 6 (window-text n state));
      words = (cut-is-words 0 (omega arith), words-range (window_at n state) 0 6 (λ i less. window-words n state i most (omega (arith, less))));
      script = read.0;
      read = read.1;
    }
