-- A bundle of rows of words is cut into its sections.
use Rattle.std.proofs.Common.{◌≡◌, ◌+◌, ◌==◌, ℕ, true, false, nat_lt, List, [], ◌∷◌, ◌++◌, Ok, length, take, drop, refl, sym, ap, ◌∙◌, append_assoc, length-append, arith, take_at, drop_at}
use Rattle.std.specs.Prelude.{codes, Result}
use Rattle.std.specs.List.{list_all}
use Rattle.std.specs.Str.{IsAscii}
use Rattle.std.proofs.lemmas.Bool.{and_parts, ltb-true}
use Rattle.std.proofs.lemmas.List.{append-nil}
use Rattle.std.proofs.lemmas.Str.{IsAscii-append}
use Rattle.std.proofs.lemmas.Str.Ascii.{IsAscii-cons, IsAscii-nil}
use Rattle.section_rows.specs.Rows.{Row}
use Rattle.section_rows.specs.Steps.{after}
use Rattle.season_file.specs.Bundle.{Parts, body_and_rest, body_len, bundle_of, closed, last_section, section, with_line}
use Rattle.season_generator.proofs.Plain.{AreWordRows, AreWords, IsWordRow, above, are_word_bytes, ascii-rows, first-word, further, is_word_byte, line_of, text_of, word-byte, word-bytes}

-- ---- bodies

-- a word, inside a line
word-run : (word rest : List ℕ) → are_word_bytes word ≡ true → body_len false (word ++ rest) ≡ length word + body_len false rest
word-run [] rest e = omega arith
word-run (byte ∷ word) rest e =
    let parts = and_parts (is_word_byte byte) (are_word_bytes word) e in
    let lf : (byte == 10) ≡ false = above byte 10 (word-byte byte parts.0) (omega arith) in
    let next = word-run word rest parts.1 in
    rw lf (omega (arith, next))

-- the further words of a row, and its end
further-run : (words : Row) (rest : List ℕ) → AreWords words → body_len false (further words ++ rest) ≡ length (further words) + body_len true rest
further-run [] rest all = omega arith
further-run (word ∷ words) rest all =
    let one = word-run word (further words ++ rest) (word-bytes word all.0) in
    let next = further-run words rest all.1 in
    let split : body_len false ((word ++ further words) ++ rest) ≡ body_len false (word ++ (further words ++ rest)) = ap (body_len false) (append_assoc word (further words) rest) in
    omega (arith, split, one, next, length-append word (further words))

-- a row, from the start of its line
line-run : (row : Row) (rest : List ℕ) → IsWordRow row → body_len true (line_of row ++ rest) ≡ length (line_of row) + body_len true rest
line-run [] rest is = absurd is
line-run ([] ∷ words) rest is = absurd (let e : false ≡ true = is.0 in cc)
line-run ((byte ∷ word) ∷ words) rest is =
    let parts = first-word byte word is.0 in
    let byte-is = word-byte byte parts.0 in
    let lf : (byte == 10) ≡ false = above byte 10 byte-is (omega arith) in
    let one = word-run word (further words ++ rest) parts.1 in
    let next = further-run words rest is.1 in
    let split : body_len false ((word ++ further words) ++ rest) ≡ body_len false (word ++ (further words ++ rest)) = ap (body_len false) (append_assoc word (further words) rest) in
    rw (byte-is.other, lf) (omega (arith, split, one, next, length-append word (further words)))

rows-run : (rows : List Row) (rest : List ℕ) → AreWordRows rows → body_len true (text_of rows ++ rest) ≡ length (text_of rows) + body_len true rest
rows-run [] rest all = omega arith
rows-run (row ∷ rows) rest all =
    let one = line-run row (text_of rows ++ rest) all.0 in
    let next = rows-run rows rest all.1 in
    let split : body_len true ((line_of row ++ text_of rows) ++ rest) ≡ body_len true (line_of row ++ (text_of rows ++ rest)) = ap (body_len true) (append_assoc (line_of row) (text_of rows) rest) in
    omega (arith, split, one, next, length-append (line_of row) (text_of rows))

-- rows before a title line, or before nothing, are a body
body-cut : (rows : List Row) (rest : List ℕ) → AreWordRows rows → body_len true rest ≡ 0 → body_and_rest (text_of rows ++ rest) ≡ (text_of rows, rest)
body-cut rows rest all none =
    let body = text_of rows in
    let long : body_len true (body ++ rest) ≡ length body = omega (arith, rows-run rows rest all, none) in
    ap (λ (n : ℕ). (take n (body ++ rest), drop n (body ++ rest))) long
    ∙ ap (λ (l : List ℕ). (l, drop (length body) (body ++ rest))) (take_at body rest (length body) refl) ∙ ap (λ (l : List ℕ). (body, l)) (drop_at body rest (length body) refl)

-- ---- the bundle

-- the sections, from the last one on
abbrev pub requests_section : List Row → List ℕ
requests_section requests = codes "[requests]\n" ++ text_of requests

abbrev pub choices_section : List Row → List Row → List ℕ
choices_section choices requests = codes "[choices]\n" ++ (text_of choices ++ requests_section requests)

abbrev pub matrix_section : List Row → List Row → List Row → List ℕ
matrix_section matrix choices requests = codes "[matrix]\n" ++ (text_of matrix ++ choices_section choices requests)

abbrev pub register_section : List Row → List Row → List Row → List Row → List ℕ
register_section register matrix choices requests = codes "[register]\n" ++ (text_of register ++ matrix_section matrix choices requests)

abbrev pub season_section : List Row → List Row → List Row → List Row → List Row → List ℕ
season_section season register matrix choices requests = codes "[season]\n" ++ (text_of season ++ register_section register matrix choices requests)

abbrev pub bundle_text : List Row → List Row → List Row → List Row → List Row → List ℕ
bundle_text season register matrix choices requests = codes "office bundle 1\n" ++ season_section season register matrix choices requests

-- what it is cut into
abbrev pub parts_made : List Row → List Row → List Row → List Row → List Row → Parts
parts_made season register matrix choices requests = record {
  version = 1;
  season = text_of season;
  register = text_of register;
  matrix = text_of matrix;
  choices = text_of choices;
  requests = requests_section requests;
}

last-cut : (requests : List Row) → AreWordRows requests → last_section true (requests_section requests) ≡ Ok (requests_section requests)
last-cut requests all =
    let own = requests_section requests in
    let whole : section (codes "[requests]") own ≡ Ok (text_of requests, []) =
    ap (λ (l : List ℕ). section (codes "[requests]") (codes "[requests]\n" ++ l)) (sym (append-nil (text_of requests))) ∙ ap (λ (cut : List ℕ × List ℕ). Ok cut) (body-cut requests [] all refl) in
    ap (λ (r : Result (List ℕ × List ℕ) (List ℕ)). after r (λ cut. closed cut.1 own)) whole

-- Rows of words are cut into the sections that they were put into.
pub bundle-cut : (season register matrix choices requests : List Row) → AreWordRows season → AreWordRows register → AreWordRows matrix → AreWordRows choices → AreWordRows requests
    → bundle_of true (bundle_text season register matrix choices requests) ≡ Ok (parts_made season register matrix choices requests)
bundle-cut season register matrix choices requests one two three four five =
    let r5 = requests_section requests in
    let r4 = choices_section choices requests in
    let r3 = matrix_section matrix choices requests in
    let r2 = register_section register matrix choices requests in
    let r1 = season_section season register matrix choices requests in
    let whole : List ℕ = codes "office bundle 1\n" ++ r1 in
    let first : section (codes "[season]") r1 ≡ Ok (text_of season, r2) = ap (λ (cut : List ℕ × List ℕ). Ok cut) (body-cut season r2 one refl) in
    let second : section (codes "[register]") r2 ≡ Ok (text_of register, r3) = ap (λ (cut : List ℕ × List ℕ). Ok cut) (body-cut register r3 two refl) in
    let third : section (codes "[matrix]") r3 ≡ Ok (text_of matrix, r4) = ap (λ (cut : List ℕ × List ℕ). Ok cut) (body-cut matrix r4 three refl) in
    let fourth : section (codes "[choices]") r4 ≡ Ok (text_of choices, r5) = ap (λ (cut : List ℕ × List ℕ). Ok cut) (body-cut choices r5 four refl) in
    let last : last_section true r5 ≡ Ok r5 = last-cut requests five in
    let made : List ℕ → List ℕ → List ℕ → List ℕ → List ℕ → Parts = λ s r m c q. record { version = 1; season = s; register = r; matrix = m; choices = c; requests = q } in
    ap (λ (r : Result Parts (List ℕ)). with_line whole r)
    (ap (λ (r : Result (List ℕ × List ℕ) (List ℕ)). after r (λ s. after (section (codes "[register]") s.1) (λ g. after (section (codes "[matrix]") g.1) (λ m.
    after (section (codes "[choices]") m.1) (λ c. after (last_section true c.1) (λ q. Ok (made s.0 g.0 m.0 c.0 q))))))) first
    ∙ ap (λ (r : Result (List ℕ × List ℕ) (List ℕ)). after r (λ g. after (section (codes "[matrix]") g.1) (λ m.
    after (section (codes "[choices]") m.1) (λ c. after (last_section true c.1) (λ q. Ok (made (text_of season) g.0 m.0 c.0 q)))))) second
    ∙ ap (λ (r : Result (List ℕ × List ℕ) (List ℕ)). after r (λ m.
    after (section (codes "[choices]") m.1) (λ c. after (last_section true c.1) (λ q. Ok (made (text_of season) (text_of register) m.0 c.0 q))))) third
    ∙ ap (λ (r : Result (List ℕ × List ℕ) (List ℕ)). after r (λ c. after (last_section true c.1) (λ q. Ok (made (text_of season) (text_of register) (text_of matrix) c.0 q)))) fourth
    ∙ ap (λ (r : Result (List ℕ) (List ℕ)). after r (λ q. Ok (made (text_of season) (text_of register) (text_of matrix) (text_of choices) q))) last)

-- ---- its bytes

ascii-test : (bytes : List ℕ) → list_all (λ b. nat_lt b 128) bytes ≡ true → IsAscii bytes
ascii-test [] e = IsAscii-nil
ascii-test (byte ∷ bytes) e =
    let parts = and_parts (nat_lt byte 128) (list_all (λ b. nat_lt b 128) bytes) e in
    IsAscii-cons byte bytes (ltb-true byte 128 parts.0) (ascii-test bytes parts.1)

ascii-section : (title : List ℕ) (rows : List Row) (rest : List ℕ) → list_all (λ b. nat_lt b 128) title ≡ true → AreWordRows rows → IsAscii rest → IsAscii (title ++ (text_of rows ++ rest))
ascii-section title rows rest e all more = IsAscii-append title (text_of rows ++ rest) (ascii-test title e) (IsAscii-append (text_of rows) rest (ascii-rows rows all) more)

-- All its bytes are ASCII.
pub bundle-ascii : (season register matrix choices requests : List Row) → AreWordRows season → AreWordRows register → AreWordRows matrix → AreWordRows choices → AreWordRows requests
    → IsAscii (bundle_text season register matrix choices requests)
bundle-ascii season register matrix choices requests one two three four five =
    let r5 = requests_section requests in
    let r4 = choices_section choices requests in
    let r3 = matrix_section matrix choices requests in
    let r2 = register_section register matrix choices requests in
    let r1 = season_section season register matrix choices requests in
    let last : IsAscii r5 = IsAscii-append (codes "[requests]\n") (text_of requests) (ascii-test (codes "[requests]\n") refl) (ascii-rows requests five) in
    let fourth : IsAscii r4 = ascii-section (codes "[choices]\n") choices r5 refl four last in
    let third : IsAscii r3 = ascii-section (codes "[matrix]\n") matrix r4 refl three fourth in
    let second : IsAscii r2 = ascii-section (codes "[register]\n") register r3 refl two third in
    let first : IsAscii r1 = ascii-section (codes "[season]\n") season r2 refl one second in
    IsAscii-append (codes "office bundle 1\n") r1 (ascii-test (codes "office bundle 1\n") refl) first
