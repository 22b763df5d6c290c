-- The compact texts of the objects that are spelled straight into their text, piece by piece.
use Rattle.std.proofs.Common.{◌≡◌, ◌==◌, ℕ, Bool, true, false, ◌&&◌, leb, nat_lt, List, [], ◌∷◌, ◌++◌, length, drop, Option, codes, refl, sym, ap, ◌∙◌, arith, append_assoc}
use Rattle.std.specs.Fmt.{decimal}
use Rattle.std.specs.List.{list_all}
use Rattle.std.proofs.lemmas.Bool.{and_parts, eqb-true, false≢true}
use Rattle.serde_json.proofs.OnLiterals.{serde_json_on_literals}
use Rattle.serde_json.specs.Data.{string}
use Rattle.serde_json.specs.Written.{compact_text}
use Rattle.office_base.specs.Codes.{is_code, is_code_byte}
use Rattle.office_base.specs.Limits.{longest_code, shortest_code}
use Rattle.office_base.specs.declared.choice.Choice.{Choice}
use Rattle.office_base.specs.declared.seat.Seat.{Seat}
use Rattle.reply_bodies.specs.Bodies.{noted_data, seat_data, seat_programme, seat_step, state_data}
use Rattle.reply_texts.specs.Replies.{choice_name, standing_name}
use Rattle.round_options.specs.declared.standing.Standing.{Standing}
use Rattle.seat_matrix.specs.Matrix.{SeatTable}

-- ---- strings without an escape

-- a byte of a code is none that no code has
not_it : (other byte : ℕ) (is : Bool) → (byte == other) ≡ is → is_code_byte other ≡ false → is_code_byte byte ≡ true → is ≡ false
not_it other byte true same none e = absurd (false≢true (sym none ∙ ap is_code_byte (sym (eqb-true byte other same)) ∙ e))
not_it other byte false same none e = refl

no_control : (byte : ℕ) → is_code_byte byte ≡ true → nat_lt byte 32 ≡ false
no_control byte e = grind (arith, e)

-- a string of one more byte of a code
one_more : (byte : ℕ) (text : List ℕ) → is_code_byte byte ≡ true → compact_text (string text) ≡ 34 ∷ (text ++ 34 ∷ []) → compact_text (string (byte ∷ text)) ≡ 34 ∷ byte ∷ (text ++ 34 ∷ [])
unfolding serde_json_on_literals
one_more byte text e rest =
    let quote : (byte == 34) ≡ false = not_it 34 byte (byte == 34) refl refl e in
    let back : (byte == 92) ≡ false = not_it 92 byte (byte == 92) refl refl e in
    let erase : (byte == 8) ≡ false = not_it 8 byte (byte == 8) refl refl e in
    let feed : (byte == 12) ≡ false = not_it 12 byte (byte == 12) refl refl e in
    let line : (byte == 10) ≡ false = not_it 10 byte (byte == 10) refl refl e in
    let turn : (byte == 13) ≡ false = not_it 13 byte (byte == 13) refl refl e in
    let tab : (byte == 9) ≡ false = not_it 9 byte (byte == 9) refl refl e in
    let plain : nat_lt byte 32 ≡ false = no_control byte e in
    rw (quote, back, erase, feed, line, turn, tab, plain) (ap (λ (bytes : List ℕ). 34 ∷ byte ∷ drop 1 bytes) rest)

code_bytes : (text : List ℕ) → list_all is_code_byte text ≡ true → compact_text (string text) ≡ 34 ∷ (text ++ 34 ∷ [])
code_bytes [] e = refl
code_bytes (byte ∷ text) e =
    let parts = and_parts (is_code_byte byte) (list_all is_code_byte text) e in
    one_more byte text parts.0 (code_bytes text parts.1)

-- a code as a string has no escape
pub string_code : (text : List ℕ) → is_code text ≡ true → compact_text (string text) ≡ 34 ∷ (text ++ 34 ∷ [])
string_code text e = code_bytes text (and_parts (leb shortest_code (length text) && leb (length text) longest_code) (list_all is_code_byte text) e).1

-- some bytes, and then a code between quotes
between_quotes : (out before text : List ℕ) → is_code text ≡ true → (((out ++ before) ++ 34 ∷ []) ++ text) ++ 34 ∷ [] ≡ (out ++ before) ++ compact_text (string text)
between_quotes out before text e =
    append_assoc ((out ++ before) ++ 34 ∷ []) text (34 ∷ []) ∙ append_assoc (out ++ before) (34 ∷ []) (text ++ 34 ∷ [])
    ∙ ap (λ (string : List ℕ). (out ++ before) ++ string) (sym (string_code text e))

pub string_put : (out before text one two three : List ℕ) → is_code text ≡ true → one ≡ out ++ before → two ≡ one ++ 34 ∷ [] → three ≡ two ++ text → three ++ 34 ∷ [] ≡ (out ++ before) ++ compact_text (string text)
string_put out before text one two three e a b c =
    ap (λ (front : List ℕ). front ++ 34 ∷ []) (c ∙ ap (λ (front : List ℕ). front ++ text) (b ∙ ap (λ (front : List ℕ). front ++ 34 ∷ []) a))
    ∙ between_quotes out before text e

-- ---- objects

six_pieces : (out a b c d e f g : List ℕ) → ((((((out ++ a) ++ b) ++ c) ++ d) ++ e) ++ f) ++ g ≡ out ++ (a ++ (b ++ (c ++ (d ++ (e ++ (f ++ g))))))
six_pieces out a b c d e f g = simp append_assoc

eight_pieces : (out a b c d e f g h i : List ℕ) → ((((((((out ++ a) ++ b) ++ c) ++ d) ++ e) ++ f) ++ g) ++ h) ++ i ≡ out ++ (a ++ (b ++ (c ++ (d ++ (e ++ (f ++ (g ++ (h ++ i))))))))
eight_pieces out a b c d e f g h i = simp append_assoc

ten_pieces : (out a b c d e f g h i j k : List ℕ) → ((((((((((out ++ a) ++ b) ++ c) ++ d) ++ e) ++ f) ++ g) ++ h) ++ i) ++ j) ++ k ≡ out ++ (a ++ (b ++ (c ++ (d ++ (e ++ (f ++ (g ++ (h ++ (i ++ (j ++ k))))))))))
ten_pieces out a b c d e f g h i j k = simp append_assoc

-- how far the office is
pub state_pieces : (out : List ℕ) (now rounds published : ℕ)
    → ((((((out ++ codes "{\"now\":") ++ decimal now) ++ codes ",\"published\":") ++ decimal published) ++ codes ",\"reply\":\"state\",\"rounds\":") ++ decimal rounds) ++ codes "}"
    ≡ out ++ compact_text (state_data now rounds published)
unfolding serde_json_on_literals
state_pieces out now rounds published =
    six_pieces out (codes "{\"now\":") (decimal now) (codes ",\"published\":") (decimal published) (codes ",\"reply\":\"state\",\"rounds\":") (decimal rounds) (codes "}")

-- the receipt of an answer
pub noted_pieces : (out : List ℕ) (cand window turn : ℕ) (choice : Choice)
    → ((((((((out ++ codes "{\"cand\":") ++ decimal cand) ++ codes ",\"choice\":") ++ compact_text (string (choice_name choice))) ++ codes ",\"reply\":\"noted\",\"turn\":") ++ decimal turn) ++ codes ",\"window\":") ++ decimal window) ++ codes "}"
    ≡ out ++ compact_text (noted_data cand window turn choice)
unfolding serde_json_on_literals
noted_pieces out cand window turn choice =
    eight_pieces out (codes "{\"cand\":") (decimal cand) (codes ",\"choice\":") (compact_text (string (choice_name choice))) (codes ",\"reply\":\"noted\",\"turn\":") (decimal turn) (codes ",\"window\":") (decimal window) (codes "}")

-- the standing of a candidate, and the seat
pub seat_pieces : (out : List ℕ) (table : SeatTable) (cand round : ℕ) (standing : Standing) (seat : Option Seat)
    → ((((((((((out ++ codes "{\"cand\":") ++ decimal cand) ++ codes ",\"programme\":") ++ compact_text (seat_programme table seat)) ++ codes ",\"reply\":\"seat\",\"round\":") ++ decimal round) ++ codes ",\"standing\":") ++ compact_text (string (standing_name standing))) ++ codes ",\"step\":") ++ compact_text (seat_step seat)) ++ codes "}"
    ≡ out ++ compact_text (seat_data table cand round standing seat)
unfolding serde_json_on_literals
seat_pieces out table cand round standing seat =
    ten_pieces out (codes "{\"cand\":") (decimal cand) (codes ",\"programme\":") (compact_text (seat_programme table seat)) (codes ",\"reply\":\"seat\",\"round\":") (decimal round) (codes ",\"standing\":") (compact_text (string (standing_name standing))) (codes ",\"step\":") (compact_text (seat_step seat)) (codes "}")

-- ---- what several calls put, one after another

-- a number that was made wider is the same number
pub same_count : (front text : List ℕ) (wide narrow : ℕ) → wide ≡ narrow → text ≡ front ++ decimal wide → text ≡ front ++ decimal narrow
same_count front text wide narrow same is = is ∙ ap (λ (n : ℕ). front ++ decimal n) same

pub state_more : (out one two three : List ℕ) (now rounds published : ℕ) → one ≡ (out ++ codes "{\"now\":") ++ decimal now → two ≡ (one ++ codes ",\"published\":") ++ decimal published
    → three ≡ (two ++ codes ",\"reply\":\"state\",\"rounds\":") ++ decimal rounds → three ++ codes "}" ≡ out ++ compact_text (state_data now rounds published)
state_more out one two three now rounds published a b c =
    ap (λ (text : List ℕ). text ++ codes "}") (c
    ∙ ap (λ (text : List ℕ). (text ++ codes ",\"reply\":\"state\",\"rounds\":") ++ decimal rounds) (b
    ∙ ap (λ (text : List ℕ). (text ++ codes ",\"published\":") ++ decimal published) a))
    ∙ state_pieces out now rounds published

pub noted_more : (out one two three four : List ℕ) (cand window turn : ℕ) (choice : Choice) → one ≡ (out ++ codes "{\"cand\":") ++ decimal cand
    → two ≡ (one ++ codes ",\"choice\":") ++ compact_text (string (choice_name choice)) → three ≡ (two ++ codes ",\"reply\":\"noted\",\"turn\":") ++ decimal turn
    → four ≡ (three ++ codes ",\"window\":") ++ decimal window → four ++ codes "}" ≡ out ++ compact_text (noted_data cand window turn choice)
noted_more out one two three four cand window turn choice a b c d =
    ap (λ (text : List ℕ). text ++ codes "}") (d
    ∙ ap (λ (text : List ℕ). (text ++ codes ",\"window\":") ++ decimal window) (c
    ∙ ap (λ (text : List ℕ). (text ++ codes ",\"reply\":\"noted\",\"turn\":") ++ decimal turn) (b
    ∙ ap (λ (text : List ℕ). (text ++ codes ",\"choice\":") ++ compact_text (string (choice_name choice))) a)))
    ∙ noted_pieces out cand window turn choice

pub seat_more : (out one two three four five : List ℕ) (table : SeatTable) (cand round : ℕ) (standing : Standing) (seat : Option Seat) → one ≡ (out ++ codes "{\"cand\":") ++ decimal cand
    → two ≡ (one ++ codes ",\"programme\":") ++ compact_text (seat_programme table seat) → three ≡ (two ++ codes ",\"reply\":\"seat\",\"round\":") ++ decimal round
    → four ≡ (three ++ codes ",\"standing\":") ++ compact_text (string (standing_name standing)) → five ≡ (four ++ codes ",\"step\":") ++ compact_text (seat_step seat)
    → five ++ codes "}" ≡ out ++ compact_text (seat_data table cand round standing seat)
seat_more out one two three four five table cand round standing seat a b c d e =
    ap (λ (text : List ℕ). text ++ codes "}") (e
    ∙ ap (λ (text : List ℕ). (text ++ codes ",\"step\":") ++ compact_text (seat_step seat)) (d
    ∙ ap (λ (text : List ℕ). (text ++ codes ",\"standing\":") ++ compact_text (string (standing_name standing))) (c
    ∙ ap (λ (text : List ℕ). (text ++ codes ",\"reply\":\"seat\",\"round\":") ++ decimal round) (b
    ∙ ap (λ (text : List ℕ). (text ++ codes ",\"programme\":") ++ compact_text (seat_programme table seat)) a))))
    ∙ seat_pieces out table cand round standing seat
