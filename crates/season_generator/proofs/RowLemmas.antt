-- One line more.
use Rattle.std.proofs.Common.{◌≡◌, ℕ, ◌+◌, List, [], ◌∷◌, ◌++◌, ◌<◌, length, drop, get_or, zero, suc, sym, ap, ◌∙◌, arith, add-one, add-zero, zero-add, append_assoc, append-nil}
use Rattle.std.specs.List.{flat_map, range_with_len}
use Rattle.std.proofs.lemmas.List.Concat.{flat_map-append}
use Rattle.std.proofs.lemmas.List.{drop_more}
use Rattle.season_generator.specs.Bundle.{lines}
use Rattle.season_generator.specs.Summary.{round_line, round_lines}

pub range_next : (a n : ℕ) → range_with_len a (suc n) ≡ range_with_len a n ++ (a + n) ∷ []
range_next a zero = ap (λ k. k ∷ []) (sym (add-zero a))
range_next a (suc n) =
    let e : a + 1 + n ≡ a + suc n = omega arith in
    ap (λ ks. a ∷ ks) (range_next (a + 1) n ∙ ap (λ k. range_with_len (a + 1) n ++ k ∷ []) e)

-- one number more at the end
pub range_more : (a n : ℕ) → range_with_len a (n + 1) ≡ range_with_len a n ++ (a + n) ∷ []
range_more a n = ap (range_with_len a) (add-one n) ∙ range_next a n

-- one line more at the end
pub lines_more : (n : ℕ) (line : ℕ → List ℕ) → lines (n + 1) line ≡ lines n line ++ line n
unfolding lines
lines_more n line =
    let last : flat_map line ((0 + n) ∷ []) ≡ line n = append-nil (line (0 + n)) ∙ ap line (zero-add n) in
    ap (flat_map line) (range_more 0 n) ∙ flat_map-append line (range_with_len 0 n) ((0 + n) ∷ []) ∙ ap (λ ks. flat_map line (range_with_len 0 n) ++ ks) last

-- a text without lines yet
pub lines_none : (line : ℕ → List ℕ) (begun : List ℕ) → begun ≡ begun ++ lines 0 line
unfolding lines
lines_none line begun = sym (append-nil begun)

-- a text that so far has n lines, and then one more
pub lines_go_on : (n : ℕ) (line : ℕ → List ℕ) (begun before now : List ℕ) → before ≡ begun ++ lines n line → now ≡ before ++ line n → now ≡ begun ++ lines (n + 1) line
lines_go_on n line begun before now so_far more =
    more ∙ ap (λ z. z ++ line n) so_far ∙ append_assoc begun (lines n line) (line n) ∙ ap (λ z. begun ++ z) (sym (lines_more n line))

-- the same where each line is drawn from a state of its own
pub lines_draw_on : (n : ℕ) (line : ℕ → ℕ → List ℕ) (states : ℕ → ℕ) (begun before now : List ℕ) (state : ℕ)
    → before ≡ begun ++ lines n (λ k. line k (states k)) → state ≡ states n → now ≡ before ++ line n state → now ≡ begun ++ lines (n + 1) (λ k. line k (states k))
lines_draw_on n line states begun before now state so_far is_state more =
    lines_go_on n (λ k. line k (states k)) begun before now so_far (more ∙ ap (λ s. before ++ line n s) is_state)

-- numbers from a on, and then one more
pub range_goes_on : (a n : ℕ) (before now : List ℕ) → before ≡ range_with_len a n → now ≡ before ++ (n + a) ∷ [] → now ≡ range_with_len a (n + 1)
range_goes_on a n before now so_far more =
    let e : n + a ≡ a + n = omega arith in
    more ∙ ap (λ z. z ++ (n + a) ∷ []) so_far ∙ ap (λ k. range_with_len a n ++ k ∷ []) e ∙ sym (range_more a n)

-- one round more leaves what is to be written as it was
pub rounds_go_on : (rounds : List ℕ) (at : ℕ) (before now whole : List ℕ) → at < length rounds → before ++ round_lines (at + 1) (drop at rounds) ≡ whole
    → now ≡ before ++ round_line (at + 1) (get_or rounds at 0) → now ++ round_lines (at + 1 + 1) (drop (at + 1) rounds) ≡ whole
rounds_go_on rounds at before now whole within so_far more =
    let line = round_line (at + 1) (get_or rounds at 0) in
    let rest = round_lines (at + 1 + 1) (drop (at + 1) rounds) in
    ap (λ z. z ++ rest) more ∙ append_assoc before line rest ∙ ap (λ xs. before ++ round_lines (at + 1) xs) (sym (drop_more rounds at 0 within)) ∙ so_far

-- two pieces put one after another are put as one
pub put_two : (out first second before now : List ℕ) → before ≡ out ++ first → now ≡ before ++ second → now ≡ out ++ (first ++ second)
put_two out first second before now one two = two ∙ ap (λ z. z ++ second) one ∙ append_assoc out first second

-- and so are three
pub put_three : (out first second third before between now : List ℕ) → before ≡ out ++ first → between ≡ before ++ second → now ≡ between ++ third → now ≡ out ++ (first ++ second ++ third)
put_three out first second third before between now one two three =
    put_two out (first ++ second) third between now (put_two out first second before between one two) three
