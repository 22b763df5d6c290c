-- Lines and fields, cut at the first separator.
use Rattle.std.proofs.Common.{◌≡◌, ◌<◌, ◌≤◌, ◌-◌, ℕ, zero, suc, Bool, true, false, cond, eqb, List, [], ◌∷◌, length, take, drop, map, get_or, refl, sym, ap, ◌∙◌, arith, eq-eqb}
use Rattle.std.proofs.lemmas.Bool.{cond-false, ne_eqb}
use Rattle.office_text.specs.Lines.{split_at_each, onto_first, drop_cr, trimmed, unless_last, without_empty_last, lines_of}

-- at a separator byte the test holds, and elsewhere it does not
at_true : {X : Type 0} (b : Bool) (x y : X) → b ≡ true → cond b x y ≡ x
at_true b x y e = rw e refl

-- lists that are not empty
abbrev pub IsFilled : List (List ℕ) → Type 0
IsFilled pieces = (first : List ℕ) × (others : List (List ℕ)) × (pieces ≡ first ∷ others)

onto_first-filled : (byte : ℕ) (pieces : List (List ℕ)) → IsFilled (onto_first byte pieces)
onto_first-filled byte [] = (byte ∷ [], [], refl)
onto_first-filled byte (piece ∷ pieces) = (byte ∷ piece, pieces, refl)

-- There is one piece at least.
pub split_at_each-filled : (separator : ℕ) (bytes : List ℕ) → IsFilled (split_at_each separator bytes)
split_at_each-filled separator [] = ([], [], refl)
split_at_each-filled separator (byte ∷ bytes) = elim (eqb byte separator) as (λ (b : Bool). IsFilled (cond b ([] ∷ split_at_each separator bytes) (onto_first byte (split_at_each separator bytes)))) [
  | true ↦ ([], split_at_each separator bytes, refl)
  | false ↦ onto_first-filled byte (split_at_each separator bytes)
]

-- The first separator ends the first piece.
pub split_at_each-first : (separator : ℕ) (bytes : List ℕ) (end : ℕ) → end < length bytes → get_or bytes end 0 ≡ separator → ((k : ℕ) → k < end → get_or bytes k 0 ≡ separator → ⊥) → split_at_each separator bytes ≡ take end bytes ∷ split_at_each separator (drop (suc end) bytes)
split_at_each-first separator [] end within here before = absurd (omega arith)
split_at_each-first separator (b ∷ bytes) zero within here before = at_true (eqb b separator) _ _ (eq-eqb b separator here)
split_at_each-first separator (b ∷ bytes) (suc n) within here before =
    let rest : split_at_each separator bytes ≡ take n bytes ∷ split_at_each separator (drop (suc n) bytes) = split_at_each-first separator bytes n (omega arith) here (λ k below. before (suc k) (omega arith)) in
    cond-false (eqb b separator) _ _ (ne_eqb b separator (before zero (omega arith))) ∙ ap (onto_first b) rest

-- Bytes without separators are one piece.
pub split_at_each-whole : (separator : ℕ) (bytes : List ℕ) → ((k : ℕ) → k < length bytes → get_or bytes k 0 ≡ separator → ⊥) → split_at_each separator bytes ≡ bytes ∷ []
split_at_each-whole separator [] before = refl
split_at_each-whole separator (b ∷ bytes) before =
    cond-false (eqb b separator) _ _ (ne_eqb b separator (before zero (omega arith))) ∙ ap (onto_first b) (split_at_each-whole separator bytes (λ k below. before (suc k) (omega arith)))

-- What comes before other pieces is no last piece.
kept_before : (piece : List ℕ) (pieces : List (List ℕ)) → IsFilled pieces → without_empty_last (piece ∷ map drop_cr pieces) ≡ piece ∷ without_empty_last (map drop_cr pieces)
kept_before [] pieces filled = rw filled.2 refl
kept_before (byte ∷ piece) pieces filled = rw filled.2 refl

-- The first LF ends the first line.
pub lines_of-first : (bytes : List ℕ) (end : ℕ) → end < length bytes → get_or bytes end 0 ≡ 10 → ((k : ℕ) → k < end → get_or bytes k 0 ≡ 10 → ⊥) → lines_of bytes ≡ drop_cr (take end bytes) ∷ lines_of (drop (suc end) bytes)
lines_of-first bytes end within here before =
    ap (λ (pieces : List (List ℕ)). without_empty_last (map drop_cr pieces)) (split_at_each-first 10 bytes end within here before)
    ∙ kept_before (drop_cr (take end bytes)) (split_at_each 10 (drop (suc end) bytes)) (split_at_each-filled 10 (drop (suc end) bytes))

-- Bytes without LF are the last line, or none where that line is empty.
pub lines_of-last : (bytes : List ℕ) → ((k : ℕ) → k < length bytes → get_or bytes k 0 ≡ 10 → ⊥) → lines_of bytes ≡ without_empty_last (drop_cr bytes ∷ [])
lines_of-last bytes before = ap (λ (pieces : List (List ℕ)). without_empty_last (map drop_cr pieces)) (split_at_each-whole 10 bytes before)

-- A CR at the end is dropped.
drop_cr-at : (line : List ℕ) (n : ℕ) → length line ≡ suc n → get_or line n 0 ≡ 13 → drop_cr line ≡ take n line
drop_cr-at [] n size here = absurd (omega arith)
drop_cr-at (a ∷ []) zero size here = at_true (eqb a 13) _ _ (eq-eqb a 13 here)
drop_cr-at (a ∷ []) (suc n) size here = absurd (omega arith)
drop_cr-at (a ∷ b ∷ line) zero size here = absurd (omega arith)
drop_cr-at (a ∷ b ∷ line) (suc n) size here = ap (λ (bytes : List ℕ). a ∷ bytes) (drop_cr-at (b ∷ line) n (omega arith) here)

pub drop_cr-end : (line : List ℕ) → 1 ≤ length line → get_or line (length line - 1) 0 ≡ 13 → take (length line - 1) line ≡ drop_cr line
drop_cr-end line some here = sym (drop_cr-at line (length line - 1) (omega arith) here)

-- Another byte at the end is kept.
drop_cr-not_at : (line : List ℕ) (n : ℕ) → length line ≡ suc n → (get_or line n 0 ≡ 13 → ⊥) → drop_cr line ≡ line
drop_cr-not_at [] n size other = refl
drop_cr-not_at (a ∷ []) zero size other = cond-false (eqb a 13) _ _ (ne_eqb a 13 other)
drop_cr-not_at (a ∷ []) (suc n) size other = absurd (omega arith)
drop_cr-not_at (a ∷ b ∷ line) zero size other = absurd (omega arith)
drop_cr-not_at (a ∷ b ∷ line) (suc n) size other = ap (λ (bytes : List ℕ). a ∷ bytes) (drop_cr-not_at (b ∷ line) n (omega arith) other)

pub drop_cr-other : (line : List ℕ) → 1 ≤ length line → (get_or line (length line - 1) 0 ≡ 13 → ⊥) → line ≡ drop_cr line
drop_cr-other line some other = sym (drop_cr-not_at line (length line - 1) (omega arith) other)

-- A comma at the end is trimmed.
trimmed-at : (line : List ℕ) (n : ℕ) → length line ≡ suc n → get_or line n 0 ≡ 44 → trimmed (take n line) ≡ trimmed line
trimmed-at [] n size here = absurd (omega arith)
trimmed-at (a ∷ []) zero size here = sym (at_true (eqb a 44) _ _ (eq-eqb a 44 here))
trimmed-at (a ∷ []) (suc n) size here = absurd (omega arith)
trimmed-at (a ∷ b ∷ line) zero size here = absurd (omega arith)
trimmed-at (a ∷ b ∷ line) (suc n) size here = ap (unless_last 44 a) (trimmed-at (b ∷ line) n (omega arith) here)

pub trimmed-end : (line : List ℕ) → 1 ≤ length line → get_or line (length line - 1) 0 ≡ 44 → trimmed (take (length line - 1) line) ≡ trimmed line
trimmed-end line some here = trimmed-at line (length line - 1) (omega arith) here

-- Where there is another byte at the end, nothing is trimmed.
trimmed-not_at : (line : List ℕ) (n : ℕ) → length line ≡ suc n → (get_or line n 0 ≡ 44 → ⊥) → trimmed line ≡ line
trimmed-not_at [] n size other = refl
trimmed-not_at (a ∷ []) zero size other = cond-false (eqb a 44) _ _ (ne_eqb a 44 other)
trimmed-not_at (a ∷ []) (suc n) size other = absurd (omega arith)
trimmed-not_at (a ∷ b ∷ line) zero size other = absurd (omega arith)
trimmed-not_at (a ∷ b ∷ line) (suc n) size other = ap (unless_last 44 a) (trimmed-not_at (b ∷ line) n (omega arith) other)

pub trimmed-other : (line : List ℕ) → 1 ≤ length line → (get_or line (length line - 1) 0 ≡ 44 → ⊥) → line ≡ trimmed line
trimmed-other line some other = sym (trimmed-not_at line (length line - 1) (omega arith) other)
