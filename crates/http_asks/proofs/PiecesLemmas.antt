-- The path of a target, and its pieces.
use Rattle.std.proofs.Common.{◌≡◌, ◌+◌, ◌==◌, ℕ, suc, Bool, true, false, cond, List, [], ◌∷◌, length, take, take_all, not, None, refl, sym, ap, ◌∙◌, arith}
use Rattle.std.specs.List.{before_first, position_or_len}
use Rattle.office_text.specs.Lines.{split_at_each, onto_first}
use Rattle.office_text.proofs.LinesLemmas.{split_at_each-filled}
use Rattle.http_asks.specs.Pages.{first_of_pieces, path_of}
use Rattle.http_asks.specs.Roads.{one_of, two_of}

-- ---- the path of a target

take-one : (len byte : ℕ) (bytes : List ℕ) → take (1 + len) (byte ∷ bytes) ≡ byte ∷ take len bytes
take-one len byte bytes = let same : 1 + len ≡ suc len = omega arith in rw same refl

path-byte : (byte : ℕ) (pieces : List (List ℕ)) (len : ℕ) (bytes : List ℕ) (is : Bool) → first_of_pieces pieces ≡ take len bytes
    → first_of_pieces (cond is ([] ∷ pieces) (onto_first byte pieces)) ≡ take (cond (not is) (1 + len) 0) (byte ∷ bytes)
path-byte byte pieces len bytes true same = refl
path-byte byte [] len bytes false same = ap (λ (text : List ℕ). byte ∷ text) same ∙ sym (take-one len byte bytes)
path-byte byte (piece ∷ pieces) len bytes false same = ap (λ (text : List ℕ). byte ∷ text) same ∙ sym (take-one len byte bytes)

pub path-before : (bytes : List ℕ) → path_of bytes ≡ before_first (λ (b : ℕ). b == 63) bytes
path-before [] = refl
path-before (byte ∷ bytes) = path-byte byte (split_at_each 63 bytes) (position_or_len (λ (b : ℕ). b == 63) bytes) bytes (byte == 63) (path-before bytes)

pub path-whole : (bytes : List ℕ) → position_or_len (λ (b : ℕ). b == 63) bytes ≡ length bytes → path_of bytes ≡ bytes
path-whole bytes none = path-before bytes ∙ take_all _ bytes (omega (arith, none))

-- ---- how many pieces there are

-- two pieces are not one
pub not-one : (rest one more : List ℕ) → split_at_each 47 rest ≡ one ∷ split_at_each 47 more → one_of (split_at_each 47 rest) ≡ None
not-one rest one more cut =
    let (second, others, filled) = split_at_each-filled 47 more in
    ap one_of (cut ∙ ap (λ (pieces : List (List ℕ)). one ∷ pieces) filled)

-- three pieces are not two
pub not-two : (rest one after other more : List ℕ) → split_at_each 47 rest ≡ one ∷ split_at_each 47 after → split_at_each 47 after ≡ other ∷ split_at_each 47 more → two_of (split_at_each 47 rest) ≡ None
not-two rest one after other more cut again =
    let (third, others, filled) = split_at_each-filled 47 more in
    ap two_of (cut ∙ ap (λ (pieces : List (List ℕ)). one ∷ pieces) (again ∙ ap (λ (pieces : List (List ℕ)). other ∷ pieces) filled))
