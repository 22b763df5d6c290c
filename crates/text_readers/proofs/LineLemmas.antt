-- Whole lines at the beginning of bytes, and a last line without its end.
use Rattle.std.proofs.Common.{◌≡◌, ◌<◌, ◌≤◌, ◌+◌, ◌-◌, ℕ, Bool, true, false, cond, eqb, List, [], ◌∷◌, ◌++◌, length, take, drop, get_or, zero, suc, refl, sym, ap, ◌∙◌, arith, append_assoc}
use Rattle.std.proofs.lemmas.Bool.{ne_eqb}
use Rattle.text_readers.specs.Reading.{HasNo, first_lines, lines_after, lines_in}

-- a test that fails
at_false : {X : Type 0} (b : Bool) (x y : X) → b ≡ false → cond b x y ≡ y
at_false b x y e = rw e refl

-- one line more than j, from a line and what follows it
pub first_lines-line : (line rest : List ℕ) (n j : ℕ) → n ≡ j + 1 → HasNo 10 line → first_lines n (line ++ 10 ∷ rest) ≡ line ++ 10 ∷ first_lines j rest
first_lines-line [] rest n j e none =
    at_false (eqb n 0) [] _ (ne_eqb n 0 (λ z. omega (arith, z, e))) ∙ ap (λ m. 10 ∷ first_lines m rest) (omega (arith, e))
first_lines-line (b ∷ line) rest n j e none =
    at_false (eqb n 0) [] _ (ne_eqb n 0 (λ z. omega (arith, z, e)))
    ∙ ap (λ m. b ∷ first_lines m (line ++ 10 ∷ rest)) (at_false (eqb b 10) (n - 1) n (ne_eqb b 10 none.0))
    ∙ ap (λ z. b ∷ z) (first_lines-line line rest n j e none.1)

pub first_lines-none : (bytes : List ℕ) → first_lines 0 bytes ≡ []
first_lines-none [] = refl
first_lines-none (b ∷ bytes) = refl

-- a line without its end is all of it
pub first_lines-piece : (piece : List ℕ) (n : ℕ) → 1 ≤ n → HasNo 10 piece → first_lines n piece ≡ piece
first_lines-piece [] n some none = refl
first_lines-piece (b ∷ piece) n some none =
    at_false (eqb n 0) [] _ (ne_eqb n 0 (λ z. omega (arith, z, some)))
    ∙ ap (λ m. b ∷ first_lines m piece) (at_false (eqb b 10) (n - 1) n (ne_eqb b 10 none.0))
    ∙ ap (λ z. b ∷ z) (first_lines-piece piece n some none.1)

pub lines_after-line : (line rest : List ℕ) (begun : Bool) → HasNo 10 line → lines_after begun (line ++ 10 ∷ rest) ≡ 1 + lines_in rest
lines_after-line [] rest begun none = refl
lines_after-line (b ∷ line) rest begun none =
    at_false (eqb b 10) _ _ (ne_eqb b 10 none.0) ∙ lines_after-line line rest true none.1

begun-piece : (piece : List ℕ) → HasNo 10 piece → lines_after true piece ≡ 1
begun-piece [] none = refl
begun-piece (b ∷ piece) none = at_false (eqb b 10) _ _ (ne_eqb b 10 none.0) ∙ begun-piece piece none.1

pub lines_in-piece : (piece : List ℕ) → 0 < length piece → HasNo 10 piece → lines_in piece ≡ 1
lines_in-piece [] some none = absurd (omega (arith, some))
lines_in-piece (b ∷ piece) some none = at_false (eqb b 10) _ _ (ne_eqb b 10 none.0) ∙ begun-piece piece none.1

-- The bytes are k whole lines.
pub record IsLines (k : ℕ) (done : List ℕ) : Type 0 where
  pub firsts : (n j : ℕ) (rest : List ℕ) → n ≡ k + j → first_lines n (done ++ rest) ≡ done ++ first_lines j rest
  pub count : (rest : List ℕ) → lines_in (done ++ rest) ≡ k + lines_in rest

pub no-lines : IsLines 0 []
no-lines = record {
  firsts = λ n j rest e. ap (λ m. first_lines m rest) (omega (arith, e));
  count = λ rest. omega arith;
}

-- and with one line more, one more
pub more-lines : (k : ℕ) (done line : List ℕ) → IsLines k done → HasNo 10 line → IsLines (k + 1) (done ++ (line ++ 10 ∷ []))
more-lines k done line all none = record {
  firsts = λ n j rest e.
      ap (first_lines n) (append_assoc done (line ++ 10 ∷ []) rest ∙ ap (λ z. done ++ z) (append_assoc line (10 ∷ []) rest))
      ∙ all.firsts n (j + 1) (line ++ 10 ∷ rest) (omega (arith, e))
      ∙ ap (λ z. done ++ z) (first_lines-line line rest (j + 1) j refl none ∙ sym (append_assoc line (10 ∷ []) (first_lines j rest)))
      ∙ sym (append_assoc done (line ++ 10 ∷ []) (first_lines j rest));
  count = λ rest.
      ap lines_in (append_assoc done (line ++ 10 ∷ []) rest ∙ ap (λ z. done ++ z) (append_assoc line (10 ∷ []) rest))
      ∙ all.count (line ++ 10 ∷ rest)
      ∙ ap (λ z. k + z) (lines_after-line line rest false none)
      ∙ omega arith;
}

-- what comes before the first LF has none, and the LF and the rest follow it
pub cut-first : (byte : ℕ) (bytes : List ℕ) (end : ℕ) → end < length bytes → get_or bytes end 0 ≡ byte → bytes ≡ take end bytes ++ byte ∷ drop (suc end) bytes
cut-first byte [] end within here = absurd (omega (arith, within))
cut-first byte (b ∷ bytes) zero within here = ap (λ z. z ∷ bytes) here
cut-first byte (b ∷ bytes) (suc n) within here = ap (λ z. b ∷ z) (cut-first byte bytes n (omega (arith, within)) here)

pub none-before : (byte : ℕ) (bytes : List ℕ) (end : ℕ) → end ≤ length bytes → ((k : ℕ) → k < end → get_or bytes k 0 ≡ byte → ⊥) → HasNo byte (take end bytes)
none-before byte bytes zero within before = tt
none-before byte [] (suc n) within before = tt
none-before byte (b ∷ bytes) (suc n) within before = (before zero (omega arith), none-before byte bytes n (omega (arith, within)) (λ k below. before (suc k) (omega (arith, below))))

pub none-at-all : (byte : ℕ) (bytes : List ℕ) → ((k : ℕ) → k < length bytes → get_or bytes k 0 ≡ byte → ⊥) → HasNo byte bytes
none-at-all byte [] before = tt
none-at-all byte (b ∷ bytes) before = (before zero (omega arith), none-at-all byte bytes (λ k below. before (suc k) (omega (arith, below))))
