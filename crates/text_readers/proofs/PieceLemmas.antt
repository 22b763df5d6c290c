-- What a piece of a line begins, part by part.
use Rattle.std.proofs.Common.{◌≡◌, inl, inr, ℕ, true, false, eqb, List, [], ◌∷◌, ◌++◌, length, refl, sym, ap, ◌∙◌, arith, eq-eqb}
use Rattle.std.proofs.lemmas.Bool.{cond-true, cond-false, ne_eqb, cases_eq, false≢true}
use Rattle.text_readers.specs.Parts.{is_prefix}
use Rattle.text_readers.specs.Reading.{HasNo}
use Rattle.text_readers.proofs.PartsLemmas.{heads, tails}

-- a piece that begins a line begins it with what follows
pub prefix-more : (piece whole : List ℕ) → is_prefix piece whole ≡ true → (more : List ℕ) × (whole ≡ piece ++ more)
prefix-more [] whole e = (whole, refl)
prefix-more (b ∷ piece) [] e = absurd (false≢true e)
prefix-more (b ∷ piece) (c ∷ whole) e = elim (cases_eq b c) [
  | inl same ↦
      let (more, is) = prefix-more piece whole (sym (cond-true (eqb b c) (is_prefix piece whole) false (eq-eqb b c same)) ∙ e) in
      (more, ap (λ z. z ∷ whole) (sym same) ∙ ap (λ z. b ∷ z) is)
  | inr other ↦ absurd (false≢true (sym (cond-false (eqb b c) (is_prefix piece whole) false (ne_eqb b c other)) ∙ e))
]

-- a piece of the first line begins that line
pub prefix-line : (byte : ℕ) (piece more line rest : List ℕ) → HasNo byte piece → piece ++ more ≡ line ++ byte ∷ rest → (tail : List ℕ) → is_prefix piece (line ++ byte ∷ tail) ≡ true
prefix-line byte [] more line rest none e tail = refl
prefix-line byte (b ∷ piece) more [] rest none e tail = absurd (none.0 (heads b byte (piece ++ more) rest e))
prefix-line byte (b ∷ piece) more (c ∷ line) rest none e tail =
    cond-true (eqb b c) (is_prefix piece (line ++ byte ∷ tail)) false (eq-eqb b c (heads b c (piece ++ more) (line ++ byte ∷ rest) e))
    ∙ prefix-line byte piece more line rest none.1 (tails b c (piece ++ more) (line ++ byte ∷ rest) e) tail

-- nothing else is begun by a piece with no end but by one that has it
pub prefix-nothing : (piece : List ℕ) → is_prefix piece [] ≡ eqb (length piece) 0
prefix-nothing [] = refl
prefix-nothing (b ∷ piece) = sym (ne_eqb (length (b ∷ piece)) 0 (λ z. omega (arith, z)))
