-- A piece of a first line, and a first line of a round.
use Rattle.std.proofs.Common.{◌≡◌, ◌<◌, ◌^◌, ℕ, true, List, [], ◌∷◌, ◌++◌, is_some, refl, sym, ap, subst, ◌∙◌, arith, append_assoc}
use Rattle.std.proofs.lemmas.List.{append_cancel_left}
use Rattle.std.specs.Fmt.{decimal}
use Rattle.std.specs.Prelude.{codes}
use Rattle.office_text.specs.Number.{AreInverse, number_within}
use Rattle.text_readers.specs.Parts.{BeginsNumber, IsLeft, is_prefix}
use Rattle.text_readers.specs.Reading.{HasNo}
use Rattle.text_readers.proofs.NumberLemmas.{digits-clear, number-read, number-written, some-is}
use Rattle.text_readers.proofs.PartsLemmas.{cut-one, has-one, is_prefix-append, is_prefix-inside}
use Rattle.text_readers.proofs.PieceLemmas.{prefix-more}
use Rattle.publish.specs.Pieces.{BeginsHead, BeginsSeated, IsRoundNumber}
use Rattle.publish.specs.Rows.{head_words}
use Rattle.publish.specs.declared.sort.Sort.TheVariants.{Round, Final}

pub round-number : AreInverse → (text : List ℕ) → is_some (number_within 0 65535 text) ≡ true → IsRoundNumber text
round-number inverse text e =
    let (n, found) = some-is (number_within 0 65535 text) e in
    let (same, within) = number-written inverse 0 65535 n text (omega arith) (sym found) in
    record { number = n; within = omega (arith, within); same = same }

pub number-round : AreInverse → (text : List ℕ) → IsRoundNumber text → is_some (number_within 0 65535 text) ≡ true
number-round inverse text is = ap is_some (ap (number_within 0 65535) is.same ∙ number-read inverse 65535 is.number (omega (arith, is.within)) (omega (arith, is.within)))

-- ---- first lines

module _ (most : ℕ) (piece rest : List ℕ) where
  pub final-from : IsLeft piece (codes "final ") rest → BeginsNumber most (10 ∷ []) rest → (known : ℕ) → BeginsHead Final known most piece
  final-from left b known = record { number = known; count = b.number; numbered = refl; within = b.within; begins = left.same (decimal b.number ++ 10 ∷ []) ∙ b.begins }

  pub final-to : IsLeft piece (codes "final ") rest → (known : ℕ) → BeginsHead Final known most piece → BeginsNumber most (10 ∷ []) rest
  final-to left known b = record { number = b.count; within = b.within; begins = sym (left.same (decimal b.count ++ 10 ∷ [])) ∙ b.begins }

  pub seated-from : IsLeft piece (codes "seated ") rest → BeginsNumber most (10 ∷ []) rest → BeginsSeated most piece
  seated-from left b = record { count = b.number; within = b.within; begins = left.same (decimal b.number ++ 10 ∷ []) ∙ b.begins }

  pub seated-to : IsLeft piece (codes "seated ") rest → BeginsSeated most piece → BeginsNumber most (10 ∷ []) rest
  seated-to left b = record { number = b.count; within = b.within; begins = sym (left.same (decimal b.count ++ 10 ∷ [])) ∙ b.begins }

round-assoc : (number count : ℕ) → head_words Round number count ++ 10 ∷ [] ≡ codes "round " ++ (decimal number ++ 32 ∷ (codes "seated " ++ (decimal count ++ 10 ∷ [])))
round-assoc number count = ap (λ z. codes "round " ++ z) (append_assoc (decimal number) (32 ∷ (codes "seated " ++ decimal count)) (10 ∷ []))

module _ (most : ℕ) (piece rest : List ℕ) (left : IsLeft piece (codes "round ") rest) where
  -- the number is not whole
  pub round-from : BeginsNumber 65535 (32 ∷ (codes "seated " ++ (decimal 0 ++ 10 ∷ []))) rest → (known : ℕ) → BeginsHead Round known most piece
  round-from b known = record {
    number = b.number;
    count = 0;
    numbered = omega (arith, b.within);
    within = omega arith;
    begins = ap (is_prefix piece) (round-assoc b.number 0) ∙ left.same (decimal b.number ++ 32 ∷ (codes "seated " ++ (decimal 0 ++ 10 ∷ []))) ∙ b.begins;
  }

  pub round-to : (known : ℕ) (b : BeginsHead Round known most piece) → BeginsNumber 65535 (32 ∷ (codes "seated " ++ (decimal b.count ++ 10 ∷ []))) rest
  round-to known b = record {
    number = b.number;
    within = omega (arith, b.numbered);
    begins = sym (left.same (decimal b.number ++ 32 ∷ (codes "seated " ++ (decimal b.count ++ 10 ∷ [])))) ∙ ap (is_prefix piece) (sym (round-assoc b.number b.count)) ∙ b.begins;
  }

  -- the number is whole
  module _ (text last : List ℕ) (cut : rest ≡ text ++ 32 ∷ last) (none : HasNo 32 text) where
    pub whole-from : IsRoundNumber text → BeginsSeated most last → (known : ℕ) → BeginsHead Round known most piece
    whole-from is b known = record {
      number = is.number;
      count = b.count;
      numbered = is.within;
      within = b.within;
      begins =
          let tail = codes "seated " ++ (decimal b.count ++ 10 ∷ []) in
          ap (is_prefix piece) (round-assoc is.number b.count) ∙ left.same (decimal is.number ++ 32 ∷ tail)
          ∙ ap (λ z. is_prefix z (decimal is.number ++ 32 ∷ tail)) (cut ∙ ap (λ z. z ++ 32 ∷ last) is.same) ∙ is_prefix-append (decimal is.number) (32 ∷ last) (32 ∷ tail) ∙ b.begins;
    }

    whole-parts : (known : ℕ) (b : BeginsHead Round known most piece) → (text ≡ decimal b.number) × (is_prefix last (codes "seated " ++ (decimal b.count ++ 10 ∷ [])) ≡ true)
    unfolding round-to
    whole-parts known b =
        let tail = codes "seated " ++ (decimal b.count ++ 10 ∷ []) in
        let begins = (round-to known b).begins in
        let (more, is) = prefix-more rest (decimal b.number ++ 32 ∷ tail) begins in
        let all : decimal b.number ++ 32 ∷ tail ≡ text ++ 32 ∷ (last ++ more) = is ∙ ap (λ z. z ++ more) cut ∙ append_assoc text (32 ∷ last) more in
        let (same, after) = cut-one 32 (decimal b.number) text tail (last ++ more) (digits-clear 32 b.number (omega (arith, b.numbered)) refl) none all in
        (sym same, ap (is_prefix last) after ∙ is_prefix-inside last more)

    pub whole-number : (known : ℕ) → BeginsHead Round known most piece → IsRoundNumber text
    whole-number known b = record { number = b.number; within = b.numbered; same = (whole-parts known b).0 }

    pub whole-seated : (known : ℕ) → BeginsHead Round known most piece → BeginsSeated most last
    whole-seated known b = record { count = b.count; within = b.within; begins = (whole-parts known b).1 }

-- ---- a whole first line of a round

module _ (line rest : List ℕ) (number count : ℕ) (first : number < 2 ^ 16) (small : count < 2 ^ 32) (is : line ≡ head_words Round number count) (cut : line ≡ codes "round " ++ rest) where
  head-rest : rest ≡ decimal number ++ 32 ∷ (codes "seated " ++ decimal count)
  head-rest = append_cancel_left (codes "round ") rest (decimal number ++ 32 ∷ (codes "seated " ++ decimal count)) (sym cut ∙ is)

  pub head-whole : HasNo 32 rest → ⊥
  head-whole none = has-one 32 (decimal number) (codes "seated " ++ decimal count) (subst (HasNo 32) head-rest none)

  module _ (text last : List ℕ) (parts : rest ≡ text ++ 32 ∷ last) (none : HasNo 32 text) where
    pub head-parts : (text ≡ decimal number) × (last ≡ codes "seated " ++ decimal count)
    head-parts = cut-one 32 text (decimal number) last (codes "seated " ++ decimal count) none (digits-clear 32 number (omega (arith, first)) refl) (sym parts ∙ head-rest)

    pub head-count : (digits : List ℕ) → last ≡ codes "seated " ++ digits → digits ≡ decimal count
    head-count digits e = append_cancel_left (codes "seated ") digits (decimal count) (sym e ∙ head-parts.1)
