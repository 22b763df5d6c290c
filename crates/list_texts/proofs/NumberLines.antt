-- Numbers in a line, and in a piece of one.
use Rattle.std.proofs.Common.{◌≡◌, ◌≢◌, ◌<◌, ◌≤◌, ◌^◌, ℕ, true, List, [], ◌∷◌, ◌++◌, Option, Some, None, IfNone, is_some, refl, sym, ap, subst, ◌∙◌, arith, append_assoc}
use Rattle.std.proofs.lemmas.Bool.{false≢true}
use Rattle.std.proofs.lemmas.Fmt.{decimal_injective}
use Rattle.std.proofs.lemmas.List.{append_cancel_left}
use Rattle.std.specs.Fmt.{decimal}
use Rattle.std.specs.Prelude.{IfSome}
use Rattle.office_text.specs.Number.{AreInverse, number_within}
use Rattle.text_readers.specs.Parts.{BeginsNumber, IsApart, IsLeft, is_prefix}
use Rattle.text_readers.specs.Reading.{HasNo}
use Rattle.text_readers.proofs.NumberLemmas.{digits-clear, number-read, number-written}
use Rattle.text_readers.proofs.PartsLemmas.{cut-one, has-no-after, has-one, is_prefix-append, is_prefix-inside}
use Rattle.text_readers.proofs.PieceLemmas.{prefix-more}
use Rattle.list_texts.specs.ListPieces.{BeginsCount, BeginsNumbered, IsNumberLeft, IsPast}
use Rattle.list_texts.specs.declared.numbers.NumberLeft.{NumberLeft}
use Rattle.list_texts.specs.declared.numbers.NumberLeft.TheVariants.{Inside, Past, Apart}

-- ---- whole lines

-- a number and a space are cut at the space
module _ (bytes : List ℕ) (n : ℕ) (rest : List ℕ) (small : n < 2 ^ 32) (is : bytes ≡ decimal n ++ 32 ∷ rest) where
  pub before-whole : HasNo 32 bytes → ⊥
  before-whole none = has-one 32 (decimal n) rest (subst (HasNo 32) is none)

  pub before-parts : (text last : List ℕ) → bytes ≡ text ++ 32 ∷ last → HasNo 32 text → (text ≡ decimal n) × (last ≡ rest)
  before-parts text last cut none = cut-one 32 text (decimal n) last rest none (digits-clear 32 n (omega (arith, small)) refl) (sym cut ∙ is)

-- the number of a text
module _ (inverse : AreInverse) (high : ℕ) (fits : high < 2 ^ 32) (text : List ℕ) where
  pub whole-small : (found : Option ℕ) → found ≡ number_within 0 high text → IfSome found (λ n. n ≤ high)
  whole-small None e = tt
  whole-small (Some n) e = (number-written inverse 0 high n text (omega (arith, fits)) e).1

  pub whole-some : (found : Option ℕ) → found ≡ number_within 0 high text → IfSome found (λ n. text ≡ decimal n)
  whole-some None e = tt
  whole-some (Some n) e = (number-written inverse 0 high n text (omega (arith, fits)) e).0

  pub whole-none : (found : Option ℕ) → found ≡ number_within 0 high text → IfNone found ((n : ℕ) → n ≤ high → text ≢ decimal n)
  whole-none None e = λ n within same. false≢true (ap is_some (e ∙ ap (number_within 0 high) same ∙ number-read inverse high n (omega (arith, within, fits)) within))
  whole-none (Some n) e = tt

-- a word, a number and a space are spelled in one way
pub numbers-one : (word : List ℕ) (n m : ℕ) (a b : List ℕ) → n < 2 ^ 32 → m < 2 ^ 32 → word ++ (decimal n ++ 32 ∷ a) ≡ word ++ (decimal m ++ 32 ∷ b) → (n ≡ m) × (a ≡ b)
numbers-one word n m a b small fits e =
    let rest = append_cancel_left word (decimal n ++ 32 ∷ a) (decimal m ++ 32 ∷ b) e in
    let (digits, last) = cut-one 32 (decimal n) (decimal m) a b (digits-clear 32 n (omega (arith, small)) refl) (digits-clear 32 m (omega (arith, fits)) refl) rest in
    (decimal_injective n m (omega (arith, small)) (omega (arith, fits)) digits, last)

-- ---- pieces

-- the number is whole
module _ (high : ℕ) (fits : high < 2 ^ 32) (piece text rest : List ℕ) (cut : piece ≡ text ++ 32 ∷ rest) (none : HasNo 32 text) where
  whole-parts : (tail : List ℕ) (b : BeginsNumbered [] high tail piece) → (text ≡ decimal b.number) × (is_prefix rest tail ≡ true)
  whole-parts tail b =
      let (more, is) = prefix-more piece (decimal b.number ++ 32 ∷ tail) b.begins in
      let all : decimal b.number ++ 32 ∷ tail ≡ text ++ 32 ∷ (rest ++ more) = is ∙ ap (λ z. z ++ more) cut ∙ append_assoc text (32 ∷ rest) more in
      let (same, after) = cut-one 32 (decimal b.number) text tail (rest ++ more) (digits-clear 32 b.number (omega (arith, b.within, fits)) refl) none all in
      (sym same, ap (is_prefix rest) after ∙ is_prefix-inside rest more)

  pub past-whole : (n : ℕ) → n ≤ high → text ≡ decimal n → IsPast [] high piece rest
  past-whole n within same = record {
    on = λ tail e. record {
      number = n;
      within = within;
      begins = ap (λ z. is_prefix z (decimal n ++ 32 ∷ tail)) (cut ∙ ap (λ z. z ++ 32 ∷ rest) same) ∙ is_prefix-append (decimal n) (32 ∷ rest) (32 ∷ tail) ∙ e;
    };
    back = λ tail b. (whole-parts tail b).1;
    clear = λ clear. has-no-after 10 text 32 rest (subst (HasNo 10) cut clear);
  }

  pub past-apart : ((n : ℕ) → n ≤ high → text ≢ decimal n) → (tail : List ℕ) → BeginsNumbered [] high tail piece → ⊥
  past-apart never tail b = never b.number b.within (whole-parts tail b).0

-- the word before it
module _ (word : List ℕ) (high : ℕ) (piece rest : List ℕ) (left : IsLeft piece word rest) where
  word-on : (tail : List ℕ) → BeginsNumbered [] high tail rest → BeginsNumbered word high tail piece
  word-on tail b = record { number = b.number; within = b.within; begins = left.same (decimal b.number ++ 32 ∷ tail) ∙ b.begins }

  word-back : (tail : List ℕ) → BeginsNumbered word high tail piece → BeginsNumbered [] high tail rest
  word-back tail b = record { number = b.number; within = b.within; begins = sym (left.same (decimal b.number ++ 32 ∷ tail)) ∙ b.begins }

  pub past-word : (found : NumberLeft) → IsNumberLeft [] high rest found → IsNumberLeft word high piece found
  past-word Inside is = λ tail. word-on tail (is tail)
  past-word (Past last) is = record {
    on = λ tail e. word-on tail (is.on tail e);
    back = λ tail b. is.back tail (word-back tail b);
    clear = λ none. is.clear (left.clear 10 none);
  }
  past-word Apart is = λ tail b. is tail (word-back tail b)

  pub count-from : BeginsNumber high (10 ∷ []) rest → BeginsCount word high piece
  count-from b = record { count = b.number; within = b.within; begins = left.same (decimal b.number ++ 10 ∷ []) ∙ b.begins }

  pub count-to : BeginsCount word high piece → BeginsNumber high (10 ∷ []) rest
  count-to b = record { number = b.count; within = b.within; begins = sym (left.same (decimal b.count ++ 10 ∷ [])) ∙ b.begins }

pub word-apart : (word : List ℕ) (high : ℕ) (piece : List ℕ) → IsApart piece word → (tail : List ℕ) → BeginsNumbered word high tail piece → ⊥
word-apart word high piece apart tail b = false≢true (sym (apart (decimal b.number ++ 32 ∷ tail)) ∙ b.begins)

pub count-apart : (word : List ℕ) (high : ℕ) (piece : List ℕ) → IsApart piece word → BeginsCount word high piece → ⊥
count-apart word high piece apart b = false≢true (sym (apart (decimal b.count ++ 10 ∷ [])) ∙ b.begins)
