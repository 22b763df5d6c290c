-- Sets of traits, and the letters that spell them.
use Rattle.std.proofs.Common.{◌≡◌, ◌<◌, ◌≤◌, ◌⊎◌, inl, inr, ◌+◌, ◌^◌, ℕ, zero, suc, Bool, true, false, cond, eqb, List, [], ◌∷◌, map, Option, Some, None, refl, sym, ap, subst, ◌∙◌, arith, eq-eqb}
use Rattle.std.specs.Prelude.{sum_by}
use Rattle.std.specs.List.{AllByRecursion}
use Rattle.std.specs.Option.{option_map}
use Rattle.std.proofs.lemmas.Bool.{cases_order, eqb-true, ne_eqb}
use Rattle.std.proofs.lemmas.List.Sums.{sum_by-cons}
use Rattle.office_base.specs.Lists.{Pairwise}
use Rattle.office_text.specs.Traits.{AreLettersOf, AreReadAsSpelled, IsSpelled, is_dash, letter, read_from, trait_of, traits_of, weighted_letters}

-- Nothing is the empty set, whichever letters are allowed.
pub read_from-empty : (allowed : List (ℕ × ℕ)) → read_from allowed [] ≡ Some 0
read_from-empty [] = refl
read_from-empty (pair ∷ allowed) = refl

-- the letters of so many traits from this one on, each with its bit
abbrev weighted : ℕ → ℕ → List (ℕ × ℕ)
weighted zero k = []
weighted (suc m) k = (letter k, 2 ^ k) ∷ weighted m (suc k)

-- the letter of a trait is read as the trait
pub trait_of-letter : (t : ℕ) → t < 6 → trait_of (letter t) ≡ Some t
trait_of-letter zero small = refl
trait_of-letter (suc zero) small = refl
trait_of-letter (suc (suc zero)) small = refl
trait_of-letter (suc (suc (suc zero))) small = refl
trait_of-letter (suc (suc (suc (suc zero)))) small = refl
trait_of-letter (suc (suc (suc (suc (suc zero))))) small = refl
trait_of-letter (suc (suc (suc (suc (suc (suc t)))))) small = absurd (omega arith)

one_letter : (t u : ℕ) → t < 6 → u < 6 → letter t ≡ letter u → t ≡ u
one_letter t u a b e =
    let there : trait_of (letter t) ≡ Some t = trait_of-letter t a in
    let here : trait_of (letter u) ≡ Some u = trait_of-letter u b in
    let same : trait_of (letter t) ≡ trait_of (letter u) = ap trait_of e in
    cc

-- what is read from these letters on
abbrev Found : ℕ → List ℕ → ℕ → Type 0
Found k text bits = (numbers : List ℕ) × AreLettersOf numbers text bits × AllByRecursion (λ t. k ≤ t) numbers

lower : (k : ℕ) (numbers : List ℕ) → AllByRecursion (λ t. suc k ≤ t) numbers → AllByRecursion (λ t. k ≤ t) numbers
lower k [] all = tt
lower k (t ∷ ts) all = (omega (arith, all.0), lower k ts all.1)

strictly : (k : ℕ) (numbers : List ℕ) → AllByRecursion (λ t. suc k ≤ t) numbers → AllByRecursion (λ t. k < t) numbers
strictly k [] all = tt
strictly k (t ∷ ts) all = (omega (arith, all.0), strictly k ts all.1)

with_letter : (k : ℕ) (byte : ℕ) (text : List ℕ) (rest bits : ℕ) → k < 6 → letter k ≡ byte → Found (suc k) text rest → 2 ^ k + rest ≡ bits → Found k (byte ∷ text) bits
with_letter k byte text rest bits small same found e =
    let (numbers, are, above) = found in (
      k ∷ numbers,
      record {
        letters = cc (same, are.letters);
        traits = (small, are.traits);
        rising = (strictly k numbers above, are.rising);
        set = sym e ∙ ap (λ (n : ℕ). 2 ^ k + n) are.set ∙ sym (sum_by-cons (λ t. 2 ^ t) k numbers);
      },
      (omega arith, lower k numbers above),
    )

-- What is read is spelled.
found_from : (m k : ℕ) (text : List ℕ) (bits : ℕ) → k + m ≡ 6 → read_from (weighted m k) text ≡ Some bits → Found k text bits
found_from zero k [] bits size e = ([], record { letters = refl; traits = tt; rising = tt; set = cc e }, tt)
found_from zero k (byte ∷ text) bits size e = absurd cc
found_from (suc m) k [] bits size e = ([], record { letters = refl; traits = tt; rising = tt; set = cc e }, tt)
found_from (suc m) k (byte ∷ text) bits size e =
    by (λ text bits h. found_from m (suc k) text bits (omega (arith, size)) h) (eqb (letter k) byte) refl e
  where
    small : k < 6
    small = omega (arith, size)

    taken : ((text : List ℕ) (bits : ℕ) → read_from (weighted m (suc k)) text ≡ Some bits → Found (suc k) text bits) → (o : Option ℕ) → read_from (weighted m (suc k)) text ≡ o → eqb (letter k) byte ≡ true → option_map (λ n. 2 ^ k + n) o ≡ Some bits → Found k (byte ∷ text) bits
    taken next None f same h = absurd cc
    taken next (Some rest) f same h = with_letter k byte text rest bits small (eqb-true (letter k) byte same) (next text rest f) cc

    by : ((text : List ℕ) (bits : ℕ) → read_from (weighted m (suc k)) text ≡ Some bits → Found (suc k) text bits) → (b : Bool) → eqb (letter k) byte ≡ b
        → cond b (option_map (λ n. 2 ^ k + n) (read_from (weighted m (suc k)) text)) (read_from (weighted m (suc k)) (byte ∷ text)) ≡ Some bits → Found k (byte ∷ text) bits
    by next true same h = taken next (read_from (weighted m (suc k)) text) refl same h
    by next false same h = let (numbers, are, above) = next (byte ∷ text) bits h in (numbers, are, lower k numbers above)

-- what comes after a trait that is not below k is above k
later : (k t : ℕ) (ts : List ℕ) → k ≤ t → AllByRecursion (λ u. t < u) ts → AllByRecursion (λ u. suc k ≤ u) ts
later k t [] below all = tt
later k t (u ∷ us) below all = (omega (arith, below, all.0), later k t us below all.1)

-- What is spelled is read.
read_letters : (m k : ℕ) (numbers : List ℕ) → k + m ≡ 6 → AllByRecursion (λ t. t < 6) numbers → AllByRecursion (λ t. k ≤ t) numbers → Pairwise (λ t u. t < u) numbers
    → read_from (weighted m k) (map letter numbers) ≡ Some (sum_by (λ t. 2 ^ t) numbers)
read_letters m k [] size traits above rising = read_from-empty (weighted m k)
read_letters zero k (t ∷ ts) size traits above rising = absurd (omega (arith, size, traits.0, above.0))
read_letters (suc m) k (t ∷ ts) size traits above rising = rw (sum_by-cons (λ t. 2 ^ t) t ts) (elim (cases_order k t) [
  | inl same ↦ subst (λ (n : ℕ). cond (eqb (letter k) (letter n)) (option_map (λ n. 2 ^ k + n) (read_from (weighted m (suc k)) (map letter ts))) (read_from (weighted m (suc k)) (letter n ∷ map letter ts)) ≡ Some (2 ^ n + sum_by (λ t. 2 ^ t) ts)) same
      (rw (eq-eqb (letter k) (letter k) refl, read_letters m (suc k) ts (omega (arith, size)) traits.1 (later k t ts (omega (arith, same)) rising.0) rising.1) refl)
  | inr other ↦ elim other [
    | inl less ↦ rw (ne_eqb (letter k) (letter t) (λ e. absurd (omega (arith, less, one_letter k t (omega (arith, size)) traits.0 e))))
        (read_letters m (suc k) (t ∷ ts) (omega (arith, size)) traits (omega (arith, less), later k t ts (omega (arith, less)) rising.0) rising ∙ ap (λ (n : ℕ). Some n) (sum_by-cons (λ t. 2 ^ t) t ts))
    | inr more ↦ absurd (omega (arith, more, above.0))
  ]
])

all_from_zero : (numbers : List ℕ) → AllByRecursion (λ t. 0 ≤ t) numbers
all_from_zero [] = tt
all_from_zero (t ∷ ts) = (omega arith, all_from_zero ts)

-- no letter is a dash
no_dash : (numbers : List ℕ) → AllByRecursion (λ t. t < 6) numbers → is_dash (map letter numbers) ≡ false
no_dash [] traits = refl
no_dash (t ∷ []) traits = ne_eqb (letter t) 45 (λ e. by t traits.0 e)
  where
    by : (t : ℕ) → t < 6 → letter t ≡ 45 → ⊥
    by t small e =
        let here : trait_of (letter t) ≡ Some t = trait_of-letter t small in
        let none : trait_of 45 ≡ None = refl in
        let same : trait_of (letter t) ≡ trait_of 45 = ap trait_of e in
        cc
no_dash (t ∷ u ∷ ts) traits = refl

dash_alone : (text : List ℕ) → is_dash text ≡ true → text ≡ 45 ∷ []
dash_alone [] e = absurd cc
dash_alone (byte ∷ []) e = ap (λ (n : ℕ). n ∷ []) (eqb-true byte 45 e)
dash_alone (byte ∷ next ∷ bytes) e = absurd cc

is_spelled : (text : List ℕ) (bits : ℕ) → traits_of text ≡ Some bits → IsSpelled text bits
is_spelled text bits e = by (is_dash text) refl e
  where
    by : (b : Bool) → is_dash text ≡ b → cond b (Some 0) (read_from weighted_letters text) ≡ Some bits → IsSpelled text bits
    by true dash h = inl (dash_alone text dash, cc h)
    by false dash h = let (numbers, are, above) = found_from 6 0 text bits refl h in inr (numbers, are)

is_read : (text : List ℕ) (bits : ℕ) → IsSpelled text bits → traits_of text ≡ Some bits
is_read text bits (inl dash) = subst (λ (bytes : List ℕ). traits_of bytes ≡ Some bits) (sym dash.0) (ap (λ (n : ℕ). Some n) (sym dash.1))
is_read text bits (inr spelled) =
    let (numbers, are) = spelled in
    let letters : traits_of (map letter numbers) ≡ Some (sum_by (λ t. 2 ^ t) numbers) =
    rw (no_dash numbers are.traits) (read_letters 6 0 numbers refl are.traits (all_from_zero numbers) are.rising) in
    subst (λ (bytes : List ℕ). traits_of bytes ≡ Some bits) (sym are.letters) (letters ∙ ap (λ (n : ℕ). Some n) (sym are.set))

-- A text is read exactly where it is spelled.
pub read_as_spelled : AreReadAsSpelled
read_as_spelled = record { spelled = is_spelled; read = is_read }
