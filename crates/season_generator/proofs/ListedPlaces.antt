-- The places of a list, each of them once.
use Rattle.std.proofs.Common.{◌≡◌, ◌≤◌, ◌<◌, ℕ, List, length, get_or, set, refl, sym, ap, subst, ◌∙◌, arith, inl, inr}
use Rattle.std.specs.Prelude.{swap}
use Rattle.std.specs.List.{All, range_with_len}
use Rattle.std.specs.List.Sorted.{IsPermutation}
use Rattle.std.proofs.lemmas.Bool.{cases_eq}
use Rattle.std.proofs.lemmas.List.{get_or-set_other, get_or-set_same}
use Rattle.std.proofs.lemmas.List.Edits.{length-swap, swap_is}
use Rattle.std.proofs.lemmas.List.Elements.{All-from_get_or, All-get_or}
use Rattle.std.proofs.lemmas.List.FromFn.{get_or-range_with_len, length-range_with_len}
use Rattle.std.proofs.lemmas.List.Sorted.{All-permutation, IsPermutation-keeps, length_permutation}
use Rattle.std.proofs.Math.ListN.{length-set}

-- no two numbers of a list have the same
abbrev pub AreApart : List ℕ → Type 0
AreApart xs = (i j : ℕ) → i < length xs → j < length xs → get_or xs i 0 ≡ get_or xs j 0 → i ≡ j

-- where an element was that is at this place after an exchange
record IsFrom (xs : List ℕ) (a b k : ℕ) (from : ℕ) : Type 0 where
  same : get_or (swap xs a b) k 0 ≡ get_or xs from 0
  within : from < length xs
  first : k ≡ b → from ≡ a
  second : k ≡ a → (k ≡ b → ⊥) → from ≡ b
  other : (k ≡ a → ⊥) → (k ≡ b → ⊥) → from ≡ k

from : (xs : List ℕ) (a b k : ℕ) → a < length xs → b < length xs → k < length xs → (f : ℕ) × IsFrom xs a b k f
from xs a b k a-in b-in k-in =
    let once : List ℕ = set xs a (get_or xs b 0) in
    let long : length once ≡ length xs = length-set xs a (get_or xs b 0) in
    let is : get_or (swap xs a b) k 0 ≡ get_or (set once b (get_or xs a 0)) k 0 = ap (λ (l : List ℕ). get_or l k 0) (sym (swap_is xs a b 0 a-in b-in)) in
    elim (cases_eq k b) [
      | inl at_b ↦ (
        a,
        record {
          same = is ∙ ap (λ (m : ℕ). get_or (set once b (get_or xs a 0)) m 0) at_b ∙ get_or-set_same once b (get_or xs a 0) 0 (omega (arith, long));
          within = a-in;
          first = λ e. refl;
          second = λ e not-b. absurd (not-b at_b);
          other = λ not-a not-b. absurd (not-b at_b);
        },
      )
      | inr not-b ↦ elim (cases_eq k a) [
        | inl at_a ↦ (
          b,
          record {
            same = is ∙ get_or-set_other once b k (get_or xs a 0) 0 not-b ∙ ap (λ (m : ℕ). get_or once m 0) at_a ∙ get_or-set_same xs a (get_or xs b 0) 0 a-in;
            within = b-in;
            first = λ e. absurd (not-b e);
            second = λ e n. refl;
            other = λ not-a n. absurd (not-a at_a);
          },
        )
        | inr not-a ↦ (
          k,
          record {
            same = is ∙ get_or-set_other once b k (get_or xs a 0) 0 not-b ∙ get_or-set_other xs a k (get_or xs b 0) 0 not-a;
            within = k-in;
            first = λ e. absurd (not-b e);
            second = λ e n. absurd (not-a e);
            other = λ n m. refl;
          },
        )
      ]
    ]

-- elements that came from one place are at one place
one-from : (xs : List ℕ) (a b i j f : ℕ) → IsFrom xs a b i f → IsFrom xs a b j f → i ≡ j
one-from xs a b i j f x y =
    elim (cases_eq i b) [
      | inl i-b ↦ elim (cases_eq j b) [
        | inl j-b ↦ i-b ∙ sym j-b
        | inr not-j-b ↦ elim (cases_eq j a) [
          | inl j-a ↦ omega (arith, x.first i-b, y.second j-a not-j-b, i-b, j-a)
          | inr not-j-a ↦ absurd (not-j-a (sym (y.other not-j-a not-j-b) ∙ x.first i-b))
        ]
      ]
      | inr not-i-b ↦ elim (cases_eq i a) [
        | inl i-a ↦ elim (cases_eq j b) [
          | inl j-b ↦ omega (arith, y.first j-b, x.second i-a not-i-b, i-a, j-b)
          | inr not-j-b ↦ elim (cases_eq j a) [
            | inl j-a ↦ i-a ∙ sym j-a
            | inr not-j-a ↦ absurd (not-j-b (sym (y.other not-j-a not-j-b) ∙ x.second i-a not-i-b))
          ]
        ]
        | inr not-i-a ↦ elim (cases_eq j b) [
          | inl j-b ↦ absurd (not-i-a (sym (x.other not-i-a not-i-b) ∙ y.first j-b))
          | inr not-j-b ↦ elim (cases_eq j a) [
            | inl j-a ↦ absurd (not-i-b (sym (x.other not-i-a not-i-b) ∙ y.second j-a not-j-b))
            | inr not-j-a ↦ sym (x.other not-i-a not-i-b) ∙ y.other not-j-a not-j-b
          ]
        ]
      ]
    ]

-- an exchange leaves them apart
apart-swap : (xs : List ℕ) (a b : ℕ) → a < length xs → b < length xs → AreApart xs → AreApart (swap xs a b)
apart-swap xs a b a-in b-in apart i j i-in j-in same =
    let long = length-swap xs a b in
    let (f, x) = from xs a b i a-in b-in (omega (arith, long, i-in)) in
    let (g, y) = from xs a b j a-in b-in (omega (arith, long, j-in)) in
    let one : f ≡ g = apart f g x.within y.within (sym x.same ∙ same ∙ y.same) in
    one-from xs a b i j g (subst (IsFrom xs a b i) one x) y

apart-range : (n : ℕ) → AreApart (range_with_len 1 n)
apart-range n i j i-in j-in same =
    let long = length-range_with_len 1 n in
    let x = get_or-range_with_len 1 n i 0 (omega (arith, long, i-in)) in
    let y = get_or-range_with_len 1 n j 0 (omega (arith, long, j-in)) in
    omega (arith, x, y, same)

-- What the places of a list are.
pub record ArePlaces (n : ℕ) (xs : List ℕ) : Type 0 where
  pub long : length xs ≡ n
  pub low : (i : ℕ) → i < n → 1 ≤ get_or xs i 0
  pub high : (i : ℕ) → i < n → get_or xs i 0 ≤ n
  pub apart : (i j : ℕ) → i < n → j < n → get_or xs i 0 ≡ get_or xs j 0 → i ≡ j

record IsPlace (n place : ℕ) : Type 0 where
  low : 1 ≤ place
  high : place ≤ n

-- The places are those from 1 to n, each once.
pub are-places : (n : ℕ) (xs : List ℕ) → IsPermutation (range_with_len 1 n) xs → ArePlaces n xs
are-places n xs all =
    let long : length xs ≡ n = length_permutation (range_with_len 1 n) xs all ∙ length-range_with_len 1 n in
    let range : All (IsPlace n) (range_with_len 1 n) = All-from_get_or (IsPlace n) (range_with_len 1 n) 0 (λ i less.
    let is = get_or-range_with_len 1 n i 0 (omega (arith, less, length-range_with_len 1 n)) in
    record { low = omega (arith, is); high = omega (arith, is, less, length-range_with_len 1 n) }) in
    let within : All (IsPlace n) xs = All-permutation (IsPlace n) (range_with_len 1 n) xs all range in
    let apart : AreApart xs = IsPermutation-keeps (range_with_len 1 n) AreApart (apart-range n) (λ l i j i-in j-in h. apart-swap l i j i-in j-in h) xs all in
    record {
      long = long;
      low = λ i less. (All-get_or (IsPlace n) xs i 0 (omega (arith, less, long)) within).low;
      high = λ i less. (All-get_or (IsPlace n) xs i 0 (omega (arith, less, long)) within).high;
      apart = λ i j i-in j-in same. apart i j (omega (arith, i-in, long)) (omega (arith, j-in, long)) same;
    }
