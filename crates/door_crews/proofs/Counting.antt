-- Prefixes, merges and counts.
use Rattle.std.proofs.Common.{◌≡◌, ◌+◌, ◌≤◌, inl, inr, ℕ, List, [], ◌∷◌, ◌++◌, arith, sym, ap, ◌∙◌, append_assoc}
use Rattle.std.proofs.lemmas.List.{append-nil}
use Rattle.office_base.specs.Outside.{Rose}
use Rattle.office_desk.specs.Own.{Begins, AreMerged}
use Rattle.door_crews.specs.Counts.{RoseBy}

module _ {I : Type 0} where
  pub begins_self : (xs : List I) → Begins xs xs
  begins_self xs = ([], sym (append-nil xs))

  pub begins_same : (xs ys : List I) → ys ≡ xs → Begins xs ys
  begins_same xs ys e = ([], e ∙ sym (append-nil xs))

  pub begins_trans : (xs ys zs : List I) → Begins xs ys → Begins ys zs → Begins xs zs
  begins_trans xs ys zs a b = (a.0 ++ b.0, b.1 ∙ (ap (λ (x : List I). x ++ b.0) a.1 ∙ append_assoc xs a.0 b.0))

  pub begins_front : (xs ys zs : List I) → Begins (xs ++ ys) zs → Begins xs zs
  begins_front xs ys zs b = (ys ++ b.0, b.1 ∙ append_assoc xs ys b.0)

  pub nothing_more : (xs ys : List I) → ys ≡ xs → ys ≡ xs ++ []
  nothing_more xs ys same = same ∙ sym (append-nil xs)

  pub more_twice : (xs ys zs a b : List I) → ys ≡ xs ++ a → zs ≡ ys ++ b → zs ≡ xs ++ (a ++ b)
  more_twice xs ys zs a b one two = two ∙ (ap (λ (x : List I). x ++ b) one ∙ append_assoc xs a b)

  pub merged_sym : (xs ys zs : List I) → AreMerged xs ys zs → AreMerged ys xs zs
  merged_sym xs ys [] m = (m.1, m.0)
  merged_sym xs ys (z ∷ zs) (inl m) = inr (m.0, m.1, merged_sym m.0 ys zs m.2)
  merged_sym xs ys (z ∷ zs) (inr m) = inl (m.0, m.1, merged_sym xs m.0 zs m.2)

pub rose_none : (a b : ℕ) → a ≤ b → RoseBy 0 a b
rose_none a b le = omega (arith, le)

pub rose_same : (a b : ℕ) → b ≡ a → RoseBy 0 a b
rose_same a b e = omega (arith, e)

pub rose_once : (a b c : ℕ) → a ≤ b → Rose b c → RoseBy 1 a c
rose_once a b c le r = omega (arith, le, r)

pub rose_on : (m n a b c : ℕ) → RoseBy m a b → RoseBy n b c → RoseBy (m + n) a c
rose_on m n a b c r s = omega (arith, r, s)

pub rose_within : (n a b c : ℕ) → RoseBy n a b → b ≤ c → RoseBy n a c
rose_within n a b c r le = omega (arith, r, le)
