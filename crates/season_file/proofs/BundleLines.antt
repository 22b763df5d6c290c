-- Lines of a bundle and the bytes behind them.
use Rattle.std.proofs.Common.{◌≡◌, ◌<◌, ◌+◌, ◌∙◌, sym, subst, add-one, ℕ, zero, suc, Bool, true, false, cond, ◌==◌, List, [], ◌∷◌, length, drop, get_or, refl, ap, arith, eq-eqb}
use Rattle.std.proofs.lemmas.Bool.{ne_eqb}
use Rattle.season_file.specs.Bundle.{body_len, breaks, line_len}
use Rattle.season_file.specs.Titles.{begins_title}

-- The first LF ends the first line.
pub line_len-first : (bytes : List ℕ) (end : ℕ) → end < length bytes → get_or bytes end 0 ≡ 10 → ((k : ℕ) → k < end → get_or bytes k 0 ≡ 10 → ⊥) → end ≡ line_len bytes
line_len-first [] end within here before = absurd (omega arith)
line_len-first (b ∷ bytes) zero within here before = rw (eq-eqb b 10 here) refl
line_len-first (b ∷ bytes) (suc n) within here before =
    rw (ne_eqb b 10 (before zero (omega arith))) (ap suc (line_len-first bytes n (omega arith) here (λ k below. before (suc k) (omega arith))))

-- Bytes without LF are the first line.
pub line_len-whole : (bytes : List ℕ) → ((k : ℕ) → k < length bytes → get_or bytes k 0 ≡ 10 → ⊥) → length bytes ≡ line_len bytes
line_len-whole [] before = refl
line_len-whole (b ∷ bytes) before =
    rw (ne_eqb b 10 (before zero (omega arith))) (ap suc (line_len-whole bytes (λ k below. before (suc k) (omega arith))))

-- A line without LF has no other behind it.
body_len-last : (bytes : List ℕ) → line_len bytes ≡ length bytes → body_len false bytes ≡ length bytes
body_len-last [] e = refl
body_len-last (b ∷ bytes) e = by (λ h. body_len-last bytes h) (b == 10) refl e
  where
    by : (line_len bytes ≡ length bytes → body_len false bytes ≡ length bytes) → (test : Bool) → (b == 10) ≡ test → cond test 0 (suc (line_len bytes)) ≡ suc (length bytes)
        → suc (body_len (b == 10) bytes) ≡ suc (length bytes)
    by next true is h = absurd (omega (arith, h))
    by next false is h = rw is (ap suc (next (omega (arith, h))))

pub drop_one : (n b : ℕ) (bytes : List ℕ) → drop (suc n + 1) (b ∷ bytes) ≡ drop (n + 1) bytes
drop_one n b bytes = ap (λ (k : ℕ). drop k (b ∷ bytes)) (add-one (suc n)) ∙ ap (λ (k : ℕ). drop k bytes) (sym (add-one n))

-- The next line begins after an LF.
body_len-next : (bytes : List ℕ) → line_len bytes < length bytes → body_len false bytes ≡ (line_len bytes + 1) + body_len true (drop (line_len bytes + 1) bytes)
body_len-next [] less = absurd (omega (arith, less))
body_len-next (b ∷ bytes) less = by (λ h. body_len-next bytes h) (b == 10) refl less
  where
    by : (line_len bytes < length bytes → body_len false bytes ≡ (line_len bytes + 1) + body_len true (drop (line_len bytes + 1) bytes)) → (test : Bool) → (b == 10) ≡ test → cond test 0 (suc (line_len bytes)) < suc (length bytes)
        → suc (body_len (b == 10) bytes) ≡ (cond test 0 (suc (line_len bytes)) + 1) + body_len true (drop (cond test 0 (suc (line_len bytes)) + 1) (b ∷ bytes))
    by next true is h = rw is (omega arith)
    by next false is h = rw is (joined (drop_one (line_len bytes) b bytes) (next (omega (arith, h))))
      where
        joined : drop (suc (line_len bytes) + 1) (b ∷ bytes) ≡ drop (line_len bytes + 1) bytes → body_len false bytes ≡ (line_len bytes + 1) + body_len true (drop (line_len bytes + 1) bytes)
            → suc (body_len false bytes) ≡ (suc (line_len bytes) + 1) + body_len true (drop (suc (line_len bytes) + 1) (b ∷ bytes))
        joined same e = omega (arith, e, ap (body_len true) same)

-- Bytes that do not begin with `[` begin inside a body.
body_len-inside : (bytes : List ℕ) → begins_title bytes ≡ false → body_len true bytes ≡ body_len false bytes
body_len-inside [] other = refl
body_len-inside (b ∷ bytes) other = rw other refl

-- A line that is the last one is all of a body.
pub body_len-end : (bytes : List ℕ) (end : ℕ) → begins_title bytes ≡ false → end ≡ line_len bytes → end ≡ length bytes → body_len true bytes ≡ end
body_len-end bytes end other same whole = omega (arith, body_len-inside bytes other, body_len-last bytes (omega (arith, same, whole)), whole)

-- A line that no title begins is of the body.
pub body_len-step : (bytes : List ℕ) (end : ℕ) → begins_title bytes ≡ false → end ≡ line_len bytes → end < length bytes
    → body_len true bytes ≡ (end + 1) + body_len true (drop (end + 1) bytes)
body_len-step bytes end other same less = subst (λ (n : ℕ). body_len true bytes ≡ (n + 1) + body_len true (drop (n + 1) bytes)) (sym same)
    (omega (arith, body_len-inside bytes other, body_len-next bytes (omega (arith, same, less))))

-- The LFs of a text are those of its lines.
breaks-last : (bytes : List ℕ) → line_len bytes ≡ length bytes → breaks bytes ≡ 0
breaks-last [] e = refl
breaks-last (b ∷ bytes) e = by (λ h. breaks-last bytes h) (b == 10) refl e
  where
    by : (line_len bytes ≡ length bytes → breaks bytes ≡ 0) → (test : Bool) → (b == 10) ≡ test → cond test 0 (suc (line_len bytes)) ≡ suc (length bytes) → cond test (suc (breaks bytes)) (breaks bytes) ≡ 0
    by next true is h = absurd (omega (arith, h))
    by next false is h = next (omega (arith, h))

breaks-next : (bytes : List ℕ) → line_len bytes < length bytes → breaks bytes ≡ 1 + breaks (drop (line_len bytes + 1) bytes)
breaks-next [] less = absurd (omega (arith, less))
breaks-next (b ∷ bytes) less = by (λ h. breaks-next bytes h) (b == 10) refl less
  where
    by : (line_len bytes < length bytes → breaks bytes ≡ 1 + breaks (drop (line_len bytes + 1) bytes)) → (test : Bool) → (b == 10) ≡ test → cond test 0 (suc (line_len bytes)) < suc (length bytes)
        → cond test (suc (breaks bytes)) (breaks bytes) ≡ 1 + breaks (drop (cond test 0 (suc (line_len bytes)) + 1) (b ∷ bytes))
    by next true is h = omega arith
    by next false is h = next (omega (arith, h)) ∙ ap (λ (l : List ℕ). 1 + breaks l) (sym (drop_one (line_len bytes) b bytes))

-- A line that is the last one has no LF, and any other one has one.
pub breaks-end : (bytes : List ℕ) (end : ℕ) → end ≡ line_len bytes → end ≡ length bytes → breaks bytes ≡ 0
breaks-end bytes end same whole = breaks-last bytes (omega (arith, same, whole))

pub breaks-step : (bytes : List ℕ) (end : ℕ) → end ≡ line_len bytes → end < length bytes → breaks bytes ≡ 1 + breaks (drop (end + 1) bytes)
breaks-step bytes end same less = subst (λ (n : ℕ). breaks bytes ≡ 1 + breaks (drop (n + 1) bytes)) (sym same) (breaks-next bytes (omega (arith, same, less)))
