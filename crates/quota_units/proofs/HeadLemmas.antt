-- Where a bundle begins, and where a wrong line is before it.
use Rattle.std.proofs.Common.{◌≡◌, ◌<◌, ◌≤◌, ◌+◌, ◌==◌, ℕ, zero, suc, Bool, true, false, cond, List, [], ◌∷◌, length, take, drop, Result, Ok, Err, refl, sym, ap, subst, ◌∙◌, arith}
use Rattle.std.specs.Prelude.{◌&&◌, bytes_eq, codes}
use Rattle.season_file.specs.Bundle.{after_line, fault_line, line_len, section, skip_empty, title}
use Rattle.section_rows.specs.Steps.{after}
use Rattle.section_rows.proofs.StepsLemmas.{after_ok}
use Rattle.season_file.proofs.BundleLines.{drop_one}
use Rattle.quota_units.specs.Input.{Input, before_bundle, behind, closed_by, split_head, input_of, with_line}
use Rattle.quota_units.specs.declared.fault.UnitFault.{UnitFault}
use Rattle.quota_units.specs.declared.fault.UnitFault.TheVariants.{BadFirstLine, Section}

-- bytes that do not begin a bundle
abbrev pub begins : List ℕ → Bool
begins bytes = bytes_eq (take 13 bytes) (codes "office bundle")

before-inside : (bytes : List ℕ) → begins bytes ≡ false → before_bundle true bytes ≡ before_bundle false bytes
before-inside [] e = refl
before-inside (b ∷ bytes) e = rw e refl

-- A line without LF has no other behind it.
before-last : (bytes : List ℕ) → line_len bytes ≡ length bytes → before_bundle false bytes ≡ length bytes
before-last [] e = refl
before-last (b ∷ bytes) e = by (λ h. before-last bytes h) (b == 10) refl e
  where
    by : (line_len bytes ≡ length bytes → before_bundle false bytes ≡ length bytes) → (test : Bool) → (b == 10) ≡ test → cond test 0 (suc (line_len bytes)) ≡ suc (length bytes) → suc (before_bundle (b == 10) bytes) ≡ suc (length bytes)
    by next true is h = absurd (omega (arith, h))
    by next false is h = rw is (ap suc (next (omega (arith, h))))

-- The next line begins after an LF.
before-next : (bytes : List ℕ) → line_len bytes < length bytes → before_bundle false bytes ≡ (line_len bytes + 1) + before_bundle true (drop (line_len bytes + 1) bytes)
before-next [] less = absurd (omega (arith, less))
before-next (b ∷ bytes) less = by (λ h. before-next bytes h) (b == 10) refl less
  where
    by : (line_len bytes < length bytes → before_bundle false bytes ≡ (line_len bytes + 1) + before_bundle true (drop (line_len bytes + 1) bytes)) → (test : Bool) → (b == 10) ≡ test → cond test 0 (suc (line_len bytes)) < suc (length bytes)
        → suc (before_bundle (b == 10) bytes) ≡ (cond test 0 (suc (line_len bytes)) + 1) + before_bundle true (drop (cond test 0 (suc (line_len bytes)) + 1) (b ∷ bytes))
    by next true is h = rw is (omega arith)
    by next false is h = rw is (joined (drop_one (line_len bytes) b bytes) (next (omega (arith, h))))
      where
        joined : drop (suc (line_len bytes) + 1) (b ∷ bytes) ≡ drop (line_len bytes + 1) bytes → before_bundle false bytes ≡ (line_len bytes + 1) + before_bundle true (drop (line_len bytes + 1) bytes)
            → suc (before_bundle false bytes) ≡ (suc (line_len bytes) + 1) + before_bundle true (drop (suc (line_len bytes) + 1) (b ∷ bytes))
        joined same e = omega (arith, e, ap (before_bundle true) same)

-- A line that is the last one comes before no bundle.
pub before-end : (bytes : List ℕ) (end : ℕ) → begins bytes ≡ false → end ≡ line_len bytes → end ≡ length bytes → before_bundle true bytes ≡ end
before-end bytes end other same whole = omega (arith, before-inside bytes other, before-last bytes (omega (arith, same, whole)), whole)

-- A line that begins no bundle comes before it.
pub before-step : (bytes : List ℕ) (end : ℕ) → begins bytes ≡ false → end ≡ line_len bytes → end < length bytes
    → before_bundle true bytes ≡ (end + 1) + before_bundle true (drop (end + 1) bytes)
before-step bytes end other same less = subst (λ (n : ℕ). before_bundle true bytes ≡ (n + 1) + before_bundle true (drop (n + 1) bytes)) (sym same)
    (omega (arith, before-inside bytes other, before-next bytes (omega (arith, same, less))))

-- ---- what is left is not longer

drop-le : (n : ℕ) (l : List ℕ) → length (drop n l) ≤ length l
drop-le zero l = omega arith
drop-le (suc n) [] = omega arith
drop-le (suc n) (x ∷ l) = omega (arith, drop-le n l)

pub after-le : (bytes : List ℕ) → length (after_line bytes) ≤ length bytes
after-le bytes = drop-le (line_len bytes + 1) bytes

pub skip-le : (bytes : List ℕ) → length (skip_empty bytes) ≤ length bytes
skip-le [] = omega arith
skip-le (a ∷ []) = by (a == 10) (a == 13)
  where
    by : (lf cr : Bool) → length (cond lf [] (cond cr [] (a ∷ []))) ≤ 1
    by true cr = omega arith
    by false true = omega arith
    by false false = omega arith
skip-le (a ∷ b ∷ bytes) = by (skip-le (b ∷ bytes)) (skip-le bytes) (a == 10) (a == 13 && b == 10)
  where
    by : length (skip_empty (b ∷ bytes)) ≤ suc (length bytes) → length (skip_empty bytes) ≤ length bytes → (lf crlf : Bool)
        → length (cond lf (skip_empty (b ∷ bytes)) (cond crlf (skip_empty bytes) (a ∷ b ∷ bytes))) ≤ suc (suc (length bytes))
    by next far true crlf = omega (arith, next)
    by next far false true = omega (arith, far)
    by next far false false = omega arith

-- ---- the input

-- An input is cut so, by its pieces.
pub input-made : (text rest front back skipped : List ℕ) (n : ℕ) (r : Result Input (List ℕ)) → bytes_eq (title text) (codes "office units 1") ≡ true → rest ≡ after_line text → n ≡ before_bundle true rest
    → front ≡ take n rest → back ≡ drop n rest → skipped ≡ skip_empty front → split_head back skipped ≡ r → input_of text ≡ with_line text r
input-made text rest front back skipped n r titled e1 e2 e3 e4 e5 cut = ap (λ (b : Bool). cond b (with_line text (parts (after_line text))) (Err BadFirstLine)) titled ∙ ap (λ (q : Result Input (List ℕ)). with_line text q) same
  where
    parts : List ℕ → Result Input (List ℕ)
    parts l = split_head (drop (before_bundle true l) l) (skip_empty (take (before_bundle true l) l))

    at : (m : ℕ) → n ≡ m → split_head (drop m rest) (skip_empty (take m rest)) ≡ r
    at m is =
        ap (λ (k : ℕ). split_head (drop k rest) (skip_empty (take k rest))) (sym is) ∙ ap (λ (l : List ℕ). split_head l (skip_empty (take n rest))) (sym e4)
        ∙ ap (λ (l : List ℕ). split_head back (skip_empty l)) (sym e3) ∙ ap (λ (l : List ℕ). split_head back l) (sym e5) ∙ cut

    same : parts (after_line text) ≡ r
    same = ap parts (sym e1) ∙ at (before_bundle true rest) e2

pub line-fault : (text : List ℕ) (line : ℕ) (rest : List ℕ) → line ≡ fault_line text rest → with_line text (Err rest) ≡ Err (Section line)
line-fault text line rest e = ap section_fault (sym e)
  where
    section_fault : ℕ → Result Input UnitFault
    section_fault n = Err (Section n)

closed-same : (rest bundle : List ℕ) (made input : Input) → closed_by rest bundle made ≡ Ok input → made ≡ input
closed-same [] [] made input e = absurd cc
closed-same [] (b ∷ bundle) made input e = cc e
closed-same (x ∷ rest) bundle made input e = absurd cc

cut-bundle : (bundle text : List ℕ) (input : Input) → split_head bundle text ≡ Ok input → input.bundle ≡ bundle
cut-bundle bundle text input e =
    let (units, e1, h1) = after_ok (behind bundle (section (codes "[units]") text)) (λ units. after (behind bundle (section (codes "[states]") units.1)) (λ states. closed_by states.1 bundle (record { units = units.0; states = states.0; bundle = bundle }))) input e in
    let (states, e2, h2) = after_ok (behind bundle (section (codes "[states]") units.1)) (λ states. closed_by states.1 bundle (record { units = units.0; states = states.0; bundle = bundle })) input h1 in
    let same = closed-same states.1 bundle (record { units = units.0; states = states.0; bundle = bundle }) input h2 in
    ap (λ (i : Input). i.bundle) (sym same)

with-line-ok : (text : List ℕ) (r : Result Input (List ℕ)) (input : Input) → with_line text r ≡ Ok input → r ≡ Ok input
with-line-ok text (Ok made) input e = cc e
with-line-ok text (Err rest) input e = absurd cc

-- The bundle is no longer than the input.
pub input-short : (text : List ℕ) (input : Input) → input_of text ≡ Ok input → length input.bundle ≤ length text
input-short text input e = by (bytes_eq (title text) (codes "office units 1")) e
  where
    rest : List ℕ
    rest = after_line text

    bundle : List ℕ
    bundle = drop (before_bundle true rest) rest

    by : (b : Bool) → cond b (with_line text (split_head bundle (skip_empty (take (before_bundle true rest) rest)))) (Err BadFirstLine) ≡ Ok input → length input.bundle ≤ length text
    by true h =
        let is = cut-bundle bundle (skip_empty (take (before_bundle true rest) rest)) input (with-line-ok text _ input h) in
        omega (arith, ap length is, drop-le (before_bundle true rest) rest, after-le text)
    by false h = absurd cc
