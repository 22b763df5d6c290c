-- Lines and how they are read.
use Rattle.std.proofs.Common.{◌≡◌, ◌∙◌, ◌<◌, ℕ, true, false, List, [], ◌∷◌, ◌++◌, refl, sym, ap, subst, inl, inr, arith}
use Rattle.std.specs.Prelude.{nat_lt}
use Rattle.std.specs.List.{AllByRecursion}
use Rattle.std.proofs.lemmas.Bool.{both_ways, cases_Bool, cases_lt, cond-false, cond-true, false_from_ne_true, lt-ltb, ltb-true}
use Rattle.std.proofs.lemmas.Nat.{and_le_r}
use Rattle.std.proofs.lemmas.Bool.{eqb-true}
use Rattle.office_base.specs.Lists.{Pairwise}
use Rattle.office_base.specs.Person.{IsTraitSet}
use Rattle.office_base.specs.declared.person.TraitSet.{TraitSet}
use Rattle.office_base.proofs.Lists.{all_push}
use Rattle.placements.specs.Demand.{is_within}
use Rattle.placements.proofs.Outside.{within_itself}
use Rattle.step_cutoffs.specs.Cutoff.{IsNoWider}
use Rattle.step_cutoffs.specs.declared.cutoff.Cutoff.{Cutoff}
use Rattle.step_cutoffs.specs.declared.cutoff.Cutoff.TheVariants.{Nobody, UpTo, Anybody}
use Rattle.cutoff_lines.specs.Lines.{AreFew, cutoff_by, is_wider, read_lines, wider_of}
use Rattle.cutoff_lines.specs.declared.lines.CutoffLine.{CutoffLine}

-- ---- cutoffs in order

-- wider than one that is wider than a third
wider_again : (a b c : Cutoff) → is_wider a b ≡ true → is_wider b c ≡ true → is_wider a c ≡ true
wider_again Nobody b c first second = absurd (both_ways false refl first)
wider_again (UpTo n) Nobody c first second = absurd (both_ways false refl second)
wider_again (UpTo n) (UpTo m) Nobody first second = refl
wider_again (UpTo n) (UpTo m) (UpTo k) first second =
    (let one = ltb-true m n first in let two = ltb-true k m second in lt-ltb k n (omega (arith, one, two)))
wider_again (UpTo n) (UpTo m) Anybody first second = absurd (both_ways false refl second)
wider_again (UpTo n) Anybody c first second = absurd (both_ways false refl first)
wider_again Anybody Nobody c first second = absurd (both_ways false refl second)
wider_again Anybody (UpTo m) Nobody first second = refl
wider_again Anybody (UpTo m) (UpTo k) first second = refl
wider_again Anybody (UpTo m) Anybody first second = absurd (both_ways false refl second)
wider_again Anybody Anybody c first second = absurd (both_ways false refl first)

-- wider than one that is not narrower than a third
wider_over : (a b c : Cutoff) → is_wider a b ≡ true → is_wider c b ≡ false → is_wider a c ≡ true
wider_over Nobody b c first second = absurd (both_ways false refl first)
wider_over (UpTo n) Nobody Nobody first second = refl
wider_over (UpTo n) Nobody (UpTo k) first second = absurd (both_ways true second refl)
wider_over (UpTo n) Nobody Anybody first second = absurd (both_ways true second refl)
wider_over (UpTo n) (UpTo m) Nobody first second = refl
wider_over (UpTo n) (UpTo m) (UpTo k) first second = elim (cases_lt m k) [
  | inl less ↦ absurd (both_ways (nat_lt m k) second (lt-ltb m k less))
  | inr most ↦ (let one = ltb-true m n first in lt-ltb k n (omega (arith, one, most)))
]
wider_over (UpTo n) (UpTo m) Anybody first second = absurd (both_ways true second refl)
wider_over (UpTo n) Anybody c first second = absurd (both_ways false refl first)
wider_over Anybody Nobody Nobody first second = refl
wider_over Anybody Nobody (UpTo k) first second = absurd (both_ways true second refl)
wider_over Anybody Nobody Anybody first second = absurd (both_ways true second refl)
wider_over Anybody (UpTo m) Nobody first second = refl
wider_over Anybody (UpTo m) (UpTo k) first second = refl
wider_over Anybody (UpTo m) Anybody first second = absurd (both_ways true second refl)
wider_over Anybody Anybody c first second = absurd (both_ways false refl first)

-- wider than the wider one of two is wider than both
wider_both : (c a b : Cutoff) → is_wider c (wider_of a b) ≡ true → (is_wider c a ≡ true) × (is_wider c b ≡ true)
wider_both c a b wide = elim (cases_Bool (is_wider b a)) [
  | inl second ↦ let over = sym (ap (is_wider c) (cond-true (is_wider b a) b a second)) ∙ wide in (wider_again c b a over second, over)
  | inr first ↦ let over = sym (ap (is_wider c) (cond-false (is_wider b a) b a first)) ∙ wide in (over, wider_over c a b over first)
]

-- wider than each of two is wider than the wider one
pub wider_than_both : (c a b : Cutoff) → is_wider c a ≡ true → is_wider c b ≡ true → is_wider c (wider_of a b) ≡ true
wider_than_both c a b one two = elim (cases_Bool (is_wider b a)) [
  | inl second ↦ ap (is_wider c) (cond-true (is_wider b a) b a second) ∙ two
  | inr first ↦ ap (is_wider c) (cond-false (is_wider b a) b a first) ∙ one
]

-- what is wider than another is wider than nobody
wider_nobody : (c a : Cutoff) → is_wider c a ≡ true → is_wider c Nobody ≡ true
wider_nobody Nobody a wide = absurd (both_ways false refl wide)
wider_nobody (UpTo n) a wide = refl
wider_nobody Anybody a wide = refl

-- one that is no narrower, and not wider, is the same
pub same_wide : (a b : Cutoff) → IsNoWider a b → is_wider b a ≡ false → a ≡ b
same_wide Nobody Nobody most not = refl
same_wide Nobody (UpTo n) most not = absurd (both_ways true not refl)
same_wide Nobody Anybody most not = absurd (both_ways true not refl)
same_wide (UpTo n) Nobody most not = absurd most
same_wide (UpTo n) (UpTo m) most not = elim (cases_lt n m) [
  | inl less ↦ absurd (both_ways (nat_lt n m) not (lt-ltb n m less))
  | inr more ↦ ap UpTo (omega (arith, most, more))
]
same_wide (UpTo n) Anybody most not = absurd (both_ways true not refl)
same_wide Anybody Nobody most not = absurd most
same_wide Anybody (UpTo m) most not = absurd most
same_wide Anybody Anybody most not = refl

-- the wider one of two that are no wider than a third is not either
most_of : (a b c : Cutoff) → IsNoWider a c → IsNoWider b c → IsNoWider (wider_of a b) c
most_of a b c first second = elim (cases_Bool (is_wider b a)) [
  | inl wide ↦ subst (λ (one : Cutoff). IsNoWider one c) (sym (cond-true (is_wider b a) b a wide)) second
  | inr narrow ↦ subst (λ (one : Cutoff). IsNoWider one c) (sym (cond-false (is_wider b a) b a narrow)) first
]

-- ---- lines read

-- a line for more traits than these says nothing of them
pub read_other : (traits : TraitSet) (lines : List CutoffLine) (line : CutoffLine) → is_within line.traits traits ≡ false → read_lines traits (lines ++ line ∷ []) ≡ read_lines traits lines
read_other traits [] line out = ap (λ (c : Cutoff). wider_of c Nobody) (cond-false (is_within line.traits traits) line.cutoff Nobody out)
read_other traits (first ∷ lines) line out = ap (wider_of (cutoff_by traits first)) (read_other traits lines line out)

-- a line at the end, for just these traits, that is wider than what the others give, is read
pub read_last : (lines : List CutoffLine) (line : CutoffLine) → is_wider line.cutoff (read_lines line.traits lines) ≡ true → read_lines line.traits (lines ++ line ∷ []) ≡ line.cutoff
read_last [] line wide = cond-true (is_within line.traits line.traits) line.cutoff Nobody (within_itself line.traits)
read_last (first ∷ lines) line wide =
    let both = wider_both line.cutoff (cutoff_by line.traits first) (read_lines line.traits lines) wide in
    ap (wider_of (cutoff_by line.traits first)) (read_last lines line both.1)
    ∙ cond-true (is_wider line.cutoff (cutoff_by line.traits first)) line.cutoff (cutoff_by line.traits first) both.0

-- what is wider than what is read is wider than each line that is read
wider_each : (traits : TraitSet) (lines : List CutoffLine) (cutoff : Cutoff) → is_wider cutoff (read_lines traits lines) ≡ true
    → AllByRecursion (λ line. is_within line.traits traits ≡ true → is_wider cutoff line.cutoff ≡ true) lines
wider_each traits [] cutoff wide = tt
wider_each traits (first ∷ lines) cutoff wide =
    let both = wider_both cutoff (cutoff_by traits first) (read_lines traits lines) wide in (
      (λ inside. sym (ap (is_wider cutoff) (cond-true (is_within first.traits traits) first.cutoff Nobody inside)) ∙ both.0),
      wider_each traits lines cutoff both.1,
    )

-- what is wider than nobody, and than each line that is read, is wider than what is read
pub wider_read : (traits : TraitSet) (lines : List CutoffLine) (cutoff : Cutoff) → is_wider cutoff Nobody ≡ true
    → AllByRecursion (λ line. is_within line.traits traits ≡ true → is_wider cutoff line.cutoff ≡ true) lines → is_wider cutoff (read_lines traits lines) ≡ true
wider_read traits [] cutoff some each = some
wider_read traits (first ∷ lines) cutoff some each = wider_than_both cutoff (cutoff_by traits first) (read_lines traits lines) by_first (wider_read traits lines cutoff some each.1)
  where
    by_first : is_wider cutoff (cutoff_by traits first) ≡ true
    by_first = elim (cases_Bool (is_within first.traits traits)) [
      | inl inside ↦ ap (is_wider cutoff) (cond-true (is_within first.traits traits) first.cutoff Nobody inside) ∙ each.0 inside
      | inr out ↦ ap (is_wider cutoff) (cond-false (is_within first.traits traits) first.cutoff Nobody out) ∙ some
    ]

-- what is read is no wider than a cutoff than which no line that is read is wider
pub read_most : (traits : TraitSet) (lines : List CutoffLine) (cutoff : Cutoff) → AllByRecursion (λ line. is_within line.traits traits ≡ true → IsNoWider line.cutoff cutoff) lines
    → IsNoWider (read_lines traits lines) cutoff
read_most traits [] cutoff most = tt
read_most traits (first ∷ lines) cutoff most = most_of (cutoff_by traits first) (read_lines traits lines) cutoff by_first (read_most traits lines cutoff most.1)
  where
    by_first : IsNoWider (cutoff_by traits first) cutoff
    by_first = elim (cases_Bool (is_within first.traits traits)) [
      | inl inside ↦ subst (λ (one : Cutoff). IsNoWider one cutoff) (sym (cond-true (is_within first.traits traits) first.cutoff Nobody inside)) (most.0 inside)
      | inr out ↦ subst (λ (one : Cutoff). IsNoWider one cutoff) (sym (cond-false (is_within first.traits traits) first.cutoff Nobody out)) tt
    ]

-- a set of a greater number is in no smaller one
pub not_within : (m n : ℕ) → m < n → is_within (record { 0 = n }) (record { 0 = m }) ≡ false
not_within m n less = false_from_ne_true _ (λ inside. let same = eqb-true _ _ inside in let most = and_le_r n m in omega (arith, less, same, most))

-- ---- few lines

-- a line comes after all others
line_last : (R : CutoffLine → CutoffLine → Type 0) (lines : List CutoffLine) (line : CutoffLine) → Pairwise R lines → AllByRecursion (λ other. R other line) lines
    → Pairwise R (lines ++ line ∷ [])
line_last R [] line pairs all = (tt, tt)
line_last R (first ∷ lines) line pairs all = (all_push (R first) lines line pairs.0 all.0, line_last R lines line pairs.1 all.1)

both_of : {X : Type 0} (P Q : X → Type 0) (xs : List X) → AllByRecursion P xs → AllByRecursion Q xs → AllByRecursion (λ x. P x × Q x) xs
both_of P Q [] first second = tt
both_of P Q (x ∷ xs) first second = ((first.0, second.0), both_of P Q xs first.1 second.1)

pub still_few : (lines : List CutoffLine) (line : CutoffLine) → AreFew lines → IsTraitSet line.traits → AllByRecursion (λ other. other.traits.0 < line.traits.0) lines
    → is_wider line.cutoff (read_lines line.traits lines) ≡ true → AreFew (lines ++ line ∷ [])
still_few lines line few small below wide = record {
  sets = all_push (λ one. IsTraitSet one.traits) lines line few.sets small;
  wide = all_push (λ one. is_wider one.cutoff Nobody ≡ true) lines line few.wide (wider_nobody line.cutoff (read_lines line.traits lines) wide);
  order = line_last _ lines line few.order
      (both_of (λ other. other.traits.0 < line.traits.0) (λ other. is_within other.traits line.traits ≡ true → is_wider line.cutoff other.cutoff ≡ true) lines below (wider_each line.traits lines line.cutoff wide));
}
