-- The lines so far give the cutoffs of the sets of traits so far.
use Rattle.std.proofs.Common.{◌≡◌, ◌≤◌, ◌<◌, ◌+◌, ℕ, zero, suc, true, false, List, [], ◌∷◌, ◌++◌, arith, sym, ap, subst, inl, inr}
use Rattle.std.specs.List.{AllByRecursion}
use Rattle.std.proofs.lemmas.Bool.{cases_Bool, cases_lt}
use Rattle.office_base.specs.Person.{IsTraitSet}
use Rattle.office_base.specs.declared.person.TraitSet.{TraitSet}
use Rattle.office_base.proofs.Lists.{all_push, all_weaker}
use Rattle.placements.specs.Demand.{is_within}
use Rattle.placements.proofs.Hall.{has_within}
use Rattle.merit_choice.specs.State.{IsStepKept, StepKept}
use Rattle.step_cutoffs.specs.Cutoff.{IsCutoff, IsNoWider}
use Rattle.step_cutoffs.specs.Laws.{CutoffExists, MoreTraitsWiden}
use Rattle.step_cutoffs.specs.declared.cutoff.Cutoff.{Cutoff}
use Rattle.cutoff_lines.specs.Laws.{LinesExist}
use Rattle.cutoff_lines.specs.Lines.{AreFew, is_wider, read_lines}
use Rattle.cutoff_lines.specs.declared.lines.CutoffLine.{CutoffLine}
use Rattle.cutoff_lines.proofs.Reading.{not_within, read_last, read_most, read_other, same_wide, still_few}

-- ---- the lines so far

pub record IsReadUpTo (kept : StepKept) (n : ℕ) (lines : List CutoffLine) : Type 0 where
  pub below : AllByRecursion (λ line. line.traits.0 < n) lines
  pub sound : AllByRecursion (λ line. IsTraitSet line.traits × IsCutoff kept line.traits line.cutoff) lines
  pub reads : (traits : TraitSet) → traits.0 < n → IsCutoff kept traits (read_lines traits lines)
  pub few : AreFew lines

-- a set is the one of its number
same_set : (traits : TraitSet) (n : ℕ) → traits.0 ≡ n → traits ≡ record { 0 = n }
same_set traits n same = ap (λ (m : ℕ). let set : TraitSet = record { 0 = m } in set) same

-- the sets up to the next one are those before and that one
next_reads : (kept : StepKept) (n : ℕ) (lines : List CutoffLine) → ((traits : TraitSet) → traits.0 < n → IsCutoff kept traits (read_lines traits lines))
    → IsCutoff kept (record { 0 = n }) (read_lines (record { 0 = n }) lines) → (traits : TraitSet) → traits.0 < n + 1 → IsCutoff kept traits (read_lines traits lines)
next_reads kept n lines before here traits less = elim (cases_lt traits.0 n) [
  | inl earlier ↦ before traits earlier
  | inr most ↦ subst (λ (set : TraitSet). IsCutoff kept set (read_lines set lines)) (sym (same_set traits n (omega (arith, less, most)))) here
]

one_further : (lines : List CutoffLine) (n : ℕ) → AllByRecursion (λ line. line.traits.0 < n) lines → AllByRecursion (λ line. line.traits.0 < n + 1) lines
one_further lines n below = all_weaker (λ line. line.traits.0 < n) (λ line. line.traits.0 < n + 1) (λ line less. omega (arith, less)) lines below

pub line_pushed : (kept : StepKept) (n : ℕ) (cutoff : Cutoff) (lines : List CutoffLine) → n < 64 → IsReadUpTo kept n lines → IsCutoff kept (record { 0 = n }) cutoff
    → is_wider cutoff (read_lines (record { 0 = n }) lines) ≡ true → IsReadUpTo kept (n + 1) (lines ++ record { traits = record { 0 = n }; cutoff = cutoff } ∷ [])
line_pushed kept n cutoff lines inside read cut wide =
    let set : TraitSet = record { 0 = n } in
    let line : CutoffLine = record { traits = set; cutoff = cutoff } in
    record {
      below = all_push (λ one. one.traits.0 < n + 1) lines line (one_further lines n read.below) (omega arith);
      sound = all_push (λ one. IsTraitSet one.traits × IsCutoff kept one.traits one.cutoff) lines line read.sound (inside, cut);
      reads = next_reads kept n (lines ++ line ∷ [])
          (λ traits less. subst (IsCutoff kept traits) (sym (read_other traits lines line (not_within traits.0 n less))) (read.reads traits less))
          (subst (IsCutoff kept set) (sym (read_last lines line wide)) cut);
      few = still_few lines line read.few inside read.below wide;
    }

pub line_skipped : MoreTraitsWiden → (kept : StepKept) (n : ℕ) (cutoff : Cutoff) (lines : List CutoffLine) → IsStepKept kept → n < 64 → IsReadUpTo kept n lines
    → IsCutoff kept (record { 0 = n }) cutoff → is_wider cutoff (read_lines (record { 0 = n }) lines) ≡ false → IsReadUpTo kept (n + 1) lines
line_skipped widen kept n cutoff lines ok inside read cut narrow =
    let set : TraitSet = record { 0 = n } in
    let most = read_most set lines cutoff (all_weaker (λ (line : CutoffLine). IsTraitSet line.traits × IsCutoff kept line.traits line.cutoff)
    (λ (line : CutoffLine). is_within line.traits set ≡ true → IsNoWider line.cutoff cutoff)
    (λ line sound within. (widen kept line.traits set line.cutoff cutoff ok sound.0 inside (λ t has. has_within line.traits set t within has) sound.1 cut).0) lines read.sound) in
    let same = same_wide (read_lines set lines) cutoff most narrow in
    record {
      below = one_further lines n read.below;
      sound = read.sound;
      reads = next_reads kept n lines read.reads (subst (IsCutoff kept set) (sym same) cut);
      few = read.few;
    }

-- ---- all sets

-- the lines of the sets up to each number
lines_up_to : CutoffExists → MoreTraitsWiden → (kept : StepKept) → IsStepKept kept → (n : ℕ) → n ≤ 64 → (lines : List CutoffLine) × IsReadUpTo kept n lines
lines_up_to exists widen kept ok zero within = (
  [],
  record {
    below = tt;
    sound = tt;
    reads = λ traits less. absurd (omega (arith, less));
    few = record { sets = tt; wide = tt; order = tt };
  },
)
lines_up_to exists widen kept ok (suc n) within =
    let before = lines_up_to exists widen kept ok n (omega (arith, within)) in
    let set : TraitSet = record { 0 = n } in
    let inside : n < 64 = omega (arith, within) in
    let cut = exists kept set ok inside in
    elim (cases_Bool (is_wider cut.0 (read_lines set before.0))) [
      | inl wide ↦ (
        before.0 ++ record { traits = set; cutoff = cut.0 } ∷ [],
        subst (λ (m : ℕ). IsReadUpTo kept m (before.0 ++ record { traits = set; cutoff = cut.0 } ∷ [])) (omega arith) (line_pushed kept n cut.0 before.0 inside before.1 cut.1 wide),
      )
      | inr narrow ↦ (before.0, subst (λ (m : ℕ). IsReadUpTo kept m before.0) (omega arith) (line_skipped widen kept n cut.0 before.0 ok inside before.1 cut.1 narrow))
    ]

pub lines_exist : CutoffExists → MoreTraitsWiden → LinesExist
lines_exist exists widen kept ok =
    let all = lines_up_to exists widen kept ok 64 (omega arith) in
    (all.0, all.1.reads, all.1.few)
