-- The lines of a step: few sets of traits with their cutoffs, from which the cutoff of each set of traits is read.
use Rattle.std.specs.Prelude.{◌≡◌, ◌<◌, List, [], ◌∷◌, Bool, true, false, nat_lt, if◌then◌else◌}
use Rattle.std.specs.List.{AllByRecursion}
use Rattle.office_base.specs.Lists.{Pairwise}
use Rattle.office_base.specs.Person.{IsTraitSet}
use Rattle.office_base.specs.declared.person.TraitSet.{TraitSet}
use Rattle.placements.specs.Demand.{is_within}
use Rattle.merit_choice.specs.State.{StepKept}
use Rattle.step_cutoffs.specs.Cutoff.{IsCutoff}
use Rattle.step_cutoffs.specs.declared.cutoff.Cutoff.{Cutoff}
use Rattle.step_cutoffs.specs.declared.cutoff.Cutoff.TheVariants.{Nobody, UpTo, Anybody}
use Rattle.cutoff_lines.specs.declared.lines.CutoffLine.{CutoffLine}

-- the first cutoff admits more places than the second
abbrev pub is_wider : Cutoff → Cutoff → Bool
is_wider Nobody other = false
is_wider (UpTo last) Nobody = true
is_wider (UpTo last) (UpTo other) = nat_lt other last
is_wider (UpTo last) Anybody = false
is_wider Anybody Nobody = true
is_wider Anybody (UpTo other) = true
is_wider Anybody Anybody = false

-- the wider one of two
abbrev pub wider_of : Cutoff → Cutoff → Cutoff
wider_of first second = if is_wider second first then second else first

-- the cutoff of a line for those who hold all its traits, and nobody otherwise
abbrev pub cutoff_by : TraitSet → CutoffLine → Cutoff
cutoff_by traits line = if is_within line.traits traits then line.cutoff else Nobody

-- how lines are read: of those whose traits are all held, the widest cutoff
abbrev pub read_lines : TraitSet → List CutoffLine → Cutoff
read_lines traits [] = Nobody
read_lines traits (line ∷ lines) = wider_of (cutoff_by traits line) (read_lines traits lines)

-- the lines give the cutoff of each set of traits
abbrev pub AreLinesOf : StepKept → List CutoffLine → Type 0
AreLinesOf kept lines = (traits : TraitSet) → IsTraitSet traits → IsCutoff kept traits (read_lines traits lines)

-- The lines are in the order of their sets. Each is wider than nothing, and than each line before it whose traits are all among its own.
pub record AreFew (lines : List CutoffLine) : Type 0 where
  pub sets : AllByRecursion (λ line. IsTraitSet line.traits) lines
  pub wide : AllByRecursion (λ line. is_wider line.cutoff Nobody ≡ true) lines
  pub order : Pairwise (λ first later. (first.traits.0 < later.traits.0) × (is_within first.traits later.traits ≡ true → is_wider later.cutoff first.cutoff ≡ true)) lines
