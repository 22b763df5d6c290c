-- The lines of a step are fixed by what is read from them.
use Rattle.std.proofs.Common.{◌≡◌, ◌∙◌, ◌<◌, ℕ, true, false, List, [], ◌∷◌, ◌++◌, refl, sym, ap, subst, inl, inr, arith}
use Rattle.std.specs.List.{AllByRecursion}
use Rattle.std.proofs.Math.Seq.{append_snoc}
use Rattle.std.proofs.lemmas.Bool.{both_ways, cases_lt, ltb-true}
use Rattle.std.proofs.lemmas.List.{append-nil}
use Rattle.office_base.specs.Lists.{Pairwise}
use Rattle.office_base.specs.Person.{IsTraitSet}
use Rattle.office_base.specs.declared.person.TraitSet.{TraitSet}
use Rattle.office_base.proofs.Lists.{all_middle, all_weaker}
use Rattle.placements.specs.Demand.{is_within}
use Rattle.step_cutoffs.specs.Laws.{OneCutoff}
use Rattle.step_cutoffs.specs.declared.cutoff.Cutoff.{Cutoff}
use Rattle.step_cutoffs.specs.declared.cutoff.Cutoff.TheVariants.{Nobody, UpTo, Anybody}
use Rattle.cutoff_lines.specs.Laws.{OneLines}
use Rattle.cutoff_lines.specs.Lines.{AreFew, is_wider, read_lines}
use Rattle.cutoff_lines.specs.declared.lines.CutoffLine.{CutoffLine}
use Rattle.cutoff_lines.proofs.Reading.{not_within, read_last, read_other, wider_read}

-- of elements in a relation to all later ones, those before one and those behind it
ahead_of : {X : Type 0} (R : X → X → Type 0) (front : List X) (x : X) (back : List X) → Pairwise R (front ++ x ∷ back) → AllByRecursion (λ other. R other x) front
ahead_of R [] x back pairs = tt
ahead_of R (y ∷ front) x back pairs = (all_middle (R y) front x back pairs.0, ahead_of R front x back pairs.1)

behind : {X : Type 0} (R : X → X → Type 0) (front : List X) (x : X) (back : List X) → Pairwise R (front ++ x ∷ back) → AllByRecursion (R x) back
behind R [] x back pairs = pairs.0
behind R (y ∷ front) x back pairs = behind R front x back pairs.1

-- a cutoff is not wider than itself
not_wider : (a : Cutoff) → is_wider a a ≡ true → ⊥
not_wider Nobody wide = both_ways false refl wide
not_wider (UpTo n) wide = (let less = ltb-true n n wide in omega (arith, less))
not_wider Anybody wide = both_ways false refl wide

-- lines for sets of greater numbers say nothing of these traits
none_read : (traits : TraitSet) (front back : List CutoffLine) → AllByRecursion (λ line. traits.0 < line.traits.0) back → read_lines traits (front ++ back) ≡ read_lines traits front
none_read traits front [] later = ap (read_lines traits) (append-nil front)
none_read traits front (line ∷ back) later =
    ap (read_lines traits) (sym (append_snoc front line back)) ∙ (none_read traits (front ++ line ∷ []) back later.1 ∙ read_other traits front line (not_within traits.0 line.traits.0 later.0))

-- one of few lines
module _ (front : List CutoffLine) (line : CutoffLine) (back : List CutoffLine) (few : AreFew (front ++ line ∷ back)) where
  pub later : AllByRecursion (λ other. line.traits.0 < other.traits.0) back
  later = all_weaker _ (λ other. line.traits.0 < other.traits.0) (λ other pair. pair.0) back (behind _ front line back few.order)

  pub wide : is_wider line.cutoff (read_lines line.traits front) ≡ true
  wide = wider_read line.traits front line.cutoff (all_middle _ front line back few.wide)
      (all_weaker _ (λ other. is_within other.traits line.traits ≡ true → is_wider line.cutoff other.cutoff ≡ true) (λ other pair. pair.1) front (ahead_of _ front line back few.order))

  -- its cutoff is read for its own traits
  pub read_here : read_lines line.traits (front ++ line ∷ back) ≡ line.cutoff
  read_here = ap (read_lines line.traits) (sym (append_snoc front line back)) ∙ (none_read line.traits (front ++ line ∷ []) back later ∙ read_last front line wide)

  -- so lines that begin alike and go on with greater sets read otherwise
  pub not_skipped : (others : List CutoffLine) → AllByRecursion (λ other. line.traits.0 < other.traits.0) others
      → read_lines line.traits (front ++ line ∷ back) ≡ read_lines line.traits (front ++ others) → ⊥
  not_skipped others greater same =
      let own : line.cutoff ≡ read_lines line.traits front = sym read_here ∙ (same ∙ none_read line.traits front others greater) in
      not_wider line.cutoff (ap (is_wider line.cutoff) own ∙ wide)

same_line : (one other : CutoffLine) → one.traits.0 ≡ other.traits.0 → one.cutoff ≡ other.cutoff → one ≡ other
same_line one other sets cutoffs =
    ap (λ (n : ℕ). let line : CutoffLine = record { traits = record { 0 = n }; cutoff = one.cutoff } in line) sets
    ∙ ap (λ (cutoff : Cutoff). let line : CutoffLine = record { traits = other.traits; cutoff = cutoff } in line) cutoffs

greater_all : (n m : ℕ) (lines : List CutoffLine) → n < m → AllByRecursion (λ line. m < line.traits.0) lines → AllByRecursion (λ line. n < line.traits.0) lines
greater_all n m lines less all = all_weaker (λ line. m < line.traits.0) (λ line. n < line.traits.0) (λ line more. omega (arith, less, more)) lines all

-- few lines that begin alike and read alike are the same
same_from : (front one other : List CutoffLine) → AreFew (front ++ one) → AreFew (front ++ other)
    → ((traits : TraitSet) → IsTraitSet traits → read_lines traits (front ++ one) ≡ read_lines traits (front ++ other)) → one ≡ other
same_from front [] [] few few' same = refl
same_from front (l ∷ ls) [] few few' same = absurd (not_skipped front l ls few [] tt (same l.traits (all_middle _ front l ls few.sets)))
same_from front [] (m ∷ ms) few few' same = absurd (not_skipped front m ms few' [] tt (sym (same m.traits (all_middle _ front m ms few'.sets))))
same_from front (l ∷ ls) (m ∷ ms) few few' same = elim (cases_lt l.traits.0 m.traits.0) [
  | inl less ↦ absurd (not_skipped front l ls few (m ∷ ms) (less, greater_all l.traits.0 m.traits.0 ms less (later front m ms few')) (same l.traits (all_middle _ front l ls few.sets)))
  | inr most ↦ elim (cases_lt m.traits.0 l.traits.0) [
    | inl more ↦ absurd (not_skipped front m ms few' (l ∷ ls) (more, greater_all m.traits.0 l.traits.0 ls more (later front l ls few)) (sym (same m.traits (all_middle _ front m ms few'.sets))))
    | inr least ↦
        let sets : l.traits.0 ≡ m.traits.0 = omega (arith, most, least) in
        let set : l.traits ≡ m.traits = ap (λ (n : ℕ). let traits : TraitSet = record { 0 = n } in traits) sets in
        let cutoffs : l.cutoff ≡ m.cutoff = sym (read_here front l ls few) ∙ (same l.traits (all_middle _ front l ls few.sets)
        ∙ (ap (λ (traits : TraitSet). read_lines traits (front ++ m ∷ ms)) set ∙ read_here front m ms few')) in
        let line : l ≡ m = same_line l m sets cutoffs in
        let rest : ls ≡ ms = same_from (front ++ l ∷ []) ls ms (subst AreFew (sym (append_snoc front l ls)) few)
        (subst AreFew (sym (append_snoc front l ms)) (subst (λ (first : CutoffLine). AreFew (front ++ first ∷ ms)) (sym line) few'))
        (λ traits small. ap (read_lines traits) (append_snoc front l ls)
        ∙ (same traits small ∙ (ap (λ (first : CutoffLine). read_lines traits (front ++ first ∷ ms)) (sym line) ∙ sym (ap (read_lines traits) (append_snoc front l ms))))) in
        cc
  ]
]

pub one_lines : OneCutoff → OneLines
one_lines one kept first second ok reads few reads' few' =
    same_from [] first second few few' (λ traits small. one kept traits (read_lines traits first) (read_lines traits second) ok small (reads traits small) (reads' traits small))
