use Rattle.std.proofs.Common.{ℕ, sym, ap, ◌∙◌, subst, Option, ◌+◌, get_or}
use Rattle.std.proofs.lemmas.Bool.{both_ways}
use Rattle.office_base.specs.declared.person.TraitSet.{TraitSet}
use Rattle.slot_matching.specs.Full.{IsLeastFull, IsLeastOf}
use Rattle.slot_matching.proofs.Full.{least_found, least_passed}
use Rattle.slot_matching.proofs.spare.common_full.Goals.{then-is_within+then-spare-from-eq0, else-is_within, else-is_within-via-then-is_within+else-spare-from-eq0, else-is_within-via-else-is_within}
use Rattle.slot_matching.proofs.spare.common_full.Goals as goal

pub loop-n-preserved : goal.loop-n-preserved
loop-n-preserved c =
    let so_far : Option TraitSet → Type 0 = λ least. IsLeastOf (c.loop-n.n + 1) c.args.spare.now c.args.traits least in
    elim c.if-is_within.branch [
      | then-is_within+then-spare-from-eq0 w ↦ subst so_far (sym w.least-is)
          (subst (IsLeastFull (c.loop-n.n + 1) c.args.spare.now c.args.traits) (sym w.meet.ensures)
          (least_found c.loop-n.n c.args.spare.now c.args.traits c.loop-n.least c.requires.closed c.loop-n-test.true
          (sym c.is_within.ensures ∙ w.if-is_within.true)
          (ap (λ (k : ℕ). get_or c.args.spare.now k 0) (sym w.from.ensures) ∙ w.if-spare-from-eq0.true)
          c.loop-n.invariant))
      | else-is_within w ↦ subst so_far (sym w.least-is) (elim w.else-is_within.branch [
        | else-is_within-via-then-is_within+else-spare-from-eq0 w' ↦
            least_passed c.loop-n.n c.args.spare.now c.args.traits c.loop-n.least
            (λ inside none. w'.if-spare-from-eq0.false (ap (λ (k : ℕ). get_or c.args.spare.now k 0) w'.from.ensures ∙ none))
            c.loop-n.invariant
        | else-is_within-via-else-is_within w' ↦
            least_passed c.loop-n.n c.args.spare.now c.args.traits c.loop-n.least
            (λ inside none. both_ways _ (sym c.is_within.ensures ∙ w'.if-is_within.false) inside)
            c.loop-n.invariant
      ])
    ]
