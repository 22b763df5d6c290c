use Rattle.std.proofs.Common.{◌≡◌, ◌+◌, ◌++◌, [], ◌∷◌, Bool, true, false, take, sym, ap, ◌∙◌, subst}
use Rattle.std.proofs.lemmas.Bool.{both_ways}
use Rattle.slot_matching.specs.Kept.{Kept}
use Rattle.cutoff_lines.specs.Found.{IsNeededOf}
use Rattle.cutoff_lines.proofs.Needing.{may_join, needed_join, needed_stay}
use Rattle.cutoff_lines.proofs.spare.needed_of.Goals.{then-joins, else-joins}
use Rattle.cutoff_lines.proofs.spare.needed_of.Goals as goal

pub raises-joins-requires : goal.raises-joins-requires
raises-joins-requires c =
    may_join c.args.list c.args.protections.now c.args.held.now c.loop-person.person-index _ c.loop-person.matching c.loop-person.needed c.requires.ranked c.loop-person-test.true c.loop-person.invariant

pub augment-answer-requires : goal.augment-answer-requires
augment-answer-requires c =
    may_join c.args.list c.args.protections.now c.args.held.now c.loop-person.person-index _ c.loop-person.matching c.loop-person.needed c.requires.ranked c.loop-person-test.true c.loop-person.invariant

pub loop-person-preserved : goal.loop-person-preserved
loop-person-preserved c =
    let at = c.loop-person.person-index in
    let marks = c.loop-person.needed in
    elim c.if-joins.branch [
      | then-joins w ↦
          let put : marks ++ true ∷ [] ≡ c.push.new.self = ap (λ (mark : Bool). marks ++ mark ∷ []) (sym w.if-joins.true) ∙ sym c.in_ok-push.ensures.ok in
          let next = needed_join c.args.list c.args.protections.now c.args.held.now at _ c.loop-person.matching marks c.requires.ranked c.loop-person-test.true c.loop-person.invariant
          w.augment-answer.result w.augment-answer.new.self (c.raises-joins.ensures.0 w.if-joins.true) w.augment-answer.ensures.done in
          subst (λ (kept : Kept). IsNeededOf c.args.list c.args.protections.now (take (at + 1) c.args.held.now) kept c.push.new.self) (sym w.matching-is)
          (subst (IsNeededOf c.args.list c.args.protections.now (take (at + 1) c.args.held.now) w.augment-answer.new.self) put next)
      | else-joins w ↦
          let put : marks ++ false ∷ [] ≡ c.push.new.self = ap (λ (mark : Bool). marks ++ mark ∷ []) (sym w.if-joins.false) ∙ sym c.in_ok-push.ensures.ok in
          let next = needed_stay c.args.list c.args.protections.now c.args.held.now at _ c.loop-person.matching marks c.requires.ranked c.loop-person-test.true c.loop-person.invariant
          (λ can. both_ways _ w.if-joins.false (c.raises-joins.ensures.1 can)) in
          subst (λ (kept : Kept). IsNeededOf c.args.list c.args.protections.now (take (at + 1) c.args.held.now) kept c.push.new.self) (sym w.matching-is)
          (subst (IsNeededOf c.args.list c.args.protections.now (take (at + 1) c.args.held.now) c.loop-person.matching) put next)
    ]
