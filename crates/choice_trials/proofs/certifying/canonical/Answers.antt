use Rattle.std.proofs.Common.{List, ◌++◌, ap, sym, ◌∙◌, subst}
use Rattle.office_base.specs.Certificate.{IsCanonical}
use Rattle.office_base.specs.declared.step.Pair.{Pair}
use Rattle.placements.specs.Slots.{pairs_of}
use Rattle.choice_trials.proofs.First.{IsCanonical-from_first}
use Rattle.choice_trials.proofs.certifying.canonical.Goals as goal

pub returns : goal.returns
returns c = let h = c.in_ok-push_first.ensures in
    subst (λ (pairs : List Pair). IsCanonical c.args.protections.now c.args.people.now pairs) (sym (h.2 ∙ ap (λ (l : List Pair). l ++ pairs_of c.args.people.now h.0) c.new-pairs.ensures)) (IsCanonical-from_first c.args.protections.now c.args.people.now h.0 c.requires.distinct h.1)
