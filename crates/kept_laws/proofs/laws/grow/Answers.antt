use Rattle.std.proofs.Common.{sym, subst}
use Rattle.office_base.specs.declared.person.ListId.{ListId}
use Rattle.programme_lists.specs.Chosen.{AreApplicants}
use Rattle.kept_seats.proofs.Kept as kept
use Rattle.kept_laws.specs.Laws.{MayApplyTo, by_steps}
use Rattle.kept_laws.proofs.laws.grow.Goals as goal

pub returns : goal.returns
returns c = λ version seats more guaranteed wider sound more_sound raised wide.
    kept.grow guaranteed wider (by_steps version seats) (by_steps version more) (MayApplyTo seats)
    (λ p people x may. (c.chosen_well.ensures version more more_sound).decided p people x (subst (λ (list : ListId). AreApplicants list people) (sym (raised p).list) may))
    wide (c.grows_with_seats.ensures version seats more sound more_sound raised)
