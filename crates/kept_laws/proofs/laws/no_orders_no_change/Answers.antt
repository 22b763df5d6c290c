use Rattle.std.proofs.Common.{sym, subst}
use Rattle.office_base.specs.declared.person.ListId.{ListId}
use Rattle.programme_lists.specs.Chosen.{AreApplicants}
use Rattle.kept_seats.proofs.Kept as kept
use Rattle.kept_seats.proofs.Today as today
use Rattle.kept_laws.specs.Laws.{MayApplyTo, by_steps}
use Rattle.kept_laws.proofs.laws.no_orders_no_change.Goals as goal

pub returns : goal.returns
returns c = λ version seats more sound more_sound raised.
    today.without_orders_as_ever (by_steps version seats) (by_steps version more) (MayApplyTo seats) (c.chosen_well.ensures version seats sound)
    (kept.choose_well_too (by_steps version more) (MayApplyTo more) (MayApplyTo seats)
    (λ p people may. subst (λ (list : ListId). AreApplicants list people) (raised p).list may)
    (λ p people may. subst (λ (list : ListId). AreApplicants list people) (sym (raised p).list) may) (c.chosen_well.ensures version more more_sound))
    (c.grows_with_seats.ensures version seats more sound more_sound raised)
