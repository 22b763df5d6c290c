use Rattle.std.proofs.Common.{◌∙◌, arith, refl, sym}
use Rattle.office_base.specs.declared.person.Place.TheVariants.{Absent}
use Rattle.list_audit.proofs.Equal.{same_each}
use Rattle.list_audit.proofs.same.same_places.Goals as goal

pub returns : goal.returns
returns c = ((λ yes. same_each c.args.a.now c.args.b.now Absent (c.told-a ∙ sym c.told-b) (λ k less. c.loop-k.invariant k (omega (arith, less)))), (λ same. refl))
