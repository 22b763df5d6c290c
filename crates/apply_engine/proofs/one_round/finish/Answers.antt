use Rattle.std.proofs.Common.{◌≡◌, List, Option, length, sym, subst}
use Rattle.office_base.specs.declared.person.Person.{Person}
use Rattle.office_base.specs.declared.seat.Seat.{Seat}
use Rattle.programme_lists.specs.declared.programme.Programme.{Programme}
use Rattle.apply_engine.specs.Made.{AreShown}
use Rattle.apply_engine.proofs.Finishing.{all_shown, are_tried, made, run_applications, run_of, seats_over}
use Rattle.apply_engine.proofs.one_round.finish.Goals as goal

pub seats_of-requires-clause-shown : goal.seats_of-requires-clause-shown
seats_of-requires-clause-shown g c =
    let shown = all_shown g.over _ c.in_ok-programmes.programmes (run_of g.over _ _ _ c.in_ok-programmes.programmes c.requires.1 c.in_ok-programmes.ensures) in
    subst (λ (l : List Programme). AreShown c.args.register.now.people l) (sym c.as_slice.ensures)
    (subst (λ (people : List Person). AreShown people c.in_ok-programmes.programmes) c.requires.0.people_is shown)

pub seats_of-requires-clause-tried : goal.seats_of-requires-clause-tried
seats_of-requires-clause-tried g c = λ (own : List (Option Seat)) full. are_tried g.over _ _ _ _ _ own c.requires.0 c.requires.1.set_is c.requires.1.ended c.deref.ensures.value full

pub returns-clause-made : goal.returns-clause-made
returns-clause-made g c =
    let run = run_of g.over _ _ _ c.in_ok-programmes.programmes c.requires.1 c.in_ok-programmes.ensures in
    made g.over _ c.in_ok-programmes.programmes c.in_ok-seats.seats c.args.number c.args.seeks
    (record { run = run; seated = seats_over g.over _ _ _ _ _ _ _ _ c.requires.0 c.deref.ensures.value c.as_slice.ensures c.in_ok-seats.ensures })

pub returns-clause-counted : goal.returns-clause-counted
returns-clause-counted g c =
    let run = run_of g.over _ _ _ c.in_ok-programmes.programmes c.requires.1 c.in_ok-programmes.ensures in
    run_applications g.over _ c.in_ok-programmes.programmes c.in_ok-seats.seats
    (record { run = run; seated = seats_over g.over _ _ _ _ _ _ _ _ c.requires.0 c.deref.ensures.value c.as_slice.ensures c.in_ok-seats.ensures })
