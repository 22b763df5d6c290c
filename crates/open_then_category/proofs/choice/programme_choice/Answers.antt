use Rattle.std.proofs.Common.{◌∙◌, List, subst}
use Rattle.std.specs.Prelude.{IfOk}
use Rattle.office_base.specs.declared.person.Person.{Person}
use Rattle.seat_matrix.specs.declared.seats.ProgrammeSeats.{ProgrammeSeats}
use Rattle.programme_lists.specs.Chosen.{ShowsFrom}
use Rattle.programme_lists.specs.Listing.{ShowsChoice}
use Rattle.programme_lists.specs.declared.programme.Programme.{Programme}
use Rattle.open_then_category.proofs.choice.programme_choice.Goals as goal

pub returns : goal.returns
returns c =
    subst (λ (seats : ProgrammeSeats). IfOk c.choose_in_order.result (λ (programme : Programme). ShowsFrom c.args.version seats c.args.applicants.now programme)) c.programme-seats.ensures.seats
    (subst (λ (people : List Person). IfOk c.choose_in_order.result (λ (programme : Programme). ShowsChoice c.args.version c.programme-seats.result people programme))
    (c.deref.ensures.value ∙ c.in_ok-ranked.ensures.order) c.choose_in_order.ensures)
