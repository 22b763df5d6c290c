use Rattle.std.proofs.Common.{◌∙◌, List, Option, ap, rules}
use Rattle.office_base.specs.declared.seat.Seat.{Seat}
use Rattle.replays.specs.Differences.{seat_along}
use Rattle.replays.proofs.Seats.{nobody_along}
use Rattle.replays.proofs.course.nobodys_seats.Goals as goal

pub returns-clause-seats : goal.returns-clause-seats
returns-clause-seats c = λ id.
    ap (λ (s : List (Option Seat)). seat_along c.args.book.now.season.people s id) (c.in_ok-vec.ensures.items_if_clones_equal (λ y h. search rules)) ∙ nobody_along c.args.book.now.season.people _ id
