use Rattle.std.proofs.Common.{◌∙◌, List, Option, ap, subst}
use Rattle.office_moves.specs.Facts.{SeasonFacts}
use Rattle.office_moves.specs.Stands.{first_allot, published_seat}
use Rattle.office_base.specs.declared.seat.Seat.{Seat}
use Rattle.replays.specs.Differences.{IsComparison, seat_along}
use Rattle.replays.specs.declared.compare.Difference.{Difference}
use Rattle.replays.proofs.Seats.{compared}
use Rattle.replays.proofs.course.compare_round.Goals as goal

pub returns-in-None-clause-same : goal.returns-in-None-clause-same
returns-in-None-clause-same c =
    let facts = c.args.book.now.season in
    let so = compared _ facts.people _ c.args.kept.now.allots c.args.number _ (λ id. published_seat facts c.args.book.now.state c.args.number id) _ (ap (λ (f : SeasonFacts). f.people) c.season.ensures) c.as_slice-rows.ensures
    c.in_ok-found.ensures
    (λ id. ap (λ (s : List (Option Seat)). seat_along facts.people s id) c.as_slice.ensures.value ∙ c.in_ok-computed.ensures.seats id) in
    subst (λ (o : Option Difference). IsComparison (λ id. first_allot c.args.number id c.args.kept.now.allots) (λ id. published_seat facts c.args.book.now.state c.args.number id) o) c.in-None.is so
