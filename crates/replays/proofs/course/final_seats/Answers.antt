use Rattle.std.proofs.Common.{ap}
use Rattle.std.proofs.lemmas.Result.{IfOk-weaker}
use Rattle.office_moves.specs.Facts.{SeasonFacts}
use Rattle.replays.proofs.Cuts.{final_along}
use Rattle.replays.proofs.course.final_seats.Goals as goal

pub returns-in-Some-clause-seats : goal.returns-in-Some-clause-seats
returns-in-Some-clause-seats c =
    IfOk-weaker c.seats_in.result _ _
    (λ found are. final_along c.args.book.now.season _ c.args.book.now.state _ _ c.args.number _ c.entries-entries.ensures.orderly c.says_what_is_sound.ensures.ranks.rising
    (ap (λ (f : SeasonFacts). f.people) c.season-season.ensures) c.in-Some.ensures c.as_slice.ensures are) c.seats_in.ensures
