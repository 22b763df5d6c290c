-- Seats of the last published round.
use Rattle.std.proofs.Common.{◌≡◌, ◌<◌, ◌-◌, ℕ, List, Option, Some, None, length, get_or, arith, sym, ap, ◌∙◌}
use Rattle.std.specs.Prelude.{slice_get}
use Rattle.std.specs.Option.{option_and_then}
use Rattle.std.proofs.lemmas.Option.{slice_get-get_or}
use Rattle.office_base.specs.Lists.{Pairwise}
use Rattle.office_base.specs.declared.seat.Seat.{Seat}
use Rattle.office_base.specs.declared.person.Person.{Person}
use Rattle.rounds.specs.declared.round.Round.{Round}
use Rattle.office_moves.specs.Facts.{SeasonFacts}
use Rattle.office_moves.specs.State.{last_seat, seat_of}
use Rattle.round_laws.proofs.People.{row_at}
use Rattle.proceedings.proofs.NextLemmas.{last_round}
use Rattle.proceedings.proofs.Positions.{at_position}

pub seat_none : (facts : SeasonFacts) (rounds : List Round) (id : ℕ) → None ≡ slice_get rounds (length rounds - 1) → last_seat facts rounds id ≡ None
seat_none facts rounds id e = ap (λ (o : Option Round). seat_of facts o id) (sym (last_round rounds None e))

pub seat_at_position : (facts : SeasonFacts) (rounds : List Round) (round : Round) (at : ℕ) (person : Person) → Some round ≡ slice_get rounds (length rounds - 1)
    → Pairwise (λ (a b : Person). a.id.0 < b.id.0) facts.people → length round.seats ≡ length facts.people → at < length facts.people → slice_get facts.people at ≡ Some person
    → last_seat facts rounds person.id.0 ≡ get_or round.seats at None
seat_at_position facts rounds round at person e rising full less there =
    ap (λ (o : Option Round). seat_of facts o person.id.0) (sym (last_round rounds (Some round) e))
    ∙ ap (option_and_then (λ (seat : Option Seat). seat)) (at_position person.id.0 facts.people round.seats at (row_at facts.people at person rising there) full ∙ slice_get-get_or round.seats at None (omega (arith, full, less)))
