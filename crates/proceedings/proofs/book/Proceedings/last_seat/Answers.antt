use Rattle.std.proofs.Common.{◌≡◌, ◌<◌, ◌-◌, List, Option, Some, None, get_or, length, option_copied, sym, ap, ◌∙◌, subst}
use Rattle.std.specs.Prelude.{option_map, slice_get}
use Rattle.office_base.specs.declared.person.Person.{Person}
use Rattle.rounds.specs.declared.round.Round.{Round}
use Rattle.office_base.specs.declared.seat.Seat.{Seat}
use Rattle.season_facts.specs.Season.{facts_of}
use Rattle.office_moves.specs.State.{last_seat}
use Rattle.proceedings.specs.Proceeding.{Proceeding}
use Rattle.proceedings.proofs.Positions.{everywhere, there_at}
use Rattle.proceedings.proofs.Seated.{seat_at_position, seat_none}
use Rattle.proceedings.proofs.book.Proceedings.last_seat.Goals as goal

pub returns-in-Some : goal.returns-in-Some
returns-in-Some c =
    let a = c.self.inside in
    let round = c.in-Some.round.now in
    let last : Some round ≡ slice_get a.rounds.items (length a.rounds.items - 1) =
    sym (ap option_copied c.in-Some.is) ∙ (c.last.ensures.value ∙ ap (λ (xs : List Round). slice_get xs (length xs - 1)) c.deref.ensures.value) in
    let full = c.self.invariant.orderly.entries (length a.rounds.items - 1) round (sym last) in
    let Q : Proceeding → Type 0 = λ p. c.args.at < length p.season.people in
    let less = subst Q (sym c.self.view_is) c.requires in
    let P : Proceeding → Type 0 = λ p. option_map (λ (person : Person). last_seat p.season p.state.rounds person.id.0) (slice_get p.season.people c.args.at) ≡ Some (get_or c.as_slice.result.now c.args.at None) in
    subst P c.self.view_is (
    there_at (λ (person : Person). last_seat (facts_of a.season) a.rounds.items person.id.0) (facts_of a.season).people c.args.at _ less
    (λ person there. seat_at_position (facts_of a.season) a.rounds.items round c.args.at person last c.self.invariant.sound.ranks.rising full less there
    ∙ ap (λ (seats : List (Option Seat)). get_or seats c.args.at None) (sym c.as_slice.ensures))
    )

pub returns-in-None : goal.returns-in-None
returns-in-None c =
    let value = c.args.self.now in
    let rounds : c.self.inside.rounds.items ≡ value.state.rounds = ap (λ p. p.state.rounds) c.self.view_is in
    let last : None ≡ slice_get value.state.rounds (length value.state.rounds - 1) =
    sym (ap option_copied c.in-None.is) ∙ (c.last.ensures.value ∙ ap (λ (xs : List Round). slice_get xs (length xs - 1)) (c.deref.ensures.value ∙ rounds)) in
    everywhere (λ (person : Person). last_seat value.season value.state.rounds person.id.0) value.season.people c.args.at None c.requires (λ person. seat_none value.season value.state.rounds person.id.0 last)
