use Rattle.std.proofs.Common.{◌∙◌, List, None, arith, length, sym, ap}
use Rattle.std.specs.Prelude.{option_map, slice_get}
use Rattle.std.proofs.lemmas.Option.{slice_get-get_or}
use Rattle.office_base.specs.declared.person.Person.{Person}
use Rattle.replays.proofs.Seats.{inside_at, inside_none}
use Rattle.replays.proofs.compare.difference_inside.Goals as goal

pub returns-in_err-at : goal.returns-in_err-at
returns-in_err-at c = rw c.from_residual.ensures (λ rows number found. inside_none number _ rows c.args.kept.now c.args.computed.now c.people-people.ensures.ranks.rising c.requires.computed found c.in_err-at.ensures)

pub returns : goal.returns
returns c = λ rows number found.
    let less = c.in_ok-at.ensures.0 in
    let full = c.requires.computed in
    let kept = c.requires.kept in
    let long = ap (λ (l : List Person). length l) c.people-people.ensures.same in
    let there = ap (λ (l : List Person). slice_get l c.in_ok-at.at) (sym c.people-people.ensures.same) ∙ slice_get-get_or c.people-people.result.now c.in_ok-at.at _ (omega (arith, less, kept, long)) in
    inside_at number _ rows c.args.kept.now c.args.computed.now c.in_ok-at.at _ _ _ c.people-people.ensures.ranks.rising c.requires.computed found c.in_ok-at.ensures
    (ap (option_map (λ (p : Person). p.id)) there)
    (slice_get-get_or c.args.kept.now c.in_ok-at.at None less)
    (slice_get-get_or c.args.computed.now c.in_ok-at.at None (omega (arith, less, full, kept)))
