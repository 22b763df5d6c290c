use Rattle.std.proofs.Common.{◌≡◌, ◌∙◌, ◌<◌, Some, None, sym, ap, arith, length, subst}
use Rattle.std.specs.Prelude.{slice_get}
use Rattle.std.proofs.lemmas.Option.{get_or_from_slice_get, slice_get-get_or}
use Rattle.proceedings.proofs.Positions.{stands}
use Rattle.replays.proofs.Seats.{found_more, found_skips, not_there, one_place}
use Rattle.replays.proofs.compare.put_seat.Goals as goal

pub returns-then-row-number : goal.returns-then-row-number
returns-then-row-number c = λ rows rest so. found_skips _ _ rows rest c.args.row c.args.found.now (λ at p there none here mine. omega (arith, here)) so

pub returns-in_default : goal.returns-in_default
returns-in_default c = λ rows rest so.
    found_skips _ _ rows rest c.args.row c.args.found.now (λ at p there none here mine. not_there c.args.row.cand.0 _ at p (sym c.in_default.ensures.row) there (sym mine)) so

pub returns-in-None : goal.returns-in-None
returns-in-None c = λ rows rest so.
    let within = c.in-Some.ensures.within in
    let full = c.requires in
    let less : c.in-Some.at < length c.args.found.now = omega (arith, within, full) in
    found_more c.args.number _ rows rest c.args.row c.args.found.now c.in-Some.at c.people-people.ensures.ranks.rising (omega arith) (sym c.in-Some.ensures.row)
    (slice_get-get_or c.args.found.now c.in-Some.at None less ∙ ap Some c.in-None.is) so

pub returns-in_default-found : goal.returns-in_default-found
returns-in_default-found c = λ rows rest so.
    found_skips _ _ rows rest c.args.row c.args.found.now
    (λ at p there none here mine.
    let s = stands c.args.row.cand.0 c.args.register.now.people c.in-Some.at (sym c.in-Some.ensures.row) in
    let same = one_place c.args.register.now.people at c.in-Some.at p s.person c.people-people.ensures.ranks.rising there s.there (sym mine ∙ sym s.mine) in
    let P = subst (λ n. slice_get c.args.found.now n ≡ Some None) same none in
    c.in_default-found.not-None (get_or_from_slice_get c.args.found.now c.in-Some.at None None P))
    so
