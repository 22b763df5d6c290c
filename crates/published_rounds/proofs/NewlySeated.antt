-- Whoever is newly seated answers to somebody who lost a seat, or to a seat raised.
use Rattle.std.proofs.Common.{◌≡◌, ◌+◌, ℕ, Bool, true, false, not, List, [], ◌∷◌, Option, length, arith, refl, sym, ◌∙◌, if◌then◌else◌}
use Rattle.std.specs.Prelude.{◌&&◌}
use Rattle.std.specs.List.{filter}
use Rattle.std.proofs.lemmas.List.Sums.{length-filter}
use Rattle.office_base.specs.declared.seat.Seat.{Seat}
use Rattle.allocations.specs.Market.{is_of}
use Rattle.published_rounds.specs.Fair.{newly_seated}
use Rattle.published_rounds.specs.FairLaws.{FewNewHolders, FewNewlySeated}
use Rattle.published_rounds.proofs.Market.{longer_by, one_for}

either_way : (b c : Bool) → one_for c + (if b && not c then 1 else 0) ≡ one_for b + (if c && not b then 1 else 0)
either_way true true = refl
either_way true false = refl
either_way false true = refl
either_way false false = refl

-- those who have a seat now and those who lost one are as many as those who had one and those who gained one
balance : (p : ℕ) (seats others : List (Option Seat)) → length others ≡ length seats
    → length (filter (is_of p) others) + newly_seated p others seats ≡ length (filter (is_of p) seats) + newly_seated p seats others
balance p [] [] full = refl
balance p [] (other ∷ others) full = absurd (omega (arith, full))
balance p (seat ∷ seats) [] full = absurd (omega (arith, full))
balance p (seat ∷ seats) (other ∷ others) full =
    let rest = balance p seats others (omega (arith, full)) in
    let had = longer_by (is_of p) (is_of p seat) seat seats refl in
    let has = longer_by (is_of p) (is_of p other) other others refl in
    let one = either_way (is_of p seat) (is_of p other) in
    omega (arith, rest, had, has, one)

pub few_newly_seated : FewNewHolders → FewNewlySeated
few_newly_seated few version table more seekers next seats others p over over' narrows below below' have =
    let holders = few version table more seekers next seats others p over over' narrows below below' have in
    let full : length others ≡ length seats = over'.fair.allocation.full ∙ (narrows.same ∙ sym over.fair.allocation.full) in
    let all = balance p seats others full in
    let had = length-filter (is_of p) seats in
    let has = length-filter (is_of p) others in
    omega (arith, holders, all, had, has)
