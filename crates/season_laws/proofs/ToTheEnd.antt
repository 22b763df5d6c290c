-- From the first seat to the admission.
use Rattle.std.proofs.Common.{◌≡◌, ◌<◌, ◌≤◌, ◌+◌, ◌-◌, ℕ, zero, suc, Bool, true, false, List, Some, None, length, refl, sym, ap, ◌∙◌, subst, arith}
use Rattle.std.specs.Prelude.{nat_le}
use Rattle.std.proofs.lemmas.Bool.{cond-true, leb-false, leb-true}
use Rattle.office_base.specs.declared.seat.Seat.{Seat}
use Rattle.allocations.specs.Market.{place_of}
use Rattle.choice_lists.specs.Choices.{list_of}
use Rattle.round_options.specs.Options.{holds}
use Rattle.office_moves.specs.Facts.{IsSound, SeasonFacts}
use Rattle.office_moves.specs.History.{Reaches}
use Rattle.office_moves.specs.Promise.{standing_then}
use Rattle.office_moves.specs.State.{State, opening, seat_in}
use Rattle.office_moves.specs.declared.moves.Entry.{Entry}
use Rattle.history_laws.specs.Orderly.{IsOrderly}
use Rattle.season_laws.specs.ToTheEnd.{HoldersAreAdmitted, HoldsFrom, IsNoLower, NobodyFallsLater}

abbrev Orderly : SeasonFacts → Type 0
Orderly facts = (entries : List Entry) (state : State) → IsSound facts → Reaches facts opening entries state → IsOrderly facts state

-- the seat of a later round
abbrev HasLater : SeasonFacts → State → ℕ → Seat → ℕ → Type 0
HasLater facts state id old round = (new : Seat) × (seat_in facts state.rounds round id ≡ Some new) × IsNoLower facts id old new

-- some cuts later the seat is no lower
later : (facts : SeasonFacts) (state : State) (id first : ℕ) (old : Seat) → IsOrderly facts state → HoldsFrom facts state first id → seat_in facts state.rounds first id ≡ Some old
    → (cuts : ℕ) → first + cuts ≤ length state.rounds → HasLater facts state id old (first + cuts)
later facts state id first old orderly hold has zero within = let same : first ≡ first + 0 = omega arith in subst (HasLater facts state id old) same (old, has, omega arith)
later facts state id first old orderly hold has (suc cuts) within =
    let (before, there, no_lower) = later facts state id first old orderly hold has cuts (omega (arith, within)) in
    let window = first + cuts in
    let (was, new, was_there, is_there, no_worse) = orderly.word.nobody_falls window id (omega (arith, within)) (hold window (omega arith) (omega (arith, within))) in
    let both : Some before ≡ Some was = sym there ∙ was_there in
    let same : before ≡ was = cc in
    let place = ap (λ (seat : Seat). place_of (list_of facts.lists id) seat.prog.0) same in
    let less = no_worse.place in
    let next : suc window ≡ first + suc cuts = omega arith in
    subst (HasLater facts state id old) next (new, is_there, omega (arith, no_lower, place, less))

pub nobody_falls_later : (facts : SeasonFacts) → Orderly facts → NobodyFallsLater facts
nobody_falls_later facts orderly sound entries state reached id first round old hold before within has =
    let there : first + (round - first) ≡ round = omega (arith, before) in
    subst (HasLater facts state id old) there (later facts state id first old (orderly entries state sound reached) hold has (round - first) (omega (arith, before, within)))

pub holders_are_admitted : (facts : SeasonFacts) → Orderly facts → HoldersAreAdmitted facts
holders_are_admitted facts orderly sound entries state reached id first old rows finals hold at_end before has =
    let is = orderly entries state sound reached in
    let over : facts.rounds < state.now = by (nat_le state.now facts.rounds) refl in
    let all : length state.rounds ≡ facts.rounds = (is.finished over).0 in
    let (new, there, no_lower) = nobody_falls_later facts orderly sound entries state reached id first facts.rounds old hold before (omega (arith, all)) has in
    (is.word.finals rows finals, (new, cond-true (holds (standing_then facts state facts.rounds id)) (seat_in facts state.rounds facts.rounds id) None at_end ∙ there, no_lower))
  where
    by : (b : Bool) → nat_le state.now facts.rounds ≡ b → facts.rounds < state.now
    by true e = let none = (orderly entries state sound reached).unfinished (leb-true state.now facts.rounds e) in let bad : Some rows ≡ None = sym finals ∙ none in absurd cc
    by false e = leb-false state.now facts.rounds e
