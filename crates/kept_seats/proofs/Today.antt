-- Without orders rounds are those by the rule alone.
use Rattle.std.proofs.Common.{◌≡◌, inl, inr, ℕ, true, List, Option, Some, arith, sym, ap, subst}
use Rattle.std.proofs.lemmas.Bool.{cases_lt}
use Rattle.office_base.specs.declared.seat.Seat.{Seat}
use Rattle.office_base.specs.declared.seat.SeatKind.TheVariants.{Under}
use Rattle.office_base.specs.declared.person.Person.{Person}
use Rattle.allocations.specs.Fair.{IsFair, IsMarket, IsNextMarket}
use Rattle.allocations.specs.Market.{Seeker, applicants, applies, place_of, rank_of, seat_at}
use Rattle.allocations.specs.Rule.{Admits, ChoosesWell, Grows}
use Rattle.allocations.proofs.Claims.{applicants_may}
use Rattle.allocations.proofs.Places.{applies_true}
use Rattle.allocations.proofs.Those.{those_has, value_at}
use Rattle.kept_seats.specs.Kept.{alone, Guarantees, GuaranteesHeld, NobodyNeeds, StepRule, WithoutOrdersAsEver, with_kept}
use Rattle.kept_seats.proofs.Kept.{choose_well}
use Rattle.kept_seats.proofs.Newly.{later_applicants}
use Rattle.kept_seats.proofs.Worth.{by_step, listed_below, nothing_changes_without_need}

-- Nobody needs a guarantee of a seat that was had, where programmes still admit whom they admitted and the others narrow what they want.
pub nobody_needs : (rule more : StepRule) (MayApply : ℕ → List Person → Type 0) (guaranteed : Guarantees) (count : ℕ) (seekers next : List Seeker) (seats others : List (Option Seat))
    → ChoosesWell rule MayApply → Grows rule more MayApply → IsMarket MayApply count seekers → IsMarket MayApply count next → IsNextMarket seekers seats next → GuaranteesHeld guaranteed seekers seats
    → IsFair (alone rule) count seekers seats → IsFair (alone more) count next others → NobodyNeeds guaranteed next others
nobody_needs rule more MayApply guaranteed count seekers next seats others well grows market next_market narrows held fair fair' p i t other there' has' sure listed =
    elim (cases_lt (place_of t.list p) (rank_of t.list other)) [
      | inr no_later ↦ no_later
      | inl later ↦ absurd (
          let s = value_at next seekers i t (sym narrows.same) there' in
          let same : s.0.person ≡ t.person = narrows.persons i s.0 t s.1 there' in
          let had = held p i s.0 s.1 (subst (λ z. guaranteed p z ≡ true) (sym same) sure) in
          let below = listed_below MayApply count p i next t next_market there' listed in
          let picked = by_step rule p _ s.0.person had.0 ((fair.agrees p i s.0 had.0 below s.1).1 had.1) in
          let admitted : Admits rule p (applicants p seekers seats) t.person = (picked.0, subst (λ z. rule p (applicants p seekers seats) z picked.0) same picked.1) in
          let may = applicants_may (with_kept guaranteed rule) MayApply count p seekers seats market (choose_well guaranteed rule MayApply well) below fair.allocation.full in
          let sub = later_applicants count p seekers next seats others narrows fair.allocation.full fair'.allocation.full in
          let applied = applies_true p t.list other listed (omega (arith, later)) in
          let among = those_has (λ s seat. applies p s.list seat) next others i t other there' has' applied in
          let fewer = well.fewer p _ _ t.person may sub among admitted in
          let grown = grows p _ t.person (well.part p _ _ may sub) fewer in
          let seat = (fair'.agrees p i t (Under grown.0) below there').0 grown.1 in
          let is_seat : other ≡ Some (seat_at p (Under grown.0)) = cc in
          let rank : rank_of t.list other ≡ place_of t.list p = ap (λ z. rank_of t.list z) is_seat in
          omega (arith, rank, later))
    ]

pub without_orders_as_ever : (rule more : StepRule) (MayApply : ℕ → List Person → Type 0) → ChoosesWell rule MayApply
    → ChoosesWell more MayApply → Grows rule more MayApply
    → WithoutOrdersAsEver rule more MayApply
without_orders_as_ever rule more MayApply well more_well grows guaranteed count seekers next seats others market next_market narrows held fair best =
    nothing_changes_without_need guaranteed more MayApply more_well count next others next_market best
    (nobody_needs rule more MayApply guaranteed count seekers next seats others well grows market next_market narrows held fair best.fair)
