-- Nobody falls: a seeker who keeps wanting the programme of their seat has a seat in every fair allocation of the
-- next round, if the others only narrowed what they want and the rule only grew.
use Rattle.std.proofs.Common.{◌≡◌, ◌≢◌, ◌<◌, ◌≤◌, ◌↔◌, ◌+◌, ◌⊎◌, inl, inr, ℕ, zero, suc, Bool, true, false, List, [], ◌∷◌, Option, Some, None, length, arith, refl, sym, ap, ◌∙◌, subst}
use Rattle.std.specs.Prelude.{slice_get}
use Rattle.office_base.specs.Lists.{IsAmong, IsSublist}
use Rattle.office_base.specs.declared.person.Person.{Person}
use Rattle.office_base.specs.declared.person.ProgId.{ProgId}
use Rattle.office_base.specs.declared.seat.Seat.{Seat}
use Rattle.office_base.specs.declared.seat.SeatKind.{SeatKind}
use Rattle.allocations.specs.Market.{Seeker, place_of, rank_of, seat_at, applies, those, applicants}
use Rattle.allocations.specs.Rule.{Rule, Admits, Refuses, Grows, ChoosesWell}
use Rattle.allocations.specs.Fair.{IsMarket, IsOwn, IsAllocation, IsFair, IsNextMarket}
use Rattle.allocations.proofs.Those.{those_has, those_sublist}
use Rattle.allocations.proofs.Places.{applies_true, applies_means, holder_applies, of_seat}
use Rattle.allocations.proofs.Claims.{applicants_may}

-- a person who applies to a programme in the next round applied to it in the last one
later_applicants : (MayApply : ℕ → List Person → Type 0) (count p : ℕ) (seekers next : List Seeker) (seats others : List (Option Seat)) → IsNextMarket seekers seats next
    → length seats ≡ length seekers → length others ≡ length next → IsSublist (applicants p next others) (applicants p seekers seats)
later_applicants MayApply count p seekers next seats others narrows full full' =
    those_sublist (λ s seat. applies p s.list seat) (λ s seat. applies p s.list seat) next seekers others seats (record {
      seekers = sym narrows.same;
      values = full ∙ (sym narrows.same ∙ sym full');
      persons = λ i s t there there'. sym (narrows.persons i t s there' there);
      passes = λ i s t x y there there' at at' h. narrows.narrowed p i t s y there' there at' (applies_means p s.list x h).wants;
    })

-- In every fair allocation of the next round, a seeker who had a seat and still wants its programme has a seat.
pub nobody_falls : (rule more : Rule) (MayApply : ℕ → List Person → Type 0) (count p i : ℕ) (seekers next : List Seeker) (seats others : List (Option Seat)) (s t : Seeker) (kind : SeatKind)
    → IsMarket MayApply count seekers → ChoosesWell rule MayApply → Grows rule more MayApply → IsFair rule count seekers seats → IsFair more count next others
    → IsNextMarket seekers seats next → p < count → slice_get seekers i ≡ Some s → slice_get next i ≡ Some t → slice_get seats i ≡ Some (Some (seat_at p kind))
    → place_of t.list p < length t.list → slice_get others i ≡ Some None → ⊥
nobody_falls rule more MayApply count p i seekers next seats others s t kind market well grows fair fair' narrows below there there' has wanted none =
    let full = fair.allocation.full in
    let may = applicants_may rule MayApply count p seekers seats market well below full in
    let part = later_applicants MayApply count p seekers next seats others narrows full fair'.allocation.full in
    let applied : applies p t.list None ≡ true = applies_true p t.list None wanted (omega (arith, wanted)) in
    let same : s.person ≡ t.person = narrows.persons i s t there there' in
    let among = those_has (λ s seat. applies p s.list seat) next others i t None there' none applied in
    let admitted : Admits rule p (applicants p seekers seats) t.person =
    (kind, subst (λ z. rule p (applicants p seekers seats) z kind) same ((fair.agrees p i s kind below there).1 has)) in
    let fewer = well.fewer p _ _ t.person may part among admitted in
    let grown = grows p _ t.person (well.part p _ _ may part) fewer in
    let seat = (fair'.agrees p i t grown.0 below there').0 grown.1 in
    cc
