-- Without an order nobody is newly kept.
use Rattle.std.proofs.Common.{◌≡◌, ◌<◌, inl, inr, ℕ, true, List, Option, Some, None, length, refl, sym, ap, ◌∙◌, subst}
use Rattle.std.specs.Prelude.{slice_get}
use Rattle.office_base.specs.Lists.{IsSublist}
use Rattle.office_base.specs.declared.seat.Seat.{Seat}
use Rattle.office_base.specs.declared.seat.SeatKind.{SeatKind}
use Rattle.office_base.specs.declared.seat.SeatKind.TheVariants.{Kept, Under}
use Rattle.office_base.specs.declared.person.Person.{Person}
use Rattle.allocations.specs.Fair.{IsNextMarket}
use Rattle.allocations.specs.Market.{Seeker, applicants, applies, place_of, seat_at}
use Rattle.allocations.specs.Rule.{Admits, ChoosesWell, Grows}
use Rattle.allocations.proofs.Claims.{applicants_may}
use Rattle.allocations.proofs.Places.{applies_means}
use Rattle.allocations.proofs.Those.{those_sublist, value_at}
use Rattle.kept_seats.specs.Kept.{IsKept, StepRule, with_kept}
use Rattle.kept_seats.specs.Orders.{NobodyNewlyKept, is_beyond, is_kept}
use Rattle.kept_seats.proofs.Counts.{count_le}
use Rattle.allocations.proofs.Seated.{seeker_at}
use Rattle.kept_seats.proofs.Kept as kept
use Rattle.kept_seats.proofs.Worth.{listed_below}

kept_kind : (kind : SeatKind) → is_kept kind ≡ true → kind ≡ Kept
kept_kind (Under step) h = absurd (cc)
kept_kind Kept h = refl

-- a seat beyond those of the programmes is one of some programme
pub beyond_seat : (seat : Option Seat) → is_beyond seat ≡ true → (p : ℕ) × (seat ≡ Some (seat_at p Kept))
beyond_seat None h = absurd (cc)
beyond_seat (Some seat) h = (seat.prog.0, ap (λ k. Some (seat_at seat.prog.0 k)) (kept_kind seat.step h))

-- and the other way round
pub is_beyond_at : (kind : SeatKind) (p : ℕ) (seat : Option Seat) → seat ≡ Some (seat_at p kind) → kind ≡ Kept → is_beyond seat ≡ true
is_beyond_at kind p seat at same =
    let here : seat ≡ Some (seat_at p Kept) = at ∙ ap (λ k. Some (seat_at p k)) same in
    subst (λ z. is_beyond z ≡ true) (sym here) refl

-- a person who applies in the next round applied in the last one
pub later_applicants : (count p : ℕ) (seekers next : List Seeker) (seats others : List (Option Seat)) → IsNextMarket seekers seats next
    → length seats ≡ length seekers → length others ≡ length next → IsSublist (applicants p next others) (applicants p seekers seats)
later_applicants count p seekers next seats others narrows full full' =
    those_sublist (λ s seat. applies p s.list seat) (λ s seat. applies p s.list seat) next seekers others seats (record {
      seekers = sym narrows.same;
      values = full ∙ (sym narrows.same ∙ sym full');
      persons = λ i s t there there'. sym (narrows.persons i t s there' there);
      passes = λ i s t x y there there' at at' h. narrows.narrowed p i t s y there' there at' (applies_means p s.list x h).wants;
    })

pub nobody_newly_kept : (rule more : StepRule) (MayApply : ℕ → List Person → Type 0) → ChoosesWell rule MayApply → Grows rule more MayApply
    → NobodyNewlyKept rule more MayApply
nobody_newly_kept rule more MayApply well grows guaranteed next_guaranteed count seekers next seats others market narrows held fair fair' =
    let full = fair.allocation.full in
    let full' = fair'.allocation.full in
    count_le is_beyond is_beyond others seats (full ∙ (sym narrows.same ∙ sym full')) (λ i other seat has' has h.
    let found = beyond_seat other h in
    let p = found.0 in
    let at' : slice_get others i ≡ Some (Some (seat_at p Kept)) = has' ∙ ap Some found.1 in
    let s = seeker_at seekers seats i seat full has in
    let t = value_at seekers next i s.0 narrows.same s.1 in
    let same : s.0.person ≡ t.0.person = narrows.persons i s.0 t.0 s.1 t.1 in
    let own : place_of t.0.list p < length t.0.list = fair'.allocation.own i t.0 (Some (seat_at p Kept)) t.1 at' in
    let applied = applies_means p s.0.list seat (narrows.narrowed p i s.0 t.0 seat s.1 t.1 has own) in
    let below = listed_below MayApply count p i seekers s.0 market s.1 applied.wants in
    let keeps : IsKept more next_guaranteed p (applicants p next others) t.0.person = (fair'.agrees p i t.0 Kept below t.1).1 at' in
    let had = held p i s.0 s.1 (subst (λ z. next_guaranteed p z ≡ true) (sym same) keeps.guaranteed_there) in
    let seat_is : seat ≡ Some (seat_at p had.0) = (let e = had.1 in cc) in
    elim (kept.view guaranteed rule p _ s.0.person had.0 ((fair.agrees p i s.0 had.0 below s.1).1 had.1)) [
      | inl picked ↦ absurd (
          let may = applicants_may (with_kept guaranteed rule) MayApply count p seekers seats market (kept.choose_well guaranteed rule MayApply well) below full in
          let sub = later_applicants count p seekers next seats others narrows full full' in
          let admitted : Admits rule p (applicants p seekers seats) t.0.person = (picked.0, subst (λ z. rule p (applicants p seekers seats) z picked.0) same picked.2) in
          let fewer = well.fewer p _ _ t.0.person may sub keeps.applies admitted in
          let grown = grows p _ t.0.person (well.part p _ _ may sub) fewer in
          keeps.not_chosen grown.0 grown.1)
      | inr beside ↦ is_beyond_at had.0 p seat seat_is beside.0
    ])
