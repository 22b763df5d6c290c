-- With other numbers in the same order the best fair seats are the same.
use Rattle.std.proofs.Common.{◌≡◌, ◌<◌, ◌≤◌, ℕ, List, ◌∷◌, Option, Some, length, map, refl, sym, ap, ◌∙◌, subst}
use Rattle.std.specs.Prelude.{◌↔◌, slice_get}
use Rattle.std.proofs.lemmas.List.{length-map}
use Rattle.std.proofs.lemmas.Bool.{false≢true}
use Rattle.office_base.specs.declared.seat.Seat.{Seat}
use Rattle.office_base.specs.declared.person.CandId.{CandId}
use Rattle.office_base.specs.declared.person.Person.{Person}
use Rattle.office_base.specs.declared.person.ProgId.{ProgId}
use Rattle.office_base.specs.declared.seat.SeatKind.{SeatKind}
use Rattle.office_base.specs.declared.seat.SeatKind.TheVariants.{Kept, Under}
use Rattle.allocations.specs.Fair.{IsBest, IsFair, IsMarket, IsOwn}
use Rattle.allocations.specs.Market.{Seeker, applicants, applies, rank_of}
use Rattle.allocations.proofs.Claims.{applicants_may}
use Rattle.open_then_category.specs.Laws.{OneProgrammeChoice, ProgrammeChoiceExists}
use Rattle.seat_matrix.specs.Matrix.{AreSeats, SeatTable, seats_in}
use Rattle.seeks.specs.Seek.{seek_leaves}
use Rattle.seeks.specs.declared.seek.Seek.{Seek}
use Rattle.rounds.specs.Rule.{MayApplyIn, ProgrammesChooseWell, nobody, rule_of, seekers_of, steps_of}
use Rattle.rounds.proofs.Entrants.{market}
use Rattle.history_laws.proofs.Fits.{map_at}
use Rattle.published_rounds.specs.Order.{KeepsOrder, OnlyTheOrderCounts}
use Rattle.published_rounds.proofs.Numbered.{map_back}
use Rattle.published_rounds.proofs.Choices.{admits_map, filter_if}

-- the same seeker with other numbers
abbrev pub renumbered : (Person → Person) → Seeker → Seeker
renumbered f s = record { person = f s.person; list = s.list }

pub seekers_map : (f : Person → Person) (table : SeatTable) (people : List Person) (lists : List (List ProgId)) (seeks : List Seek)
    → seekers_of table (map f people) lists seeks ≡ map (renumbered f) (seekers_of table people lists seeks)
seekers_map f table (person ∷ people) (list ∷ lists) (seek ∷ seeks) = ap (λ l. record { person = f person; list = seek_leaves table seek list } ∷ l) (seekers_map f table people lists seeks)
seekers_map f table people lists seeks = refl

applicants_map : (f : Person → Person) (p : ℕ) (seekers : List Seeker) (seats : List (Option Seat)) → applicants p (map (renumbered f) seekers) seats ≡ map f (applicants p seekers seats)
applicants_map f p (s ∷ seekers) (seat ∷ seats) = filter_if f (applies p s.list seat) (applies p s.list seat) s.person _ _ refl (applicants_map f p seekers seats)
applicants_map f p seekers seats = refl

module _ (exists : ProgrammeChoiceExists) (one : OneProgrammeChoice) (well : ProgrammesChooseWell) (version : ℕ) (table : SeatTable) (ok : AreSeats table) (g : CandId → CandId) (f : Person → Person)
    (keeps : KeepsOrder g f) (seekers : List Seeker) (here : IsMarket (MayApplyIn table) (length table.programmes) seekers)
    (here' : IsMarket (MayApplyIn table) (length table.programmes) (map (renumbered f) seekers)) where
  abbrev others : List Seeker
  others = map (renumbered f) seekers

  abbrev count : ℕ
  count = length table.programmes

  -- a seeker with other numbers is one of these seekers
  record Base (i : ℕ) (t : Seeker) : Type 0 where
    pub s : Seeker
    pub there : slice_get seekers i ≡ Some s
    pub is : t ≡ renumbered f s

  base : (i : ℕ) (t : Seeker) → slice_get others i ≡ Some t → Base i t
  base i t at =
      let s = map_back (renumbered f) seekers i t at in
      record { s = s.0; there = s.1; is = s.2 }

  -- a programme admits the same persons
  same_admits : (p : ℕ) (seats : List (Option Seat)) (x : Person) (kind : SeatKind) → p < count → length seats ≡ length seekers
      → rule_of version nobody table p (applicants p seekers seats) x kind ↔ rule_of version nobody table p (applicants p others seats) (f x) kind
  same_admits p seats x Kept below full = (λ keeps. absurd (false≢true keeps.guaranteed_there), λ keeps. absurd (false≢true keeps.guaranteed_there))
  same_admits p seats x (Under kind) below full =
      let may = applicants_may (rule_of version nobody table) (MayApplyIn table) count p seekers seats here (well version nobody table ok) below full in
      let may' = applicants_may (rule_of version nobody table) (MayApplyIn table) count p others seats here' (well version nobody table ok) below (full ∙ sym (length-map seekers (renumbered f))) in
      let same = applicants_map f p seekers seats in
      subst (λ l. steps_of version table p (applicants p seekers seats) x kind ↔ steps_of version table p l (f x) kind) (sym same)
      (admits_map g f keeps exists one version (seats_in table p) (applicants p seekers seats) x kind (ok.sound p below) may (subst (λ l. MayApplyIn table p l) same may'))

  pub fair_map : (seats : List (Option Seat)) → IsFair (rule_of version nobody table) count seekers seats → IsFair (rule_of version nobody table) count others seats
  fair_map seats fair = record {
    allocation = record {
      full = fair.allocation.full ∙ sym (length-map seekers (renumbered f));
      own = λ i t seat at has.
          let b = base i t at in
          subst (λ (z : Seeker). IsOwn z.list seat) (sym b.is) (fair.allocation.own i b.s seat b.there has);
    };
    agrees = λ p i t kind below at.
        let b = base i t at in
        let same = same_admits p seats b.s.person kind below fair.allocation.full in
        let agreed = fair.agrees p i b.s kind below b.there in
        let person : t.person ≡ f b.s.person = ap (λ (z : Seeker). z.person) b.is in (
          λ admits. agreed.0 (same.1 (subst (λ z. rule_of version nobody table p (applicants p others seats) z kind) person admits)),
          λ has. subst (λ z. rule_of version nobody table p (applicants p others seats) z kind) (sym person) (same.0 (agreed.1 has)),
        );
  }

  map_fair : (seats : List (Option Seat)) → IsFair (rule_of version nobody table) count others seats → IsFair (rule_of version nobody table) count seekers seats
  map_fair seats fair =
      let full : length seats ≡ length seekers = fair.allocation.full ∙ length-map seekers (renumbered f) in
      record {
        allocation = record {
          full = full;
          own = λ i s seat there has. fair.allocation.own i (renumbered f s) seat (map_at (renumbered f) seekers i s there) has;
        };
        agrees = λ p i s kind below there.
            let same = same_admits p seats s.person kind below full in
            let agreed = fair.agrees p i (renumbered f s) kind below (map_at (renumbered f) seekers i s there) in
            (λ admits. agreed.0 (same.0 admits), λ has. same.1 (agreed.1 has));
      }

  pub best_map : (seats : List (Option Seat)) → IsBest (rule_of version nobody table) count seekers seats ↔ IsBest (rule_of version nobody table) count others seats
  best_map seats = (
    λ best. record {
      fair = fair_map seats best.fair;
      best = λ more fair i t seat other at has has'.
          let b = base i t at in
          subst (λ (z : Seeker). rank_of z.list seat ≤ rank_of z.list other) (sym b.is) (best.best more (map_fair more fair) i b.s seat other b.there has has');
    },
    λ best. record {
      fair = map_fair seats best.fair;
      best = λ more fair i s seat other there has has'.
          best.best more (fair_map more fair) i (renumbered f s) seat other (map_at (renumbered f) seekers i s there) has has';
    },
  )

-- Only the order of the places counts.
pub only_the_order_counts : ProgrammeChoiceExists → OneProgrammeChoice → ProgrammesChooseWell → OnlyTheOrderCounts
only_the_order_counts exists one well version table people g f lists seeks seats ok keeps enter enter' =
    let here = market table people lists seeks ok enter in
    let same = seekers_map f table people lists seeks in
    let here' = subst (λ l. IsMarket (MayApplyIn table) (length table.programmes) l) same (market table (map f people) lists seeks ok enter') in
    subst (λ l. IsBest (rule_of version nobody table) (length table.programmes) (seekers_of table people lists seeks) seats ↔ IsBest (rule_of version nobody table) (length table.programmes) l seats) (sym same)
    (best_map exists one well version table ok g f keeps (seekers_of table people lists seeks) here here' seats)
