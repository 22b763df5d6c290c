-- A candidate who is better off has no worse seat in a round.
use Rattle.std.proofs.Common.{◌≡◌, ◌≤◌, ℕ, zero, suc, List, [], ◌∷◌, Option, Some, None, length, map, arith, refl, sym, ap, ◌∙◌, subst}
use Rattle.std.specs.Prelude.{slice_get}
use Rattle.std.proofs.lemmas.Bool.{false≢true}
use Rattle.office_base.specs.declared.seat.Seat.{Seat}
use Rattle.office_base.specs.declared.seat.SeatKind.TheVariants.{Kept, Under}
use Rattle.office_base.specs.declared.person.Person.{Person}
use Rattle.office_base.specs.declared.person.ProgId.{ProgId}
use Rattle.allocations.specs.Fair.{IsBest, IsFair}
use Rattle.allocations.specs.Market.{Seeker, rank_of}
use Rattle.allocations.proofs.Places.{rank_within}
use Rattle.allocations.proofs.Those.{value_at}
use Rattle.choice_lists.specs.Choices.{Lists}
use Rattle.open_then_category.specs.Laws.{ProgrammeChoiceExists}
use Rattle.programme_laws.specs.Laws.{BeingBetterOffNeverHurts}
use Rattle.seat_matrix.specs.Matrix.{AreSeats, SeatTable, seats_in}
use Rattle.seeks.specs.Seek.{seek_leaves}
use Rattle.seeks.specs.declared.seek.Seek.{Seek}
use Rattle.rounds.specs.Rule.{AreEntrants, MayApplyIn, ProgrammesAdmitNoFewer, ProgrammesChooseWell, nobody, rule_of, seekers_of}
use Rattle.rounds.specs.declared.round.Round.{Round}
use Rattle.rounds.proofs.Entrants.{entered, market}
use Rattle.office_moves.specs.Facts.{SeasonFacts, lists_in_order}
use Rattle.office_moves.specs.Promise.{all_sought_then}
use Rattle.office_moves.specs.State.{State, seat_of}
use Rattle.office_moves.specs.declared.moves.Entry.{Entry}
use Rattle.published_rounds.specs.Published.{IsPublished, market_then, matrix_then, wanted_then}
use Rattle.published_rounds.proofs.Places.{AreOrderly, order_of, in_round, made_then, may_enter}
use Rattle.published_rounds.specs.BetterOff.{BetterOffIsNoWorse, NeverHurtsInARound, OneIsBetterOff}
use Rattle.published_rounds.specs.Registers.{MovingUpNeverHurts, MovingUpNeverHurtsInARound}
use Rattle.published_rounds.proofs.Improved.{Improves, no_worse}

-- the laws on which this rests
pub record AreLaws : Type 0 where
  pub well : ProgrammesChooseWell
  pub no_fewer : ProgrammesAdmitNoFewer
  pub never_hurts : BeingBetterOffNeverHurts
  pub exists : ProgrammeChoiceExists

-- ---- seekers of two registers

as_many : (table : SeatTable) (people others : List Person) (lists : List (List ProgId)) (seeks : List Seek) → length others ≡ length people
    → length (seekers_of table others lists seeks) ≡ length (seekers_of table people lists seeks)
as_many table [] [] lists seeks full = refl
as_many table (p ∷ people) (o ∷ others) (l ∷ lists) (q ∷ seeks) full = ap suc (as_many table people others lists seeks (omega (arith, full)))
as_many table (p ∷ people) (o ∷ others) lists seeks full = refl
as_many table people others lists seeks full = absurd (omega (arith, full))

same_at : (table : SeatTable) (people others : List Person) (lists : List (List ProgId)) (seeks : List Seek) (j : ℕ) → length others ≡ length people → slice_get others j ≡ slice_get people j
    → slice_get (seekers_of table others lists seeks) j ≡ slice_get (seekers_of table people lists seeks) j
same_at table [] [] lists seeks j full same = refl
same_at table (p ∷ people) (o ∷ others) (l ∷ lists) (q ∷ seeks) zero full same =
    let one : o ≡ p = cc in
    ap (λ (z : Person). slice_get (seekers_of table (z ∷ people) (l ∷ lists) (q ∷ seeks)) zero) one
same_at table (p ∷ people) (o ∷ others) (l ∷ lists) (q ∷ seeks) (suc j) full same = same_at table people others lists seeks j (omega (arith, full)) same
same_at table (p ∷ people) (o ∷ others) lists seeks j full same = refl
same_at table people others lists seeks j full same = absurd (omega (arith, full))

-- a programme that admits the person before admits the person after
improved : AreLaws → (version : ℕ) (table : SeatTable) (i : ℕ) (before after : Person) (people others : List Person) → AreSeats table → OneIsBetterOff table i before after people others
    → Improves (rule_of version nobody table) (MayApplyIn table) (length table.programmes) before after
improved laws version table i before after people others are off p some more below may may' but (Kept, keeps) = absurd (false≢true keeps.guaranteed_there)
improved laws version table i before after people others are off p some more below may may' but (Under step, admits) =
    let seats = seats_in table p in
    let ok = are.sound p below in
    let changed = laws.exists version seats more ok may' in
    let taken = laws.never_hurts version seats some more admits.0 changed.0 before after ok may may' but (off.better p) admits.1 changed.1 (step, admits.2) in
    (Under taken.0, (changed.0, changed.1, taken.1))

-- the person as a seeker, before and after
record Both (table : SeatTable) (changed : List Person) (lists : List (List ProgId)) (seeks : List Seek) (i : ℕ) (before after : Person) (s : Seeker) : Type 0 where
  pub t : Seeker
  pub at : slice_get (seekers_of table changed lists seeks) i ≡ Some t
  pub list : t.list ≡ s.list
  pub was : s.person ≡ before
  pub is : t.person ≡ after

both_of : (table : SeatTable) (people changed : List Person) (lists : List (List ProgId)) (seeks : List Seek) (i : ℕ) (before after : Person) (s : Seeker)
    → OneIsBetterOff table i before after people changed → slice_get (seekers_of table people lists seeks) i ≡ Some s → Both table changed lists seeks i before after s
both_of table people changed lists seeks i before after s off there =
    let size = as_many table people changed lists seeks off.full in
    let t = value_at (seekers_of table people lists seeks) (seekers_of table changed lists seeks) i s size there in
    let e = entered table people lists seeks i s there in
    let e' = entered table changed lists seeks i t.0 t.1 in
    let list : e'.list ≡ e.list = (let a = e.list_at in let b = e'.list_at in cc) in
    let seek : e'.seek ≡ e.seek = (let a = e.seek_at in let b = e'.seek_at in cc) in
    record {
      t = t.0;
      at = t.1;
      list = e'.leaves ∙ (ap (λ q. seek_leaves table q e'.list) seek ∙ (ap (λ l. seek_leaves table e.seek l) list ∙ sym e.leaves));
      was = (let a = e.person_at in let b = off.there in cc);
      is = (let a = e'.person_at in let b = off.there_after in cc);
    }

pub better_off_is_no_worse : AreLaws → BetterOffIsNoWorse
better_off_is_no_worse laws version table people changed lists seeks seats others i before after s None other are enter enter' off fair best there has has' =
    let b = both_of table people changed lists seeks i before after s off there in
    subst (λ l. rank_of l other ≤ length l) b.list (rank_within b.t.list other (best.fair.allocation.own i b.t other b.at has'))
better_off_is_no_worse laws version table people changed lists seeks seats others i before after s (Some x) other are enter enter' off fair best there has has' =
    let b = both_of table people changed lists seeks i before after s off there in
    let rule = rule_of version nobody table in
    let count = length table.programmes in
    let improves : Improves rule (MayApplyIn table) count before after = improved laws version table i before after people changed are off in
    let mine : Improves rule (MayApplyIn table) count s.person b.t.person =
    subst (λ (q : Person). Improves rule (MayApplyIn table) count s.person q) (sym b.is) (subst (λ (p : Person). Improves rule (MayApplyIn table) count p after) (sym b.was) improves) in
    let id : b.t.person.id ≡ s.person.id = ap (λ (z : Person). z.id) b.is ∙ ((off.better 0).id ∙ ap (λ (z : Person). z.id) (sym b.was)) in
    no_worse rule (MayApplyIn table) (laws.well version nobody table are) (laws.no_fewer version nobody table are) count i (seekers_of table people lists seeks) (seekers_of table changed lists seeks) s b.t
    (market table people lists seeks are enter) (market table changed lists seeks are enter') there b.at b.list id (as_many table people changed lists seeks off.full)
    (λ j apart. same_at table people changed lists seeks j off.full (off.rest j apart)) mine seats fair x has others other best has'

-- ---- the rounds of two histories

-- in the market of a round, and with other people in the same market, the person at a place has no worse seat the second time
abbrev pub HasNoWorse : SeasonFacts → State → ℕ → List Person → ℕ → Type 0
HasNoWorse facts state window changed i =
    (seats others : List (Option Seat)) (s : Seeker) (seat other : Option Seat) → AreSeats (matrix_then facts state window)
    → AreEntrants (matrix_then facts state window) facts.people (lists_in_order facts) → AreEntrants (matrix_then facts state window) changed (lists_in_order facts)
    → IsFair (rule_of facts.version nobody (matrix_then facts state window)) (length (matrix_then facts state window).programmes) (market_then facts state window) seats
    → IsBest (rule_of facts.version nobody (matrix_then facts state window)) (length (matrix_then facts state window).programmes)
    (seekers_of (matrix_then facts state window) changed (lists_in_order facts) (all_sought_then facts state window)) others
    → slice_get (market_then facts state window) i ≡ Some s → slice_get seats i ≡ Some seat → slice_get others i ≡ Some other → rank_of s.list other ≤ rank_of s.list seat

pub in_two_rounds : AreOrderly → (facts other : SeasonFacts) (entries others : List Entry) (state then : State) (window i : ℕ) (round later : Round) (before after : Person)
    → IsPublished facts entries state window round → IsPublished other others then window later → other.version ≡ facts.version → other.lists ≡ facts.lists
    → matrix_then other then window ≡ matrix_then facts state window → all_sought_then other then window ≡ all_sought_then facts state window
    → slice_get facts.people i ≡ Some before → slice_get other.people i ≡ Some after → HasNoWorse facts state window other.people i
    → rank_of (wanted_then facts state window before.id.0) (seat_of other (Some later) after.id.0) ≤ rank_of (wanted_then facts state window before.id.0) (seat_of facts (Some round) before.id.0)
in_two_rounds orderly facts other entries others state then window i round later before after published published' same_version same_lists same_matrix same_sought there there' no_worse =
    let order = order_of orderly facts entries state window round published in
    let order' = order_of orderly other others then window later published' in
    let made = made_then facts state window round order published.there in
    let made' = made_then other then window later order' published'.there in
    let mine = in_round facts state window i round before published.sound order published.there there in
    let his = in_round other then window i later after published'.sound order' published'.there there' in
    let table = matrix_then facts state window in
    let lists : lists_in_order other ≡ lists_in_order facts = ap (λ (l : Lists). map (λ held. held.1) l) same_lists in
    let by_version = subst (λ (v : ℕ). IsBest (rule_of v nobody (matrix_then other then window)) (length (matrix_then other then window).programmes)
    (seekers_of (matrix_then other then window) other.people (lists_in_order other) (all_sought_then other then window)) later.seats) same_version made'.best in
    let by_matrix = subst (λ (t : SeatTable). IsBest (rule_of facts.version nobody t) (length t.programmes) (seekers_of t other.people (lists_in_order other) (all_sought_then other then window)) later.seats)
    same_matrix by_version in
    let by_lists = subst (λ (l : List (List ProgId)). IsBest (rule_of facts.version nobody table) (length table.programmes)
    (seekers_of table other.people l (all_sought_then other then window)) later.seats) lists by_matrix in
    let best = subst (λ (q : List Seek). IsBest (rule_of facts.version nobody table) (length table.programmes) (seekers_of table other.people (lists_in_order facts) q) later.seats) same_sought by_lists in
    let enter' = subst (λ (l : List (List ProgId)). AreEntrants table other.people l) lists (subst (λ (t : SeatTable). AreEntrants t other.people (lists_in_order other)) same_matrix
    (may_enter other then window published'.sound order')) in
    let result : rank_of mine.s.list his.seat ≤ rank_of mine.s.list mine.seat =
    no_worse round.seats later.seats mine.s mine.seat his.seat (order.course.seats (suc window)) (may_enter facts state window published.sound order) enter' made.best.fair best
    mine.there mine.has his.has in
    let list = wanted_then facts state window before.id.0 in
    let by_list : rank_of list his.seat ≤ rank_of list mine.seat = subst (λ l. rank_of l his.seat ≤ rank_of l mine.seat) mine.list_is result in
    subst (λ o. rank_of list o ≤ rank_of list (seat_of facts (Some round) before.id.0)) (sym his.seat_is) (subst (λ o. rank_of list his.seat ≤ rank_of list o) (sym mine.seat_is) by_list)

pub never_hurts_in_a_round : AreOrderly → BetterOffIsNoWorse → (facts other : SeasonFacts) → NeverHurtsInARound facts other
never_hurts_in_a_round orderly no_worse_off facts other entries others state then window i round later before after published published' same_version same_lists same_matrix same_sought off =
    in_two_rounds orderly facts other entries others state then window i round later before after published published' same_version same_lists same_matrix same_sought off.there off.there_after
    (λ seats more s seat got ok enter enter'. no_worse_off facts.version (matrix_then facts state window) facts.people other.people (lists_in_order facts) (all_sought_then facts state window)
    seats more i before after s seat got ok enter enter' off)

pub moving_up_never_hurts_in_a_round : AreOrderly → MovingUpNeverHurts → (facts other : SeasonFacts) → MovingUpNeverHurtsInARound facts other
moving_up_never_hurts_in_a_round orderly no_worse_off facts other entries others state then window i round later before after published published' same_version same_lists same_matrix same_sought off =
    in_two_rounds orderly facts other entries others state then window i round later before after published published' same_version same_lists same_matrix same_sought off.there off.there_after
    (λ seats more s seat got ok enter enter'. no_worse_off facts.version (matrix_then facts state window) facts.people other.people (lists_in_order facts) (all_sought_then facts state window)
    seats more i before after s seat got ok enter enter' off)
