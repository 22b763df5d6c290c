-- The step from one round to the next: what everybody seeks narrows, and nobody falls.
use Rattle.std.proofs.Common.{◌≡◌, ◌≢◌, ◌<◌, ◌≤◌, inl, inr, ℕ, zero, suc, Bool, true, false, List, Option, Some, None, length, arith, refl, sym, ap, ◌∙◌, subst, if◌then◌else◌}
use Rattle.std.specs.Prelude.{slice_get, option_map, IsSome, nat_le}
use Rattle.std.proofs.lemmas.Bool.{and_from, and_parts, eq-eqb, eqb-true, le-leb, leb-true}
use Rattle.std.proofs.lemmas.Option.{slice_get_within}
use Rattle.std.proofs.lemmas.Slice.Eq.{bytes_eq-Decides}
use Rattle.office_base.proofs.Lists.{all-get, there_is}
use Rattle.office_base.specs.Lists.{Pairwise}
use Rattle.office_base.specs.declared.seat.Seat.{Seat}
use Rattle.office_base.specs.declared.person.Person.{Person}
use Rattle.office_base.specs.declared.person.ProgId.{ProgId}
use Rattle.allocations.specs.Fair.{IsNextMarket, IsOwn}
use Rattle.allocations.specs.Market.{Seeker, applicants, applies, place_of, seat_at}
use Rattle.allocations.proofs.Claims.{applicants_may}
use Rattle.allocations.proofs.Those.{those_has}
use Rattle.kept_seats.proofs.Kept.{not_chosen, not_kept}
use Rattle.office_base.proofs.People.{at_person-get}
use Rattle.allocations.proofs.Places.{applies_true}
use Rattle.choice_lists.specs.Choices.{list_of}
use Rattle.seat_matrix.specs.Matrix.{SeatTable}
use Rattle.seat_matrix.specs.declared.entry.Home.{Home}
use Rattle.seeks.specs.Seek.{are_together, is_beside, is_left, same_institute, seek_leaves}
use Rattle.seeks.specs.declared.seek.Seek.{Seek}
use Rattle.seeks.specs.declared.seek.Seek.TheVariants.{Whole, Nothing}
use Rattle.seeks.proofs.Left.{leaves_same}
use Rattle.rounds.specs.Rule.{MayApplyIn, ProgrammesChooseWell, ProgrammesGrow, is_programme, rule_of, steps_of}
use Rattle.rounds.specs.declared.round.Round.{Round}
use Rattle.rounds.proofs.Entrants.{market}
use Rattle.round_options.specs.Options.{holds, seek_after}
use Rattle.round_options.specs.declared.standing.Standing.{Standing}
use Rattle.round_options.specs.declared.standing.Standing.TheVariants.{Waiting, Offered, Freeze, Float, Slide, Withdrawn, NoShow}
use Rattle.office_moves.specs.Facts.{IsSound, SeasonFacts, lists_in_order}
use Rattle.office_moves.specs.State.{State, seat_in}
use Rattle.office_moves.specs.Raised.{matrix_of_round}
use Rattle.office_moves.specs.Promise.{HoldsOn, IsNoWorse, kept_then, standing_then}
use Rattle.office_moves.proofs.Narrows.{FitsLast, holder_narrows, left_there, narrows_applies, there_left}
use Rattle.history_laws.specs.Course.{IsCourse, guaranteed_then, kept_programmes_then, left_then, seek_then, seeks_then}
use Rattle.history_laws.proofs.Entering.{entrants, own_there}
use Rattle.history_laws.proofs.Fits.{Answered, SeatOf, FitsCut, cut_fits, enters, follows, full_seekers, held_seat, map_at, not_true, seat_at_place, seat_is, seat_there, seekers_then, still_waits}

-- ---- one candidate

-- the place of a seat in a list
abbrev place_in : List ProgId → Option Seat → Option ℕ
place_in list seat = option_map (λ (held : Seat). place_of list held.prog.0) seat

-- a candidate who seeks nothing wants no programme
nothing_wanted : (table : SeatTable) (list : List ProgId) (p : ℕ) → place_of (seek_leaves table Nothing list) p < length (seek_leaves table Nothing list) → ⊥
nothing_wanted table list p wanted =
    let found = left_there table Nothing list p wanted in
    let e : false ≡ true = found.left in
    cc

holder_applied : (table : SeatTable) (list : List ProgId) (last : Seek) (left standing : Standing) (seat : Seat) (p : ℕ) → Pairwise (λ (a b : ProgId). a.0 ≢ b.0) list
    → FitsCut left last (Some seat) → Answered left standing (Some seat) → holds standing ≡ true → IsOwn (seek_leaves table last list) (Some seat)
    → place_of (seek_leaves table (seek_after standing (Some (place_of list seat.prog.0))) list) p < length (seek_leaves table (seek_after standing (Some (place_of list seat.prog.0))) list)
    → applies p (seek_leaves table last list) (Some seat) ≡ true
holder_applied table list last left standing seat p distinct cut answered keeps own wanted =
    let seated = seat_at_place table last list seat distinct own in
    let k = place_of list seat.prog.0 in
    narrows_applies table list last (seek_after standing (Some k)) seat k p distinct seated
    (holder_narrows table list last left standing seat k cut.fits (follows left standing (Some seat) answered) keeps seated) wanted

waiting_applied : (table : SeatTable) (list : List ProgId) (last : Seek) (left : Standing) (seat : Option Seat) (p : ℕ) → left ≡ Waiting → FitsCut left last seat
    → place_of (seek_leaves table Whole list) p < length (seek_leaves table Whole list) → applies p (seek_leaves table last list) seat ≡ true
waiting_applied table list last left seat p is cut wanted =
    let whole : last ≡ Whole = subst (λ l. FitsLast l last) is cut.fits in
    let none : seat ≡ None = cut.waits is in
    subst (λ q. applies p (seek_leaves table q list) seat ≡ true) (sym whole)
    (subst (λ o. applies p (seek_leaves table Whole list) o ≡ true) (sym none) (applies_true p (seek_leaves table Whole list) None wanted (omega (arith, wanted))))

-- whatever a candidate seeks next, the candidate applied for
next_applied : (table : SeatTable) (list : List ProgId) (last : Seek) (left standing : Standing) (seat : Option Seat) (p : ℕ) → Pairwise (λ (a b : ProgId). a.0 ≢ b.0) list
    → FitsCut left last seat → Answered left standing seat → IsOwn (seek_leaves table last list) seat
    → place_of (seek_leaves table (seek_after standing (place_in list seat)) list) p < length (seek_leaves table (seek_after standing (place_in list seat)) list)
    → applies p (seek_leaves table last list) seat ≡ true
next_applied table list last left Waiting seat p distinct cut answered own wanted = waiting_applied table list last left seat p (still_waits left Waiting seat answered refl) cut wanted
next_applied table list last left Offered seat p distinct cut answered own wanted = absurd (nothing_wanted table list p wanted)
next_applied table list last left Freeze None p distinct cut answered own wanted = absurd (nothing_wanted table list p wanted)
next_applied table list last left Freeze (Some seat) p distinct cut answered own wanted = holder_applied table list last left Freeze seat p distinct cut answered refl own wanted
next_applied table list last left Float None p distinct cut answered own wanted = absurd (nothing_wanted table list p wanted)
next_applied table list last left Float (Some seat) p distinct cut answered own wanted = holder_applied table list last left Float seat p distinct cut answered refl own wanted
next_applied table list last left Slide None p distinct cut answered own wanted = absurd (nothing_wanted table list p wanted)
next_applied table list last left Slide (Some seat) p distinct cut answered own wanted = holder_applied table list last left Slide seat p distinct cut answered refl own wanted
next_applied table list last left Withdrawn seat p distinct cut answered own wanted = absurd (nothing_wanted table list p wanted)
next_applied table list last left NoShow seat p distinct cut answered own wanted = absurd (nothing_wanted table list p wanted)

-- a programme is at its own institute
self_together : {home : List ℕ × Home} (a : Option (List ℕ × Home)) → a ≡ Some home → are_together a a ≡ true
self_together None e = absurd (cc)
self_together (Some held) e = (bytes_eq-Decides held.1.institute held.1.institute).1 refl

turned_together : (a b : Option (List ℕ × Home)) → are_together a b ≡ true → are_together b a ≡ true
turned_together None b e = absurd (cc)
turned_together (Some a) None e = absurd (cc)
turned_together (Some a) (Some b) e = (bytes_eq-Decides b.1.institute a.1.institute).1 (sym ((bytes_eq-Decides a.1.institute b.1.institute).0 e))

-- a candidate who keeps a seat seeks its programme again
left_again : (table : SeatTable) (list : List ProgId) (standing : Standing) (k : ℕ) (prog : ProgId) → holds standing ≡ true → slice_get list k ≡ Some prog → prog.0 < length table.programmes
    → is_left table (seek_after standing (Some k)) list k prog ≡ true
left_again table list Waiting k prog keeps there below = absurd (cc)
left_again table list Offered k prog keeps there below = absurd (cc)
left_again table list Freeze k prog keeps there below = eq-eqb k k refl
left_again table list Float k prog keeps there below = le-leb k k (omega arith)
left_again table list Slide k prog keeps there below =
    let home = there_is table.programmes prog.0 below in
    let itself : same_institute table prog.0 prog.0 ≡ true = self_together {home = home.0} (slice_get table.programmes prog.0) home.1 in
    and_from (nat_le k k) (is_beside table (slice_get list k) prog) (le-leb k k (omega arith)) (subst (λ o. is_beside table o prog ≡ true) (sym there) itself)
left_again table list Withdrawn k prog keeps there below = absurd (cc)
left_again table list NoShow k prog keeps there below = absurd (cc)

-- What is sought again is no worse.
pub record IsKept (table : SeatTable) (standing : Standing) (j k : ℕ) (new old : ProgId) : Type 0 where
  pub place : j ≤ k
  pub freeze : standing ≡ Freeze → new ≡ old
  pub slide : standing ≡ Slide → same_institute table new.0 old.0 ≡ true

pub left_kept : (table : SeatTable) (list : List ProgId) (standing : Standing) (j k : ℕ) (new old : ProgId) → holds standing ≡ true → slice_get list j ≡ Some new → slice_get list k ≡ Some old
    → is_left table (seek_after standing (Some k)) list j new ≡ true → IsKept table standing j k new old
left_kept table list Waiting j k new old keeps there there' left = absurd (cc)
left_kept table list Offered j k new old keeps there there' left = absurd (cc)
left_kept table list Freeze j k new old keeps there there' left =
    let same : j ≡ k = eqb-true j k left in
    let again : slice_get list k ≡ Some new = subst (λ n. slice_get list n ≡ Some new) same there in
    record { place = omega (arith, same); freeze = λ e. cc; slide = λ e. absurd (cc) }
left_kept table list Float j k new old keeps there there' left = record { place = leb-true j k left; freeze = λ e. absurd (cc); slide = λ e. absurd (cc) }
left_kept table list Slide j k new old keeps there there' left =
    let parts = and_parts (nat_le j k) (is_beside table (slice_get list k) new) left in
    let beside : same_institute table old.0 new.0 ≡ true = subst (λ o. is_beside table o new ≡ true) there' parts.1 in
    record { place = leb-true j k parts.0; freeze = λ e. absurd (cc); slide = λ e. turned_together (slice_get table.programmes old.0) (slice_get table.programmes new.0) beside }
left_kept table list Withdrawn j k new old keeps there there' left = absurd (cc)
left_kept table list NoShow j k new old keeps there there' left = absurd (cc)

-- ---- the market of the next round

-- the cut of every candidate fits
abbrev pub FitAll : SeasonFacts → State → ℕ → Type 0
FitAll facts state before = (id : ℕ) → FitsCut (left_then facts state (suc before) id) (seek_then facts state before id) (seat_in facts state.rounds (suc before) id)

-- those who enter the round after this one want only what they applied for in it
pub next_market : (facts : SeasonFacts) (state : State) (before : ℕ) (round : Round) → IsSound facts → IsCourse facts state → FitAll facts state before → slice_get state.rounds before ≡ Some round
    → IsNextMarket (seekers_then facts state before) round.seats (seekers_then facts state (suc before))
next_market facts state before round sound course fit is = record {
  same = full_seekers facts state (suc before) sound ∙ sym (full_seekers facts state before sound);
  persons = λ i s t there there'.
      let first = (enters facts state before i s sound there).person_at in
      let second = (enters facts state (suc before) i t sound there').person_at in
      cc;
  narrowed = λ p i s t seat there there' has wanted.
      let first = enters facts state before i s sound there in
      let second = enters facts state (suc before) i t sound there' in
      let one : t.person ≡ s.person = (let a = first.person_at in let b = second.person_at in cc) in
      let id = s.person.id.0 in
      let list = list_of facts.lists id in
      let table = matrix_of_round facts state (suc before) in
      let more = matrix_of_round facts state (suc (suc before)) in
      let mine : seat_in facts state.rounds (suc before) id ≡ seat = seat_there facts state.rounds before i round s.person seat sound is first.person_at has in
      let own = own_there facts facts.matrix i s.person sound refl first.person_at in
      let cut : FitsCut (left_then facts state (suc before) id) (seek_then facts state before id) seat =
      subst (λ o. FitsCut (left_then facts state (suc before) id) (seek_then facts state before id) o) mine (fit id) in
      let answered : Answered (left_then facts state (suc before) id) (standing_then facts state (suc before) id) seat =
      subst (λ o. Answered (left_then facts state (suc before) id) (standing_then facts state (suc before) id) o) mine (course.answers (suc before) id) in
      let stands : IsOwn (seek_leaves table (seek_then facts state before id) list) seat =
      subst (λ l. IsOwn l seat) first.leaves ((course.made before round is).best.fair.allocation.own i s seat there has) in
      let next : seek_then facts state (suc before) id ≡ seek_after (standing_then facts state (suc before) id) (place_in list seat) =
      ap (λ o. seek_after (standing_then facts state (suc before) id) (place_in list o)) mine in
      let leaves : t.list ≡ seek_leaves table (seek_after (standing_then facts state (suc before) id) (place_in list seat)) list =
      second.leaves ∙ (ap (λ (z : Person). seek_leaves more (seek_then facts state (suc before) z.id.0) (list_of facts.lists z.id.0)) one
      ∙ (ap (λ q. seek_leaves more q list) next ∙ leaves_same table more _ list (course.raised (suc before)).programmes)) in
      subst (λ l. applies p l seat ≡ true) (sym first.leaves)
      (next_applied table list (seek_then facts state before id) (left_then facts state (suc before) id) (standing_then facts state (suc before) id) seat p own.distinct cut answered stands
      (subst (λ l. place_of l p < length l) leaves wanted));
}

-- ---- nobody falls

-- what a candidate who keeps a seat seeks again, by the choice list
abbrev again_list : SeasonFacts → State → ℕ → ℕ → Seat → List ProgId
again_list facts state before id old =
    seek_leaves (matrix_of_round facts state (suc (suc before))) (seek_after (standing_then facts state (suc before) id) (Some (place_of (list_of facts.lists id) old.prog.0)))
    (list_of facts.lists id)

-- The candidate of a seat in the round after it, with the entry there.
record Returns (facts : SeasonFacts) (state : State) (before id place : ℕ) (old : Seat) : Type 0 where
  next : Round
  is : slice_get state.rounds (suc before) ≡ Some next
  t : Seeker
  there : slice_get (seekers_then facts state (suc before)) place ≡ Some t
  person_at : slice_get facts.people place ≡ Some t.person
  id_is : t.person.id.0 ≡ id
  leaves : t.list ≡ again_list facts state before id old
  seat : Option Seat
  at : slice_get next.seats place ≡ Some seat

returns : (facts : SeasonFacts) (state : State) (before id : ℕ) (old : Seat) → IsSound facts → IsCourse facts state → suc before < length state.rounds
    → seat_in facts state.rounds (suc before) id ≡ Some old → (known : SeatOf facts state before id old) → Returns facts state before id known.place old
returns facts state before id old sound course less had known =
    let standing = standing_then facts state (suc before) id in
    let list = list_of facts.lists id in
    let more = matrix_of_round facts state (suc (suc before)) in
    let next = there_is state.rounds (suc before) less in
    let full_seats = (course.made (suc before) next.0 next.1).best.fair.allocation.full in
    let below = slice_get_within facts.people known.place known.s.person known.person_at in
    let full = full_seekers facts state (suc before) sound in
    let t = there_is (seekers_then facts state (suc before)) known.place (omega (arith, below, full)) in
    let entry = enters facts state (suc before) known.place t.0 sound t.1 in
    let one : t.0.person ≡ known.s.person = (let a = entry.person_at in let b = known.person_at in cc) in
    let id_is : t.0.person.id.0 ≡ id = ap (λ (z : Person). z.id.0) one ∙ known.id_is in
    let seat = there_is next.0.seats known.place (omega (arith, below, full, full_seats)) in
    let sought : seek_then facts state (suc before) id ≡ seek_after standing (Some (place_of list old.prog.0)) = ap (λ o. seek_after standing (place_in list o)) had in
    record {
      next = next.0;
      is = next.1;
      t = t.0;
      there = t.1;
      person_at = entry.person_at;
      id_is = id_is;
      leaves = entry.leaves ∙ (ap (λ n. seek_leaves more (seek_then facts state (suc before) n) (list_of facts.lists n)) id_is ∙ ap (λ q. seek_leaves more q list) sought);
      seat = seat.0;
      at = seat.1;
    }

-- a programme of the choice list is one of each matrix
in_matrix : (facts : SeasonFacts) (state : State) (before id n : ℕ) (old : Seat) → IsCourse facts state → SeatOf facts state before id old
    → old.prog.0 < length (matrix_of_round facts state n).programmes
in_matrix facts state before id n old course known =
    let list = list_of facts.lists id in
    let in_season = all-get (λ (prog : ProgId). prog.0 < length facts.matrix.programmes) list (place_of list old.prog.0) old.prog known.own.below known.at.there in
    subst (λ (ps : List (List ℕ × Home)). old.prog.0 < length ps) (sym (course.programmes n)) in_season

-- a candidate who keeps a seat wants its programme in the next round
wants_again : (facts : SeasonFacts) (state : State) (before id : ℕ) (old : Seat) → IsCourse facts state → (known : SeatOf facts state before id old)
    → (back : Returns facts state before id known.place old) → holds (standing_then facts state (suc before) id) ≡ true → place_of back.t.list old.prog.0 < length back.t.list
wants_again facts state before id old course known back keeps =
    let standing = standing_then facts state (suc before) id in
    let list = list_of facts.lists id in
    let k = place_of list old.prog.0 in
    let more = matrix_of_round facts state (suc (suc before)) in
    let again = left_again more list standing k old.prog keeps known.at.there (in_matrix facts state before id (suc (suc before)) old course known) in
    subst (λ l. place_of l old.prog.0 < length l) (sym back.leaves) (there_left more (seek_after standing (Some k)) list old.prog.0 k old.prog known.at.there refl again)

-- a kept seat guarantees one of its programme
sure_of : (p : ℕ) (o : Option Seat) (seat : Seat) → o ≡ Some seat → seat.prog.0 ≡ p → is_programme p (Some (option_map (λ (held : Seat). held.prog) o)) ≡ true
sure_of p None seat e is = absurd (cc)
sure_of p (Some held) seat e is = let same : held ≡ seat = cc in eq-eqb held.prog.0 p (ap (λ (z : Seat). z.prog.0) same ∙ is)

keeps_it : (keeps : Bool) (o : Option Seat) → keeps ≡ true → (if keeps then o else None) ≡ o
keeps_it true o e = refl
keeps_it false o e = absurd (cc)

guaranteed_again : (facts : SeasonFacts) (state : State) (before id i : ℕ) (old : Seat) (person : Person) → IsSound facts → seat_in facts state.rounds (suc before) id ≡ Some old
    → slice_get facts.people i ≡ Some person → person.id.0 ≡ id → holds (standing_then facts state (suc before) id) ≡ true → guaranteed_then facts state (suc before) old.prog.0 person ≡ true
guaranteed_again facts state before id i old person sound had there is keeps =
    let at = at_person-get facts.people (kept_programmes_then facts state (suc before)) i person sound.ranks.rising there in
    let mapped = map_at (λ (person : Person). option_map (λ (held : Seat). held.prog) (kept_then facts state (suc before) person.id.0)) facts.people i person there in
    let kept : kept_then facts state (suc before) person.id.0 ≡ Some old =
    subst (λ (n : ℕ). kept_then facts state (suc before) n ≡ Some old) (sym is) (keeps_it (holds (standing_then facts state (suc before) id)) (seat_in facts state.rounds (suc before) id) keeps ∙ had) in
    subst (λ (o : Option (Option ProgId)). is_programme old.prog.0 o ≡ true) (sym (at ∙ mapped)) (sure_of old.prog.0 (kept_then facts state (suc before) person.id.0) old kept refl)

-- and has a seat in it, since it is guaranteed
never_without : (facts : SeasonFacts) (state : State) (before id : ℕ) (old : Seat) → IsSound facts → ProgrammesChooseWell → IsCourse facts state
    → seat_in facts state.rounds (suc before) id ≡ Some old → (known : SeatOf facts state before id old) → (back : Returns facts state before id known.place old)
    → holds (standing_then facts state (suc before) id) ≡ true → back.seat ≡ None → ⊥
never_without facts state before id old sound well course had known back keeps none =
    let p = old.prog.0 in
    let more = matrix_of_round facts state (suc (suc before)) in
    let count = length more.programmes in
    let guaranteed = guaranteed_then facts state (suc before) in
    let rule = rule_of facts.version guaranteed more in
    let next = seekers_then facts state (suc before) in
    let seats = back.next.seats in
    let fair = (course.made (suc before) back.next back.is).best.fair in
    let in_market = market more facts.people (lists_in_order facts) (seeks_then facts state (suc before)) (course.seats (suc (suc before))) (entrants facts more sound (course.programmes (suc (suc before)))) in
    let wanted = wants_again facts state before id old course known back keeps in
    let below = in_matrix facts state before id (suc (suc before)) old course known in
    let empty : slice_get seats known.place ≡ Some None = subst (λ o. slice_get seats known.place ≡ Some o) none back.at in
    let applied = applies_true p back.t.list None wanted (omega (arith, wanted)) in
    let among = those_has (λ s seat. applies p s.list seat) next seats known.place back.t None back.there empty applied in
    let may = applicants_may rule (MayApplyIn more) count p next seats in_market (well facts.version guaranteed more (course.seats (suc (suc before)))) below fair.allocation.full in
    let sure = guaranteed_again facts state before id known.place old back.t.person sound had back.person_at back.id_is keeps in
    elim ((well facts.version guaranteed more (course.seats (suc (suc before)))).decided p (applicants p next seats) back.t.person may) [
      | inl admitted ↦ let has = (fair.agrees p known.place back.t admitted.0 below back.there).0 admitted.1 in let e : None ≡ Some (seat_at p admitted.0) = (let f = sym empty ∙ has in cc) in cc
      | inr refused ↦
          not_kept guaranteed (steps_of facts.version more) p (applicants p next seats) back.t.person refused
          (record { guaranteed_there = sure; applies = among; not_chosen = not_chosen guaranteed (steps_of facts.version more) p (applicants p next seats) back.t.person refused })
    ]

-- which is no worse
no_worse : (facts : SeasonFacts) (state : State) (before id : ℕ) (old new : Seat) → IsCourse facts state → (known : SeatOf facts state before id old)
    → (back : Returns facts state before id known.place old) → holds (standing_then facts state (suc before) id) ≡ true → back.seat ≡ Some new
    → IsNoWorse facts (standing_then facts state (suc before) id) id old new
no_worse facts state before id old new course known back keeps is =
    let standing = standing_then facts state (suc before) id in
    let list = list_of facts.lists id in
    let k = place_of list old.prog.0 in
    let more = matrix_of_round facts state (suc (suc before)) in
    let has : slice_get back.next.seats known.place ≡ Some (Some new) = subst (λ o. slice_get back.next.seats known.place ≡ Some o) is back.at in
    let its : place_of back.t.list new.prog.0 < length back.t.list = (course.made (suc before) back.next back.is).best.fair.allocation.own known.place back.t (Some new) back.there has in
    let left : place_of (again_list facts state before id old) new.prog.0 < length (again_list facts state before id old) = subst (λ l. place_of l new.prog.0 < length l) back.leaves its in
    let at_place = seat_at_place more (seek_after standing (Some k)) list new known.own.distinct left in
    let kept = left_kept more list standing (place_of list new.prog.0) k new.prog old.prog keeps at_place.there known.at.there at_place.left in
    record {
      place = kept.place;
      freeze = kept.freeze;
      slide = λ e.
          subst (λ (ps : List (List ℕ × Home)). are_together (slice_get ps new.prog.0) (slice_get ps old.prog.0) ≡ true) (course.programmes (suc (suc before))) (kept.slide e);
    }

-- the step from the round before a window to the one that its cut publishes
step_holds : (facts : SeasonFacts) (state : State) (before id : ℕ) → IsSound facts → ProgrammesChooseWell → ProgrammesGrow → IsCourse facts state → suc before < length state.rounds
    → FitAll facts state before → HoldsOn facts state (suc before) id
step_holds facts state before id sound well grow course less fit keeps =
    let standing = standing_then facts state (suc before) id in
    let has = held_seat (left_then facts state (suc before) id) standing (seat_in facts state.rounds (suc before) id) (course.answers (suc before) id) (fit id).has keeps in
    let old = some_seat (seat_in facts state.rounds (suc before) id) has in
    let known = seat_is facts state before id old.0 sound course old.1 in
    let back = returns facts state before id old.0 sound course less old.1 known in
    let new = some_held back.seat (never_without facts state before id old.0 sound well course old.1 known back keeps) in
    let seated : seat_in facts state.rounds (suc (suc before)) id ≡ Some new.0 =
    subst (λ n. seat_in facts state.rounds (suc (suc before)) n ≡ Some new.0) back.id_is
    (seat_there facts state.rounds (suc before) known.place back.next back.t.person back.seat sound back.is back.person_at back.at ∙ new.1) in
    (old.0, new.0, old.1, seated, no_worse facts state before id old.0 new.0 course known back keeps new.1)
  where
    some_seat : (seat : Option Seat) → IsSome seat → (held : Seat) × (seat ≡ Some held)
    some_seat None h = absurd (not_true h)
    some_seat (Some held) h = (held, refl)

    some_held : (seat : Option Seat) → (seat ≡ None → ⊥) → (held : Seat) × (seat ≡ Some held)
    some_held None h = absurd (h refl)
    some_held (Some held) h = (held, refl)

-- before the first round nobody keeps a seat
nobody_first : (facts : SeasonFacts) (state : State) (id : ℕ) → IsCourse facts state → holds (standing_then facts state 0 id) ≡ true → ⊥
nobody_first facts state id course keeps = not_true (held_seat Waiting (standing_then facts state 0 id) None (course.answers 0 id) (λ e. absurd (cc)) keeps)

-- the cut of a window fits, if a candidate who kept a seat then had one before and has one after
cut_holds : (facts : SeasonFacts) (state : State) (window id : ℕ) → HoldsOn facts state window id
    → FitsCut (left_then facts state (suc window) id) (seek_then facts state window id) (seat_in facts state.rounds (suc window) id)
cut_holds facts state window id on =
    cut_fits (standing_then facts state window id) (place_in (list_of facts.lists id) (seat_in facts state.rounds window id)) (seat_in facts state.rounds (suc window) id)
    (λ keeps. let h = on keeps in subst (λ o. IsSome (place_in (list_of facts.lists id) o)) (sym h.2) refl) (λ keeps. let h = on keeps in subst (λ o. IsSome o) (sym h.3) refl)

-- a candidate who keeps a seat at the cut of a window holds on
pub holds_on : (facts : SeasonFacts) (state : State) (window id : ℕ) → IsSound facts → ProgrammesChooseWell → ProgrammesGrow → IsCourse facts state → window < length state.rounds
    → HoldsOn facts state window id
holds_on facts state zero id sound well grow course less keeps = absurd (nobody_first facts state id course keeps)
holds_on facts state (suc before) id sound well grow course less keeps =
    step_holds facts state before id sound well grow course less (λ other. cut_holds facts state before other (holds_on facts state before other sound well grow course (omega (arith, less)))) keeps

-- the cut of every window fits
pub fit_all : (facts : SeasonFacts) (state : State) (before : ℕ) → IsSound facts → ProgrammesChooseWell → ProgrammesGrow → IsCourse facts state → before < length state.rounds → FitAll facts state before
fit_all facts state before sound well grow course less id = cut_holds facts state before id (holds_on facts state before id sound well grow course less)

-- a candidate who keeps a seat has one
pub holder_seated : (facts : SeasonFacts) (state : State) (window id : ℕ) → IsSound facts → ProgrammesChooseWell → ProgrammesGrow → IsCourse facts state → window ≤ length state.rounds
    → holds (standing_then facts state window id) ≡ true → IsSome (seat_in facts state.rounds window id)
holder_seated facts state zero id sound well grow course few keeps = absurd (nobody_first facts state id course keeps)
holder_seated facts state (suc before) id sound well grow course few keeps =
    held_seat (left_then facts state (suc before) id) (standing_then facts state (suc before) id) (seat_in facts state.rounds (suc before) id) (course.answers (suc before) id)
    (fit_all facts state before sound well grow course (omega (arith, few)) id).has keeps
