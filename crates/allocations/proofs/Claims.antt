-- An allocation is fair exactly where nobody has a justified claim and each programme admits all who hold a seat of it; and two best ones are one.
use Rattle.std.proofs.Common.{◌≡◌, ◌<◌, inl, inr, ℕ, Bool, true, false, List, Option, Some, None, length, arith, refl, sym, ap, ◌∙◌, subst, ◌==◌}
use Rattle.std.specs.Prelude.{slice_get, ◌||◌}
use Rattle.std.proofs.lemmas.Bool.{cases_Bool, eq-eqb, eqb-true, lt-ltb, or_cases, or_left, or_right}
use Rattle.office_base.specs.Lists.{IsAmong, IsSublist}
use Rattle.office_base.specs.declared.person.Person.{Person}
use Rattle.office_base.specs.declared.seat.Seat.{Seat}
use Rattle.placements.proofs.Convert.{same_cand}
use Rattle.allocations.specs.Market.{Seeker, place_of, rank_of, seat_at, wants, applies, is_of, those, applicants, holders, holders_and}
use Rattle.allocations.specs.Rule.{Rule, Refuses, IsRefusedBeside, ChoosesWell}
use Rattle.allocations.specs.Fair.{IsMarket, IsAllocation, IsFair, IsJustified, IsBest}
use Rattle.allocations.proofs.Those.{those_has, those_same, of_those, same_place, part, same_values, value_at}
use Rattle.allocations.proofs.Places.{same_tests, place_read, one_place, applies_true, applies_means, rank_within, holder_applies, applies_before, seat_same, of_seat, seat_of}

-- a test that only those pass who want the programme leaves some of those who may apply together
pub may_apply : {X : Type 0} (rule : Rule) (MayApply : ℕ → List Person → Type 0) (count p : ℕ) (f : Seeker → X → Bool) (seekers : List Seeker) (xs : List X)
    → IsMarket MayApply count seekers → ChoosesWell rule MayApply → p < count → length xs ≡ length seekers
    → ((i : ℕ) (s : Seeker) (x : X) → slice_get seekers i ≡ Some s → slice_get xs i ≡ Some x → f s x ≡ true → place_of s.list p < length s.list) → MayApply p (those f seekers xs)
may_apply rule MayApply count p f seekers xs market well below full passes =
    well.part p _ _ (market.may_apply p below) (part f (λ s other. wants p s.list) seekers xs seekers (sym full)
    (λ i s x y there at again h. lt-ltb _ _ (passes i s x there at h)))

pub applicants_may : (rule : Rule) (MayApply : ℕ → List Person → Type 0) (count p : ℕ) (seekers : List Seeker) (seats : List (Option Seat))
    → IsMarket MayApply count seekers → ChoosesWell rule MayApply → p < count → length seats ≡ length seekers → MayApply p (applicants p seekers seats)
applicants_may rule MayApply count p seekers seats market well below full =
    may_apply rule MayApply count p (λ s seat. applies p s.list seat) seekers seats market well below full (λ i s x there at h. (applies_means p s.list x h).wants)

pub holders_apply : (p : ℕ) (seekers : List Seeker) (seats : List (Option Seat)) → IsAllocation seekers seats → IsSublist (holders p seekers seats) (applicants p seekers seats)
holders_apply p seekers seats allocation =
    part (λ s seat. is_of p seat) (λ s seat. applies p s.list seat) seekers seats seats refl
    (λ i s x y there at again h.
    let same : x ≡ y = cc in
    subst (λ z. applies p s.list z ≡ true) same (holder_applies p s.list x (allocation.own i s x there at) h))

-- in a fair allocation, a person who applies and holds no seat of the programme is refused
pub outside_refused : (rule : Rule) (count p : ℕ) (seekers : List Seeker) (seats : List (Option Seat)) (some : List Person) → p < count → IsFair rule count seekers seats
    → ((i : ℕ) (s : Seeker) (seat : Option Seat) → slice_get seekers i ≡ Some s → slice_get seats i ≡ Some seat → is_of p seat ≡ true → IsAmong s.person some)
    → (x : Person) → IsAmong x (applicants p seekers seats) → (IsAmong x some → ⊥) → Refuses rule p (applicants p seekers seats) x
outside_refused rule count p seekers seats some below fair holds x among apart = λ kind admitted.
    let found = of_those (λ s seat. applies p s.list seat) seekers seats x among in
    let own = subst (λ z. rule p (applicants p seekers seats) z kind) found.person_is admitted in
    let seat = (fair.agrees p found.place found.s kind below found.there).0 own in
    let is_seat : found.value ≡ Some (seat_at p kind) = (let e = found.at in cc) in
    apart (subst (λ z. IsAmong z some) (sym found.person_is) (holds found.place found.s found.value found.there found.at (of_seat p found.value kind is_seat)))

among_holders : (p : ℕ) (seekers : List Seeker) (seats : List (Option Seat)) (i : ℕ) (s : Seeker) (seat : Option Seat) → slice_get seekers i ≡ Some s → slice_get seats i ≡ Some seat
    → is_of p seat ≡ true → IsAmong s.person (holders p seekers seats)
among_holders p seekers seats i s seat there at h = those_has (λ s seat. is_of p seat) seekers seats i s seat there at h

among_holders_and : (p id : ℕ) (seekers : List Seeker) (seats : List (Option Seat)) (i : ℕ) (s : Seeker) (seat : Option Seat) → slice_get seekers i ≡ Some s → slice_get seats i ≡ Some seat
    → is_of p seat ≡ true → IsAmong s.person (holders_and p id seekers seats)
among_holders_and p id seekers seats i s seat there at h = those_has (λ s seat. is_of p seat || s.person.id.0 == id) seekers seats i s seat there at (or_left _ _ h)

-- the seeker of an id, and those who hold a seat, apply where the seeker does
holders_and_apply : (MayApply : ℕ → List Person → Type 0) (count p i : ℕ) (seekers : List Seeker) (seats : List (Option Seat)) (s : Seeker) (seat : Option Seat) → IsMarket MayApply count seekers
    → IsAllocation seekers seats → slice_get seekers i ≡ Some s → slice_get seats i ≡ Some seat → applies p s.list seat ≡ true
    → IsSublist (holders_and p s.person.id.0 seekers seats) (applicants p seekers seats)
holders_and_apply MayApply count p i seekers seats s seat market allocation there has applied =
    part (λ t other. is_of p other || t.person.id.0 == s.person.id.0) (λ t other. applies p t.list other) seekers seats seats refl
    (λ j t x y there' at again h.
    let same : x ≡ y = cc in
    subst (λ z. applies p t.list z ≡ true) same
    (elim (or_cases (is_of p x) (t.person.id.0 == s.person.id.0) h) [
      | inl holds ↦ holder_applies p t.list x (allocation.own j t x there' at) holds
      | inr id ↦ applied_by MayApply count p i j seekers seats s t seat x market there has there' at (eqb-true _ _ id) applied
    ]))
  where
    applied_by : (MayApply : ℕ → List Person → Type 0) (count p i j : ℕ) (seekers : List Seeker) (seats : List (Option Seat)) (s t : Seeker) (seat x : Option Seat) → IsMarket MayApply count seekers
        → slice_get seekers i ≡ Some s → slice_get seats i ≡ Some seat → slice_get seekers j ≡ Some t → slice_get seats j ≡ Some x → t.person.id.0 ≡ s.person.id.0
        → applies p s.list seat ≡ true → applies p t.list x ≡ true
    applied_by MayApply count p i j seekers seats s t seat x market there has there' at id applied =
        let one : i ≡ j = same_place seekers i j s t market.ids there there' (same_cand _ _ (sym id)) in
        let there'' : slice_get seekers i ≡ Some t = subst (λ k. slice_get seekers k ≡ Some t) (sym one) there' in
        let at' : slice_get seats i ≡ Some x = subst (λ k. slice_get seats k ≡ Some x) (sym one) at in
        let seeker : s ≡ t = cc in
        let value : seat ≡ x = cc in
        let first = subst (λ z. applies p s.list z ≡ true) value applied in
        subst (λ (z : Seeker). applies p z.list x ≡ true) seeker first

-- A fair allocation is justified.
pub fair_justified : (rule : Rule) (MayApply : ℕ → List Person → Type 0) (count : ℕ) (seekers : List Seeker) (seats : List (Option Seat)) → IsMarket MayApply count seekers
    → ChoosesWell rule MayApply → IsFair rule count seekers seats → IsJustified rule count seekers seats
fair_justified rule MayApply count seekers seats market well fair = record {
  allocation = fair.allocation;
  no_claim = λ p i below claim.
      let own = fair.allocation.own i claim.s claim.seat claim.there claim.has in
      let less : place_of claim.s.list p < length claim.s.list = omega (arith, claim.before, rank_within claim.s.list claim.seat own) in
      let applied = applies_true p claim.s.list claim.seat less (omega (arith, claim.before)) in
      let may = applicants_may rule MayApply count p seekers seats market well below fair.allocation.full in
      let within = holders_and_apply MayApply count p i seekers seats claim.s claim.seat market fair.allocation claim.there claim.has applied in
      let outside = outside_refused rule count p seekers seats (holders_and p claim.s.person.id.0 seekers seats) below fair (among_holders_and p claim.s.person.id.0 seekers seats) in
      let admitted = (well.without p _ _ may within outside claim.s.person claim.kind).0 claim.admitted in
      let seat = (fair.agrees p i claim.s claim.kind below claim.there).0 admitted in
      let is_seat : claim.seat ≡ Some (seat_at p claim.kind) = (let e = claim.has in cc) in
      let rank : rank_of claim.s.list claim.seat ≡ place_of claim.s.list p = ap (λ z. rank_of claim.s.list z) is_seat in
      omega (arith, rank, claim.before);
  keeps = λ p i s kind below there has.
      let may = applicants_may rule MayApply count p seekers seats market well below fair.allocation.full in
      let outside = outside_refused rule count p seekers seats (holders p seekers seats) below fair (among_holders p seekers seats) in
      (well.without p _ _ may (holders_apply p seekers seats fair.allocation) outside s.person kind).1 ((fair.agrees p i s kind below there).1 has);
}

-- a person who applies and holds no seat of the programme is refused next to those who do, if nobody has a claim
beside : (rule : Rule) (MayApply : ℕ → List Person → Type 0) (count p : ℕ) (seekers : List Seeker) (seats : List (Option Seat)) → p < count → IsMarket MayApply count seekers
    → IsJustified rule count seekers seats → (x : Person) → IsAmong x (applicants p seekers seats) → (IsAmong x (holders p seekers seats) → ⊥)
    → IsRefusedBeside rule p (holders p seekers seats) (applicants p seekers seats) x
beside rule MayApply count p seekers seats below market just x among apart =
    let found = of_those (λ s seat. applies p s.list seat) seekers seats x among in
    let is_no : is_of p found.value ≡ false = elim (cases_Bool (is_of p found.value)) [
      | inl is_yes ↦ absurd (apart (subst (λ z. IsAmong z (holders p seekers seats)) (sym found.person_is)
          (among_holders p seekers seats found.place found.s found.value found.there found.at is_yes)))
      | inr is_no ↦ is_no
    ] in
    let id = found.s.person.id.0 in
    record {
      people = holders_and p id seekers seats;
      some_within = part (λ s seat. is_of p seat) (λ s seat. is_of p seat || s.person.id.0 == id) seekers seats seats refl
          (λ i s y z there at again h.
          let same : y ≡ z = cc in
          or_left (is_of p z) (s.person.id.0 == id) (subst (λ w. is_of p w ≡ true) same h));
      within = holders_and_apply MayApply count p found.place seekers seats found.s found.value market just.allocation found.there found.at found.passes;
      there = subst (λ z. IsAmong z (holders_and p id seekers seats)) (sym found.person_is)
          (those_has (λ s seat. is_of p seat || s.person.id.0 == id) seekers seats found.place found.s found.value found.there found.at (or_right _ _ (eq-eqb id id refl)));
      refused = λ kind admitted. just.no_claim p found.place below (record {
        s = found.s;
        there = found.there;
        seat = found.value;
        has = found.at;
        before = applies_before p found.s.list found.value (applies_means p found.s.list found.value found.passes) is_no;
        kind = kind;
        admitted = subst (λ z. rule p (holders_and p id seekers seats) z kind) found.person_is admitted;
      });
    }

-- a person who holds no seat of the programme is not among those who do
no_holder : (MayApply : ℕ → List Person → Type 0) (count p i : ℕ) (seekers : List Seeker) (seats : List (Option Seat)) (s : Seeker) (seat : Option Seat) → IsMarket MayApply count seekers
    → slice_get seekers i ≡ Some s → slice_get seats i ≡ Some seat → is_of p seat ≡ false → IsAmong s.person (holders p seekers seats) → ⊥
no_holder MayApply count p i seekers seats s seat market there has is_no among =
    let found = of_those (λ s seat. is_of p seat) seekers seats s.person among in
    let one : i ≡ found.place = same_place seekers i found.place s found.s market.ids there found.there (ap (λ (z : Person). z.id) found.person_is) in
    let at : slice_get seats i ≡ Some found.value = subst (λ k. slice_get seats k ≡ Some found.value) (sym one) found.at in
    let value : seat ≡ found.value = cc in
    let is_yes : is_of p seat ≡ true = subst (λ z. is_of p z ≡ true) (sym value) found.passes in
    cc

-- A justified allocation is fair.
pub justified_fair : (rule : Rule) (MayApply : ℕ → List Person → Type 0) (count : ℕ) (seekers : List Seeker) (seats : List (Option Seat)) → IsMarket MayApply count seekers
    → ChoosesWell rule MayApply → IsJustified rule count seekers seats → IsFair rule count seekers seats
justified_fair rule MayApply count seekers seats market well just = record {
  allocation = just.allocation;
  agrees = λ p i s kind below there.
      let full = just.allocation.full in
      let may = applicants_may rule MayApply count p seekers seats market well below full in
      let within = holders_apply p seekers seats just.allocation in
      let refused = well.together p (holders p seekers seats) (applicants p seekers seats) may within (beside rule MayApply count p seekers seats below market just) in
      let same = well.without p (holders p seekers seats) (applicants p seekers seats) may within refused in
      let has = value_at seekers seats i s full there in (
        λ admitted. elim (cases_Bool (is_of p has.0)) [
          | inl is_yes ↦
              let seat = seat_of p has.0 is_yes in
              let held : slice_get seats i ≡ Some (Some (seat_at p seat.0)) = has.1 ∙ ap Some seat.1 in
              let kept = (same s.person seat.0).0 (just.keeps p i s seat.0 below there held) in
              let one : seat.0 ≡ kind = well.one_step p _ s.person seat.0 kind may kept admitted in
              subst (λ k. slice_get seats i ≡ Some (Some (seat_at p k))) one held
          | inr is_no ↦ absurd (refused s.person (well.among p _ s.person kind may admitted) (no_holder MayApply count p i seekers seats s has.0 market there has.1 is_no) kind admitted)
        ],
        λ held. (same s.person kind).0 (just.keeps p i s kind below there held),
      );
}

-- of two best allocations, each seeker has the same place of the list
same_rank : (rule : Rule) (count : ℕ) (seekers : List Seeker) (seats others : List (Option Seat)) → IsBest rule count seekers seats → IsBest rule count seekers others
    → (i : ℕ) (s : Seeker) (seat other : Option Seat) → slice_get seekers i ≡ Some s → slice_get seats i ≡ Some seat → slice_get others i ≡ Some other → rank_of s.list seat ≡ rank_of s.list other
same_rank rule count seekers seats others first second i s seat other there at at' =
    let a = first.best others second.fair i s seat other there at at' in
    let b = second.best seats first.fair i s other seat there at' at in
    omega (arith, a, b)

-- equal places give equal applicants
same_applicants : (p : ℕ) (seekers : List Seeker) (seats others : List (Option Seat)) → length others ≡ length seats
    → ((i : ℕ) (s : Seeker) (seat other : Option Seat) → slice_get seekers i ≡ Some s → slice_get seats i ≡ Some seat → slice_get others i ≡ Some other
    → rank_of s.list seat ≡ rank_of s.list other)
    → applicants p seekers seats ≡ applicants p seekers others
same_applicants p seekers seats others full same =
    those_same (λ s seat. applies p s.list seat) (λ s seat. applies p s.list seat) seekers seats others full
    (λ i s x y there at at'. let e = same i s x y there at at' in
    same_tests _ _
    (λ h. let a = applies_means p s.list x h in applies_true p s.list y a.wants (omega (arith, a.within, e)))
    (λ h. let a = applies_means p s.list y h in applies_true p s.list x a.wants (omega (arith, a.within, e))))

same_seat : (rule : Rule) (MayApply : ℕ → List Person → Type 0) (count : ℕ) (seekers : List Seeker) (seats others : List (Option Seat)) → IsMarket MayApply count seekers
    → ChoosesWell rule MayApply → IsFair rule count seekers seats → IsFair rule count seekers others
    → ((p : ℕ) → applicants p seekers seats ≡ applicants p seekers others)
    → (i : ℕ) (s : Seeker) (x y : Option Seat) → slice_get seekers i ≡ Some s → slice_get seats i ≡ Some x → slice_get others i ≡ Some y → rank_of s.list x ≡ rank_of s.list y → x ≡ y
same_seat rule MayApply count seekers seats others market well fair fair' same i s None None there at at' rank = refl
same_seat rule MayApply count seekers seats others market well fair fair' same i s None (Some y) there at at' rank =
    absurd (let own = fair'.allocation.own i s (Some y) there at' in omega (arith, own, rank))
same_seat rule MayApply count seekers seats others market well fair fair' same i s (Some x) None there at at' rank =
    absurd (let own = fair.allocation.own i s (Some x) there at in omega (arith, own, rank))
same_seat rule MayApply count seekers seats others market well fair fair' same i s (Some x) (Some y) there at at' rank =
    let own : place_of s.list x.prog.0 < length s.list = fair.allocation.own i s (Some x) there at in
    let prog : x.prog.0 ≡ y.prog.0 = one_place s.list x.prog.0 y.prog.0 own rank in
    let read = place_read s.list x.prog.0 own in
    let below : x.prog.0 < count = subst (λ n. n < count) read.2 (market.below i _ s read.0 there read.1) in
    let first = (fair.agrees x.prog.0 i s x.step below there).1 at in
    let at'' : slice_get others i ≡ Some (Some (seat_at x.prog.0 y.step)) = subst (λ p. slice_get others i ≡ Some (Some (seat_at p y.step))) (sym prog) at' in
    let second = (fair'.agrees x.prog.0 i s y.step below there).1 at'' in
    let second' = subst (λ people. rule x.prog.0 people s.person y.step) (sym (same x.prog.0)) second in
    let may = applicants_may rule MayApply count x.prog.0 seekers seats market well below fair.allocation.full in
    ap Some (seat_same x y prog (well.one_step x.prog.0 _ s.person x.step y.step may first second'))

-- Two best allocations are one.
pub one_best : (rule : Rule) (MayApply : ℕ → List Person → Type 0) (count : ℕ) (seekers : List Seeker) (seats others : List (Option Seat)) → IsMarket MayApply count seekers
    → ChoosesWell rule MayApply → IsBest rule count seekers seats → IsBest rule count seekers others → seats ≡ others
one_best rule MayApply count seekers seats others market well first second =
    let ranks = same_rank rule count seekers seats others first second in
    let full = first.fair.allocation.full in
    let full' = second.fair.allocation.full in
    let same : (p : ℕ) → applicants p seekers seats ≡ applicants p seekers others = λ p. same_applicants p seekers seats others (full' ∙ sym full) ranks in
    same_values seekers seats others full full'
    (λ i s x y there at at'. same_seat rule MayApply count seekers seats others market well first.fair second.fair same i s x y there at at' (ranks i s x y there at at'))
