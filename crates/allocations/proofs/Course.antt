-- The course of the applications: it begins, goes on by one offer, and ends with the best allocation.
use Rattle.std.proofs.Common.{◌≡◌, ◌≢◌, ◌<◌, ◌≤◌, ◌+◌, ◌-◌, ◌⊎◌, inl, inr, ℕ, zero, suc, true, List, [], ◌∷◌, Option, Some, None, length, slice_set, arith, refl, sym, ap, ◌∙◌, subst, nat_lt, length-set}
use Rattle.std.specs.Prelude.{slice_get}
use Rattle.std.proofs.lemmas.Bool.{lt-ltb, ltb-true}
use Rattle.std.proofs.lemmas.Bool.Decides.{nat_tests, eqb_tells}
use Rattle.office_base.specs.Lists.{IsAmong}
use Rattle.office_base.specs.declared.person.Person.{Person}
use Rattle.office_base.specs.declared.person.ProgId.{ProgId}
use Rattle.office_base.specs.declared.seat.Seat.{Seat}
use Rattle.office_base.specs.declared.seat.SeatKind.{SeatKind}
use Rattle.office_base.proofs.Lists.{get_set_other}
use Rattle.allocations.specs.Market.{Seeker, place_of, rank_of, seat_at, applies, those, applicants}
use Rattle.allocations.specs.Rule.{Rule, Admits, Refuses, ChoosesWell}
use Rattle.allocations.specs.Fair.{IsMarket, IsOwn, IsFair, IsBest}
use Rattle.allocations.specs.Course.{tried, IsHeld, IsUnderway, IsSettled, AreSeatsOf, places_left, places, IsWith, MayTry}
use Rattle.allocations.proofs.Those.{those_has, those_same, of_those, same_place, part, value_at}
use Rattle.allocations.proofs.Places.{same_tests, one_place, applies_true, applies_means, rank_within}
use Rattle.allocations.proofs.Claims.{may_apply, applicants_may}

-- ---- who tried

pub tried_may : (rule : Rule) (MayApply : ℕ → List Person → Type 0) (count p : ℕ) (seekers : List Seeker) (next : List ℕ) → IsMarket MayApply count seekers → ChoosesWell rule MayApply
    → p < count → length next ≡ length seekers → ((i n : ℕ) (s : Seeker) → slice_get seekers i ≡ Some s → slice_get next i ≡ Some n → n ≤ length s.list)
    → MayApply p (tried p seekers next)
tried_may rule MayApply count p seekers next market well below full within =
    may_apply rule MayApply count p (λ s n. nat_lt (place_of s.list p) n) seekers next market well below full
    (λ i s n there at h. let e = ltb-true _ _ h in let short = within i n s there at in omega (arith, e, short))

-- a seeker who tried a programme, by the place
tried_at : (MayApply : ℕ → List Person → Type 0) (count p i n : ℕ) (seekers : List Seeker) (next : List ℕ) (s : Seeker) → IsMarket MayApply count seekers → slice_get seekers i ≡ Some s
    → slice_get next i ≡ Some n → IsAmong s.person (tried p seekers next) → place_of s.list p < n
tried_at MayApply count p i n seekers next s market there at among =
    let found = of_those (λ s n. nat_lt (place_of s.list p) n) seekers next s.person among in
    let one : i ≡ found.place = same_place seekers i found.place s found.s market.ids there found.there (ap (λ (z : Person). z.id) found.person_is) in
    let there' : slice_get seekers i ≡ Some found.s = subst (λ k. slice_get seekers k ≡ Some found.s) (sym one) found.there in
    let at' : slice_get next i ≡ Some found.value = subst (λ k. slice_get next k ≡ Some found.value) (sym one) found.at in
    let seeker : s ≡ found.s = cc in
    let value : n ≡ found.value = cc in
    let less = ltb-true _ _ found.passes in
    let less' : place_of s.list p < found.value = subst (λ (z : Seeker). place_of z.list p < found.value) (sym seeker) less in
    omega (arith, less', value)

-- ---- the beginning

-- Where nobody tried anything yet, the course is underway.
pub begins : (rule : Rule) (MayApply : ℕ → List Person → Type 0) (count : ℕ) (seekers : List Seeker) (next : List ℕ) → IsMarket MayApply count seekers → ChoosesWell rule MayApply
    → length next ≡ length seekers → ((i n : ℕ) → slice_get next i ≡ Some n → n ≡ 0) → IsUnderway rule count seekers next
begins rule MayApply count seekers next market well full none =
    let within : (i n : ℕ) (s : Seeker) → slice_get seekers i ≡ Some s → slice_get next i ≡ Some n → n ≤ length s.list = λ i n s there at. let e = none i n at in omega (arith, e) in
    record {
      full = full;
      within = within;
      last = λ p i n s kind below there at admitted. absurd (
          let may = tried_may rule MayApply count p seekers next market well below full within in
          let among = well.among p _ s.person kind may admitted in
          let less = tried_at MayApply count p i n seekers next s market there at among in
          let e = none i n at in
          omega (arith, less, e));
      no_better = λ others i n s seat fair there at has. let e = none i n at in (omega (arith, e), inr (omega (arith, e)));
    }

-- ---- one offer

pub get_set_same : {X : Type 0} (xs : List X) (i : ℕ) (x y : X) → slice_get xs i ≡ Some y → slice_get (slice_set xs i x) i ≡ Some x
get_set_same [] i x y at = absurd (cc)
get_set_same (z ∷ xs) zero x y at = refl
get_set_same (z ∷ xs) (suc i) x y at = get_set_same xs i x y at

-- the number at a place after one was set: the new one there, else the old one
pub at_set : (next : List ℕ) (i j m n k : ℕ) → slice_get next i ≡ Some m → slice_get (slice_set next i n) j ≡ Some k → ((j ≡ i) × (k ≡ n)) ⊎ ((j ≢ i) × (slice_get next j ≡ Some k))
at_set next i j m n k old at = elim (eqb_tells j i) [
  | inl h ↦
      let here : slice_get (slice_set next i n) i ≡ Some k = subst (λ z. slice_get (slice_set next i n) z ≡ Some k) h.1 at in
      let e = get_set_same next i n m old in
      inl (h.1, cc)
  | inr h ↦ inr (h.1, sym (get_set_other next i j n h.1) ∙ at)
]

-- below one more than n is as below n, but for n
pub lt_next : (k n : ℕ) → k ≢ n → nat_lt k (n + 1) ≡ nat_lt k n
lt_next k n other = grind (arith, nat_tests)

-- who tried another programme is as before
pub tried_other : (p i n : ℕ) (seekers : List Seeker) (next : List ℕ) (s : Seeker) → slice_get seekers i ≡ Some s → slice_get next i ≡ Some n → place_of s.list p ≢ n
    → tried p seekers (slice_set next i (n + 1)) ≡ tried p seekers next
tried_other p i n seekers next s there at other =
    those_same (λ s n. nat_lt (place_of s.list p) n) (λ s n. nat_lt (place_of s.list p) n) seekers (slice_set next i (n + 1)) next (sym (length-set next i (n + 1)))
    (λ j t k m there' at' before. elim (at_set next i j n (n + 1) k at at') [
      | inl h ↦
          let seeker : t ≡ s = (let e : slice_get seekers i ≡ Some t = subst (λ z. slice_get seekers z ≡ Some t) h.0 there' in cc) in
          let value : m ≡ n = (let e : slice_get next i ≡ Some m = subst (λ z. slice_get next z ≡ Some m) h.0 before in cc) in
          let place : place_of t.list p ≡ place_of s.list p = ap (λ (z : Seeker). place_of z.list p) seeker in
          let apart : place_of t.list p ≢ n = λ e. other (sym place ∙ e) in
          (ap (λ z. nat_lt (place_of t.list p) z) h.1 ∙ lt_next _ n apart) ∙ ap (λ z. nat_lt (place_of t.list p) z) (sym value)
      | inr h ↦ let value : k ≡ m = (let e = h.1 in cc) in ap (λ z. nat_lt (place_of t.list p) z) value
    ])

-- who tried the programme before tried it still, and the seeker now
pub tried_with : (MayApply : ℕ → List Person → Type 0) (count p i n : ℕ) (seekers : List Seeker) (next : List ℕ) (s : Seeker) → IsMarket MayApply count seekers → slice_get seekers i ≡ Some s
    → slice_get next i ≡ Some n → place_of s.list p ≡ n → IsWith s.person (tried p seekers next) (tried p seekers (slice_set next i (n + 1)))
tried_with MayApply count p i n seekers next s market there at place = record {
  within = part (λ s n. nat_lt (place_of s.list p) n) (λ s n. nat_lt (place_of s.list p) n) seekers next (slice_set next i (n + 1)) (length-set next i (n + 1))
      (λ j t m k there' before at' h. elim (at_set next i j n (n + 1) k at at') [
        | inl e ↦
            let value : m ≡ n = (let e' : slice_get next i ≡ Some m = subst (λ z. slice_get next z ≡ Some m) e.0 before in cc) in
            let less = ltb-true _ _ h in
            lt-ltb _ _ (omega (arith, less, value, e.1))
        | inr e ↦ let value : m ≡ k = (let e' = e.1 in cc) in subst (λ z. nat_lt (place_of t.list p) z ≡ true) value h
      ]);
  there = those_has (λ s n. nat_lt (place_of s.list p) n) seekers (slice_set next i (n + 1)) i s (n + 1) there (get_set_same next i (n + 1) n at) (lt-ltb _ _ (omega (arith, place)));
  fresh = λ among. let less = tried_at MayApply count p i n seekers next s market there at among in omega (arith, less, place);
  only = λ x among.
      let found = of_those (λ s n. nat_lt (place_of s.list p) n) seekers (slice_set next i (n + 1)) x among in
      elim (at_set next i found.place n (n + 1) found.value at found.at) [
        | inl e ↦
            let seeker : found.s ≡ s = (let e' : slice_get seekers i ≡ Some found.s = subst (λ z. slice_get seekers z ≡ Some found.s) e.0 found.there in cc) in
            inr (found.person_is ∙ ap (λ (z : Seeker). z.person) seeker)
        | inr e ↦ inl (subst (λ z. IsAmong z (tried p seekers next)) (sym found.person_is)
            (those_has (λ s n. nat_lt (place_of s.list p) n) seekers next found.place found.s found.value found.there e.1 found.passes))
      ];
}

-- after an offer to one programme, everybody is at the same place as before, or one place further
bound_set : (rule : Rule) (MayApply : ℕ → List Person → Type 0) (count p i n : ℕ) (seekers : List Seeker) (next : List ℕ) (s : Seeker) → IsUnderway rule count seekers next
    → MayTry rule count seekers next i p n s → (others : List (Option Seat)) (j k : ℕ) (t : Seeker) (seat : Option Seat) → IsFair rule count seekers others
    → slice_get seekers j ≡ Some t → slice_get (slice_set next i (n + 1)) j ≡ Some k → slice_get others j ≡ Some seat → k ≤ rank_of t.list seat + 1
bound_set rule MayApply count p i n seekers next s underway try others j k t seat fair there at has =
    elim (at_set next i j n (n + 1) k try.at at) [
      | inl h ↦
          let there' : slice_get seekers i ≡ Some t = subst (λ z. slice_get seekers z ≡ Some t) h.0 there in
          let has' : slice_get others i ≡ Some seat = subst (λ z. slice_get others z ≡ Some seat) h.0 has in
          let seeker : s ≡ t = (let e = try.there in cc) in
          let old = underway.no_better others i n s seat fair try.there try.at has' in
          let short : n ≤ rank_of s.list seat = elim old.1 [ inl held ↦ absurd (try.free held) | inr short ↦ short ] in
          let short' : n ≤ rank_of t.list seat = subst (λ (z : Seeker). n ≤ rank_of z.list seat) seeker short in
          omega (arith, short', h.1)
      | inr h ↦ (underway.no_better others j k t seat fair there h.1 has).0
    ]

within_set : (rule : Rule) (count p i n : ℕ) (seekers : List Seeker) (next : List ℕ) (s : Seeker) → IsUnderway rule count seekers next → MayTry rule count seekers next i p n s
    → (j k : ℕ) (t : Seeker) → slice_get seekers j ≡ Some t → slice_get (slice_set next i (n + 1)) j ≡ Some k → k ≤ length t.list
within_set rule count p i n seekers next s underway try j k t there at =
    elim (at_set next i j n (n + 1) k try.at at) [
      | inl h ↦
          let there' : slice_get seekers i ≡ Some t = subst (λ z. slice_get seekers z ≡ Some t) h.0 there in
          let seeker : s ≡ t = (let e = try.there in cc) in
          let less : n < length t.list = subst (λ (z : Seeker). n < length z.list) seeker try.less in
          omega (arith, less, h.1)
      | inr h ↦ underway.within j k t there h.1
    ]

-- a person whom the programme refuses, from those who tried it, has no seat of it in any fair allocation
not_there : (rule : Rule) (MayApply : ℕ → List Person → Type 0) (count p j k : ℕ) (seekers : List Seeker) (next : List ℕ) (t : Seeker) (others : List (Option Seat)) (seat : Option Seat) (kind : SeatKind)
    → IsMarket MayApply count seekers → ChoosesWell rule MayApply → p < count → length next ≡ length seekers
    → ((i m : ℕ) (s : Seeker) → slice_get seekers i ≡ Some s → slice_get next i ≡ Some m → m ≤ length s.list)
    → ((i m : ℕ) (s : Seeker) (x : Option Seat) → slice_get seekers i ≡ Some s → slice_get next i ≡ Some m → slice_get others i ≡ Some x → m ≤ rank_of s.list x + 1)
    → IsFair rule count seekers others → slice_get seekers j ≡ Some t → slice_get next j ≡ Some k → place_of t.list p < k
    → Refuses rule p (tried p seekers next) t.person → slice_get others j ≡ Some (Some (seat_at p kind)) → ⊥
not_there rule MayApply count p j k seekers next t others seat kind market well below full within bound fair there at tries refused has =
    let fulls = fair.allocation.full in
    let may = applicants_may rule MayApply count p seekers others market well below fulls in
    let some = part (λ s n. nat_lt (place_of s.list p) n) (λ s seat. applies p s.list seat) seekers next others (fulls ∙ sym full)
    (λ i s m x there' at' has' h.
    let less = ltb-true _ _ h in
    let short = within i m s there' at' in
    let near = bound i m s x there' at' has' in
    applies_true p s.list x (omega (arith, less, short)) (omega (arith, less, near))) in
    let among = those_has (λ s n. nat_lt (place_of s.list p) n) seekers next j t k there at (lt-ltb _ _ tries) in
    let admitted : Admits rule p (applicants p seekers others) t.person = (kind, (fair.agrees p j t kind below there).1 has) in
    let again = well.fewer p _ _ t.person may some among admitted in
    refused again.0 again.1

-- a place that is not that of the seeker's own seat is before it, if it is not after it
before_seat : (p n : ℕ) (list : List ProgId) (seat : Option Seat) → place_of list p < length list → n ≡ place_of list p + 1 → n ≤ rank_of list seat + 1
    → ((kind : SeatKind) → seat ≡ Some (seat_at p kind) → ⊥) → n ≤ rank_of list seat
before_seat p n list None less place near apart = (let near' : n ≤ length list + 1 = near in omega (arith, less, place))
before_seat p n list (Some seat) less place near apart = elim (eqb_tells (place_of list p) (place_of list seat.prog.0)) [
  | inl h ↦ absurd (
      let prog : p ≡ seat.prog.0 = one_place list p seat.prog.0 less h.1 in
      apart seat.step (ap (λ z. Some (seat_at z seat.step)) (sym prog)))
  | inr h ↦ (let near' : n ≤ place_of list seat.prog.0 + 1 = near in let other = h.1 in omega (arith, place, near', other))
]

-- a person whom the programme holds or refuses, from those who tried it last
held_or_before : (rule : Rule) (MayApply : ℕ → List Person → Type 0) (count p j k : ℕ) (seekers : List Seeker) (next : List ℕ) (t : Seeker) (others : List (Option Seat)) (seat : Option Seat)
    → IsMarket MayApply count seekers → ChoosesWell rule MayApply → p < count → length next ≡ length seekers
    → ((i m : ℕ) (s : Seeker) → slice_get seekers i ≡ Some s → slice_get next i ≡ Some m → m ≤ length s.list)
    → ((i m : ℕ) (s : Seeker) (x : Option Seat) → slice_get seekers i ≡ Some s → slice_get next i ≡ Some m → slice_get others i ≡ Some x → m ≤ rank_of s.list x + 1)
    → IsFair rule count seekers others → slice_get seekers j ≡ Some t → slice_get next j ≡ Some k → slice_get others j ≡ Some seat → k ≡ place_of t.list p + 1
    → IsHeld rule count seekers next t k ⊎ (k ≤ rank_of t.list seat)
held_or_before rule MayApply count p j k seekers next t others seat market well below full within bound fair there at has place =
    let may = tried_may rule MayApply count p seekers next market well below full within in
    let short = within j k t there at in
    let near = bound j k t seat there at has in
    elim (well.decided p (tried p seekers next) t.person may) [
      | inl admitted ↦ inl (p, below, place, admitted)
      | inr refused ↦ inr (before_seat p k t.list seat (omega (arith, short, place)) place near
          (λ kind e. not_there rule MayApply count p j k seekers next t others seat kind market well below full within bound fair there at (omega (arith, place)) refused (has ∙ ap Some e)))
    ]

-- One offer: the seeker at this place, who is not held, tries the next programme of their list. The course is
-- still underway.
pub goes_on : (rule : Rule) (MayApply : ℕ → List Person → Type 0) (count p i n : ℕ) (seekers : List Seeker) (next : List ℕ) (s : Seeker) → IsMarket MayApply count seekers
    → ChoosesWell rule MayApply → IsUnderway rule count seekers next → MayTry rule count seekers next i p n s → IsUnderway rule count seekers (slice_set next i (n + 1))
goes_on rule MayApply count p i n seekers next s market well underway try =
    let after = slice_set next i (n + 1) in
    let full : length after ≡ length seekers = length-set next i (n + 1) ∙ underway.full in
    let within = within_set rule count p i n seekers next s underway try in
    let bound = bound_set rule MayApply count p i n seekers next s underway try in
    let with_one = tried_with MayApply count p i n seekers next s market try.there try.at try.place in
    let may = tried_may rule MayApply count p seekers after market well try.below full within in
    let other : (q : ℕ) → q ≢ p → tried q seekers after ≡ tried q seekers next = λ q apart.
    tried_other q i n seekers next s try.there try.at (λ e. apart (sym (one_place s.list p q (omega (arith, try.place, try.less)) (try.place ∙ sym e)))) in
    record {
      full = full;
      within = within;
      last = λ q j k t kind below there at admitted. elim (eqb_tells q p) [
        | inl h ↦
            let admitted' : rule p (tried p seekers after) t.person kind = subst (λ z. rule z (tried z seekers after) t.person kind) h.1 admitted in
            let among = well.among p _ t.person kind may admitted' in
            elim (at_set next i j n (n + 1) k try.at at) [
              | inl e ↦
                  let there' : slice_get seekers i ≡ Some t = subst (λ z. slice_get seekers z ≡ Some t) e.0 there in
                  let seeker : s ≡ t = (let e' = try.there in cc) in
                  let place : place_of t.list p ≡ n = subst (λ (z : Seeker). place_of z.list p ≡ n) seeker try.place in
                  let place' : place_of t.list q ≡ n = ap (λ z. place_of t.list z) h.1 ∙ place in
                  omega (arith, place', e.1)
              | inr e ↦
                  let old : IsAmong t.person (tried p seekers next) = elim (with_one.only t.person among) [
                    | inl there_too ↦ there_too
                    | inr same ↦ absurd (e.0 (same_place seekers j i t s market.ids there try.there (ap (λ (z : Person). z.id) same)))
                  ] in
                  let fewer = well.fewer p _ _ t.person may with_one.within old (kind, admitted') in
                  let found = underway.last p j k t fewer.0 try.below there e.1 fewer.1 in
                  subst (λ z. k ≡ place_of t.list z + 1) (sym h.1) found
            ]
        | inr h ↦
            let admitted' : rule q (tried q seekers next) t.person kind = subst (λ people. rule q people t.person kind) (other q h.1) admitted in
            elim (at_set next i j n (n + 1) k try.at at) [
              | inl e ↦ absurd (
                  let there' : slice_get seekers i ≡ Some t = subst (λ z. slice_get seekers z ≡ Some t) e.0 there in
                  let seeker : t ≡ s = (let e' = try.there in cc) in
                  let mine : rule q (tried q seekers next) s.person kind = subst (λ (z : Seeker). rule q (tried q seekers next) z.person kind) seeker admitted' in
                  let found = underway.last q i n s kind below try.there try.at mine in
                  try.free (q, below, found, (kind, mine)))
              | inr e ↦ underway.last q j k t kind below there e.1 admitted'
            ]
      ];
      no_better = λ others j k t seat fair there at has. (
        bound others j k t seat fair there at has,
        elim (at_set next i j n (n + 1) k try.at at) [
          | inl e ↦
              let there' : slice_get seekers i ≡ Some t = subst (λ z. slice_get seekers z ≡ Some t) e.0 there in
              let seeker : s ≡ t = (let e' = try.there in cc) in
              let place : place_of t.list p ≡ n = subst (λ (z : Seeker). place_of z.list p ≡ n) seeker try.place in
              held_or_before rule MayApply count p j k seekers after t others seat market well try.below full within (λ i' m z x. bound others i' m z x fair) fair there at has (omega (arith, place, e.1))
          | inr e ↦ elim (underway.no_better others j k t seat fair there e.1 has).1 [
            | inl held ↦ elim (eqb_tells held.0 p) [
              | inl h ↦
                  let place : k ≡ place_of t.list p + 1 = subst (λ z. k ≡ place_of t.list z + 1) h.1 held.2 in
                  held_or_before rule MayApply count p j k seekers after t others seat market well try.below full within (λ i' m z x. bound others i' m z x fair) fair there at has place
              | inr h ↦ inl (held.0, held.1, held.2, (held.3.0, subst (λ people. rule held.0 people t.person held.3.0) (sym (other held.0 h.1)) held.3.1))
            ]
            | inr short ↦ inr short
          ]
        ],
      );
    }

-- ---- the end

-- if all are settled, everyone who tried a programme applies to it
pub settled_applicants : (rule : Rule) (MayApply : ℕ → List Person → Type 0) (count p : ℕ) (seekers : List Seeker) (next : List ℕ) (seats : List (Option Seat))
    → IsUnderway rule count seekers next → AreSeatsOf rule count seekers next seats
    → ((i n : ℕ) (s : Seeker) → slice_get seekers i ≡ Some s → slice_get next i ≡ Some n → IsSettled rule count seekers next s n)
    → applicants p seekers seats ≡ tried p seekers next
settled_applicants rule MayApply count p seekers next seats underway are settled =
    those_same (λ s seat. applies p s.list seat) (λ s n. nat_lt (place_of s.list p) n) seekers seats next (underway.full ∙ sym are.full)
    (λ i s seat n there has at.
    let short = underway.within i n s there at in
    let rank = settled_rank rule count i n seekers next seats s seat underway are there at has (settled i n s there at) in
    same_tests _ _
    (λ h. let a = applies_means p s.list seat h in lt-ltb _ _ (elim rank [
      | inl held ↦ omega (arith, a.within, held)
      | inr end ↦ omega (arith, a.wants, end)
    ]))
    (λ h. let less = ltb-true _ _ h in applies_true p s.list seat (omega (arith, less, short)) (elim rank [
      | inl held ↦ omega (arith, less, held)
      | inr end ↦ omega (arith, less, short, end)
    ])))
  where
    -- the place tried last is that of the seat; or all places were tried, and there is none
    settled_rank : (rule : Rule) (count i n : ℕ) (seekers : List Seeker) (next : List ℕ) (seats : List (Option Seat)) (s : Seeker) (seat : Option Seat)
        → IsUnderway rule count seekers next → AreSeatsOf rule count seekers next seats → slice_get seekers i ≡ Some s → slice_get next i ≡ Some n → slice_get seats i ≡ Some seat
        → IsSettled rule count seekers next s n → (n ≡ rank_of s.list seat + 1) ⊎ ((n ≡ length s.list) × (length s.list ≤ rank_of s.list seat))
    settled_rank rule count i n seekers next seats s seat underway are there at has settled = elim settled [
      | inl held ↦
          let e = (are.each held.0 i s held.3.0 held.1 there).0 held.3.1 in
          let is_seat : seat ≡ Some (seat_at held.0 held.3.0) = cc in
          let rank : rank_of s.list seat ≡ place_of s.list held.0 = ap (λ z. rank_of s.list z) is_seat in
          inl (omega (arith, held.2, rank))
      | inr end ↦ no_seat rule count i n seekers next seats s seat underway are there at has end
    ]
      where
        no_seat : (rule : Rule) (count i n : ℕ) (seekers : List Seeker) (next : List ℕ) (seats : List (Option Seat)) (s : Seeker) (seat : Option Seat)
            → IsUnderway rule count seekers next → AreSeatsOf rule count seekers next seats → slice_get seekers i ≡ Some s → slice_get next i ≡ Some n → slice_get seats i ≡ Some seat
            → n ≡ length s.list → (n ≡ rank_of s.list seat + 1) ⊎ ((n ≡ length s.list) × (length s.list ≤ rank_of s.list seat))
        no_seat rule count i n seekers next seats s None underway are there at has end = inr (end, omega arith)
        no_seat rule count i n seekers next seats s (Some seat) underway are there at has end =
            let below = are.below i seat has in
            let held = (are.each seat.prog.0 i s seat.step below there).1 has in
            let last = underway.last seat.prog.0 i n s seat.step below there at held in
            inl last

-- Where all are settled, the seats are the best allocation.
pub ends_best : (rule : Rule) (MayApply : ℕ → List Person → Type 0) (count : ℕ) (seekers : List Seeker) (next : List ℕ) (seats : List (Option Seat)) → IsMarket MayApply count seekers
    → ChoosesWell rule MayApply → IsUnderway rule count seekers next → AreSeatsOf rule count seekers next seats
    → ((i n : ℕ) (s : Seeker) → slice_get seekers i ≡ Some s → slice_get next i ≡ Some n → IsSettled rule count seekers next s n) → IsBest rule count seekers seats
ends_best rule MayApply count seekers next seats market well underway are settled =
    let same : (p : ℕ) → applicants p seekers seats ≡ tried p seekers next = λ p. settled_applicants rule MayApply count p seekers next seats underway are settled in
    record {
      fair = record {
        allocation = record {
          full = are.full;
          own = own_seats rule count seekers next seats underway are;
        };
        agrees = λ p i s kind below there. (
          λ admitted. (are.each p i s kind below there).0 (subst (λ people. rule p people s.person kind) (same p) admitted),
          λ has. subst (λ people. rule p people s.person kind) (sym (same p)) ((are.each p i s kind below there).1 has),
        );
      };
      best = λ others fair i s seat other there has has'.
          let at = value_at seekers next i s underway.full there in
          no_worse rule count i at.0 seekers next seats others s seat other underway are fair there at.1 has has' (settled i at.0 s there at.1);
    }
  where
    own_seats : (rule : Rule) (count : ℕ) (seekers : List Seeker) (next : List ℕ) (seats : List (Option Seat)) → IsUnderway rule count seekers next → AreSeatsOf rule count seekers next seats
        → (i : ℕ) (s : Seeker) (seat : Option Seat) → slice_get seekers i ≡ Some s → slice_get seats i ≡ Some seat → IsOwn s.list seat
    own_seats rule count seekers next seats underway are i s None there has = tt
    own_seats rule count seekers next seats underway are i s (Some seat) there has =
        let at = value_at seekers next i s underway.full there in
        let below = are.below i seat has in
        let last = underway.last seat.prog.0 i at.0 s seat.step below there at.1 ((are.each seat.prog.0 i s seat.step below there).1 has) in
        let short = underway.within i at.0 s there at.1 in
        omega (arith, last, short)

    no_worse : (rule : Rule) (count i n : ℕ) (seekers : List Seeker) (next : List ℕ) (seats others : List (Option Seat)) (s : Seeker) (seat other : Option Seat)
        → IsUnderway rule count seekers next → AreSeatsOf rule count seekers next seats → IsFair rule count seekers others → slice_get seekers i ≡ Some s → slice_get next i ≡ Some n
        → slice_get seats i ≡ Some seat → slice_get others i ≡ Some other → IsSettled rule count seekers next s n → rank_of s.list seat ≤ rank_of s.list other
    no_worse rule count i n seekers next seats others s seat other underway are fair there at has has' settled = elim settled [
      | inl held ↦
          let e = (are.each held.0 i s held.3.0 held.1 there).0 held.3.1 in
          let is_seat : seat ≡ Some (seat_at held.0 held.3.0) = cc in
          let rank : rank_of s.list seat ≡ place_of s.list held.0 = ap (λ z. rank_of s.list z) is_seat in
          let near = (underway.no_better others i n s other fair there at has').0 in
          omega (arith, held.2, rank, near)
      | inr end ↦
          let bound = underway.no_better others i n s other fair there at has' in
          let rank = rank_within s.list seat (own_seats rule count seekers next seats underway are i s seat there has) in
          elim bound.1 [
            | inl held ↦
                let e = (are.each held.0 i s held.3.0 held.1 there).0 held.3.1 in
                let is_seat : seat ≡ Some (seat_at held.0 held.3.0) = cc in
                let rank' : rank_of s.list seat ≡ place_of s.list held.0 = ap (λ z. rank_of s.list z) is_seat in
                omega (arith, held.2, rank', bound.0)
            | inr short ↦ omega (arith, short, end, rank)
          ]
    ]

-- ---- how many applications

-- each offer leaves one place fewer to try
pub left_falls : (i n : ℕ) (seekers : List Seeker) (next : List ℕ) (s : Seeker) → slice_get seekers i ≡ Some s → slice_get next i ≡ Some n → n < length s.list
    → places_left seekers next ≡ places_left seekers (slice_set next i (n + 1)) + 1
left_falls i n [] next s there at less = absurd (cc)
left_falls i n (t ∷ seekers) [] s there at less = absurd (cc)
left_falls zero n (t ∷ seekers) (m ∷ next) s there at less =
    let first : t ≡ s = cc in
    let value : m ≡ n = cc in
    let size : length t.list ≡ length s.list = ap (λ (z : Seeker). length z.list) first in
    omega (arith, size, value, less)
left_falls (suc i) n (t ∷ seekers) (m ∷ next) s there at less = let rest = left_falls i n seekers next s there at less in omega (arith, rest)

-- at the beginning all places are left
pub left_at_first : (seekers : List Seeker) (next : List ℕ) → length next ≡ length seekers → ((i n : ℕ) → slice_get next i ≡ Some n → n ≡ 0) → places_left seekers next ≡ places seekers
left_at_first [] next full none = refl
left_at_first (s ∷ seekers) [] full none = absurd (omega (arith, full))
left_at_first (s ∷ seekers) (n ∷ next) full none =
    let first = none 0 n refl in
    let rest = left_at_first seekers next (omega (arith, full)) (λ i. none (suc i)) in
    omega (arith, first, rest)
