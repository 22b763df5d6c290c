-- An order makes at most one seat more beyond those of the programmes, and orders make at most as many.
use Rattle.std.proofs.Common.{◌≡◌, ◌≢◌, ◌<◌, ◌≤◌, ◌⊎◌, ◌↔◌, inl, inr, ℕ, zero, suc, Bool, true, false, List, [], ◌∷◌, Option, Some, length, arith, refl, sym, ap, ◌∙◌, subst, if◌then◌else◌}
use Rattle.std.specs.Prelude.{slice_get}
use Rattle.std.proofs.lemmas.Bool.{cases_Bool}
use Rattle.office_base.specs.Lists.{IsAmong}
use Rattle.office_base.specs.declared.seat.Seat.{Seat}
use Rattle.office_base.specs.declared.seat.SeatKind.{SeatKind}
use Rattle.office_base.specs.declared.seat.SeatKind.TheVariants.{Kept, Under}
use Rattle.office_base.specs.declared.person.Person.{Person}
use Rattle.office_base.specs.declared.person.ProgId.{ProgId}
use Rattle.allocations.specs.Compared.{SomeLeave}
use Rattle.allocations.specs.Fair.{IsAllocation, IsBest, IsFair, IsMarket, IsOwn}
use Rattle.allocations.specs.Market.{Seeker, applicants, applies, place_of, rank_of, seat_at}
use Rattle.allocations.specs.Rule.{AdmitsNoFewer, ChoosesWell, Refuses, Rule}
use Rattle.allocations.proofs.Best.{best_there}
use Rattle.allocations.proofs.Claims.{applicants_may}
use Rattle.allocations.proofs.Places.{applies_means}
use Rattle.allocations.proofs.Those.{value_at}
use Rattle.allocations.proofs.Truthful.{narrows_market, with_list}
use Rattle.kept_seats.specs.Kept.{Guarantees, StepRule, with_kept}
use Rattle.kept_seats.specs.Orders.{IsOrder, OneSeatAnOrder, OneSeatForEachOrder, count_beyond}
use Rattle.kept_seats.proofs.Kept as kept
use Rattle.kept_seats.proofs.Leaving.{no_more_than_best, none_newly_kept, one_more}
use Rattle.kept_seats.proofs.Worth.{among_applies}

-- ---- one seeker leaves

abbrev leave_at : ℕ → List Seeker → List Seeker
leave_at i [] = []
leave_at zero (s ∷ seekers) = with_list s [] ∷ seekers
leave_at (suc i) (s ∷ seekers) = s ∷ leave_at i seekers

length_leave : (i : ℕ) (seekers : List Seeker) → length (leave_at i seekers) ≡ length seekers
length_leave zero [] = refl
length_leave (suc i) [] = refl
length_leave zero (s ∷ seekers) = refl
length_leave (suc i) (s ∷ seekers) = ap suc (length_leave i seekers)

-- a seeker after the one left, and before
record Left (i j : ℕ) (seekers : List Seeker) (t : Seeker) : Type 0 where
  pub s : Seeker
  pub there : slice_get seekers j ≡ Some s
  pub person : s.person ≡ t.person
  pub list : ((j ≡ i) × (t.list ≡ [])) ⊎ ((j ≢ i) × (t ≡ s))

left_at : (i j : ℕ) (seekers : List Seeker) (t : Seeker) → slice_get (leave_at i seekers) j ≡ Some t → Left i j seekers t
left_at zero j [] t at = absurd (cc)
left_at (suc i) j [] t at = absurd (cc)
left_at zero zero (s ∷ seekers) t at =
    let same : with_list s [] ≡ t = cc in
    record { s = s; there = refl; person = ap (λ (z : Seeker). z.person) same; list = inl (refl, sym (ap (λ (z : Seeker). z.list) same)) }
left_at zero (suc j) (s ∷ seekers) t at = record { s = t; there = at; person = refl; list = inr (λ e. omega (arith, e), refl) }
left_at (suc i) zero (s ∷ seekers) t at =
    let same : s ≡ t = cc in
    record { s = s; there = refl; person = ap (λ (z : Seeker). z.person) same; list = inr (λ e. omega (arith, e), sym same) }
left_at (suc i) (suc j) (s ∷ seekers) t at =
    let rest = left_at i j seekers t at in
    record {
      s = rest.s;
      there = rest.there;
      person = rest.person;
      list = elim rest.list [ inl here ↦ inl (ap suc here.0, here.1) | inr other ↦ inr (λ e. other.0 (omega (arith, e)), other.1) ];
    }

-- the seekers without one are some who leave
leaves : (i : ℕ) (seekers : List Seeker) → SomeLeave seekers (leave_at i seekers)
leaves i seekers = record {
  same = length_leave i seekers;
  persons = λ j s t there at.
      let found = left_at i j seekers t at in
      let one = found.there in
      let same : s ≡ found.s = cc in
      ap (λ (z : Seeker). z.person) same ∙ found.person;
  lists = λ j s t there at.
      let found = left_at i j seekers t at in
      let one = found.there in
      let same : found.s ≡ s = cc in
      elim found.list [
        | inl none ↦ inr none.1
        | inr other ↦ inl (ap (λ (z : Seeker). z.list) (other.1 ∙ same))
      ];
}

stay : (i : ℕ) (seekers : List Seeker) (j : ℕ) (s t : Seeker) → j ≢ i → slice_get seekers j ≡ Some s → slice_get (leave_at i seekers) j ≡ Some t → t.list ≡ s.list
stay i seekers j s t apart there at =
    let found = left_at i j seekers t at in
    let one = found.there in
    let same : found.s ≡ s = cc in
    elim found.list [
      | inl here ↦ absurd (apart here.0)
      | inr other ↦ ap (λ (z : Seeker). z.list) (other.1 ∙ same)
    ]

leave_market : (rule : Rule) (MayApply : ℕ → List Person → Type 0) (well : ChoosesWell rule MayApply) (count i : ℕ) (seekers : List Seeker) → IsMarket MayApply count seekers
    → IsMarket MayApply count (leave_at i seekers)
leave_market rule MayApply well count i seekers market =
    narrows_market rule MayApply well count seekers (leave_at i seekers) market (record {
      same = length_leave i seekers;
      persons = (leaves i seekers).persons;
      distinct = λ j k t q at at'.
          let found = left_at i j seekers t at in
          elim found.list [
            | inl none ↦ absurd (let gone = subst (λ l. slice_get l k ≡ Some q) none.1 at' in cc)
            | inr other ↦
                let own = subst (λ (z : Seeker). slice_get z.list k ≡ Some q) other.1 at' in
                subst (λ (z : Seeker). place_of z.list q.0 ≡ k) (sym other.1) (market.distinct j k found.s q found.there own)
          ];
      narrowed = λ p j s t there at stands.
          let found = left_at i j seekers t at in
          let one = found.there in
          let same : found.s ≡ s = cc in
          elim found.list [
            | inl none ↦ absurd (let less = subst (λ l. place_of l p < length l) none.1 stands in omega (arith, less))
            | inr other ↦ subst (λ (z : Seeker). place_of z.list p < length z.list) (other.1 ∙ same) stands
          ];
    })

-- ---- the seekers without the one whom an order is about are the same before and after

-- at each place the same seeker, or two who want nothing
abbrev AreAlike : Guarantees → Guarantees → List Seeker → List Seeker → Type 0
AreAlike guaranteed other seekers told = (j : ℕ) (s t : Seeker) → slice_get seekers j ≡ Some s → slice_get told j ≡ Some t
    → ((s ≡ t) × ((p : ℕ) → other p s.person ≡ guaranteed p s.person)) ⊎ ((s.list ≡ []) × (t.list ≡ []))

no_list : (p : ℕ) (list : List ProgId) (seat : Option Seat) → list ≡ [] → applies p list seat ≡ false
no_list p list seat none = elim (cases_Bool (applies p list seat)) [
  | inl does ↦ absurd (
      let a = applies_means p list seat does in
      let less = subst (λ l. place_of l p < length l) none a.wants in
      omega (arith, less))
  | inr not_one ↦ not_one
]

if_same : (b c : Bool) (x y : Person) (xs ys : List Person) → xs ≡ ys → ((x ≡ y) × (b ≡ c)) ⊎ ((b ≡ false) × (c ≡ false)) → (if b then x ∷ xs else xs) ≡ (if c then y ∷ ys else ys)
if_same true true x y xs ys rest h = elim h [ inl same ↦ ap (λ z. z ∷ xs) same.0 ∙ ap (λ zs. y ∷ zs) rest | inr none ↦ absurd (let e = none.0 in cc) ]
if_same false false x y xs ys rest h = rest
if_same true false x y xs ys rest h = elim h [ inl same ↦ absurd (let e = same.1 in cc) | inr none ↦ absurd (let e = none.0 in cc) ]
if_same false true x y xs ys rest h = elim h [ inl same ↦ absurd (let e = same.1 in cc) | inr none ↦ absurd (let e = none.1 in cc) ]

same_applicants : (p : ℕ) (guaranteed other : Guarantees) (seekers told : List Seeker) (seats : List (Option Seat)) → length told ≡ length seekers → AreAlike guaranteed other seekers told
    → applicants p seekers seats ≡ applicants p told seats
same_applicants p guaranteed other [] [] seats full alike = refl
same_applicants p guaranteed other [] (t ∷ told) seats full alike = absurd (omega (arith, full))
same_applicants p guaranteed other (s ∷ seekers) [] seats full alike = absurd (omega (arith, full))
same_applicants p guaranteed other (s ∷ seekers) (t ∷ told) [] full alike = refl
same_applicants p guaranteed other (s ∷ seekers) (t ∷ told) (seat ∷ seats) full alike =
    let rest = same_applicants p guaranteed other seekers told seats (omega (arith, full)) (λ j. alike (suc j)) in
    if_same (applies p s.list seat) (applies p t.list seat) s.person t.person (applicants p seekers seats) (applicants p told seats) rest (elim (alike 0 s t refl refl) [
      | inl same ↦ inl (ap (λ (z : Seeker). z.person) same.0, ap (λ (z : Seeker). applies p z.list seat) same.0)
      | inr none ↦ inr (no_list p s.list seat none.0, no_list p t.list seat none.1)
    ])

module _ (rule : StepRule) (MayApply : ℕ → List Person → Type 0) (well : ChoosesWell rule MayApply) (count : ℕ) where
  -- a person of both is admitted by both
  admits_too : (guaranteed other : Guarantees) (p : ℕ) (people again : List Person) (x : Person) (kind : SeatKind) → people ≡ again → other p x ≡ guaranteed p x
      → with_kept guaranteed rule p people x kind → with_kept other rule p again x kind
  admits_too guaranteed other p people again x (Under step) same sure picked = subst (λ z. rule p z x step) same picked
  admits_too guaranteed other p people again x Kept same sure keeps = record {
    guaranteed_there = sure ∙ keeps.guaranteed_there;
    applies = subst (λ z. IsAmong x z) same keeps.applies;
    not_chosen = subst (λ z. Refuses rule p z x) same keeps.not_chosen;
  }

  -- who wants nothing has no seat
  wants_nothing : (seekers : List Seeker) (seats : List (Option Seat)) (p j : ℕ) (s : Seeker) (kind : SeatKind) → IsAllocation seekers seats → slice_get seekers j ≡ Some s → s.list ≡ []
      → slice_get seats j ≡ Some (Some (seat_at p kind)) → ⊥
  wants_nothing seekers seats p j s kind allocation there none has =
      let own : place_of s.list p < length s.list = allocation.own j s (Some (seat_at p kind)) there has in
      let less = subst (λ l. place_of l p < length l) none own in
      omega (arith, less)

  -- what is fair before is fair after
  fair_too : (guaranteed other : Guarantees) (seekers told : List Seeker) (seats : List (Option Seat)) → IsMarket MayApply count told → length told ≡ length seekers
      → AreAlike guaranteed other seekers told → IsFair (with_kept guaranteed rule) count seekers seats → IsFair (with_kept other rule) count told seats
  fair_too guaranteed other seekers told seats market full alike fair = record {
    allocation = allocation;
    agrees = λ p j t kind below there'.
        let s = value_at told seekers j t (sym full) there' in
        let people = same_applicants p guaranteed other seekers told seats full alike in
        elim (alike j s.0 t s.1 there') [
          | inl same ↦
              let person = ap (λ (z : Seeker). z.person) same.0 in
              let sure : other p t.person ≡ guaranteed p t.person = subst (λ z. other p z ≡ guaranteed p z) person (same.1 p) in
              let agreed = fair.agrees p j s.0 kind below s.1 in
              let agreed' : with_kept guaranteed rule p (applicants p seekers seats) t.person kind ↔ (slice_get seats j ≡ Some (Some (seat_at p kind))) =
              subst (λ z. with_kept guaranteed rule p (applicants p seekers seats) z kind ↔ (slice_get seats j ≡ Some (Some (seat_at p kind)))) person agreed in (
                λ admits. agreed'.0 (admits_too other guaranteed p _ _ t.person kind (sym people) (sym sure) admits),
                λ has. admits_too guaranteed other p _ _ t.person kind people sure (agreed'.1 has),
              )
          | inr none ↦ (
            λ admits. absurd (
                let seat = value_at told seats j t allocation.full there' in
                let among : IsAmong t.person (applicants p told seats) = among_of p j t kind there' admits below in
                let does = among_applies MayApply count p j told seats t seat.0 market there' seat.1 among in
                let never = no_list p t.list seat.0 none.1 in
                cc),
            λ has. absurd (wants_nothing told seats p j t kind allocation there' none.1 has),
          )
        ];
  }
    where
      own_of : (j : ℕ) (s t : Seeker) (seat : Option Seat) → slice_get seekers j ≡ Some s → slice_get told j ≡ Some t → slice_get seats j ≡ Some seat → IsOwn t.list seat
      own_of j s t seat there there' has = elim (alike j s t there there') [
        | inl same ↦ subst (λ (z : Seeker). IsOwn z.list seat) same.0 (fair.allocation.own j s seat there has)
        | inr none ↦ subst (λ l. IsOwn l seat) (none.0 ∙ sym none.1) (fair.allocation.own j s seat there has)
      ]

      allocation : IsAllocation told seats
      allocation = record {
        full = fair.allocation.full ∙ sym full;
        own = λ j t seat there' has. let s = value_at told seekers j t (sym full) there' in own_of j s.0 t seat s.1 there' has;
      }

      among_of : (p j : ℕ) (t : Seeker) (kind : SeatKind) → slice_get told j ≡ Some t → with_kept other rule p (applicants p told seats) t.person kind → p < count
          → IsAmong t.person (applicants p told seats)
      among_of p j t kind there' admits below =
          (kept.choose_well other rule MayApply well).among p (applicants p told seats) t.person kind
          (applicants_may (with_kept other rule) MayApply count p told seats market (kept.choose_well other rule MayApply well) below allocation.full) admits

  -- and the best before is the best after
  best_too : (guaranteed other : Guarantees) (seekers told : List Seeker) (seats : List (Option Seat)) → IsMarket MayApply count seekers → IsMarket MayApply count told
      → length told ≡ length seekers → AreAlike guaranteed other seekers told → IsBest (with_kept guaranteed rule) count seekers seats
      → IsBest (with_kept other rule) count told seats
  best_too guaranteed other seekers told seats market market' full alike best = record {
    fair = fair_too guaranteed other seekers told seats market' full alike best.fair;
    best = λ others fair j t seat x there' has has'.
        let s = value_at told seekers j t (sym full) there' in
        let less = best.best others (fair_too other guaranteed told seekers others market (sym full) (back guaranteed other seekers told alike) fair) j s.0 seat x s.1 has has' in
        let same : s.0.list ≡ t.list = elim (alike j s.0 t s.1 there') [
          | inl one ↦ ap (λ (z : Seeker). z.list) one.0
          | inr none ↦ none.0 ∙ sym none.1
        ] in
        subst (λ l. rank_of l seat ≤ rank_of l x) same less;
  }
    where
      back : (guaranteed other : Guarantees) (seekers told : List Seeker) → AreAlike guaranteed other seekers told → AreAlike other guaranteed told seekers
      back guaranteed other seekers told alike j t s there' there = elim (alike j s t there there') [
        | inl same ↦ inl (sym same.0, λ p. sym (subst (λ (z : Seeker). other p z.person ≡ guaranteed p z.person) same.0 (same.1 p)))
        | inr none ↦ inr (none.1, none.0)
      ]

-- without the one whom an order is about, the seekers before and after are alike
order_alike : (i : ℕ) (guaranteed other : Guarantees) (seekers told : List Seeker) → IsOrder i guaranteed other seekers told
    → AreAlike other guaranteed (leave_at i told) (leave_at i seekers)
order_alike i guaranteed other seekers told order j t s there' there =
    let after = left_at i j told t there' in
    let before = left_at i j seekers s there in
    elim after.list [
      | inl none ↦ elim before.list [
        | inl too ↦ inr (none.1, too.1)
        | inr stays ↦ absurd (stays.0 none.0)
      ]
      | inr stays ↦ elim before.list [
        | inl none ↦ absurd (stays.0 none.0)
        | inr too ↦
            let one = order.others j too.0 in
            let first = after.there in
            let second = before.there in
            let same : after.s ≡ before.s = cc in
            let whole : t ≡ s = stays.1 ∙ (same ∙ sym too.1) in
            inl (
              whole,
              λ p.
                  let sure = order.guarantees j p before.s too.0 before.there in
                  let mine : before.s ≡ t = sym same ∙ sym stays.1 in
                  subst (λ (z : Seeker). guaranteed p z.person ≡ other p z.person) mine (sym sure),
            )
      ]
    ]

-- An order makes at most one seat more.
pub one_seat_an_order : (rule : StepRule) (MayApply : ℕ → List Person → Type 0) → ChoosesWell rule MayApply → AdmitsNoFewer rule MayApply
    → OneSeatAnOrder rule MayApply
one_seat_an_order rule MayApply well no_fewer guaranteed other count i seekers told seats others market market' order fair fair' =
    let well' = kept.choose_well other rule MayApply well in
    let small = leave_market (with_kept other rule) MayApply well' count i seekers market in
    let small' = leave_market (with_kept other rule) MayApply well' count i told market' in
    let first = best_there (with_kept other rule) MayApply count (leave_at i told) small' well' in
    let more = one_more other rule MayApply well no_fewer count told (leave_at i told) others first.0 market' small' (leaves i told) fair' first.1 i (stay i told) in
    let size : length (leave_at i seekers) ≡ length (leave_at i told) = length_leave i seekers ∙ (sym order.same ∙ sym (length_leave i told)) in
    let again = best_too rule MayApply well count other guaranteed (leave_at i told) (leave_at i seekers) first.0 small' small size
    (order_alike i guaranteed other seekers told order) first.1 in
    let less = none_newly_kept guaranteed rule MayApply well count seekers (leave_at i seekers) seats first.0 market (leaves i seekers) fair again in
    omega (arith, more, less)

-- the guarantees may be told in another way
same_fair : (rule : StepRule) (guaranteed other : Guarantees) (count : ℕ) (seekers : List Seeker) (seats : List (Option Seat))
    → ((p : ℕ) (x : Person) → other p x ≡ guaranteed p x) → IsFair (with_kept other rule) count seekers seats → IsFair (with_kept guaranteed rule) count seekers seats
same_fair rule guaranteed other count seekers seats sure fair = record {
  allocation = fair.allocation;
  agrees = λ p i s kind below there. (
    λ admits. (fair.agrees p i s kind below there).0 (admits_again guaranteed other (λ x. sure p x) _ s.person kind admits),
    λ has. admits_again other guaranteed (λ x. sym (sure p x)) _ s.person kind ((fair.agrees p i s kind below there).1 has),
  );
}
  where
    admits_again : (first second : Guarantees) {p : ℕ} → ((x : Person) → second p x ≡ first p x) → (people : List Person) (x : Person) (kind : SeatKind)
        → with_kept first rule p people x kind → with_kept second rule p people x kind
    admits_again first second same people x (Under step) picked = picked
    admits_again first second same people x Kept keeps = record {
      guaranteed_there = same x ∙ keeps.guaranteed_there;
      applies = keeps.applies;
      not_chosen = keeps.not_chosen;
    }

-- if nobody leaves, all seek what they sought
pub nobody_leaves : (seekers : List Seeker) → SomeLeave seekers seekers
nobody_leaves seekers = record {
  same = refl;
  persons = λ j s t there there'. let same : s ≡ t = cc in ap (λ (z : Seeker). z.person) same;
  lists = λ j s t there there'. let same : t ≡ s = cc in inl (ap (λ (z : Seeker). z.list) same);
}

-- any two fair allocations have as many seats beyond those of the programmes
pub fair_keep_alike : (rule : StepRule) (MayApply : ℕ → List Person → Type 0) → ChoosesWell rule MayApply → AdmitsNoFewer rule MayApply
    → (guaranteed : Guarantees) (count : ℕ) (seekers : List Seeker) (seats others : List (Option Seat)) → IsMarket MayApply count seekers
    → IsFair (with_kept guaranteed rule) count seekers seats → IsFair (with_kept guaranteed rule) count seekers others
    → count_beyond others ≤ count_beyond seats
fair_keep_alike rule MayApply well no_fewer guaranteed count seekers seats others market fair fair' =
    let first = best_there (with_kept guaranteed rule) MayApply count seekers market (kept.choose_well guaranteed rule MayApply well) in
    let more = no_more_than_best guaranteed rule MayApply well no_fewer count seekers seekers others first.0 market market (nobody_leaves seekers) fair' first.1
    (λ j s t there there'. let same : t ≡ s = cc in ap (λ (z : Seeker). z.list) same) in
    let less = none_newly_kept guaranteed rule MayApply well count seekers seekers seats first.0 market (nobody_leaves seekers) fair first.1 in
    omega (arith, more, less)

-- At most one seat for each order.
pub one_seat_for_each_order : (rule : StepRule) (MayApply : ℕ → List Person → Type 0) → ChoosesWell rule MayApply → AdmitsNoFewer rule MayApply
    → OneSeatForEachOrder rule MayApply
one_seat_for_each_order rule MayApply well no_fewer zero count guaranteed other seekers told seats others market orders fair fair' =
    let again = subst (λ z. IsFair (with_kept other rule) count z others) orders.0 fair' in
    let same = same_fair rule guaranteed other count seekers others orders.1 again in
    let alike = fair_keep_alike rule MayApply well no_fewer guaranteed count seekers seats others market fair same in
    omega (arith, alike)
one_seat_for_each_order rule MayApply well no_fewer (suc n) count guaranteed other seekers told seats others market orders fair fair' =
    let between = orders.1 in
    let mid = orders.2 in
    let mid_market = orders.3 in
    let first = best_there (with_kept between rule) MayApply count mid mid_market (kept.choose_well between rule MayApply well) in
    let one = one_seat_an_order rule MayApply well no_fewer guaranteed between count orders.0 seekers mid seats first.0 market mid_market orders.4 fair first.1.fair in
    let more = one_seat_for_each_order rule MayApply well no_fewer n count between other mid told first.0 others mid_market orders.5 first.1.fair fair' in
    omega (arith, one, more)
