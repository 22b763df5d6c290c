-- A seeker whom every programme still admits that admitted the seeker before has no worse seat.
use Rattle.std.proofs.Common.{◌≡◌, ◌≢◌, ◌<◌, ◌≤◌, ◌⊎◌, inl, inr, ℕ, suc, Bool, true, false, List, [], ◌∷◌, Option, Some, None, length, arith, refl, sym, ap, ◌∙◌, subst}
use Rattle.std.specs.Prelude.{slice_get, slice_set}
use Rattle.std.proofs.Math.ListN.{length-set}
use Rattle.std.proofs.lemmas.Bool.{cases_eq, eq-eqb, false_from_ne_true}
use Rattle.office_base.specs.Lists.{IsAmong, IsSublist}
use Rattle.office_base.specs.declared.seat.Seat.{Seat}
use Rattle.office_base.specs.declared.person.Person.{Person}
use Rattle.office_base.specs.declared.person.ProgId.{ProgId}
use Rattle.office_base.specs.declared.seat.SeatKind.{SeatKind}
use Rattle.office_base.proofs.Lists.{get_set_other}
use Rattle.allocations.specs.Compared.{TellsAnother}
use Rattle.allocations.specs.Fair.{IsBest, IsFair, IsMarket, IsOwn}
use Rattle.allocations.specs.Market.{Seeker, applicants, applies, is_of, place_of, rank_of, those}
use Rattle.allocations.specs.Rule.{Admits, AdmitsNoFewer, ChoosesWell, Rule}
use Rattle.allocations.proofs.Best.{best_there}
use Rattle.allocations.proofs.Claims.{applicants_may, outside_refused}
use Rattle.allocations.proofs.Course.{get_set_same}
use Rattle.allocations.proofs.Places.{applies_means, holder_applies}
use Rattle.allocations.proofs.Seated.{fair_seat_alike}
use Rattle.allocations.proofs.Those.{of_those, same_place, those_has, those_sublist, value_at}
use Rattle.allocations.proofs.Truthful.{narrows_market, still_fair, truth_is_best, with_list, alone_wants, alone_place, alone_distinct}
use Rattle.programme_laws.specs.Laws.{AreTheSameBut}

-- ---- a list of one programme

-- nobody applies by an empty list
no_list : (q : ℕ) (seat : Option Seat) → applies q [] seat ≡ false
no_list q seat = false_from_ne_true (applies q [] seat) (λ is_yes. let a = applies_means q [] seat is_yes in omega (arith, a.wants))

-- ---- one seeker set

at_set : (seekers : List Seeker) (i j : ℕ) (old new y : Seeker) → slice_get seekers i ≡ Some old → slice_get (slice_set seekers i new) j ≡ Some y
    → ((j ≡ i) × (y ≡ new)) ⊎ ((j ≢ i) × (slice_get seekers j ≡ Some y))
at_set seekers i j old new y there at = elim (cases_eq j i) [
  | inl same ↦ let here = get_set_same seekers i new old there in inl (same, (cc))
  | inr apart ↦ inr (apart, sym (get_set_other seekers i j new apart) ∙ at)
]

-- where both lists have the same seeker at another place, so have they still
at_another : (ss ts : List Seeker) (i j : ℕ) (a b u : Seeker) → slice_get ts j ≡ slice_get ss j → j ≢ i → slice_get (slice_set ss i a) j ≡ Some u → slice_get (slice_set ts i b) j ≡ Some u
at_another ss ts i j a b u same apart at = get_set_other ts i j b apart ∙ (same ∙ (sym (get_set_other ss i j a apart) ∙ at))

set_tells : (i : ℕ) (seekers : List Seeker) (s : Seeker) (list : List ProgId) → slice_get seekers i ≡ Some s → TellsAnother i seekers (slice_set seekers i (with_list s list))
set_tells i seekers s list there = record {
  same = length-set seekers i (with_list s list);
  others = λ j apart. get_set_other seekers i j (with_list s list) apart;
  person = λ a b at at'. let here = get_set_same seekers i (with_list s list) s there in cc;
}

-- the seekers are a market where one of them seeks one programme alone
pub alone_market : (rule : Rule) (MayApply : ℕ → List Person → Type 0) (well : ChoosesWell rule MayApply) (count i : ℕ) (seekers : List Seeker) (s : Seeker) (q : ProgId) → IsMarket MayApply count seekers
    → slice_get seekers i ≡ Some s → place_of s.list q.0 < length s.list → IsMarket MayApply count (slice_set seekers i (with_list s (q ∷ [])))
alone_market rule MayApply well count i seekers s q market there wanted =
    narrows_market rule MayApply well count seekers (slice_set seekers i (with_list s (q ∷ []))) market (record {
      same = length-set seekers i (with_list s (q ∷ []));
      persons = λ j a b at at'. elim (at_set seekers i j s (with_list s (q ∷ [])) b there at') [
        | inl here ↦ cc
        | inr other ↦ cc
      ];
      distinct = λ j k b r at at'. elim (at_set seekers i j s (with_list s (q ∷ [])) b there at) [
        | inl here ↦
            subst (λ (z : Seeker). place_of z.list r.0 ≡ k) (sym here.1) (alone_distinct q k r (subst (λ (z : Seeker). slice_get z.list k ≡ Some r) here.1 at'))
        | inr other ↦ market.distinct j k b r other.1 at'
      ];
      narrowed = λ p j a b at at' less. elim (at_set seekers i j s (with_list s (q ∷ [])) b there at') [
        | inl here ↦
            let less' : place_of (q ∷ []) p < 1 = subst (λ (z : Seeker). place_of z.list p < length z.list) here.1 less in
            let one : s ≡ a = cc in
            subst (λ (z : Seeker). place_of z.list p < length z.list) one (subst (λ n. place_of s.list n < length s.list) (alone_wants q p less') wanted)
        | inr other ↦ let one : b ≡ a = cc in subst (λ (z : Seeker). place_of z.list p < length z.list) one less
      ];
    })

-- a fair allocation is fair still, where a seeker seeks the programme of their seat alone
pub alone_fair : (rule : Rule) (MayApply : ℕ → List Person → Type 0) (well : ChoosesWell rule MayApply) (count i : ℕ) (seekers : List Seeker) (seats : List (Option Seat)) (s : Seeker) (x : Seat)
    → IsMarket MayApply count seekers → IsFair rule count seekers seats → slice_get seekers i ≡ Some s → slice_get seats i ≡ Some (Some x)
    → IsFair rule count (slice_set seekers i (with_list s (x.prog ∷ []))) seats
alone_fair rule MayApply well count i seekers seats s x market fair there has =
    still_fair rule MayApply well count seekers (slice_set seekers i (with_list s (x.prog ∷ []))) market seats (length-set seekers i (with_list s (x.prog ∷ [])))
    (λ j a b at at'. elim (at_set seekers i j s (with_list s (x.prog ∷ [])) b there at') [
      | inl here ↦ cc
      | inr other ↦ cc
    ])
    (λ j a b at at' seat has'. elim (at_set seekers i j s (with_list s (x.prog ∷ [])) b there at') [
      | inl here ↦
          let value : Some x ≡ seat = cc in
          subst (λ (z : Seeker). IsOwn z.list seat) (sym here.1) (subst (λ o. IsOwn (x.prog ∷ []) o) value (omega (arith, alone_place x.prog)))
      | inr other ↦ fair.allocation.own j b seat other.1 has'
    ])
    (λ j a b at at' q seat has' applied. elim (at_set seekers i j s (with_list s (x.prog ∷ [])) b there at') [
      | inl here ↦
          let wants = (applies_means q (x.prog ∷ []) seat (let mine : b ≡ with_list s (x.prog ∷ []) = here.1 in cc)).wants in
          let held = holder_applies q s.list (Some x) (fair.allocation.own i s (Some x) there has) (eq-eqb x.prog.0 q (alone_wants x.prog q wants)) in
          cc
      | inr other ↦ cc
    ])
    fair

-- ---- those who pass in two lists of seekers

those_apart : (f : Seeker → Option Seat → Bool) (ss ts : List Seeker) (xs : List (Option Seat)) → length ts ≡ length ss
    → ((j : ℕ) (u v : Seeker) (x : Option Seat) → slice_get ss j ≡ Some u → slice_get ts j ≡ Some v → slice_get xs j ≡ Some x → (u ≡ v) ⊎ ((f u x ≡ false) × (f v x ≡ false)))
    → those f ss xs ≡ those f ts xs
those_apart f [] [] xs full same = refl
those_apart f [] (v ∷ ts) xs full same = absurd (omega (arith, full))
those_apart f (u ∷ ss) [] xs full same = absurd (omega (arith, full))
those_apart f (u ∷ ss) (v ∷ ts) [] full same = refl
those_apart f (u ∷ ss) (v ∷ ts) (x ∷ xs) full same =
    let rest = those_apart f ss ts xs (omega (arith, full)) (λ j. same (suc j)) in
    elim (same 0 u v x refl refl refl) [
      | inl one ↦ cc
      | inr none ↦ rw (none.0, none.1) rest
    ]

-- a programme that admits the first person from some people admits the second from the same people with the second in place of the first
abbrev pub Improves : Rule → (ℕ → List Person → Type 0) → ℕ → Person → Person → Type 0
Improves rule MayApply count before after = (p : ℕ) (people others : List Person) → p < count → MayApply p people → MayApply p others → AreTheSameBut before after people others
    → Admits rule p people before → Admits rule p others after

module _ (rule : Rule) (MayApply : ℕ → List Person → Type 0) (well : ChoosesWell rule MayApply) (no_fewer : AdmitsNoFewer rule MayApply) (count i : ℕ) (seekers changed : List Seeker)
    (s t : Seeker) (market : IsMarket MayApply count seekers) (market' : IsMarket MayApply count changed) (there : slice_get seekers i ≡ Some s) (there' : slice_get changed i ≡ Some t)
    (same_list : t.list ≡ s.list) (same_id : t.person.id ≡ s.person.id) (full : length changed ≡ length seekers) (rest : (j : ℕ) → j ≢ i → slice_get changed j ≡ slice_get seekers j)
    (improves : Improves rule MayApply count s.person t.person) (seats : List (Option Seat)) (fair : IsFair rule count seekers seats) (x : Seat) (has : slice_get seats i ≡ Some (Some x)) where
  -- the seat is one of the list
  wanted : place_of s.list x.prog.0 < length s.list
  wanted = fair.allocation.own i s (Some x) there has

  abbrev only : List ProgId
  only = x.prog ∷ []

  -- both markets, where the one seeks that programme alone, and where the one seeks nothing
  abbrev alone : List Seeker
  alone = slice_set seekers i (with_list s only)

  abbrev alone' : List Seeker
  alone' = slice_set changed i (with_list t only)

  abbrev gone : List Seeker
  gone = slice_set seekers i (with_list s [])

  abbrev gone' : List Seeker
  gone' = slice_set changed i (with_list t [])

  one_market : IsMarket MayApply count alone
  one_market = alone_market rule MayApply well count i seekers s x.prog market there wanted

  one_market' : IsMarket MayApply count alone'
  one_market' = alone_market rule MayApply well count i changed t x.prog market' there' (subst (λ l. place_of l x.prog.0 < length l) (sym same_list) wanted)

  one_fair : IsFair rule count alone seats
  one_fair = alone_fair rule MayApply well count i seekers seats s x market fair there has

  here : slice_get alone i ≡ Some (with_list s only)
  here = get_set_same seekers i (with_list s only) s there

  here' : slice_get alone' i ≡ Some (with_list t only)
  here' = get_set_same changed i (with_list t only) t there'

  -- at each other place both markets have the same seeker
  other_market : (j : ℕ) (u : Seeker) → j ≢ i → slice_get alone j ≡ Some u → slice_get alone' j ≡ Some u
  other_market j u apart = at_another seekers changed i j (with_list s only) (with_list t only) u (rest j apart) apart

  -- ---- an allocation of the changed market in which the one has nothing

  module _ (none_seats : List (Option Seat)) (fair' : IsFair rule count alone' none_seats) (none : slice_get none_seats i ≡ Some None) where
    abbrev test : ℕ → Seeker → Option Seat → Bool
    test q u seat = applies q u.list seat

    same_gone : (q : ℕ) → applicants q gone none_seats ≡ applicants q gone' none_seats
    same_gone q =
        those_apart (test q) gone gone' none_seats (length-set changed i (with_list t []) ∙ (full ∙ sym (length-set seekers i (with_list s []))))
        (λ j u v y at at' has'. elim (at_set seekers i j s (with_list s []) u there at) [
          | inl mine ↦
              let at_t = get_set_same changed i (with_list t []) t there' in
              let its : v ≡ with_list t [] = cc in
              inr (ap (λ (z : Seeker). applies q z.list y) mine.1 ∙ no_list q y, ap (λ (z : Seeker). applies q z.list y) its ∙ no_list q y)
          | inr other ↦ let its = get_set_other changed i j (with_list t []) other.0 ∙ (rest j other.0 ∙ other.1) in inl (cc)
        ])

    -- those who seek something else apply in both
    sub_of : (q : ℕ) (all : List Seeker) (w : Seeker) → slice_get all i ≡ Some w
        → IsSublist (applicants q (slice_set all i (with_list w [])) none_seats) (applicants q (slice_set all i (with_list w only)) none_seats)
    sub_of q all w at_w =
        those_sublist (test q) (test q) (slice_set all i (with_list w [])) (slice_set all i (with_list w only)) none_seats none_seats (record {
          seekers = length-set all i (with_list w only) ∙ sym (length-set all i (with_list w []));
          values = refl;
          persons = λ j u v at at'. elim (at_set all i j w (with_list w []) u at_w at) [
            | inl mine ↦ let second = get_set_same all i (with_list w only) w at_w in cc
            | inr other ↦ let same = get_set_other all i j (with_list w only) other.0 in cc
          ];
          passes = λ j u v y z at at' has' has'' h. elim (at_set all i j w (with_list w []) u at_w at) [
            | inl mine ↦ let no = no_list q y in let one : u ≡ with_list w [] = mine.1 in absurd (cc)
            | inr other ↦ let same = get_set_other all i j (with_list w only) other.0 in cc
          ];
        })

    full_alone : length none_seats ≡ length alone
    full_alone = fair'.allocation.full ∙ (length-set changed i (with_list t only) ∙ (full ∙ sym (length-set seekers i (with_list s only))))

    may : (q : ℕ) → q < count → MayApply q (applicants q alone none_seats)
    may q below = applicants_may rule MayApply count q alone none_seats one_market well below full_alone

    may' : (q : ℕ) → q < count → MayApply q (applicants q alone' none_seats)
    may' q below = applicants_may rule MayApply count q alone' none_seats one_market' well below fair'.allocation.full

    -- everybody else who applies in one market applies in the other
    both : (q : ℕ) → IsAmong s.person (applicants q alone none_seats) → AreTheSameBut s.person t.person (applicants q alone none_seats) (applicants q alone' none_seats)
    both q stands = record {
      there = stands;
      there_after =
          let found = of_those (test q) alone none_seats s.person stands in
          let place : found.place ≡ i = same_place alone found.place i found.s (with_list s only) one_market.ids found.there here (ap (λ (z : Person). z.id) (sym found.person_is)) in
          let mine : found.s ≡ with_list s only = cc (here, found.there) in
          let value : found.value ≡ None = cc (found.at) in
          let applied : applies q only None ≡ true = cc (found.passes) in
          those_has (test q) alone' none_seats i (with_list t only) None here' none applied;
      rest = λ other apart. (
        (λ inside.
            let found = of_those (test q) alone none_seats other inside in
            let off : found.place ≢ i = λ e. apart (let mine : found.s ≡ with_list s only = cc (here, found.there) in cc (found.person_is)) in
            subst (λ z. IsAmong z (applicants q alone' none_seats)) (sym found.person_is) (those_has (test q) alone' none_seats found.place found.s found.value (other_market found.place found.s off found.there) found.at found.passes)),
        (λ inside.
            let found = of_those (test q) alone' none_seats other inside in
            let off : found.place ≢ i = λ e. apart (let mine : found.s ≡ with_list t only = cc (here', found.there) in cc (found.person_is)) in
            let at = at_another changed seekers i found.place (with_list t only) (with_list s only) found.s (sym (rest found.place off)) off found.there in
            subst (λ z. IsAmong z (applicants q alone none_seats)) (sym found.person_is) (those_has (test q) alone none_seats found.place found.s found.value at found.at found.passes)),
      );
    }

    -- no programme admits the one before
    refused : (q : ℕ) (kind : SeatKind) → q < count → rule q (applicants q alone none_seats) s.person kind → ⊥
    refused q kind below admits =
        let stands = well.among q (applicants q alone none_seats) s.person kind (may q below) admits in
        let taken = improves q (applicants q alone none_seats) (applicants q alone' none_seats) below (may q below) (may' q below) (both q stands) (kind, admits) in
        let got = (fair'.agrees q i (with_list t only) taken.0 below here').0 taken.1 in
        cc

    outside : (q : ℕ) → q < count → (y : Person) → IsAmong y (applicants q alone none_seats) → (IsAmong y (applicants q gone none_seats) → ⊥) → (kind : SeatKind) → rule q (applicants q alone none_seats) y kind → ⊥
    outside q below y inside apart kind admits =
        let found = of_those (test q) alone none_seats y inside in
        elim (cases_eq found.place i) [
          | inl mine ↦
              let one : found.s ≡ with_list s only = cc (here, found.there) in
              refused q kind below (subst (λ z. rule q (applicants q alone none_seats) z kind) (found.person_is ∙ ap (λ (z : Seeker). z.person) one) admits)
          | inr off ↦
              let at = at_another seekers seekers i found.place (with_list s only) (with_list s []) found.s refl off found.there in
              apart (subst (λ z. IsAmong z (applicants q gone none_seats)) (sym found.person_is) (those_has (test q) gone none_seats found.place found.s found.value at found.at found.passes))
        ]

    holders_gone : (q : ℕ) (j : ℕ) (u : Seeker) (seat : Option Seat) → slice_get alone' j ≡ Some u → slice_get none_seats j ≡ Some seat → is_of q seat ≡ true → IsAmong u.person (applicants q gone' none_seats)
    holders_gone q j u seat at has' holds = elim (cases_eq j i) [
      | inl mine ↦ absurd (let no : is_of q None ≡ true = cc in cc)
      | inr off ↦ those_has (test q) gone' none_seats j u seat (at_another changed changed i j (with_list t only) (with_list t []) u refl off at) has' (holder_applies q u.list seat (fair'.allocation.own j u seat at has') holds)
    ]

    -- it is fair in the market before
    none_fair : IsFair rule count alone none_seats
    none_fair = record {
      allocation = record {
        full = full_alone;
        own = λ j u seat at has'. elim (cases_eq j i) [
          | inl mine ↦ let e : None ≡ seat = cc in subst (λ o. IsOwn u.list o) e tt
          | inr off ↦ fair'.allocation.own j u seat (other_market j u off at) has'
        ];
      };
      agrees = λ q j u kind below at. elim (cases_eq j i) [
        | inl mine ↦
            let one : u ≡ with_list s only = cc (here) in (
              (λ admits. absurd (refused q kind below (subst (λ z. rule q (applicants q alone none_seats) z kind) (ap (λ (z : Seeker). z.person) one) admits))),
              (λ has'. absurd (cc)),
            )
        | inr off ↦
            let first = well.without q (applicants q gone none_seats) (applicants q alone none_seats) (may q below) (sub_of q seekers s there) (outside q below) u.person kind in
            let second = well.without q (applicants q gone' none_seats) (applicants q alone' none_seats) (may' q below) (sub_of q changed t there')
            (outside_refused rule count q alone' none_seats (applicants q gone' none_seats) below fair' (holders_gone q)) u.person kind in
            let agreed = fair'.agrees q j u kind below (other_market j u off at) in (
              (λ admits. agreed.0 (second.0 (subst (λ l. rule q l u.person kind) (same_gone q) (first.1 admits)))),
              (λ has'. first.0 (subst (λ l. rule q l u.person kind) (sym (same_gone q)) (second.1 (agreed.1 has')))),
            )
      ];
    }

    -- which no fair allocation of that market can be
    pub never : ⊥
    never =
        let alike = fair_seat_alike rule MayApply well no_fewer count alone seats none_seats one_market one_fair none_fair in
        cc ((alike.unseated i).1 none)

  -- so in the changed market the one has a seat of that programme, where it is sought alone, and no worse by the whole list
  pub no_worse : (others : List (Option Seat)) (other : Option Seat) → IsBest rule count changed others → slice_get others i ≡ Some other → rank_of s.list other ≤ place_of s.list x.prog.0
  no_worse others other best has' =
      let first = best_there rule MayApply count alone' one_market' well in
      let y = value_at alone' first.0 i (with_list t only) first.1.fair.allocation.full here' in
      by_seat first.0 first.1.fair y.0 y.1
    where
      by_seat : (alone_seats : List (Option Seat)) → IsFair rule count alone' alone_seats → (y : Option Seat) → slice_get alone_seats i ≡ Some y → rank_of s.list other ≤ place_of s.list x.prog.0
      by_seat alone_seats fair' None at = absurd (never alone_seats fair' at)
      by_seat alone_seats fair' (Some y) at =
          let own : place_of only y.prog.0 < 1 = fair'.allocation.own i (with_list t only) (Some y) here' at in
          let result : rank_of t.list other ≤ place_of t.list y.prog.0 =
          truth_is_best rule MayApply well no_fewer count i changed alone' others alone_seats t other (Some y) market' one_market' (set_tells i changed t only there') best fair' there' has' at in
          let by_list : rank_of s.list other ≤ place_of s.list y.prog.0 = subst (λ l. rank_of l other ≤ place_of l y.prog.0) same_list result in
          subst (λ n. rank_of s.list other ≤ place_of s.list n) (sym (alone_wants x.prog y.prog.0 own)) by_list
