-- Only the best fair allocation is safe: under any other fair one somebody gains by the front of their own list.
use Rattle.std.proofs.Common.{◌≡◌, ◌<◌, ◌≤◌, ◌+◌, ◌⊎◌, inl, inr, ℕ, min, true, List, Option, Some, None, length, slice_set, take, arith, sym, ap, ◌∙◌, subst, length-set, length-take}
use Rattle.std.specs.Prelude.{slice_get}
use Rattle.std.proofs.lemmas.Bool.{cases_eq}
use Rattle.office_base.specs.declared.seat.Seat.{Seat}
use Rattle.office_base.specs.declared.person.Person.{Person}
use Rattle.office_base.specs.declared.person.ProgId.{ProgId}
use Rattle.office_base.proofs.Lists.{get_set_other}
use Rattle.allocations.specs.Compared.{TellsAnother}
use Rattle.allocations.specs.Fair.{IsBest, IsFair, IsMarket, IsOwn}
use Rattle.allocations.specs.Market.{Seeker, applies, place_of, rank_of}
use Rattle.allocations.specs.Rule.{AdmitsNoFewer, ChoosesWell, Rule}
use Rattle.allocations.proofs.Course.{get_set_same}
use Rattle.allocations.proofs.Places.{applies_means, applies_true, rank_within}
use Rattle.allocations.proofs.Seated.{fair_alike}
use Rattle.allocations.proofs.Those.{value_at}
use Rattle.allocations.proofs.Truthful.{front_distinct, front_place, narrows_market, still_fair, with_list}
use Rattle.published_rounds.specs.Procedures.{IsAlwaysFair, IsSafe, Procedure}

module _ (rule : Rule) (MayApply : ℕ → List Person → Type 0) (well : ChoosesWell rule MayApply) (no_fewer : AdmitsNoFewer rule MayApply) (count : ℕ) (gives : Procedure)
    (fair : IsAlwaysFair rule MayApply count gives) (safe : IsSafe MayApply count gives) (seekers : List Seeker) (seats : List (Option Seat)) (market : IsMarket MayApply count seekers)
    (best : IsBest rule count seekers seats) where
  -- ---- one seeker submits the front of their list that ends with their best seat

  module _ (i : ℕ) (s : Seeker) (y : Seat) (there : slice_get seekers i ≡ Some s) (has : slice_get seats i ≡ Some (Some y)) where
    abbrev front : List ProgId
    front = take (place_of s.list y.prog.0 + 1) s.list

    abbrev told : List Seeker
    told = slice_set seekers i (with_list s front)

    own : place_of s.list y.prog.0 < length s.list
    own = best.fair.allocation.own i s (Some y) there has

    told_there : slice_get told i ≡ Some (with_list s front)
    told_there = get_set_same seekers i (with_list s front) s there

    size : length front ≡ place_of s.list y.prog.0 + 1
    size = let less = own in let all = length-take (place_of s.list y.prog.0 + 1) s.list in omega (arith, less, all)

    place : (p : ℕ) → place_of front p ≡ min (place_of s.list p) (place_of s.list y.prog.0 + 1)
    place p = front_place (place_of s.list y.prog.0 + 1) s.list p

    -- at each place the seeker is as before, or is this one with the front of the list
    record IsTold (j : ℕ) (a b : Seeker) : Type 0 where
      pub at : j ≡ i
      pub before : a ≡ s
      pub after : b ≡ with_list s front

    by_place : (j : ℕ) (a b : Seeker) → slice_get seekers j ≡ Some a → slice_get told j ≡ Some b → IsTold j a b ⊎ (a ≡ b)
    by_place j a b at at' = elim (cases_eq j i) [
      | inl same ↦ inl (
          let mine : slice_get seekers i ≡ Some a = subst (λ k. slice_get seekers k ≡ Some a) same at in
          let mine' : slice_get told i ≡ Some b = subst (λ k. slice_get told k ≡ Some b) same at' in
          let here = told_there in
          let first : s ≡ a = cc in
          let second : with_list s front ≡ b = cc in
          record { at = same; before = sym first; after = sym second })
      | inr apart ↦ inr (let other = get_set_other seekers i j (with_list s front) apart in cc)
    ]

    persons : (j : ℕ) (a b : Seeker) → slice_get seekers j ≡ Some a → slice_get told j ≡ Some b → a.person ≡ b.person
    persons j a b at at' = elim (by_place j a b at at') [
      | inl t ↦ ap (λ (z : Seeker). z.person) t.before ∙ ap (λ (z : Seeker). z.person) (sym t.after)
      | inr same ↦ ap (λ (z : Seeker). z.person) same
    ]

    tells : TellsAnother i seekers told
    tells = record {
      same = length-set seekers i (with_list s front);
      others = λ j apart. get_set_other seekers i j (with_list s front) apart;
      person = persons i;
    }

    told_market : IsMarket MayApply count told
    told_market = narrows_market rule MayApply well count seekers told market (record {
      same = length-set seekers i (with_list s front);
      persons = persons;
      distinct = λ j k b q at' get.
          let a = value_at told seekers j b (sym (length-set seekers i (with_list s front))) at' in
          elim (by_place j a.0 b a.1 at') [
            | inl t ↦
                let get' : slice_get front k ≡ Some q = subst (λ (z : Seeker). slice_get z.list k ≡ Some q) t.after get in
                let mine = front_distinct (place_of s.list y.prog.0 + 1) s.list (λ k q at. market.distinct i k s q there at) k q get' in
                subst (λ (z : Seeker). place_of z.list q.0 ≡ k) (sym t.after) mine
            | inr same ↦ market.distinct j k b q (subst (λ (z : Seeker). slice_get seekers j ≡ Some z) same a.1) get
          ];
      narrowed = λ p j a b at at' less. elim (by_place j a b at at') [
        | inl t ↦
            let less' : place_of front p < length front = subst (λ (z : Seeker). place_of z.list p < length z.list) t.after less in
            subst (λ (z : Seeker). place_of z.list p < length z.list) (sym t.before) (omega (arith, less', place p, size, own))
        | inr same ↦ subst (λ (z : Seeker). place_of z.list p < length z.list) (sym same) less
      ];
    })

    -- the best seats are fair still
    still : IsFair rule count told seats
    still = still_fair rule MayApply well count seekers told market seats (length-set seekers i (with_list s front)) persons
        (λ j a b at at' x has'. elim (by_place j a b at at') [
          | inl t ↦
              let mine : slice_get seats i ≡ Some x = subst (λ k. slice_get seats k ≡ Some x) t.at has' in
              let is : Some y ≡ x = cc in
              let e = place y.prog.0 in
              let n = size in
              let here : IsOwn front (Some y) = omega (arith, e, n) in
              subst (λ (z : Seeker). IsOwn z.list x) (sym t.after) (subst (λ o. IsOwn front o) is here)
          | inr same ↦ subst (λ (z : Seeker). IsOwn z.list x) same (best.fair.allocation.own j a x at has')
        ])
        (λ j a b at at' p x has' h. elim (by_place j a b at at') [
          | inl t ↦
              let mine : slice_get seats i ≡ Some x = subst (λ k. slice_get seats k ≡ Some x) t.at has' in
              let is : Some y ≡ x = cc in
              let h' : applies p front (Some y) ≡ true = subst (λ o. applies p front o ≡ true) (sym is) (subst (λ (z : Seeker). applies p z.list x ≡ true) t.after h) in
              let m = applies_means p front (Some y) h' in
              let less = m.wants in
              let e = place p in
              let n = size in
              let o = own in
              let here : applies p s.list (Some y) ≡ true = applies_true p s.list (Some y) (omega (arith, less, e, n, o)) (omega (arith, less, e, n)) in
              subst (λ (z : Seeker). applies p z.list x ≡ true) (sym t.before) (subst (λ o. applies p s.list o ≡ true) is here)
          | inr same ↦ subst (λ (z : Seeker). applies p z.list x ≡ true) (sym same) h
        ]) best.fair

    -- by the front of the list the rule gives the best seat or an earlier one
    told_gives : (z : Option Seat) → slice_get (gives told) i ≡ Some z → rank_of s.list z ≤ place_of s.list y.prog.0
    told_gives None at = absurd (
        let alike = fair_alike rule MayApply well no_fewer count told told_market seats (gives told) still (fair told told_market) in
        let none = (alike.unseated i).1 at in
        let some = has in
        cc)
    told_gives (Some w) at =
        let mine : place_of front w.prog.0 < length front = (fair told told_market).allocation.own i (with_list s front) (Some w) told_there at in
        omega (arith, mine, place w.prog.0, size)

    -- and so it does by the whole list
    pub gives_it : (x : Option Seat) → slice_get (gives seekers) i ≡ Some x → rank_of s.list x ≤ place_of s.list y.prog.0
    gives_it x at =
        let z = value_at told (gives told) i (with_list s front) (fair told told_market).allocation.full told_there in
        let none_gains = safe i seekers told s x z.0 market told_market tells there at z.1 in
        omega (arith, told_gives z.0 z.1, none_gains)

  -- nobody is worse off under the rule than with the best seats
  no_worse : (i : ℕ) (s : Seeker) (x seat : Option Seat) → slice_get seekers i ≡ Some s → slice_get (gives seekers) i ≡ Some x → slice_get seats i ≡ Some seat
      → rank_of s.list x ≤ rank_of s.list seat
  no_worse i s x None there at has = rank_within s.list x ((fair seekers market).allocation.own i s x there at)
  no_worse i s x (Some y) there at has = gives_it i s y there has x at

  pub is_best : IsBest rule count seekers (gives seekers)
  is_best = record {
    fair = fair seekers market;
    best = λ others fair' i s x other there at has'.
        let seat = value_at seekers seats i s best.fair.allocation.full there in
        let one = no_worse i s x seat.0 there at seat.1 in
        let two = best.best others fair' i s seat.0 other there seat.1 has' in
        omega (arith, one, two);
  }
