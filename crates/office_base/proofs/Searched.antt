-- What a search finds among pairs whose keys rise.
use Rattle.std.proofs.Common.{◌≡◌, ◌<◌, ◌≤◌, ◌+◌, ℕ, zero, suc, List, [], ◌∷◌, Some, None, length, get_or, sym, ap, subst, ◌∙◌, inl, inr, arith}
use Rattle.std.specs.BTreeMap.{is_at}
use Rattle.std.specs.Cmp.{IsTotalOrder}
use Rattle.std.specs.List.{AllByRecursion}
use Rattle.std.specs.List.Sorted.{IsStrictlySortedBy}
use Rattle.std.specs.Map.{keys_of, lookup}
use Rattle.std.specs.Ordering.{is_eq, ordering_reverse}
use Rattle.std.specs.declared.cmp.Ordering.{Ordering}
use Rattle.std.specs.declared.cmp.Ordering.TheVariants.{Less, Equal, Greater}
use Rattle.std.proofs.lemmas.Bool.{cases_order}
use Rattle.std.proofs.lemmas.List.{get_or_read}
use Rattle.std.proofs.lemmas.Map.Entries.{lookup_at_gap, lookup_head, lookup_tail}
use Rattle.std.proofs.lemmas.Map.Keys.{sorted_head, sorted_tail}
use Rattle.std.proofs.lemmas.Option.{get_or_from_slice_get, slice_get_within}

-- what was compared at a place is what is there, whatever stands for a place that is not there
pub compared_at : {X : Type 0} (f : X → Ordering) (xs : List X) (at : ℕ) (x d : X) (r s : Ordering) → at < length xs → x ≡ get_or xs at x → r ≡ f (get_or xs at x) → r ≡ s → f (get_or xs at d) ≡ s
compared_at f xs at x d r s within here compared is = ap f (sym (sym here ∙ get_or_read xs at x within here d)) ∙ sym compared ∙ is

module _ {K V : Type 0} (R : K → K → Ordering) (q : K) (es : List (K × V)) where
  -- The key is above the pairs before `low`, and below those from `high` on.
  pub record IsBetween (low high : ℕ) : Type 0 where
    pub ordered : low ≤ high
    pub within : high ≤ length es
    pub above : (i : ℕ) (d : K × V) → i < low → R q (get_or es i d).0 ≡ Greater
    pub below : (i : ℕ) (d : K × V) → high ≤ i → i < length es → R q (get_or es i d).0 ≡ Less

  pub at_first : IsBetween 0 (length es)
  at_first = record { ordered = omega arith; within = omega arith; above = λ i d less. absurd (omega (arith, less)); below = λ i d from within. absurd (omega (arith, from, within)) }

module _ {K V : Type 0} {R : K → K → Ordering} (o : IsTotalOrder R) where
  -- a key that is below all keys is below the one at a place
  below_at : (k : K) (es : List (K × V)) (i : ℕ) (d : K × V) → AllByRecursion (λ y. R k y ≡ Less) (keys_of es) → i < length es → R k (get_or es i d).0 ≡ Less
  below_at k [] i d all less = absurd (omega (arith, less))
  below_at k (p ∷ es) zero d all less = all.0
  below_at k (p ∷ es) (suc i) d all less = below_at k es i d all.1 (omega (arith, less))

  earlier_below : (es : List (K × V)) (i j : ℕ) (d : K × V) → IsStrictlySortedBy R (keys_of es) → i < j → j < length es → R (get_or es i d).0 (get_or es j d).0 ≡ Less
  earlier_below [] i j d sorted less within = absurd (omega (arith, less, within))
  earlier_below (p ∷ es) i zero d sorted less within = absurd (omega (arith, less))
  earlier_below (p ∷ es) zero (suc j) d sorted less within = below_at p.0 es j d (sorted_head R p.0 (keys_of es) sorted) (omega (arith, within))
  earlier_below (p ∷ es) (suc i) (suc j) d sorted less within = earlier_below es i j d (sorted_tail R p.0 (keys_of es) sorted) (omega (arith, less)) (omega (arith, within))

  -- a key above that of a pair is above all before it
  pub above_more : (q : K) (es : List (K × V)) (low high at : ℕ) → IsStrictlySortedBy R (keys_of es) → IsBetween R q es low high → at < high → ((d : K × V) → R q (get_or es at d).0 ≡ Greater) → IsBetween R q es (at + 1) high
  above_more q es low high at sorted between less here = record {
    ordered = omega (arith, less);
    within = between.within;
    above = λ i d before. elim (cases_order i at) [
      | inl same ↦ subst (λ k. R q (get_or es k d).0 ≡ Greater) (sym same) (here d)
      | inr other ↦ elim other [
        | inl earlier ↦ (
            let pair = earlier_below es i at d sorted earlier (omega (arith, less, between.within)) in
            let low_key = o.antisymm (get_or es at d).0 q ∙ ap ordering_reverse (here d) in
            o.antisymm q (get_or es i d).0 ∙ ap ordering_reverse (o.trans (get_or es i d).0 (get_or es at d).0 q pair low_key))
        | inr later ↦ absurd (omega (arith, before, later))
      ]
    ];
    below = between.below;
  }

  -- a key below that of a pair is below all behind it
  pub below_more : (q : K) (es : List (K × V)) (low high at : ℕ) → IsStrictlySortedBy R (keys_of es) → IsBetween R q es low high → low ≤ at → at < high → ((d : K × V) → R q (get_or es at d).0 ≡ Less) → IsBetween R q es low at
  below_more q es low high at sorted between from less here = record {
    ordered = from;
    within = omega (arith, less, between.within);
    above = between.above;
    below = λ i d behind within. elim (cases_order i at) [
      | inl same ↦ subst (λ k. R q (get_or es k d).0 ≡ Less) (sym same) (here d)
      | inr other ↦ elim other [
        | inl earlier ↦ absurd (omega (arith, behind, earlier))
        | inr later ↦ o.trans q (get_or es at d).0 (get_or es i d).0 (here d) (earlier_below es at i d sorted later within)
      ]
    ];
  }

  -- a pair whose key is the one that is sought has what is found
  pub found_at : (q : K) (es : List (K × V)) (at : ℕ) (d : K × V) → IsStrictlySortedBy R (keys_of es) → at < length es → R q (get_or es at d).0 ≡ Equal
      → Some (get_or es at d).1 ≡ lookup (is_at (R q)) es
  found_at q [] at d sorted within same = absurd (omega (arith, within))
  found_at q (p ∷ es) zero d sorted within same = sym (lookup_head (is_at (R q)) p es (ap is_eq same))
  found_at q (p ∷ es) (suc at) d sorted within same =
      let inside : at < length es = omega (arith, within) in
      let below = below_at p.0 es at d (sorted_head R p.0 (keys_of es) sorted) inside in
      let above : R q p.0 ≡ Greater = o.congr q (get_or es at d).0 p.0 same ∙ o.antisymm (get_or es at d).0 p.0 ∙ ap ordering_reverse below in
      found_at q es at d (sorted_tail R p.0 (keys_of es) sorted) inside same ∙ sym (lookup_tail (is_at (R q)) p es (ap is_eq above))

  -- where no pair is left between, nothing is found
  pub found_nowhere : (q : K) (es : List (K × V)) (low high : ℕ) → IsStrictlySortedBy R (keys_of es) → IsBetween R q es low high → high ≤ low → None ≡ lookup (is_at (R q)) es
  found_nowhere q es low high sorted between none =
      sym (lookup_at_gap o q es low sorted
      (λ j e less there. subst (λ p. R q p.0 ≡ Greater) (get_or_from_slice_get es j e e there) (between.above j e less))
      (λ e there. subst (λ p. R q p.0 ≡ Less) (get_or_from_slice_get es low e e there) (between.below low e none (slice_get_within es low e there))))
