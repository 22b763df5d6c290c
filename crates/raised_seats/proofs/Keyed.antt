-- Sorted keys, and a search among them.
use Rattle.std.proofs.Common.{◌≡◌, ◌≤◌, ◌+◌, ℕ, List, [], ◌∷◌, ◌++◌, false, Result, Ok, Err, length, get_or, map, refl, sym, ap, subst, ◌∙◌, arith, inl, inr}
use Rattle.std.specs.Prelude.{◌||◌, is_ok}
use Rattle.std.specs.Cmp.{IsTotalOrder, alike_right, both_tied, eq_by_cmp_equiv, nat_cmp_total, on_total, then_total, tied_itself, unsigned_ties}
use Rattle.std.specs.List.{insert, list_any}
use Rattle.std.specs.List.Sorted.{IsBinarySearchResult, IsNonDecreasingBy, IsPartitionPoint, IsPermutation, IsSearchInRange, IsSorted}
use Rattle.std.specs.Ordering.{is_eq, is_lt, ordering_index, ordering_reverse}
use Rattle.std.specs.declared.cmp.Ordering.{Ordering}
use Rattle.std.specs.declared.cmp.Ordering.TheVariants.{Less, Equal, Greater}
use Rattle.std.proofs.lemmas.Bool.{cases_lt}
use Rattle.std.proofs.lemmas.List.{map_push}
use Rattle.std.proofs.lemmas.List.Folds.{list_any_at, list_any_none}
use Rattle.std.proofs.lemmas.List.Sorted.{IsNonDecreasingBy-insert, IsPermutation-insert, IsPermutation-push_more, list_any-IsPermutation, searchable_from_sorted}
use Rattle.kept_rows.specs.declared.rows.RaiseRow.{RaiseRow}
use Rattle.office_moves.specs.Decided.{same_raise}
use Rattle.raised_seats.specs.Keys.{AreSortedKeys, Key, key_cmp, key_of}

-- a search finds one exactly if any is equal
found : {X : Type 0} (ord : X → Ordering) (xs : List X) (r : Result ℕ ℕ) → IsSearchInRange r (length xs) → IsBinarySearchResult ord xs r → IsNonDecreasingBy (λ x. ordering_index (ord x)) xs
    → is_ok r ≡ list_any (λ x. is_eq (ord x)) xs
found ord [] (Ok at) within equal rise = absurd (omega arith)
found ord (x ∷ xs) (Ok at) within equal rise = sym (list_any_at (λ y. is_eq (ord y)) (x ∷ xs) at x within (ap is_eq (equal x)))
found ord xs (Err at) within parted rise =
    sym (list_any_none (λ y. is_eq (ord y)) xs (λ k d inside. elim (cases_lt k at) [
      | inl below ↦ ap is_eq ((parted rise).0 k d (omega arith) below)
      | inr above ↦ ap is_eq ((parted rise).1 k d above inside)
    ]))

at_most_two : (r : Ordering) → ordering_index r ≤ 2
at_most_two Less = omega arith
at_most_two Equal = omega arith
at_most_two Greater = omega arith

not_less : (r : Ordering) → 1 ≤ ordering_index r → is_lt r ≡ false
not_less Less h = absurd (omega arith)
not_less Equal h = refl
not_less Greater h = refl

module _ {K : Type 0} {R : K → K → Ordering} (o : IsTotalOrder R) where
  -- the comparison of a lower one is no higher
  lower : (a b x : K) (r : Ordering) → R a b ≡ Less → R b x ≡ r → ordering_index (R a x) ≤ ordering_index r
  lower a b x Less less e = omega (arith, ap ordering_index (o.trans a b x less e))
  lower a b x Equal less e = omega (arith, ap ordering_index (sym (alike_right o b x a e) ∙ less))
  lower a b x Greater less e = at_most_two (R a x)

  sorted_from : (ks : List K) → ((x : K) → IsNonDecreasingBy (λ y. ordering_index (R y x)) ks) → IsSorted R ks
  sorted_from ks rise k d low inside = not_less (R (get_or ks (k + 1) d) (get_or ks k d)) (omega (arith, rise (get_or ks k d) k (k + 1) d (omega arith) inside, ap ordering_index (tied_itself o (get_or ks k d))))

  -- put between the lower and the higher ones, one more leaves them sorted
  sorted_with : (ks : List K) (at : ℕ) (key : K) → IsSorted R ks → at ≤ length ks → IsPartitionPoint (λ y. R y key ≡ Less) (λ y. R y key ≡ Greater) ks at → IsSorted R (insert ks at key)
  sorted_with ks at key sorted within parted =
      sorted_from (insert ks at key) (λ x. IsNonDecreasingBy-insert (λ y. ordering_index (R y x)) ks at key (searchable_from_sorted o (λ y. y) ks x sorted) within
      (λ k d below. lower (get_or ks k d) key x (R key x) (parted.0 k d (omega arith) below) refl)
      (λ k d above inside. lower key (get_or ks k d) x (R (get_or ks k d) x) (o.antisymm key (get_or ks k d) ∙ ap ordering_reverse (parted.1 k d above inside)) refl))

key_order : IsTotalOrder key_cmp
key_order = then_total (then_total (then_total (on_total (λ k. k.0) nat_cmp_total) (on_total (λ k. k.1) nat_cmp_total)) (on_total (λ k. k.2) nat_cmp_total)) (on_total (λ k. k.3) nat_cmp_total)

-- keys are equal exactly if the raises are one
one_key : (row other : RaiseRow) → is_eq (key_cmp (key_of other) (key_of row)) ≡ same_raise row other
one_key row other =
    let a = key_of row in
    let b = key_of other in
    let two = both_tied _ _ _ _ (unsigned_ties a.0 b.0) (unsigned_ties a.1 b.1) in
    let all = both_tied _ _ _ _ (both_tied _ _ _ _ two (unsigned_ties a.2 b.2)) (unsigned_ties a.3 b.3) in
    (eq_by_cmp_equiv key_order).symm b a ∙ sym all

among : (row : RaiseRow) (rows : List RaiseRow) → list_any (λ key. is_eq (key_cmp key (key_of row))) (map key_of rows) ≡ list_any (same_raise row) rows
among row [] = refl
among row (other ∷ rows) = λ i. one_key row other i || among row rows i

module _ (rows : List RaiseRow) (keys : List Key) (row : RaiseRow) (are : AreSortedKeys rows keys) where
  rises : IsNonDecreasingBy (λ key. ordering_index (key_cmp key (key_of row))) keys
  rises = searchable_from_sorted key_order (λ key. key) keys (key_of row) are.sorted

  -- A search finds the key of a raise if and only if the raise is one of these.
  pub is_among : (r : Result ℕ ℕ) → IsSearchInRange r (length keys) → IsBinarySearchResult (λ key. key_cmp key (key_of row)) keys r → is_ok r ≡ list_any (same_raise row) rows
  is_among r within result =
      found (λ key. key_cmp key (key_of row)) keys r within result rises ∙ sym (list_any-IsPermutation (λ key. is_eq (key_cmp key (key_of row))) (map key_of rows) keys are.same) ∙ among row rows

  -- The key of one more raise is put where a search ended.
  pub with_key : (at : ℕ) → at ≤ length keys → IsBinarySearchResult (λ key. key_cmp key (key_of row)) keys (Err at) → AreSortedKeys (rows ++ row ∷ []) (insert keys at (key_of row))
  with_key at within parted = record {
    sorted = sorted_with key_order keys at (key_of row) are.sorted within (parted rises);
    same = subst (λ (l : List Key). IsPermutation l (insert keys at (key_of row))) (sym (map_push key_of rows row))
        (IsPermutation-push_more (map key_of rows) keys (insert keys at (key_of row)) (key_of row) are.same (IsPermutation-insert keys at (key_of row)));
  }
