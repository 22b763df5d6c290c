-- A step that changes one view, and neither the history nor which ticket is served.
use Rattle.std.proofs.Common.{◌≡◌, ◌+◌, ◌<◌, ◌≤◌, ◌⊎◌, ℕ, zero, suc, List, [], ◌∷◌, length, set, Option, Some, inl, inr, sym, ap, ◌∙◌, subst, arith}
use mathlib.Core.Logic.{dite}
use mathlib.Core.Option.{some, none, some-injective, some-ne-none}
use native.Mathlib.Decide.{ℕ_discrete}
use lib.ListN.{get_elem?}
use Rattle.atomic_table.proofs.Lists.{set_here, set_else}
use Rattle.atomic_table.specs.Table.{State}
use Rattle.std.specs.declared.snapshot.Snapshot.{Snapshot}
use Rattle.office_desk.specs.declared.view.View.{View}
use Rattle.office_desk.specs.Totals.{total, within}
use Rattle.office_desk.specs.Turning.{waiting_of, draws_of, held_of, first_ticket, Fits, Stands, InTurn}
use Rattle.office_desk.proofs.TotalsLemmas.{total_set, total_same, each_set}

module _ {A : Type 0} where
  pub at_length : (xs : List A) (i : ℕ) (v : A) → get_elem? xs i ≡ some v → i < length xs
  at_length [] i v at = absurd (some-ne-none v (sym at))
  at_length (x ∷ xs) zero v at = omega arith
  at_length (x ∷ xs) (suc i) v at = let back = at_length xs i v at in omega (arith, back)

  pub here_set : (xs : List A) (i : ℕ) (v w : A) → get_elem? xs i ≡ some v → get_elem? (set xs i w) i ≡ some w
  here_set xs i v w at = set_here xs i w (at_length xs i v at)

module _ {V I B : Type 0} (basis : V → B) (entries : V → List I) (number : I → ℕ) (count kept : V → ℕ) (key : Snapshot V) where
  abbrev Newest : List I → List (View V I) → Type 0
  Newest history views = (i : ℕ) × (v : View V I) × (get_elem? views i ≡ some v) × (1 ≤ v.shares) × (v.seen ≡ history)

  pub newest_set : (history : List I) (views : List (View V I)) (id : ℕ) (v w : View V I) → get_elem? views id ≡ some v → w.shares ≡ v.shares → w.seen ≡ v.seen
      → Newest history views → Newest history (set views id w)
  newest_set history views id v w at shares seen newest = dite (ℕ_discrete newest.0 id)
      (λ e. let same : newest.1 ≡ v = some-injective newest.1 v (sym newest.2 ∙ ap (λ i. get_elem? views i) e ∙ at) in
      let alive : 1 ≤ v.shares = subst (λ (u : View V I). 1 ≤ u.shares) same newest.3 in (
        id,
        w,
        here_set views id v w at,
        omega (arith, shares, alive),
        seen ∙ ap (λ (u : View V I). u.seen) (sym same) ∙ newest.4,
      ))
      (λ apart. (newest.0, newest.1, set_else views id newest.0 w apart ∙ newest.2, newest.3, newest.4))

  abbrev Place : List I → ℕ → ℕ → List (mathlib.Core.Option.Option (Option V)) → List (View V I) → Type 0
  Place history most most_kept homes views = ((homes ≡ none ∷ []) × (total held_of views ≡ 1)) ⊎ ((x : V) × (homes ≡ some (Some x) ∷ []) × (total held_of views ≡ 0) × Stands basis entries number count kept key history most most_kept x)

  pub place_same : (history : List I) (most most_kept : ℕ) (homes : List (mathlib.Core.Option.Option (Option V))) (views views' : List (View V I)) → total held_of views' ≡ total held_of views
      → Place history most most_kept homes views → Place history most most_kept homes views'
  place_same history most most_kept homes views views' same (inl out) = inl (out.0, same ∙ out.1)
  place_same history most most_kept homes views views' same (inr home) = inr (home.0, home.1, same ∙ home.2, home.3)

  pub calm : (s : State (Option V) (View V I)) (h : InTurn basis entries number count kept key s) (id : ℕ) (v w : View V I) (next : ℕ) (words : List ℕ) (homes : List (mathlib.Core.Option.Option (Option V)))
      → get_elem? s.views id ≡ some v → words ≡ next ∷ h.serving ∷ [] → h.next + waiting_of w ≡ next + waiting_of v
      → w.shares ≡ v.shares → w.left ≡ v.left → w.seen ≡ v.seen
      → ((t : ℕ) → within (first_ticket entries number key.value) h.next t + draws_of t w ≡ within (first_ticket entries number key.value) next t + draws_of t v)
      → Fits basis entries number count kept key h.history h.serving h.most h.most_kept w → Place h.history h.most h.most_kept homes (set s.views id w)
      → InTurn basis entries number count kept key record { words = words; homes = homes; views = set s.views id w }
  calm s h id v w next words homes at is waiting shares left seen drawn fits place = record {
    history = h.history;
    next = next;
    serving = h.serving;
    most = h.most;
    most_kept = h.most_kept;
    words = is;
    lower = h.lower;
    upper = h.upper;
    waiting = (let moved = total_set waiting_of s.views id v w at in let old = h.waiting in omega (arith, moved, old, waiting));
    turns = ap (λ n. h.serving + n) (total_same (λ (u : View V I). u.left) s.views id v w at left) ∙ h.turns;
    shares = total_same (λ (u : View V I). u.shares) s.views id v w at shares ∙ h.shares;
    drawn = (λ t. let moved = total_set (draws_of t) s.views id v w at in let old = h.drawn t in let new = drawn t in omega (arith, moved, old, new));
    goes_on = h.goes_on;
    rising = h.rising;
    past = h.past;
    views = each_set (Fits basis entries number count kept key h.history h.serving h.most h.most_kept) s.views id w h.views fits;
    newest = newest_set h.history s.views id v w at shares seen h.newest;
    place = place;
  }
