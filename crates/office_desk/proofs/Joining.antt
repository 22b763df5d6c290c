-- Making two views one keeps the rule.
use Rattle.std.proofs.Common.{◌≡◌, ◌≢◌, ◌+◌, ◌<◌, ◌≤◌, ℕ, List, ◌++◌, length, set, Bool, true, false, sym, refl, ap, ◌∙◌, arith}
use mathlib.Core.Logic.{dite}
use mathlib.Core.Option.{some, some-injective}
use native.Mathlib.Decide.{ℕ_discrete}
use lib.ListN.{get_elem?}
use Rattle.atomic_table.proofs.Lists.{set_else}
use Rattle.atomic_table.specs.Table.{Joins}
use Rattle.std.specs.declared.snapshot.Snapshot.{Snapshot}
use Rattle.office_desk.specs.declared.view.View.{View}
use Rattle.office_desk.specs.declared.view.Stage.TheVariants.{Idle}
use Rattle.office_desk.specs.Totals.{total, times}
use Rattle.office_desk.specs.Own.{HasSeen, longer}
use Rattle.office_desk.specs.Turning.{open_of, held_in, waiting_of, draws_of, held_of, both_of, spent_view, Fits, InTurn}
use Rattle.office_desk.proofs.TotalsLemmas.{each_set, total_join}
use Rattle.office_desk.proofs.TicketLemmas.{times_append}
use Rattle.office_desk.proofs.EntryLemmas.{among_no_tickets, both_seen, prefix_whole, longer_length}
use Rattle.std.specs.Prelude.{cond, nat_lt}
use Rattle.office_base.proofs.Lists.{all_joined}
use Rattle.office_desk.proofs.Calm.{here_set, place_same}

larger_count : (b : Bool) (m n most : ℕ) → m ≤ most → n ≤ most → cond {A = ℕ} b m n ≤ most
larger_count true m n most le le' = le
larger_count false m n most le le' = le'

module _ {V I B : Type 0} (basis : V → B) (entries : V → List I) (number : I → ℕ) (count kept : V → ℕ) (key : Snapshot V) where
  -- one of the two has seen all, or neither
  newest_joined : (history : List I) (views : List (View V I)) (id other : ℕ) (v w : View V I) → get_elem? views id ≡ some v → get_elem? views other ≡ some w → other ≢ id
      → 1 ≤ v.shares → HasSeen number (v.tickets ++ w.tickets) (longer v.seen w.seen) history
      → (i : ℕ) × (u : View V I) × (get_elem? views i ≡ some u) × (1 ≤ u.shares) × (u.seen ≡ history)
      → (i : ℕ) × (u : View V I) × (get_elem? (set (set views id (both_of v w)) other spent_view) i ≡ some u) × (1 ≤ u.shares) × (u.seen ≡ history)
  newest_joined history views id other v w at there apart alive begins newest =
      let lengths = longer_length v.seen w.seen in
      let both : (length history ≤ length (longer v.seen w.seen)) → (i : ℕ) × (u : View V I) × (get_elem? (set (set views id (both_of v w)) other spent_view) i ≡ some u) × (1 ≤ u.shares) × (u.seen ≡ history) =
      (λ le. (
        id,
        both_of v w,
        set_else (set views id (both_of v w)) other id spent_view (λ e. apart (sym e)) ∙ here_set views id v (both_of v w) at,
        omega (arith, alive),
        prefix_whole (longer v.seen w.seen) history begins.0 begins.1 le,
      )) in
      dite (ℕ_discrete newest.0 id)
      (λ e. let same : newest.1 ≡ v = some-injective newest.1 v (sym newest.2 ∙ ap (λ i. get_elem? views i) e ∙ at) in
      let whole : length v.seen ≡ length history = ap (λ (u : View V I). length u.seen) (sym same) ∙ ap length newest.4 in
      let le = lengths.0 in both (omega (arith, whole, le)))
      (λ not_this. dite (ℕ_discrete newest.0 other)
      (λ e. let same : newest.1 ≡ w = some-injective newest.1 w (sym newest.2 ∙ ap (λ i. get_elem? views i) e ∙ there) in
      let whole : length w.seen ≡ length history = ap (λ (u : View V I). length u.seen) (sym same) ∙ ap length newest.4 in
      let le = lengths.1 in both (omega (arith, whole, le)))
      (λ not_that. (
        newest.0,
        newest.1,
        set_else (set views id (both_of v w)) other newest.0 spent_view not_that ∙ set_else views id newest.0 (both_of v w) not_this ∙ newest.2,
        newest.3,
        newest.4,
      )))

  pub joins : (id other : ℕ) (v w : View V I) → v.stage ≡ Idle → w.stage ≡ Idle → 1 ≤ v.shares
      → Joins (InTurn basis entries number count kept key) id v other w (both_of v w) spent_view
  joins id other v w idle idle' alive s h at apart there =
      let both = both_of v w in
      let there' : get_elem? s.views other ≡ some w = sym (set_else s.views id other both apart) ∙ there in
      let f = h.views id v at in
      let g = h.views other w there' in
      let seen = both_seen number v.tickets w.tickets v.seen w.seen h.history f.begins g.begins in
      let summed : (weigh : View V I → ℕ) → weigh both + weigh spent_view ≡ weigh v + weigh w → total weigh (set (set s.views id both) other spent_view) ≡ total weigh s.views =
      (λ weigh same. total_join weigh s.views id other v w both spent_view at there same) in
      let none : waiting_of v ≡ 0 = ap (λ st. length (open_of st)) idle in
      let none' : waiting_of w ≡ 0 = ap (λ st. length (open_of st)) idle' in
      let out : held_of v ≡ 0 = ap held_in idle in
      let out' : held_of w ≡ 0 = ap held_in idle' in
      record {
        history = h.history;
        next = h.next;
        serving = h.serving;
        most = h.most;
        most_kept = h.most_kept;
        words = h.words;
        lower = h.lower;
        upper = h.upper;
        waiting = ap (λ n. h.serving + n) (summed waiting_of (omega (arith, none, none'))) ∙ h.waiting;
        turns = ap (λ n. h.serving + n) (summed (λ (u : View V I). u.left) (omega arith)) ∙ h.turns;
        shares = summed (λ (u : View V I). u.shares) (omega arith) ∙ h.shares;
        drawn = (λ t.
            let sum = times_append t v.tickets w.tickets in
            let nothing : times t (open_of v.stage) ≡ 0 = ap (λ st. times t (open_of st)) idle in
            let nothing' : times t (open_of w.stage) ≡ 0 = ap (λ st. times t (open_of st)) idle' in
            summed (draws_of t) (omega (arith, sum, nothing, nothing')) ∙ h.drawn t);
        goes_on = h.goes_on;
        rising = h.rising;
        past = h.past;
        views = each_set (Fits basis entries number count kept key h.history h.serving h.most h.most_kept) (set s.views id both) other spent_view
            (each_set (Fits basis entries number count kept key h.history h.serving h.most h.most_kept) s.views id both h.views record {
              about = (λ _. f.about alive);
              begins = seen.all;
              past = all_joined (λ t. t < h.serving) v.tickets w.tickets f.past g.past;
              counts = larger_count (nat_lt v.count w.count) w.count v.count h.most g.counts f.counts;
              keeps = larger_count (nat_lt v.kept w.kept) w.kept v.kept h.most_kept g.keeps f.keeps;
              spent = (λ nothing. absurd (omega (arith, nothing, alive)));
              stands = (f.begins, g.begins, refl, refl);
            })
            record {
              about = (λ some_share. absurd (omega (arith, some_share)));
              begins = (h.history, refl, among_no_tickets number h.history);
              past = tt;
              counts = omega arith;
              keeps = omega arith;
              spent = (λ _. (refl, refl, refl));
              stands = tt;
            };
        newest = newest_joined h.history s.views id other v w at there' apart alive seen.all h.newest;
        place = place_same basis entries number count kept key h.history h.most h.most_kept s.homes s.views (set (set s.views id both) other spent_view) (summed held_of (omega (arith, out, out'))) h.place;
      }
