-- Cutting a view in two keeps the rule.
use Rattle.std.proofs.Common.{◌≡◌, ◌+◌, ◌≤◌, ℕ, List, [], ◌∷◌, ◌++◌, length, set, sym, refl, ap, ◌∙◌, subst, arith}
use mathlib.Core.Logic.{dite}
use mathlib.Core.Option.{some-injective}
use native.Mathlib.Decide.{ℕ_discrete}
use lib.ListN.{get_elem?}
use Rattle.atomic_table.proofs.Lists.{at_longer, set_else}
use Rattle.atomic_table.specs.Table.{Splits}
use Rattle.std.specs.declared.snapshot.Snapshot.{Snapshot}
use Rattle.office_desk.specs.declared.view.View.{View}
use Rattle.office_desk.specs.declared.view.Stage.TheVariants.{Idle}
use Rattle.office_desk.specs.Totals.{total, times}
use Rattle.office_desk.specs.Turning.{open_of, held_in, waiting_of, draws_of, held_of, left_part, right_part, FitsStage, Fits, InTurn}
use Rattle.office_desk.proofs.TotalsLemmas.{total_set, total_same, total_snoc, each_set, each_snoc}
use Rattle.office_desk.proofs.EntryLemmas.{among_no_tickets}
use Rattle.office_desk.proofs.Calm.{here_set, place_same}

module _ {V I B : Type 0} (basis : V → B) (entries : V → List I) (number : I → ℕ) (count kept : V → ℕ) (key : Snapshot V) where
  pub parts : (id k : ℕ) (v : View V I) → v.stage ≡ Idle → 2 ≤ v.shares → k ≤ v.left
      → Splits (InTurn basis entries number count kept key) id v (left_part k v) (right_part k v)
  parts id k v idle some_shares turns s h at =
      let f = h.views id v at in
      let left = left_part k v in
      let right = right_part k v in
      let cut = set s.views id left in
      let total_after : (g : View V I → ℕ) → total g (cut ++ right ∷ []) ≡ total g cut + g right = (λ g. total_snoc g cut right) in
      let quiet : FitsStage basis entries number count kept h.history h.serving h.most h.most_kept left v.stage = subst (FitsStage basis entries number count kept h.history h.serving h.most h.most_kept left) (sym idle) tt in
      let quiet' : FitsStage basis entries number count kept h.history h.serving h.most h.most_kept right v.stage = subst (FitsStage basis entries number count kept h.history h.serving h.most h.most_kept right) (sym idle) tt in
      record {
        history = h.history;
        next = h.next;
        serving = h.serving;
        most = h.most;
        most_kept = h.most_kept;
        words = h.words;
        lower = h.lower;
        upper = h.upper;
        waiting = (let all = total_after waiting_of in let same = total_same waiting_of s.views id v left at refl in let none : waiting_of v ≡ 0 = ap (λ st. length (open_of st)) idle in
            let sum = h.waiting in omega (arith, all, same, none, sum));
        turns = (let all = total_after (λ (u : View V I). u.left) in let moved = total_set (λ (u : View V I). u.left) s.views id v left at in let sum = h.turns in omega (arith, all, moved, sum, turns));
        shares = (let all = total_after (λ (u : View V I). u.shares) in let moved = total_set (λ (u : View V I). u.shares) s.views id v left at in let sum = h.shares in omega (arith, all, moved, sum, some_shares));
        drawn = (λ t. let all = total_after (draws_of t) in let same = total_same (draws_of t) s.views id v left at refl in
            let none : times t (open_of v.stage) ≡ 0 = ap (λ st. times t (open_of st)) idle in let sum = h.drawn t in omega (arith, all, same, none, sum));
        goes_on = h.goes_on;
        rising = h.rising;
        past = h.past;
        views = each_snoc (Fits basis entries number count kept key h.history h.serving h.most h.most_kept) cut right
            (each_set (Fits basis entries number count kept key h.history h.serving h.most h.most_kept) s.views id left h.views record {
              about = (λ some_left. f.about (omega (arith, some_shares)));
              begins = f.begins;
              past = f.past;
              counts = f.counts;
              keeps = f.keeps;
              spent = (λ none. absurd (omega (arith, none, some_shares)));
              stands = quiet;
            })
            record {
              about = (λ some_left. f.about (omega (arith, some_shares)));
              begins = (let seen = f.begins in (seen.0, seen.1, among_no_tickets number seen.0));
              past = tt;
              counts = f.counts;
              keeps = f.keeps;
              spent = (λ none. absurd (omega (arith, none)));
              stands = quiet';
            };
        newest = (let newest = h.newest in dite (ℕ_discrete newest.0 id)
            (λ e. let same : newest.1 ≡ v = some-injective newest.1 v (sym newest.2 ∙ ap (λ i. get_elem? s.views i) e ∙ at) in
            (id, left, at_longer cut (right ∷ []) id left (here_set s.views id v left at), omega (arith, some_shares), ap (λ (u : View V I). u.seen) (sym same) ∙ newest.4))
            (λ apart. (newest.0, newest.1, at_longer cut (right ∷ []) newest.0 newest.1 (set_else s.views id newest.0 left apart ∙ newest.2), newest.3, newest.4)));
        place = place_same basis entries number count kept key h.history h.most h.most_kept s.homes s.views (cut ++ right ∷ [])
            (let all = total_after held_of in let same = total_same held_of s.views id v left at refl in let none : held_of v ≡ 0 = ap held_in idle in omega (arith, all, same, none)) h.place;
      }
