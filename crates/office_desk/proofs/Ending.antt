-- How a desk begins, and what is known where it ends with a whole pass.
use Rattle.std.proofs.Common.{◌≡◌, ◌≢◌, ◌^◌, ◌<◌, ◌≤◌, ℕ, List, [], ◌∷◌, ◌++◌, map, true, Option, Some, ⊎_elim, inr, sym, refl, ap, ◌∙◌, subst, arith, append-nil}
use Rattle.std.specs.List.{AllByRecursion}
use mathlib.Core.List.{map-append}
use mathlib.Core.Logic.{dite}
use mathlib.Core.Option.{some, some-injective, some-ne-none}
use native.Mathlib.Decide.{ℕ_discrete}
use lib.ListN.{get_elem?}
use Rattle.atomic_table.proofs.Lists.{at_snoc}
use Rattle.atomic_table.specs.Table.{State, opening}
use Rattle.std.specs.declared.snapshot.Snapshot.{Snapshot}
use Rattle.office_base.specs.Numbered.{rises}
use Rattle.office_base.proofs.Lists.{all_right, all_weaker}
use Rattle.office_desk.specs.declared.view.View.{View}
use Rattle.office_desk.specs.declared.view.Stage.TheVariants.{Idle}
use Rattle.office_desk.specs.Totals.{total, times, within}
use Rattle.office_desk.specs.Own.{among}
use Rattle.office_desk.specs.Turning.{open_of, held_in, draws_of, held_of, whole_view, first_ticket, Fits, InTurn}
use Rattle.office_desk.proofs.TotalsLemmas.{others_none, total_alone}
use Rattle.office_desk.proofs.TicketLemmas.{within_in, within_below, within_empty, all_below, rises_left}
use Rattle.office_desk.proofs.EntryLemmas.{all_from_map, among_none, among_all, among-append}

module _ {V I B : Type 0} (basis : V → B) (entries : V → List I) (number : I → ℕ) (count kept : V → ℕ) (key : Snapshot V) where
  -- the desk begins with this value
  pub opens : (value : V) (n : ℕ) → key.value ≡ value → n ≡ first_ticket entries number value → n ≤ 2 ^ 40 → rises 0 (map number (entries value)) ≡ true
      → InTurn basis entries number count kept key (opening (n ∷ n ∷ []) (Some value ∷ []) (whole_view entries count kept key))
  opens value n same first small up =
      let low : first_ticket entries number key.value ≡ n = ap (first_ticket entries number) same ∙ sym first in
      let view : View V I = whole_view entries count kept key in
      record {
        history = entries key.value;
        next = n;
        serving = n;
        most = count key.value;
        most_kept = kept key.value;
        words = refl;
        lower = omega (arith, low);
        upper = omega (arith, low, small);
        waiting = omega arith;
        turns = omega (arith, low);
        shares = refl;
        drawn = (λ t. let none = within_empty (first_ticket entries number key.value) t in
            let same' : within (first_ticket entries number key.value) n t ≡ within (first_ticket entries number key.value) (first_ticket entries number key.value) t =
            ap (λ k. within (first_ticket entries number key.value) k t) (sym low) in omega (arith, none, same'));
        goes_on = ([], sym (append-nil (entries key.value)), tt);
        rising = ap (λ x. rises 0 (map number (entries x))) same ∙ up;
        past = omega (arith, low);
        views = (λ i v at. ⊎_elim (λ nothing. absurd (some-ne-none v (sym nothing)))
            (λ e. subst (Fits basis entries number count kept key (entries key.value) n (count key.value) (kept key.value)) e record {
              about = (λ _. refl);
              begins = ([], sym (append-nil (entries key.value)), refl);
              past = tt;
              counts = omega arith;
              keeps = omega arith;
              spent = (λ none. absurd (omega (arith, none)));
              stands = tt;
            }) (at_snoc [] view v i at));
        newest = (0, view, refl, omega arith, refl);
        place = inr (value, refl, refl, (ap basis (sym same), ap entries (sym same), (let as_much : count key.value ≡ count value = ap count same in omega (arith, as_much)), (let as_many : kept key.value ≡ kept value = ap kept same in omega (arith, as_many))));
      }

  -- the value with which a desk ends: its list is what the whole pass has seen, and all that follows the opening is the pass's own
  pub record IsLeft (v : View V I) (x : V) : Type 0 where
    pub basis_is : basis x ≡ basis key.value
    pub seen : entries x ≡ v.seen
    pub own : entries x ≡ entries key.value ++ among number v.tickets v.seen
    pub counts : v.count ≤ count x
    pub keeps : v.kept ≤ kept x

  below_first : (s : State (Option V) (View V I)) (h : InTurn basis entries number count kept key s) → AllByRecursion (λ e. number e < first_ticket entries number key.value) (entries key.value)
  below_first s h =
      let goes = h.goes_on in
      let numbers : map number h.history ≡ map number (entries key.value) ++ map number goes.0 = ap (map number) goes.1 ∙ map-append number (entries key.value) goes.0 in
      let up = rises_left 0 (map number (entries key.value)) (map number goes.0) (sym (ap (rises 0) numbers) ∙ h.rising) in
      all_from_map (λ n. n < first_ticket entries number key.value) number (entries key.value) (all_below 0 (first_ticket entries number key.value) (map number (entries key.value)) up (omega arith))

  past_serving : (s : State (Option V) (View V I)) (h : InTurn basis entries number count kept key s) → AllByRecursion (λ e. number e < h.serving) h.goes_on.0
  past_serving s h =
      let goes = h.goes_on in
      all_right (λ e. number e < h.serving) (entries key.value) goes.0 (subst (AllByRecursion (λ e. number e < h.serving)) goes.1
      (all_from_map (λ n. n < h.serving) number h.history (all_below 0 h.serving (map number h.history) h.rising h.past)))

  both_hold : {X : Type 0} (P Q : X → Type 0) (xs : List X) → AllByRecursion P xs → AllByRecursion Q xs → AllByRecursion (λ x. P x × Q x) xs
  both_hold P Q [] all all' = tt
  both_hold P Q (x ∷ xs) all all' = ((all.0, all'.0), both_hold P Q xs all.1 all'.1)

  pub ends : (s : State (Option V) (View V I)) (h : InTurn basis entries number count kept key s) (id : ℕ) (v : View V I) → get_elem? s.views id ≡ some v → v.shares ≡ 2 ^ 30 → v.stage ≡ Idle
      → (x : V) × (s.homes ≡ some (Some x) ∷ []) × IsLeft v x
  ends s h id v at whole idle =
      let f = h.views id v at in
      let spent : (j : ℕ) (u : View V I) → get_elem? s.views j ≡ some u → id ≢ j → u.shares ≡ 0 = (λ j u there apart.
      others_none (λ (w : View V I). w.shares) s.views id j v u at there apart (let all = h.shares in omega (arith, all, whole))) in
      let nothing : (j : ℕ) (u : View V I) → get_elem? s.views j ≡ some u → id ≢ j → (u.tickets ≡ []) × (u.left ≡ 0) × (u.stage ≡ Idle) = (λ j u there apart. (h.views j u there).spent (spent j u there apart)) in
      let held : total held_of s.views ≡ 0 = total_alone held_of s.views id v at (λ j u there apart. ap held_in (nothing j u there apart).2) ∙ ap held_in idle in
      let drawn : (t : ℕ) → times t v.tickets ≡ within (first_ticket entries number key.value) h.next t = (λ t.
      let alone = total_alone (draws_of t) s.views id v at (λ j u there apart. let none = nothing j u there apart in
      let tickets : times t u.tickets ≡ 0 = ap (times t) none.0 in let opened : times t (open_of u.stage) ≡ 0 = ap (λ st. times t (open_of st)) none.2 in omega (arith, tickets, opened)) in
      let all = h.drawn t in let opened : times t (open_of v.stage) ≡ 0 = ap (λ st. times t (open_of st)) idle in omega (arith, alone, all, opened)) in
      let newest = h.newest in
      let seen : v.seen ≡ h.history = dite (ℕ_discrete id newest.0)
      (λ e. let same : newest.1 ≡ v = some-injective newest.1 v (sym newest.2 ∙ ap (λ i. get_elem? s.views i) (sym e) ∙ at) in ap (λ (u : View V I). u.seen) (sym same) ∙ newest.4)
      (λ apart. absurd (let none = spent newest.0 newest.1 newest.2 apart in let alive = newest.3 in omega (arith, none, alive))) in
      let goes = h.goes_on in
      let served : h.serving ≤ h.next = (let sum = h.waiting in omega (arith, sum)) in
      let before : among number v.tickets (entries key.value) ≡ [] = among_none number v.tickets (entries key.value)
      (all_weaker (λ e. number e < first_ticket entries number key.value) (λ e. times (number e) v.tickets ≡ 0)
      (λ e lt. drawn (number e) ∙ within_below (first_ticket entries number key.value) h.next (number e) lt) (entries key.value) (below_first s h)) in
      let after : among number v.tickets goes.0 ≡ goes.0 = among_all number v.tickets goes.0
      (all_weaker (λ e. (first_ticket entries number key.value ≤ number e) × (number e < h.serving)) (λ e. 1 ≤ times (number e) v.tickets)
      (λ e both. let once = drawn (number e) in let one = within_in (first_ticket entries number key.value) h.next (number e) both.0 (let lt = both.1 in omega (arith, lt, served)) in omega (arith, once, one))
      goes.0 (both_hold (λ e. first_ticket entries number key.value ≤ number e) (λ e. number e < h.serving) goes.0 goes.2 (past_serving s h))) in
      let own : among number v.tickets v.seen ≡ goes.0 = ap (among number v.tickets) (seen ∙ goes.1) ∙ among-append number v.tickets (entries key.value) goes.0 ∙ (λ i. before i ++ after i) in
      ⊎_elim (λ out. absurd (let one = out.1 in omega (arith, one, held)))
      (λ home. (
        home.0,
        home.1,
        record {
          basis_is = home.3.0;
          seen = home.3.1 ∙ sym seen;
          own = home.3.1 ∙ goes.1 ∙ ap (λ l. entries key.value ++ l) (sym own);
          counts = (let seen' = f.counts in let most = home.3.2 in omega (arith, seen', most));
          keeps = (let seen' = f.keeps in let most = home.3.3 in omega (arith, seen', most));
        },
      ))
      h.place
