-- Reading the ticket that is served, and settling a join, keep the rule.
use Rattle.std.proofs.Common.{◌≡◌, ◌≢◌, ◌+◌, ◌<◌, ◌≤◌, ℕ, List, [], ◌∷◌, length, map, get_or, set, Option, Some, ⊎_elim, inl, inr, sym, refl, ap, ◌∙◌, subst, arith}
use Rattle.std.specs.List.{AllByRecursion}
use mathlib.Core.Logic.{dite}
use mathlib.Core.Option.{some, none, some-injective}
use native.Mathlib.Decide.{ℕ_discrete, dec_le}
use lib.ListN.{get_elem?}
use Rattle.atomic_table.specs.Table.{State, Me, keeps, takes, step, Allows}
use Rattle.std.specs.declared.snapshot.Snapshot.{Snapshot}
use Rattle.office_base.specs.Numbered.{last_of_numbers, rises}
use Rattle.office_desk.specs.declared.view.View.{View}
use Rattle.office_desk.specs.declared.view.Stage.{Stage}
use Rattle.office_desk.specs.declared.view.Stage.TheVariants.{Idle, Waits, Holds, Joined}
use Rattle.office_desk.specs.Totals.{total, times, within}
use Rattle.office_desk.specs.Own.{HasSeen, longer}
use Rattle.office_desk.specs.Turning.{open_of, held_in, waiting_of, draws_of, held_of, first_ticket, FitsStage, Stands, InTurn}
use Rattle.office_desk.specs.Told.{holding, Looks, IsTaken, Settles}
use Rattle.office_desk.proofs.TotalsLemmas.{total_set, total_same, total_at, total_two, total_some}
use Rattle.office_desk.proofs.TicketLemmas.{times_here, times_append, within_most}
use Rattle.office_desk.proofs.EntryLemmas.{both_seen, merged}
use Rattle.std.proofs.lemmas.Option.{same_Some}
use Rattle.office_desk.proofs.Calm.{calm, place_same}
use Rattle.office_desk.proofs.Drawing.{next_small}

module _ {I : Type 0} where
  abbrev ticket_of : Stage I → ℕ
  ticket_of Idle = 0
  ticket_of (Waits t) = t
  ticket_of (Holds t taken n k) = t
  ticket_of (Joined seen tickets seen' tickets') = 0

  -- the pass that holds the value has drawn the ticket that is served
  pub held_draws : {V B : Type 0} (basis : V → B) (entries : V → List I) (number : I → ℕ) (count kept : V → ℕ) (history : List I) (serving most most_kept : ℕ) (v : View V I) (stage : Stage I)
      → FitsStage basis entries number count kept history serving most most_kept v stage → 1 ≤ held_in stage → 1 ≤ times serving (open_of stage)
  held_draws basis entries number count kept history serving most most_kept v Idle fits held = absurd (omega (arith, held))
  held_draws basis entries number count kept history serving most most_kept v (Waits t) fits held = absurd (omega (arith, held))
  held_draws basis entries number count kept history serving most most_kept v (Holds t taken n k) fits held =
      let one = times_here serving [] in let same : times serving (t ∷ []) ≡ times serving (serving ∷ []) = ap (λ k. times serving (k ∷ [])) fits.0 in omega (arith, one, same)
  held_draws basis entries number count kept history serving most most_kept v (Joined seen tickets seen' tickets') fits held = absurd (omega (arith, held))

module _ {V I B : Type 0} (basis : V → B) (entries : V → List I) (number : I → ℕ) (count kept : V → ℕ) (key : Snapshot V) where
  -- where the ticket that is served waits, the value is at home
  pub at_home : (s : State (Option V) (View V I)) (h : InTurn basis entries number count kept key s) (id : ℕ) (v : View V I) → get_elem? s.views id ≡ some v → v.stage ≡ Waits h.serving
      → (x : V) × (s.homes ≡ some (Some x) ∷ []) × (total held_of s.views ≡ 0) × Stands basis entries number count kept key h.history h.most h.most_kept x
  at_home s h id v at stage = ⊎_elim
      (λ out. absurd (
      let holder = total_some held_of s.views (let one = out.1 in omega (arith, one)) in
      let u = holder.1 in
      let f = h.views holder.0 u holder.2 in
      let theirs = held_draws basis entries number count kept h.history h.serving h.most h.most_kept u u.stage f.stands holder.3 in
      let mine : times h.serving (open_of v.stage) ≡ times h.serving (h.serving ∷ []) = ap (λ st. times h.serving (open_of st)) stage in
      let one = times_here h.serving [] in
      let apart : id ≢ holder.0 = (λ e. let same : v ≡ u = some-injective v u (sym at ∙ ap (λ i. get_elem? s.views i) e ∙ holder.2) in
      let none : held_of u ≡ 0 = ap held_of (sym same) ∙ ap held_in stage in let some_held = holder.3 in omega (arith, none, some_held)) in
      let two = total_two (draws_of h.serving) s.views id holder.0 v u at holder.2 apart in
      let all = h.drawn h.serving in
      let most = within_most (first_ticket entries number key.value) h.next h.serving in
      omega (arith, theirs, mine, one, two, all, most)
      ))
      (λ home. home)
      h.place

  -- nothing is changed
  unchanged : (s : State (Option V) (View V I)) (h : InTurn basis entries number count kept key s) (id word : ℕ) (v : View V I) → get_elem? s.views id ≡ some v → (set s.words word (get_or s.words word 0) ≡ s.words)
      → InTurn basis entries number count kept key record { words = set s.words word (get_or s.words word 0); homes = s.homes; views = set s.views id v }
  unchanged s h id word v at same = calm basis entries number count kept key s h id v v h.next (set s.words word (get_or s.words word 0)) s.homes at (same ∙ h.words) refl refl refl refl (λ t. refl) (h.views id v at)
      (place_same basis entries number count kept key h.history h.most h.most_kept s.homes s.views (set s.views id v) (total_same held_of s.views id v v at refl) h.place)

  pub looks : (n id : ℕ) (m : Me (Option V) (View V I)) (t : ℕ) → m.0.stage ≡ Waits t
      → Allows (InTurn basis entries number count kept key) n id m 1 (λ w. w) (Looks basis entries number count kept (step n 1 0 0 none) m)
  looks n id m t stage s h deep at small =
      let v = m.0 in
      let f = h.views id v at in
      let found = get_or s.words 1 0 in
      let is : found ≡ h.serving = ap (λ ws. get_or ws 1 0) h.words in
      let as_read : set s.words 1 found ≡ s.words = (λ i. set (h.words i) 1 (get_or (h.words i) 1 0)) ∙ sym h.words in
      dite (ℕ_discrete found t)
      (λ here.
      let mine : v.stage ≡ Waits h.serving = stage ∙ ap (λ k. Waits k) (sym here ∙ is) in
      let home = at_home s h id v at mine in
      let x = home.0 in
      let w : View V I = record v { stage = Holds t (entries x) (count x) (kept x) } in
      let waits : (h.serving ≤ h.serving) × (1 ≤ v.left) = subst (FitsStage basis entries number count kept h.history h.serving h.most h.most_kept v) mine f.stands in
      let serves : t ≡ h.serving = sym here ∙ is in
      let alive : 1 ≤ v.shares = dite (dec_le 1 v.shares) (λ le. le) (λ none. absurd (let nothing = (f.spent (omega (arith, none))).1 in let left = waits.1 in omega (arith, nothing, left))) in
      let bound = next_small basis entries number count kept key s h in
      let below : h.serving < h.next = (let one = total_at waiting_of s.views id v at in let opened : waiting_of v ≡ 1 = ap (λ st. length (open_of st)) stage in let sum = h.waiting in omega (arith, one, opened, sum)) in
      let last : last_of_numbers (map number h.history) < h.serving = h.past in
      let taken : IsTaken basis entries number count kept t v x = record {
        about = λ origin e. home.3.0 ∙ ap (λ (k : Snapshot V). basis k.value) (same_Some _ _ (sym (f.about alive) ∙ e));
        begins = subst (HasSeen number v.tickets v.seen) (sym home.3.1) f.begins;
        rising = ap (λ l. rises 0 (map number l)) home.3.1 ∙ h.rising;
        last = (let same : last_of_numbers (map number (entries x)) ≡ last_of_numbers (map number h.history) = ap (λ l. last_of_numbers (map number l)) home.3.1 in omega (arith, same, last, serves));
        past = subst (λ k. AllByRecursion (λ u. u < k) v.tickets) (sym serves) f.past;
        counts = (let seen = f.counts in let most = home.3.2 in omega (arith, seen, most));
        keeps = (let seen = f.keeps in let most = home.3.3 in omega (arith, seen, most));
        small = omega (arith, serves, below, bound);
      } in (
        w,
        takes 0 (Some x),
        ap (λ hs. get_elem? hs 0) home.1,
        calm basis entries number count kept key s h id v w h.next (set s.words 1 found) (set s.homes 0 none) at (as_read ∙ h.words)
            (ap (λ st. h.next + length (open_of st)) (sym stage)) refl refl refl
            (λ k. ap (λ st. within (first_ticket entries number key.value) h.next k + (times k v.tickets + times k (open_of st))) (sym stage))
            record {
              about = f.about;
              begins = f.begins;
              past = f.past;
              counts = f.counts;
              keeps = f.keeps;
              spent = (λ none. absurd (omega (arith, none, alive)));
              stands = (serves, waits.1, home.3.1, home.3.2, home.3.3);
            }
            (inl (ap (λ hs. set hs 0 none) home.1, (let moved = total_set held_of s.views id v w at in let old = home.2 in let none : held_of v ≡ 0 = ap held_in stage in omega (arith, moved, old, none)))),
        (λ t' e. let same : t ≡ t' = ap ticket_of (sym stage ∙ e) in (
          (λ found'. (
            x,
            ap (λ k. (holding entries count kept v k x, (0, Some x) ∷ m.1)) same,
            subst (λ k. IsTaken basis entries number count kept k v x) same taken,
          )),
          (λ other. absurd (other (here ∙ same))),
        )),
      ))
      (λ other. (
        v,
        keeps,
        tt,
        unchanged s h id 1 v at as_read,
        (λ t' e. let same : t ≡ t' = ap ticket_of (sym stage ∙ e) in ((λ found'. absurd (other (found' ∙ sym same))), (λ _. refl))),
      ))

  pub settles : (n id : ℕ) (m : Me (Option V) (View V I)) (seen seen' : List I) (tickets tickets' : List ℕ) → m.0.stage ≡ Joined seen tickets seen' tickets'
      → Allows (InTurn basis entries number count kept key) n id m 0 (λ w. w) (Settles number (step n 0 0 0 none) m)
  settles n id m seen seen' tickets tickets' stage s h deep at small =
      let v = m.0 in
      let f = h.views id v at in
      let found = get_or s.words 0 0 in
      let as_read : set s.words 0 found ≡ s.words = (λ i. set (h.words i) 0 (get_or (h.words i) 0 0)) ∙ sym h.words in
      let w : View V I = record v { stage = Idle } in (
        w,
        keeps,
        tt,
        calm basis entries number count kept key s h id v w h.next (set s.words 0 found) s.homes at (as_read ∙ h.words)
            (ap (λ st. h.next + length (open_of st)) (sym stage)) refl refl refl
            (λ k. ap (λ st. within (first_ticket entries number key.value) h.next k + (times k v.tickets + times k (open_of st))) (sym stage))
            record {
              about = f.about;
              begins = f.begins;
              past = f.past;
              counts = f.counts;
              keeps = f.keeps;
              spent = (λ none. let was = f.spent none in (was.0, was.1, refl));
              stands = tt;
            }
            (place_same basis entries number count kept key h.history h.most h.most_kept s.homes s.views (set s.views id w) (total_same held_of s.views id v w at (sym (ap held_in stage))) h.place),
        (λ sn sn' ts ts' e.
            let parts : FitsStage basis entries number count kept h.history h.serving h.most h.most_kept v (Joined sn ts sn' ts') = subst (FitsStage basis entries number count kept h.history h.serving h.most h.most_kept v) e f.stands in
            let both = both_seen number ts ts' sn sn' h.history parts.0 parts.1 in
            let apart : (k : ℕ) → times k ts + times k ts' ≤ 1 = (λ k.
            let one = total_at (draws_of k) s.views id v at in let all = h.drawn k in let most = within_most (first_ticket entries number key.value) h.next k in
            let sum : times k v.tickets ≡ times k ts + times k ts' = ap (times k) parts.2 ∙ times_append k ts ts' in omega (arith, one, all, most, sum)) in (
              refl,
              refl,
              record {
                shares = (let one = total_at (λ (u : View V I). u.shares) s.views id v at in let all = h.shares in omega (arith, one, all));
                turns = (let one = total_at (λ (u : View V I). u.left) s.views id v at in let all = h.turns in let low = h.lower in omega (arith, one, all, low));
                lists = ⊎_elim (λ l. inl (l.0, parts.3 ∙ l.1)) (λ l. inr (l.0, parts.3 ∙ l.1)) both.lists;
                own = rw (parts.2, parts.3, sym both.first, sym both.second) (merged number ts ts' apart (longer sn sn'));
              },
            )),
      )
