-- Putting the value back and serving the next ticket keeps the rule.
use Rattle.std.proofs.Common.{◌≡◌, ◌+◌, ◌-◌, ◌<◌, ◌≤◌, ℕ, List, [], ◌∷◌, ◌++◌, length, map, set, true, Option, Some, ⊎_elim, inl, inr, sym, refl, ap, ◌∙◌, subst, arith, append_assoc, append-nil}
use Rattle.std.specs.List.{AllByRecursion}
use mathlib.Core.Logic.{dite}
use mathlib.Core.Option.{none}
use native.Mathlib.Decide.{ℕ_discrete, dec_le}
use Rattle.atomic_table.specs.Table.{Me, homes_after, rest, gives, step, Allows}
use Rattle.std.specs.declared.snapshot.Snapshot.{Snapshot}
use Rattle.office_base.specs.Numbered.{last_of_numbers, rises}
use Rattle.office_desk.specs.declared.view.View.{View}
use Rattle.office_desk.specs.declared.view.Stage.{Stage}
use Rattle.office_desk.specs.declared.view.Stage.TheVariants.{Idle, Waits, Holds, Joined}
use Rattle.office_desk.specs.Totals.{total, times}
use Rattle.office_desk.specs.Own.{AppendsAtMost}
use Rattle.office_desk.specs.Turning.{open_of, held_in, waiting_of, draws_of, held_of, first_ticket, FitsStage, Fits, InTurn}
use Rattle.office_desk.specs.Told.{Advances, advanced, after_turn}
use Rattle.office_desk.proofs.TotalsLemmas.{total_set, total_same, total_at, total_two, each_set_other}
use Rattle.office_desk.proofs.TicketLemmas.{times_here, times_append, within_most, last_from-snoc, rises-snoc}
use Rattle.office_desk.proofs.EntryLemmas.{seen_later}
use Rattle.std.proofs.lemmas.List.{map_push}
use Rattle.office_base.proofs.Lists.{all_left, all_right, all_joined, all_weaker}
use Rattle.office_desk.proofs.Calm.{here_set}

module _ {V I B : Type 0} (basis : V → B) (entries : V → List I) (number : I → ℕ) (count kept : V → ℕ) (key : Snapshot V) where
  -- what holds of the stage of another view after the turn
  stage_later : (history later : List I) (serving most most' most_kept most_kept' : ℕ) (u : View V I) (stage : Stage I) → FitsStage basis entries number count kept history serving most most_kept u stage
      → times serving (open_of stage) ≡ 0 → AllByRecursion (λ t. t < serving) u.tickets → AppendsAtMost number serving history later
      → FitsStage basis entries number count kept later (serving + 1) most' most_kept' u stage
  stage_later history later serving most most' most_kept most_kept' u Idle fits apart past app = tt
  stage_later history later serving most most' most_kept most_kept' u (Waits t) fits apart past app = dite (ℕ_discrete serving t)
      (λ e. absurd (let here : times serving (t ∷ []) ≡ 1 = subst (λ k. times serving (k ∷ []) ≡ 1) e (times_here serving []) in omega (arith, here, apart)))
      (λ other. (let le = fits.0 in omega (arith, le, other), fits.1))
  stage_later history later serving most most' most_kept most_kept' u (Holds t taken n k) fits apart past app =
      absurd (let here : times serving (t ∷ []) ≡ 1 = subst (λ k. times serving (k ∷ []) ≡ 1) (sym fits.0) (times_here serving []) in omega (arith, here, apart))
  stage_later history later serving most most' most_kept most_kept' u (Joined seen tickets seen' tickets') fits apart past app =
      let both = subst (AllByRecursion (λ t. t < serving)) fits.2 past in (
        seen_later number tickets seen history later serving fits.0 (all_left (λ t. t < serving) tickets tickets' both) app,
        seen_later number tickets' seen' history later serving fits.1 (all_right (λ t. t < serving) tickets tickets' both) app,
        fits.2,
        fits.3,
      )

  fits_later : (history later : List I) (serving new most most' most_kept most_kept' : ℕ) (u : View V I) → Fits basis entries number count kept key history serving most most_kept u
      → times serving (open_of u.stage) ≡ 0 → AppendsAtMost number serving history later → new ≡ serving + 1 → most ≤ most' → most_kept ≤ most_kept'
      → Fits basis entries number count kept key later new most' most_kept' u
  fits_later history later serving new most most' most_kept most_kept' u f apart app is le le' = record {
    about = f.about;
    begins = seen_later number u.tickets u.seen history later serving f.begins f.past app;
    past = all_weaker (λ t. t < serving) (λ t. t < new) (λ t lt. omega (arith, lt, is)) u.tickets f.past;
    counts = (let seen = f.counts in omega (arith, seen, le));
    keeps = (let seen = f.keeps in omega (arith, seen, le'));
    spent = f.spent;
    stands = subst (λ k. FitsStage basis entries number count kept later k most' most_kept' u u.stage) (sym is) (stage_later history later serving most most' most_kept most_kept' u u.stage f.stands apart f.past app);
  }

  goes_later : (history later : List I) (serving : ℕ) → first_ticket entries number key.value ≤ serving
      → (rest : List I) × (history ≡ entries key.value ++ rest) × AllByRecursion (λ e. first_ticket entries number key.value ≤ number e) rest → AppendsAtMost number serving history later
      → (rest : List I) × (later ≡ entries key.value ++ rest) × AllByRecursion (λ e. first_ticket entries number key.value ≤ number e) rest
  goes_later history later serving le goes (inl same) = (goes.0, same ∙ goes.1, goes.2)
  goes_later history later serving le goes (inr more) = (
    goes.0 ++ more.0 ∷ [],
    more.2 ∙ ap (λ l. l ++ more.0 ∷ []) goes.1 ∙ append_assoc (entries key.value) goes.0 (more.0 ∷ []),
    all_joined (λ e. first_ticket entries number key.value ≤ number e) goes.0 (more.0 ∷ []) goes.2 (let is = more.1 in omega (arith, is, le), tt),
  )

  rises_later : (history later : List I) (serving : ℕ) → rises 0 (map number history) ≡ true → last_of_numbers (map number history) < serving → AppendsAtMost number serving history later
      → (rises 0 (map number later) ≡ true) × (last_of_numbers (map number later) < serving + 1)
  rises_later history later serving up past (inl same) =
      (ap (λ l. rises 0 (map number l)) same ∙ up, (let as_was : last_of_numbers (map number later) ≡ last_of_numbers (map number history) = ap (λ l. last_of_numbers (map number l)) same in omega (arith, as_was, past)))
  rises_later history later serving up past (inr more) =
      let numbers : map number later ≡ map number history ++ serving ∷ [] = ap (map number) more.2 ∙ map_push number history more.0 ∙ ap (λ k. map number history ++ k ∷ []) more.1 in (
        ap (rises 0) numbers ∙ rises-snoc 0 (map number history) serving past up,
        (let last : last_of_numbers (map number later) ≡ serving = ap last_of_numbers numbers ∙ last_from-snoc 0 (map number history) serving in omega (arith, last)),
      )

  pub advances : (n id : ℕ) (m : Me (Option V) (View V I)) (x : V) (t c b new : ℕ) (taken : List I) → m.1 ≡ (0, Some x) ∷ [] → m.0.stage ≡ Holds t taken c b
      → ((origin : Snapshot V) → m.0.about ≡ Some origin → basis x ≡ basis origin.value) → AppendsAtMost number t taken (entries x) → c ≤ count x → b ≤ kept x → new ≡ t + 1
      → Allows (InTurn basis entries number count kept key) n id m 1 (λ _. new) (λ _. Advances entries count kept (step n 1 new 0 none) m new)
  advances n id m x t c b new taken slot stage on app le le' is s h deep at small =
      let v = m.0 in
      let f = h.views id v at in
      let st : (t ≡ h.serving) × (1 ≤ v.left) × (taken ≡ h.history) × (h.most ≤ c) × (h.most_kept ≤ b) = subst (FitsStage basis entries number count kept h.history h.serving h.most h.most_kept v) stage f.stands in
      let serves = st.0 in
      let left = st.1 in
      let most = st.3 in
      let most_kept = st.4 in
      let app' : AppendsAtMost number h.serving h.history (entries x) = subst (λ l. AppendsAtMost number h.serving l (entries x)) st.2 (subst (λ k. AppendsAtMost number k taken (entries x)) serves app) in
      let is' : new ≡ h.serving + 1 = omega (arith, is, serves) in
      let w : View V I = record v { left = v.left - 1; tickets = v.tickets ++ t ∷ []; seen = entries x; found = c; count = count x; kept = kept x; stage = Idle } in
      let alive : 1 ≤ v.shares = dite (dec_le 1 v.shares) (λ some_share. some_share) (λ none. absurd (let nothing = (f.spent (omega (arith, none))).1 in omega (arith, nothing, left))) in
      let opened : times h.serving (open_of v.stage) ≡ times h.serving (t ∷ []) = ap (λ st'. times h.serving (open_of st')) stage in
      let one : times h.serving (t ∷ []) ≡ 1 = subst (λ k. times h.serving (k ∷ []) ≡ 1) (sym serves) (times_here h.serving []) in
      let waits : waiting_of v ≡ 1 = ap (λ st'. length (open_of st')) stage in
      let holds : held_of v ≡ 1 = ap held_in stage in
      let later = rises_later h.history (entries x) h.serving h.rising h.past app' in
      let out : s.homes ≡ none ∷ [] = ⊎_elim (λ o. o.0) (λ home. absurd (let all = total_at held_of s.views id v at in let nothing = home.2 in omega (arith, all, nothing, holds))) h.place in
      let held : total held_of s.views ≡ 1 = ⊎_elim (λ o. o.1) (λ home. absurd (let all = total_at held_of s.views id v at in let nothing = home.2 in omega (arith, all, nothing, holds))) h.place in (
        w,
        gives,
        tt,
        record {
          history = entries x;
          next = h.next;
          serving = new;
          most = count x;
          most_kept = kept x;
          words = ap (λ ws. set ws 1 new) h.words;
          lower = (let low = h.lower in omega (arith, low, is'));
          upper = h.upper;
          waiting = (let moved = total_set waiting_of s.views id v w at in let sum = h.waiting in omega (arith, moved, sum, waits, is'));
          turns = (let moved = total_set (λ (u : View V I). u.left) s.views id v w at in let sum = h.turns in omega (arith, moved, sum, left, is'));
          shares = total_same (λ (u : View V I). u.shares) s.views id v w at refl ∙ h.shares;
          drawn = (λ k.
              let moved = total_set (draws_of k) s.views id v w at in
              let sum = times_append k v.tickets (t ∷ []) in
              let old : times k (open_of v.stage) ≡ times k (t ∷ []) = ap (λ st'. times k (open_of st')) stage in
              let all = h.drawn k in omega (arith, moved, sum, old, all));
          goes_on = goes_later h.history (entries x) h.serving h.lower h.goes_on app';
          rising = later.0;
          past = (let last = later.1 in omega (arith, last, is'));
          views = each_set_other (Fits basis entries number count kept key h.history h.serving h.most h.most_kept) (Fits basis entries number count kept key (entries x) new (count x) (kept x)) s.views id w
              (λ j u other there.
              let two = total_two (draws_of h.serving) s.views id j v u at there (λ e. other (sym e)) in
              let all = h.drawn h.serving in
              let bound = within_most (first_ticket entries number key.value) h.next h.serving in
              let apart : times h.serving (open_of u.stage) ≡ 0 = omega (arith, two, all, bound, opened, one) in
              fits_later h.history (entries x) h.serving new h.most (count x) h.most_kept (kept x) u (h.views j u there) apart app' is' (omega (arith, most, le)) (omega (arith, most_kept, le')))
              record {
                about = f.about;
                begins = ([], sym (append-nil (entries x)), refl);
                past = all_joined (λ k. k < new) v.tickets (t ∷ []) (all_weaker (λ k. k < h.serving) (λ k. k < new) (λ k lt. omega (arith, lt, is')) v.tickets f.past) (omega (arith, is), tt);
                counts = omega arith;
                keeps = omega arith;
                spent = (λ none. absurd (omega (arith, none, alive)));
                stands = tt;
              };
          newest = (id, w, here_set s.views id v w at, alive, refl);
          place = inr (
            x,
            (λ i. homes_after (out i) (slot i) gives),
            (let moved = total_set held_of s.views id v w at in omega (arith, moved, held, holds)),
            (on key (f.about alive), refl, omega arith, omega arith),
          );
        },
        (λ i. ((ap (after_turn entries count kept v x) (sym stage) ∙ ap (advanced entries count kept v) (sym slot)) i, rest m.1)),
      )
