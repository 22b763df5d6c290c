-- Drawing a ticket keeps the rule.
use Rattle.std.proofs.Common.{◌≡◌, ◌+◌, ◌%◌, ◌^◌, ◌≤◌, ℕ, List, [], ◌∷◌, length, get_or, set, Option, sym, refl, ap, ◌∙◌, arith}
use mathlib.Core.Option.{none}
use Rattle.atomic_table.specs.Table.{State, Me, keeps, step, Allows}
use Rattle.std.specs.declared.snapshot.Snapshot.{Snapshot}
use Rattle.office_desk.specs.declared.view.View.{View}
use Rattle.office_desk.specs.declared.view.Stage.{Stage}
use Rattle.office_desk.specs.declared.view.Stage.TheVariants.{Idle, Waits, Holds, Joined}
use Rattle.office_desk.specs.Totals.{times}
use Rattle.office_desk.specs.Turning.{open_of, held_in, waiting_of, held_of, first_ticket, FitsStage, InTurn}
use Rattle.office_desk.specs.Told.{Draws}
use Rattle.office_desk.proofs.TotalsLemmas.{total_same, total_le}
use Rattle.office_desk.proofs.TicketLemmas.{within_more}
use Rattle.std.proofs.Math.Nat.{mod-eq_of_lt}
use Rattle.office_desk.proofs.Calm.{calm, place_same}

module _ {V I B : Type 0} (basis : V → B) (entries : V → List I) (number : I → ℕ) (count kept : V → ℕ) (key : Snapshot V) where
  -- no more views wait than there are turns left, so the next ticket is a small number
  waits_left : (history : List I) (serving most most_kept : ℕ) (v : View V I) (stage : Stage I) → FitsStage basis entries number count kept history serving most most_kept v stage → length (open_of stage) ≤ v.left
  waits_left history serving most most_kept v Idle fits = omega arith
  waits_left history serving most most_kept v (Waits t) fits = fits.1
  waits_left history serving most most_kept v (Holds t taken n k) fits = fits.1
  waits_left history serving most most_kept v (Joined seen tickets seen' tickets') fits = omega arith

  pub next_small : (s : State (Option V) (View V I)) (h : InTurn basis entries number count kept key s) → h.next ≤ 2 ^ 41
  next_small s h =
      let le = total_le waiting_of (λ (u : View V I). u.left) s.views (λ i v at. waits_left h.history h.serving h.most h.most_kept v v.stage (h.views i v at).stands) in
      let sum = h.waiting in let all = h.turns in let bound = h.upper in omega (arith, le, sum, all, bound)

  pub draws : (n id : ℕ) (m : Me (Option V) (View V I)) → m.0.stage ≡ Idle → 1 ≤ m.0.left
      → Allows (InTurn basis entries number count kept key) n id m 0 (λ w. (w + 1) % 2 ^ 64) (Draws (step n 0 1 0 none) m)
  draws n id m idle left s h deep at small =
      let v = m.0 in
      let f = h.views id v at in
      let found = get_or s.words 0 0 in
      let is : found ≡ h.next = ap (λ ws. get_or ws 0 0) h.words in
      let w : View V I = record v { stage = Waits found } in
      let low = next_small s h in
      let wrap : (h.next + 1) % 2 ^ 64 ≡ h.next + 1 = mod-eq_of_lt (omega (arith, low)) in
      let closed : waiting_of v ≡ 0 = ap (λ st. length (open_of st)) idle in
      let served : h.serving ≤ h.next = (let sum = h.waiting in omega (arith, sum)) in
      let first : first_ticket entries number key.value ≤ h.next = (let low' = h.lower in omega (arith, low', served)) in (
        w,
        keeps,
        tt,
        calm basis entries number count kept key s h id v w (h.next + 1) (set s.words 0 ((found + 1) % 2 ^ 64)) s.homes at
            ((λ i. set (h.words i) 0 ((get_or (h.words i) 0 0 + 1) % 2 ^ 64)) ∙ ap (λ k. k ∷ h.serving ∷ []) wrap)
            (omega (arith, closed)) refl refl refl
            (λ t. let more = within_more (first_ticket entries number key.value) h.next t first in
            let new : times t (found ∷ []) ≡ times t (h.next ∷ []) = ap (λ k. times t (k ∷ [])) is in
            let old : times t (open_of v.stage) ≡ 0 = ap (λ st. times t (open_of st)) idle in omega (arith, more, new, old))
            record {
              about = f.about;
              begins = f.begins;
              past = f.past;
              counts = f.counts;
              keeps = f.keeps;
              spent = (λ none. absurd (let nothing = (f.spent none).1 in omega (arith, nothing, left)));
              stands = (omega (arith, served, is), left);
            }
            (place_same basis entries number count kept key h.history h.most h.most_kept s.homes s.views (set s.views id w) (total_same held_of s.views id v w at (sym (ap held_in idle))) h.place),
        (refl, refl),
      )
