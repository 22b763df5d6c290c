-- The entries that the rows of a window give, and its cut.
use Rattle.std.proofs.Common.{◌≡◌, ◌≢◌, ◌<◌, ◌≤◌, ◌+◌, ℕ, suc, add-one, Bool, true, false, List, [], ◌∷◌, ◌++◌, arith, length, refl, sym, ap, ◌∙◌, subst, append-nil, ◌==◌, nat_lt, if◌then◌else◌, drop, get_or}
use Rattle.std.specs.Prelude.{map}
use Rattle.std.proofs.lemmas.Bool.{eq-eqb, lt-ltb, ne_eqb, le-ltb}
use Rattle.std.proofs.lemmas.List.{at_drop_all, at_drop_more}
use Rattle.kept_rows.specs.declared.rows.Kept.{Kept}
use Rattle.office_moves.specs.declared.moves.Act.{Act}
use Rattle.office_moves.specs.declared.moves.Act.TheVariants.{Answer, Raise, Cut}
use Rattle.office_moves.specs.declared.moves.Entry.{Entry}
use Rattle.replays.specs.Acts.{acts_before, acts_in, cut_acts, kept_acts, row_acts, window_acts}
use Rattle.replays.specs.Counted.{Follow}
use Rattle.replays.specs.Replay.{window_of}
use Rattle.replays.proofs.Numbers.{follow_more, follow_none}
use Rattle.replays.proofs.RowLemmas.{answers_are, raises_are}

as_follows : (one two : List Act) (old new : List Entry) → one ≡ two → Follow one old new → Follow two old new
as_follows one two old new same follow = subst (λ (acts : List Act). Follow acts old new) same follow

-- ---- a row

-- a row of the window
pub follow_own : (window : ℕ) (act : Act) (rest : List Act) (old mid new : List Entry) → window_of act ≡ window → Follow (act ∷ []) old mid → Follow (acts_in window rest) mid new
    → Follow (acts_in window (act ∷ rest)) old new
follow_own window act rest old mid new here one more =
    as_follows (act ∷ acts_in window rest) (acts_in window (act ∷ rest)) old new (step (window_of act == window) (eq-eqb (window_of act) window here)) (follow_more (act ∷ []) (acts_in window rest) old mid new one more)
  where
    step : (b : Bool) → b ≡ true → act ∷ acts_in window rest ≡ (if b then act ∷ acts_in window rest else acts_in window rest)
    step true e = refl
    step false e = absurd (cc)

-- a row of another window
pub follow_past : (window : ℕ) (act : Act) (rest : List Act) (old new : List Entry) → window_of act ≢ window → Follow (acts_in window rest) old new → Follow (acts_in window (act ∷ rest)) old new
follow_past window act rest old new apart more = as_follows (acts_in window rest) (acts_in window (act ∷ rest)) old new (step (window_of act == window) (ne_eqb (window_of act) window apart)) more
  where
    step : (b : Bool) → b ≡ false → acts_in window rest ≡ (if b then act ∷ acts_in window rest else acts_in window rest)
    step true e = absurd (cc)
    step false e = refl

-- ---- a table

-- What follows the rows before a place of a table follows the whole of it, with the rows from there on between.
abbrev pub Completes : {R : Type 0} → (R → Act) → ℕ → List R → ℕ → List Entry → List Entry → Type 0
Completes act window rows at first old = (new : List Entry) → Follow (acts_in window (map act (drop at rows))) old new → Follow (acts_in window (map act rows)) first new

pub complete_more : {R : Type 0} (act : R → Act) (window at : ℕ) (rows : List R) (row : R) (first old mid : List Entry) → Completes act window rows at first old → at < length rows → row ≡ get_or rows at row
    → ((rest : List Act) (new : List Entry) → Follow (acts_in window rest) mid new → Follow (acts_in window (act row ∷ rest)) old new) → Completes act window rows (at + 1) first mid
complete_more {R} act window at rows row first old mid before less is on new follow =
    let rest : List Act = map act (drop (at + 1) rows) in
    before new (as_follows (acts_in window (act row ∷ rest)) (acts_in window (map act (drop at rows))) old new
    (sym (at_drop_more (λ (some : List R). acts_in window (map act some)) rows at row less ∙ ap (λ (r : R). acts_in window (act r ∷ rest)) (sym is))) (on rest new follow))

pub complete_all : {R : Type 0} (act : R → Act) (window at : ℕ) (rows : List R) (first old : List Entry) → Completes act window rows at first old → length rows ≤ at
    → Follow (acts_in window (map act rows)) first old
complete_all {R} act window at rows first old before end =
    before old (as_follows [] (acts_in window (map act (drop at rows))) old old (sym (at_drop_all (λ (some : List R). acts_in window (map act some)) rows at end)) (follow_none old))

-- ---- a window

pub follow_rows : (kept : Kept) (window : ℕ) (old mid new : List Entry) → Follow (acts_in window (map Raise kept.raises)) old mid → Follow (acts_in window (map Answer kept.answers)) mid new
    → Follow (row_acts kept window) old new
follow_rows kept window old mid new raises answers =
    follow_more _ _ old mid new (as_follows _ _ old mid (raises_are window kept.raises) raises) (as_follows _ _ mid new (answers_are window kept.answers) answers)

pub follow_cut : (kept : Kept) (window now : ℕ) (old mid new : List Entry) → window < kept.cuts → now ≡ window → Follow (row_acts kept window) old mid → Follow (Cut now ∷ []) mid new
    → Follow (window_acts kept window) old new
follow_cut kept window now old mid new less here rows cut =
    follow_more (row_acts kept window) (cut_acts window (nat_lt window kept.cuts)) old mid new rows
    (as_follows (Cut now ∷ []) (cut_acts window (nat_lt window kept.cuts)) mid new (ap (λ (n : ℕ). Cut n ∷ []) here ∙ ap (λ (b : Bool). cut_acts window b) (sym (lt-ltb window kept.cuts less))) cut)

pub follow_window : (kept : Kept) (window : ℕ) (first old new : List Entry) → Follow (acts_before kept window) first old → Follow (window_acts kept window) old new → Follow (acts_before kept (window + 1)) first new
follow_window kept window first old new before more =
    as_follows (acts_before kept (suc window)) (acts_before kept (window + 1)) first new (ap (λ (n : ℕ). acts_before kept n) (sym (add-one window))) (follow_more (acts_before kept window) (window_acts kept window) first old new before more)

-- the last window has no cut
pub follow_last : (kept : Kept) (first old new : List Entry) → Follow (acts_before kept kept.cuts) first old → Follow (row_acts kept kept.cuts) old new → Follow (kept_acts kept) first new
follow_last kept first old new before rows =
    follow_window kept kept.cuts first old new before
    (as_follows (row_acts kept kept.cuts) (window_acts kept kept.cuts) old new
    (sym (append-nil (row_acts kept kept.cuts)) ∙ ap (λ (b : Bool). row_acts kept kept.cuts ++ cut_acts kept.cuts b) (sym (le-ltb kept.cuts kept.cuts (omega arith)))) rows)
