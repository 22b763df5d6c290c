-- States, counts and lists of programmes, one after another.
use Rattle.std.proofs.Common.{◌≡◌, ◌+◌, ◌⊎◌, inl, inr, ℕ, zero, suc, List, [], ◌∷◌, ◌++◌, Some, length, refl, sym, ap, ◌∙◌, subst}
use Rattle.std.specs.Prelude.{slice_get}
use Rattle.std.proofs.lemmas.List.{length_push}
use Rattle.allocations.specs.Course.{tried}
use Rattle.open_then_category.specs.State.{ProgrammeKept, empty_programme}
use Rattle.open_then_category.specs.Tried.{counted}
use Rattle.open_then_category.specs.declared.kept_lists.Tried.{Tried}
use Rattle.programme_lists.specs.Chosen.{ShowsFrom}
use Rattle.programme_lists.specs.declared.programme.Programme.{Programme}
use Rattle.seat_matrix.specs.Matrix.{SeatTable, list_in, seats_in}
use Rattle.apply_engine.specs.Engine.{AreBegun, AreUntried, Setting, seekers_in}

-- what is at a place of a list with one more
at_end : {X : Type 0} (xs : List X) (x y : X) (p : ℕ) → slice_get (xs ++ x ∷ []) p ≡ Some y → (slice_get xs p ≡ Some y) ⊎ ((p ≡ length xs) × (x ≡ y))
at_end [] x y zero at = inr (refl, (let same : x ≡ y = cc in same))
at_end [] x y (suc p) at = absurd (cc)
at_end (z ∷ xs) x y zero at = inl at
at_end (z ∷ xs) x y (suc p) at = elim (at_end xs x y p at) [ inl h ↦ inl h | inr h ↦ inr (ap suc h.0, h.1) ]

pub record BegunTo (version : ℕ) (table : SeatTable) (n : ℕ) (states : List ProgrammeKept) : Type 0 where
  pub full : length states ≡ n
  pub each : (p : ℕ) (state : ProgrammeKept) → slice_get states p ≡ Some state → state ≡ empty_programme version (seats_in table p)

pub begun_none : (version : ℕ) (table : SeatTable) (states : List ProgrammeKept) → states ≡ [] → BegunTo version table 0 states
begun_none version table states none = record {
  full = ap length none;
  each = λ p state at. absurd (let at' : slice_get [] p ≡ Some state = subst (λ l. slice_get l p ≡ Some state) none at in cc);
}

pub begun_more : (version : ℕ) (table : SeatTable) (n : ℕ) (states new : List ProgrammeKept) (state : ProgrammeKept) → BegunTo version table n states → new ≡ states ++ state ∷ []
    → state ≡ empty_programme version (seats_in table n) → BegunTo version table (n + 1) new
begun_more version table n states new state h made is = record {
  full = ap length made ∙ (length_push states state ∙ ap (λ k. k + 1) h.full);
  each = λ p other at. elim (at_end states state other p (subst (λ l. slice_get l p ≡ Some other) made at)) [
    | inl before ↦ h.each p other before
    | inr now ↦ sym now.1 ∙ (is ∙ ap (λ k. empty_programme version (seats_in table k)) (sym (now.0 ∙ h.full)))
  ];
}

pub begun_all : (version : ℕ) (table : SeatTable) (n : ℕ) (states : List ProgrammeKept) → BegunTo version table n states → n ≡ length table.programmes → AreBegun version table states
begun_all version table n states h all = record { full = h.full ∙ all; each = h.each }

pub record UntriedTo (table : SeatTable) (n : ℕ) (tallies : List Tried) : Type 0 where
  pub full : length tallies ≡ n
  pub each : (p : ℕ) (tally : Tried) → slice_get tallies p ≡ Some tally → tally ≡ counted (list_in table p) []

pub untried_none : (table : SeatTable) (tallies : List Tried) → tallies ≡ [] → UntriedTo table 0 tallies
untried_none table tallies none = record {
  full = ap length none;
  each = λ p tally at. absurd (let at' : slice_get [] p ≡ Some tally = subst (λ l. slice_get l p ≡ Some tally) none at in cc);
}

pub untried_more : (table : SeatTable) (n : ℕ) (tallies new : List Tried) (tally : Tried) → UntriedTo table n tallies → new ≡ tallies ++ tally ∷ [] → tally ≡ counted (list_in table n) []
    → UntriedTo table (n + 1) new
untried_more table n tallies new tally h made is = record {
  full = ap length made ∙ (length_push tallies tally ∙ ap (λ k. k + 1) h.full);
  each = λ p other at. elim (at_end tallies tally other p (subst (λ l. slice_get l p ≡ Some other) made at)) [
    | inl before ↦ h.each p other before
    | inr now ↦ sym now.1 ∙ (is ∙ ap (λ k. counted (list_in table k) []) (sym (now.0 ∙ h.full)))
  ];
}

pub untried_all : (table : SeatTable) (n : ℕ) (tallies : List Tried) → UntriedTo table n tallies → n ≡ length table.programmes → AreUntried table tallies
untried_all table n tallies h all = record { full = h.full ∙ all; each = h.each }

pub record ListedTo (over : Setting) (next : List ℕ) (n : ℕ) (programmes : List Programme) : Type 0 where
  pub full : length programmes ≡ n
  pub each : (p : ℕ) (programme : Programme) → slice_get programmes p ≡ Some programme → ShowsFrom over.version (seats_in over.table p) (tried p (seekers_in over) next) programme

pub listed_more : (over : Setting) (next : List ℕ) (n : ℕ) (programmes new : List Programme) (programme : Programme) → ListedTo over next n programmes → new ≡ programmes ++ programme ∷ []
    → ShowsFrom over.version (seats_in over.table n) (tried n (seekers_in over) next) programme → ListedTo over next (n + 1) new
listed_more over next n programmes new programme h made shows = record {
  full = ap length made ∙ (length_push programmes programme ∙ ap (λ k. k + 1) h.full);
  each = λ p other at. elim (at_end programmes programme other p (subst (λ l. slice_get l p ≡ Some other) made at)) [
    | inl before ↦ h.each p other before
    | inr now ↦
        let here : p ≡ n = now.0 ∙ h.full in
        let same = subst (λ x. ShowsFrom over.version (seats_in over.table n) (tried n (seekers_in over) next) x) now.1 shows in
        subst (λ k. ShowsFrom over.version (seats_in over.table k) (tried k (seekers_in over) next) other) (sym here) same
  ];
}
