-- The rule of the desk: one history, of which each view has seen a prefix.
-- Word 0 is the next ticket and word 1 the one that is served. The one slot has the value, unless it is out with a view.
use Rattle.std.specs.Prelude.{◌≡◌, ◌+◌, ◌-◌, ◌^◌, ◌<◌, ◌≤◌, ◌⊎◌, ℕ, true, List, [], ◌∷◌, ◌++◌, length, map, nat_lt, if◌then◌else◌, Option, Some, None}
use Rattle.std.specs.List.{AllByRecursion}
use mathlib.Core.Option.{some, none}
use lib.ListN.{get_elem?}
use Rattle.atomic_table.specs.Table.{State}
use Rattle.std.specs.declared.snapshot.Snapshot.{Snapshot}
use Rattle.office_base.specs.Numbered.{last_of_numbers, rises}
use Rattle.office_desk.specs.declared.view.View.{View}
use Rattle.office_desk.specs.declared.view.Stage.{Stage}
use Rattle.office_desk.specs.declared.view.Stage.TheVariants.{Idle, Waits, Holds, Joined}
use Rattle.office_desk.specs.Own.{HasSeen, longer}
use Rattle.office_desk.specs.Totals.{total, Each, times, within}

module _ {I : Type 0} where
  -- the open ticket, where there is one
  abbrev pub open_of : Stage I → List ℕ
  open_of Idle = []
  open_of (Waits t) = t ∷ []
  open_of (Holds t taken n k) = t ∷ []
  open_of (Joined seen tickets seen' tickets') = []

  -- 1 where the value is out with it
  abbrev pub held_in : Stage I → ℕ
  held_in Idle = 0
  held_in (Waits t) = 0
  held_in (Holds t taken n k) = 1
  held_in (Joined seen tickets seen' tickets') = 0

module _ {V I : Type 0} where
  abbrev pub waiting_of : View V I → ℕ
  waiting_of v = length (open_of v.stage)

  -- how often the view has drawn the ticket t
  abbrev pub draws_of : ℕ → View V I → ℕ
  draws_of t v = times t v.tickets + times t (open_of v.stage)

  abbrev pub held_of : View V I → ℕ
  held_of v = held_in v.stage

  -- what stays of a view that gives a share and k turns away, and what they become
  abbrev pub left_part : ℕ → View V I → View V I
  left_part k v = record v { shares = v.shares - 1; left = v.left - k }

  abbrev pub right_part : ℕ → View V I → View V I
  right_part k v = record v { shares = 1; left = k; tickets = [] }

  -- two views in one, and what is left of the other
  abbrev pub both_of : View V I → View V I → View V I
  both_of v w = record {
    about = v.about;
    shares = v.shares + w.shares;
    left = v.left + w.left;
    tickets = v.tickets ++ w.tickets;
    seen = longer v.seen w.seen;
    found = if nat_lt v.count w.count then w.found else v.found;
    count = if nat_lt v.count w.count then w.count else v.count;
    kept = if nat_lt v.kept w.kept then w.kept else v.kept;
    stage = Joined v.seen v.tickets w.seen w.tickets;
  }

  abbrev pub spent_view : View V I
  spent_view = record { about = None; shares = 0; left = 0; tickets = []; seen = []; found = 0; count = 0; kept = 0; stage = Idle }

  -- the view of the first pass
  abbrev pub whole_view : (V → List I) → (V → ℕ) → (V → ℕ) → Snapshot V → View V I
  whole_view entries count kept key = record { about = Some key; shares = 2 ^ 30; left = 2 ^ 40; tickets = []; seen = entries key.value; found = count key.value; count = count key.value; kept = kept key.value; stage = Idle }

  -- the first ticket of a desk that begins with this value
  abbrev pub first_ticket : (V → List I) → (I → ℕ) → V → ℕ
  first_ticket entries number origin = last_of_numbers (map number (entries origin)) + 1

  module _ {B : Type 0} (basis : V → B) (entries : V → List I) (number : I → ℕ) (count kept : V → ℕ) where
    -- what holds of an open ticket, of a value that is out, and of a view that was joined
    abbrev pub FitsStage : List I → ℕ → ℕ → ℕ → View V I → Stage I → Type 0
    FitsStage history serving most most_kept v Idle = Unit {0}
    FitsStage history serving most most_kept v (Waits t) = (serving ≤ t) × (1 ≤ v.left)
    FitsStage history serving most most_kept v (Holds t taken n k) = (t ≡ serving) × (1 ≤ v.left) × (taken ≡ history) × (most ≤ n) × (most_kept ≤ k)
    FitsStage history serving most most_kept v (Joined seen tickets seen' tickets') =
        HasSeen number tickets seen history × HasSeen number tickets' seen' history × (v.tickets ≡ tickets ++ tickets') × (v.seen ≡ longer seen seen')

    -- Of one view: it is about this desk, has seen a prefix of the history with all its own entries, and its tickets are past. A spent view has nothing.
    pub record Fits (key : Snapshot V) (history : List I) (serving most most_kept : ℕ) (v : View V I) : Type 0 where
      pub about : 1 ≤ v.shares → v.about ≡ Some key
      pub begins : HasSeen number v.tickets v.seen history
      pub past : AllByRecursion (λ t. t < serving) v.tickets
      pub counts : v.count ≤ most
      pub keeps : v.kept ≤ most_kept
      pub spent : v.shares ≡ 0 → (v.tickets ≡ []) × (v.left ≡ 0) × (v.stage ≡ Idle)
      pub stands : FitsStage history serving most most_kept v v.stage

    -- a value at home has the desk's basis and the whole history, and no view has seen a larger count or more entries kept
    abbrev pub Stands : Snapshot V → List I → ℕ → ℕ → V → Type 0
    Stands key history most most_kept x = (basis x ≡ basis key.value) × (entries x ≡ history) × (most ≤ count x) × (most_kept ≤ kept x)

    pub record InTurn (key : Snapshot V) (s : State (Option V) (View V I)) : Type 0 where
      pub history : List I
      pub next : ℕ
      pub serving : ℕ
      pub most : ℕ
      pub most_kept : ℕ
      -- the words
      pub words : s.words ≡ next ∷ serving ∷ []
      -- the tickets go on from the last number, which is below 2 ^ 40
      pub lower : first_ticket entries number key.value ≤ serving
      pub upper : first_ticket entries number key.value ≤ 2 ^ 40
      -- as many views wait as there are tickets to be served
      pub waiting : serving + total waiting_of s.views ≡ next
      -- each turn that is taken is one fewer that is left
      pub turns : serving + total (λ v. v.left) s.views ≡ first_ticket entries number key.value + 2 ^ 40
      -- no share is lost
      pub shares : total (λ v. v.shares) s.views ≡ 2 ^ 30
      -- each ticket below the next one was drawn once, by one view, and no other was
      pub drawn : (t : ℕ) → total (draws_of t) s.views ≡ within (first_ticket entries number key.value) next t
      -- the history goes on from the list of the opening, with numbers that are tickets
      pub goes_on : (rest : List I) × (history ≡ entries key.value ++ rest) × AllByRecursion (λ e. first_ticket entries number key.value ≤ number e) rest
      -- the numbers of the history rise, and all are past
      pub rising : rises 0 (map number history) ≡ true
      pub past : last_of_numbers (map number history) < serving
      -- what holds of each view
      pub views : Each (Fits key history serving most most_kept) s.views
      -- some view that is not spent has seen the whole history
      pub newest : (i : ℕ) × (v : View V I) × (get_elem? s.views i ≡ some v) × (1 ≤ v.shares) × (v.seen ≡ history)
      -- the value is out with one view, or at home
      pub place : ((s.homes ≡ none ∷ []) × (total held_of s.views ≡ 1)) ⊎ ((x : V) × (s.homes ≡ some (Some x) ∷ []) × (total held_of s.views ≡ 0) × Stands key history most most_kept x)
