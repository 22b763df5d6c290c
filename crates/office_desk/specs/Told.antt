-- What a pass learns from each of its steps.
use Rattle.std.specs.Prelude.{◌≡◌, ◌≢◌, ◌-◌, ◌^◌, ◌<◌, ◌≤◌, ◌⊎◌, ℕ, true, List, [], ◌∷◌, ◌++◌, map, Option, Some, None}
use Rattle.std.specs.List.{AllByRecursion}
use Rattle.atomic_table.specs.Table.{Me, Step, rest}
use Rattle.std.specs.declared.snapshot.Snapshot.{Snapshot}
use Rattle.office_base.specs.Numbered.{last_of_numbers, rises}
use Rattle.office_desk.specs.declared.view.View.{View}
use Rattle.office_desk.specs.declared.view.Stage.{Stage}
use Rattle.office_desk.specs.declared.view.Stage.TheVariants.{Idle, Waits, Holds, Joined}
use Rattle.office_desk.specs.Own.{Begins, HasSeen, AreMerged, among}

module _ {V I : Type 0} where
  -- the number found is the pass's ticket
  abbrev pub Draws : Step (Option V) → Me (Option V) (View V I) → ℕ → Me (Option V) (View V I) → Type 0
  Draws st m n m' = (m'.0 ≡ record m.0 { stage = Waits n }) × (m'.1 ≡ m.1)

  -- the view with the value x out with it
  abbrev pub holding : (V → List I) → (V → ℕ) → (V → ℕ) → View V I → ℕ → V → View V I
  holding entries count kept v t x = record v { stage = Holds t (entries x) (count x) (kept x) }

  module _ {B : Type 0} (basis : V → B) (entries : V → List I) (number : I → ℕ) (count kept : V → ℕ) where
    -- The value x went out to a pass with the view v, whose ticket t is served. It has the desk's basis.
    -- Its history begins with what the pass has seen, and has no other entry of the pass. Its numbers rise and are below t.
    -- So are the earlier tickets of the pass. Its count is no lower than the one that was seen, no fewer entries are kept, and t is below 2 ^ 41.
    pub record IsTaken (t : ℕ) (v : View V I) (x : V) : Type 0 where
      pub about : (key : Snapshot V) → v.about ≡ Some key → basis x ≡ basis key.value
      pub begins : HasSeen number v.tickets v.seen (entries x)
      pub rising : rises 0 (map number (entries x)) ≡ true
      pub last : last_of_numbers (map number (entries x)) < t
      pub past : AllByRecursion (λ u. u < t) v.tickets
      pub counts : v.count ≤ count x
      pub keeps : v.kept ≤ kept x
      pub small : t < 2 ^ 41

    -- the value is out with the pass exactly where its ticket was found
    abbrev pub Looks : Step (Option V) → Me (Option V) (View V I) → ℕ → Me (Option V) (View V I) → Type 0
    Looks st m n m' = (t : ℕ) → m.0.stage ≡ Waits t → (n ≡ t → (x : V) × (m' ≡ (holding entries count kept m.0 t x, (0, Some x) ∷ m.1)) × IsTaken t m.0 x) × (n ≢ t → m' ≡ m)

  module _ (entries : V → List I) (count kept : V → ℕ) where
    abbrev pub after_turn : View V I → V → Stage I → View V I
    after_turn v x Idle = v
    after_turn v x (Waits t) = v
    after_turn v x (Holds t taken n k) = record v { left = v.left - 1; tickets = v.tickets ++ t ∷ []; seen = entries x; found = n; count = count x; kept = kept x; stage = Idle }
    after_turn v x (Joined seen tickets seen' tickets') = v

    -- the view after the turn in which the value of the slot was put back
    abbrev pub advanced : View V I → List (ℕ × Option V) → View V I
    advanced v [] = v
    advanced v ((_, None) ∷ _) = v
    advanced v ((_, Some x) ∷ _) = after_turn v x v.stage

    abbrev pub Advances : Step (Option V) → Me (Option V) (View V I) → ℕ → Me (Option V) (View V I) → Type 0
    Advances st m n m' = m' ≡ (advanced m.0 m.1, rest m.1)

  -- How the two parts of a joined pass stand: of the two lists one is a prefix of the other, and the longer one stays; its own entries are those of both.
  -- No more than all shares and turns are there.
  pub record IsSettled (number : I → ℕ) (v : View V I) (seen seen' : List I) (tickets tickets' : List ℕ) : Type 0 where
    pub shares : v.shares ≤ 2 ^ 30
    pub turns : v.left ≤ 2 ^ 40
    pub lists : (Begins seen seen' × (v.seen ≡ seen')) ⊎ (Begins seen' seen × (v.seen ≡ seen))
    pub own : AreMerged (among number tickets seen) (among number tickets' seen') (among number v.tickets v.seen)

  abbrev pub Settles : (I → ℕ) → Step (Option V) → Me (Option V) (View V I) → ℕ → Me (Option V) (View V I) → Type 0
  Settles number st m n m' = (seen seen' : List I) (tickets tickets' : List ℕ) → m.0.stage ≡ Joined seen tickets seen' tickets'
      → (m'.0 ≡ record m.0 { stage = Idle }) × (m'.1 ≡ m.1) × IsSettled number m.0 seen seen' tickets tickets'
