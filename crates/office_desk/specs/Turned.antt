-- What a turn asks of its job, and what it says the job did.
use Rattle.std.specs.Prelude.{◌≡◌, ◌+◌, ◌<◌, ◌≤◌, ◌^◌, ◌⊎◌, ℕ, List, [], ◌∷◌, ◌++◌, Some}
use Rattle.std.specs.Borrow.{MutBor}
use Rattle.std.specs.Fn.{Once}
use Rattle.std.specs.List.{AllByRecursion}
use Rattle.std.specs.declared.snapshot.Snapshot.{Snapshot}
use Rattle.office_base.specs.declared.booked.Booked.{Ghosts}
use Rattle.office_desk.specs.declared.keeps.Keeps.{Ghosts as Kept}
use Rattle.office_desk.specs.declared.view.View.{View}
use Rattle.office_desk.specs.declared.view.Stage.TheVariants.{Holds}
use Rattle.office_desk.specs.Own.{Begins, AppendsAtMost}
use Rattle.office_desk.specs.declared.handles.Desk.{Desk}
use Rattle.office_desk.specs.declared.handles.Pass.{Pass}
use Rattle.office_desk.specs.Words.{origin_of, shares_of, left_of, tickets_of, seen_of, own_of, found_of, count_of, kept_of}

-- The holder of the ticket t may put back the value x:
-- it continues the list that was taken, on the same basis, its count is not lower, and no fewer entries are kept.
pub record MayReturn {V I B : Type 0} (basis : V → B) (entries : V → List I) (number : I → ℕ) (count kept : V → ℕ) (t : ℕ) (v : View V I) (x : V) : Type 0 where
  pub taken : List I
  pub counted : ℕ
  pub kept_then : ℕ
  pub holds : v.stage ≡ Holds t taken counted kept_then
  pub about : (key : Snapshot V) → v.about ≡ Some key → basis x ≡ basis key.value
  pub appends : AppendsAtMost number t taken (entries x)
  pub counts : counted ≤ count x
  pub keeps : kept_then ≤ kept x

module _ {F V X : Type 0} (once : Once F (MutBor V × (ℕ × Unit {0})) (X × (MutBor V × Unit {0}))) (job : F) where
  -- the job may be called at a &mut to v with the number n, and whatever it then leaves meets P
  abbrev pub Leaves : V → ℕ → (V → Type 0) → Type 0
  Leaves v n P = (p : MutBor V) → p.now ≡ v → once.pre job (p, (n, tt)) × ((q : MutBor V) (r : X) → once.post job (p, (n, tt)) (r, (q, tt)) → P q.now)

  -- the job was called at a &mut to v with the number n, answered r, and left w there
  pub record Did (v : V) (n : ℕ) (r : X) (w : V) : Type 0 where
    pub shown : MutBor V
    pub shows : shown.now ≡ v
    pub left : MutBor V
    pub met : once.post job (shown, (n, tt)) (r, (left, tt))
    pub leaves : left.now ≡ w

module _ {V I : Type 0} {k : Kept V I} {g : Ghosts V I} {F X : Type 0} (once : Once F (MutBor V × (ℕ × Unit {0})) (X × (MutBor V × Unit {0}))) (job : F) where
  -- One turn of a pass at a desk, before and after it.
  pub record IsTurn (desk : Desk V I) (before after : Pass V I k g) (answer : X) : Type 0 where
    -- the number of the turn, the value on which the job was called, and the value as the job left it
    pub number : ℕ
    pub held : V
    pub left : V
    pub did : Did once job held number answer left
    -- the number is above each ticket that the pass had, and above each number of the list
    pub later : AllByRecursion (λ t. t < number) (tickets_of before)
    pub above : AllByRecursion (λ e. g.number e < number) (g.entries held)
    pub small : number < 2 ^ 41
    -- the value has the desk's basis, and a list that begins with what the pass had seen, its count is no lower than
    -- the one that it had seen, and no fewer entries are kept
    pub basis : g.basis held ≡ g.basis (origin_of desk)
    pub begins : Begins (seen_of before) (g.entries held)
    pub counts : count_of before ≤ g.count held
    pub keeps : kept_of before ≤ k.kept held
    -- afterwards the pass has one ticket more and one turn fewer
    pub tickets : tickets_of after ≡ tickets_of before ++ number ∷ []
    pub turns : left_of before ≡ left_of after + 1
    pub shares : shares_of after ≡ shares_of before
    -- it has seen the list as the job left it:
    -- with the one entry of this number, by which its own entries have grown, or unchanged
    pub seen : seen_of after ≡ g.entries left
    pub grown : ((g.entries left ≡ g.entries held) × (own_of after ≡ own_of before))
        ⊎ ((e : I) × (g.number e ≡ number) × (g.entries left ≡ g.entries held ++ e ∷ []) × (own_of after ≡ own_of before ++ e ∷ []))
    -- and the counts before and after the job, and how many entries are kept after it, which are no fewer than before
    pub found : found_of after ≡ g.count held
    pub count : count_of after ≡ g.count left
    pub keeps_on : k.kept held ≤ k.kept left
    pub kept : kept_of after ≡ k.kept left
