-- What a call on a database may commit.
use Rattle.std.specs.Prelude.{◌≡◌, IsTrue}
use Rattle.sqlite.specs.Tree.{Trees}
use Rattle.sqlite.specs.State.{State, HasCleanDisk, Survives}

-- nothing: a crash leaves what it could leave before, and a connection that is open was open before
pub record CommitsNothing (old new : State) : Type 0 where
  pub survives : Survives old new (λ _. ⊥)
  pub was_open : HasCleanDisk new → IsTrue new.is_open → IsTrue old.is_open

-- what is shown before, or nothing
abbrev pub CommitsShown : State → State → Type 0
CommitsShown old new = Survives old new (λ db. db ≡ old.now.trees)

-- one database at most, and whole: a crash leaves what it could leave before, or that one
unfoldable pub CommitsOnce : State → State → Type 0
CommitsOnce old new = (made : Trees) × Survives old new (λ db. db ≡ made)
