-- What comes of a function by its last call.
use Rattle.std.proofs.Common.{◌≡◌, [], ◌∷◌, Result, Ok, Err, IfErr, IsErrAnd, sym, subst}
use Rattle.std.specs.Borrow.{MutBor}
use Rattle.sqlite.specs.Store.{Ghosts}
use Rattle.sqlite.specs.Order.{Row}
use Rattle.sqlite.specs.State.{HasCleanDisk}
use Rattle.sqlite.specs.Held.{Held, state}
use Rattle.keeper_sqlite.specs.Inside.{Acts, Performs}
use Rattle.keeper_sqlite.specs.Kept.{Call, call_of}
use Rattle.keeper_sqlite.specs.declared.calls.Act.{Act}
use Rattle.keeper_sqlite.specs.declared.halt.Halt.{Halt}

-- the cause is handed on
pub broken : {X : Type 0} (P : Halt → Type 0) (r : Result X Halt) (halt : Halt) → IsErrAnd r (λ e. e ≡ halt) → P halt → IfErr r P
broken P (Ok value) halt is why = tt
broken P (Err e) halt is why = subst P (sym is) why

pub acts_broken : {S X : Type 0} (g : Ghosts S) {Done : X → Held S → Held S → Type 0} {Breaks : Halt → Held S → Held S → Type 0} (old new : MutBor (Held S)) (r : Result X Halt) (halt : Halt) → IsErrAnd r (λ e. e ≡ halt)
    → (HasCleanDisk (state g new.now) → Breaks halt old.now new.now) → Acts g Done Breaks old new r
acts_broken g old new (Ok value) halt is why = absurd is
acts_broken g {Breaks = Breaks} old new (Err e) halt is why = record { done = λ _. tt; lost = λ clean. subst (λ (h : Halt). Breaks h old.now new.now) (sym is) (why clean) }

-- the same call with the same values
pub same_values : {S : Type 0} (g : Ghosts S) (call : Row → Call) (one two : Row) (old new : MutBor (Held S)) (r : Result (Unit {0}) Halt) → one ≡ two → Performs g (call one ∷ []) old new r → Performs g (call two ∷ []) old new r
same_values {S} g call one two old new r is acts = subst (λ (values : Row). Performs g (call values ∷ []) old new r) is acts

-- the call of this act
pub of_act : {S : Type 0} (g : Ghosts S) (act one : Act) (old new : MutBor (Held S)) (r : Result (Unit {0}) Halt) → act ≡ one → Performs g (call_of one ∷ []) old new r → Performs g (call_of act ∷ []) old new r
of_act {S} g act one old new r is acts = subst (λ (a : Act). Performs g (call_of a ∷ []) old new r) (sym is) acts
