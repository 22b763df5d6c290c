-- That a state has two bytes.
use Rattle.std.proofs.Common.{◌≡◌, ◌≤◌, ℕ, true, List, [], ◌∷◌, length, subst, lit≤}
use Rattle.std.specs.Prelude.{MatchBool}
use Rattle.quota_units.specs.Homes.{is_state}

pub state-fits : (bytes : List ℕ) → is_state bytes ≡ true → length bytes ≤ 2
state-fits [] spelled = lit≤ tt
state-fits (a ∷ []) spelled = lit≤ tt
state-fits (a ∷ b ∷ []) spelled = lit≤ tt
state-fits (a ∷ b ∷ c ∷ bytes) spelled = absurd (subst (λ b. MatchBool b ⊥ (Unit {0})) spelled tt)
