-- That the facts which a season keeps have one proof at most.
use Rattle.std.proofs.Common.{◌≡◌, inl, inr, ℕ, ap, subst, sym, ◌∙◌}
use Rattle.std.specs.Prelude.{MatchBool, ◌==◌}
use Rattle.std.specs.Coded.{Coded-set, coded_ℕ}
use Rattle.office_base.specs.Version.{IsVersion}

-- a version is one of two, and not both
abbrev IsFirst : ℕ → Type 0
IsFirst version = MatchBool (version == 1) (Unit {0}) ⊥

not_both : (version : ℕ) → version ≡ 1 → version ≡ 2 → ⊥
not_both version a b = subst IsFirst (sym a ∙ b) tt

pub IsVersion-prop : (version : ℕ) → IsProp (IsVersion version)
IsVersion-prop version (inl a) (inl b) = ap (λ (e : version ≡ 1). inl e) (Coded-set coded_ℕ version 1 a b)
IsVersion-prop version (inl a) (inr b) = absurd (not_both version a b)
IsVersion-prop version (inr a) (inl b) = absurd (not_both version b a)
IsVersion-prop version (inr a) (inr b) = ap (λ (e : version ≡ 2). inr e) (Coded-set coded_ℕ version 2 a b)
