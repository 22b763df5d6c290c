use Rattle.std.proofs.Common.{List, ℕ, refl, sym, subst, inl, inr}
use Rattle.http_wire.specs.Messages.{Reads}
use Rattle.http_wire.proofs.held.after_head.Goals as goal

pub returns-in_default : goal.returns-in_default
returns-in_default c =
    inr (inl (refl, (c.args.end, c.requires.ends, λ head reads. c.in_default.ensures.none head (subst (λ (bytes : List ℕ). Reads bytes head) (sym c.split_at.ensures.front) reads))))
