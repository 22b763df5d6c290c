use Rattle.std.proofs.Common.{inl, inr, IsTrue, List, ℕ, subst, sym, ◌∙◌}
use Rattle.std.specs.Prelude.{◌↔◌}
use Rattle.std.proofs.lemmas.Bool.{false≢true}
use Rattle.system_edge.specs.Hidden.{HoldNothing}
use Rattle.system_edge.proofs.stores.may_open.Goals as goal

pub returns-else-sound-clause-sound : goal.returns-else-sound-clause-sound
returns-else-sound-clause-sound g c log db =
    let sound = c.in_ok-sound.ensures.sound (c.in_ok-nothing.ensures.same.0.clean log) in
    let nothing = subst (λ (seen : List ℕ). IsTrue c.in_ok-nothing.nothing ↔ HoldNothing seen (g.D.Disk.seen c.args.files.now.db))
    c.in_ok-sound.ensures.same.seen (c.in_ok-nothing.ensures.nothing log db) in (
      λ yes. inr (nothing.0 yes),
      λ may. elim may [
        | inl both ↦ absurd (false≢true (sym c.if-sound.false ∙ sound.1 both))
        | inr none ↦ nothing.1 none
      ],
    )
