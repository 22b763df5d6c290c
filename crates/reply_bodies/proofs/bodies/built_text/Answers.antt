use Rattle.std.proofs.Common.{◌≡◌, ◌∙◌, false, ap, subst, sym}
use Rattle.std.specs.Prelude.{option_copied}
use Rattle.serde_json.specs.Written.{compact_text, has_float}
use Rattle.reply_bodies.proofs.Floats.{no_floats}
use Rattle.reply_bodies.proofs.bodies.built_text.Goals as goal

pub returns : goal.returns
returns c =
    let plain = subst (λ d. has_float d ≡ false) (sym c.in_ok-value.ensures)
    (no_floats c.args.season.now.matrix c.args.season.now.register.people (option_copied c.args.round) c.args.rows.now c.args.reply.now) in
    c.from_vec.ensures ∙ (c.in_ok-text.ensures.text plain ∙ ap compact_text c.in_ok-value.ensures)
