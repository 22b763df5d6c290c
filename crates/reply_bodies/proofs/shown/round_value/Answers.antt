use Rattle.std.proofs.Common.{subst, sym, ◌∙◌}
use Rattle.std.specs.Prelude.{option_copied}
use Rattle.std.specs.Str.{IsAscii}
use Rattle.reply_bodies.proofs.Ascii.{ascii_shown}
use Rattle.reply_texts.specs.Replies.{AreShownOf}
use Rattle.reply_bodies.proofs.shown.round_value.Goals as goal

pub text_value-requires : goal.text_value-requires
text_value-requires c =
    let matrix = c.args.season.now.matrix in
    let people = c.people.result.now in
    let round = option_copied c.args.round in
    let rows = c.args.rows.now in
    let shown = subst (λ them. AreShownOf matrix them round rows) (sym c.people.ensures.same) c.requires in
    subst IsAscii (sym (c.as_slice.ensures ∙ c.in_ok-words.ensures)) (ascii_shown matrix people round rows c.all_codes_are_ascii.ensures shown)
