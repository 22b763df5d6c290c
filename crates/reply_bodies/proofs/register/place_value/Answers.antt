use Rattle.std.proofs.Common.{◌++◌, subst, sym, ap, ◌∙◌}
use Rattle.std.specs.Str.{IsAscii}
use Rattle.reply_texts.specs.Replies.{place_word}
use Rattle.reply_bodies.proofs.Ascii.{ascii_place}
use Rattle.reply_bodies.proofs.register.place_value.Goals as goal

pub text_value-requires : goal.text_value-requires
text_value-requires c =
    subst IsAscii (sym (c.as_slice.ensures ∙ (c.in_ok-push_place.ensures ∙ ap (λ z. z ++ place_word c.args.place) c.new-text.ensures))) (ascii_place c.args.place)
