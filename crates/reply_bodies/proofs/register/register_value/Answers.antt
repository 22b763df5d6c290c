use Rattle.std.proofs.Common.{◌++◌, subst, sym, ap, ◌∙◌}
use Rattle.std.specs.Str.{IsAscii}
use Rattle.reply_texts.specs.Replies.{traits_word}
use Rattle.reply_bodies.proofs.Ascii.{ascii_traits}
use Rattle.reply_bodies.proofs.register.register_value.Goals as goal

pub text_value-requires : goal.text_value-requires
text_value-requires c =
    subst IsAscii (sym (c.as_slice.ensures ∙ (c.in_ok-push_traits.ensures ∙ ap (λ z. z ++ traits_word c.args.person.now.traits) c.new-word.ensures))) (ascii_traits c.args.person.now.traits)
