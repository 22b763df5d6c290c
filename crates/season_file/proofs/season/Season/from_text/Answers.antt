use Rattle.std.proofs.Common.{◌≡◌, ◌∙◌, false, rules}
use Rattle.season_file.proofs.KeptLemmas.{text_gives, whole_text}
use Rattle.season_file.proofs.season.Season.from_text.Goals as goal

pub with_text-requires-clause-given : goal.with_text-requires-clause-given
with_text-requires-clause-given c =
    let given = c.in_ok-content.field-0 in
    let gives = c.in_ok-content.ensures.value in
    let all = whole_text c.args.bytes.now given.content given.script gives in
    let text : c.extend_from_slice.new.self ≡ c.args.bytes.now = search rules in
    text_gives false c.args.bytes.now given.content given.script c.extend_from_slice.new.self gives (text ∙ all)
