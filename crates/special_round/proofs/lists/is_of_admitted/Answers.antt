use Rattle.std.proofs.Common.{◌∙◌, sym}
use Rattle.office_base.specs.Limits.{last_id}
use Rattle.office_text.specs.Number.{number_within}
use Rattle.section_rows.specs.Rows.{field}
use Rattle.special_round.proofs.Searched.{tells}
use Rattle.special_round.proofs.lists.is_of_admitted.Goals as goal

pub returns-in-Some : goal.returns-in-Some
returns-in-Some c = λ finals same.
    c.is_ok.ensures.value
    ∙ tells c.args.ids.now finals c.in-Some.id c.binary_search.result (number_within 1 last_id (field c.args.row.now.row 0)) same c.requires c.binary_search.ensures.position
    (rw c.field.ensures at (sym c.read_number.ensures ∙ c.in-Some.is))
