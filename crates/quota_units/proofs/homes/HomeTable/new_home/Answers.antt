use Rattle.std.proofs.Common.{◌≡◌, List, ℕ, true, false, sym, ap, ◌∙◌}
use Rattle.office_base.specs.Codes.{is_code}
use Rattle.section_rows.specs.Rows.{field}
use Rattle.rank_lists.proofs.MadeLemmas.{no_token}
use Rattle.quota_units.specs.Homes.{is_key}
use Rattle.quota_units.proofs.TableLemmas.{no-code}
use Rattle.quota_units.proofs.homes.HomeTable.new_home.Goals as goal

pub returns-in_err-key-clause-value : goal.returns-in_err-key-clause-value
returns-in_err-key-clause-value c homes alike =
    let text : List ℕ = field c.args.row.now.row 0 in
    let is : is_key c.args.keys text ≡ true = sym (c.is_key.ensures ∙ ap (λ (t : List ℕ). is_key c.args.keys t) c.field.ensures) ∙ c.if-not-is_key.false in
    let other : is_code text ≡ false = ap is_code (sym c.field-3.ensures) ∙ no_token (is_code c.field-3.result.now) c.field-3.result.now c.in_err-key.ensures in
    absurd (no-code c.numbers_are_inverse.ensures c.args.keys text is other)
