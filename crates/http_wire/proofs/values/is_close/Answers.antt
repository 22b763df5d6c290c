use Rattle.std.proofs.Common.{List, ℕ, ap, ◌∙◌, codes}
use Rattle.std.specs.Prelude.{reverse}
use Rattle.std.specs.Str.{str_eq_ignore_ascii_case}
use Rattle.httparse.specs.Grammar.{skip_ows, trim_ows}
use Rattle.http_wire.proofs.values.is_close.Goals as goal

pub returns : goal.returns
unfolding trim_ows
returns c =
    c.is_same_name.ensures
    ∙ ap (λ (text : List ℕ). str_eq_ignore_ascii_case text (codes "close")) (c.trim_end.ensures ∙ ap (λ (text : List ℕ). reverse (skip_ows (reverse text))) c.trim_start.ensures)
