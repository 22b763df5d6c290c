use Rattle.std.proofs.Common.{sym, arith}
use Rattle.std.proofs.lemmas.List.{nil_from_length}
use Rattle.office_text.proofs.TraitsLemmas.{read_from-empty}
use Rattle.office_text.proofs.traits.+read_from.Goals as goal

pub returns-in_default-empty-clause-value : goal.returns-in_default-empty-clause-value
returns-in_default-empty-clause-value t c =
    let none = nil_from_length c.args.text.now (omega arith) in
    rw none (sym (read_from-empty c.args.allowed.now))
