use Rattle.std.proofs.Common.{sym, subst}
use Rattle.special_audit.specs.Special.{HasSpecialFault}
use Rattle.special_audit.specs.declared.special.SpecialError.{SpecialError}
use Rattle.special_audit.proofs.Reading.{texts_fault}
use Rattle.special_audit.proofs.special.special_dossier.Goals as goal

pub returns-clause-fault : goal.returns-clause-fault
returns-clause-fault c =
    subst (λ (fault : SpecialError). HasSpecialFault c.args.dossier.now c.args.lists.now c.args.published.now fault) (sym c.texts_error.ensures)
    (texts_fault c.args.dossier.now c.args.lists.now c.args.published.now c.in-Ok.season c.in_ok-script.script c.in-Err-of_texts.fault c.in-Ok.ensures.season c.in_ok-script.ensures c.in-Err-of_texts.ensures.fault)
