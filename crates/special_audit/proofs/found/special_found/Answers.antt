use Rattle.std.proofs.Common.{rules}
use Rattle.std.proofs.lemmas.Result.{err_from_is_err_and}
use Rattle.special_audit.proofs.Reading.{behind_fault}
use Rattle.special_audit.proofs.found.special_found.Goals as goal

pub returns-in-Err : goal.returns-in-Err
returns-in-Err c = record {
  value = tt;
  fault = behind_fault c.args.bytes.now c.args.parts.front.now c.args.parts.lists.now c.args.parts.published.now c.args.dossier c.args.rounds c.in-Err.fault c.requires.followed c.requires.front c.requires.sound c.in-Err.ensures.fault;
}

pub returns-in_err-verdict-clause-fault : goal.returns-in_err-verdict-clause-fault
returns-in_err-verdict-clause-fault c = let p = err_from_is_err_and c.from_residual.result c.from_residual.ensures.1 in rw (p.1, p.2) (search rules)
