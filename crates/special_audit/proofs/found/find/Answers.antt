use Rattle.special_audit.proofs.Reading.{found_at}
use Rattle.special_audit.proofs.found.find.Goals as goal

pub returns-in-Ok-clause-value : goal.returns-in-Ok-clause-value
returns-in-Ok-clause-value c = found_at c.args.bytes.now c.in-Ok.dossier c.season_found.result c.in-Ok.ensures.value c.season_found.ensures.value
