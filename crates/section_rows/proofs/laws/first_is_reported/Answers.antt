use Rattle.section_rows.proofs.FirstRow.{reports_first}
use Rattle.section_rows.proofs.laws.first_is_reported.Goals as goal

pub returns : goal.returns
returns g c beside rows = reports_first g.B.TableBuilder.bad g.B.TableBuilder.names (g.B.TableBuilder.reading beside) rows
