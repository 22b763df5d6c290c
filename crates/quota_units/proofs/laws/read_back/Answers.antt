use Rattle.section_rows.specs.Rows.{rows_of}
use Rattle.quota_units.proofs.LineLemmas.{rows-whole}
use Rattle.quota_units.proofs.ReadBack.{read-are, rows-back, spaced-are}
use Rattle.quota_units.proofs.laws.read_back.Goals as goal

pub returns-clause-same : goal.returns-clause-same
returns-clause-same c body = rows-back _ (spaced-are (rows_of body) (read-are body))

pub returns-clause-whole : goal.returns-clause-whole
returns-clause-whole c rows = rows-whole rows
