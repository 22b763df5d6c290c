use Rattle.std.proofs.Common.{◌≡◌, length}
use Rattle.section_rows.specs.Rows.{rows_of}
use Rattle.request_rows.specs.Requests.{script_from, script_of}
use Rattle.request_rows.proofs.ScriptLemmas.{joined}
use Rattle.request_rows.proofs.script.read_script.Given as goal

abbrev pub invariant-rows : goal.invariant-rows
invariant-rows l = script_of (rows_of l.fn.body) ≡ joined l.script (script_from l.number l.rows.left)

abbrev pub decreases-rows : goal.decreases-rows
decreases-rows l = length l.rows.left
