use Rattle.std.proofs.Common.{◌≡◌, ◌≤◌, ◌+◌, drop}
use Rattle.dossier_file.specs.Due.{cuts_accepted}
use Rattle.dossier_file.proofs.due.accepted_cuts.Given as goal

abbrev pub invariant-loop-request : goal.invariant-loop-request
invariant-loop-request l = record {
  value : cuts_accepted l.rounds 0 l.script ≡ l.now + cuts_accepted l.rounds l.now (drop l.request-index l.script);
  within : l.now ≤ l.rounds + 1;
}
