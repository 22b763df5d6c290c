use Rattle.std.proofs.Common.{ℕ, List, subst}
use Rattle.std.specs.Prelude.{IfErr}
use Rattle.dossier_file.specs.Dossier.{IsBytesFault}
use Rattle.dossier_file.proofs.PartLemmas.{gave_fault}
use Rattle.dossier_file.proofs.dossier.Dossier.read.Goals as goal

pub returns-clause-fault : goal.returns-clause-fault
returns-clause-fault g c =
    gave_fault (g.S.Source.left c.args.source.now) _ c.in_ok-bytes.bytes c.in_ok-bytes.ensures.taken c.in_ok-bytes.ensures.ended c.of_bytes.result
    (subst (λ (z : List ℕ). IfErr c.of_bytes.result (λ fault. IsBytesFault z fault)) c.as_slice.ensures c.of_bytes.ensures.fault)
