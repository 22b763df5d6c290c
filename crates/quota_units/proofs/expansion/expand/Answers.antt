use Rattle.std.proofs.Common.{List, ℕ, subst}
use Rattle.quota_units.specs.Expansion.{IsFaultOf}
use Rattle.quota_units.specs.Input.{expansion}
use Rattle.quota_units.proofs.Faults.{given-held, given-told, not-err}
use Rattle.quota_units.proofs.expansion.expand.Goals as goal

pub returns-clause-fault : goal.returns-clause-fault
returns-clause-fault g c =
    let bytes : List ℕ = c.in_ok-bytes.bytes in
    let told = subst (λ (b : List ℕ). IsFaultOf (expansion b) c.in-Err.fault) c.as_slice.ensures c.in-Err.ensures.fault in
    given-told (g.S.Source.left c.args.source.now) (g.S.Source.left c.read_bytes.new.source) bytes c.in-Err.fault c.in_ok-bytes.ensures.short c.in_ok-bytes.ensures.taken c.in_ok-bytes.ensures.ended told

pub returns-clause-cause : goal.returns-clause-cause
returns-clause-cause g c is =
    let bytes : List ℕ = c.in_ok-bytes.bytes in
    let told = subst (λ (b : List ℕ). IsFaultOf (expansion b) c.in-Err.fault) c.as_slice.ensures c.in-Err.ensures.fault in
    absurd (not-err c.in-Err.fault (given-held bytes c.in-Err.fault c.in_ok-bytes.ensures.short told) is)
