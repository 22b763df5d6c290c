use Rattle.std.proofs.Common.{◌∙◌, List, ℕ, Result, ap, sym, subst}
use Rattle.std.specs.Str.{IsUtf8}
use Rattle.quota_units.specs.Expansion.{IsFaultOf}
use Rattle.quota_units.specs.declared.fault.UnitFault.{UnitFault}
use Rattle.quota_units.proofs.Faults.{came_to, if-err, if-ok, not-utf8, of-utf8, when-false, when-true}
use Rattle.quota_units.proofs.expansion.expand_bundle.Goals as goal

pub returns-then-not-is_text-clause-value : goal.returns-then-not-is_text-clause-value
returns-then-not-is_text-clause-value c =
    let bundle : List ℕ = c.args.bundle.now in
    let none : IsUtf8 bundle → ⊥ = when-false c.is_text.result (IsUtf8 bundle) (IsUtf8 bundle → ⊥) c.if-not-is_text.true c.is_text.ensures in
    (not-utf8 c.args.tables.units.now c.args.tables.states.now bundle none ∙ ap came_to (sym c.in_ok-copied.ensures), λ is. absurd (none is))

pub returns-in-Ok-clause-value : goal.returns-in-Ok-clause-value
returns-in-Ok-clause-value c =
    let bundle : List ℕ = c.args.bundle.now in
    let is : IsUtf8 bundle = when-true c.is_text.result (IsUtf8 bundle) (IsUtf8 bundle → ⊥) c.if-not-is_text.false c.is_text.ensures in
    if-ok c.write_bundle.result _ _ (λ text h. (of-utf8 c.args.tables.units.now c.args.tables.states.now bundle is ∙ h.0, λ u. h.1)) c.write_bundle.ensures.value

pub returns-in-Ok-clause-fault : goal.returns-in-Ok-clause-fault
returns-in-Ok-clause-fault c =
    let bundle : List ℕ = c.args.bundle.now in
    let is : IsUtf8 bundle = when-true c.is_text.result (IsUtf8 bundle) (IsUtf8 bundle → ⊥) c.if-not-is_text.false c.is_text.ensures in
    if-err c.write_bundle.result _ _ (λ fault h. subst (λ (r : Result (List ℕ) UnitFault). IsFaultOf r fault) (sym (of-utf8 c.args.tables.units.now c.args.tables.states.now bundle is)) h) c.write_bundle.ensures.fault
