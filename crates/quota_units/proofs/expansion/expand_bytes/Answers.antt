use Rattle.std.proofs.Common.{◌≡◌, ◌≤◌, ◌∙◌, List, ℕ, Result, Ok, ap, sym, subst, length}
use Rattle.office_text.specs.Lines.{skip_mark}
use Rattle.quota_units.specs.Expansion.{IsFaultOf}
use Rattle.quota_units.specs.Input.{Input, input_of}
use Rattle.quota_units.specs.declared.fault.UnitFault.{UnitFault}
use Rattle.quota_units.proofs.Faults.{bundle-short, expansion-is, if-err, if-ok, is-expansion}
use Rattle.quota_units.proofs.expansion.expand_bytes.Goals as goal

pub expand_bundle-requires : goal.expand_bundle-requires
expand_bundle-requires c =
    let bytes : List ℕ = c.args.bytes.now in
    let input : Input = record { units = c.in_ok-input.input.units.now; states = c.in_ok-input.input.states.now; bundle = c.in_ok-input.input.bundle.now } in
    let mark : length (skip_mark bytes) ≤ length bytes = subst (λ (l : List ℕ). length l ≤ length bytes) c.skip_mark.ensures.value c.skip_mark.ensures.within in
    let cut : input_of (skip_mark bytes) ≡ Ok input = ap input_of (sym c.skip_mark.ensures.value) ∙ c.in_ok-input.ensures in
    bundle-short bytes input mark c.requires cut

pub returns-clause-value : goal.returns-clause-value
returns-clause-value c =
    let bytes : List ℕ = c.args.bytes.now in
    let input : Input = record { units = c.in_ok-input.input.units.now; states = c.in_ok-input.input.states.now; bundle = c.in_ok-input.input.bundle.now } in
    let mark : length (skip_mark bytes) ≤ length bytes = subst (λ (l : List ℕ). length l ≤ length bytes) c.skip_mark.ensures.value c.skip_mark.ensures.within in
    let cut : input_of (skip_mark bytes) ≡ Ok input = ap input_of (sym c.skip_mark.ensures.value) ∙ c.in_ok-input.ensures in
    let u = c.in_ok-units.ensures.value in
    let s = c.in_ok-states.ensures.value in
    if-ok c.expand_bundle.result _ _ (λ text h.
    is-expansion (record { reads = c.reads_mapped.ensures; living = c.live_right.ensures }) bytes input u.0 s.0 c.in_ok-units.units c.in_ok-states.states text mark c.requires cut u.1 u.2 s.1 s.2 h.0 h.1)
    c.expand_bundle.ensures.value

pub returns-clause-fault : goal.returns-clause-fault
returns-clause-fault c =
    let bytes : List ℕ = c.args.bytes.now in
    let input : Input = record { units = c.in_ok-input.input.units.now; states = c.in_ok-input.input.states.now; bundle = c.in_ok-input.input.bundle.now } in
    let cut : input_of (skip_mark bytes) ≡ Ok input = ap input_of (sym c.skip_mark.ensures.value) ∙ c.in_ok-input.ensures in
    let u = c.in_ok-units.ensures.value in
    let s = c.in_ok-states.ensures.value in
    if-err c.expand_bundle.result _ _ (λ fault h.
    subst (λ (r : Result (List ℕ) UnitFault). IsFaultOf r fault) (sym (expansion-is bytes input u.0 s.0 c.in_ok-units.units c.in_ok-states.states c.requires cut u.1 u.2 s.1 s.2)) h)
    c.expand_bundle.ensures.fault
