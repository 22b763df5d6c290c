use Rattle.std.proofs.Common.{◌+◌, ◌-◌, ℕ, List, length, sym, subst, arith}
use Rattle.std.proofs.lemmas.List.{length-take-le, take_rest}
use Rattle.text_readers.proofs.PartsLemmas.{if-none}
use Rattle.dossier_file.specs.Special.{HasNoSpecial}
use Rattle.dossier_file.specs.Split.{IsTitledAt}
use Rattle.dossier_file.proofs.SpecialLemmas.{no_lists, no_section, no_special, special_made}
use Rattle.dossier_file.proofs.SplitLemmas.{published_short}
use Rattle.dossier_file.proofs.special.special_parts.Goals as goal

pub returns-in_err-parts-clause-none : goal.returns-in_err-parts-clause-none
returns-in_err-parts-clause-none c =
    if-none c.from_residual.result (HasNoSpecial c.args.bytes.now) (no_section c.args.bytes.now c.in_err-parts.ensures.none)

pub returns-in_err-first-clause-none : goal.returns-in_err-first-clause-none
returns-in_err-first-clause-none c =
    let parts = c.in_ok-parts.parts in
    if-none c.from_residual-in_err-first.result (HasNoSpecial c.args.bytes.now)
    (no_lists c.args.bytes.now parts.bundle.now parts.requests.now parts.published.now c.in_ok-parts.ensures.some
    (λ at t. c.in_err-first.ensures.none at (subst (λ (z : List ℕ). IsTitledAt z parts.published.now at) (sym c.as_slice.ensures) t)))

pub returns-in_err-second-clause-none : goal.returns-in_err-second-clause-none
returns-in_err-second-clause-none c =
    let parts = c.in_ok-parts.parts in
    if-none c.from_residual-in_err-second.result (HasNoSpecial c.args.bytes.now)
    (no_special c.args.bytes.now parts.bundle.now parts.requests.now parts.published.now _ c.after_line-rest.result.now c.in_ok-first.first c.in_ok-parts.ensures.some
    (take_rest parts.published.now c.in_ok-first.first) c.after_line-rest.ensures
    (subst (λ (z : List ℕ). IsTitledAt z parts.published.now c.in_ok-first.first) c.as_slice.ensures c.in_ok-first.ensures.some)
    (λ at t. c.in_err-second.ensures.none at (subst (λ (z : List ℕ). IsTitledAt z c.after_line-rest.result.now at) (sym c.as_slice-2.ensures) t)))

pub overflow_sub-result : goal.overflow_sub-result
overflow_sub-result c =
    let parts = c.in_ok-parts.parts in
    let short = published_short c.args.bytes.now parts.bundle.now parts.requests.now parts.published.now c.in_ok-parts.ensures.some in
    omega (arith, short)

pub slice_bounds-result-end : goal.slice_bounds-result-end
slice_bounds-result-end c =
    let parts = c.in_ok-parts.parts in
    let short = published_short c.args.bytes.now parts.bundle.now parts.requests.now parts.published.now c.in_ok-parts.ensures.some in
    let within = c.in_ok-first.ensures.some.within in
    let long = length-take-le (length c.args.bytes.now - length parts.published.now + c.in_ok-first.first) c.args.bytes.now (omega (arith, short, within)) in
    omega (arith, short, within, long)

pub returns-clause-some : goal.returns-clause-some
returns-clause-some c =
    let parts = c.in_ok-parts.parts in
    let texts = parts.published.now in
    let rest = c.after_line-rest.result.now in
    special_made c.args.bytes.now parts.bundle.now parts.requests.now texts _ rest _ c.after_line.result.now c.in_ok-first.first c.in_ok-second.second c.in_ok-parts.ensures.some
    (take_rest texts c.in_ok-first.first) c.after_line-rest.ensures (take_rest rest c.in_ok-second.second) c.after_line.ensures
    (subst (λ (z : List ℕ). IsTitledAt z texts c.in_ok-first.first) c.as_slice.ensures c.in_ok-first.ensures.some)
    (subst (λ (z : List ℕ). IsTitledAt z rest c.in_ok-second.second) c.as_slice-2.ensures c.in_ok-second.ensures.some)
