use Rattle.std.proofs.Common.{ℕ, List, sym, subst}
use Rattle.std.proofs.lemmas.List.{take_rest}
use Rattle.text_readers.proofs.PartsLemmas.{if-none}
use Rattle.dossier_file.specs.Split.{HasNoSection, IsTitledAt}
use Rattle.dossier_file.proofs.SplitLemmas.{split_made, none_made}
use Rattle.dossier_file.proofs.splitting.split_at_titles.Goals as goal

pub returns-in_err-second-clause-none : goal.returns-in_err-second-clause-none
returns-in_err-second-clause-none c =
    let text = c.skip_mark-text.result.now in
    if-none c.from_residual-in_err-second.result (HasNoSection c.args.bytes.now)
    (none_made c.args.bytes.now text c.after_line-rest.result.now _ c.in_ok-first.first c.skip_mark-text.ensures.value (take_rest text c.in_ok-first.first) c.after_line-rest.ensures
    (subst (λ (z : List ℕ). IsTitledAt z text c.in_ok-first.first) c.as_slice.ensures c.in_ok-first.ensures.some)
    (λ at t. c.in_err-second.ensures.none at (subst (λ (z : List ℕ). IsTitledAt z c.after_line-rest.result.now at) (sym c.as_slice-2.ensures) t)))

pub returns-clause-some : goal.returns-clause-some
returns-clause-some c =
    let text = c.skip_mark-text.result.now in
    let rest = c.after_line-rest.result.now in
    split_made c.args.bytes.now text rest _ _ c.after_line.result.now c.in_ok-first.first c.in_ok-second.second c.skip_mark-text.ensures.value (take_rest text c.in_ok-first.first) c.after_line-rest.ensures
    (take_rest rest c.in_ok-second.second) c.after_line.ensures (subst (λ (z : List ℕ). IsTitledAt z text c.in_ok-first.first) c.as_slice.ensures c.in_ok-first.ensures.some)
    (subst (λ (z : List ℕ). IsTitledAt z rest c.in_ok-second.second) c.as_slice-2.ensures c.in_ok-second.ensures.some)
