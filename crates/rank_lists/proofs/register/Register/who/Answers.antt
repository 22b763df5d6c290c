use Rattle.std.proofs.Common.{List, ℕ, sym, ap, ◌∙◌}
use Rattle.std.specs.Cmp.Lexicographic.{slice_cmp}
use Rattle.std.specs.Map.{lookup}
use Rattle.std.specs.Ordering.{is_eq, nat_cmp}
use Rattle.office_base.specs.Codes.{is_token}
use Rattle.rank_lists.specs.Register.{Ranks, find_holder}
use Rattle.rank_lists.proofs.MadeLemmas.{find-holder, no_token, not_held, same_token}
use Rattle.rank_lists.proofs.register.Register.who.Goals as goal

pub returns-in_err-token : goal.returns-in_err-token
returns-in_err-token c =
    let token = c.args.token.now in
    c.from_residual.ensures
    ∙ not_held (find_holder token c.self.inside.holders.items) (is_token token) (c.self.invariant.sound.tokens token) (no_token (is_token token) token c.in_err-token.ensures)
    ∙ ap (λ (r : Ranks). find_holder token r.holders) c.self.view_is

pub returns : goal.returns
returns c =
    let token = c.args.token.now in
    c.copied.ensures ∙ (rw c.as_slice-holders.ensures.value at c.find_sorted.ensures)
    ∙ ap (λ (t : List ℕ). lookup (λ k. is_eq (slice_cmp nat_cmp t k)) c.self.inside.holders.items) (same_token (is_token token) token c.in_ok-token.token c.in_ok-token.ensures)
    ∙ sym (find-holder token c.self.inside.holders.items)
    ∙ ap (λ (r : Ranks). find_holder token r.holders) c.self.view_is
