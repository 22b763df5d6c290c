use Rattle.std.proofs.Common.{List, ℕ, sym, ap, ◌∙◌}
use Rattle.std.specs.Cmp.Lexicographic.{slice_cmp}
use Rattle.std.specs.Map.{lookup}
use Rattle.std.specs.Ordering.{is_eq, nat_cmp}
use Rattle.office_base.specs.Codes.{is_code}
use Rattle.rank_lists.proofs.MadeLemmas.{same_token}
use Rattle.quota_units.specs.Homes.{Homes, home_at}
use Rattle.quota_units.proofs.TableLemmas.{find-home}
use Rattle.quota_units.proofs.homes.HomeTable.state.Goals as goal

pub returns : goal.returns
returns c =
    let key = c.args.key.now in
    c.copied.ensures ∙ c.get.ensures.value
    ∙ ap (λ (t : List ℕ). lookup (λ k. is_eq (slice_cmp nat_cmp t k)) c.self.inside.states.entries) (same_token (is_code key) key c.in_ok-key.key c.in_ok-key.ensures)
    ∙ sym (find-home key c.self.inside.states.entries)
    ∙ ap (λ (homes : Homes). home_at key homes) c.self.view_is
