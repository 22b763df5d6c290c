use Rattle.std.proofs.Common.{◌≡◌, List, ℕ, Option, Some, cond, length, sym, ap, ◌∙◌}
use Rattle.std.specs.Cmp.Lexicographic.{slice_cmp}
use Rattle.std.specs.Ordering.{is_eq, nat_cmp}
use Rattle.quota_units.specs.Homes.{Homes, home_at}
use Rattle.quota_units.proofs.TableLemmas.{coded-step, count-step, find-home, home-step}
use Rattle.quota_units.proofs.homes.HomeTable.put.Goals as goal

pub invariant_of-self-2 : goal.invariant_of-self-2
invariant_of-self-2 c =
    let old : Homes = c.self.inside.states.entries in
    let new : Homes = c.insert.new.self.entries in
    let key : List ℕ = c.args.home.0 in
    let state : List ℕ = c.args.home.1 in
    coded-step old new key state c.self.invariant c.requires (λ q.
    find-home q new ∙ c.in_ok-insert.ensures.updates.0 q ∙ ap (λ (o : Option (List ℕ)). cond (is_eq (slice_cmp nat_cmp key q)) (Some state) o) (sym (find-home q old)))

pub returns : goal.returns
returns c homes alike none =
    let old : Homes = c.self.inside.states.entries in
    let new : Homes = c.insert.new.self.entries in
    let home : List ℕ × List ℕ = c.args.home in
    let was : (q : List ℕ) → home_at q old ≡ home_at q homes = λ q. ap (λ (h : Homes). home_at q h) c.self.view_is ∙ alike.found q in
    record {
      found = λ q.
          find-home q new ∙ c.in_ok-insert.ensures.updates.0 q
          ∙ ap (λ (o : Option (List ℕ)). cond (is_eq (slice_cmp nat_cmp home.0 q)) (Some home.1) o) (sym (find-home q old) ∙ was q)
          ∙ home-step homes home none q;
      count =
          count-step c.in_ok-insert.field-0 (length old) (length new) homes home (c.in_ok-insert.ensures.old ∙ sym (find-home home.0 old) ∙ was home.0 ∙ none) c.in_ok-insert.ensures.len
          (ap (λ (h : Homes). length h) c.self.view_is ∙ alike.count);
    }
