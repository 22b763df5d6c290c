use Rattle.std.proofs.Common.{◌≡◌, ◌≤◌, ◌<◌, List, length, get_or, sym, ap, subst, ◌∙◌, arith}
use Rattle.std.proofs.lemmas.List.{get_or_default}
use Rattle.office_base.specs.Limits.{most_row_choices}
use Rattle.office_base.specs.declared.person.ProgId.{ProgId}
use Rattle.choice_lists.specs.Choices.{AreDistinct, Lists, list_of, listed}
use Rattle.choice_lists.proofs.FoundLemmas.{found_there}
use Rattle.choice_lists.proofs.choices.Choices.list_near.Goals as goal

-- the candidate is the one at the position
pub returns-then-index-cand-clause-list : goal.returns-then-index-cand-clause-list
returns-then-index-cand-clause-list c =
    let ids = c.self.inside.ids.items in
    let inside : c.args.at < length ids = let size = c.self.inside.ids.ok.0 in let below = c.if-at-len.true in omega arith in
    let here : get_or ids c.args.at 0 ≡ c.args.cand.0 = get_or_default ids c.args.at 0 c.index.result.now inside ∙ sym c.index.ensures ∙ c.if-index-cand.true in
    let found = found_there ids c.self.inside.lists c.args.cand.0 c.args.at c.self.invariant.rising c.self.invariant.count inside here in
    ap listed (sym c.at.ensures) ∙ found.1 ∙ ap (λ (ls : Lists). list_of ls c.args.cand.0) c.self.view_is

pub returns-then-index-cand-clause-distinct : goal.returns-then-index-cand-clause-distinct
returns-then-index-cand-clause-distinct c =
    let found : c.at.result.now ≡ list_of c.args.self.now c.args.cand.0 = returns-then-index-cand-clause-list c in
    subst AreDistinct (sym found) (subst (λ (ls : Lists). AreDistinct (list_of ls c.args.cand.0)) c.self.view_is (c.self.invariant.sound c.args.cand.0).0)

pub returns-then-index-cand-clause-short : goal.returns-then-index-cand-clause-short
returns-then-index-cand-clause-short c =
    let found : c.at.result.now ≡ list_of c.args.self.now c.args.cand.0 = returns-then-index-cand-clause-list c in
    subst (λ (l : List ProgId). length l ≤ most_row_choices) (sym found)
    (subst (λ (ls : Lists). length (list_of ls c.args.cand.0) ≤ most_row_choices) c.self.view_is (c.self.invariant.sound c.args.cand.0).1)
