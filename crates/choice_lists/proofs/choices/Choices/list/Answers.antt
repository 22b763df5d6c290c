use Rattle.std.proofs.Common.{◌≤◌, List, Ok, Err, length, sym, ap, subst, ◌∙◌}
use Rattle.office_base.specs.Limits.{most_row_choices}
use Rattle.office_base.specs.declared.person.ProgId.{ProgId}
use Rattle.choice_lists.specs.Choices.{AreDistinct, Lists, list_of, listed}
use Rattle.choice_lists.proofs.FoundLemmas.{search_found}
use Rattle.choice_lists.proofs.choices.Choices.list.Goals as goal

pub returns-in-Ok-clause-list : goal.returns-in-Ok-clause-list
returns-in-Ok-clause-list c =
    let found = search_found c.self.inside.ids.items c.self.inside.lists c.args.cand.0 (Ok c.in-Ok.at) c.self.invariant.rising c.self.invariant.count (rw c.deref.ensures.value at c.in-Ok.ensures.position) in
    ap listed (sym c.at.ensures) ∙ found.1 ∙ ap (λ (ls : Lists). list_of ls c.args.cand.0) c.self.view_is

pub returns-in-Ok-clause-distinct : goal.returns-in-Ok-clause-distinct
returns-in-Ok-clause-distinct c =
    let found = search_found c.self.inside.ids.items c.self.inside.lists c.args.cand.0 (Ok c.in-Ok.at) c.self.invariant.rising c.self.invariant.count (rw c.deref.ensures.value at c.in-Ok.ensures.position) in
    subst AreDistinct (sym (ap listed (sym c.at.ensures) ∙ found.1)) (c.self.invariant.sound c.args.cand.0).0

pub returns-in-Ok-clause-short : goal.returns-in-Ok-clause-short
returns-in-Ok-clause-short c =
    let found = search_found c.self.inside.ids.items c.self.inside.lists c.args.cand.0 (Ok c.in-Ok.at) c.self.invariant.rising c.self.invariant.count (rw c.deref.ensures.value at c.in-Ok.ensures.position) in
    subst (λ (l : List ProgId). length l ≤ most_row_choices) (sym (ap listed (sym c.at.ensures) ∙ found.1)) (c.self.invariant.sound c.args.cand.0).1

pub returns-in-Err-clause-list : goal.returns-in-Err-clause-list
returns-in-Err-clause-list c =
    let found = search_found c.self.inside.ids.items c.self.inside.lists c.args.cand.0 (Err c.in-Err.field-0) c.self.invariant.rising c.self.invariant.count (rw c.deref.ensures.value at c.in-Err.ensures.position) in
    found ∙ ap (λ (ls : Lists). list_of ls c.args.cand.0) c.self.view_is
