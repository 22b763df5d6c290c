use Rattle.std.proofs.Common.{[], ◌∙◌, ap, rules}
use Rattle.choice_lists.specs.Flat.{lists_of}
use Rattle.choice_lists.proofs.FlatLemmas.{empty_lists}
use Rattle.choice_lists.proofs.flat.FlatLists.empty_lists.Goals as goal

pub returns : goal.returns
returns g c = rw c.new.ensures.items (ap (λ ranges. lists_of [] ranges) (c.in_ok-ranges.ensures.items_if_clones_equal (λ y h. search rules)) ∙ empty_lists c.args.count)
