use Rattle.std.proofs.Common.{◌≡◌, drop}
use Rattle.office_base.specs.StepChoice.{AreRanked}
use Rattle.office_base.specs.declared.person.ListId.{ListId}
use Rattle.open_then_category.specs.Stepwise.{AreTaken, left_of}
use Rattle.open_then_category.proofs.filters.left_over.Given as goal

abbrev pub invariant-loop-list : goal.invariant-loop-list
invariant-loop-list l = record {
  whole : left_of l.left (drop l.list-index l.lists) ≡ left_of l.people l.lists;
  taken : AreTaken l.left (drop l.list-index l.lists);
  ranked : (list : ListId) × AreRanked list l.left;
}
