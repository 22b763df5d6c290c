use Rattle.std.proofs.Common.{◌≡◌, ◌++◌, ◌<◌, drop, take}
use Rattle.std.specs.List.{AllByRecursion, flat_map}
use Rattle.published_texts.specs.Texts.{list_step}
use Rattle.published_texts.proofs.listing.push_lists.Given as goal

abbrev pub invariant-loop-list : goal.invariant-loop-list
invariant-loop-list l = record {
  written : l.out ≡ l.fn.out ++ flat_map list_step (take l.list-index l.lists);
  slots : AllByRecursion (λ list. AllByRecursion (λ pair. pair.slot < 6) list.cert.pairs) (drop l.list-index l.lists);
}
