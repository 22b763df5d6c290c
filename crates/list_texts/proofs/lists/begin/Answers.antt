use Rattle.std.proofs.Common.{refl, sym, ap, ◌∙◌}
use Rattle.std.specs.BTreeMap.{is_at}
use Rattle.std.specs.List.{list_any}
use Rattle.std.specs.Ordering.{nat_cmp}
use Rattle.list_texts.specs.Listing.{is_listed}
use Rattle.list_texts.proofs.lists.begin.Goals as goal

pub returns-clause-keeps : goal.returns-clause-keeps
returns-clause-keeps c = record {
  known = c.are_known.ensures;
  used = λ id. ap (list_any (is_at (nat_cmp id))) c.new-4.ensures.empty ∙ sym (ap (is_listed id) c.new-2.ensures);
  stage = record { steps = refl; none = c.new.ensures.items; unread = record { people = c.new-2.ensures; slots = c.new-3.ensures } };
}
