use Rattle.std.proofs.Common.{subst, arith}
use Rattle.text_readers.specs.Parts.{AreSmall}
use Rattle.list_texts.proofs.lists.are_known.Goals as goal

pub returns : goal.returns
returns c = record {
  some = c.requires;
  spelled = c.codes_are_spelled.ensures;
  codes = c.count.ensures.seats.codes;
  small = subst AreSmall c.small_people.ensures.same c.small_people.ensures.small;
  rising = c.people.ensures.ranks.rising;
  few = omega (arith, c.people.ensures.ranks.few);
}
