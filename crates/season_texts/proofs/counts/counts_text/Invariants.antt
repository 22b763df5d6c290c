use Rattle.std.proofs.Common.{◌≡◌, ◌≤◌, ◌*◌, length, take}
use Rattle.std.specs.Prelude.{sum_by}
use Rattle.choice_lists.specs.Choices.{list_of}
use Rattle.season_texts.proofs.counts.counts_text.Given as goal

abbrev pub invariant-loop-person : goal.invariant-loop-person
invariant-loop-person l = record {
  people : l.people ≡ l.season.register.people;
  few : length l.people ≤ 250000;
  counted : l.choices ≡ sum_by (λ person. length (list_of l.season.choices person.id.0)) (take l.person-index l.people);
  within : l.choices ≤ 1000 * l.person-index;
}
