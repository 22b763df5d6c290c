use Rattle.office_base.specs.Person.{IsTraitSet}
use Rattle.office_base.specs.declared.person.Person.{Person}
use Rattle.office_base.proofs.Lists.{all_among}
use Rattle.cutoff_lines.specs.Lines.{read_lines}
use Rattle.cutoff_lines.proofs.laws.lines_decide.Goals as goal

pub returns : goal.returns
returns c = λ step more chosen others person lines joined first second read.
    let small = all_among (λ (one : Person). IsTraitSet one.traits) more.people person joined.both.more_is_step.people.traits joined.there in
    c.cutoffs_decide.ensures step more chosen others person (read_lines person.traits lines) joined first second (read person.traits small)
