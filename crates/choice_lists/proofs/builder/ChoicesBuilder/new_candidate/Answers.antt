use Rattle.std.proofs.Common.{arith, ◌∙◌}
use Rattle.choice_lists.proofs.BuilderLemmas.{had_at, tests_had, tests_long, tests_many, tests_none}
use Rattle.choice_lists.proofs.builder.ChoicesBuilder.new_candidate.Goals as goal

pub returns-then-index-clause-given : goal.returns-then-index-clause-given
returns-then-index-clause-given c = λ entries keeps.
    tests_had c.args.self.now.register.now entries c.args.row.now.row c.in-Some.person (rw c.field.ensures at c.in-Some.ensures.person)
    (had_at entries c.args.self.now c.in-Some.person.id.0 c.in-Some.at _ _ keeps c.in-Some.ensures.row c.index.ensures ∙ c.if-index.true)

pub returns-then-count-gt-MOST_ROW_CHOICES-clause-given : goal.returns-then-count-gt-MOST_ROW_CHOICES-clause-given
returns-then-count-gt-MOST_ROW_CHOICES-clause-given c = λ entries keeps.
    tests_long c.args.self.now.register.now entries c.args.row.now.row c.in-Some.person (rw c.field.ensures at c.in-Some.ensures.person)
    (had_at entries c.args.self.now c.in-Some.person.id.0 c.in-Some.at _ _ keeps c.in-Some.ensures.row c.index.ensures ∙ c.if-index.false)
    (omega (arith, c.len.ensures, c.saturating_sub-count.ensures, c.if-count-gt-MOST_ROW_CHOICES.true))

pub returns-then-self-count-gt-MOST_CHOICES-clause-given : goal.returns-then-self-count-gt-MOST_CHOICES-clause-given
returns-then-self-count-gt-MOST_CHOICES-clause-given c = λ entries keeps.
    tests_many c.args.self.now.register.now entries c.args.row.now.row c.in-Some.person (rw c.field.ensures at c.in-Some.ensures.person)
    (had_at entries c.args.self.now c.in-Some.person.id.0 c.in-Some.at _ _ keeps c.in-Some.ensures.row c.index.ensures ∙ c.if-index.false)
    (omega (arith, c.len.ensures, c.saturating_sub-count.ensures, c.if-count-gt-MOST_ROW_CHOICES.false))
    (omega (arith, keeps.total, c.len.ensures, c.saturating_sub-count.ensures, c.if-self-count-gt-MOST_CHOICES.true))

pub returns-clause-given : goal.returns-clause-given
returns-clause-given c = λ entries keeps.
    tests_none c.args.self.now.register.now entries c.args.row.now.row c.in-Some.person (rw c.field.ensures at c.in-Some.ensures.person)
    (had_at entries c.args.self.now c.in-Some.person.id.0 c.in-Some.at _ _ keeps c.in-Some.ensures.row c.index.ensures ∙ c.if-index.false)
    (omega (arith, c.len.ensures, c.saturating_sub-count.ensures, c.if-count-gt-MOST_ROW_CHOICES.false))
    (omega (arith, keeps.total, c.len.ensures, c.saturating_sub-count.ensures, c.if-self-count-gt-MOST_CHOICES.false))
