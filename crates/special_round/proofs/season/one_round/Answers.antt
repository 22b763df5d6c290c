use Rattle.std.proofs.Common.{◌≡◌, ◌∙◌, sym, subst, ap, false, map}
use Rattle.office_base.specs.declared.person.Person.{Person}
use Rattle.std.specs.Prelude.{is_some}
use Rattle.rank_lists.specs.Register.{Ranks, find_holder}
use Rattle.special_round.proofs.season.one_round.Goals as goal

pub invariant_of-result-clause-clerk_apart : goal.invariant_of-result-clause-clerk_apart
invariant_of-result-clause-clerk_apart c = subst (λ (r : Ranks). is_some (find_holder c.args.season.now.clerk r.holders) ≡ false) (sym c.requires.people) c.args.season.now.clerk_apart

pub invariant_of-result-clause-sound : goal.invariant_of-result-clause-sound
invariant_of-result-clause-sound c =
    let (rows, read) = c.requires.lists in
    let here = c.same_reading.ensures rows c.args.season.now.register c.args.register c.args.season.now.matrix c.args.matrix (ap (λ (r : Ranks). r.people) (sym c.requires.people)) (sym c.requires.programmes) in
    (c.one_reading.ensures c.args.register c.args.matrix rows).sound c.args.choices (here.value c.args.choices read)

pub invariant_of-result-clause-aligned : goal.invariant_of-result-clause-aligned
invariant_of-result-clause-aligned c = c.requires.aligned ∙ ap (λ (r : Ranks). map (λ (person : Person). person.id.0) r.people) (sym c.requires.people)
