use Rattle.std.proofs.Common.{◌≡◌, ℕ, List, map, ap, subst, sym, ◌∙◌}
use Rattle.office_base.specs.declared.person.Person.{Person}
use Rattle.choice_lists.specs.Choices.{AreChoices, AreKept, lists_along}
use Rattle.choice_lists.proofs.BuilderLemmas.{made, made_aligned, made_kept, made_sound}
use Rattle.choice_lists.proofs.builder.ChoicesBuilder.finish.Goals as goal

pub invariant_of-result : goal.invariant_of-result
invariant_of-result c =
    let ids : c.in_ok-ids.ids.items ≡ map (λ person. person.id.0) c.args.self.register.now.people = c.in_ok-ids.ensures ∙ ap (λ (people : List Person). map (λ person. person.id.0) people) c.people.ensures.same in
    subst (λ (is : List ℕ). AreKept is c.args.self.lists) (sym ids) (made_kept c.requires.0 c.args.self c.requires.1)

pub returns-clause-lists : goal.returns-clause-lists
returns-clause-lists c = λ entries keeps.
    let ids : c.in_ok-ids.ids.items ≡ map (λ person. person.id.0) c.args.self.register.now.people = c.in_ok-ids.ensures ∙ ap (λ (people : List Person). map (λ person. person.id.0) people) c.people.ensures.same in
    ap (λ (is : List ℕ). lists_along is c.args.self.lists) ids ∙ made entries c.args.self keeps

pub returns-clause-sound : goal.returns-clause-sound
returns-clause-sound c =
    let ids : c.in_ok-ids.ids.items ≡ map (λ person. person.id.0) c.args.self.register.now.people = c.in_ok-ids.ensures ∙ ap (λ (people : List Person). map (λ person. person.id.0) people) c.people.ensures.same in
    subst (λ (is : List ℕ). AreChoices c.args.self.register.now c.args.self.matrix.now (lists_along is c.args.self.lists)) (sym ids) (made_sound c.requires.0 c.args.self c.requires.1)

pub returns-clause-aligned : goal.returns-clause-aligned
returns-clause-aligned c =
    let ids : c.in_ok-ids.ids.items ≡ map (λ person. person.id.0) c.args.self.register.now.people = c.in_ok-ids.ensures ∙ ap (λ (people : List Person). map (λ person. person.id.0) people) c.people.ensures.same in
    rw ids (made_aligned c.requires.0 c.args.self c.requires.1)
