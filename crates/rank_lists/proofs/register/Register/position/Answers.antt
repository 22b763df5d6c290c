use Rattle.std.proofs.Common.{ℕ, Ok, Err, Option, ap, ◌∙◌}
use Rattle.std.specs.Prelude.{slice_get}
use Rattle.std.specs.Option.{option_and_then}
use Rattle.rank_lists.specs.Register.{Ranks, row_of}
use Rattle.rank_lists.proofs.MadeLemmas.{id_there, person_there, searched_ids}
use Rattle.rank_lists.proofs.register.Register.position.Goals as goal

pub returns-in-Some-clause-row : goal.returns-in-Some-clause-row
returns-in-Some-clause-row c =
    let kept = c.self.invariant in
    let facts = rw c.as_slice.ensures.value at c.in-Some.ensures in
    id_there c.self.inside.people.items c.self.inside.ids.items c.args.id.0 c.in-Some.at kept.sound.rising kept.same facts.0 facts.1
    ∙ ap (λ (r : Ranks). row_of c.args.id.0 r.people) c.self.view_is

pub returns-in-Some-clause-person : goal.returns-in-Some-clause-person
returns-in-Some-clause-person c =
    ap (λ (o : Option ℕ). option_and_then (λ at. slice_get c.args.self.now.people at) o) (returns-in-Some-clause-row c) ∙ person_there c.args.self.now.people c.args.id.0

pub returns-in-Ok-clause-row : goal.returns-in-Ok-clause-row
returns-in-Ok-clause-row c =
    let facts = c.in-Ok.ensures in
    let kept = c.self.invariant in
    let found = searched_ids c.self.inside.people.items c.self.inside.ids.items c.args.id.0 (Ok c.in-Ok.at) kept.sound.rising kept.same (rw c.deref.ensures.value at facts.bound) (rw c.deref.ensures.value at facts.position) in
    found ∙ ap (λ (r : Ranks). row_of c.args.id.0 r.people) c.self.view_is

pub returns-in-Err-clause-row : goal.returns-in-Err-clause-row
returns-in-Err-clause-row c =
    let facts = c.in-Err.ensures in
    let kept = c.self.invariant in
    let found = searched_ids c.self.inside.people.items c.self.inside.ids.items c.args.id.0 (Err c.in-Err.field-0) kept.sound.rising kept.same (rw c.deref.ensures.value at facts.bound) (rw c.deref.ensures.value at facts.position) in
    found ∙ ap (λ (r : Ranks). row_of c.args.id.0 r.people) c.self.view_is

pub returns-in-Ok-clause-person : goal.returns-in-Ok-clause-person
returns-in-Ok-clause-person c =
    ap (λ (o : Option ℕ). option_and_then (λ at. slice_get c.args.self.now.people at) o) (returns-in-Ok-clause-row c) ∙ person_there c.args.self.now.people c.args.id.0

pub returns-in-Err-clause-person : goal.returns-in-Err-clause-person
returns-in-Err-clause-person c =
    ap (λ (o : Option ℕ). option_and_then (λ at. slice_get c.args.self.now.people at) o) (returns-in-Err-clause-row c) ∙ person_there c.args.self.now.people c.args.id.0
