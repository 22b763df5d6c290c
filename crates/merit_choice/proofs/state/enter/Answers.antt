use Rattle.std.proofs.Common.{◌≡◌, ◌∙◌, ◌∷◌, List, Bool, length, take_all, ap, subst, arith}
use Rattle.std.specs.List.{insert}
use Rattle.std.proofs.lemmas.List.{take-append-le}
use Rattle.office_base.specs.declared.person.Person.{Person}
use Rattle.merit_choice.specs.Needed.{Tells}
use Rattle.merit_choice.specs.State.{IsMatched}
use Rattle.merit_choice.proofs.Offering.{put_in}
use Rattle.merit_choice.proofs.Places.{zip_length}
use Rattle.merit_choice.proofs.state.enter.Goals as goal

pub put-requires-2-clause-place : goal.put-requires-2-clause-place
put-requires-2-clause-place c =
    let long = zip_length (Tells c.args.matching.now.members) _ _ c.requires.matched.told in
    let same = ap length c.as_mut_slice.ensures.value in
    let size = c.as_mut_slice.ensures.len in
    let within = c.requires.within in
    omega arith

pub returns-clause-matched : goal.returns-clause-matched
returns-clause-matched c =
    let held = c.args.held.now.items in
    let person = c.args.person.now in
    let at = c.args.at in
    let marks = c.join-needed.new.marks in
    let matched : IsMatched c.args.list (person ∷ held) (c.join-needed.result ∷ marks) c.join-needed.new.matching =
    subst (λ (people : List Person). IsMatched c.args.list (person ∷ people) (c.join-needed.result ∷ marks) c.join-needed.new.matching) c.as_slice.ensures.value c.join-needed.ensures.matched in
    let size = c.as_mut_slice.ensures.len in
    let kept_size = c.join-needed.auto.marks in
    let told : c.put-2.new.items.items ≡ insert marks at c.join-needed.result =
    c.put-2.ensures.items ∙ ap (λ (those : List Bool). insert those at c.join-needed.result)
    (take-append-le _ marks _ (omega arith) ∙ take_all _ marks (omega arith)) in
    put_in c.args.list held c.put.new.items.items person c.join-needed.new.matching c.put-2.new.items.items marks c.join-needed.result at
    c.requires.ranked c.requires.new c.requires.within c.requires.place c.put.ensures.items told matched
