use Rattle.std.proofs.Common.{◌≡◌, ◌<◌, ap, arith, length}
use Rattle.std.proofs.lemmas.List.{length-map}
use Rattle.std.proofs.lemmas.Option.{slice_get_within}
use Rattle.answer_table.specs.Turns.{choices_of}
use Rattle.answer_table.proofs.TurnLemmas.{put_view, put_kept}
use Rattle.answer_table.proofs.turns.AnswerTable.put.Goals as goal

pub returns : goal.returns
returns c = λ old at_place.
    let few : length old < 17 = (let same : c.requires.0 ≡ old = (let e = c.requires.1 in cc) in rw (← same) c.requires.2) in
    let inside : c.args.at < length c.self.inside.slots.items = (let e = ap length c.self.view_is in omega (arith, slice_get_within c.args.self.now c.args.at old at_place, length-map c.self.inside.slots.items choices_of)) in
    put_view c.self.inside.slots.items c.args.at _ _ c.index_mut-slot.result.now _ old c.args.choice c.self.view_is inside c.index_mut-slot.ensures.value at_place c.from-count.ensures c.self.invariant few c.with_choice.ensures

pub invariant_of-self : goal.invariant_of-self
invariant_of-self c =
    let inside : c.args.at < length c.self.inside.slots.items =
    (let e = ap length c.self.view_is in omega (arith, slice_get_within c.args.self.now c.args.at c.requires.0 c.requires.1, length-map c.self.inside.slots.items choices_of)) in
    put_kept c.self.inside.slots.items c.args.at _ _ c.index_mut-slot.result.now _ c.requires.0 c.self.view_is inside c.index_mut-slot.ensures.value c.requires.1 c.self.invariant c.requires.2
