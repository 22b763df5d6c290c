use Rattle.std.proofs.Common.{◌∙◌, List, subst, sym}
use Rattle.std.specs.List.{AllByRecursion}
use Rattle.office_base.specs.declared.person.Person.{Person}
use Rattle.placements.proofs.Ranks.{ranked_sublist}
use Rattle.placements.specs.Ranks.{CanBePlaced}
use Rattle.slot_matching.specs.Kept.{MayJoin, with_member}
use Rattle.list_audit.proofs.Among.{AreSettled, all_cannot, all_may, best_found, members_placed, members_traits}
use Rattle.list_audit.proofs.steps.best_overtaking.Goals as goal

pub reckon-requires-clause-ranked : goal.reckon-requires-clause-ranked
reckon-requires-clause-ranked c = ranked_sublist c.args.list c.args.named.now c.args.people.now c.requires.ranked c.requires.part

pub first_ahead-requires-clause-placed : goal.first_ahead-requires-clause-placed
first_ahead-requires-clause-placed c =
    let kept = c.in_ok-reckoning.reckoning.needed in
    let settled : AreSettled c.args.list c.args.protections.now c.args.people.now c.args.named.now kept c.in_ok-reckoning.reckoning.free = record {
      ranked = c.requires.ranked;
      part = c.requires.part;
      reckoned = c.in_ok-reckoning.ensures;
      honours = c.requires.most.0;
      ours = c.requires.most.1;
      all = c.requires.most.2;
    } in
    members_placed c.args.list c.args.protections.now c.args.people.now c.args.named.now kept c.in_ok-reckoning.reckoning.free settled

pub first_ahead-requires-clause-traits : goal.first_ahead-requires-clause-traits
first_ahead-requires-clause-traits c =
    let kept = c.in_ok-reckoning.reckoning.needed in
    let settled : AreSettled c.args.list c.args.protections.now c.args.people.now c.args.named.now kept c.in_ok-reckoning.reckoning.free = record {
      ranked = c.requires.ranked;
      part = c.requires.part;
      reckoned = c.in_ok-reckoning.ensures;
      honours = c.requires.most.0;
      ours = c.requires.most.1;
      all = c.requires.most.2;
    } in
    members_traits c.args.list c.args.protections.now c.args.people.now c.args.named.now kept c.in_ok-reckoning.reckoning.free settled

pub first_ahead-requires-clause-may : goal.first_ahead-requires-clause-may
first_ahead-requires-clause-may c =
    let kept = c.in_ok-reckoning.reckoning.needed in
    let settled : AreSettled c.args.list c.args.protections.now c.args.people.now c.args.named.now kept c.in_ok-reckoning.reckoning.free = record {
      ranked = c.requires.ranked;
      part = c.requires.part;
      reckoned = c.in_ok-reckoning.ensures;
      honours = c.requires.most.0;
      ours = c.requires.most.1;
      all = c.requires.most.2;
    } in
    subst (λ (those : List Person). AllByRecursion (MayJoin kept) those) (sym (c.as_slice.ensures ∙ c.in_ok-others.ensures))
    (all_may c.args.list c.args.protections.now c.args.people.now c.args.named.now kept c.in_ok-reckoning.reckoning.free settled)

pub first_ahead-requires-clause-cannot : goal.first_ahead-requires-clause-cannot
first_ahead-requires-clause-cannot c =
    let kept = c.in_ok-reckoning.reckoning.needed in
    let settled : AreSettled c.args.list c.args.protections.now c.args.people.now c.args.named.now kept c.in_ok-reckoning.reckoning.free = record {
      ranked = c.requires.ranked;
      part = c.requires.part;
      reckoned = c.in_ok-reckoning.ensures;
      honours = c.requires.most.0;
      ours = c.requires.most.1;
      all = c.requires.most.2;
    } in
    subst (λ (those : List Person). AllByRecursion (λ person. ¬ CanBePlaced kept.protections (with_member kept person).members) those) (sym (c.as_slice.ensures ∙ c.in_ok-others.ensures))
    (all_cannot c.args.list c.args.protections.now c.args.people.now c.args.named.now kept c.in_ok-reckoning.reckoning.free settled)

pub returns : goal.returns
returns c =
    let kept = c.in_ok-reckoning.reckoning.needed in
    let settled : AreSettled c.args.list c.args.protections.now c.args.people.now c.args.named.now kept c.in_ok-reckoning.reckoning.free = record {
      ranked = c.requires.ranked;
      part = c.requires.part;
      reckoned = c.in_ok-reckoning.ensures;
      honours = c.requires.most.0;
      ours = c.requires.most.1;
      all = c.requires.most.2;
    } in
    best_found c.args.list c.args.protections.now c.args.people.now c.args.named.now kept c.in_ok-reckoning.reckoning.free settled c.reckoned.ensures c.as_slice.result.now c.first_ahead.result (c.as_slice.ensures ∙ c.in_ok-others.ensures) c.first_ahead.ensures
