use Rattle.std.proofs.Common.{◌∙◌, List, ap, subst, sym}
use Rattle.office_base.specs.declared.person.Person.{Person}
use Rattle.season_facts.specs.Season.{facts_of}
use Rattle.round_laws.specs.Laws.{lists_in}
use Rattle.rounds.specs.Rule.{AreSeeks}
use Rattle.seeks.specs.declared.seek.Seek.{Seek}
use Rattle.special_round.specs.Special.{all_whole}
use Rattle.special_round.proofs.Whole.{is_special}
use Rattle.special_round.proofs.round_over.special_over.Goals as goal

pub round-requires-clause-sought : goal.round-requires-clause-sought
round-requires-clause-sought g c =
    let left = c.in_ok-left.left in
    let whole = c.in_ok-seeks.ensures ∙ ap (λ (people : List Person). all_whole people) c.people.ensures.same in
    subst (λ (seeks : List Seek). AreSeeks (lists_in left.choices) seeks) (sym whole) (c.whole_seeks_fit.ensures left.register.people left.choices left.aligned)

pub returns-clause-special : goal.returns-clause-special
returns-clause-special g c =
    let whole = c.in_ok-seeks.ensures ∙ ap (λ (people : List Person). all_whole people) c.people.ensures.same in
    is_special (facts_of c.args.season.now) c.args.table.now c.args.finals.now c.args.lists.now c.in_ok-left.left c.vacant_seats.result c.in_ok-seeks.seeks c.in_ok-round.round
    c.says_what_is_sound.ensures c.says_what_is_sound-2.ensures c.together_within.ensures c.requires.programmes c.requires.fit c.in_ok-left.ensures.season c.vacant_seats.ensures
    whole c.in_ok-round.ensures.round
