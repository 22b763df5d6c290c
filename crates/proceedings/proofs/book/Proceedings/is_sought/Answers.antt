use Rattle.std.proofs.Common.{◌≡◌, List, Some, get_or, length, sym, ap, ◌∙◌, subst}
use Rattle.std.proofs.lemmas.Option.{slice_get-get_or}
use Rattle.office_base.specs.Person.{at_person}
use Rattle.office_base.specs.declared.person.ProgId.{ProgId}
use Rattle.choice_lists.specs.Choices.{list_of}
use Rattle.seeks.specs.Seek.{IsWithinList, is_listed, seek_leaves}
use Rattle.seeks.specs.declared.seek.Seek.{Seek}
use Rattle.seeks.specs.declared.seek.Seek.TheVariants.{Whole}
use Rattle.office_moves.specs.Facts.{IsSound}
use Rattle.office_moves.specs.Why.{is_sought_by}
use Rattle.proceedings.specs.Proceeding.{Proceeding}
use Rattle.proceedings.proofs.Positions.{at_position}
use Rattle.proceedings.proofs.Published.{list_at_position, less_as}
use Rattle.proceedings.proofs.book.Proceedings.is_sought.Goals as goal

pub is_sought-requires-clause-within : goal.is_sought-requires-clause-within
is_sought-requires-clause-within c =
    let value = c.args.self.now in
    let seeks = c.args.round.now.seeks in
    let P : Proceeding → Type 0 = λ p. IsSound p.season in
    let sound = subst P c.self.view_is c.self.invariant.sound in
    let less = less_as c.args.at (length value.season.people) (length seeks) c.requires.within (sym c.requires.last.full) in
    let list = c.list-list.ensures.list ∙ ap (λ (p : Proceeding). list_of p.season.lists c.args.cand.0) c.self.view_is in
    let Q : List Seek → Type 0 = λ xs. IsWithinList (list_of value.season.lists c.args.cand.0) (get_or xs c.args.at Whole) in
    let L : List ProgId → Type 0 = λ xs. IsWithinList xs (get_or c.as_slice.result.now c.args.at Whole) in
    subst L (sym list) (subst Q (sym c.as_slice.ensures) (
    c.requires.last.seeks.within c.args.at (list_of value.season.lists c.args.cand.0) (get_or seeks c.args.at Whole)
    (list_at_position value.season c.args.cand.0 c.args.at sound c.requires.place) (slice_get-get_or seeks c.args.at Whole less)
    ))

pub returns : goal.returns
returns c =
    let a = c.self.inside in
    let value = c.args.self.now in
    let seeks = c.args.round.now.seeks in
    let seek = get_or c.as_slice.result.now c.args.at Whole in
    let less = less_as c.args.at (length value.season.people) (length seeks) c.requires.within (sym c.requires.last.full) in
    let there : at_person c.args.cand.0 value.season.people seeks ≡ Some seek =
    at_position c.args.cand.0 value.season.people seeks c.args.at c.requires.place c.requires.last.full
    ∙ (slice_get-get_or seeks c.args.at Whole less ∙ ap (λ (xs : List Seek). Some (get_or xs c.args.at Whole)) (sym c.as_slice.ensures)) in
    c.is_sought.ensures
    ∙ (ap (λ (xs : List ProgId). is_listed c.args.prog.0 (seek_leaves a.season.matrix seek xs)) c.list-list.ensures.list
    ∙ (ap (λ (p : Proceeding). is_listed c.args.prog.0 (seek_leaves p.season.matrix seek (list_of p.season.lists c.args.cand.0))) c.self.view_is
    ∙ ap (is_sought_by value.season c.args.cand c.args.prog) (sym there)))
