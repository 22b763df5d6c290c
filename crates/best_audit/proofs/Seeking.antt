-- What everybody seeks at a cut is read off how the candidates stand.
use Rattle.std.proofs.Common.{◌≡◌, ◌<◌, ◌≤◌, ℕ, true, List, [], length, get_or, arith, ap, subst, sym, ◌∙◌}
use Rattle.std.specs.Prelude.{IsSome}
use Rattle.std.proofs.lemmas.List.{length-map}
use Rattle.std.proofs.lemmas.Option.{slice_get_within}
use Rattle.office_base.specs.declared.person.Category.TheVariants.{Gen}
use Rattle.office_base.specs.declared.person.Person.{Person}
use Rattle.office_base.specs.declared.person.ProgId.{ProgId}
use Rattle.office_base.proofs.Lists.{there_is}
use Rattle.choice_lists.specs.Choices.{list_of}
use Rattle.history_laws.proofs.Entering.{list_there, lists_full}
use Rattle.history_laws.proofs.Fits.{map_at, within, some_one}
use Rattle.round_options.specs.Options.{holds}
use Rattle.rounds.specs.Rule.{AreSeeks}
use Rattle.seeks.specs.Seek.{IsWithinList}
use Rattle.seeks.specs.declared.seek.Seek.{Seek}
use Rattle.office_moves.specs.Facts.{IsSound, SeasonFacts, lists_in_order}
use Rattle.office_moves.specs.Moves.{next_seek, next_seeks}
use Rattle.office_moves.specs.State.{State, last_seat, standing_at, view_of}
use Rattle.audit_rules.specs.InOrder.{IsInOrder}
use Rattle.audit_rules.proofs.RegisterLists.{read_at}
use Rattle.audit_rules.specs.Stands.{seek_by, stand_of, stands_along}
use Rattle.audit_rules.specs.declared.stand.Stand.{Stand}

-- a person, where none is there
abbrev pub nobody_there : Person
nobody_there = record { id = record { 0 = 0 }; category = Gen; traits = record { 0 = 0 }; places = [] }

-- ---- the standing of a candidate

pub stand_is : (facts : SeasonFacts) (state : State) (all : List Stand) (k : ℕ) (d : Stand) (e : Person) → all ≡ stands_along facts state → k < length facts.people
    → get_or all k d ≡ stand_of facts state (get_or facts.people k e).id.0
stand_is facts state all k d e are less = read_at (λ (p : Person). stand_of facts state p.id.0) facts.people all k d e are less

-- what is sought, by the list and by the standing of a candidate
pub seek_is : (facts : SeasonFacts) (state : State) (all : List Stand) (k : ℕ) (d : Stand) (e : Person) (list : List ProgId) (seek : Seek) → all ≡ stands_along facts state
    → k < length facts.people → list ≡ list_of facts.lists (get_or facts.people k e).id.0 → seek ≡ seek_by list (get_or all k d)
    → seek ≡ next_seek facts state (get_or facts.people k e).id.0
seek_is facts state all k d e list seek are less own is =
    is ∙ (ap (λ (l : List ProgId). seek_by l (get_or all k d)) own
    ∙ ap (λ (s : Stand). seek_by (list_of facts.lists (get_or facts.people k e).id.0) s) (stand_is facts state all k d e are less))

-- ---- what is sought is in the choice lists

pub seeks_fit : (facts : SeasonFacts) (state : State) → IsSound facts → IsInOrder facts state → AreSeeks (lists_in_order facts) (next_seeks facts state)
seeks_fit facts state sound order = record {
  full = length-map facts.people (λ (person : Person). next_seek facts state person.id.0) ∙ sym (lists_full facts sound);
  within = λ i list seek at at'.
      let full = lists_full facts sound in
      let below = slice_get_within (lists_in_order facts) i list at in
      let person = there_is facts.people i (omega (arith, below, full)) in
      let id = person.0.id.0 in
      let mine = list_there facts i person.0 list sound person.1 at in
      let mapped = map_at (λ (person : Person). next_seek facts state person.id.0) facts.people i person.0 person.1 in
      let one : seek ≡ next_seek facts state id = some_one seek (next_seek facts state id) (sym at' ∙ mapped) in
      let fits : IsWithinList (list_of facts.lists id) (next_seek facts state id) =
      within (list_of facts.lists id) (standing_at facts (view_of state id) id state.now) (last_seat facts state.rounds id) (λ held e. order.own id held e) in
      subst (λ q. IsWithinList list q) (sym one) (subst (λ l. IsWithinList l (next_seek facts state id)) mine fits);
}
