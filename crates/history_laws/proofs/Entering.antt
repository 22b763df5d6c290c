-- Those who enter the rounds of a season: the people of its register with their choice lists, by any matrix of the season's programmes.
use Rattle.std.proofs.Common.{◌≡◌, ℕ, List, Some, length, ◌∙◌}
use Rattle.std.specs.Prelude.{slice_get}
use Rattle.office_base.specs.declared.person.Person.{Person}
use Rattle.office_base.specs.declared.person.ProgId.{ProgId}
use Rattle.choice_lists.specs.Choices.{list_of}
use Rattle.seat_matrix.specs.Matrix.{SeatTable}
use Rattle.rounds.specs.Rule.{AreEntrants, IsOwnList}
use Rattle.office_moves.specs.Facts.{IsSound, SeasonFacts, lists_in_order, register_of}
use Rattle.round_laws.proofs.People.{found_at}
use Rattle.round_laws.proofs.Season as season

-- The people of a season, with their choice lists, may enter its rounds.
pub entrants : (facts : SeasonFacts) (table : SeatTable) → IsSound facts → table.programmes ≡ facts.matrix.programmes → AreEntrants table facts.people (lists_in_order facts)
entrants facts table sound same =
    season.entrants (register_of facts) table facts.lists sound.ranks (season.same_choices (register_of facts) facts.matrix table facts.lists same sound.choices) sound.aligned

-- the list of a person is an own list
pub own_there : (facts : SeasonFacts) (table : SeatTable) (i : ℕ) (person : Person) → IsSound facts → table.programmes ≡ facts.matrix.programmes → slice_get facts.people i ≡ Some person
    → IsOwnList table person (list_of facts.lists person.id.0)
own_there facts table i person sound same at =
    season.own_list (register_of facts) table person (list_of facts.lists person.id.0) (found_at facts.people i person sound.ranks.rising at)
    (season.same_choices (register_of facts) facts.matrix table facts.lists same sound.choices person.id.0)

-- the list at the place of a person is the person's
pub list_there : (facts : SeasonFacts) (i : ℕ) (person : Person) (list : List ProgId) → IsSound facts → slice_get facts.people i ≡ Some person → slice_get (lists_in_order facts) i ≡ Some list
    → list_of facts.lists person.id.0 ≡ list
list_there facts i person list sound at at' = season.list_at_place facts.lists facts.people i person list sound.aligned sound.ranks.rising at at'

pub lists_full : (facts : SeasonFacts) → IsSound facts → length (lists_in_order facts) ≡ length facts.people
lists_full facts sound = season.length_lists facts.lists ∙ season.aligned_length facts.lists facts.people sound.aligned
