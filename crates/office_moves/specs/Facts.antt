-- What a season says, apart from how it is kept.
use Rattle.std.specs.Prelude.{◌≡◌, ◌≤◌, ℕ, List, [], Option, None, map, position, slice_get, bytes_eq, option_map}
use Rattle.std.specs.Option.{unwrap_or}
use Rattle.office_base.specs.Version.{IsVersion}
use Rattle.office_base.specs.declared.person.CandId.{CandId}
use Rattle.office_base.specs.declared.person.Person.{Person}
use Rattle.office_base.specs.declared.person.ProgId.{ProgId}
use Rattle.rank_lists.specs.Register.{AreRanks, Ranks, find_holder}
use Rattle.seat_matrix.specs.Matrix.{AreSeats, SeatTable}
use Rattle.choice_lists.specs.Choices.{AreChoices, Lists}

-- a season: the version of its bundle, the number of rounds, the clerk's token, the people and who holds which token, the seats, the choice lists along
-- the people, and the text of the bundle
pub record SeasonFacts : Type 0 where
  pub version : ℕ
  pub rounds : ℕ
  pub clerk : List ℕ
  pub people : List Person
  pub holders : List (List ℕ × CandId)
  pub matrix : SeatTable
  pub lists : Lists
  pub text : List ℕ

-- the register of a season
abbrev pub register_of : SeasonFacts → Ranks
register_of facts = record { people = facts.people; holders = facts.holders }

-- the choice lists in the order of the people
abbrev pub lists_in_order : SeasonFacts → List (List ProgId)
lists_in_order facts = map (λ held. held.1) facts.lists

-- What holds of every season that was read.
pub record IsSound (facts : SeasonFacts) : Type 0 where
  pub version : IsVersion facts.version
  pub rounds : (1 ≤ facts.rounds) × (facts.rounds ≤ 10)
  pub ranks : AreRanks (register_of facts)
  pub seats : AreSeats facts.matrix
  pub choices : AreChoices (register_of facts) facts.matrix facts.lists
  pub aligned : map (λ held. held.0) facts.lists ≡ map (λ person. person.id.0) facts.people
  pub clerk : find_holder facts.clerk facts.holders ≡ None

-- the programme of a code
abbrev pub find_programme : SeasonFacts → List ℕ → Option ProgId
find_programme facts code = option_map (λ n. record { 0 = n }) (position (bytes_eq code) (map (λ held. held.0) facts.matrix.programmes))

-- the code of the programme of this number; of none the empty text, which is no code
abbrev pub code_in : SeasonFacts → ℕ → List ℕ
code_in facts prog = unwrap_or (option_map (λ held. held.0) (slice_get facts.matrix.programmes prog)) []
