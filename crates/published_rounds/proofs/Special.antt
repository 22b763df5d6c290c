-- The seats of a special round can be justified to each person.
use Rattle.std.proofs.Common.{◌≡◌, ℕ, List, Option, Some, length, refl, sym, ap, ◌∙◌, subst}
use Rattle.std.specs.Prelude.{slice_get}
use Rattle.std.specs.Option.{option_and_then}
use Rattle.std.proofs.lemmas.List.{length-map}
use Rattle.office_base.proofs.Options.{none_from}
use Rattle.office_base.proofs.People.{at_person-get}
use Rattle.office_base.specs.declared.seat.Seat.{Seat}
use Rattle.office_base.specs.declared.person.Person.{Person}
use Rattle.office_base.specs.declared.person.ProgId.{ProgId}
use Rattle.kept_rows.specs.declared.rows.AllotRow.{AllotRow}
use Rattle.rank_lists.specs.Register.{AreRanks, Ranks}
use Rattle.seat_matrix.specs.Matrix.{SeatTable}
use Rattle.allocations.specs.Market.{Seeker}
use Rattle.choice_lists.specs.Choices.{list_of}
use Rattle.season_file.specs.declared.season.Season.{Season}
use Rattle.seeks.specs.Seek.{seek_leaves}
use Rattle.seeks.specs.declared.seek.Seek.{Seek}
use Rattle.seeks.specs.declared.seek.Seek.TheVariants.{Whole}
use Rattle.seeks.proofs.Left.{left_whole}
use Rattle.rounds.specs.Rule.{AreEntrants, seekers_of}
use Rattle.rounds.proofs.Entrants.{entered, length_seekers}
use Rattle.round_laws.specs.Laws.{lists_in}
use Rattle.office_moves.specs.Facts.{IsSound, SeasonFacts}
use Rattle.season_facts.specs.Season.{facts_of}
use Rattle.office_moves.specs.State.{seat_of}
use Rattle.history_laws.proofs.Entering.{entrants, list_there, lists_full}
use Rattle.history_laws.proofs.Fits.{map_at}
use Rattle.published_rounds.specs.Fair.{AreFairOver}
use Rattle.published_rounds.specs.FairLaws.{RoundsAreFair}
use Rattle.published_rounds.specs.People.{FairSeatsAreJustified}
use Rattle.published_rounds.proofs.People.{fair_to}
use Rattle.special_round.specs.Season.{IsLeftSeason}
use Rattle.special_round.specs.Special.{IsSpecialOver, all_whole}
use Rattle.special_round.specs.declared.round_over.Special.{Special}
use Rattle.published_rounds.specs.Papers.{SpecialRoundsAreJustified}

-- the season that final rows leave of a sound one is sound
pub left_sound : (facts : SeasonFacts) (table : SeatTable) (rows : List AllotRow) (body : List ℕ) (season : Season) → IsSound facts → IsLeftSeason facts table rows body season → IsSound (facts_of season)
left_sound facts table rows body season sound left = record {
  version = season.known_version;
  rounds = (season.some_rounds, season.few_rounds);
  ranks = subst AreRanks (sym left.register) sound.ranks;
  seats = left.seats;
  choices = season.sound;
  aligned = season.aligned;
  clerk = none_from _ season.clerk_apart;
}

module _ (facts : SeasonFacts) (table : SeatTable) (rows : List AllotRow) (body : List ℕ) (special : Special) (sound : IsSound facts) (over : IsSpecialOver facts table rows body special) where
  abbrev left : SeatTable
  left = special.season.matrix

  abbrev lists : List (List ProgId)
  lists = lists_in special.season.choices

  abbrev seekers : List Seeker
  seekers = seekers_of left facts.people lists (all_whole facts.people)

  season_sound : IsSound (facts_of special.season)
  season_sound = left_sound facts table rows body special.season sound over.season

  same_people : special.season.register.people ≡ facts.people
  same_people = ap (λ (r : Ranks). r.people) over.season.register

  enter : AreEntrants left facts.people lists
  enter = subst (λ (l : List Person). AreEntrants left l lists) same_people (entrants (facts_of special.season) left season_sound refl)

  full_lists : length lists ≡ length facts.people
  full_lists = lists_full (facts_of special.season) season_sound ∙ ap length same_people

  full : length seekers ≡ length facts.people
  full = length_seekers left facts.people lists (all_whole facts.people) full_lists (length-map facts.people (λ (person : Person). Whole) ∙ sym full_lists)

  over_seekers : RoundsAreFair → AreFairOver facts.version left seekers special.round.seats
  over_seekers fair = fair facts.version left facts.people lists 1 (all_whole facts.people) special.round over.season.seats enter over.round

  -- a seeker is the person at that place with the whole list
  who : (i : ℕ) (s : Seeker) (person : Person) → slice_get seekers i ≡ Some s → slice_get facts.people i ≡ Some person
      → (s.person ≡ person) × (s.list ≡ list_of special.season.choices person.id.0)
  who i s person there at =
      let e = entered left facts.people lists (all_whole facts.people) i s there in
      let one : s.person ≡ person = (let mine = e.person_at in cc) in
      let whole : e.seek ≡ Whole = (let mine = e.seek_at in let all = map_at (λ (p : Person). Whole) facts.people i person at in cc) in
      let own = list_there (facts_of special.season) i person e.list season_sound (subst (λ (l : List Person). slice_get l i ≡ Some person) (sym same_people) at) e.list_at in
      (one, e.leaves ∙ (ap (λ (q : Seek). seek_leaves left q e.list) whole ∙ (left_whole left e.list 0 e.list ∙ sym own)))

  -- and has the seat at that place
  gets : (i : ℕ) (seat : Option Seat) (person : Person) → slice_get special.round.seats i ≡ Some seat → slice_get facts.people i ≡ Some person
      → seat ≡ seat_of facts (Some special.round) person.id.0
  gets i seat person there at =
      sym (ap (λ (o : Option (Option Seat)). option_and_then (λ s. s) o) (at_person-get facts.people special.round.seats i person sound.ranks.rising at ∙ there))

pub special_rounds_are_justified : RoundsAreFair → FairSeatsAreJustified → SpecialRoundsAreJustified
special_rounds_are_justified fair justify facts table rows body special sound over =
    let left = special.season.matrix in
    justify facts.version left facts.people (list_of special.season.choices) (seat_of facts (Some special.round))
    (fair_to facts.version left facts.people (list_of special.season.choices) (seat_of facts (Some special.round)) (seekers facts table rows body special sound over) special.round.seats
    (full facts table rows body special sound over) (who facts table rows body special sound over) (gets facts table rows body special sound over) (over_seekers facts table rows body special sound over fair))
