-- The round of a special round has an entry for each of the people, and its seats are in programmes of its matrix.
use Rattle.std.proofs.Common.{◌≡◌, ◌<◌, ℕ, zero, List, [], Option, Some, None, length, map, arith, sym, ap, ◌∙◌, subst}
use Rattle.std.specs.Prelude.{slice_get}
use Rattle.std.proofs.lemmas.List.{length-map}
use Rattle.std.proofs.lemmas.Option.{slice_get_within}
use Rattle.office_base.specs.declared.seat.Seat.{Seat}
use Rattle.office_base.specs.declared.person.Person.{Person}
use Rattle.office_base.specs.declared.person.ProgId.{ProgId}
use Rattle.office_base.proofs.Lists.{all_from, there_is}
use Rattle.kept_rows.specs.declared.rows.AllotRow.{AllotRow}
use Rattle.rank_lists.specs.Register.{Ranks}
use Rattle.seat_matrix.specs.Matrix.{SeatTable}
use Rattle.seeks.specs.declared.seek.Seek.{Seek}
use Rattle.seeks.specs.declared.seek.Seek.TheVariants.{Whole}
use Rattle.allocations.specs.Fair.{IsOwn}
use Rattle.allocations.specs.Market.{Seeker, place_of}
use Rattle.allocations.proofs.Places.{place_read}
use Rattle.rounds.specs.Round.{IsRound}
use Rattle.rounds.specs.Rule.{AreEntrants, nobody, seekers_of}
use Rattle.rounds.proofs.Entrants.{length_seekers, market}
use Rattle.round_laws.specs.Laws.{lists_in}
use Rattle.round_laws.proofs.Season.{aligned_length, entrants, length_lists}
use Rattle.office_moves.specs.Facts.{IsSound, SeasonFacts, register_of}
use Rattle.season_facts.specs.Season.{facts_of}
use Rattle.published_texts.specs.Texts.{AreSeatsOf, IsSeatOf}
use Rattle.special_round.specs.Special.{IsSpecialOver, all_whole}
use Rattle.special_round.specs.declared.round_over.Special.{Special}
use Rattle.special_command.specs.Texts.{CanBeShown}

pub can_be_shown : (facts : SeasonFacts) (table : SeatTable) (rows : List AllotRow) (body : List ℕ) (special : Special) → IsSound (facts_of special.season)
    → IsSpecialOver facts table rows body special → CanBeShown special
can_be_shown facts table rows body special sound is =
    let season = special.season in
    let people = season.register.people in
    let lists = lists_in season.choices in
    let register : facts.people ≡ people = ap (λ (r : Ranks). r.people) (sym is.season.register) in
    let made : IsRound facts.version nobody season.matrix people lists 1 (all_whole people) special.round =
    subst (λ (l : List Person). IsRound facts.version nobody season.matrix l lists 1 (all_whole l) special.round) register is.round in
    let entries : length lists ≡ length people = length_lists season.choices ∙ aligned_length season.choices people sound.aligned in
    let whole : length (all_whole people) ≡ length lists = length-map people (λ (person : Person). Whole) ∙ sym entries in
    let seekers : List Seeker = seekers_of season.matrix people lists (all_whole people) in
    let many : length seekers ≡ length people = length_seekers season.matrix people lists (all_whole people) entries whole in
    let allocation = made.best.fair.allocation in
    let enter = market season.matrix people lists (all_whole people) sound.seats (entrants (register_of (facts_of season)) season.matrix season.choices sound.ranks sound.choices sound.aligned) in
    record {
      entries = allocation.full ∙ many;
      programmes = all_from (IsSeatOf season.matrix) special.round.seats (λ i seat at. by_seat seekers i seat
          (there_is seekers i (let below = slice_get_within special.round.seats i seat at in let full = allocation.full in omega (arith, below, full)))
          (λ s there. allocation.own i s seat there at)
          (λ k s q there at'. enter.below i k s q there at'));
    }
  where
    by_seat : (seekers : List Seeker) (i : ℕ) (seat : Option Seat) → (s : Seeker) × (slice_get seekers i ≡ Some s)
        → ((s : Seeker) → slice_get seekers i ≡ Some s → IsOwn s.list seat)
        → ((k : ℕ) (s : Seeker) (q : ProgId) → slice_get seekers i ≡ Some s → slice_get s.list k ≡ Some q → q.0 < length special.season.matrix.programmes)
        → IsSeatOf special.season.matrix seat
    by_seat seekers i None found own below = tt
    by_seat seekers i (Some seat) found own below =
        let read = place_read found.0.list seat.prog.0 (own found.0 found.1) in
        subst (λ n. n < length special.season.matrix.programmes) read.2 (below (place_of found.0.list seat.prog.0) found.0 read.0 found.1 read.1)
