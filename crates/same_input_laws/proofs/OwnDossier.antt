-- What an office publishes is the papers of a dossier, with all that a dossier keeps.
use Rattle.std.proofs.Common.{◌≡◌, ◌≢◌, ◌<◌, ◌*◌, inl, inr, ℕ, suc, List, [], ◌∷◌, Some, length, map, arith, refl, sym, ap, ◌∙◌}
use Rattle.std.specs.Prelude.{min, slice_get}
use Rattle.std.specs.List.{AllByRecursion, flat_map}
use Rattle.std.proofs.lemmas.Bool.{cases_lt}
use Rattle.std.proofs.lemmas.List.{length-append, length-map}
use Rattle.std.proofs.lemmas.Option.{slice_get_within}
use Rattle.office_base.proofs.Lists.{all_joined}
use Rattle.office_base.specs.Lists.{Pairwise}
use Rattle.office_asks.specs.declared.ask.Request.{Request}
use Rattle.office_base.specs.declared.person.Person.{Person}
use Rattle.allocations.specs.Market.{Seeker, applicants}
use Rattle.allocations.proofs.Claims.{applicants_may}
use Rattle.seat_matrix.specs.Matrix.{SeatTable, seats_in}
use Rattle.season_file.specs.declared.season.Season.{Season}
use Rattle.programme_lists.specs.declared.programme.Programme.{Programme}
use Rattle.programme_lists.specs.declared.programme.StepList.{StepList}
use Rattle.rounds.specs.Rule.{MayApplyIn, nobody, rule_of, seekers_of}
use Rattle.rounds.specs.declared.round.Round.{Round}
use Rattle.rounds.proofs.Entrants.{market}
use Rattle.office_moves.specs.Facts.{IsSound, SeasonFacts, lists_in_order}
use Rattle.office_moves.specs.Promise.{IsJust}
use Rattle.office_moves.specs.Raised.{matrix_of_round}
use Rattle.office_moves.specs.State.{State}
use Rattle.season_facts.specs.Season.{facts_of}
use Rattle.history_laws.specs.Orderly.{IsOrderly}
use Rattle.history_laws.proofs.Entering.{entrants}
use Rattle.dossier_file.specs.Due.{cuts_accepted}
use Rattle.dossier_file.specs.Kept.{NamesOnce}
use Rattle.dossier_file.specs.Papers.{AreDuePapers}
use Rattle.dossier_file.specs.declared.dossier.Dossier.{Dossier}
use Rattle.same_input_laws.specs.SeasonDossiers.{lists_from, lists_told, papers_told, round_told, texts_told}
use Rattle.same_input_laws.proofs.OwnPapers.{Laws}
use Rattle.same_input_laws.proofs.ShownLists as shown

-- no step of the lists of a programme names a person twice
abbrev Once : Programme → Type 0
Once programme = AllByRecursion (λ (list : StepList). Pairwise (λ (a b : Person). a.id ≢ b.id) list.admitted) programme.steps

once_from : (number prog : ℕ) (programmes : List Programme) → ((p : ℕ) (programme : Programme) → slice_get programmes p ≡ Some programme → Once programme) → NamesOnce (lists_from number prog programmes)
once_from number prog [] each = tt
once_from number prog (programme ∷ programmes) each = (each 0 programme refl, once_from number (suc prog) programmes (λ p. each (suc p)))

once_all : (rounds : List Round) → ((i p : ℕ) (round : Round) (programme : Programme) → slice_get rounds i ≡ Some round → slice_get round.programmes p ≡ Some programme → Once programme)
    → NamesOnce (flat_map lists_told rounds)
once_all [] each = tt
once_all (round ∷ rounds) each =
    all_joined _ (lists_told round) (flat_map lists_told rounds) (once_from round.number 0 round.programmes (λ p programme at. each 0 p round programme refl at))
    (once_all rounds (λ i p other programme at at'. each (suc i) p other programme at at'))

size_from : (number prog : ℕ) (programmes : List Programme) → length (lists_from number prog programmes) ≡ length programmes
size_from number prog [] = refl
size_from number prog (programme ∷ programmes) = ap (λ (n : ℕ). suc n) (size_from number (suc prog) programmes)

size_all : (count : ℕ) (rounds : List Round) → ((i : ℕ) (round : Round) → slice_get rounds i ≡ Some round → length round.programmes ≡ count) → length (flat_map lists_told rounds) ≡ length rounds * count
size_all count [] full = grind arith
size_all count (round ∷ rounds) full =
    let sum = length-append (lists_told round) (flat_map lists_told rounds) in
    let first = size_from round.number 0 round.programmes in
    let here = full 0 round refl in
    let rest = size_all count rounds (λ i other at. full (suc i) other at) in
    grind (arith, sum, first, here, rest)

module _ (laws : Laws) (facts : SeasonFacts) (sound : IsSound facts) (state : State) (orderly : IsOrderly facts state) where
  module _ (i : ℕ) (round : Round) (published : slice_get state.rounds i ≡ Some round) where
    abbrev table : SeatTable
    table = matrix_of_round facts state (suc i)

    abbrev seekers : List Seeker
    seekers = seekers_of table facts.people (lists_in_order facts) round.seeks

    just : IsJust facts table round
    just = orderly.word.rounds i round published

    full : length round.programmes ≡ length facts.matrix.programmes
    full = just.count ∙ ap (λ l. length l) (orderly.course.programmes (suc i))

    once : (p : ℕ) (programme : Programme) → slice_get round.programmes p ≡ Some programme → Once programme
    once p programme at =
        let less = slice_get_within round.programmes p programme at in
        let size = just.count in
        let below : p < length table.programmes = omega (arith, less, size) in
        let seats = orderly.course.seats (suc i) in
        let may =
        applicants_may (rule_of facts.version nobody table) (MayApplyIn table) (length table.programmes) p seekers round.seats
        (market table facts.people (lists_in_order facts) round.seeks seats (entrants facts table sound (orderly.course.programmes (suc i)))) (laws.well facts.version nobody table seats) below
        just.best.fair.allocation.full in
        shown.named_once laws.size laws.ranks laws.axioms facts.version (seats_in table p) (applicants p seekers round.seats) programme (seats.sound p below) may (just.shown p programme at)

  pub lists_once : NamesOnce (flat_map lists_told state.rounds)
  lists_once = once_all state.rounds (λ i p round programme at at'. once i round at p programme at')

  pub lists_whole : length (flat_map lists_told state.rounds) ≡ length (map (round_told facts) state.rounds) * length facts.matrix.programmes
  lists_whole =
      size_all (length facts.matrix.programmes) state.rounds (λ i round at. full i round at)
      ∙ ap (λ (n : ℕ). n * length facts.matrix.programmes) (sym (length-map state.rounds (round_told facts)))

  pub rounds_whole : length (map (round_told facts) state.rounds) ≡ min facts.rounds state.now
  rounds_whole = elim (cases_lt facts.rounds state.now) [
    | inl over ↦ let size = (orderly.finished over).0 in length-map state.rounds (round_told facts) ∙ omega (arith, size, over)
    | inr early ↦ let size = orderly.course.order early in length-map state.rounds (round_told facts) ∙ omega (arith, size, early)
  ]

-- The dossier that an office publishes.
abbrev pub own_dossier : Laws → (season : Season) (script : List Request) (state : State) → IsSound (facts_of season) → IsOrderly (facts_of season) state → state.now ≡ cuts_accepted season.rounds 0 script
    → AreDuePapers season.matrix season.register.people season.rounds script (texts_told (facts_of season) state) (papers_told (facts_of season) state) → Dossier
own_dossier laws season script state sound orderly cuts due =
    let facts = facts_of season in
    let papers = papers_told facts state in
    record {
      season = season;
      script = script;
      rounds = papers.rounds;
      lists = papers.lists;
      last = papers.last;
      texts = ∣ (texts_told facts state, due) ∣₁;
      whole_rounds = rounds_whole laws facts sound state orderly ∙ ap (λ (n : ℕ). min season.rounds n) cuts;
      whole_lists = lists_whole laws facts sound state orderly;
      once = lists_once laws facts sound state orderly;
    }
