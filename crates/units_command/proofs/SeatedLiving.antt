-- A candidate who has a seat in a unit lives where the unit is for.
use Rattle.std.proofs.Common.{◌≡◌, ◌+◌, ◌⊎◌, ℕ, Bool, zero, suc, true, false, List, [], ◌∷◌, ◌++◌, Option, Some, None, refl, sym, ap, subst, ◌∙◌, inl, inr}
use Rattle.std.specs.Prelude.{if◌then◌else◌, option_map, slice_get, unwrap_or, codes, drop}
use Rattle.office_base.specs.Lists.{IsAmong}
use Rattle.office_asks.specs.declared.ask.Request.{Request}
use Rattle.office_base.specs.declared.seat.Seat.{Seat}
use Rattle.office_base.specs.declared.person.CandId.{CandId}
use Rattle.office_base.specs.declared.person.Person.{Person}
use Rattle.office_base.specs.declared.person.ProgId.{ProgId}
use Rattle.kept_rows.specs.declared.rows.AllotRow.{AllotRow}
use Rattle.choice_lists.specs.Choices.{list_of}
use Rattle.season_file.specs.Laws.{HaveOneReading}
use Rattle.season_file.specs.Season.{IsSeasonWith, content_of}
use Rattle.season_file.specs.declared.season.Season.{Season}
use Rattle.office_moves.specs.Facts.{IsSound, SeasonFacts, code_in}
use Rattle.office_moves.specs.History.{Reaches}
use Rattle.office_moves.specs.Moves.{row_before, rows_along}
use Rattle.office_moves.specs.Promise.{kept_to_the_end, standing_then}
use Rattle.season_facts.specs.Season.{facts_of}
use Rattle.office_moves.specs.State.{State, opening, seat_in}
use Rattle.office_moves.specs.declared.moves.Entry.{Entry}
use Rattle.season_facts.proofs.Sound.{given_sound}
use Rattle.round_options.specs.Options.{holds}
use Rattle.history_laws.specs.Course.{IsCourse}
use Rattle.history_laws.proofs.Fits.{seat_is}
use Rattle.quota_units.specs.Expansion.{IsExpansion}
use Rattle.quota_units.specs.Homes.{Homes}
use Rattle.quota_units.specs.Mapping.{home_end, other_end}
use Rattle.quota_units.specs.Reads.{LivesRight}
use Rattle.units_command.specs.Units.{AlwaysLiveRight, FinalsLiveRight, SeatsLiveRight}

-- what is at a place of the list is in the list
among : (list : List ProgId) (place : ℕ) (prog : ProgId) → slice_get list place ≡ Some prog → IsAmong prog list
among [] place prog e = absurd cc
among (x ∷ list) zero prog e = inl (sym (cc e))
among (x ∷ list) (suc place) prog e = inr (among list place prog e)

-- nothing is no unit
no_unit : (base end more : List ℕ) (x : ℕ) → end ≡ x ∷ more → [] ≡ base ++ end → ⊥
no_unit [] end more x e same = let f : [] ≡ x ∷ more = same ∙ e in cc
no_unit (b ∷ base) end more x e same = cc

no_code : (units states : Homes) (id : ℕ) → LivesRight units states id []
no_code units states id = record {
  home = λ base state found same. absurd (no_unit base home_end (drop 1 home_end) 45 refl same);
  other = λ base state found same. absurd (no_unit base other_end (drop 1 other_end) 45 refl same);
}

-- a seat in any round
living : ((facts : SeasonFacts) (entries : List Entry) (state : State) → IsSound facts → Reaches facts opening entries state → IsCourse facts state) → (bytes text : List ℕ) (made : IsExpansion bytes text)
    (season : Season) (script : List Request) → IsSeasonWith true text season script → IsSound (facts_of season) → (entries : List Entry) (state : State) → Reaches (facts_of season) opening entries state
    → SeatsLiveRight made.units made.states (facts_of season) state
living courses bytes text made season script is sound entries state reached zero id seat e = absurd cc
living courses bytes text made season script is sound entries state reached (suc before) id seat e =
    let facts : SeasonFacts = facts_of season in
    let known = seat_is facts state before id seat sound (courses facts entries state sound reached) e in
    by (among (list_of facts.lists id) _ seat.prog known.at.there) (option_map (λ held. held.0) (slice_get season.matrix.programmes seat.prog.0)) refl
  where
    by : IsAmong seat.prog (list_of season.choices id) → (o : Option (List ℕ)) → option_map (λ held. held.0) (slice_get season.matrix.programmes seat.prog.0) ≡ o
        → LivesRight made.units made.states id (unwrap_or (option_map (λ held. held.0) (slice_get season.matrix.programmes seat.prog.0)) [])
    by there None f = subst (λ (c : List ℕ). LivesRight made.units made.states id c) (sym (ap (λ (o : Option (List ℕ)). unwrap_or o []) f)) (no_code made.units made.states id)
    by there (Some code) f =
        subst (λ (c : List ℕ). LivesRight made.units made.states id c) (sym (ap (λ (o : Option (List ℕ)). unwrap_or o []) f)) (made.living (content_of season is.row) script is.given id seat.prog code there f)

-- a row along people is that of somebody who has this seat
pub record HasSeat (seat : ℕ → Option Seat) (row : AllotRow) : Type 0 where
  pub held : Seat
  pub has : seat row.cand.0 ≡ Some held
  pub prog : row.prog ≡ held.prog

of_row : (number : ℕ) (seat : ℕ → Option Seat) (cand : CandId) (o : Option Seat) (rest : List AllotRow) (row : AllotRow) → seat cand.0 ≡ o → IsAmong row (row_before number cand o rest)
    → HasSeat seat row ⊎ IsAmong row rest
of_row number seat cand None rest row is there = inr there
of_row number seat cand (Some held) rest row is (inl same) =
    inl (record { held = held; has = ap (λ r. seat r.cand.0) same ∙ is; prog = ap (λ r. r.prog) same })
of_row number seat cand (Some held) rest row is (inr there) = inr there

has_seat : (number : ℕ) (seat : ℕ → Option Seat) (people : List Person) (row : AllotRow) → IsAmong row (rows_along number seat people) → HasSeat seat row
has_seat number seat [] row there = absurd there
has_seat number seat (person ∷ people) row there =
    elim (of_row number seat person.id (seat person.id.0) (rows_along number seat people) row refl there) [
      | inl has ↦ has
      | inr other ↦ has_seat number seat people row other
    ]

if_held : (b : Bool) (o : Option Seat) (seat : Seat) → (if b then o else None) ≡ Some seat → o ≡ Some seat
if_held true o seat is = is
if_held false o seat is = absurd cc

pub seats_right : ((requests : Bool) (bytes : List ℕ) → HaveOneReading requests bytes)
    → ((facts : SeasonFacts) (entries : List Entry) (state : State) → IsSound facts → Reaches facts opening entries state → IsCourse facts state) → (bytes text : List ℕ) (made : IsExpansion bytes text)
    (season : Season) (script : List Request) → IsSeasonWith true text season script → AlwaysLiveRight made.units made.states (facts_of season)
seats_right readings courses bytes text made season script is entries state reached = (seats, finals)
  where
    facts : SeasonFacts
    facts = facts_of season

    sound : IsSound (facts_of season)
    sound = given_sound true text season is.row script (readings true text) is.given

    seats : SeatsLiveRight made.units made.states (facts_of season) state
    seats = living courses bytes text made season script is sound entries state reached

    finals : FinalsLiveRight made.units made.states (facts_of season) state
    finals rows row last there =
        let along = (courses facts entries state sound reached).finals rows last in
        let has = has_seat (facts.rounds + 1) (kept_to_the_end facts state) facts.people row (subst (λ (xs : List AllotRow). IsAmong row xs) along there) in
        let seat = if_held (holds (standing_then facts state facts.rounds row.cand.0)) (seat_in facts state.rounds facts.rounds row.cand.0) has.held has.has in
        subst (λ (p : ProgId). LivesRight made.units made.states row.cand.0 (code_in facts p.0)) (sym has.prog) (seats facts.rounds row.cand.0 has.held seat)
