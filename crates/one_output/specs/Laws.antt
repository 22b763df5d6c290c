-- The same input gives the same output.
use Rattle.std.specs.Prelude.{◌≡◌, ℕ, Bool, List}
use Rattle.office_asks.specs.declared.ask.Request.{Request}
use Rattle.season_file.specs.Season.{BundleGives, IsSeason, IsSeasonWith, content_of}
use Rattle.season_file.specs.declared.season.Season.{Season}
use Rattle.office_moves.specs.Facts.{IsSound}
use Rattle.season_facts.specs.Season.{facts_of}
use Rattle.office_moves.specs.State.{State, opening}
use Rattle.season_commands.specs.Runs.{Answers}
use Rattle.season_commands.specs.Tally.{AreHandled, Handled, requests_of}

-- What a season says is sound, whichever bytes give it with whichever requests.
abbrev pub SeasonsAreSound : Type 0
SeasonsAreSound = (requests : Bool) (bytes : List ℕ) (season : Season) (row : ℕ) (script : List Request) → BundleGives requests bytes (content_of season row) script → IsSound (facts_of season)

-- Bytes give one season and one script.
abbrev pub OneSeason : Type 0
OneSeason = (requests : Bool) (bytes : List ℕ) (season other : Season) (script more : List Request) → IsSeasonWith requests bytes season script → IsSeasonWith requests bytes other more
    → (facts_of season ≡ facts_of other) × (script ≡ more)

-- The text of a season that is kept, or is in a dossier, gives one season.
abbrev pub OneKeptSeason : Type 0
OneKeptSeason = (bytes : List ℕ) (season other : Season) → IsSeason bytes season → IsSeason bytes other → facts_of season ≡ facts_of other

-- What a season says is sound, and bytes give one season: those of a bundle, and a text that is kept or is in a dossier.
pub record GiveOneSeason : Type 0 where
  pub sound : SeasonsAreSound
  pub bundles : OneSeason
  pub kept : OneKeptSeason

-- The requests of a bundle have one output, and lead to one state.
abbrev pub OneOutput : Type 0
OneOutput = (requests : Bool) (bytes : List ℕ) (season other : Season) (script more : List Request) (output again : List ℕ) (state then : State) → IsSeasonWith requests bytes season script
    → IsSeasonWith requests bytes other more → Answers (facts_of season) opening script output state → Answers (facts_of other) opening more again then → (output ≡ again) × (state ≡ then)

-- Each request of a bundle has one reply, and they lead to one state.
abbrev pub OneTally : Type 0
OneTally = (requests : Bool) (bytes : List ℕ) (season other : Season) (script more : List Request) (handled again : List Handled) (state then : State) → IsSeasonWith requests bytes season script
    → IsSeasonWith requests bytes other more → AreHandled (facts_of season) opening handled state → AreHandled (facts_of other) opening again then → requests_of handled ≡ script
    → requests_of again ≡ more → (handled ≡ again) × (state ≡ then)
