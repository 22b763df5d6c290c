-- What a season says is sound, where bytes give it.
use Rattle.std.proofs.Common.{ℕ, Bool, List}
use Rattle.office_base.proofs.Options.{none_from}
use Rattle.office_asks.specs.declared.ask.Request.{Request}
use Rattle.season_file.specs.Laws.{HaveOneReading}
use Rattle.season_file.specs.Season.{BundleGives, content_of}
use Rattle.season_file.specs.declared.season.Season.{Season}
use Rattle.office_moves.specs.Facts.{IsSound}
use Rattle.season_facts.specs.Season.{facts_of}

-- What a season says is sound, whichever bytes give it with whichever requests.
pub given_sound : (requests : Bool) (bytes : List ℕ) (season : Season) (row : ℕ) (script : List Request) → HaveOneReading requests bytes → BundleGives requests bytes (content_of season row) script
    → IsSound (facts_of season)
given_sound requests bytes season row script one gives =
    let given = one.sound (content_of season row) script gives in
    record {
      version = season.known_version;
      rounds = (season.some_rounds, season.few_rounds);
      ranks = given.ranks;
      seats = given.seats;
      choices = season.sound;
      aligned = season.aligned;
      clerk = none_from _ season.clerk_apart;
    }
