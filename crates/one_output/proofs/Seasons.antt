-- Bytes give one season.
use Rattle.std.proofs.Common.{◌≡◌, ℕ, Bool, false, List, [], sym, ap, ◌∙◌}
use Rattle.office_asks.specs.declared.ask.Request.{Request}
use Rattle.season_file.specs.Laws.{HaveOneReading}
use Rattle.season_file.specs.Season.{BundleGives, content_of}
use Rattle.season_file.specs.declared.content.Content.{Content}
use Rattle.season_file.specs.declared.season.Season.{Season}
use Rattle.office_moves.specs.Facts.{SeasonFacts}
use Rattle.season_facts.specs.Season.{facts_of}
use Rattle.season_facts.proofs.Sound.{given_sound}
use Rattle.one_output.specs.Laws.{GiveOneSeason, OneKeptSeason, OneSeason}

-- what a season says, by its content and its text
abbrev said : Content → List ℕ → SeasonFacts
said content text = record {
  version = content.version;
  rounds = content.head.rounds;
  clerk = content.head.clerk;
  people = content.register.people;
  holders = content.register.holders;
  matrix = content.matrix;
  lists = content.choices;
  text = text;
}

-- two readings of the same bytes say the same, if they keep the same text
same_readings : ((requests : Bool) (bytes : List ℕ) → HaveOneReading requests bytes) → (requests : Bool) (bytes : List ℕ) (season other : Season) (script more : List Request) (row next : ℕ)
    → BundleGives requests bytes (content_of season row) script → BundleGives requests bytes (content_of other next) more → season.text ≡ other.text → facts_of season ≡ facts_of other
same_readings reading requests bytes season other script more row next one two text =
    ap (λ (c : Content). said c season.text) ((reading requests bytes).one_content (content_of season row) (content_of other next) script more one two) ∙ ap (said (content_of other next)) text

one_season : ((requests : Bool) (bytes : List ℕ) → HaveOneReading requests bytes) → OneSeason
one_season reading requests bytes season other script more one two = (
  same_readings reading requests bytes season other script more one.row two.row one.given two.given (one.text ∙ sym two.text),
  (reading requests bytes).one_script (content_of season one.row) (content_of other two.row) script more one.given two.given,
)

one_kept_season : ((requests : Bool) (bytes : List ℕ) → HaveOneReading requests bytes) → OneKeptSeason
one_kept_season reading bytes season other one two = same_readings reading false bytes season other [] [] one.row two.row one.given two.given (one.text ∙ sym two.text)

pub give_one_season : ((requests : Bool) (bytes : List ℕ) → HaveOneReading requests bytes) → GiveOneSeason
give_one_season reading = record {
  sound = λ requests bytes season row script gives. given_sound requests bytes season row script (reading requests bytes) gives;
  bundles = one_season reading;
  kept = one_kept_season reading;
}
