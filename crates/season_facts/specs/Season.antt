-- What a season that was read says.
use Rattle.season_file.specs.declared.season.Season.{Season}
use Rattle.office_moves.specs.Facts.{SeasonFacts}

-- the facts of a season
abbrev pub facts_of : Season → SeasonFacts
facts_of season = record {
  version = season.version;
  rounds = season.rounds;
  clerk = season.clerk;
  people = season.register.people;
  holders = season.register.holders;
  matrix = season.matrix;
  lists = season.choices;
  text = season.text;
}
