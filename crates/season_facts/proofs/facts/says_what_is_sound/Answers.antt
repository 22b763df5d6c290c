use Rattle.std.proofs.Common.{Bool}
use Rattle.office_base.proofs.Options.{none_from}
use Rattle.season_facts.proofs.facts.says_what_is_sound.Goals as goal

pub returns : goal.returns
returns c = record {
  version = c.args.season.now.known_version;
  rounds = (c.args.season.now.some_rounds, c.args.season.now.few_rounds);
  ranks = c.people.ensures.ranks;
  seats = c.count.ensures.seats;
  choices = c.args.season.now.sound;
  aligned = c.args.season.now.aligned;
  clerk = none_from _ c.args.season.now.clerk_apart;
}
