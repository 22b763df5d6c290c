use Rattle.std.proofs.Common.{[], ap, false, refl}
use Rattle.std.specs.Prelude.{is_some}
use Rattle.section_rows.specs.Rows.{rows_of}
use Rattle.season_file.proofs.HeadLemmas.{rounds_within}
use Rattle.season_file.proofs.KeptLemmas.{version_known}
use Rattle.season_file.proofs.season.Season.with_text.Goals as goal

pub invariant_of-result : goal.invariant_of-result
invariant_of-result c =
    let (parts, cut, given, scripted) = c.requires.given.1 in
    let rounds = rounds_within (rows_of parts.season) c.args.content.head given.head in
    record {
      known_version = version_known false c.args.text c.args.content [] c.requires.given;
      some_rounds = rounds.0;
      few_rounds = rounds.1;
      clerk_apart = ap is_some c.requires.given.2;
      aligned = c.requires.aligned;
      sound = given.sound;
    }

pub returns-clause-season : goal.returns-clause-season
returns-clause-season c = record { text = refl; row = c.args.content.head.row; given = c.requires.given }
