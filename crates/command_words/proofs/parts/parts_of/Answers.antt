use Rattle.std.proofs.Common.{codes, ◌∙◌}
use Rattle.clap.specs.Words.{found_of}
use Rattle.clap.proofs.WalkLemmas.{first_value-rows}
use Rattle.command_words.proofs.parts.parts_of.Goals as goal

pub returns-clause-parts : goal.returns-clause-parts
returns-clause-parts c =
    let rows = c.in_ok-matches.ensures.rows in
    let found = found_of c.in_ok-matches.matches in
    record {
      some = rows.some;
      few = rows.few;
      command = c.get_str.ensures ∙ (first_value-rows found (codes "command") ∙ rows.command);
      first = c.get_str-2.ensures ∙ (first_value-rows found (codes "first") ∙ rows.first);
      second = c.get_str-3.ensures ∙ (first_value-rows found (codes "second") ∙ rows.second);
      third = c.get_str-4.ensures ∙ (first_value-rows found (codes "third") ∙ rows.third);
      fourth = c.get_str-5.ensures ∙ (first_value-rows found (codes "fourth") ∙ rows.fourth);
      fifth = c.get_str-6.ensures ∙ (first_value-rows found (codes "fifth") ∙ rows.fifth);
    }
