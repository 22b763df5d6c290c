-- The input of a command that answers with one text has one answer.
use Rattle.std.proofs.Common.{◌≡◌, ◌+◌, ℕ, Bool, true, List, length, sym, ap, ◌∙◌}
use Rattle.std.specs.Prelude.{fold}
use Rattle.choice_lists.specs.Choices.{list_of}
use Rattle.season_file.specs.Laws as season_laws
use Rattle.season_file.specs.Season.{content_of}
use Rattle.season_file.specs.declared.content.Content.{Content}
use Rattle.season_texts.specs.Texts.{fault_line, line_of_counts}
use Rattle.command_answers.specs.Answers.{HaveOneAnswer}
use Rattle.season_commands.specs.Check.{IsCheckOutput, bundle_answers, check_answers}

-- a content has one line of its counts
abbrev counts_of : Content → List ℕ
counts_of content =
    line_of_counts (length content.register.people) (length content.matrix.programmes)
    (fold (λ n person. n + length (list_of content.choices person.id.0)) 0 content.register.people) content.head.rounds

-- a season bundle has one output
one_check : ((bytes : List ℕ) → season_laws.HaveOneReading true bytes) → (bytes output other : List ℕ) → IsCheckOutput bytes output → IsCheckOutput bytes other → output ≡ other
one_check laws bytes output other a b =
    let same = (laws bytes).one_content (content_of a.0 a.2.row) (content_of b.0 b.2.row) a.1 b.1 a.2.given b.2.given in
    a.3 ∙ ap counts_of same ∙ sym b.3

-- A bundle has one answer.
pub one_bundle_answer : (requests : Bool) (bytes : List ℕ) → season_laws.HaveOneReading requests bytes → HaveOneAnswer (bundle_answers requests) bytes
one_bundle_answer requests bytes law = record {
  some = law.some;
  apart = λ input faulty. law.apart input.0 input.1 faulty.0 input.2 faulty.1;
  of_input = λ output made. absurd made;
  of_fault = λ line has. (has.0, has.1);
  one_output = λ output other a b. absurd a;
  one_line = λ line other a b. a.2 ∙ ap fault_line (law.one_fault a.0 b.0 a.1 b.1) ∙ sym b.2;
}

-- So it has under `check`.
pub one_check_answer : ((bytes : List ℕ) → season_laws.HaveOneReading true bytes) → (bytes : List ℕ) → HaveOneAnswer check_answers bytes
one_check_answer laws bytes =
    let one = one_bundle_answer true bytes (laws bytes) in record {
      some = one.some;
      apart = one.apart;
      of_input = λ output made. (content_of made.0 made.2.row, made.1, made.2.given);
      of_fault = one.of_fault;
      one_output = one_check laws bytes;
      one_line = one.one_line;
    }
