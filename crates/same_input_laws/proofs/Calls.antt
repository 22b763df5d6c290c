-- Two calls with the same words that find the same end in one way, command by command.
use Rattle.std.proofs.Common.{◌≡◌, inl, inr, ℕ, Bool, true, false, List, Some, refl, sym, ◌∙◌, subst}
use Rattle.office_base.specs.Outside.{Appends}
use Rattle.office_asks.specs.declared.ask.Request.{Request}
use Rattle.kept_rows.specs.Tables.{AreTold, IsFound, IsTold, Tables, Untold, NoSeason, Records, still}
use Rattle.season_file.specs.Season.{IsSeasonWith}
use Rattle.season_file.specs.declared.season.Season.{Season}
use Rattle.season_generator.specs.Bundle.{generated}
use Rattle.season_facts.specs.Season.{facts_of}
use Rattle.one_output.specs.Laws.{GiveOneSeason, OneOutput, OneTally}
use Rattle.command_answers.specs.Answers.{Answers, HaveOneAnswer}
use Rattle.command_answers.specs.Status.{IsAnswered}
use Rattle.command_answers.specs.Writes.{IsUsageText, Writes, usage_line}
use Rattle.command_answers.specs.declared.status.Status.{Status}
use Rattle.command_answers.specs.declared.status.Status.TheVariants.{Ok as Done, Usage}
use Rattle.command_answers.proofs.Answered.{by_answer}
use Rattle.season_commands.specs.Check.{bundle_answers, check_answers}
use Rattle.resume_command.specs.Resume.{EndsResume}
use Rattle.season_commands.specs.Run.{EndsRun, EndsSeason}
use Rattle.step_command.specs.Step.{step_answers}
use Rattle.season_commands.specs.Generated.{EndsGeneratedRun, EndsMade, IsGeneratedText}
use Rattle.units_command.specs.Units.{EndsUnits, units_answers}
use Rattle.special_command.specs.Special.{EndsSpecial}
use Rattle.special_command.specs.declared.lists.SpecialPapers.{SpecialPapers}
use Rattle.special_command.specs.declared.lists.SpecialPapers.TheVariants.{RoundAlone, WithLists}
use Rattle.same_input_laws.proofs.RunEnds.{IsRefused, bundle_of, counted_as_one, left_gives, made_cases, season_cases, want_only}
use Rattle.same_input_laws.proofs.Written.{not_refused, texts_are_one, whole}
use Rattle.same_input_laws.proofs.UnitEnds.{input_of, one_plain, plain_of}
use Rattle.same_input_laws.specs.Keep.{HoldTheSame}
use Rattle.same_input_laws.specs.ResumeOutputs.{IsVisible, ResumesAreOne}
use Rattle.same_input_laws.proofs.Keep.{left_alike, left_told, stand_alike}
use Rattle.same_input_laws.proofs.Resumed.{same_tables}
use Rattle.same_input_laws.specs.SpecialOutputs.{SpecialsAreOne}
use Rattle.same_input_laws.specs.Calls.{AreOne}
use Rattle.same_input_laws.specs.AuditOutputs.{EachAuditIsOne}
use Rattle.command_words.specs.Words.{Spell}
use Rattle.command_words.specs.declared.words.Command.{Command}
use Rattle.command_words.specs.declared.words.Command.TheVariants.{Step, Check, Run, Resume, Units, Special, SpecialLists, Serve, Audit, AuditBest, Generate}
use Rattle.command_words.specs.declared.words.OutKind.TheVariants as out_kind
use Rattle.office_commands.specs.Doors.{Doors}
use Rattle.office_commands.specs.Call.{Call}
use Rattle.office_commands.specs.Program.{Ends, EndsAudit, EndsAuditBest, EndsGenerated, EndsText, IsWritten, Serves, SpellServing}

-- what holds of single commands and their inputs
pub record Laws : Type 0 where
  pub steps : (bytes : List ℕ) → HaveOneAnswer step_answers bytes
  pub checks : (bytes : List ℕ) → HaveOneAnswer check_answers bytes
  pub bundles : (requests : Bool) (bytes : List ℕ) → HaveOneAnswer (bundle_answers requests) bytes
  pub units : (bytes : List ℕ) → HaveOneAnswer units_answers bytes
  pub spelling : (words : List (List ℕ)) (command other : Command) → Spell words command → Spell words other → command ≡ other
  pub seasons : GiveOneSeason
  pub outputs : OneOutput
  pub tally : OneTally
  pub resumes : ResumesAreOne
  pub specials : SpecialsAreOne
  pub audits : EachAuditIsOne

-- Two runs end with one status, write one output and leave tables that hold the same.
record IsOne (status end : Status) (output again : List ℕ) (after later : Tables) : Type 0 where
  one_status : status ≡ end
  one_output : output ≡ again
  kept : HoldTheSame after later

-- ---- a season

both_refused : (before after later : Tables) (status end : Status) (output again : List ℕ) → IsRefused before after status output → IsRefused before later end again
    → IsOne status end output again after later
both_refused before after later status end output again a b =
    record { one_status = a.is ∙ sym b.is; one_output = a.text ∙ sym b.text; kept = left_alike before after later a.left b.left }

found_apart : (tables : Tables) → IsTold tables → IsFound true tables → IsFound false tables → ⊥
found_apart Untold told some none = told
found_apart NoSeason told some none = cc some
found_apart (Records kept) told some none = cc none

-- the same tables hold a season or none
not_both : (before after later : Tables) → IsVisible before after → IsVisible before later → IsFound true (still before after) → IsFound false (still before later) → ⊥
not_both before after later told seen some none =
    found_apart (still before after) told some (subst (IsFound false) (same_tables before after later told seen) none)

module _ (laws : Laws) (before after later : Tables) (told : IsVisible before after) (seen : IsVisible before later) (status end : Status) (output again : List ℕ) (answered : IsAnswered status)
    (answered' : IsAnswered end) where
  abbrev One : Type 0
  One = IsOne status end output again after later

  seasons_are_one : (bytes : List ℕ) (season other : Season) (script more : List Request) → IsSeasonWith true bytes season script → IsSeasonWith true bytes other more
      → EndsSeason season script before after status output → EndsSeason other more before later end again → One
  seasons_are_one bytes season other script more give give' first second = elim (season_cases season script before after status output answered first) [
    | inl a ↦ elim (season_cases other more before later end again answered' second) [
      | inl b ↦ both_refused before after later status end output again a b
      | inr b ↦ absurd (not_both before after later told seen a.found b.found)
    ]
    | inr a ↦ elim (season_cases other more before later end again answered' second) [
      | inl b ↦ absurd (not_both before later after seen told b.found a.found)
      | inr b ↦
          let same = laws.outputs true bytes season other script more output again a.state b.state give give' a.ends.answers b.ends.answers in
          let said = (laws.seasons.bundles true bytes season other script more give give').0 in
          record {
            one_status = a.is ∙ sym b.is;
            one_output = same.0;
            kept = stand_alike (facts_of season) (facts_of other) a.state b.state after later said same.1 a.ends.stands b.ends.stands;
          }
    ]
  ]

  runs_are_one : (bytes : List ℕ) → EndsRun (Some bytes) before after status output → EndsRun (Some bytes) before later end again → One
  runs_are_one bytes (inl first) (inl second) =
      let same = texts_are_one (bundle_answers true) bytes (laws.bundles true bytes) status end output again answered answered' first.0 second.0 in
      record { one_status = same.0; one_output = same.1; kept = left_alike before after later (left_told before after first.1) (left_told before later second.1) }
  runs_are_one bytes (inl first) (inr second) =
      absurd (not_refused (bundle_answers true) bytes (laws.bundles true bytes) (λ text none. none) status output answered first.0 (bundle_of bytes second.0 second.1 second.2))
  runs_are_one bytes (inr first) (inl second) =
      absurd (not_refused (bundle_answers true) bytes (laws.bundles true bytes) (λ text none. none) end again answered' second.0 (bundle_of bytes first.0 first.1 first.2))
  runs_are_one bytes (inr first) (inr second) =
      seasons_are_one bytes first.0 second.0 first.1 second.1 (left_gives bytes first.0 first.1 first.2) (left_gives bytes second.0 second.1 second.2) first.3 second.3

  units_are_one : (bytes : List ℕ) → EndsUnits (Some bytes) before after status output → EndsUnits (Some bytes) before later end again → One
  units_are_one bytes (inl first) (inl second) =
      let same = texts_are_one units_answers bytes (laws.units bytes) status end output again answered answered' first.0 second.0 in
      record { one_status = same.0; one_output = same.1; kept = left_alike before after later (left_told before after first.1) (left_told before later second.1) }
  units_are_one bytes (inl first) (inr second) =
      absurd (not_refused units_answers bytes (laws.units bytes) (λ text none. none) status output answered first.0 (input_of bytes second.0 second.1 second.2))
  units_are_one bytes (inr first) (inl second) =
      absurd (not_refused units_answers bytes (laws.units bytes) (λ text none. none) end again answered' second.0 (input_of bytes first.0 first.1 first.2))
  units_are_one bytes (inr first) (inr second) =
      let (text, a) = plain_of bytes first.0 first.1 first.2 in
      let (other, b) = plain_of bytes second.0 second.1 second.2 in
      let same = one_plain bytes text other a.made b.made in
      seasons_are_one text first.0 second.0 first.1 second.1 a.give (subst (λ (t : List ℕ). IsSeasonWith true t second.0 second.1) same b.give) first.3 second.3

  -- ---- the others

  -- an output and statuses that are one, and tables that were left
  left_as : (status ≡ end) × (output ≡ again) → AreTold before after → AreTold before later → One
  left_as same left its = record { one_status = same.0; one_output = same.1; kept = left_alike before after later left its }

  single_texts : (answers : Answers) (bytes : List ℕ) → HaveOneAnswer answers bytes → EndsText answers (Some bytes) before after status output → EndsText answers (Some bytes) before later end again → One
  single_texts answers bytes one first second =
      left_as (texts_are_one answers bytes one status end output again answered answered' first.0 second.0) (left_told before after first.1) (left_told before later second.1)

  resumes_are_one : (bytes : List ℕ) → EndsResume (Some bytes) before after status output → EndsResume (Some bytes) before later end again → One
  resumes_are_one bytes first second =
      let same = laws.resumes bytes output again before after later status end answered answered' told seen first second in
      record { one_status = same.0; one_output = same.1; kept = same.2 }

  special_leaves : (papers : SpecialPapers) (bytes : List ℕ) (tables : Tables) (how : Status) (text : List ℕ) → EndsSpecial papers (Some bytes) before tables how text → AreTold before tables
  special_leaves papers bytes tables how text (inl first) = first.1
  special_leaves papers bytes tables how text (inr first) = first.4

  specials_are_one : (papers : SpecialPapers) (bytes : List ℕ) → EndsSpecial papers (Some bytes) before after status output → EndsSpecial papers (Some bytes) before later end again → One
  specials_are_one papers bytes first second =
      left_as (laws.specials papers bytes output again before after later status end answered answered' told seen first second) (special_leaves papers bytes after status output first)
      (special_leaves papers bytes later end again second)

  audits_are_one : (bytes : List ℕ) → EndsAudit (Some bytes) before after status output → EndsAudit (Some bytes) before later end again → One
  audits_are_one bytes first second =
      left_as (laws.audits.audits bytes output again status end answered answered' first.0 second.0) (left_told before after first.1) (left_told before later second.1)

  best_are_one : (bytes : List ℕ) → EndsAuditBest (Some bytes) before after status output → EndsAuditBest (Some bytes) before later end again → One
  best_are_one bytes first second =
      left_as (laws.audits.best bytes output again status end answered answered' first.0 second.0) (left_told before after first.1) (left_told before later second.1)

  -- ---- a generated season

  made : (n seed : ℕ) (how : Status) (text : List ℕ) → IsAnswered how → Writes (IsGeneratedText n seed) how text → (how ≡ Done) × (text ≡ generated n seed)
  made n seed how text is writes =
      by_answer (λ s. IsGeneratedText n seed s text → (s ≡ Done) × (text ≡ generated n seed)) (λ t. (refl, t)) (λ t. absurd t) (λ t. absurd t) (λ t. absurd t) (λ t. absurd t) how is
      (whole (IsGeneratedText n seed) how text is writes)

  generated_are_one : (n seed : ℕ) → EndsGenerated n seed before after status output → EndsGenerated n seed before later end again → One
  generated_are_one n seed first second =
      let a = made n seed status output answered first.0 in
      let b = made n seed end again answered' second.0 in
      left_as (a.0 ∙ sym b.0, a.1 ∙ sym b.1) (left_told before after first.1) (left_told before later second.1)

  made_as_one : (n seed : ℕ) (season other : Season) (script more : List Request) → IsSeasonWith true (generated n seed) season script → IsSeasonWith true (generated n seed) other more
      → EndsMade n seed season script before after status output → EndsMade n seed other more before later end again → One
  made_as_one n seed season other script more give give' first second = elim (made_cases n seed season script before after status output answered first) [
    | inl a ↦ elim (made_cases n seed other more before later end again answered' second) [
      | inl b ↦ both_refused before after later status end output again a b
      | inr b ↦ absurd (not_both before after later told seen a.found b.found)
    ]
    | inr a ↦ elim (made_cases n seed other more before later end again answered' second) [
      | inl b ↦ absurd (not_both before later after seen told b.found a.found)
      | inr b ↦
          let same = counted_as_one laws.tally n seed season other script more before after before later status end output again give give' a b in
          let said = (laws.seasons.bundles true (generated n seed) season other script more give give').0 in
          record {
            one_status = a.is ∙ sym b.is;
            one_output = same.0;
            kept = stand_alike (facts_of season) (facts_of other) a.state b.state after later said same.1 a.counts.2.stands b.counts.2.stands;
          }
    ]
  ]

  generated_runs : (n seed : ℕ) → EndsGeneratedRun n seed before after status output → EndsGeneratedRun n seed before later end again → One
  generated_runs n seed (inl a) b = absurd (want_only status output answered a.0)
  generated_runs n seed (inr a) (inl b) = absurd (want_only end again answered' b.0)
  generated_runs n seed (inr a) (inr b) = made_as_one n seed a.0 b.0 a.1 b.1 a.2 b.2 a.3 b.3

  -- ---- each command

  ends_as_one : (bytes : List ℕ) (doors others : Doors) (command : Command) → (Serves command → ⊥) → Ends command (Some bytes) before after doors status output
      → Ends command (Some bytes) before later others end again → One
  ends_as_one bytes doors others Step unserved first second = single_texts step_answers bytes (laws.steps bytes) first second
  ends_as_one bytes doors others Check unserved first second = single_texts check_answers bytes (laws.checks bytes) first second
  ends_as_one bytes doors others (Run store) unserved first second = runs_are_one bytes first second
  ends_as_one bytes doors others (Resume store) unserved first second = resumes_are_one bytes first second
  ends_as_one bytes doors others (Units store) unserved first second = units_are_one bytes first second
  ends_as_one bytes doors others (Special store) unserved first second = specials_are_one RoundAlone bytes first second
  ends_as_one bytes doors others (SpecialLists store) unserved first second = specials_are_one WithLists bytes first second
  ends_as_one bytes doors others (Serve conns workers start port store) unserved first second = absurd (unserved tt)
  ends_as_one bytes doors others Audit unserved first second = audits_are_one bytes first second
  ends_as_one bytes doors others AuditBest unserved first second = best_are_one bytes first second
  ends_as_one bytes doors others (Generate n seed out_kind.Text) unserved first second = generated_are_one n seed first second
  ends_as_one bytes doors others (Generate n seed out_kind.Run) unserved first second = generated_runs n seed first second

  -- ---- words

  usage_only : (how : Status) (text : List ℕ) → IsAnswered how → Writes IsUsageText how text → (how ≡ Usage) × (text ≡ usage_line)
  usage_only how text is writes =
      by_answer (λ s. IsUsageText s text → (s ≡ Usage) × (text ≡ usage_line)) (λ t. absurd t) (λ t. (refl, t)) (λ t. absurd t) (λ t. absurd t) (λ t. absurd t) how is
      (whole IsUsageText how text is writes)

  -- What is written by the words is one.
  written_is_one : (bytes : List ℕ) (words : List (List ℕ)) (doors others : Doors) → (SpellServing words → ⊥) → IsWritten words (Some bytes) before after doors status output
      → IsWritten words (Some bytes) before later others end again → One
  written_is_one bytes words doors others unserved (inl unread) second = absurd (want_only status output answered unread.0)
  written_is_one bytes words doors others unserved (inr first) (inl unread) = absurd (want_only end again answered' unread.0)
  written_is_one bytes words doors others unserved (inr (inl nothing)) (inr (inl none)) =
      let a = usage_only status output answered nothing.1.0 in
      let b = usage_only end again answered' none.1.0 in
      left_as (a.0 ∙ sym b.0, a.1 ∙ sym b.1) (left_told before after nothing.1.1) (left_told before later none.1.1)
  written_is_one bytes words doors others unserved (inr (inl nothing)) (inr (inr spelt)) = absurd (nothing.0 spelt.0 spelt.1)
  written_is_one bytes words doors others unserved (inr (inr spelt)) (inr (inl nothing)) = absurd (nothing.0 spelt.0 spelt.1)
  written_is_one bytes words doors others unserved (inr (inr first)) (inr (inr second)) =
      let same = laws.spelling words first.0 second.0 first.1 second.1 in
      ends_as_one bytes doors others first.0 (λ serves. unserved (first.0, first.1, serves)) first.2
      (subst (λ (c : Command). Ends c (Some bytes) before later others end again) (sym same) second.2)

-- Two calls with the same words that find the same end in one way.
pub calls_are_one : Laws → (words : List (List ℕ)) (call other : Call) (status end : Status) → AreOne words call other status end
calls_are_one laws words call other status end answered answered' unserved same first second =
    let a = first.written in
    let b = second.written in
    let mine = subst (λ o. IsWritten words o call.tables call.now_tables call.doors status a.0) same.left a.2 in
    let its = subst (λ o. IsWritten words o other.tables other.now_tables other.doors end b.0) same.other_left b.2 in
    let over = subst (λ (t : Tables). IsWritten words (Some same.bytes) t other.now_tables other.doors end b.0) same.tables its in
    let seen = subst (λ (t : Tables). IsVisible t other.now_tables) same.tables same.other_visible in
    let one = written_is_one laws call.tables call.now_tables other.now_tables same.visible seen status end a.0 b.0 answered answered' same.bytes words call.doors other.doors unserved mine over in
    record {
      one_status = one.one_status;
      one_output = (a.0, a.1, subst (λ (o : List ℕ). Appends o other.written other.now_written) (sym one.one_output) b.1);
      kept = one.kept;
    }
