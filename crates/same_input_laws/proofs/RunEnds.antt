-- A command writes the same for the same input.
use Rattle.std.proofs.Common.{◌≡◌, ◌⊎◌, inl, inr, ℕ, true, false, List, Some, refl, sym, ap, ◌∙◌, subst}
use Rattle.office_asks.specs.declared.ask.Request.{Request}
use Rattle.kept_rows.specs.Tables.{AreTold, IsFound, Tables, still}
use Rattle.season_file.specs.Season.{IsSeasonWith, content_of}
use Rattle.season_file.specs.declared.season.Season.{Season}
use Rattle.season_generator.specs.Bundle.{generated}
use Rattle.season_generator.specs.Summary.{summary_text}
use Rattle.season_facts.specs.Season.{facts_of}
use Rattle.season_commands.specs.Office.{EndsOffice}
use Rattle.season_commands.specs.Runs.{AfterSome}
use Rattle.season_commands.specs.Tally.{CountsAll, tally_of}
use Rattle.season_commands.specs.declared.tally.Tally.{Tally}
use Rattle.office_moves.specs.State.{State, opening}
use Rattle.command_answers.specs.Answers.{HaveOneAnswer}
use Rattle.command_answers.specs.Status.{IsAnswered}
use Rattle.command_answers.specs.Writes.{IsWantText, Writes}
use Rattle.command_answers.specs.declared.status.Status.{Status}
use Rattle.command_answers.specs.declared.status.Status.TheVariants.{Ok as Done, BadInput}
use Rattle.command_answers.proofs.Answered.{by_answer}
use Rattle.season_commands.specs.Check.{IsBundle, IsLeftBundle, bundle_answers, check_answers}
use Rattle.season_commands.specs.Generated.{EndsMade, IsCountedText, summary_of}
use Rattle.season_commands.specs.Run.{EndsSeason, IsUnbegunText, not_empty_line}
use Rattle.one_output.specs.Laws.{OneOutput, OneTally}
use Rattle.same_input_laws.specs.RunOutputs.{ChecksAreOne, GeneratedRunsAreOne, RunsAreOne}
use Rattle.same_input_laws.proofs.Written.{not_refused, texts_are_one, whole}

pub checks_are_one : ((bytes : List ℕ) → HaveOneAnswer check_answers bytes) → ChecksAreOne
checks_are_one one bytes output again status answered first second = (texts_are_one check_answers bytes (one bytes) status status output again answered answered first second).1

-- ---- a season

-- a keeper that holds a season was refused, by the tables
pub record IsRefused (before after : Tables) (status : Status) (output : List ℕ) : Type 0 where
  pub is : status ≡ BadInput
  pub text : output ≡ not_empty_line
  pub found : IsFound true (still before after)
  pub left : AreTold before after

pub unbegun : (before after : Tables) (status : Status) (output : List ℕ) → IsAnswered status → Writes (IsUnbegunText (still before after)) status output → AreTold before after
    → IsRefused before after status output
unbegun before after status output answered writes told =
    by_answer (λ s. IsUnbegunText (still before after) s output → IsRefused before after s output) (λ text. absurd text) (λ text. absurd text)
    (λ text. record { is = refl; text = text.1; found = text.0; left = told }) (λ text. absurd text) (λ text. absurd text) status answered
    (whole (IsUnbegunText (still before after)) status output answered writes)

-- all requests were answered
pub record IsRun (season : Season) (script : List Request) (before after : Tables) (status : Status) (output : List ℕ) : Type 0 where
  pub is : status ≡ Done
  pub found : IsFound false (still before after)
  pub state : State
  pub ends : AfterSome (facts_of season) opening script output state after

pub season_cases : (season : Season) (script : List Request) (before after : Tables) (status : Status) (output : List ℕ) → IsAnswered status → EndsSeason season script before after status output
    → IsRefused before after status output ⊎ IsRun season script before after status output
season_cases season script before after status output answered (inl first) = inl (unbegun before after status output answered first.0 first.1)
season_cases season script before after status output answered (inr first) =
    by_answer (λ s. EndsOffice (facts_of season) opening script after s output → IsRefused before after s output ⊎ IsRun season script before after s output)
    (λ ends. inr (record { is = refl; found = first.0; state = ends.0; ends = ends.1 })) (λ ends. absurd ends) (λ ends. absurd ends) (λ ends. absurd ends) (λ ends. absurd ends) status answered first.1

seasons_are_one : OneOutput → (bytes : List ℕ) (season other : Season) (script more : List Request) (before after others later : Tables) (status : Status) (output again : List ℕ)
    → IsAnswered status → IsSeasonWith true bytes season script → IsSeasonWith true bytes other more → EndsSeason season script before after status output
    → EndsSeason other more others later status again → output ≡ again
seasons_are_one one bytes season other script more before after others later status output again answered give give' first second =
    elim (season_cases season script before after status output answered first) [
      | inl a ↦ elim (season_cases other more others later status again answered second) [
        | inl b ↦ a.text ∙ sym b.text
        | inr b ↦ absurd (let e = sym a.is ∙ b.is in cc e)
      ]
      | inr a ↦ elim (season_cases other more others later status again answered second) [
        | inl b ↦ absurd (let e = sym a.is ∙ b.is in cc e)
        | inr b ↦ (one true bytes season other script more output again a.state b.state give give' a.ends.answers b.ends.answers).0
      ]
    ]

-- ---- the commands

-- the season that bytes left give, the bytes give
pub left_gives : (bytes : List ℕ) (season : Season) (script : List Request) → IsLeftBundle true (Some bytes) season script → IsSeasonWith true bytes season script
left_gives bytes season script left = subst (λ (b : List ℕ). IsSeasonWith true b season script) left.1 left.2

pub bundle_of : (bytes : List ℕ) (season : Season) (script : List Request) → IsLeftBundle true (Some bytes) season script → IsBundle true bytes
bundle_of bytes season script left = let give = left_gives bytes season script left in (content_of season give.row, script, give.given)

pub runs_are_one : ((bytes : List ℕ) → HaveOneAnswer (bundle_answers true) bytes) → OneOutput → RunsAreOne
runs_are_one one outputs bytes output again before after others later status answered (inl first) (inl second) =
    (texts_are_one (bundle_answers true) bytes (one bytes) status status output again answered answered first.0 second.0).1
runs_are_one one outputs bytes output again before after others later status answered (inl first) (inr second) =
    absurd (not_refused (bundle_answers true) bytes (one bytes) (λ text none. none) status output answered first.0 (bundle_of bytes second.0 second.1 second.2))
runs_are_one one outputs bytes output again before after others later status answered (inr first) (inl second) =
    absurd (not_refused (bundle_answers true) bytes (one bytes) (λ text none. none) status again answered second.0 (bundle_of bytes first.0 first.1 first.2))
runs_are_one one outputs bytes output again before after others later status answered (inr first) (inr second) =
    seasons_are_one outputs bytes first.0 second.0 first.1 second.1 before after others later status output again answered (left_gives bytes first.0 first.1 first.2)
    (left_gives bytes second.0 second.1 second.2) first.3 second.3

-- ---- a generated season

-- all requests of a generated season were answered, and counted
pub record IsCounted (n seed : ℕ) (season : Season) (script : List Request) (before after : Tables) (status : Status) (output : List ℕ) : Type 0 where
  pub is : status ≡ Done
  pub found : IsFound false (still before after)
  pub state : State
  pub tally : Tally
  pub counts : CountsAll (facts_of season) opening script state after tally
  pub text : output ≡ summary_text (summary_of n seed tally state)

pub made_cases : (n seed : ℕ) (season : Season) (script : List Request) (before after : Tables) (status : Status) (output : List ℕ) → IsAnswered status
    → EndsMade n seed season script before after status output → IsRefused before after status output ⊎ IsCounted n seed season script before after status output
made_cases n seed season script before after status output answered (inl first) = inl (unbegun before after status output answered first.0 first.1)
made_cases n seed season script before after status output answered (inr first) =
    by_answer (λ s. IsCountedText n seed (facts_of season) script after s output → IsRefused before after s output ⊎ IsCounted n seed season script before after s output)
    (λ t. inr (record { is = refl; found = first.0; state = t.0; tally = t.1; counts = t.2; text = t.3 })) (λ t. absurd t) (λ t. absurd t) (λ t. absurd t) (λ t. absurd t) status answered
    (whole (IsCountedText n seed (facts_of season) script after) status output answered first.1)

-- they lead to one state, and to one text
pub counted_as_one : OneTally → (n seed : ℕ) (season other : Season) (script more : List Request) (before after others later : Tables) (status end : Status) (output again : List ℕ)
    → IsSeasonWith true (generated n seed) season script → IsSeasonWith true (generated n seed) other more → (a : IsCounted n seed season script before after status output)
    → (b : IsCounted n seed other more others later end again) → (output ≡ again) × (a.state ≡ b.state)
counted_as_one one n seed season other script more before after others later status end output again give give' a b =
    let same = one true (generated n seed) season other script more a.counts.0 b.counts.0 a.state b.state give give' a.counts.2.moves b.counts.2.moves a.counts.1 b.counts.1 in
    let tally : a.tally ≡ b.tally = a.counts.3 ∙ (ap tally_of same.0 ∙ sym b.counts.3) in
    (a.text ∙ (ap (λ t. summary_text (summary_of n seed t a.state)) tally ∙ (ap (λ st. summary_text (summary_of n seed b.tally st)) same.1 ∙ sym b.text)), same.1)

made_are_one : OneTally → (n seed : ℕ) (season other : Season) (script more : List Request) (before after others later : Tables) (status : Status) (output again : List ℕ) → IsAnswered status
    → IsSeasonWith true (generated n seed) season script → IsSeasonWith true (generated n seed) other more → EndsMade n seed season script before after status output
    → EndsMade n seed other more others later status again → output ≡ again
made_are_one one n seed season other script more before after others later status output again answered give give' first second =
    elim (made_cases n seed season script before after status output answered first) [
      | inl a ↦ elim (made_cases n seed other more others later status again answered second) [
        | inl b ↦ a.text ∙ sym b.text
        | inr b ↦ absurd (let e = sym a.is ∙ b.is in cc e)
      ]
      | inr a ↦ elim (made_cases n seed other more others later status again answered second) [
        | inl b ↦ absurd (let e = sym a.is ∙ b.is in cc e)
        | inr b ↦ (counted_as_one one n seed season other script more before after others later status status output again give give' a b).0
      ]
    ]

pub want_only : (status : Status) (output : List ℕ) → IsAnswered status → Writes IsWantText status output → ⊥
want_only status output answered writes =
    by_answer (λ s. IsWantText s output → ⊥) (λ text. text) (λ text. text) (λ text. text) (λ text. text) (λ text. text) status answered (whole IsWantText status output answered writes)

pub generated_runs_are_one : OneTally → GeneratedRunsAreOne
generated_runs_are_one one n seed output again before after others later status answered (inl first) second = absurd (want_only status output answered first.0)
generated_runs_are_one one n seed output again before after others later status answered (inr first) (inl second) = absurd (want_only status again answered second.0)
generated_runs_are_one one n seed output again before after others later status answered (inr first) (inr second) =
    made_are_one one n seed first.0 second.0 first.1 second.1 before after others later status output again answered first.2 second.2 first.3 second.3
