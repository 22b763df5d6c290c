-- `units` writes the same for the same bytes: they result in one plain bundle, and its run writes the same.
use Rattle.std.proofs.Common.{◌≡◌, inl, inr, ℕ, true, List, Some, Ok, refl, sym, ap, ◌∙◌, subst}
use Rattle.office_asks.specs.declared.ask.Request.{Request}
use Rattle.season_file.specs.Season.{IsSeasonWith, content_of}
use Rattle.season_file.specs.declared.season.Season.{Season}
use Rattle.quota_units.specs.Input.{expansion}
use Rattle.command_answers.specs.Answers.{HaveOneAnswer}
use Rattle.units_command.specs.Units.{IsLeftExpansion, IsUnitsInput, units_answers}
use Rattle.same_input_laws.specs.RunOutputs.{RunsAreOne}
use Rattle.same_input_laws.proofs.Written.{not_refused, texts_are_one}
use Rattle.same_input_laws.specs.UnitOutputs.{UnitsAreOne}

-- ---- the plain bundle

-- The bytes result in this plain bundle, which gives the season and the requests.
pub record IsPlain (bytes text : List ℕ) (season : Season) (script : List Request) : Type 0 where
  pub made : expansion bytes ≡ Ok text
  pub give : IsSeasonWith true text season script

pub plain_of : (bytes : List ℕ) (season : Season) (script : List Request) → IsLeftExpansion (Some bytes) season script → (text : List ℕ) × IsPlain bytes text season script
plain_of bytes season script left = (left.1, record { made = ap (λ (b : List ℕ). expansion b) (sym left.2) ∙ left.3.0.made; give = left.3.1 })

pub one_plain : (bytes text other : List ℕ) → expansion bytes ≡ Ok text → expansion bytes ≡ Ok other → other ≡ text
one_plain bytes text other first second = cc (first, second)

pub input_of : (bytes : List ℕ) (season : Season) (script : List Request) → IsLeftExpansion (Some bytes) season script → IsUnitsInput bytes
input_of bytes season script left =
    let (text, plain) = plain_of bytes season script left in
    (text, plain.made, (content_of season plain.give.row, script, plain.give.given))

-- ---- the command

pub units_are_one : ((bytes : List ℕ) → HaveOneAnswer units_answers bytes) → RunsAreOne → UnitsAreOne
units_are_one one runs bytes output again before after others later status answered (inl first) (inl second) =
    (texts_are_one units_answers bytes (one bytes) status status output again answered answered first.0 second.0).1
units_are_one one runs bytes output again before after others later status answered (inl first) (inr second) =
    absurd (not_refused units_answers bytes (one bytes) (λ text none. none) status output answered first.0 (input_of bytes second.0 second.1 second.2))
units_are_one one runs bytes output again before after others later status answered (inr first) (inl second) =
    absurd (not_refused units_answers bytes (one bytes) (λ text none. none) status again answered second.0 (input_of bytes first.0 first.1 first.2))
units_are_one one runs bytes output again before after others later status answered (inr first) (inr second) =
    let (text, a) = plain_of bytes first.0 first.1 first.2 in
    let (other, b) = plain_of bytes second.0 second.1 second.2 in
    let same = one_plain bytes text other a.made b.made in
    runs text output again before after others later status answered (inr (first.0, first.1, (text, refl, a.give), first.3))
    (inr (second.0, second.1, (text, refl, subst (λ (t : List ℕ). IsSeasonWith true t second.0 second.1) same b.give), second.3))
