-- What holds of verdicts, over the definitions alone.
use Rattle.std.specs.Prelude.{◌≡◌, ℕ, List}
use Rattle.office_asks.specs.declared.ask.Request.{Request}
use Rattle.office_moves.specs.Facts.{IsSound, SeasonFacts}
use Rattle.audit_rules.specs.Fair.{AreFairRounds, AreTaken, AreWhole}
use Rattle.audit_rules.specs.Papers.{Papers}
use Rattle.audit_rules.specs.Verdict.{IsVerdict}
use Rattle.audit_rules.specs.declared.verdict.Verdict.{Verdict}
use Rattle.audit_rules.specs.declared.verdict.Verdict.TheVariants.{Sound}

-- the verdict on the papers of a season is one
abbrev pub OneVerdict : Type 0
OneVerdict = (facts : SeasonFacts) (script : List Request) (papers : Papers) (one other : Verdict) → IsVerdict facts script papers one → IsVerdict facts script papers other → one ≡ other

-- where there is a text of each round that the script's cuts publish, no text is left over
abbrev pub EveryTextIsTaken : Type 0
EveryTextIsTaken = (facts : SeasonFacts) (script : List Request) (papers : Papers) → AreWhole facts script papers → AreTaken facts script papers

-- where no clause is broken, every text has a fair round, nobody has a justified claim, and nobody falls
abbrev pub SoundIsFair : Type 0
SoundIsFair = (facts : SeasonFacts) (script : List Request) (papers : Papers) (rounds : ℕ) → IsSound facts → AreWhole facts script papers
    → IsVerdict facts script papers (Sound rounds) → AreFairRounds facts script papers
