-- What holds of second verdicts, over the definitions alone.
use Rattle.std.specs.Prelude.{◌≡◌, ◌↔◌, List}
use Rattle.office_asks.specs.declared.ask.Request.{Request}
use Rattle.office_moves.specs.Facts.{SeasonFacts}
use Rattle.audit_rules.specs.Papers.{Papers}
use Rattle.best_audit.specs.Best.{AreBestRounds, IsBestVerdict}
use Rattle.best_audit.specs.declared.verdict.BestVerdict.{BestVerdict}
use Rattle.best_audit.specs.declared.verdict.BestVerdict.TheVariants.{Best}

-- the second verdict on the papers of a season is one
abbrev pub OneBestVerdict : Type 0
OneBestVerdict = (facts : SeasonFacts) (script : List Request) (papers : Papers) (one other : BestVerdict) → IsBestVerdict facts script papers one
    → IsBestVerdict facts script papers other → one ≡ other

-- a second verdict is `Best` if and only if every published round is the best one
abbrev pub BestIfAndOnlyIf : Type 0
BestIfAndOnlyIf = (facts : SeasonFacts) (script : List Request) (papers : Papers) (verdict : BestVerdict) → IsBestVerdict facts script papers verdict
    → (verdict ≡ Best) ↔ AreBestRounds facts script papers
