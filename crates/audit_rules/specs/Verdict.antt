-- The verdict on a season's papers.
use Rattle.std.specs.Prelude.{◌≡◌, ◌<◌, ◌+◌, ℕ, List, Option, Some, length, slice_get}
use Rattle.office_asks.specs.declared.ask.Request.{Request}
use Rattle.office_base.specs.declared.person.CandId.{CandId}
use Rattle.office_base.specs.declared.person.ProgId.{ProgId}
use Rattle.list_audit.specs.declared.clause.Clause.{Clause}
use Rattle.office_moves.specs.Decided.{decided}
use Rattle.office_moves.specs.Facts.{SeasonFacts}
use Rattle.audit_rules.specs.Cut.{BreaksAt, HoldsAt}
use Rattle.audit_rules.specs.Papers.{Papers}
use Rattle.audit_rules.specs.Replay.{before}
use Rattle.audit_rules.specs.declared.verdict.Verdict.{Verdict}
use Rattle.audit_rules.specs.declared.verdict.Verdict.TheVariants.{Sound, Broken}

-- no clause is broken at this request of the script
abbrev pub HoldsThere : SeasonFacts → List Request → Papers → ℕ → Request → Type 0
HoldsThere facts script papers j request = HoldsAt facts papers (before facts script papers j) (decided facts (before facts script papers j) request)

-- A request of the script is a cut that breaks this clause first; no request before breaks any.
pub record IsFirstBroken (facts : SeasonFacts) (script : List Request) (papers : Papers) (round : ℕ) (clause : Clause) (prog : Option ProgId) (cand : Option CandId) : Type 0 where
  pub at : ℕ
  pub request : Request
  pub there : slice_get script at ≡ Some request
  pub earlier : (j : ℕ) (other : Request) → j < at → slice_get script j ≡ Some other → HoldsThere facts script papers j other
  pub number : round ≡ (before facts script papers at).now + 1
  pub here : BreaksAt facts papers (before facts script papers at) (decided facts (before facts script papers at) request) clause prog cand

-- No clause is broken at any request of the script, and so many rounds have their texts; or the first clause that is broken.
abbrev pub IsVerdict : SeasonFacts → List Request → Papers → Verdict → Type 0
IsVerdict facts script papers (Sound rounds) = (rounds ≡ length papers.rounds)
    × ((j : ℕ) (request : Request) → slice_get script j ≡ Some request → HoldsThere facts script papers j request)
IsVerdict facts script papers (Broken round clause prog cand) = IsFirstBroken facts script papers round clause prog cand
