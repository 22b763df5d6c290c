-- Down a script from its start, and how the texts of a dossier relate to it.
use Rattle.std.proofs.Common.{◌≡◌, ◌<◌, ◌≤◌, ◌+◌, inl, inr, ℕ, List, Option, Some, None, length, arith, subst}
use Rattle.std.specs.Prelude.{slice_get}
use Rattle.std.proofs.lemmas.Option.{slice_get_cases}
use Rattle.office_asks.specs.declared.ask.Request.{Request}
use Rattle.office_moves.specs.Decided.{decided}
use Rattle.office_moves.specs.Facts.{SeasonFacts}
use Rattle.audit_rules.specs.Papers.{Papers}
use Rattle.audit_rules.specs.Replay.{before}
use Rattle.audit_rules.specs.Verdict.{IsFirstBroken}
use Rattle.audit_rules.specs.declared.fault.Fault.{Fault}
use Rattle.season_audit.specs.Audit.{ComesTo}
use Rattle.season_audit.specs.declared.auditor.Auditor.{Auditor}
use Rattle.season_audit.proofs.Taking.{Stood, stood_broken, stood_next}

-- what is known of the request at a place, whichever request it is
abbrev pub IsTaken : SeasonFacts → List Request → Papers → ℕ → Auditor → Option Fault → Type 0
IsTaken facts script papers j new fault =
    (request : Request) → slice_get script j ≡ Some request → ComesTo facts papers (before facts script papers j) (decided facts (before facts script papers j) request) new fault

-- the open window has a number far below the bound of its type
pub few_windows : (facts : SeasonFacts) (script : List Request) (papers : Papers) (j : ℕ) (auditor : Auditor) → Stood facts script papers j auditor → auditor.window ≤ 11
few_windows facts script papers j auditor stood =
    let window = stood.upto.window in
    let few = stood.upto.few in
    let ten = stood.upto.sound.rounds.1 in
    omega (arith, window, few, ten)

-- the request at a place
request_at : (script : List Request) (j : ℕ) → j < length script → (request : Request) × (slice_get script j ≡ Some request)
request_at script j within = elim ((slice_get_cases script j).1) [ inl there ↦ (there.0, there.2) | inr past ↦ let end = past.0 in absurd (omega (arith, within, end)) ]

-- a request that breaks no clause
pub stood_more : (facts : SeasonFacts) (script : List Request) (papers : Papers) (j : ℕ) (old new : Auditor) (fault : Option Fault) → j < length script → Stood facts script papers j old
    → fault ≡ None → IsTaken facts script papers j new fault → Stood facts script papers (j + 1) new
stood_more facts script papers j old new fault within stood none taken =
    let here = request_at script j within in
    stood_next facts script papers j old new here.0 stood here.1
    (subst (λ (f : Option Fault). ComesTo facts papers (before facts script papers j) (decided facts (before facts script papers j) here.0) new f) none (taken here.0 here.1))

-- and one that breaks a clause
pub stood_breaks : (facts : SeasonFacts) (script : List Request) (papers : Papers) (j number : ℕ) (old new : Auditor) (fault : Option Fault) (found : Fault) → j < length script
    → Stood facts script papers j old → number ≡ old.window + 1 → fault ≡ Some found → IsTaken facts script papers j new fault
    → IsFirstBroken facts script papers number found.clause found.prog found.cand
stood_breaks facts script papers j number old new fault found within stood next some taken =
    let here = request_at script j within in
    stood_broken facts script papers j number old here.0 found stood here.1 next
    (subst (λ (f : Option Fault). ComesTo facts papers (before facts script papers j) (decided facts (before facts script papers j) here.0) new f) some (taken here.0 here.1))
