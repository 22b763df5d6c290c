-- The faults of the sections, as the season's.
use Rattle.std.proofs.Common.{◌≡◌, ◌⊎◌, inl, inr, ℕ, Bool, false, List, Option, Some, None, Result, Ok, Err, refl, sym, subst}
use Rattle.std.specs.Prelude.{is_some}
use Rattle.office_text.specs.Lines.{skip_mark}
use Rattle.section_rows.specs.Steps.{needs}
use Rattle.request_rows.specs.Requests.{IsScriptFault as AreRowsWithout}
use Rattle.request_rows.specs.declared.script.ScriptFault.{ScriptFault}
use Rattle.request_rows.specs.declared.script.ScriptFault.TheVariants.{BadRequest as NoRequest, OutOfMemory as NoScriptMemory}
use Rattle.season_file.specs.declared.content.Content.{Content}
use Rattle.season_file.specs.Bundle.{Parts, after_line, bundle_of, fault_line, sections, skip_empty, title, version_of, with_line}
use Rattle.season_file.specs.Season.{IsClerkApart, IsSeasonFault, IsText, SectionsGive, request_rows_of, script_error}
use Rattle.season_file.specs.declared.fault.SeasonFault.{SeasonFault}
use Rattle.season_file.specs.declared.fault.SeasonFault.TheVariants.{BadFirstLine, Section}

-- What is not there is none.
pub not_some : {X : Type 0} (o : Option X) (b : Bool) → b ≡ is_some o → b ≡ false → o ≡ None
not_some None b e f = refl
not_some (Some x) b e f = absurd cc

-- The cutting has two faults.
line_told : (text : List ℕ) (r : Result Parts (List ℕ)) (fault : SeasonFault) → with_line text r ≡ Err fault → (line : ℕ) × (fault ≡ Section line)
line_told text (Ok parts) fault e = absurd cc
line_told text (Err rest) fault e = (fault_line text rest, cc)

two_faults : (o : Option ℕ) (text : List ℕ) (r : ℕ → Result Parts (List ℕ)) (fault : SeasonFault) → needs o BadFirstLine (λ version. with_line text (r version)) ≡ Err fault
    → (fault ≡ BadFirstLine) ⊎ ((line : ℕ) × (fault ≡ Section line))
two_faults None text r fault e = inl cc
two_faults (Some version) text r fault e = inr (line_told text (r version) fault e)

-- A fault of the cutting is that of the first line, or of a section line.
pub splitting_fault : (requests : Bool) (bytes : List ℕ) (fault : SeasonFault) → bundle_of requests bytes ≡ Err fault → (fault ≡ BadFirstLine) ⊎ ((line : ℕ) × (fault ≡ Section line))
splitting_fault requests bytes fault e =
    let mid : List ℕ = skip_mark bytes in
    two_faults (version_of (title mid)) mid (λ version. sections requests version (skip_empty (after_line mid))) fault e

-- A fault of the cutting is the bundle's.
pub cut-told : (requests : Bool) (bytes : List ℕ) (fault : SeasonFault) → IsText bytes → bundle_of requests bytes ≡ Err fault → IsSeasonFault requests bytes fault
cut-told requests bytes fault text e = elim (splitting_fault requests bytes fault e) [
  | inl same ↦ subst (IsSeasonFault requests bytes) (sym same) (text, subst (λ (f : SeasonFault). bundle_of requests bytes ≡ Err f) same e)
  | inr found ↦ subst (IsSeasonFault requests bytes) (sym found.1) (text, subst (λ (f : SeasonFault). bundle_of requests bytes ≡ Err f) found.1 e)
]

-- A row that is no request is the bundle's fault, after sections without faults.
pub script-told : (requests : Bool) (bytes : List ℕ) (parts : Parts) (content : Content) (fault : ScriptFault) → IsText bytes → bundle_of requests bytes ≡ Ok parts → SectionsGive parts content → IsClerkApart content
    → AreRowsWithout (request_rows_of parts) fault → IsSeasonFault requests bytes (script_error fault)
script-told requests bytes parts content (NoRequest row) text cut give clerk first = (text, (parts, cut, (content, give, clerk, first)))
script-told requests bytes parts content NoScriptMemory text cut give clerk first = tt
