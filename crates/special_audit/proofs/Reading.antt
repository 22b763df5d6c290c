-- What is read behind a dossier is a special round, or has a fault.
use Rattle.std.proofs.Common.{◌≡◌, ◌<◌, ◌≤◌, ◌+◌, ◌⊎◌, inl, inr, ℕ, List, [], Option, Some, None, Result, Ok, Err, length, drop, arith, refl, sym, ap, ◌∙◌, subst}
use Rattle.std.specs.Prelude.{IfOk, IfErr, option_map}
use Rattle.std.proofs.lemmas.List.{length-drop}
use Rattle.office_asks.specs.declared.ask.Request.{Request}
use Rattle.office_base.specs.declared.person.CandId.{CandId}
use Rattle.office_base.specs.declared.person.ProgId.{ProgId}
use Rattle.list_audit.specs.declared.clause.Clause.{Clause}
use Rattle.kept_rows.specs.declared.rows.AllotRow.{AllotRow}
use Rattle.publish.specs.declared.reads.FinalRead.{FinalRead}
use Rattle.seat_matrix.specs.Matrix.{SeatTable}
use Rattle.season_file.specs.Bundle.{line_len}
use Rattle.season_file.specs.declared.season.Season.{Season}
use Rattle.season_facts.specs.Season.{facts_of}
use Rattle.office_moves.specs.Facts.{SeasonFacts}
use Rattle.office_moves.specs.Raised.{matrix_at}
use Rattle.office_moves.specs.State.{State}
use Rattle.text_readers.specs.Reading.{IsFaultLine, IsTextFault}
use Rattle.text_readers.specs.declared.fault.TextFault.{TextFault}
use Rattle.text_readers.specs.declared.fault.TextFault.TheVariants.{Line as TextLine, OutOfMemory as NoTextMemory}
use Rattle.audit_rules.specs.declared.verdict.Verdict.{Verdict}
use Rattle.audit_rules.specs.declared.verdict.Verdict.TheVariants.{Sound, Broken}
use Rattle.season_audit.specs.Audit.{papers_in}
use Rattle.dossier_file.specs.Dossier.{HasDossierFault, IsBytesFault, IsDossier}
use Rattle.dossier_file.specs.Papers.{AreDuePapers}
use Rattle.dossier_file.specs.Special.{IsSpecialCut}
use Rattle.dossier_file.specs.declared.dossier.Dossier.{Dossier}
use Rattle.dossier_file.specs.declared.fault.DossierFault.{DossierFault}
use Rattle.dossier_file.specs.declared.fault.DossierFault.TheVariants.{ReadFault, TooLong, NoSection, Season as BadSeason, Published, OutOfMemory as NoDossierMemory}
use Rattle.dossier_file.proofs.SplitLemmas.{published_short}
use Rattle.special_round.specs.Remaining.{AreFinals}
use Rattle.special_round.specs.Season.{AreRefused, IsLeftSeason, IsRemainingSeason, IsSpecialFault}
use Rattle.special_round.specs.declared.fault.SpecialFault.{SpecialFault}
use Rattle.special_round.specs.declared.fault.SpecialFault.TheVariants.{Admitted, Lists as BadLists, NotFinal, OutOfMemory as NoListMemory}
use Rattle.special_audit.specs.Found.{HasVerdict, IsFollowed, IsFound, IsFoundFault}
use Rattle.special_audit.specs.Special.{HasSpecialFault, Leaves, one_cut, texts_error}
use Rattle.special_audit.specs.declared.found.Found.{Found}
use Rattle.special_audit.specs.declared.found.Found.TheVariants.{OfSeason}
use Rattle.special_audit.specs.declared.found.FoundFault.{FoundFault}
use Rattle.special_audit.specs.declared.found.FoundFault.TheVariants.{Dossier as BadDossier, Special as BadSpecial}
use Rattle.special_audit.specs.declared.special.SpecialError.{SpecialError}
use Rattle.special_audit.specs.declared.special.SpecialError.TheVariants.{Lists, Line, OutOfMemory}
use Rattle.special_audit.proofs.Over.{IsWell, known_in}

-- ---- the final rows of a season that is over

-- the rows of the text
read_rows : (last : Option FinalRead) (read : FinalRead) (rows : List AllotRow) → last ≡ Some read → option_map (λ (r : FinalRead). r.rows) last ≡ Some rows → rows ≡ read.rows
read_rows last read rows is told = let both : Some rows ≡ Some read.rows = sym told ∙ ap (option_map (λ (r : FinalRead). r.rows)) is in cc

-- there is a text of them
pub some_text : (dossier : Dossier) (state : State) → IsWell (facts_of dossier.season) (papers_in dossier) state → dossier.season.rounds < state.now → dossier.last ≡ None → ⊥
some_text dossier state well late none =
    let over = well.over late in let both : None ≡ Some over.0 = sym (ap (option_map (λ (r : FinalRead). r.rows)) none) ∙ over.1 in cc

-- they are those of the state
pub rows_final : (dossier : Dossier) (state : State) (read : FinalRead) → IsWell (facts_of dossier.season) (papers_in dossier) state → dossier.season.rounds < state.now → dossier.last ≡ Some read
    → state.finals ≡ Some read.rows
rows_final dossier state read well late is = let over = well.over late in over.2 ∙ ap Some (read_rows dossier.last read over.0 is over.1)

-- and leave seats of each matrix of these programmes
pub rows_known : (dossier : Dossier) (state : State) (read : FinalRead) (table : SeatTable) → IsWell (facts_of dossier.season) (papers_in dossier) state → dossier.season.rounds < state.now → dossier.last ≡ Some read
    → table.programmes ≡ dossier.season.matrix.programmes → AreFinals dossier.season.register.people table read.rows
rows_known dossier state read table well late is same =
    let over = well.over late in
    subst (λ r. AreFinals dossier.season.register.people table r) (read_rows dossier.last read over.0 is over.1) (known_in dossier.season.register.people dossier.season.matrix table over.0 same over.3)

-- what they leave is what the state leaves, or the lists have a fault there
pub left_there : (facts : SeasonFacts) (state : State) (table : SeatTable) (rows : List AllotRow) (body : List ℕ) (result : Result Season SpecialFault) → state.finals ≡ Some rows → table ≡ matrix_at facts state
    → IfOk result (IsLeftSeason facts table rows body) → IfOk result (IsRemainingSeason facts state body)
left_there facts state table rows body (Ok season) final same left = (rows, final, subst (λ t. IsLeftSeason facts t rows body season) same left)
left_there facts state table rows body (Err fault) final same left = tt

pub refused_there : (facts : SeasonFacts) (state : State) (rows : List AllotRow) (body : List ℕ) (result : Result Season SpecialFault) → state.finals ≡ Some rows → IfErr result (AreRefused facts rows body)
    → IfErr result (IsSpecialFault facts state body)
refused_there facts state rows body (Ok season) final is = tt
refused_there facts state rows body (Err (NotFinal now)) final is = absurd is
refused_there facts state rows body (Err (BadLists fault)) final is = (rows, final, is)
refused_there facts state rows body (Err (Admitted row)) final is = (rows, final, is)
refused_there facts state rows body (Err NoListMemory) final is = tt

-- ---- the texts

pub texts_fault : (dossier : Dossier) (lists published : List ℕ) (season : Season) (script : List Request) (fault : TextFault) → Leaves dossier lists season → script ≡ one_cut
    → IsTextFault (AreDuePapers season.matrix season.register.people season.rounds script) published fault → HasSpecialFault dossier lists published (texts_error fault)
texts_fault dossier lists published season script (TextLine line) left one is = record {
  season = season;
  left = left;
  is = subst (λ n. IsFaultLine (AreDuePapers season.matrix season.register.people n one_cut) published line) left.2.rounds
      (subst (λ s. IsFaultLine (AreDuePapers season.matrix season.register.people season.rounds s) published line) one is);
}
texts_fault dossier lists published season script NoTextMemory left one is = tt

-- they are no longer than all bytes
pub special_short : (bytes front lists published : List ℕ) → IsSpecialCut bytes front lists published → length published ≤ length bytes
special_short bytes front lists published cut =
    let rest = drop (line_len (drop cut.first cut.texts) + 1) (drop cut.first cut.texts) in
    let end = ap (λ (z : List ℕ). length z) cut.is_published in
    let a = length-drop (line_len (drop cut.second rest) + 1) (drop cut.second rest) in
    let b = length-drop cut.second rest in
    let c = length-drop (line_len (drop cut.first cut.texts) + 1) (drop cut.first cut.texts) in
    let d = length-drop cut.first cut.texts in
    let e = published_short bytes cut.bundle cut.requests cut.texts cut.cut in
    omega (arith, end, a, b, c, d, e)

-- ---- what is found

pub behind_fault : (bytes front lists published : List ℕ) (dossier : Dossier) (rounds : ℕ) (fault : SpecialError) → IsFollowed bytes front lists published → IsDossier front dossier → HasVerdict dossier (Sound rounds)
    → HasSpecialFault dossier lists published fault → IsFoundFault bytes (BadSpecial fault)
behind_fault bytes front lists published dossier rounds (Lists fault) followed is sound has =
    record { dossier = dossier; lists = lists; published = published; front = (front, followed, is); rounds = rounds; sound = sound; is = has }
behind_fault bytes front lists published dossier rounds (Line line) followed is sound has =
    record { dossier = dossier; lists = lists; published = published; front = (front, followed, is); rounds = rounds; sound = sound; is = has }
behind_fault bytes front lists published dossier rounds OutOfMemory followed is sound has = tt

pub front_fault : (bytes front lists published : List ℕ) (fault : DossierFault) → IsFollowed bytes front lists published → IsBytesFault front fault → IsFoundFault bytes (BadDossier fault)
front_fault bytes front lists published ReadFault followed has = absurd has
front_fault bytes front lists published NoDossierMemory followed has = tt
front_fault bytes front lists published fault followed has = inr (front, lists, published, followed, has)

pub broken_front : (bytes front lists published : List ℕ) (dossier : Dossier) (verdict : Verdict) (round : ℕ) (clause : Clause) (prog : Option ProgId) (cand : Option CandId) → verdict ≡ Broken round clause prog cand
    → IsFollowed bytes front lists published → IsDossier front dossier → HasVerdict dossier verdict → IsFound bytes (OfSeason dossier verdict)
broken_front bytes front lists published dossier verdict round clause prog cand e followed is has =
    subst (λ v. IsFound bytes (OfSeason dossier v)) (sym e) (subst (λ v. HasVerdict dossier v) e has, inr (lists, published, (front, followed, is)))

pub found_at : (bytes : List ℕ) (dossier : Dossier) (result : Result Found FoundFault) → IsDossier bytes dossier → IfOk result (λ found. (all : List ℕ) → IsDossier all dossier → IsFound all found)
    → IfOk result (IsFound bytes)
found_at bytes dossier (Ok found) is each = each bytes is
found_at bytes dossier (Err fault) is each = tt
