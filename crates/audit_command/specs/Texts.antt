-- The texts of an audit: the line of a verdict, and the line that reports why a dossier was not read.
use Rattle.std.specs.Prelude.{ℕ, List, ◌++◌, Option, Some, None, codes}
use Rattle.std.specs.Fmt.{decimal}
use Rattle.office_base.specs.FaultLines.{memory_line, read_line}
use Rattle.office_base.specs.declared.person.CandId.{CandId}
use Rattle.office_base.specs.declared.person.ProgId.{ProgId}
use Rattle.seat_matrix.specs.Matrix.{SeatTable}
use Rattle.list_audit.specs.Names.{name_of}
use Rattle.list_audit.specs.declared.clause.Clause.{Clause}
use Rattle.published_texts.specs.Texts.{code_in}
use Rattle.season_texts.specs.Texts.{fault_line}
use Rattle.audit_rules.specs.declared.verdict.Verdict.{Verdict}
use Rattle.audit_rules.specs.declared.verdict.Verdict.TheVariants.{Sound, Broken}
use Rattle.dossier_file.specs.declared.fault.DossierFault.{DossierFault}
use Rattle.dossier_file.specs.declared.fault.DossierFault.TheVariants.{ReadFault, TooLong, NoSection, Season as BadSeason, Published, OutOfMemory}
use Rattle.special_command.specs.Texts.{special_fault_line}
use Rattle.special_audit.specs.declared.found.FoundFault.{FoundFault}
use Rattle.special_audit.specs.declared.found.FoundFault.TheVariants.{Dossier as BadDossier, Special as BadSpecial}
use Rattle.special_audit.specs.declared.special.SpecialError.{SpecialError}
use Rattle.special_audit.specs.declared.special.SpecialError.TheVariants.{Lists, Line, OutOfMemory as NoSpecialMemory}

-- the code of the programme that a clause names, or a dash
abbrev pub code_or_dash : SeatTable → Option ProgId → List ℕ
code_or_dash table None = codes "-"
code_or_dash table (Some prog) = code_in table prog.0

-- the number of the candidate that a verdict names, or a dash
abbrev pub candidate_or_dash : Option CandId → List ℕ
candidate_or_dash None = codes "-"
candidate_or_dash (Some cand) = decimal cand.0

-- the line of this many sound rounds
abbrev pub sound_line : ℕ → List ℕ
sound_line rounds = codes "audit sound rounds " ++ decimal rounds ++ codes "\n"

-- the end of the line of a broken clause: its name, and whom it names
abbrev pub broken_end : SeatTable → Clause → Option ProgId → Option CandId → List ℕ
broken_end table clause prog cand = name_of clause ++ codes " " ++ code_or_dash table prog ++ codes " " ++ candidate_or_dash cand ++ codes "\n"

-- the line of a broken clause
abbrev pub broken_line : SeatTable → ℕ → Clause → Option ProgId → Option CandId → List ℕ
broken_line table round clause prog cand = codes "audit broken round " ++ decimal round ++ codes " " ++ broken_end table clause prog cand

-- the line of a sound special round, behind so many sound rounds
abbrev pub sound_special_line : ℕ → List ℕ
sound_special_line rounds = codes "audit sound rounds " ++ decimal rounds ++ codes " special\n"

-- the line of a clause that is broken in the special round
abbrev pub broken_special_line : SeatTable → Clause → Option ProgId → Option CandId → List ℕ
broken_special_line table clause prog cand = codes "audit broken special " ++ broken_end table clause prog cand

-- the line of a verdict on a special round, behind so many sound rounds
abbrev pub special_verdict_line : SeatTable → ℕ → Verdict → List ℕ
special_verdict_line table rounds (Sound number) = sound_special_line rounds
special_verdict_line table rounds (Broken round clause prog cand) = broken_special_line table clause prog cand

-- the line of a verdict
abbrev pub verdict_line : SeatTable → Verdict → List ℕ
verdict_line table (Sound rounds) = sound_line rounds
verdict_line table (Broken round clause prog cand) = broken_line table round clause prog cand

-- the line of a fault at a line of what was published
abbrev pub published_line : ℕ → List ℕ
published_line line = codes "fault: published line " ++ decimal line ++ codes "\n"

-- the line that reports why a dossier was not read
abbrev pub dossier_line : DossierFault → List ℕ
dossier_line ReadFault = read_line
dossier_line TooLong = codes "fault: dossier TooLong\n"
dossier_line NoSection = codes "fault: dossier NoSection\n"
dossier_line (BadSeason fault) = fault_line fault
dossier_line (Published line) = published_line line
dossier_line OutOfMemory = memory_line

-- the line that reports why the papers of a special round were not read
abbrev pub special_line : SpecialError → List ℕ
special_line (Lists fault) = special_fault_line fault
special_line (Line line) = codes "fault: special line " ++ decimal line ++ codes "\n"
special_line NoSpecialMemory = memory_line

-- the line that reports why an audit found nothing
abbrev pub found_line : FoundFault → List ℕ
found_line (BadDossier fault) = dossier_line fault
found_line (BadSpecial fault) = special_line fault
