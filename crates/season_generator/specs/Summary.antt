-- The summary of a generated season that was run.
use Rattle.std.specs.Prelude.{ℕ, ◌+◌, List, [], ◌∷◌, ◌++◌, codes}
use Rattle.std.specs.Fmt.{decimal}
use Rattle.season_generator.specs.declared.summary.Summary.{Summary}

-- the line of a round
abbrev pub round_line : ℕ → ℕ → List ℕ
round_line number seated = codes "round " ++ decimal number ++ codes " seated " ++ decimal seated ++ codes "\n"

-- the lines of rounds, numbered from this number on
abbrev pub round_lines : ℕ → List ℕ → List ℕ
round_lines number [] = []
round_lines number (seated ∷ rounds) = round_line number seated ++ round_lines (number + 1) rounds

-- the first line: how many candidates, and from which seed
abbrev pub generated_line : ℕ → ℕ → List ℕ
generated_line candidates seed = codes "generated " ++ decimal candidates ++ codes " seed " ++ decimal seed ++ codes "\n"

-- the answers noted and those refused
abbrev pub answers_line : ℕ → ℕ → List ℕ
answers_line noted refused = codes "noted " ++ decimal noted ++ codes " refused " ++ decimal refused ++ codes "\n"

-- the final admissions
abbrev pub admitted_line : ℕ → List ℕ
admitted_line admitted = codes "final admitted " ++ decimal admitted ++ codes "\n"

-- the summary: what was generated, the rounds in their order, the answers, and the final admissions
abbrev pub summary_text : Summary → List ℕ
summary_text summary =
    generated_line summary.candidates summary.seed ++ round_lines 1 summary.seated ++ answers_line summary.noted summary.refused ++ admitted_line summary.admitted
