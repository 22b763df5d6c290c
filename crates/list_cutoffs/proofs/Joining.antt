-- The lines of lists, one list after another.
use Rattle.std.proofs.Common.{◌≡◌, ◌∙◌, ◌<◌, ◌+◌, ℕ, List, [], ◌∷◌, ◌++◌, length, take, get_or, refl, sym, ap, subst, append_assoc}
use Rattle.std.specs.Prelude.{map}
use Rattle.std.proofs.lemmas.List.{append-nil, take_more}
use Rattle.cutoff_lines.specs.Laws.{LinesExist, OneLines}
use Rattle.seat_matrix.specs.declared.seats.ProgrammeSeats.{ProgrammeSeats}
use Rattle.programme_lists.specs.declared.programme.StepList.{StepList}
use Rattle.list_cutoffs.specs.Cutoffs.{AreCutoffsIn, AreLinesIn, kept_listed, under}
use Rattle.list_cutoffs.specs.Laws.{CutoffsExist, OneListOfCutoffs}
use Rattle.list_cutoffs.specs.declared.cutoffs.StepCutoff.{StepCutoff}

-- the lines of one list more
pub one_more : (seats : ProgrammeSeats) (lists : List StepList) (list : StepList) (cutoffs lines : List StepCutoff) → AreCutoffsIn seats lists cutoffs → AreLinesIn seats list lines
    → AreCutoffsIn seats (lists ++ list ∷ []) (cutoffs ++ lines)
one_more seats [] list cutoffs lines none own = (lines, [], own, refl, ap (λ (front : List StepCutoff). front ++ lines) none ∙ sym (append-nil lines))
one_more seats (other ∷ lists) list cutoffs lines some own = (
  some.0,
  some.1 ++ lines,
  some.2,
  one_more seats lists list some.1 lines some.3 own,
  ap (λ (front : List StepCutoff). front ++ lines) some.4 ∙ append_assoc some.0 some.1 lines,
)

pub next_list : (seats : ProgrammeSeats) (lists : List StepList) (at : ℕ) (other : StepList) (cutoffs lines more : List StepCutoff) → at < length lists
    → AreCutoffsIn seats (take at lists) cutoffs → AreLinesIn seats (get_or lists at other) lines → more ≡ cutoffs ++ lines → AreCutoffsIn seats (take (at + 1) lists) more
next_list seats lists at other cutoffs lines more inside some own joined =
    subst (λ (front : List StepList). AreCutoffsIn seats front more) (sym (take_more lists at other inside))
    (subst (AreCutoffsIn seats (take at lists ++ get_or lists at other ∷ [])) (sym joined) (one_more seats (take at lists) (get_or lists at other) cutoffs lines some own))

-- the lists have no other lines
pub one_list : OneLines → OneListOfCutoffs
one_list one seats [] first second kept some some' = some ∙ sym some'
one_list one seats (list ∷ lists) first second kept some some' =
    let lines = one _ some.2.0 some'.2.0 kept.0 some.2.1 some.2.2 some'.2.1 some'.2.2 in
    let front : some.0 ≡ some'.0 = some.2.3 ∙ (ap (map (under list.kind)) lines ∙ sym some'.2.3) in
    let back : some.1 ≡ some'.1 = one_list one seats lists some.1 some'.1 kept.1 some.3 some'.3 in
    some.4 ∙ (ap (λ (those : List StepCutoff). those ++ some.1) front ∙ (ap (λ (those : List StepCutoff). some'.0 ++ those) back ∙ sym some'.4))

pub cutoffs_exist : LinesExist → CutoffsExist
cutoffs_exist exist seats [] kept = ([], refl)
cutoffs_exist exist seats (list ∷ lists) kept =
    let own = exist (kept_listed seats list) kept.0 in
    let front = map (under list.kind) own.0 in
    let rest = cutoffs_exist exist seats lists kept.1 in
    (front ++ rest.0, (front, rest.0, (own.0, own.1, own.2, refl), rest.1, refl))
