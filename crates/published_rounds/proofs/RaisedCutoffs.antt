-- No raise changes the cutoffs of a list, so the matrix of each round gives those of the season's.
use Rattle.std.proofs.Common.{◌≡◌, ◌∙◌, ℕ, zero, suc, List, [], ◌∷◌, arith, refl, sym, ap, subst}
use Rattle.std.proofs.lemmas.Bool.{cond-false, false_from_ne_true, ltb-true}
use Rattle.std.specs.Prelude.{nat_lt}
use Rattle.office_base.specs.declared.person.ListId.{ListId}
use Rattle.office_base.specs.declared.step.Protections.{Protections}
use Rattle.kept_rows.specs.declared.rows.RaiseRow.{RaiseRow}
use Rattle.merit_choice.specs.State.{StepKept}
use Rattle.cutoff_lines.specs.Lines.{AreLinesOf}
use Rattle.seat_matrix.specs.Matrix.{SeatTable, seats_in}
use Rattle.seat_matrix.specs.Seats.{HaveMoreSeats, seats_of}
use Rattle.seat_matrix.specs.declared.seats.ProgrammeSeats.{ProgrammeSeats}
use Rattle.programme_lists.specs.declared.programme.StepList.{StepList}
use Rattle.list_cutoffs.specs.Cutoffs.{AreCutoffsIn, kept_listed}
use Rattle.list_cutoffs.specs.declared.cutoffs.StepCutoff.{StepCutoff}
use Rattle.office_moves.specs.Facts.{SeasonFacts}
use Rattle.office_moves.specs.Raised.{matrix_of_round, raised, raised_before}
use Rattle.office_moves.specs.State.{State}
use Rattle.history_laws.specs.Course.{IsCourse}

module _ (few more : ProgrammeSeats) (raise : HaveMoreSeats few more) where
  same_kept : (list : StepList) → kept_listed few list ≡ kept_listed more list
  same_kept list =
      ap (λ (l : ListId). let kept : StepKept = record { list = l; seats = list.seats; protections = (seats_of few list.kind).protections; held = list.admitted } in kept) (sym raise.list)
      ∙ ap (λ (those : Protections). let kept : StepKept = record { list = more.list; seats = list.seats; protections = those; held = list.admitted } in kept) (sym (raise.protections list.kind))

  pub more_cutoffs : (lists : List StepList) (cutoffs : List StepCutoff) → AreCutoffsIn few lists cutoffs → AreCutoffsIn more lists cutoffs
  more_cutoffs [] cutoffs all = all
  more_cutoffs (list ∷ lists) cutoffs all = (
    all.0,
    all.1,
    (all.2.0, subst (λ (kept : StepKept). AreLinesOf kept all.2.0) (same_kept list) all.2.1, all.2.2, all.2.3),
    more_cutoffs lists all.1 all.3,
    all.4,
  )

-- nothing is raised before the first window
none_before : (rows : List RaiseRow) → raised_before 0 rows ≡ []
none_before [] = refl
none_before (row ∷ rows) =
    cond-false (nat_lt row.window 0) (row ∷ raised_before 0 rows) (raised_before 0 rows) (false_from_ne_true _ (λ early. let less = ltb-true row.window 0 early in absurd (omega (arith, less))))
    ∙ none_before rows

-- the seats of the season's matrix, and those of the round of each number
pub raised_by : (facts : SeasonFacts) (state : State) → IsCourse facts state → (prog n : ℕ) → HaveMoreSeats (seats_in facts.matrix prog) (seats_in (matrix_of_round facts state n) prog)
raised_by facts state course prog zero =
    subst (λ (table : SeatTable). HaveMoreSeats (seats_in facts.matrix prog) (seats_in table prog)) (sym (ap (raised facts.matrix) (none_before state.raises)))
    (record { list = refl; protections = λ step. refl; seats = λ step. omega arith })
raised_by facts state course prog (suc n) =
    let before = raised_by facts state course prog n in
    let next = (course.raised n).seats prog in
    record {
      list = next.list ∙ before.list;
      protections = λ step. next.protections step ∙ before.protections step;
      seats = λ step. (let one = before.seats step in let two = next.seats step in omega (arith, one, two));
    }
