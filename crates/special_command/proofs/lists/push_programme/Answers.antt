use Rattle.std.proofs.Common.{◌≡◌, ◌∙◌, ℕ, List, ap, arith, get_or, refl, subst, sym}
use Rattle.std.proofs.lemmas.Option.{slice_get_read}
use Rattle.std.proofs.lemmas.Result.{on_ok_weaker}
use Rattle.list_cutoffs.specs.Cutoffs.{AreCutoffsIn}
use Rattle.programme_lists.specs.declared.programme.Programme.{Programme}
use Rattle.list_cutoffs.specs.declared.cutoffs.StepCutoff.{StepCutoff}
use Rattle.seat_matrix.specs.Matrix.{seats_in}
use Rattle.seat_matrix.specs.declared.seats.ProgrammeSeats.{ProgrammeSeats}
use Rattle.special_command.proofs.Listed.{programme_put}
use Rattle.special_command.proofs.lists.push_programme.Goals as goal

pub returns : goal.returns
returns c =
    let special = c.args.special.now in
    let programme = c.index-as_slice-from.result in
    let read : programme ≡ get_or special.round.programmes c.args.prog.0 programme =
    c.index-as_slice-from.is ∙ ap (λ (all : List Programme). get_or all c.from.result programme) c.as_slice.ensures ∙ ap (λ (n : ℕ). get_or special.round.programmes n programme) c.from.ensures in
    let there = slice_get_read special.round.programmes _ c.args.prog.0 programme refl (omega (arith, c.requires.listed.count, c.requires.programme)) read in
    let found = subst (λ (seats : ProgrammeSeats). AreCutoffsIn seats programme.steps c.in_ok-lines.lines) c.programme-seats.ensures.seats c.in_ok-lines.ensures in
    let lines = subst (λ (those : List StepCutoff). AreCutoffsIn (seats_in special.season.matrix c.args.prog.0) programme.steps those) (sym c.as_slice-2.ensures) found in
    on_ok_weaker c.extend_from_slice-2.result
    (λ put. programme_put special.season.matrix special.round c.args.prog.0 special.round.number programme c.as_slice-2.result.now c.in_ok-list.list c.in_ok-cutoffs.cutoffs c.args.out.now _ _ _ _ refl there lines
    c.in_ok-list.ensures c.in_ok-cutoffs.ensures c.as_slice-3.ensures c.as_slice-4.ensures c.in_ok-extend_from_slice.ensures.ok put)
    c.extend_from_slice-2.ensures.ok
