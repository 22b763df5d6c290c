use Rattle.std.proofs.Common.{List, Some, arith, sym, ap, subst, ◌∙◌}
use Rattle.kept_rows.specs.declared.rows.AllotRow.{AllotRow}
use Rattle.seat_matrix.specs.Matrix.{SeatTable}
use Rattle.season_facts.specs.Season.{facts_of}
use Rattle.season_audit.specs.Audit.{papers_in}
use Rattle.special_round.specs.Remaining.{AreFinals}
use Rattle.special_audit.specs.Special.{state_after}
use Rattle.special_audit.proofs.Over.{well_after}
use Rattle.special_audit.proofs.Reading.{left_there, refused_there, rows_final, rows_known, some_text}
use Rattle.special_audit.proofs.special.left_by.Goals as goal

pub returns-then-auditor-dossier-clause-fault : goal.returns-then-auditor-dossier-clause-fault
returns-then-auditor-dossier-clause-fault c =
    let dossier = c.args.dossier.now in
    let upto = c.requires.upto in
    let there = well_after c.one_step_changes.ensures (facts_of dossier.season) dossier.script (papers_in dossier) upto.sound c.requires.sound in
    let now = upto.window in
    let few = c.if-auditor-dossier.true in
    (there.well.early (omega (arith, now, few)), upto.window)

pub unreachable-requires : goal.unreachable-requires
unreachable-requires c =
    let dossier = c.args.dossier.now in
    let upto = c.requires.upto in
    let there = well_after c.one_step_changes.ensures (facts_of dossier.season) dossier.script (papers_in dossier) upto.sound c.requires.sound in
    let now = upto.window in
    let late = c.if-auditor-dossier.false in
    some_text dossier (state_after dossier) there.well (omega (arith, now, late)) c.in_default.is

pub left_season-requires-clause-finals : goal.left_season-requires-clause-finals
left_season-requires-clause-finals c =
    let dossier = c.args.dossier.now in
    let upto = c.requires.upto in
    let there = well_after c.one_step_changes.ensures (facts_of dossier.season) dossier.script (papers_in dossier) upto.sound c.requires.sound in
    let now = upto.window in
    let late = c.if-auditor-dossier.false in
    let same = ap (λ (t : SeatTable). t.programmes) (c.matrix-table.ensures ∙ upto.matrix) ∙ there.order.programmes in
    subst (λ (r : List AllotRow). AreFinals dossier.season.register.people c.matrix-table.result.now r) (sym c.as_slice.ensures)
    (rows_known dossier (state_after dossier) c.in-Some.read c.matrix-table.result.now there.well (omega (arith, now, late)) c.in-Some.is same)

pub returns-clause-season : goal.returns-clause-season
returns-clause-season c =
    let dossier = c.args.dossier.now in
    let upto = c.requires.upto in
    let there = well_after c.one_step_changes.ensures (facts_of dossier.season) dossier.script (papers_in dossier) upto.sound c.requires.sound in
    let now = upto.window in
    let late = c.if-auditor-dossier.false in
    let final = rows_final dossier (state_after dossier) c.in-Some.read there.well (omega (arith, now, late)) c.in-Some.is in
    left_there (facts_of dossier.season) (state_after dossier) c.matrix-table.result.now c.as_slice.result.now c.args.lists.now c.left_season.result (final ∙ sym (ap Some c.as_slice.ensures))
    (c.matrix-table.ensures ∙ upto.matrix) c.left_season.ensures.season

pub returns-clause-fault : goal.returns-clause-fault
returns-clause-fault c =
    let dossier = c.args.dossier.now in
    let upto = c.requires.upto in
    let there = well_after c.one_step_changes.ensures (facts_of dossier.season) dossier.script (papers_in dossier) upto.sound c.requires.sound in
    let now = upto.window in
    let late = c.if-auditor-dossier.false in
    let final = rows_final dossier (state_after dossier) c.in-Some.read there.well (omega (arith, now, late)) c.in-Some.is in
    refused_there (facts_of dossier.season) (state_after dossier) c.as_slice.result.now c.args.lists.now c.left_season.result (final ∙ sym (ap Some c.as_slice.ensures)) c.left_season.ensures.fault
