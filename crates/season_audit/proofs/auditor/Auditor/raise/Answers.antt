use Rattle.std.proofs.Common.{◌≡◌, ◌∙◌, ◌++◌, ◌∷◌, [], List, ap, refl, sym}
use Rattle.std.specs.List.{list_any}
use Rattle.kept_rows.specs.declared.rows.RaiseRow.{RaiseRow}
use Rattle.seat_matrix.specs.Matrix.{SeatTable, matrix_with, seating_in}
use Rattle.office_moves.specs.Decided.{same_raise}
use Rattle.office_moves.specs.Raised.{raised_to}
use Rattle.season_facts.specs.Season.{facts_of}
use Rattle.office_moves.specs.declared.decide.RaiseFacts.{RaiseFacts}
use Rattle.audit_rules.specs.Raises.{lifts}
use Rattle.season_audit.proofs.Requests.{of_matrix}
use Rattle.season_audit.proofs.Taking.{lift_fresh, lifted, looks_are, unlifted}
use Rattle.season_audit.proofs.auditor.Auditor.raise.Goals as goal

pub looks-looks-requires : goal.looks-looks-requires
looks-looks-requires g c = of_matrix (facts_of c.args.season.now) g.state c.args.self.now c.args.row.prog.0 c.requires.0 c.requires.1

pub returns-then-not-lifts : goal.returns-then-not-lifts
returns-then-not-lifts g c papers =
    let facts = facts_of c.args.season.now in
    let looks = looks_are facts g.state c.args.row c.args.self.now _ c.looks-looks.result c.requires.0 refl c.looks-looks.ensures.looks in
    unlifted facts papers g.state c.args.by c.args.row c.args.self.now c.requires.0 (ap (λ (l : RaiseFacts). lifts l c.args.by c.args.row) (sym looks) ∙ (sym c.lifts.ensures ∙ c.if-not-lifts.true))

pub raise-requires-clause-fresh : goal.raise-requires-clause-fresh
raise-requires-clause-fresh g c =
    let facts = facts_of c.args.season.now in
    let looks = looks_are facts g.state c.args.row c.args.self.now _ c.looks-looks.result c.requires.0 refl c.looks-looks.ensures.looks in
    ap (λ (rows : List RaiseRow). list_any (same_raise c.args.row) rows) c.reserve.ensures.raises
    ∙ lift_fresh facts g.state c.args.by c.args.row c.args.self.now c.requires.0 (ap (λ (l : RaiseFacts). lifts l c.args.by c.args.row) (sym looks) ∙ (sym c.lifts.ensures ∙ c.if-not-lifts.false))

pub returns : goal.returns
returns g c papers =
    let facts = facts_of c.args.season.now in
    let row = c.args.row in
    let looks = looks_are facts g.state row c.args.self.now _ c.looks-looks.result c.requires.0 refl c.looks-looks.ensures.looks in
    let raises = c.raise.ensures.raises ∙ ap (λ (rows : List RaiseRow). rows ++ row ∷ []) c.reserve.ensures.raises in
    let matrix = c.raise.ensures.matrix ∙ ap (λ (m : SeatTable). matrix_with m row.prog.0 row.step (raised_to (seating_in m row.prog.0 row.step) row.seats)) c.reserve.ensures.matrix in
    lifted c.one_step_changes.ensures facts papers g.state c.args.by row c.args.self.now _ c.requires.0 c.requires.1
    (ap (λ (l : RaiseFacts). lifts l c.args.by row) (sym looks) ∙ (sym c.lifts.ensures ∙ c.if-not-lifts.false)) refl raises matrix refl
