use Rattle.std.proofs.Common.{◌≡◌, ◌<◌, List, arith, length, map, sym, ap, ◌∙◌, subst}
use Rattle.office_base.specs.declared.person.Person.{Person}
use Rattle.kept_rows.specs.declared.rows.AnswerRow.{AnswerRow}
use Rattle.kept_rows.specs.declared.rows.RaiseRow.{RaiseRow}
use Rattle.seat_matrix.specs.Matrix.{SeatTable}
use Rattle.office_moves.specs.Decided.{decided}
use Rattle.office_moves.specs.History.{IsHistory, asked}
use Rattle.office_moves.specs.Raised.{matrix_at}
use Rattle.season_facts.specs.Season.{facts_of}
use Rattle.office_moves.specs.State.{State, in_window, rows_of, with_raise}
use Rattle.office_moves.specs.declared.decide.Decision.TheVariants.{Lift}
use Rattle.office_moves.specs.declared.moves.Act.TheVariants.{Raise}
use Rattle.office_moves.specs.declared.moves.Entry.{Entry}
use Rattle.proceedings.specs.Kept.{state_of}
use Rattle.proceedings.specs.Proceeding.{Proceeding, answers_of, last_of, left_along, still_of}
use Rattle.proceedings.proofs.ChangeLemmas.{left_raised, lifted, lifted_matrix, none_moved, raise_answers, raised_state, still_raised}
use Rattle.proceedings.proofs.HistoryLemmas.{raised_on}
use Rattle.proceedings.proofs.book.Proceedings.lift.Goals as goal

pub raise-requires-clause-programme : goal.raise-requires-clause-programme
raise-requires-clause-programme c =
    let a = c.self.inside in
    let facts = facts_of a.season in
    let inv = c.self.invariant in
    let P : Proceeding → Type 0 = λ p. decided p.season p.state (asked p.season (Raise c.args.row)) ≡ Lift c.args.row in
    let below = (lifted facts (state_of a) c.args.row (subst P (sym c.self.view_is) c.requires.decided)).0 in
    let same : length a.raised.matrix.programmes ≡ length facts.matrix.programmes = ap (λ (m : SeatTable). length m.programmes) inv.raised ∙ ap (λ xs. length xs) inv.orderly.programmes in
    omega (arith, below, same)

pub raise-requires-clause-fresh : goal.raise-requires-clause-fresh
raise-requires-clause-fresh c =
    let a = c.self.inside in
    let P : Proceeding → Type 0 = λ p. decided p.season p.state (asked p.season (Raise c.args.row)) ≡ Lift c.args.row in
    (lifted (facts_of a.season) (state_of a) c.args.row (subst P (sym c.self.view_is) c.requires.decided)).1

pub invariant_of-self : goal.invariant_of-self
invariant_of-self c =
    let a = c.self.inside in
    let facts = facts_of a.season in
    let state = state_of a in
    let inv = c.self.invariant in
    let row = c.args.row in
    let entries : List Entry = c.push_reserved.new.self.items in
    let raises : List RaiseRow = c.raise.new.self.raises in
    let P : Proceeding → Type 0 = λ p. decided p.season p.state (asked p.season (Raise row)) ≡ Lift row in
    let is = subst P (sym c.self.view_is) c.requires.decided in
    let Q : Proceeding → Type 0 = λ p. last_of p.entries < c.args.number in
    let above = subst Q (sym c.self.view_is) c.requires.number in
    let R : Proceeding → Type 0 = λ p. p.still < p.room in
    let space = subst R (sym c.self.view_is) c.requires.space in
    let answers : answers_of entries ≡ answers_of a.entries.items = raise_answers a.entries.items entries c.args.number row c.push_reserved.ensures.items in
    let new : State = record { now = a.window; rounds = a.rounds.items; finals = a.finals; answers = answers_of entries; raises = raises } in
    let same : new ≡ with_raise state row = raised_state a.window a.rounds.items a.finals (answers_of a.entries.items) (answers_of entries) a.raised.raises raises row answers c.raise.ensures.raises in
    let H : State → Type 0 = λ s. IsHistory facts entries s in
    let G : List Entry → Type 0 = λ es. IsHistory facts es (with_raise state row) in
    let history : IsHistory facts entries new =
    subst H (sym same) (subst G (sym c.push_reserved.ensures.items) (raised_on facts a.entries.items state row c.args.number (c.history_grows.ensures facts) inv.history above is)) in
    record {
      sound = inv.sound;
      history = history;
      orderly = c.orderly.ensures facts entries new inv.sound history.reached;
      raised = lifted_matrix facts state row a.raised.matrix c.raise.new.self.matrix inv.raised c.raise.ensures.matrix ∙ ap (matrix_at facts) (sym same);
      left = inv.left ∙ (left_raised facts state row ∙ ap (left_along facts) (sym same));
      turns = λ window t here. inv.turns window t here ∙ ap (λ (rows : List AnswerRow). map (λ (p : Person). map (λ (r : AnswerRow). r.choice) (in_window window (rows_of p.id.0 rows))) facts.people) (sym answers);
      still = inv.still ∙ (still_raised facts state row ∙ ap (still_of facts) (sym same));
      tables = inv.tables;
      later = λ window id late. none_moved state new window id answers (inv.later window id late);
      withdrawals = omega (arith, space, c.push_reserved.ensures.len, c.push_reserved.ensures.capacity);
      rounds_room = inv.rounds_room;
      tables_room = inv.tables_room;
    }

pub returns-clause-state : goal.returns-clause-state
returns-clause-state c =
    let a = c.self.inside in
    let answers = raise_answers a.entries.items c.push_reserved.new.self.items c.args.number c.args.row c.push_reserved.ensures.items in
    raised_state a.window a.rounds.items a.finals (answers_of a.entries.items) (answers_of c.push_reserved.new.self.items) a.raised.raises c.raise.new.self.raises c.args.row answers c.raise.ensures.raises
    ∙ ap (λ (p : Proceeding). with_raise p.state c.args.row) c.self.view_is
