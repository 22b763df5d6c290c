use Rattle.std.proofs.Common.{◌∙◌, inr, sym, subst, true, false, refl}
use Rattle.office_moves.specs.declared.moves.Act.TheVariants.{Answer}
use Rattle.proceedings.specs.Changes.{IsAt}
use Rattle.replays.proofs.Numbers.{follow_from}
use Rattle.replays.proofs.RowLemmas.{answer_refused, answer_taken, moved_row, note_own}
use Rattle.replays.proofs.rows.AnswerRowKeptRow.take.Goals as goal

pub note-requires-clause-decided : goal.note-requires-clause-decided
note-requires-clause-decided c =
    let facts = c.next_entry.new.book.season in
    let is = note_own facts c.next_entry.new.book.state c.args.self _ (sym c.decide-decision.ensures.0 ∙ c.in-Note.is) in
    (is, subst (IsAt facts c.decide-decision.result.1) (c.decide-decision.ensures.0 ∙ is) c.decide-decision.ensures.1)

pub returns-in-Note-clause-takes : goal.returns-in-Note-clause-takes
returns-in-Note-clause-takes c =
    moved_row c.args.book.now.season c.next_entry.new.book.season c.args.book.now.state c.next_entry.new.book.state (Answer c.args.self) true c.next_entry.ensures.season c.next_entry.ensures.state
    (answer_taken c.next_entry.new.book.season c.next_entry.new.book.state c.args.self _ (sym c.decide-decision.ensures.0 ∙ c.in-Note.is))

pub returns-in-Note-clause-entries : goal.returns-in-Note-clause-entries
returns-in-Note-clause-entries c = follow_from c.args.book.now.entries _ _ _ _ c.next_entry.ensures.entries c.in_ok-number.ensures.number c.note.ensures.entries

pub returns-in_default-clause-fault : goal.returns-in_default-clause-fault
returns-in_default-clause-fault c = inr (
  moved_row c.args.book.now.season c.next_entry.new.book.season c.args.book.now.state c.next_entry.new.book.state (Answer c.args.self) false c.next_entry.ensures.season c.next_entry.ensures.state
      (answer_refused c.next_entry.new.book.season c.next_entry.new.book.state c.args.self (λ other e. c.in_default.not-Note other (c.decide-decision.ensures.0 ∙ e))),
  refl,
)
