use Rattle.std.proofs.Common.{◌∙◌, ◌<◌, ap, arith, inr, length, sym, subst, true, false, refl}
use Rattle.seat_matrix.specs.Matrix.{AreSeats, SeatTable}
use Rattle.office_moves.specs.Facts.{SeasonFacts}
use Rattle.office_moves.specs.declared.moves.Act.TheVariants.{Raise}
use Rattle.replays.proofs.Numbers.{follow_from}
use Rattle.replays.proofs.RowLemmas.{asks_as, lift_own, moved_row, own_code, raise_refused, raise_taken}
use Rattle.replays.proofs.rows.RaiseRowKeptRow.take.Goals as goal

pub lift-requires-clause-decided : goal.lift-requires-clause-decided
lift-requires-clause-decided c =
    let facts = c.next_entry.new.book.season in
    let table = ap (λ (f : SeasonFacts). f.matrix) c.season.ensures in
    let seats = subst (λ (t : SeatTable). AreSeats t) table c.count.ensures.seats in
    let long = ap (λ (t : SeatTable). length t.programmes) table in
    let many = c.count.ensures.count in
    let less : c.args.self.prog.0 < length facts.matrix.programmes = omega (arith, long, many) in
    let code = own_code _ facts c.args.self.prog.0 _ table c.code.ensures in
    lift_own facts c.next_entry.new.book.state c.args.self _ seats less (asks_as facts c.next_entry.new.book.state c.args.self _ _ code (sym c.in-Lift.is ∙ c.decide.ensures.0))

pub returns-in-Lift-clause-takes : goal.returns-in-Lift-clause-takes
returns-in-Lift-clause-takes c =
    let facts = c.next_entry.new.book.season in
    let table = ap (λ (f : SeasonFacts). f.matrix) c.season.ensures in
    let long = ap (λ (t : SeatTable). length t.programmes) table in
    let many = c.count.ensures.count in
    let less : c.args.self.prog.0 < length facts.matrix.programmes = omega (arith, long, many) in
    let code = own_code _ facts c.args.self.prog.0 _ table c.code.ensures in
    moved_row c.args.book.now.season facts c.args.book.now.state c.next_entry.new.book.state (Raise c.args.self) true c.next_entry.ensures.season c.next_entry.ensures.state
    (raise_taken facts c.next_entry.new.book.state c.args.self _ less (asks_as facts c.next_entry.new.book.state c.args.self _ _ code (sym c.in-Lift.is ∙ c.decide.ensures.0)))

pub returns-in-Lift-clause-entries : goal.returns-in-Lift-clause-entries
returns-in-Lift-clause-entries c = follow_from c.args.book.now.entries _ _ _ _ c.next_entry.ensures.entries c.in_ok-number.ensures.number c.lift.ensures.entries

pub returns-in_default : goal.returns-in_default
returns-in_default c =
    let facts = c.next_entry.new.book.season in
    let table = ap (λ (f : SeasonFacts). f.matrix) c.season.ensures in
    let seats = subst (λ (t : SeatTable). AreSeats t) table c.count.ensures.seats in
    let code = own_code _ facts c.args.self.prog.0 _ table c.code.ensures in
    let asks = asks_as facts c.next_entry.new.book.state c.args.self _ _ code c.decide.ensures.0 in
    record {
      takes = tt;
      state = tt;
      season = c.next_entry.ensures.season;
      entries = tt;
      fault = inr (
        moved_row c.args.book.now.season facts c.args.book.now.state c.next_entry.new.book.state (Raise c.args.self) false c.next_entry.ensures.season c.next_entry.ensures.state
            (raise_refused facts c.next_entry.new.book.state c.args.self seats (λ other e. c.in_default.not-Lift other (sym asks ∙ e))),
        refl,
      );
    }
