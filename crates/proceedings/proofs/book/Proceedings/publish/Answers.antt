use Rattle.std.proofs.Common.{◌≡◌, ◌<◌, ◌+◌, List, arith, length, refl, sym, ap, ◌∙◌, subst}
use Rattle.std.proofs.lemmas.List.{with_items_is}
use Rattle.std.proofs.lemmas.Option.{slice_get_read}
use Rattle.office_base.specs.declared.choice.Choice.{Choice}
use Rattle.office_moves.specs.Decided.{decided}
use Rattle.office_moves.specs.History.{IsHistory, asked}
use Rattle.office_moves.specs.Moves.{IsNextRound}
use Rattle.season_facts.specs.Season.{facts_of}
use Rattle.office_moves.specs.State.{State, with_round}
use Rattle.office_moves.specs.declared.decide.Decision.TheVariants.{Publish}
use Rattle.office_moves.specs.declared.moves.Act.TheVariants.{Cut}
use Rattle.office_moves.specs.declared.moves.Entry.{Entry}
use Rattle.answer_table.specs.Turns.{no_turns}
use Rattle.proceedings.specs.Kept.{state_of}
use Rattle.proceedings.specs.Proceeding.{Proceeding, answers_of, last_of, left_along, table_along}
use Rattle.proceedings.proofs.ChangeLemmas.{cut_answers, cut_fewer, cut_still, none_moved, published_early, published_left, published_state}
use Rattle.proceedings.proofs.CutLemmas.{AreTables, tables_next}
use Rattle.proceedings.proofs.HistoryLemmas.{published_on}
use Rattle.proceedings.proofs.NextLemmas.{left_full, next_full, table_full}
use Rattle.proceedings.proofs.book.Proceedings.publish.Goals as goal

pub leave_all-still-requires-clause-table : goal.leave_all-still-requires-clause-table
leave_all-still-requires-clause-table c =
    let a = c.self.inside in
    let facts = facts_of a.season in
    let state = state_of a in
    let inv = c.self.invariant in
    let P : Proceeding → Type 0 = λ p. decided p.season p.state (asked p.season (Cut p.state.now)) ≡ Publish in
    let early = published_early facts state (subst P (sym c.self.view_is) c.requires.decided) in
    let order = inv.orderly.course.order (omega (arith, early)) in
    let there = slice_get_read a.turns.items _ c.from.result c.index.result.now refl (omega (arith, a.turns.ok.0, a.rounds.ok.0, order, inv.tables, c.from.ensures)) c.index.ensures in
    table_full facts state c.from.result c.index.result.now (inv.turns c.from.result c.index.result.now there)
    ∙ sym (left_full facts state c.as_mut_slice.result.now (c.as_mut_slice.ensures.value ∙ inv.left))

pub leave_all-still-requires-clause-seats : goal.leave_all-still-requires-clause-seats
leave_all-still-requires-clause-seats c =
    let a = c.self.inside in
    let facts = facts_of a.season in
    let state = state_of a in
    let inv = c.self.invariant in
    let N : Proceeding → Type 0 = λ p. IsNextRound p.season p.state c.args.round in
    ap (λ (z : List _). length z) c.as_slice.ensures ∙ (next_full facts state c.args.round inv.sound (subst N (sym c.self.view_is) c.requires.next)
    ∙ sym (left_full facts state c.as_mut_slice.result.now (c.as_mut_slice.ensures.value ∙ inv.left)))

pub invariant_of-self : goal.invariant_of-self
invariant_of-self c =
    let a = c.self.inside in
    let facts = facts_of a.season in
    let state = state_of a in
    let inv = c.self.invariant in
    let round = c.args.round in
    let entries : List Entry = c.push_reserved-3.new.self.items in
    let P : Proceeding → Type 0 = λ p. decided p.season p.state (asked p.season (Cut p.state.now)) ≡ Publish in
    let is = subst P (sym c.self.view_is) c.requires.decided in
    let Q : Proceeding → Type 0 = λ p. last_of p.entries < c.args.number in
    let above = subst Q (sym c.self.view_is) c.requires.number in
    let R : Proceeding → Type 0 = λ p. p.still < p.room in
    let space = subst R (sym c.self.view_is) c.requires.space in
    let N : Proceeding → Type 0 = λ p. IsNextRound p.season p.state round in
    let next = subst N (sym c.self.view_is) c.requires.next in
    let E : Proceeding → Type 0 = λ p. c.args.table ≡ no_turns (length p.season.people) in
    let empty = subst E (sym c.self.view_is) c.requires.table in
    let early = published_early facts state is in
    let order = inv.orderly.course.order (omega (arith, early)) in
    let there = slice_get_read a.turns.items _ c.from.result c.index.result.now refl (omega (arith, a.turns.ok.0, a.rounds.ok.0, order, inv.tables, c.from.ensures)) c.index.ensures in
    let turns : c.index.result.now ≡ table_along facts state state.now = inv.turns c.from.result c.index.result.now there ∙ ap (table_along facts state) c.from.ensures in
    let so : c.as_mut_slice.result.now ≡ left_along facts state = c.as_mut_slice.ensures.value ∙ inv.left in
    let answers : answers_of entries ≡ answers_of a.entries.items = cut_answers a.entries.items entries c.args.number a.window c.push_reserved-3.ensures.items in
    let new : State = record { now = a.window + 1; rounds = c.push_reserved.new.self.items; finals = a.finals; answers = answers_of entries; raises = a.raised.raises } in
    let same : new ≡ with_round state round = published_state a.window a.rounds.items c.push_reserved.new.self.items a.finals (answers_of a.entries.items) (answers_of entries) a.raised.raises round c.push_reserved.ensures.items answers in
    let H : State → Type 0 = λ s. IsHistory facts entries s in
    let G : List Entry → Type 0 = λ es. IsHistory facts es (with_round state round) in
    let history : IsHistory facts entries new =
    subst H (sym same) (subst G (sym c.push_reserved-3.ensures.items) (published_on facts a.entries.items state round c.args.number (c.history_grows.ensures facts) inv.history above is next)) in
    let left : c.leave_all-still.new.left ≡ left_along facts new =
    published_left facts state c.as_mut_slice.result.now c.index.result.now c.as_slice.result.now round c.leave_all-still.new.left inv.sound.ranks.rising so turns order
    (next_full facts state round inv.sound next) c.as_slice.ensures c.leave_all-still.ensures.left ∙ ap (left_along facts) (sym same) in
    let size : length c.leave_all-still.new.left ≡ a.left.len = left_full facts new c.leave_all-still.new.left left ∙ (sym (left_full facts state a.left.items inv.left) ∙ sym a.left.ok.0) in
    let fewer = cut_fewer facts state c.as_mut_slice.result.now c.leave_all-still.new.left c.index.result.now c.as_slice.result.now a.still_in c.leave_all-still.result so turns inv.still c.leave_all-still.ensures.left c.leave_all-still.ensures.still in
    let T : List (List (List Choice)) → Type 0 = λ ts. AreTables facts new ts in
    record {
      sound = inv.sound;
      history = history;
      orderly = c.orderly.ensures facts entries new inv.sound history.reached;
      raised = inv.raised;
      left = with_items_is a.left c.leave_all-still.new.left size ∙ left;
      turns = subst T (sym c.push_reserved-2.ensures.items) (tables_next facts state new a.turns.items c.args.table answers inv.turns (λ id. inv.later (length a.turns.items) id (omega (arith, a.turns.ok.0))) empty);
      still = cut_still facts new c.leave_all-still.new.left c.leave_all-still.result (λ id. none_moved state new (a.window + 1) id answers (inv.later (a.window + 1) id (omega (arith, a.rounds.ok.0, inv.tables, order)))) left c.leave_all-still.ensures.still;
      tables = omega (arith, inv.tables, c.push_reserved.ensures.len, c.push_reserved-2.ensures.len);
      later = λ window id late. none_moved state new window id answers (inv.later window id (omega (arith, c.push_reserved-2.ensures.len, late)));
      withdrawals = omega (arith, fewer, space, c.push_reserved-3.ensures.len, c.push_reserved-3.ensures.capacity);
      rounds_room = omega (arith, inv.rounds_room, c.push_reserved.ensures.capacity);
      tables_room = omega (arith, inv.tables_room, c.push_reserved-2.ensures.capacity);
    }

pub returns-clause-state : goal.returns-clause-state
returns-clause-state c =
    let a = c.self.inside in
    let answers = cut_answers a.entries.items c.push_reserved-3.new.self.items c.args.number a.window c.push_reserved-3.ensures.items in
    published_state a.window a.rounds.items c.push_reserved.new.self.items a.finals (answers_of a.entries.items) (answers_of c.push_reserved-3.new.self.items) a.raised.raises c.args.round c.push_reserved.ensures.items answers
    ∙ ap (λ (p : Proceeding). with_round p.state c.args.round) c.self.view_is

pub returns-clause-still : goal.returns-clause-still
returns-clause-still c =
    let a = c.self.inside in
    let facts = facts_of a.season in
    let state = state_of a in
    let inv = c.self.invariant in
    let P : Proceeding → Type 0 = λ p. decided p.season p.state (asked p.season (Cut p.state.now)) ≡ Publish in
    let early = published_early facts state (subst P (sym c.self.view_is) c.requires.decided) in
    let order = inv.orderly.course.order (omega (arith, early)) in
    let there = slice_get_read a.turns.items _ c.from.result c.index.result.now refl (omega (arith, a.turns.ok.0, a.rounds.ok.0, order, inv.tables, c.from.ensures)) c.index.ensures in
    let turns : c.index.result.now ≡ table_along facts state state.now = inv.turns c.from.result c.index.result.now there ∙ ap (table_along facts state) c.from.ensures in
    let so : c.as_mut_slice.result.now ≡ left_along facts state = c.as_mut_slice.ensures.value ∙ inv.left in
    let fewer = cut_fewer facts state c.as_mut_slice.result.now c.leave_all-still.new.left c.index.result.now c.as_slice.result.now a.still_in c.leave_all-still.result so turns inv.still c.leave_all-still.ensures.left c.leave_all-still.ensures.still in
    let before = ap (λ (p : Proceeding). p.still) c.self.view_is in
    omega (arith, fewer, before)
