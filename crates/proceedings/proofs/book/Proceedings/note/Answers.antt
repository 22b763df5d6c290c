use Rattle.std.proofs.Common.{◌≡◌, ◌<◌, ◌⊎◌, List, arith, length, refl, sym, ap, ◌∙◌, subst, slice_set}
use Rattle.std.specs.Prelude.{vec_capacity, vec_len}
use Rattle.std.proofs.lemmas.Option.{slice_get_read}
use Rattle.office_base.specs.declared.choice.Choice.TheVariants.{Withdraw}
use Rattle.office_moves.specs.History.{IsHistory}
use Rattle.season_facts.specs.Season.{facts_of}
use Rattle.office_moves.specs.State.{State, in_window, rows_of, with_row}
use Rattle.office_moves.specs.declared.moves.Entry.{Entry}
use Rattle.proceedings.specs.Changes.{IsAnswerAt}
use Rattle.proceedings.specs.Kept.{state_of}
use Rattle.proceedings.specs.Proceeding.{Proceeding, answers_of, choices_in, last_of, left_along, still_of}
use Rattle.proceedings.proofs.ChangeLemmas.{is_noted, later_noted, noted_few, noted_some, noted_state, noted_still, room_noted}
use Rattle.proceedings.proofs.CutLemmas.{AreTables}
use Rattle.proceedings.proofs.HistoryLemmas.{noted_on}
use Rattle.proceedings.proofs.NoteLemmas.{left_stays, put_here, tables_noted}
use Rattle.proceedings.proofs.book.Proceedings.note.Goals as goal

pub still_after-still-requires : goal.still_after-still-requires
still_after-still-requires c =
    let a = c.self.inside in
    let row = c.args.row in
    let P : Proceeding → Type 0 = λ p. IsAnswerAt p.season p.state row c.args.at in
    let n = is_noted (facts_of a.season) (state_of a) row c.args.at (subst P (sym c.self.view_is) c.requires.decided) in
    let some = noted_some (facts_of a.season) (state_of a) row c.args.at n in
    omega (arith, some, c.self.invariant.still)

pub put-requires : goal.put-requires
put-requires c =
    let a = c.self.inside in
    let row = c.args.row in
    let P : Proceeding → Type 0 = λ p. IsAnswerAt p.season p.state row c.args.at in
    let n = is_noted (facts_of a.season) (state_of a) row c.args.at (subst P (sym c.self.view_is) c.requires.decided) in
    let order = c.self.invariant.orderly.course.order n.few in
    let at = slice_get_read a.turns.items _ c.from.result c.index_mut.result.now refl (omega (arith, a.turns.ok.0, a.rounds.ok.0, order, c.self.invariant.tables, n.window, c.from.ensures)) c.index_mut.ensures.value in
    let so = c.self.invariant.turns c.from.result c.index_mut.result.now at in (
      choices_in (state_of a) c.from.result row.cand.0,
      put_here (facts_of a.season) (state_of a) row c.from.result c.args.at n.person c.index_mut.result.now n.here n.mine so,
      noted_few (facts_of a.season) (state_of a) row c.args.at c.from.result c.self.invariant.orderly.answers n c.from.ensures,
    )

pub invariant_of-self : goal.invariant_of-self
invariant_of-self c =
    let a = c.self.inside in
    let facts = facts_of a.season in
    let state = state_of a in
    let inv = c.self.invariant in
    let row = c.args.row in
    let entries : List Entry = c.push_reserved.new.self.items in
    let P : Proceeding → Type 0 = λ p. IsAnswerAt p.season p.state row c.args.at in
    let is = subst P (sym c.self.view_is) c.requires.decided in
    let Q : Proceeding → Type 0 = λ p. last_of p.entries < c.args.number in
    let above = subst Q (sym c.self.view_is) c.requires.number in
    let R : Proceeding → Type 0 = λ p. (p.still < p.room) ⊎ (row.choice ≡ Withdraw) in
    let space = subst R (sym c.self.view_is) c.requires.space in
    let n = is_noted facts state row c.args.at is in
    let order = inv.orderly.course.order n.few in
    let less : c.from.result < length a.turns.items = omega (arith, a.turns.ok.0, a.rounds.ok.0, order, inv.tables, n.window, c.from.ensures) in
    let there = slice_get_read a.turns.items _ c.from.result c.index_mut.result.now refl less c.index_mut.ensures.value in
    let same : record state { answers = answers_of entries } ≡ with_row state row =
    noted_state state.now state.rounds state.finals state.raises a.entries.items entries c.args.number row c.push_reserved.ensures.items in
    let H : State → Type 0 = λ s. IsHistory facts entries s in
    let G : List Entry → Type 0 = λ es. IsHistory facts es (with_row state row) in
    let history : IsHistory facts entries (record state { answers = answers_of entries }) =
    subst H (sym same) (subst G (sym c.push_reserved.ensures.items) (noted_on facts a.entries.items state row c.args.number (c.history_grows.ensures facts) inv.history above is.0)) in
    let T : State → Type 0 = λ s. AreTables facts s (slice_set a.turns.items c.from.result c.put.new.self) in
    record {
      sound = inv.sound;
      history = history;
      orderly = c.orderly.ensures facts entries (record state { answers = answers_of entries }) inv.sound history.reached;
      raised = inv.raised;
      left = inv.left ∙ (left_stays facts state row n.window ∙ ap (left_along facts) (sym same));
      turns = subst T (sym same) (tables_noted facts state row a.turns.items c.args.at c.from.result n.person c.index_mut.result.now c.put.new.self inv.sound.ranks.rising n.here n.mine c.from.ensures inv.turns there c.put.ensures);
      still = noted_still facts state row c.args.at a.still_in c.still_after-still.result inv.sound.ranks.rising n inv.still c.still_after-still.ensures ∙ ap (λ (s : State). still_of facts s) (sym same);
      tables = inv.tables;
      later = λ window id late. ap (λ (s : State). in_window window (rows_of id s.answers)) same
          ∙ later_noted state row window id (omega (arith, a.turns.ok.0, less, c.from.ensures, late)) (inv.later window id late);
      withdrawals = room_noted row.choice a.still_in c.still_after-still.result (vec_len a.entries) (vec_capacity a.entries) (vec_len c.push_reserved.new.self) (vec_capacity c.push_reserved.new.self)
          c.still_after-still.ensures space inv.withdrawals c.push_reserved.ensures.len (omega (arith, c.push_reserved.ensures.capacity));
      rounds_room = inv.rounds_room;
      tables_room = inv.tables_room;
    }

pub returns-clause-state : goal.returns-clause-state
returns-clause-state c =
    let a = c.self.inside in
    noted_state a.window a.rounds.items a.finals a.raised.raises a.entries.items c.push_reserved.new.self.items c.args.number c.args.row c.push_reserved.ensures.items
    ∙ ap (λ (p : Proceeding). with_row p.state c.args.row) c.self.view_is
