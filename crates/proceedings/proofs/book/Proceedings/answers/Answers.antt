use Rattle.std.proofs.Common.{◌≡◌, ◌+◌, ◌++◌, ℕ, suc, List, arith, add-one, append-nil, sym, ap, ◌∙◌}
use Rattle.kept_rows.specs.declared.rows.AnswerRow.{AnswerRow}
use Rattle.office_moves.specs.Moves.{in_windows}
use Rattle.office_moves.specs.State.{in_window, rows_of}
use Rattle.proceedings.specs.Proceeding.{choices_in}
use Rattle.proceedings.proofs.OwnRows.{choices_at, rows_are}
use Rattle.proceedings.proofs.book.Proceedings.answers.Goals.{in-Some+in_ok-push_turns, in_default}
use Rattle.proceedings.proofs.book.Proceedings.answers.Goals as goal

-- one window more
next_window : (window : ℕ) (own rows more : List AnswerRow) → rows ≡ in_windows window own → more ≡ rows ++ in_window window own → more ≡ in_windows (window + 1) own
next_window window own rows more so next = next ∙ (ap (λ (done : List AnswerRow). done ++ in_window window own) so ∙ ap (λ (n : ℕ). in_windows n own) (sym (add-one window)))

pub loop-window-preserved : goal.loop-window-preserved
loop-window-preserved c =
    let value = c.args.self.now in
    let cand = c.args.cand in
    let window = c.loop-window.window in
    next_window window (rows_of cand.0 value.state.answers) c.loop-window.rows c.match-table.rows c.loop-window.invariant (elim c.match-table.branch [
      | in-Some+in_ok-push_turns w ↦
          let own = choices_at value.season value.state window cand c.args.at w.in-Some.table.now w.in-Some.ensures.some c.requires.place in
          w.rows-is ∙ (w.in_ok-push_turns.ensures (choices_in value.state window cand.0) own ∙ ap (λ (rows : List AnswerRow). c.loop-window.rows ++ rows) (rows_are value.state window cand (c.table.ensures.turns cand.0)))
      | in_default w ↦ w.rows-is ∙ (sym (append-nil c.loop-window.rows) ∙ ap (λ (rows : List AnswerRow). c.loop-window.rows ++ rows) (sym (w.in_default.ensures.none cand.0)))
    ])

pub returns : goal.returns
returns c =
    let value = c.args.self.now in
    let rounds : c.self.inside.season.rounds ≡ value.season.rounds = ap (λ p. p.season.rounds) c.self.view_is in
    let over = c.loop-window-test.false in
    let most = c.loop-window.auto.window-end in
    let end : c.loop-window.window ≡ suc value.season.rounds = omega (arith, rounds, over, most) in
    c.loop-window.invariant ∙ ap (λ (n : ℕ). in_windows n (rows_of c.args.cand.0 value.state.answers)) end
