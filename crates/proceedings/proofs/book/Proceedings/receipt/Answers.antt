use Rattle.std.proofs.Common.{◌≡◌, ◌≤◌, ◌+◌, ℕ, Some, option_copied, sym, ap, ◌∙◌, subst, length}
use Rattle.rounds.specs.Round.{seated}
use Rattle.office_moves.specs.State.{round_at}
use Rattle.proceedings.proofs.Published.{published, rows_most, seated_most}
use Rattle.proceedings.proofs.Replies.{few_fit}
use Rattle.proceedings.proofs.book.Proceedings.receipt.Goals as goal

pub overflow_cast-seated : goal.overflow_cast-seated
overflow_cast-seated c =
    let a = c.self.inside in
    let round = c.in-Some.made.now in
    let there : round_at a.rounds.items (c.args.window + 1) ≡ Some round =
    ap (λ p. round_at p.state.rounds (c.args.window + 1)) c.self.view_is ∙ (sym c.round.ensures ∙ ap option_copied c.in-Some.is) in
    let p = published a.rounds.items (c.args.window + 1) round there in
    let P : ℕ → Type 0 = λ n. seated round.seats ≤ n in
    few_fit c.seated.result (seated round.seats) (length a.season.register.people) c.seated.ensures (subst P (c.self.invariant.orderly.entries p.0 round p.2) (seated_most round.seats)) c.self.invariant.sound.ranks.few

pub overflow_cast-admitted : goal.overflow_cast-admitted
overflow_cast-admitted c =
    let finals : c.self.inside.finals ≡ Some c.in-Some-finals.rows.now = ap (λ p. p.state.finals) c.self.view_is ∙ (sym c.finals.ensures ∙ ap option_copied c.in-Some-finals.is) in
    let rows = c.self.invariant.orderly.course.finals c.in-Some-finals.rows.now finals in
    few_fit c.len.result _ _ (c.len.ensures ∙ ap length rows) (rows_most _ _ c.self.inside.season.register.people) c.self.invariant.sound.ranks.few
