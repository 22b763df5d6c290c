use Rattle.std.proofs.Common.{sym, ap, ◌∙◌, subst}
use Rattle.list_cutoffs.specs.Cutoffs.{AreKeptListed}
use Rattle.office_moves.specs.Moves.{programme_in}
use Rattle.season_facts.specs.Season.{facts_of}
use Rattle.office_moves.specs.State.{round_at}
use Rattle.proceedings.specs.Kept.{state_of}
use Rattle.proceedings.proofs.book.Proceedings.cutoffs.Goals as goal

pub cutoffs_in-requires-clause-kept : goal.cutoffs_in-requires-clause-kept
cutoffs_in-requires-clause-kept c =
    let a = c.self.inside in
    let programme = c.shown.result.now in
    let there = ap (λ p. programme_in (round_at p.state.rounds c.args.round) c.args.prog.0) c.self.view_is ∙ c.shown.ensures.lists in
    let kept = c.lists_hold_choices.ensures (facts_of a.season) (state_of a) c.args.round c.args.prog.0 programme c.self.invariant.sound c.self.invariant.orderly there in
    subst (λ seats. AreKeptListed seats programme.steps) (sym c.programme-seats.ensures.seats) kept
