use Rattle.std.proofs.Common.{List, arith, length, sym, ap, ◌∙◌}
use Rattle.office_base.specs.declared.choice.Choice.{Choice}
use Rattle.answer_table.specs.Turns.{no_turns}
use Rattle.season_facts.specs.Season.{facts_of}
use Rattle.proceedings.specs.Kept.{state_of}
use Rattle.proceedings.specs.Proceeding.{Proceeding, table_along}
use Rattle.proceedings.proofs.CutLemmas.{no_table}
use Rattle.proceedings.proofs.book.Proceedings.guaranteed.Goals as goal

pub kept_by-requires-in-None : goal.kept_by-requires-in-None
kept_by-requires-in-None c =
    let a = c.self.inside in
    let items = ap (λ (xs : List (List (List Choice))). length xs) c.deref.ensures.value in
    let end = c.in-None.ensures.lookup.3 in
    let empty = no_table (facts_of a.season) (state_of a) a.window (λ id. c.self.invariant.later a.window id (omega (arith, a.turns.ok.0, end, items, c.from.ensures))) in
    c.in_ok-table-in-None.ensures ∙ (ap (λ (p : Proceeding). no_turns (length p.season.people)) (sym c.self.view_is) ∙ (empty ∙ ap (λ (p : Proceeding). table_along p.season p.state p.state.now) c.self.view_is))
