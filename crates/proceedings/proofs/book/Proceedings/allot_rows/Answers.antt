use Rattle.std.proofs.Common.{◌≡◌, List, IfOk, length, sym, ap, ◌∙◌, subst}
use Rattle.kept_rows.specs.declared.rows.AllotRow.{AllotRow}
use Rattle.office_moves.specs.Moves.{IsNextRound, allot_rows}
use Rattle.season_facts.specs.Season.{facts_of}
use Rattle.proceedings.specs.Kept.{state_of}
use Rattle.proceedings.specs.Proceeding.{Proceeding}
use Rattle.proceedings.proofs.NextLemmas.{by_allotted, next_full}
use Rattle.proceedings.proofs.book.Proceedings.allot_rows.Goals as goal

pub rows_of_round-requires : goal.rows_of_round-requires
rows_of_round-requires c =
    let a = c.self.inside in
    let N : Proceeding → Type 0 = λ p. IsNextRound p.season p.state c.args.round.now in
    let next = subst N (sym c.self.view_is) c.requires in
    ap (λ xs. length xs) c.as_slice.ensures ∙ (next_full (facts_of a.season) (state_of a) c.args.round.now c.self.invariant.sound next ∙ sym (ap (λ xs. length xs) c.people-people.ensures.same))

pub returns : goal.returns
returns c =
    let a = c.self.inside in
    let N : Proceeding → Type 0 = λ p. IsNextRound p.season p.state c.args.round.now in
    let next = subst N (sym c.self.view_is) c.requires in
    let same = by_allotted (facts_of a.season) (state_of a) c.people-people.result.now c.as_slice.result.now c.args.round.now c.people-people.ensures.same c.as_slice.ensures c.self.invariant.sound next in
    let R : List AllotRow → Type 0 = λ v. IfOk c.rows_of_round.result (λ rows. rows ≡ v) in
    subst R (same ∙ ap (λ (p : Proceeding). allot_rows p.season c.args.round.now) c.self.view_is) c.rows_of_round.ensures
