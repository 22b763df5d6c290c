use Rattle.std.proofs.Common.{◌≡◌, ◌-◌, List, Option, IfOk, length, option_copied, sym, ap, ◌∙◌, subst}
use Rattle.std.specs.Prelude.{slice_get}
use Rattle.office_base.specs.declared.person.ProgId.{ProgId}
use Rattle.rounds.specs.declared.round.Round.{Round}
use Rattle.office_moves.specs.Moves.{kept_programmes}
use Rattle.season_facts.specs.Season.{facts_of}
use Rattle.proceedings.specs.Kept.{state_of}
use Rattle.proceedings.specs.Proceeding.{Proceeding, table_along}
use Rattle.proceedings.proofs.NextLemmas.{by_kept}
use Rattle.proceedings.proofs.book.Proceedings.kept_by.Goals as goal

pub returns : goal.returns
returns c =
    let a = c.self.inside in
    let T : Proceeding → Type 0 = λ p. c.args.table.now ≡ table_along p.season p.state p.state.now in
    let turns = subst T (sym c.self.view_is) c.requires in
    let last : option_copied c.last.result ≡ slice_get a.rounds.items (length a.rounds.items - 1) = c.last.ensures.value ∙ ap (λ (xs : List Round). slice_get xs (length xs - 1)) c.deref.ensures.value in
    let same = by_kept (facts_of a.season) (state_of a) c.as_slice.result.now c.args.table.now (option_copied c.last.result) c.self.invariant.sound c.self.invariant.orderly
    (c.as_slice.ensures.value ∙ c.self.invariant.left) turns last in
    let R : List (Option ProgId) → Type 0 = λ v. IfOk c.kept_programmes.result (λ kept. kept.items ≡ v) in
    subst R (same ∙ ap (λ (p : Proceeding). kept_programmes p.season p.state) c.self.view_is) c.kept_programmes.ensures
