use Rattle.std.proofs.Common.{◌≡◌, Option, Some, length, option_copied, refl, sym, ap, ◌∙◌}
use Rattle.rounds.specs.declared.round.Round.{Round}
use Rattle.office_moves.specs.Moves.{programme_in}
use Rattle.season_facts.specs.Season.{facts_of}
use Rattle.office_moves.specs.State.{round_at}
use Rattle.proceedings.specs.Kept.{state_of}
use Rattle.proceedings.proofs.Published.{a_list_each, programmes_of}
use Rattle.proceedings.proofs.Replies.{index_within, no_round, shown_at}
use Rattle.proceedings.proofs.book.Proceedings.shown.Goals as goal

pub unreachable-requires : goal.unreachable-requires
unreachable-requires c = no_round c.args.self.now.state.rounds c.args.number c.requires.some c.requires.published (sym c.round.ensures ∙ ap option_copied c.in-None.is)

pub bounds-as_slice-from : goal.bounds-as_slice-from
bounds-as_slice-from c =
    let a = c.self.inside in
    let round = c.in-Some.round.now in
    let there : round_at a.rounds.items c.args.number ≡ Some round = ap (λ p. round_at p.state.rounds c.args.number) c.self.view_is ∙ (sym c.round.ensures ∙ ap option_copied c.in-Some.is) in
    let count = programmes_of (facts_of a.season) (state_of a) c.args.number round c.self.invariant.orderly.course there ∙ ap (λ p. length p.season.matrix.programmes) c.self.view_is in
    index_within c.from.result c.args.prog.0 (length c.args.self.now.season.matrix.programmes) (length c.as_slice.result.now) c.from.ensures c.requires.programme (ap length c.as_slice.ensures ∙ count)

pub returns : goal.returns
returns c =
    let a = c.self.inside in
    let round = c.in-Some.round.now in
    let there : round_at a.rounds.items c.args.number ≡ Some round = ap (λ p. round_at p.state.rounds c.args.number) c.self.view_is ∙ (sym c.round.ensures ∙ ap option_copied c.in-Some.is) in
    let count = programmes_of (facts_of a.season) (state_of a) c.args.number round c.self.invariant.orderly.course there ∙ ap (λ p. length p.season.matrix.programmes) c.self.view_is in
    let less = index_within c.args.prog.0 c.args.prog.0 (length c.args.self.now.season.matrix.programmes) (length round.programmes) refl c.requires.programme count in
    let lists = shown_at _ round.programmes c.from.result c.args.prog.0 c.index-as_slice-from.result c.as_slice.ensures c.from.ensures c.index-as_slice-from.is less in
    record {
      lists = ap (λ (o : Option Round). programme_in o c.args.prog.0) (sym c.round.ensures ∙ ap option_copied c.in-Some.is) ∙ lists;
      steps = a_list_each (facts_of a.season) (state_of a) c.args.number round c.args.prog.0 c.index-as_slice-from.result c.self.invariant.orderly.course there lists;
    }
