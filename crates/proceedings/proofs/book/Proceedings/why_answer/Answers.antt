use Rattle.std.proofs.Common.{◌≡◌, ◌-◌, ℕ, List, Some, length, option_copied, sym, ap, ◌∙◌, subst}
use Rattle.std.specs.Prelude.{slice_get}
use Rattle.rounds.specs.declared.round.Round.{Round}
use Rattle.season_facts.specs.Season.{facts_of}
use Rattle.office_moves.specs.State.{last_seat, round_at}
use Rattle.history_laws.proofs.Entering.{lists_full}
use Rattle.proceedings.specs.Kept.{state_of}
use Rattle.proceedings.specs.LastRound.{IsLastRound}
use Rattle.proceedings.specs.Proceeding.{Proceeding}
use Rattle.proceedings.proofs.Judged.{told_of}
use Rattle.proceedings.proofs.NextLemmas.{last_round}
use Rattle.proceedings.proofs.Published.{programmes_of, seeks_of}
use Rattle.proceedings.proofs.Replies.{why_is}
use Rattle.proceedings.proofs.book.Proceedings.why_answer.Goals as goal

pub why_beside-requires-clause-last : goal.why_beside-requires-clause-last
why_beside-requires-clause-last c =
    let a = c.self.inside in
    let round = c.in-Some.round.now in
    let last : Some round ≡ slice_get a.rounds.items (length a.rounds.items - 1) =
    sym (ap option_copied c.in-Some.is) ∙ (c.last.ensures.value ∙ ap (λ (xs : List Round). slice_get xs (length xs - 1)) c.deref.ensures.value) in
    let there = sym (last_round a.rounds.items (Some round) last) in
    let seeks = seeks_of (facts_of a.season) (state_of a) (length a.rounds.items) round c.self.invariant.sound c.self.invariant.orderly there in
    let P : Proceeding → Type 0 = λ p. IsLastRound p.season p.state round in
    subst P c.self.view_is (record {
      there = there;
      full = seeks.full ∙ lists_full (facts_of a.season) c.self.invariant.sound;
      seeks = seeks;
      programmes = programmes_of (facts_of a.season) (state_of a) (length a.rounds.items) round c.self.invariant.orderly.course there;
    })

pub returns : goal.returns
returns c =
    let value = c.args.self.now in
    let round = c.in-Some.round.now in
    let items = c.self.inside.rounds.items in
    let last : Some round ≡ slice_get items (length items - 1) =
    sym (ap option_copied c.in-Some.is) ∙ (c.last.ensures.value ∙ ap (λ (xs : List Round). slice_get xs (length xs - 1)) c.deref.ensures.value) in
    let P : Proceeding → Type 0 = λ p. round_at p.state.rounds (length p.state.rounds) ≡ Some round in
    let there = subst P c.self.view_is (sym (last_round items (Some round) last)) in
    why_is value.season value.state.rounds c.args.cand c.args.prog round c.last_seat.result c.why_beside.result there
    (told_of (λ (id : ℕ). last_seat value.season value.state.rounds id) c.args.cand.0 value.season.people c.args.at c.last_seat.result c.requires.place c.last_seat.ensures)
    c.why_beside.ensures
