use Rattle.std.proofs.Common.{◌≡◌, ℕ, [], ◌∷◌, ap, arith, subst}
use Rattle.office_moves.specs.Facts.{SeasonFacts}
use Rattle.office_moves.specs.State.{State}
use Rattle.office_moves.specs.declared.moves.Act.TheVariants.{Cut}
use Rattle.replays.specs.Counted.{Follow}
use Rattle.replays.specs.Replay.{CutPasses}
use Rattle.replays.proofs.Cuts.{last_cut, round_cut}
use Rattle.replays.proofs.Numbers.{follow_from}
use Rattle.replays.proofs.cut.replay_cut.Goals as goal

-- a cut of proceedings with the same season and state
same_cut : (facts mid : SeasonFacts) (state now new : State) → mid ≡ facts → now ≡ state → CutPasses mid now new → CutPasses facts state new
same_cut facts mid state now new season same passes = subst (λ (f : SeasonFacts). CutPasses f state new) season (subst (λ (s : State). CutPasses mid s new) same passes)

pub returns-then-window-rounds-2-clause-passes : goal.returns-then-window-rounds-2-clause-passes
returns-then-window-rounds-2-clause-passes c =
    let mid = c.next_entry.new.book in
    let now = c.now-window.ensures.now in
    let rounds = ap (λ (facts : SeasonFacts). facts.rounds) c.season.ensures in
    let less = c.if-window-rounds-2.true in
    same_cut _ mid.season _ mid.state _ c.next_entry.ensures.season c.next_entry.ensures.state
    (round_cut mid.season mid.state _ _ (omega (arith, now, rounds, less)) c.in_ok-round.ensures c.publish.ensures.state)

pub returns-then-window-rounds-2-clause-entries : goal.returns-then-window-rounds-2-clause-entries
returns-then-window-rounds-2-clause-entries c =
    let mid = c.next_entry.new.book in
    let before = c.args.book.now.entries in
    subst (λ (now : ℕ). Follow (Cut now ∷ []) before c.publish.new.self.entries) (ap (λ (state : State). state.now) c.next_entry.ensures.state)
    (follow_from before mid.entries c.publish.new.self.entries c.in_ok-number.number (Cut mid.state.now) c.next_entry.ensures.entries c.in_ok-number.ensures.number c.publish.ensures.entries)

pub returns-clause-passes : goal.returns-clause-passes
returns-clause-passes c =
    let mid = c.next_entry.new.book in
    let now = c.now-window.ensures.now in
    let rounds = ap (λ (facts : SeasonFacts). facts.rounds) c.season.ensures in
    let most = c.if-window-rounds.false in
    let least = c.if-window-rounds-2.false in
    same_cut _ mid.season _ mid.state _ c.next_entry.ensures.season c.next_entry.ensures.state
    (last_cut mid.season mid.state _ _ (omega (arith, now, rounds, most, least)) c.in_ok-rows.ensures c.finish.ensures.state)

pub returns-clause-entries : goal.returns-clause-entries
returns-clause-entries c =
    let mid = c.next_entry.new.book in
    let before = c.args.book.now.entries in
    subst (λ (now : ℕ). Follow (Cut now ∷ []) before c.finish.new.self.entries) (ap (λ (state : State). state.now) c.next_entry.ensures.state)
    (follow_from before mid.entries c.finish.new.self.entries c.in_ok-number.number (Cut mid.state.now) c.next_entry.ensures.entries c.in_ok-number.ensures.number c.finish.ensures.entries)
