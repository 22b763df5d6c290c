-- Each published text of a round is taken by a cut of the script.
use Rattle.std.proofs.Common.{◌≡◌, ◌<◌, ◌≤◌, ◌+◌, ◌⊎◌, inl, inr, ℕ, suc, List, [], ◌∷◌, Some, take, arith, refl}
use Rattle.std.specs.Prelude.{slice_get}
use Rattle.std.proofs.lemmas.Bool.{cases_lt}
use Rattle.office_asks.specs.declared.ask.Request.{Request}
use Rattle.office_moves.specs.Decided.{decided}
use Rattle.office_moves.specs.Facts.{SeasonFacts}
use Rattle.office_moves.specs.State.{State, opening}
use Rattle.office_moves.specs.declared.decide.Decision.{Decision}
use Rattle.office_moves.specs.declared.decide.Decision.TheVariants.{Publish, Finish}
use Rattle.audit_rules.specs.Laws.{EveryTextIsTaken}
use Rattle.audit_rules.specs.Papers.{Papers}
use Rattle.audit_rules.specs.Replay.{replayed, taken}
use Rattle.audit_rules.proofs.FairSeasons.{finishes_last, publishes_early, replay_counts}

-- a decision leaves the open window, or is a cut of it
moves_on : (facts : SeasonFacts) (papers : Papers) (state : State) (decision : Decision)
    → ((taken facts papers state decision).now ≡ state.now) ⊎ (((taken facts papers state decision).now ≡ state.now + 1) × ((decision ≡ Publish) ⊎ (decision ≡ Finish)))
moves_on facts papers state Publish = inr (refl, inl refl)
moves_on facts papers state Finish = inr (refl, inr refl)
moves_on facts papers state _ = inl refl

-- a request cuts this window, from a state on
record CutsIt (facts : SeasonFacts) (papers : Papers) (state : State) (script : List Request) (window : ℕ) : Type 0 where
  pub at : ℕ
  pub request : Request
  pub there : slice_get script at ≡ Some request
  pub now : (replayed facts papers state (take at script)).now ≡ window
  pub decides : (decided facts (replayed facts papers state (take at script)) request ≡ Publish) ⊎ (decided facts (replayed facts papers state (take at script)) request ≡ Finish)

cuts_it : (facts : SeasonFacts) (papers : Papers) (state : State) (script : List Request) (window : ℕ) → state.now ≤ window → window < (replayed facts papers state script).now
    → CutsIt facts papers state script window
cuts_it facts papers state [] window from less = absurd (omega (arith, from, less))
cuts_it facts papers state (request ∷ script) window from less =
    let next = taken facts papers state (decided facts state request) in
    elim (cases_lt window next.now) [
      | inl here ↦ elim (moves_on facts papers state (decided facts state request)) [
        | inl same ↦ absurd (omega (arith, from, here, same))
        | inr cut ↦ record { at = 0; request = request; there = refl; now = (let more = cut.0 in omega (arith, from, here, more)); decides = cut.1 }
      ]
      | inr past ↦
          let rest = cuts_it facts papers next script window past less in
          record { at = suc rest.at; request = rest.request; there = rest.there; now = rest.now; decides = rest.decides }
    ]

pub every_text_is_taken : EveryTextIsTaken
every_text_is_taken facts script papers whole = record {
  rounds = λ number less.
      let count = replay_counts facts papers opening script in
      let few = whole.rounds in
      let cut = cuts_it facts papers opening script number (omega arith) (omega (arith, count, few, less)) in
      record {
        at = cut.at;
        request = cut.request;
        there = cut.there;
        now = cut.now;
        decides = elim cut.decides [
          | inl publishes ↦ publishes
          | inr ends ↦ absurd (
              let last = finishes_last facts (replayed facts papers opening (take cut.at script)) cut.request ends in
              let now = cut.now in
              omega (arith, last, now, few, less))
        ];
      };
  finals = λ less.
      let count = replay_counts facts papers opening script in
      let cut = cuts_it facts papers opening script facts.rounds (omega arith) (omega (arith, count, less)) in
      record {
        at = cut.at;
        request = cut.request;
        there = cut.there;
        now = cut.now;
        decides = elim cut.decides [
          | inl publishes ↦ absurd (
              let early = publishes_early facts (replayed facts papers opening (take cut.at script)) cut.request publishes in
              let now = cut.now in
              omega (arith, early, now))
          | inr ends ↦ ends
        ];
      };
}
