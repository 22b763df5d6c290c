-- The judgment of the cut of the open window.
use Rattle.std.proofs.Common.{◌≡◌, ◌≤◌, ℕ, Bool, true, false, refl, arith, ◌==◌, nat_lt, if◌then◌else◌}
use Rattle.std.specs.Prelude.{◌||◌}
use Rattle.std.proofs.lemmas.Bool.{le-ltb, or_from}
use Rattle.office_moves.specs.Decided.{decided}
use Rattle.office_moves.specs.Facts.{SeasonFacts}
use Rattle.office_moves.specs.History.{asked}
use Rattle.office_moves.specs.Judge.{refuse_if}
use Rattle.office_moves.specs.State.{State}
use Rattle.office_moves.specs.declared.decide.Decision.TheVariants.{CutAgain, Finish, Publish}
use Rattle.office_moves.specs.declared.moves.Act.TheVariants.{Cut}
use Rattle.office_moves.specs.declared.refusal.Refusal.{Refusal}
use Rattle.office_moves.specs.declared.refusal.Refusal.TheVariants.{Ahead}

chain : (early ahead last : Bool) (now : ℕ) (refusal : Refusal) → early ≡ false → ahead ≡ false → (if early then CutAgain now else refuse_if ahead refusal (if last then Finish else Publish)) ≡ (if last then Finish else Publish)
chain true ahead last now refusal e f = absurd (cc)
chain false true last now refusal e f = absurd (cc)
chain false false last now refusal e f = refl

-- The cut of the open window finishes the season if the window is the last one, and publishes a round otherwise.
pub ends : (facts : SeasonFacts) (state : State) → state.now ≤ facts.rounds → decided facts state (asked facts (Cut state.now)) ≡ (if state.now == facts.rounds then Finish else Publish)
ends facts state few =
    chain (nat_lt state.now state.now) (nat_lt state.now state.now || nat_lt facts.rounds state.now) (state.now == facts.rounds) state.now (Ahead state.now) (le-ltb state.now state.now (omega arith))
    (or_from (nat_lt state.now state.now) (nat_lt facts.rounds state.now) (le-ltb state.now state.now (omega arith)) (le-ltb facts.rounds state.now few))
