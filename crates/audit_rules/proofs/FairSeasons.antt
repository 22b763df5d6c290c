-- Where no clause is broken along a script, every round is fair.
use Rattle.std.proofs.Common.{◌≡◌, ◌<◌, ◌≤◌, ◌+◌, ◌*◌, inl, inr, ℕ, zero, suc, add-one, Bool, true, false, List, [], ◌∷◌, ◌++◌, Option, Some, None, length, take, drop, arith, refl, sym, ap, ◌∙◌, subst, ◌==◌, not, nat_lt, if◌then◌else◌}
use Rattle.std.specs.Prelude.{◌&&◌, ◌||◌, ◌-◌, min, nat_le, slice_get}
use Rattle.std.proofs.lemmas.Nat.{mul-le}
use Rattle.std.proofs.lemmas.Bool.{cases_lt}
use Rattle.std.proofs.lemmas.Bool.Decides.{nat_tests}
use Rattle.std.proofs.lemmas.List.{length-drop, length-take, take-append-drop, take_all}
use Rattle.office_asks.specs.declared.ask.Ask.{Ask}
use Rattle.office_asks.specs.declared.ask.Ask.TheVariants.{Cut as AskCut}
use Rattle.office_asks.specs.declared.ask.By.{By}
use Rattle.office_asks.specs.declared.ask.Request.{Request}
use Rattle.office_base.proofs.Lists.{there_is}
use Rattle.seat_matrix.specs.Laws.{OneStepChanges}
use Rattle.office_moves.specs.Decided.{decided}
use Rattle.office_moves.specs.Facts.{IsSound, SeasonFacts}
use Rattle.office_moves.specs.History.{newly}
use Rattle.office_moves.specs.Judge.{is_clerk, refuse_if}
use Rattle.office_moves.specs.State.{State, opening}
use Rattle.office_moves.specs.declared.decide.Decision.{Decision}
use Rattle.office_moves.specs.declared.decide.Decision.TheVariants.{CutAgain, Publish, Finish}
use Rattle.office_moves.specs.declared.moves.Act.{Act}
use Rattle.office_moves.specs.declared.refusal.Refusal.TheVariants.{Ahead, Denied}
use Rattle.history_laws.proofs.Changes.{Accepts, LastCut, NewAnswer, NewCut, NewRaise, accepts}
use Rattle.audit_rules.specs.Cut.{CutHolds, EndHolds, HoldsAt}
use Rattle.audit_rules.specs.Fair.{cut_by, cuts_of}
use Rattle.audit_rules.specs.InOrder.{IsInOrder}
use Rattle.audit_rules.specs.Laws.{EveryTextIsTaken, SoundIsFair}
use Rattle.audit_rules.specs.Papers.{Papers, lists_after}
use Rattle.audit_rules.specs.Replay.{before, replayed, taken}
use Rattle.audit_rules.specs.Verdict.{HoldsThere}
use Rattle.audit_rules.proofs.FairCuts.{AreLawful, fair_cut}
use Rattle.audit_rules.proofs.Ordering.{before_next, in_order_at_first, in_order_next, nothing_new}

-- ---- how many windows are cut

-- the number of cuts after a decision on a cut, by its tests
abbrev when_cut : (facts : SeasonFacts) (papers : Papers) (state : State) (clerk early ahead last : Bool) (window : ℕ) → ℕ
when_cut facts papers state clerk early ahead last window =
    (taken facts papers state (refuse_if (not clerk) (Denied 2) (if early then CutAgain window else refuse_if ahead (Ahead state.now) (if last then Finish else Publish)))).now

cut_counts : (facts : SeasonFacts) (papers : Papers) (state : State) (clerk early ahead last : Bool) (window : ℕ)
    → when_cut facts papers state clerk early ahead last window ≡ (if clerk && (not early && not ahead) then state.now + 1 else state.now)
cut_counts facts papers state true false false true window = refl
cut_counts facts papers state _ _ _ _ window = refl

same_cut : (now rounds window : ℕ) → (not (nat_lt window now) && not (nat_lt now window || nat_lt rounds window)) ≡ (window == now && nat_le now rounds)
same_cut now rounds window = grind (arith, nat_tests)

both_tests : (clerk a b : Bool) (m n : ℕ) → a ≡ b → (if clerk && a then m else n) ≡ (if clerk && b then m else n)
both_tests clerk a b m n e = ap (λ (z : Bool). if clerk && z then m else n) e

-- what is newly accepted of another ask cuts no window
not_cut : (facts : SeasonFacts) (papers : Papers) (state : State) (request : Request) → ((window : ℕ) → request.ask ≡ AskCut window → ⊥)
    → (taken facts papers state (decided facts state request)).now ≡ state.now
not_cut facts papers state request other = go (newly state.now (decided facts state request)) refl
  where
    accepted : (act : Act) → Accepts facts state request.by request.ask act → (taken facts papers state (decided facts state request)).now ≡ state.now
    accepted act (NewAnswer row asks is n decides) = ap (λ (d : Decision). (taken facts papers state d).now) decides
    accepted act (NewRaise row code asks found known is n decides) = ap (λ (d : Decision). (taken facts papers state d).now) decides
    accepted act (LastCut window asks is n last decides) = absurd (other window asks)
    accepted act (NewCut window asks is n less decides) = absurd (other window asks)

    go : (o : Option Act) → newly state.now (decided facts state request) ≡ o → (taken facts papers state (decided facts state request)).now ≡ state.now
    go None e = ap (λ (s : State). s.now) (nothing_new facts papers state (decided facts state request) e)
    go (Some act) e = accepted act (accepts facts state request.by request.ask act e)

step_counts : (facts : SeasonFacts) (papers : Papers) (state : State) (by : By) (ask : Ask)
    → (taken facts papers state (decided facts state (record { by = by; ask = ask }))).now ≡ cut_by facts.rounds state.now (is_clerk by) ask
step_counts facts papers state by (AskCut window) =
    cut_counts facts papers state (is_clerk by) (nat_lt window state.now) (nat_lt state.now window || nat_lt facts.rounds window) (window == facts.rounds) window
    ∙ both_tests (is_clerk by) _ _ (state.now + 1) state.now (same_cut state.now facts.rounds window)
step_counts facts papers state by ask = not_cut facts papers state (record { by = by; ask = ask }) (λ window e. absurd (cc))

pub replay_counts : (facts : SeasonFacts) (papers : Papers) (state : State) (script : List Request) → (replayed facts papers state script).now ≡ cuts_of facts.rounds state.now script
replay_counts facts papers state [] = refl
replay_counts facts papers state (request ∷ script) =
    replay_counts facts papers (taken facts papers state (decided facts state request)) script
    ∙ ap (λ (n : ℕ). cuts_of facts.rounds n script) (step_counts facts papers state request.by request.ask)

cuts_append : (rounds now : ℕ) (some more : List Request) → cuts_of rounds now (some ++ more) ≡ cuts_of rounds (cuts_of rounds now some) more
cuts_append rounds now [] more = refl
cuts_append rounds now (request ∷ some) more = cuts_append rounds (cut_by rounds now (is_clerk request.by) request.ask) some more

step_grows : (rounds now : ℕ) (clerk : Bool) (ask : Ask) → now ≤ cut_by rounds now clerk ask
step_grows rounds now clerk (AskCut window) = by (clerk && (window == now && nat_le now rounds))
  where
    by : (b : Bool) → now ≤ (if b then now + 1 else now)
    by true = omega arith
    by false = omega arith
step_grows rounds now clerk _ = omega arith

cuts_grow : (rounds now : ℕ) (script : List Request) → now ≤ cuts_of rounds now script
cuts_grow rounds now [] = omega arith
cuts_grow rounds now (request ∷ script) =
    let first = step_grows rounds now (is_clerk request.by) request.ask in
    let rest = cuts_grow rounds (cut_by rounds now (is_clerk request.by) request.ask) script in
    omega (arith, first, rest)

-- a script cuts at least so many windows as it had before one of its requests
pub cut_before : (facts : SeasonFacts) (script : List Request) (papers : Papers) (j : ℕ) → (before facts script papers j).now ≤ cuts_of facts.rounds 0 script
cut_before facts script papers j =
    let here = replay_counts facts papers opening (take j script) in
    let rest = cuts_grow facts.rounds (cuts_of facts.rounds 0 (take j script)) (drop j script) in
    let whole : cuts_of facts.rounds 0 script ≡ cuts_of facts.rounds (cuts_of facts.rounds 0 (take j script)) (drop j script) =
    ap (cuts_of facts.rounds 0) (sym (take-append-drop j script)) ∙ cuts_append facts.rounds 0 (take j script) (drop j script) in
    omega (arith, here, rest, whole)

-- ---- cuts that publish and cuts that end

pub publishes_early : (facts : SeasonFacts) (state : State) (request : Request) → decided facts state request ≡ Publish → state.now < facts.rounds
publishes_early facts state request e = accepted (accepts facts state request.by request.ask _ (ap (newly state.now) e))
  where
    accepted : {act : Act} → Accepts facts state request.by request.ask act → state.now < facts.rounds
    accepted (NewAnswer row asks is n decides) = absurd (let d = sym e ∙ decides in cc)
    accepted (NewRaise row code asks found known is n decides) = absurd (let d = sym e ∙ decides in cc)
    accepted (LastCut window asks is n last decides) = absurd (let d = sym e ∙ decides in cc)
    accepted (NewCut window asks is n less decides) = less

pub finishes_last : (facts : SeasonFacts) (state : State) (request : Request) → decided facts state request ≡ Finish → state.now ≡ facts.rounds
finishes_last facts state request e = accepted (accepts facts state request.by request.ask _ (ap (newly state.now) e))
  where
    accepted : {act : Act} → Accepts facts state request.by request.ask act → state.now ≡ facts.rounds
    accepted (NewAnswer row asks is n decides) = absurd (let d = sym e ∙ decides in cc)
    accepted (NewRaise row code asks found known is n decides) = absurd (let d = sym e ∙ decides in cc)
    accepted (LastCut window asks is n last decides) = last
    accepted (NewCut window asks is n less decides) = absurd (let d = sym e ∙ decides in cc)

-- ---- the lists of a round

product_more : (n c m : ℕ) → n < m → n * c + c ≤ m * c
product_more n c m less =
    let e : (n + 1) * c ≡ n * c + c = omega arith in
    let f = mul-le (n + 1) c m c (omega (arith, less)) (omega arith) in
    omega (arith, e, f)

pub listed_there : (papers : Papers) (count now : ℕ) → now < length papers.rounds → length papers.lists ≡ length papers.rounds * count → length (lists_after papers count now) ≡ count
listed_there papers count now less all =
    let room = product_more now count (length papers.rounds) less in
    let left = length-drop (now * count) papers.lists in
    let some = length-take count (drop (now * count) papers.lists) in
    some ∙ min_is count (length (drop (now * count) papers.lists)) (omega (arith, room, left, all))
  where
    min_is : (m n : ℕ) → m ≤ n → min m n ≡ m
    min_is m n few = omega (arith, few)

-- ---- along a script

past_end : (facts : SeasonFacts) (script : List Request) (papers : Papers) (j : ℕ) → length script ≤ j → before facts script papers (suc j) ≡ before facts script papers j
past_end facts script papers j end =
    ap (replayed facts papers opening) (take_all (suc j) script (omega (arith, end)) ∙ sym (take_all j script end))

-- before each request the state is in order, where no clause was broken before it
pub in_order : OneStepChanges → (facts : SeasonFacts) (script : List Request) (papers : Papers) → IsSound facts → (j : ℕ)
    → ((i : ℕ) (request : Request) → i < j → slice_get script i ≡ Some request → HoldsThere facts script papers i request) → IsInOrder facts (before facts script papers j)
in_order law facts script papers sound zero holds = in_order_at_first facts sound
in_order law facts script papers sound (suc j) holds =
    let here = in_order law facts script papers sound j (λ i request less there. holds i request (omega (arith, less)) there) in
    elim (cases_lt j (length script)) [
      | inl less ↦
          let request = there_is script j less in
          let next = in_order_next law facts papers (before facts script papers j) request.0 sound here (holds j request.0 (omega arith) request.1) in
          subst (IsInOrder facts) (sym (ap (before facts script papers) (sym (add-one j)) ∙ before_next facts script papers j request.0 request.1)) next
      | inr end ↦ subst (IsInOrder facts) (sym (past_end facts script papers j end)) here
    ]

pub sound_is_fair : OneStepChanges → AreLawful → EveryTextIsTaken → SoundIsFair
sound_is_fair law laws taken_all facts script papers rounds sound whole verdict = record {
  rounds = λ j request there publishes.
      let state = before facts script papers j in
      let early = publishes_early facts state request publishes in
      let order = in_order law facts script papers sound j (λ i other less at. verdict.1 i other at) in
      let holds' : CutHolds facts papers state = subst (λ (d : Decision). HoldsAt facts papers state d) publishes (verdict.1 j request there) in
      let next : (before facts script papers (j + 1)).now ≡ state.now + 1 =
      ap (λ (s : State). s.now) (before_next facts script papers j request there) ∙ ap (λ (d : Decision). (taken facts papers state d).now) publishes in
      let cuts = cut_before facts script papers (j + 1) in
      let few = whole.rounds in
      let less : state.now < length papers.rounds = omega (arith, next, cuts, few, early) in
      fair_cut facts papers state (record { laws = laws; sound = sound; order = order; holds = holds'; listed = listed_there papers (length facts.matrix.programmes) state.now less whole.lists }) early;
  finals = λ j request there finishes.
      let state = before facts script papers j in
      let last = finishes_last facts state request finishes in
      let order = in_order law facts script papers sound j (λ i other less at. verdict.1 i other at) in
      let holds' : EndHolds facts papers state = subst (λ (d : Decision). HoldsAt facts papers state d) finishes (verdict.1 j request there) in
      record { finals = holds'; nobody_falls = λ id keeps. order.seated id (omega (arith, last)) keeps };
  taken = taken_all facts script papers whole;
}
