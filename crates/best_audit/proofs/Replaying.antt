-- Down a script in which no clause is broken.
use Rattle.std.proofs.Common.{◌≡◌, ◌<◌, ◌≤◌, ◌+◌, ◌↔◌, inl, inr, ℕ, Bool, true, List, Option, Some, None, Result, Ok, Err, length, get_or, arith, ap, refl, subst, sym, ◌∙◌}
use Rattle.std.specs.Prelude.{IfOk, IsTrue, is_some, not, nat_lt, slice_get, ◌||◌, ◌==◌, if◌then◌else◌}
use Rattle.std.proofs.lemmas.Bool.{cases_eq}
use Rattle.std.proofs.lemmas.Bool.Decides.{nat_tests}
use Rattle.std.proofs.lemmas.Option.{get_or_from_slice_get, slice_get_within}
use Rattle.office_asks.specs.declared.ask.Ask.{Ask}
use Rattle.office_asks.specs.declared.ask.Ask.TheVariants.{Cut as AskCut}
use Rattle.office_asks.specs.declared.ask.By.{By}
use Rattle.office_asks.specs.declared.ask.Request.{Request}
use Rattle.office_base.specs.declared.errors.OutOfMemory.{OutOfMemory}
use Rattle.office_base.specs.declared.person.CandId.{CandId}
use Rattle.office_base.proofs.Lists.{there_is}
use Rattle.office_moves.specs.Decided.{decide_cut, decided, decided_by}
use Rattle.office_moves.specs.Facts.{SeasonFacts}
use Rattle.office_moves.specs.Judge.{is_clerk, refuse_if}
use Rattle.office_moves.specs.State.{State}
use Rattle.office_moves.specs.declared.decide.Decision.TheVariants.{Publish, Finish, CutAgain}
use Rattle.office_moves.specs.declared.moves.Act.TheVariants.{Cut}
use Rattle.office_moves.specs.declared.refusal.Refusal.TheVariants.{Denied, Ahead}
use Rattle.office_moves.specs.History.{newly}
use Rattle.history_laws.proofs.Changes.{Accepts, accepts}
use Rattle.audit_rules.specs.Fair.{AreFairRounds}
use Rattle.audit_rules.specs.Laws.{OneVerdict}
use Rattle.audit_rules.specs.Papers.{Papers}
use Rattle.audit_rules.specs.Replay.{before}
use Rattle.audit_rules.specs.Verdict.{IsVerdict}
use Rattle.audit_rules.specs.declared.verdict.Verdict.TheVariants.{Sound, Broken}
use Rattle.audit_rules.proofs.Ordering.{before_next}
use Rattle.audit_rules.specs.declared.fault.Fault.{Fault}
use Rattle.season_audit.specs.Audit.{AllHold, ComesTo, IsUpTo}
use Rattle.season_audit.specs.declared.auditor.Auditor.{Auditor}
use Rattle.best_audit.specs.Best.{AreBestRounds, GainsFirst, IsBestCut, IsFirstNotBest, PublishesAt}
use Rattle.best_audit.specs.Compared.{GainComesTo, IsFairText, RequestComesTo, Setting}

-- ---- which request publishes a round

-- A request that publishes is a cut of the open window by the clerk, before the last window.
pub record IsPublishing (facts : SeasonFacts) (state : State) (by : By) (ask : Ask) : Type 0 where
  pub window : ℕ
  pub asks : ask ≡ AskCut window
  pub clerk : is_clerk by ≡ true
  pub opened : window ≡ state.now
  pub early : state.now < facts.rounds

from_accepts : (facts : SeasonFacts) (state : State) (by : By) (ask : Ask) → decided_by facts state by ask ≡ Publish → Accepts facts state by ask (Cut state.now) → IsPublishing facts state by ask
from_accepts facts state by ask is (Accepts.NewAnswer row asks act n decides) = absurd (cc)
from_accepts facts state by ask is (Accepts.NewRaise row code asks found known act n decides) = absurd (cc)
from_accepts facts state by ask is (Accepts.LastCut window asks act n last decides) = absurd (cc)
from_accepts facts state by ask is (Accepts.NewCut window asks act n early decides) = record { window = window; asks = asks; clerk = n.clerk; opened = n.opened; early = early }

pub publishing : (facts : SeasonFacts) (state : State) (by : By) (ask : Ask) → decided_by facts state by ask ≡ Publish → IsPublishing facts state by ask
publishing facts state by ask is = from_accepts facts state by ask is (accepts facts state by ask (Cut state.now) (ap (newly state.now) is))

-- ---- the next request

-- what is known of the request at a place, whichever request it is
abbrev pub IsTaken : SeasonFacts → List Request → Papers → ℕ → Auditor → Option Fault → Type 0
IsTaken facts script papers j new fault =
    (request : Request) → slice_get script j ≡ Some request → ComesTo facts papers (before facts script papers j) (decided facts (before facts script papers j) request) new fault

-- no clause is broken there
pub never_broken : (facts : SeasonFacts) (script : List Request) (papers : Papers) (j : ℕ) (new : Auditor) (fault : Option Fault) (found : Fault) → OneVerdict → AllHold facts script papers → j < length script
    → IsTaken facts script papers j new fault → fault ≡ Some found → ⊥
never_broken facts script papers j new fault found one all less taken some =
    let here = there_is script j less in
    let breaks = subst (λ (f : Option Fault). ComesTo facts papers (before facts script papers j) (decided facts (before facts script papers j) here.0) new f) some (taken here.0 here.1) in
    let sound : IsVerdict facts script papers (Sound (length papers.rounds)) = (refl, all) in
    let broken : IsVerdict facts script papers (Broken ((before facts script papers j).now + 1) found.clause found.prog found.cand) =
    record { at = j; request = here.0; there = here.1; earlier = λ i other before' there. all i other there; number = refl; here = breaks } in
    let same = one facts script papers (Sound (length papers.rounds)) (Broken ((before facts script papers j).now + 1) found.clause found.prog found.cand) sound broken in
    absurd (cc)

pub goes_on : (facts : SeasonFacts) (script : List Request) (papers : Papers) (j : ℕ) (new : Auditor) (fault : Option Fault) → j < length script → IsTaken facts script papers j new fault → fault ≡ None
    → IsUpTo facts (before facts script papers (j + 1)) new
goes_on facts script papers j new fault less taken none =
    let here = there_is script j less in
    let passes = subst (λ (f : Option Fault). ComesTo facts papers (before facts script papers j) (decided facts (before facts script papers j) here.0) new f) none (taken here.0 here.1) in
    subst (λ (s : State). IsUpTo facts s new) (sym (before_next facts script papers j here.0 here.1)) passes.next

pub found_there : (fault : Option Fault) → is_some fault ≡ true → (found : Fault) × (fault ≡ Some found)
found_there None e = absurd (cc)
found_there (Some fault) e = (fault, refl)

-- ---- down the script

-- The replay is at this place of the script, and every round before is the best one.
pub record Gone (facts : SeasonFacts) (script : List Request) (papers : Papers) (j : ℕ) (auditor : Auditor) : Type 0 where
  pub upto : IsUpTo facts (before facts script papers j) auditor
  pub earlier : (i : ℕ) → i < j → PublishesAt facts script papers i → IsBestCut facts papers (before facts script papers i)

pub gone_next : (facts : SeasonFacts) (script : List Request) (papers : Papers) (j : ℕ) (old new : Auditor) → Gone facts script papers j old
    → (PublishesAt facts script papers j → IsBestCut facts papers (before facts script papers j)) → IsUpTo facts (before facts script papers (j + 1)) new → Gone facts script papers (j + 1) new
gone_next facts script papers j old new gone here upto = record {
  upto = upto;
  earlier = λ i less publishes. elim (cases_eq i j) [
    | inl same ↦ subst (λ (k : ℕ). IsBestCut facts papers (before facts script papers k)) (sym same) (here (subst (λ (k : ℕ). PublishesAt facts script papers k) same publishes))
    | inr apart ↦ gone.earlier i (omega (arith, less, apart)) publishes
  ];
}

pub all_best : (facts : SeasonFacts) (script : List Request) (papers : Papers) (j : ℕ) (auditor : Auditor) → Gone facts script papers j auditor → length script ≤ j → AreBestRounds facts script papers
all_best facts script papers j auditor gone end i publishes = gone.earlier i (let less = slice_get_within script i publishes.0 publishes.1 in omega (arith, less, end)) publishes

-- the text of a round that is published is fair
pub fair_text : (facts : SeasonFacts) (script : List Request) (papers : Papers) (j : ℕ) → AreFairRounds facts script papers → PublishesAt facts script papers j → IsFairText facts papers (before facts script papers j)
fair_text facts script papers j fair publishes = (fair.rounds j publishes.0 publishes.1 publishes.2).fair

pub first_not_best : (facts : SeasonFacts) (script : List Request) (papers : Papers) (j round : ℕ) (auditor : Auditor) (cand : CandId) → Gone facts script papers j auditor → PublishesAt facts script papers j
    → round ≡ auditor.window + 1 → GainsFirst facts papers (before facts script papers j) cand → IsFirstNotBest facts script papers round cand
first_not_best facts script papers j round auditor cand gone publishes number first = record {
  at = j;
  publishes = publishes;
  earlier = gone.earlier;
  number = number ∙ ap (λ (n : ℕ). n + 1) gone.upto.window;
  first = first;
}

-- ---- what a request comes to

pub here_best : (facts : SeasonFacts) (script : List Request) (papers : Papers) (j : ℕ) (gain : Option CandId)
    → ((request : Request) → slice_get script j ≡ Some request → RequestComesTo facts (record { papers = papers; state = before facts script papers j }) request gain) → gain ≡ None
    → PublishesAt facts script papers j → IsBestCut facts papers (before facts script papers j)
here_best facts script papers j gain comes none publishes =
    subst (λ (o : Option CandId). RequestComesTo facts (record { papers = papers; state = before facts script papers j }) publishes.0 o) none (comes publishes.0 publishes.1) publishes.2

pub here_not : (facts : SeasonFacts) (script : List Request) (papers : Papers) (j round : ℕ) (auditor : Auditor) (gain : Option CandId) (cand : CandId) → j < length script → Gone facts script papers j auditor
    → ((request : Request) → slice_get script j ≡ Some request → RequestComesTo facts (record { papers = papers; state = before facts script papers j }) request gain) → gain ≡ Some cand
    → round ≡ auditor.window + 1 → IsFirstNotBest facts script papers round cand
here_not facts script papers j round auditor gain cand less gone comes some number =
    let here = there_is script j less in
    let found = subst (λ (o : Option CandId). RequestComesTo facts (record { papers = papers; state = before facts script papers j }) here.0 o) some (comes here.0 here.1) in
    first_not_best facts script papers j round auditor cand gone (here.0, here.1, found.0) number found.1

pub few_windows : (facts : SeasonFacts) (script : List Request) (papers : Papers) (j : ℕ) (auditor : Auditor) → Gone facts script papers j auditor → auditor.window ≤ 11
few_windows facts script papers j auditor gone =
    let window = gone.upto.window in
    let few = gone.upto.few in
    let ten = gone.upto.sound.rounds.1 in
    omega (arith, window, few, ten)

-- ---- the request at a place of the script

-- the request that was read is the one that is there
same_request : (script read : List Request) (at : ℕ) (request got : Request) → read ≡ script → got ≡ get_or read at got → slice_get script at ≡ Some request → got ≡ request
same_request script read at request got same is there = is ∙ (ap (λ (z : List Request). get_or z at got) same ∙ get_or_from_slice_get script at request got there)

-- what the test of a request says of the one that is there
pub tested : (facts : SeasonFacts) (state : State) (script read : List Request) (at : ℕ) (request got : Request) (test : Bool) → read ≡ script → got ≡ get_or read at got
    → IsTrue test ↔ (decided facts state got ≡ Publish) → slice_get script at ≡ Some request → IsTrue test ↔ (decided facts state request ≡ Publish)
tested facts state script read at request got test same is test_is there =
    subst (λ (r : Request). IsTrue test ↔ (decided facts state r ≡ Publish)) (same_request script read at request got same is there) test_is

pub all_publish : (facts : SeasonFacts) (state : State) (script read : List Request) (at : ℕ) (got : Request) (test : Bool) → read ≡ script → got ≡ get_or read at got
    → IsTrue test ↔ (decided facts state got ≡ Publish) → test ≡ true → (request : Request) → slice_get script at ≡ Some request → decided facts state request ≡ Publish
all_publish facts state script read at got test same is test_is yes' request there = (tested facts state script read at request got test same is test_is there).0 yes'

pub early_there : (facts : SeasonFacts) (state : State) (script : List Request) (at : ℕ) → at < length script → ((request : Request) → slice_get script at ≡ Some request → decided facts state request ≡ Publish)
    → state.now < facts.rounds
early_there facts state script at within publishes =
    let here = there_is script at within in
    (publishing facts state here.0.by here.0.ask (publishes here.0 here.1)).early

pub fair_there : (facts : SeasonFacts) (cut : Setting) (script : List Request) (at : ℕ) → at < length script → ((request : Request) → slice_get script at ≡ Some request → decided facts cut.state request ≡ Publish)
    → ((request : Request) → slice_get script at ≡ Some request → decided facts cut.state request ≡ Publish → IsFairText facts cut.papers cut.state) → IsFairText facts cut.papers cut.state
fair_there facts cut script at within publishes fair =
    let here = there_is script at within in
    fair here.0 here.1 (publishes here.0 here.1)

pub as_request : (facts : SeasonFacts) (cut : Setting) (script : List Request) (at : ℕ) (result : Result (Option CandId) OutOfMemory)
    → ((request : Request) → slice_get script at ≡ Some request → decided facts cut.state request ≡ Publish) → IfOk result (GainComesTo facts cut.papers cut.state)
    → IfOk result (λ gain. (request : Request) → slice_get script at ≡ Some request → RequestComesTo facts cut request gain)
as_request facts cut script at (Ok None) publishes comes = λ request there is. comes
as_request facts cut script at (Ok (Some cand)) publishes comes = λ request there. (publishes request there, comes)
as_request facts cut script at (Err fault) publishes comes = tt
