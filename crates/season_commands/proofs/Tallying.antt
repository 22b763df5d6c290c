-- A counted run from request to request.
use Rattle.std.proofs.Common.{◌≡◌, ◌<◌, ◌≤◌, ◌+◌, ℕ, true, false, Bool, List, [], ◌∷◌, ◌++◌, cond, length, take, arith, refl, sym, ap, subst, ◌∙◌}
use Rattle.std.proofs.lemmas.List.{map-append, take_all}
use Rattle.std.proofs.lemmas.List.Sums.{sum_by_push}
use Rattle.office_asks.specs.declared.ask.Request.{Request}
use Rattle.kept_rows.specs.Tables.{Tables}
use Rattle.office_moves.specs.Facts.{SeasonFacts}
use Rattle.office_moves.specs.State.{State}
use Rattle.office_moves.specs.Moves.{IsMove}
use Rattle.office_moves.specs.History.{IsHistory}
use Rattle.office_moves.specs.Promise.{KeepsItsWord}
use Rattle.office_moves.specs.Stands.{Stand}
use Rattle.office_moves.specs.declared.moves.Entry.{Entry}
use Rattle.season_commands.specs.Tally.{AfterHandled, AreHandled, CountsAll, Handled, IsCounted, StopsBefore, is_receipt, is_refused_answer, noted_in, refused_in, requests_of}
use Rattle.season_commands.specs.declared.tally.Tally.{Tally}
use Rattle.season_commands.proofs.Running.{IsLeft, IsNext}

-- one more request is handled
handled_more : (facts : SeasonFacts) (old mid new : State) (handled : List Handled) (one : Handled) → AreHandled facts old handled mid → IsMove facts mid one.request one.reply new
    → AreHandled facts old (handled ++ one ∷ []) new
handled_more facts old mid new [] one before moves = (new, subst (λ s. IsMove facts s one.request one.reply new) before moves, refl)
handled_more facts old mid new (h ∷ handled) one before moves = (before.0, before.1, handled_more facts before.0 mid new handled one before.2 moves)

-- The first j requests are answered, and the answers among them counted; no count of the keeper rose.
pub record IsCounting (facts : SeasonFacts) (start : State) (script : List Request) (j : ℕ) (season : SeasonFacts) (entries : List Entry) (state : State) (tables : Tables) (tally : Tally)
    (keeper_then keeper_now : ℕ) : Type 0 where
  pub same : season ≡ facts
  pub history : IsHistory season entries state
  pub stands : Stand season state tables
  pub handled : List Handled
  pub asked : requests_of handled ≡ take j script
  pub after : AfterHandled facts start handled state tables
  pub noted : tally.noted ≡ noted_in handled
  pub refused : tally.refused ≡ refused_in handled
  pub keeper : keeper_now ≡ keeper_then

pub starts : (facts : SeasonFacts) (start : State) (script : List Request) (entries : List Entry) (tables : Tables) (keeper : ℕ) → IsHistory facts entries start
    → KeepsItsWord facts start → Stand facts start tables
    → IsCounting facts start script 0 facts entries start tables (record { noted = 0; refused = 0 }) keeper keeper
starts facts start script entries tables keeper history word stands = record {
  same = refl;
  history = history;
  stands = stands;
  handled = [];
  asked = refl;
  after = record { moves = refl; history = (entries, history); promise = word; stands = stands };
  noted = refl;
  refused = refl;
  keeper = refl;
}

-- a count that grows by one at most
pub at_most_one : (b : Bool) (m n j : ℕ) → n ≡ m + cond b 1 0 → m ≤ j → n ≤ j + 1
at_most_one true m n j same few = omega (arith, same, few)
at_most_one false m n j same few = omega (arith, same, few)

-- one more request is answered, and counted
pub counts : (facts : SeasonFacts) (start : State) (script : List Request) (j : ℕ) (request : Request) (season season' : SeasonFacts) (entries entries' : List Entry) (state state' : State)
    (tables tables' : Tables) (tally tally' : Tally) (keeper keeper_now keeper_new : ℕ) → IsCounting facts start script j season entries state tables tally keeper keeper_now
    → IsNext script j request → IsCounted season state request state' tally tally' → IsLeft season season' entries' state' tables' → keeper_new ≡ keeper_now
    → IsCounting facts start script (j + 1) season' entries' state' tables' tally' keeper keeper_new
counts facts start script j request season season' entries entries' state state' tables tables' tally tally' keeper keeper_now keeper_new running next counted left kept =
    let one : Handled = record { request = request; reply = counted.reply } in
    let now : season' ≡ facts = left.same ∙ running.same in
    let on : IsMove facts state request counted.reply state' = subst (λ f. IsMove f state request counted.reply state') running.same counted.moves in
    record {
      same = now;
      history = left.history;
      stands = left.stands;
      handled = running.handled ++ one ∷ [];
      asked = map-append (λ h. h.request) running.handled (one ∷ []) ∙ (ap (λ rs. rs ++ request ∷ []) running.asked ∙ sym next.more);
      after = record {
        moves = handled_more facts start state state' running.handled one running.after.moves on;
        history = (entries', subst (λ f. IsHistory f entries' state') now left.history);
        promise = subst (λ f. KeepsItsWord f state') now left.word;
        stands = subst (λ f. Stand f state' tables') now left.stands;
      };
      noted = counted.noted ∙ (ap (λ n. n + cond (is_receipt counted.reply) 1 0) running.noted ∙ sym (sum_by_push (λ h. cond (is_receipt h.reply) 1 0) running.handled one));
      refused = counted.refused
          ∙ (ap (λ n. n + cond (is_refused_answer request counted.reply) 1 0) running.refused ∙ sym (sum_by_push (λ h. cond (is_refused_answer h.request h.reply) 1 0) running.handled one));
      keeper = kept ∙ running.keeper;
    }

-- a tally of these numbers
abbrev tally_with : ℕ → ℕ → Tally
tally_with m n = record { noted = m; refused = n }

same_tally : (tally : Tally) (m n : ℕ) → tally.noted ≡ m → tally.refused ≡ n → tally ≡ tally_with m n
same_tally tally m n noted refused = ap (λ k. tally_with k tally.refused) noted ∙ ap (λ k. tally_with m k) refused

-- all are counted
pub counts_all : (facts : SeasonFacts) (start : State) (script : List Request) (j : ℕ) (season : SeasonFacts) (entries : List Entry) (state : State) (tables : Tables) (tally : Tally) (keeper keeper_now : ℕ)
    → IsCounting facts start script j season entries state tables tally keeper keeper_now → j ≡ length script → CountsAll facts start script state tables tally
counts_all facts start script j season entries state tables tally keeper keeper_now running whole =
    (running.handled, running.asked ∙ take_all j script (omega (arith, whole)), running.after, same_tally tally _ _ running.noted running.refused)

-- a request is not answered
pub stops : (facts : SeasonFacts) (start : State) (script : List Request) (j : ℕ) (season season' : SeasonFacts) (entries entries' : List Entry) (state state' : State) (tables tables' : Tables) (tally : Tally)
    (keeper keeper_now : ℕ) → IsCounting facts start script j season entries state tables tally keeper keeper_now → j < length script → state' ≡ state → IsLeft season season' entries' state' tables'
    → StopsBefore facts start script state' tables'
stops facts start script j season season' entries entries' state state' tables tables' tally keeper keeper_now running within same left = (
  j,
  running.handled,
  within,
  running.asked,
  record {
    moves = subst (λ s. AreHandled facts start running.handled s) (sym same) running.after.moves;
    history = subst (λ s. (es : List Entry) × IsHistory facts es s) (sym same) running.after.history;
    promise = subst (λ s. KeepsItsWord facts s) (sym same) running.after.promise;
    stands = subst (λ f. Stand f state' tables') (left.same ∙ running.same) left.stands;
  },
)
