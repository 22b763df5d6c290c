-- A season can always be finished, by cuts alone.
use Rattle.std.proofs.Common.{◌≡◌, ◌≤◌, ◌+◌, ℕ, zero, suc, Bool, true, false, List, [], ◌∷◌, ◌++◌, Option, Some, map, arith, refl, sym, ap, ◌∙◌, subst, ◌==◌, if◌then◌else◌, append_assoc, append-nil}
use Rattle.office_base.specs.Numbered.{last_of_numbers}
use Rattle.office_moves.specs.Facts.{IsSound, SeasonFacts}
use Rattle.office_moves.specs.State.{State, opening}
use Rattle.office_moves.specs.Decided.{decided}
use Rattle.office_moves.specs.History.{IsHistory, Reaches, asked, grown, newly}
use Rattle.office_moves.specs.Moves.{Does, IsMove}
use Rattle.office_moves.specs.declared.decide.Decision.{Decision}
use Rattle.office_moves.specs.declared.decide.Decision.TheVariants.{Finish, Publish}
use Rattle.office_moves.specs.declared.moves.Act.{Act}
use Rattle.office_moves.specs.declared.moves.Act.TheVariants.{Cut}
use Rattle.office_moves.specs.declared.moves.Entry.{Entry}
use Rattle.office_moves.specs.declared.moves.Reply.{Reply}
use Rattle.office_moves.proofs.Cuts.{ends}
use Rattle.history_laws.specs.Laws.{HistoryGrows}
use Rattle.history_laws.specs.Orderly.{IsOrderly}
use Rattle.season_laws.specs.Laws.{AreCutsFrom, GoesToItsEnd, SeasonsCanBeFinished}
use Rattle.season_laws.specs.NextRounds.{EveryRequestIsAnswered}

-- ---- one cut

-- The cut of the open window is newly accepted; it makes one cut more, and leaves the answers and the raises.
record IsCut (facts : SeasonFacts) (old new : State) : Type 0 where
  accepted : newly old.now (decided facts old (asked facts (Cut old.now))) ≡ Some (Cut old.now)
  now : new.now ≡ old.now + 1
  answers : new.answers ≡ old.answers
  raises : new.raises ≡ old.raises

cut_by : (facts : SeasonFacts) (old new : State) (reply : Reply) (last : Bool) → decided facts old (asked facts (Cut old.now)) ≡ (if last then Finish else Publish)
    → IsMove facts old (asked facts (Cut old.now)) reply new → IsCut facts old new
cut_by facts old new reply true decides moves =
    let does = subst (λ (d : Decision). Does facts old d reply new) decides moves in
    record {
      accepted = ap (newly old.now) decides;
      now = ap (λ (s : State). s.now) does.1;
      answers = ap (λ (s : State). s.answers) does.1;
      raises = ap (λ (s : State). s.raises) does.1;
    }
cut_by facts old new reply false decides moves =
    let does = subst (λ (d : Decision). Does facts old d reply new) decides moves in
    record {
      accepted = ap (newly old.now) decides;
      now = ap (λ (s : State). s.now) does.3;
      answers = ap (λ (s : State). s.answers) does.3;
      raises = ap (λ (s : State). s.raises) does.3;
    }

-- ---- cut by cut

kept : {X : Type 0} (a b c : List X) → a ≡ b → b ≡ c → a ≡ c
kept a b c first second = first ∙ second

module _ (facts : SeasonFacts) (sound : IsSound facts) (orderly : (entries : List Entry) (state : State) → Reaches facts opening entries state → IsOrderly facts state)
    (every : EveryRequestIsAnswered facts) (grows : HistoryGrows facts) where
  -- with so many windows left
  finish : (left : ℕ) (entries : List Entry) (state : State) → IsHistory facts entries state → state.now + left ≡ facts.rounds + 1 → GoesToItsEnd facts entries state
  finish zero entries state history e = record {
    cuts = [];
    final = state;
    by_window = tt;
    as_many = omega (arith, e);
    reached = refl;
    history = subst (λ (z : List Entry). IsHistory facts z state) (sym (append-nil entries)) history;
    finished = ((orderly entries state history.reached).finished (omega (arith, e))).1;
    answers = refl;
    raises = refl;
  }
  finish (suc left) entries state history e =
      let request = asked facts (Cut state.now) in
      let number = last_of_numbers (map (λ (entry : Entry). entry.number) entries) + 1 in
      let cut : Entry = record { number = number; act = Cut state.now } in
      let done = every state request sound (orderly entries state history.reached) in
      let is = cut_by facts state done.1 done.0 (state.now == facts.rounds) (ends facts state (omega (arith, e))) done.2 in
      let now = is.now in
      let more : IsHistory facts (entries ++ cut ∷ []) done.1 =
      subst (λ (o : Option Act). IsHistory facts (grown entries number o) done.1) is.accepted (grows entries state done.1 request done.0 number history (omega arith) done.2) in
      let rest = finish left (entries ++ cut ∷ []) done.1 more (omega (arith, e, now)) in
      let many = rest.as_many in
      record {
        cuts = cut ∷ rest.cuts;
        final = rest.final;
        by_window = (refl, subst (λ (n : ℕ). AreCutsFrom n rest.cuts) now rest.by_window);
        as_many = omega (arith, many, now);
        reached = (done.1, done.0, is.accepted, done.2, rest.reached);
        history = subst (λ (z : List Entry). IsHistory facts z rest.final) (append_assoc entries (cut ∷ []) rest.cuts) rest.history;
        finished = rest.finished;
        answers = kept rest.final.answers done.1.answers state.answers rest.answers is.answers;
        raises = kept rest.final.raises done.1.raises state.raises rest.raises is.raises;
      }

  -- as many are left as come up to the last one
  left_of : (now : ℕ) → now ≤ facts.rounds + 1 → (left : ℕ) × (now + left ≡ facts.rounds + 1)
  left_of now few = up_to now (facts.rounds + 1) few
    where
      up_to : (m n : ℕ) → m ≤ n → (left : ℕ) × (m + left ≡ n)
      up_to zero n few = (n, omega arith)
      up_to (suc m) zero few = absurd (omega (arith, few))
      up_to (suc m) (suc n) few = let rest = up_to m n (omega (arith, few)) in let same = rest.1 in (rest.0, omega (arith, same))

  pub to_the_end : (entries : List Entry) (state : State) → IsHistory facts entries state → GoesToItsEnd facts entries state
  to_the_end entries state history = let left = left_of state.now (orderly entries state history.reached).now in finish left.0 entries state history left.1

pub seasons_can_be_finished : ((facts : SeasonFacts) (entries : List Entry) (state : State) → IsSound facts → Reaches facts opening entries state → IsOrderly facts state)
    → ((facts : SeasonFacts) → EveryRequestIsAnswered facts) → ((facts : SeasonFacts) → HistoryGrows facts) → (facts : SeasonFacts) → SeasonsCanBeFinished facts
seasons_can_be_finished orderly every grows facts entries state sound history =
    to_the_end facts sound (λ before reached. orderly facts before reached sound) (every facts) (grows facts) entries state history
