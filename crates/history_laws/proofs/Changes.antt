-- What is newly accepted, and what it changes in a state.
use Rattle.std.proofs.Common.{◌≡◌, ◌<◌, inl, inr, ℕ, List, [], ◌∷◌, Some, refl, sym, ap, ◌∙◌, subst}
use Rattle.office_asks.specs.declared.ask.Ask.{Ask}
use Rattle.office_asks.specs.declared.ask.Ask.TheVariants.{Answer as AskAnswer, Cut as AskCut, Raise as AskRaise}
use Rattle.office_asks.specs.declared.ask.By.{By}
use Rattle.kept_rows.specs.declared.rows.AnswerRow.{AnswerRow}
use Rattle.kept_rows.specs.declared.rows.RaiseRow.{RaiseRow}
use Rattle.rounds.specs.declared.round.Round.{Round}
use Rattle.office_moves.specs.Facts.{SeasonFacts, find_programme}
use Rattle.office_moves.specs.State.{State, view_of, with_finals, with_raise, with_round, with_row}
use Rattle.office_moves.specs.Decided.{answer_facts, decided_by, raise_facts}
use Rattle.office_moves.specs.Moves.{Does, IsNextRound, final_rows}
use Rattle.office_moves.specs.History.{Reaches, asked, newly}
use Rattle.office_moves.specs.declared.decide.Decision.TheVariants.{Note, Lift, Publish, Finish}
use Rattle.office_moves.specs.declared.moves.Act.{Act}
use Rattle.office_moves.specs.declared.moves.Act.TheVariants.{Answer, Raise, Cut}
use Rattle.office_moves.specs.declared.moves.Entry.{Entry}
use Rattle.office_moves.specs.declared.moves.Reply.{Reply}
use Rattle.office_moves.proofs.Chains.{IsNewAnswer, IsNewCut, IsNewRaise, answer_new, cut_new, raise_new, with_new}
use Rattle.office_moves.proofs.Decisions.{by_kind, question_old}
pub use Rattle.office_moves.proofs.Found.{IsFound, code_at, found_number, was_found}

-- ---- what is newly accepted

-- What was newly accepted, and by whom.
pub data Accepts (facts : SeasonFacts) (old : State) (by : By) (ask : Ask) (act : Act) : Type 0 where
  NewAnswer : (row : AnswerRow) → ask ≡ AskAnswer row.cand row.window row.turn row.choice → act ≡ Answer row → IsNewAnswer (answer_facts facts (view_of old row.cand.0) row) by row
      → decided_by facts old by ask ≡ Note row → Accepts facts old by ask act
  NewRaise : (row : RaiseRow) (code : List ℕ) → ask ≡ AskRaise row.window code row.step row.seats → IsFound facts code row.prog → find_programme facts code ≡ Some row.prog → act ≡ Raise row
      → IsNewRaise (raise_facts facts old row) by row → decided_by facts old by ask ≡ Lift row → Accepts facts old by ask act
  LastCut : (window : ℕ) → ask ≡ AskCut window → act ≡ Cut old.now → IsNewCut by old.now facts.rounds window → old.now ≡ facts.rounds → decided_by facts old by ask ≡ Finish
      → Accepts facts old by ask act
  NewCut : (window : ℕ) → ask ≡ AskCut window → act ≡ Cut old.now → IsNewCut by old.now facts.rounds window → old.now < facts.rounds → decided_by facts old by ask ≡ Publish
      → Accepts facts old by ask act

pub same_act : (act other : Act) → Some act ≡ Some other → other ≡ act
same_act act other e = cc

pub accepts : (facts : SeasonFacts) (old : State) (by : By) (ask : Ask) (act : Act) → newly old.now (decided_by facts old by ask) ≡ Some act → Accepts facts old by ask act
accepts facts old by ask act =
    by_kind (λ a. newly old.now (decided_by facts old by a) ≡ Some act → Accepts facts old by a act)
    (λ cand window turn choice h.
    let row : AnswerRow = record { window = window; cand = cand; turn = turn; choice = choice } in
    let n = answer_new old.now (answer_facts facts (view_of old cand.0) row) by row act h in
    NewAnswer row refl (same_act _ _ (sym (ap (newly old.now) n.noted) ∙ h)) n n.noted)
    (λ window h.
    let n = cut_new by old.now facts.rounds window act h in
    elim n.ends [
      | inl e ↦ LastCut window refl (same_act _ _ (sym (ap (newly old.now) e.0) ∙ h)) n e.1 e.0
      | inr e ↦ NewCut window refl (same_act _ _ (sym (ap (newly old.now) e.0) ∙ h)) n e.1 e.0
    ])
    (λ window code step seats h.
    let found = with_new old.now (find_programme facts code) _ act h in
    let row : RaiseRow = record { window = window; prog = found.0; step = step; seats = seats } in
    let n = raise_new old.now (raise_facts facts old row) by row act found.2 in
    let lifted = found.3 ∙ n.lifted in
    NewRaise row code refl (was_found facts code found.0 found.1) found.1 (same_act _ _ (sym (ap (newly old.now) lifted) ∙ h)) n lifted)
    (λ a is h. absurd (let e = question_old facts old old.now by a is in cc)) ask

-- ---- what a decision that newly accepts does

-- What was newly accepted, by whom, and what it made of the state.
pub data Change (facts : SeasonFacts) (old : State) (by : By) (ask : Ask) (act : Act) (new : State) : Type 0 where
  Answered : (row : AnswerRow) → ask ≡ AskAnswer row.cand row.window row.turn row.choice → act ≡ Answer row → IsNewAnswer (answer_facts facts (view_of old row.cand.0) row) by row
      → new ≡ with_row old row → Change facts old by ask act new
  Raised : (row : RaiseRow) (code : List ℕ) → ask ≡ AskRaise row.window code row.step row.seats → IsFound facts code row.prog → find_programme facts code ≡ Some row.prog → act ≡ Raise row
      → IsNewRaise (raise_facts facts old row) by row → new ≡ with_raise old row → Change facts old by ask act new
  Publishes : (window : ℕ) (round : Round) → ask ≡ AskCut window → act ≡ Cut old.now → IsNewCut by old.now facts.rounds window → old.now < facts.rounds → IsNextRound facts old round
      → new ≡ with_round old round → Change facts old by ask act new
  Finishes : (window : ℕ) → ask ≡ AskCut window → act ≡ Cut old.now → IsNewCut by old.now facts.rounds window → old.now ≡ facts.rounds → new ≡ with_finals old (final_rows facts old)
      → Change facts old by ask act new

changed : (facts : SeasonFacts) (old : State) (by : By) (ask : Ask) (act : Act) (reply : Reply) (new : State) → Accepts facts old by ask act
    → Does facts old (decided_by facts old by ask) reply new → Change facts old by ask act new
changed facts old by ask act reply new (NewAnswer row asks is n decides) does = Answered row asks is n (subst (λ d. Does facts old d reply new) decides does).1
changed facts old by ask act reply new (NewRaise row code asks found known is n decides) does =
    Raised row code asks found known is n (subst (λ d. Does facts old d reply new) decides does).1
changed facts old by ask act reply new (LastCut window asks is n last decides) does = Finishes window asks is n last (subst (λ d. Does facts old d reply new) decides does).1
changed facts old by ask act reply new (NewCut window asks is n less decides) does =
    let did = subst (λ d. Does facts old d reply new) decides does in
    Publishes window did.0 asks is n less did.1 did.3

pub changes : (facts : SeasonFacts) (old : State) (by : By) (ask : Ask) (act : Act) (reply : Reply) (new : State) → newly old.now (decided_by facts old by ask) ≡ Some act
    → Does facts old (decided_by facts old by ask) reply new → Change facts old by ask act new
changes facts old by ask act reply new h does = changed facts old by ask act reply new (accepts facts old by ask act h) does

-- ---- along a history

-- what an entry of a history makes of a state
abbrev pub Follows : SeasonFacts → State → Act → State → Type 0
Follows facts old act new = Change facts old (asked facts act).by (asked facts act).ask act new

-- what holds before and is kept by each entry holds after
pub along : (facts : SeasonFacts) (P : State → Type 0) → ((old new : State) (act : Act) → P old → Follows facts old act new → P new)
    → (entries : List Entry) (old new : State) → P old → Reaches facts old entries new → P new
along facts P keeps [] old new here same = subst P (sym same) here
along facts P keeps (entry ∷ entries) old new here reached =
    along facts P keeps entries reached.0 new
    (keeps old reached.0 entry.act here (changes facts old (asked facts entry.act).by (asked facts entry.act).ask entry.act reached.1 reached.0 reached.2 reached.3)) reached.4
