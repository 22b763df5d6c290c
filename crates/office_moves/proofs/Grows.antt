-- What a history only adds to, and when its windows are cut.
use Rattle.std.proofs.Common.{◌≡◌, ◌<◌, ◌≤◌, ◌+◌, inl, inr, ℕ, zero, suc, Bool, List, [], ◌∷◌, ◌++◌, Some, length, arith, refl, sym, ap, ◌∙◌, subst, if◌then◌else◌, append_assoc, append-nil, length-append}
use Rattle.std.specs.Prelude.{slice_get}
use Rattle.std.proofs.lemmas.Bool.{le-ltb}
use Rattle.office_asks.specs.declared.ask.Ask.{Ask}
use Rattle.office_asks.specs.declared.ask.By.{By}
use Rattle.office_asks.specs.declared.ask.Request.{Request}
use Rattle.kept_rows.specs.declared.rows.AnswerRow.{AnswerRow}
use Rattle.kept_rows.specs.declared.rows.RaiseRow.{RaiseRow}
use Rattle.rounds.specs.declared.round.Round.{Round}
use Rattle.office_moves.specs.Facts.{SeasonFacts, find_programme}
use Rattle.office_moves.specs.State.{State, round_at, view_of}
use Rattle.office_moves.specs.Raised.{raised_before}
use Rattle.office_moves.specs.Decided.{answer_facts, decided, decided_by, raise_facts}
use Rattle.office_moves.specs.Moves.{Does, IsMove}
use Rattle.office_moves.specs.History.{Reaches, asked, newly}
use Rattle.office_moves.specs.declared.decide.Decision.{Decision}
use Rattle.office_moves.specs.declared.decide.Decision.TheVariants.{Refuse, NotedAgain, RaisedAgain, CutAgain, Note, Lift, Publish, Finish, Tell}
use Rattle.office_moves.specs.declared.moves.Act.{Act}
use Rattle.office_moves.specs.declared.moves.Entry.{Entry}
use Rattle.office_moves.specs.declared.moves.Reply.{Reply}
use Rattle.office_moves.proofs.Chains.{answer_new, cut_new, raise_new, with_new}
use Rattle.office_moves.proofs.Decisions.{by_kind, question_old}

-- ---- lists that only grow

-- what a list has at a place, it has there when more follows
pub get_stays : {X : Type 0} (xs more : List X) (i : ℕ) (x : X) → slice_get xs i ≡ Some x → slice_get (xs ++ more) i ≡ Some x
get_stays [] more i x e = absurd (cc)
get_stays (y ∷ xs) more zero x e = e
get_stays (y ∷ xs) more (suc i) x e = get_stays xs more i x e

pub round_stays : (rounds more : List Round) (number : ℕ) (round : Round) → round_at rounds number ≡ Some round → round_at (rounds ++ more) number ≡ Some round
round_stays rounds more zero round e = absurd (cc)
round_stays rounds more (suc before) round e = get_stays rounds more before round e

-- no raise is before the first window
pub none_raised : (raises : List RaiseRow) → raised_before 0 raises ≡ []
none_raised [] = refl
none_raised (row ∷ raises) = ap (λ (b : Bool). if b then row ∷ raised_before 0 raises else raised_before 0 raises) (le-ltb row.window 0 (omega arith)) ∙ none_raised raises

pub record Grown (a b : State) : Type 0 where
  pub answers : (more : List AnswerRow) × (b.answers ≡ a.answers ++ more)
  pub raises : (more : List RaiseRow) × (b.raises ≡ a.raises ++ more)
  pub rounds : (more : List Round) × (b.rounds ≡ a.rounds ++ more)
  pub later : a.now ≤ b.now

grown_self : (a : State) → Grown a a
grown_self a = record { answers = ([], sym (append-nil a.answers)); raises = ([], sym (append-nil a.raises)); rounds = ([], sym (append-nil a.rounds)); later = omega arith }

grown_same : (a b : State) → b ≡ a → Grown a b
grown_same a b e = subst (λ s. Grown a s) (sym e) (grown_self a)

joined : {X : Type 0} (xs ys zs : List X) (more rest : List X) → ys ≡ xs ++ more → zs ≡ ys ++ rest → zs ≡ xs ++ (more ++ rest)
joined xs ys zs more rest e f = f ∙ (ap (λ z. z ++ rest) e ∙ append_assoc xs more rest)

grown_trans : (a b c : State) → Grown a b → Grown b c → Grown a c
grown_trans a b c first second = record {
  answers = (first.answers.0 ++ second.answers.0, joined _ _ _ _ _ first.answers.1 second.answers.1);
  raises = (first.raises.0 ++ second.raises.0, joined _ _ _ _ _ first.raises.1 second.raises.1);
  rounds = (first.rounds.0 ++ second.rounds.0, joined _ _ _ _ _ first.rounds.1 second.rounds.1);
  later = (let x = first.later in let y = second.later in omega (arith, x, y));
}

pub does_grows : (facts : SeasonFacts) (old : State) (decision : Decision) (reply : Reply) (new : State) → Does facts old decision reply new → Grown old new
does_grows facts old (Refuse refusal) reply new d = grown_same old new d.1
does_grows facts old (NotedAgain row) reply new d = grown_same old new d.1
does_grows facts old (RaisedAgain row) reply new d = grown_same old new d.1
does_grows facts old (CutAgain window) reply new d = grown_same old new d.1
does_grows facts old (Note row) reply new d =
    subst (λ s. Grown old s) (sym d.1) (record { answers = (row ∷ [], refl); raises = ([], sym (append-nil old.raises)); rounds = ([], sym (append-nil old.rounds)); later = omega arith })
does_grows facts old (Lift row) reply new d =
    subst (λ s. Grown old s) (sym d.1) (record { answers = ([], sym (append-nil old.answers)); raises = (row ∷ [], refl); rounds = ([], sym (append-nil old.rounds)); later = omega arith })
does_grows facts old Publish reply new d =
    subst (λ s. Grown old s) (sym d.3) (record { answers = ([], sym (append-nil old.answers)); raises = ([], sym (append-nil old.raises)); rounds = (d.0 ∷ [], refl); later = omega arith })
does_grows facts old Finish reply new d =
    subst (λ s. Grown old s) (sym d.1) (record { answers = ([], sym (append-nil old.answers)); raises = ([], sym (append-nil old.raises)); rounds = ([], sym (append-nil old.rounds)); later = omega arith })
does_grows facts old (Tell question) reply new d = grown_same old new d.1

pub reaches_grows : (facts : SeasonFacts) (old new : State) (entries : List Entry) → Reaches facts old entries new → Grown old new
reaches_grows facts old new [] e = grown_same old new e
reaches_grows facts old new (entry ∷ entries) reached =
    grown_trans old reached.0 new (does_grows facts old _ reached.1 reached.0 reached.3) (reaches_grows facts reached.0 new entries reached.4)

-- ---- windows

-- What was newly accepted: an answer, a raise, the end of a window before the last, or the end of the last one.
pub data Accepted (facts : SeasonFacts) (state : State) (decision : Decision) : Type 0 where
  Answers : (row : AnswerRow) → decision ≡ Note row → Accepted facts state decision
  Raises : (row : RaiseRow) → decision ≡ Lift row → Accepted facts state decision
  Publishes : decision ≡ Publish → state.now < facts.rounds → Accepted facts state decision
  Finishes : decision ≡ Finish → state.now ≡ facts.rounds → Accepted facts state decision

pub was_accepted : (facts : SeasonFacts) (state : State) (by : By) (ask : Ask) (act : Act) → newly state.now (decided_by facts state by ask) ≡ Some act
    → Accepted facts state (decided_by facts state by ask)
was_accepted facts state by ask act =
    by_kind (λ a. newly state.now (decided_by facts state by a) ≡ Some act → Accepted facts state (decided_by facts state by a))
    (λ cand window turn choice h.
    let row : AnswerRow = record { window = window; cand = cand; turn = turn; choice = choice } in
    Answers row (answer_new state.now (answer_facts facts (view_of state cand.0) row) by row act h).noted)
    (λ window h.
    let cut = cut_new by state.now facts.rounds window act h in
    elim cut.ends [ inl e ↦ Finishes e.0 e.1 | inr e ↦ Publishes e.0 e.1 ])
    (λ window code step seats h.
    let found = with_new state.now (find_programme facts code) _ act h in
    let row : RaiseRow = record { window = window; prog = found.0; step = step; seats = seats } in
    let new = raise_new state.now (raise_facts facts state row) by row act found.2 in
    Raises row (found.3 ∙ new.lifted))
    (λ a is h. absurd (let e = question_old facts state state.now by a is in cc)) ask

-- While rounds follow, each cut published one.
abbrev pub InOrder : SeasonFacts → State → Type 0
InOrder facts state = state.now ≤ facts.rounds → length state.rounds ≡ state.now

-- what the number of cuts, the rounds and the final rows are after an accepted request
pub record Stepped (facts : SeasonFacts) (old new : State) : Type 0 where
  pub order : InOrder facts old → InOrder facts new
  pub ended : facts.rounds < old.now → new.finals ≡ old.finals

stepped : (facts : SeasonFacts) (old new : State) (decision : Decision) (reply : Reply) → Accepted facts old decision → Does facts old decision reply new → Stepped facts old new
stepped facts old new decision reply (Answers row e) d =
    let same = (subst (λ z. Does facts old z reply new) e d).1 in
    subst (λ s. Stepped facts old s) (sym same) (record { order = λ h. h; ended = λ less. refl })
stepped facts old new decision reply (Raises row e) d =
    let same = (subst (λ z. Does facts old z reply new) e d).1 in
    subst (λ s. Stepped facts old s) (sym same) (record { order = λ h. h; ended = λ less. refl })
stepped facts old new decision reply (Publishes e less) d =
    let does = subst (λ z. Does facts old z reply new) e d in
    subst (λ s. Stepped facts old s) (sym does.3) (record {
      order = λ h few. let before = h (omega (arith, less)) in length-append old.rounds (does.0 ∷ []) ∙ ap (λ n. n + 1) before;
      ended = λ later. absurd (omega (arith, less, later));
    })
stepped facts old new decision reply (Finishes e last) d =
    let same = (subst (λ z. Does facts old z reply new) e d).1 in
    subst (λ s. Stepped facts old s) (sym same) (record {
      order = λ h few. absurd (omega (arith, last, few));
      ended = λ later. absurd (omega (arith, last, later));
    })

pub move_steps : (facts : SeasonFacts) (old new : State) (request : Request) (act : Act) (reply : Reply) → newly old.now (decided facts old request) ≡ Some act → IsMove facts old request reply new
    → Stepped facts old new
move_steps facts old new request act reply accepted moves = stepped facts old new _ reply (was_accepted facts old request.by request.ask act accepted) moves

pub reaches_order : (facts : SeasonFacts) (old new : State) (entries : List Entry) → InOrder facts old → Reaches facts old entries new → InOrder facts new
reaches_order facts old new [] order e = subst (λ s. InOrder facts s) (sym e) order
reaches_order facts old new (entry ∷ entries) order reached =
    reaches_order facts reached.0 new entries ((move_steps facts old reached.0 (asked facts entry.act) entry.act reached.1 reached.2 reached.3).order order) reached.4

-- after the last cut the final rows stay
pub finals_stay : (facts : SeasonFacts) (old new : State) (entries : List Entry) → facts.rounds < old.now → Reaches facts old entries new → new.finals ≡ old.finals
finals_stay facts old new [] less e = ap (λ s. s.finals) e
finals_stay facts old new (entry ∷ entries) less reached =
    let step = (move_steps facts old reached.0 (asked facts entry.act) entry.act reached.1 reached.2 reached.3).ended less in
    let grown = (does_grows facts old _ reached.1 reached.0 reached.3).later in
    finals_stay facts reached.0 new entries (omega (arith, less, grown)) reached.4 ∙ step
