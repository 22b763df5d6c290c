-- The bodies that are kept stay those of the questions for their numbers.
use Rattle.std.proofs.Common.{◌≡◌, ◌<◌, ◌⊎◌, inl, inr, ℕ, true, List, [], ◌∷◌, ◌++◌, Option, Some, None, arith, refl, sym, ◌∙◌, ap, subst}
use Rattle.std.specs.Prelude.{is_some, nat_lt, unwrap_or}
use Rattle.std.specs.List.{AllByRecursion}
use Rattle.std.proofs.lemmas.Bool.{lt-ltb, ltb-true, or_cases, or_left, or_right}
use Rattle.office_asks.specs.declared.ask.Request.{Request}
use Rattle.kept_rows.specs.declared.rows.AllotRow.{AllotRow}
use Rattle.rounds.specs.declared.round.Round.{Round}
use Rattle.office_moves.specs.Facts.{SeasonFacts}
use Rattle.office_moves.specs.State.{State, round_at}
use Rattle.office_moves.specs.Decided.{decided}
use Rattle.office_moves.specs.History.{newly}
use Rattle.office_moves.specs.Moves.{Does, IsMove}
use Rattle.office_moves.specs.declared.decide.Decision.{Decision}
use Rattle.office_moves.specs.declared.decide.Decision.TheVariants.{Refuse, NotedAgain, RaisedAgain, CutAgain, Note, Lift, Publish, Finish, Tell}
use Rattle.office_moves.specs.declared.moves.Act.TheVariants.{Cut}
use Rattle.office_moves.specs.declared.moves.Reply.{Reply}
use Rattle.office_moves.specs.declared.moves.Reply.TheVariants.{RoundIs}
use Rattle.office_moves.proofs.Grows.{Accepted, Answers, Finishes, Publishes, Raises, does_grows, round_stays, was_accepted}
use Rattle.reply_bodies.specs.Bodies.{reply_body}
use Rattle.shown_replies.specs.Shown.{rows_shown}
use Rattle.office_http.specs.Bodies.{AreBodies, IsShownBy, shown_body}
use Rattle.office_http.specs.declared.bodies.Bodies.{Bodies}
use Rattle.office_http.specs.declared.bodies.RoundBody.{RoundBody}

-- ---- after the last cut

-- the published rounds and the final rows of a state are those of another
record SamePapers (old new : State) : Type 0 where
  pub rounds : new.rounds ≡ old.rounds
  pub finals : new.finals ≡ old.finals

-- no request publishes a round
none_published : (facts : SeasonFacts) (state : State) (decision : Decision) → Accepted facts state decision → facts.rounds < state.now → decision ≡ Publish → ⊥
none_published facts state decision (Answers row e) over is = cc
none_published facts state decision (Raises row e) over is = cc
none_published facts state decision (Publishes e less) over is = omega (arith, less, over)
none_published facts state decision (Finishes e last) over is = omega (arith, last, over)

-- and none finishes the season again
none_finishes : (facts : SeasonFacts) (state : State) (decision : Decision) → Accepted facts state decision → facts.rounds < state.now → decision ≡ Finish → ⊥
none_finishes facts state decision (Answers row e) over is = cc
none_finishes facts state decision (Raises row e) over is = cc
none_finishes facts state decision (Publishes e less) over is = omega (arith, less, over)
none_finishes facts state decision (Finishes e last) over is = omega (arith, last, over)

-- a decision that is neither leaves the papers
papers_left : (facts : SeasonFacts) (old new : State) (decision : Decision) (reply : Reply) → (decision ≡ Publish → ⊥) → (decision ≡ Finish → ⊥) → Does facts old decision reply new → SamePapers old new
papers_left facts old new (Refuse refusal) reply published finishes d = record { rounds = ap (λ (s : State). s.rounds) d.1; finals = ap (λ (s : State). s.finals) d.1 }
papers_left facts old new (NotedAgain row) reply published finishes d = record { rounds = ap (λ (s : State). s.rounds) d.1; finals = ap (λ (s : State). s.finals) d.1 }
papers_left facts old new (RaisedAgain row) reply published finishes d = record { rounds = ap (λ (s : State). s.rounds) d.1; finals = ap (λ (s : State). s.finals) d.1 }
papers_left facts old new (CutAgain window) reply published finishes d = record { rounds = ap (λ (s : State). s.rounds) d.1; finals = ap (λ (s : State). s.finals) d.1 }
papers_left facts old new (Note row) reply published finishes d = record { rounds = ap (λ (s : State). s.rounds) d.1; finals = ap (λ (s : State). s.finals) d.1 }
papers_left facts old new (Lift row) reply published finishes d = record { rounds = ap (λ (s : State). s.rounds) d.1; finals = ap (λ (s : State). s.finals) d.1 }
papers_left facts old new Publish reply published finishes d = absurd (published refl)
papers_left facts old new Finish reply published finishes d = absurd (finishes refl)
papers_left facts old new (Tell question) reply published finishes d = record { rounds = ap (λ (s : State). s.rounds) d.1; finals = ap (λ (s : State). s.finals) d.1 }

papers_stay : (facts : SeasonFacts) (old new : State) (request : Request) (reply : Reply) → facts.rounds < old.now → IsMove facts old request reply new → SamePapers old new
papers_stay facts old new request reply over moves =
    papers_left facts old new (decided facts old request) reply
    (λ is. none_published facts old _ (was_accepted facts old request.by request.ask (Cut old.now) (ap (newly old.now) is)) over is)
    (λ is. none_finishes facts old _ (was_accepted facts old request.by request.ask (Cut old.now) (ap (newly old.now) is)) over is) moves

-- ---- one body

there : {X : Type 0} (o : Option X) → is_some o ≡ true → (x : X) × (o ≡ Some x)
there None e = absurd cc
there (Some x) e = (x, refl)

-- the body of the question for the number of a round, from the round alone
of_round : (facts : SeasonFacts) (state : State) (number : ℕ) (round : Round) → round_at state.rounds number ≡ Some round
    → shown_body facts state (RoundIs number) ≡ reply_body facts.matrix facts.people (Some round) [] (RoundIs number)
of_round facts state number round e = ap (λ (o : Option Round). reply_body facts.matrix facts.people o (rows_shown state) (RoundIs number)) e

round_later : (facts : SeasonFacts) (old new : State) (more : List Round) (number : ℕ) (body : List ℕ) (round : Round) → new.rounds ≡ old.rounds ++ more
    → round_at old.rounds number ≡ Some round → body ≡ shown_body facts old (RoundIs number) → IsShownBy facts new number body
round_later facts old new more number body round grown here is =
    let still : round_at new.rounds number ≡ Some round = subst (λ (rounds : List Round). round_at rounds number ≡ Some round) (sym grown) (round_stays old.rounds more number round here) in
    record {
      stays = or_left (is_some (round_at new.rounds number)) (nat_lt facts.rounds new.now) (ap (λ (o : Option Round). is_some o) still);
      is = is ∙ of_round facts old number round here ∙ sym (of_round facts new number round still);
    }

final_later : (facts : SeasonFacts) (old new : State) (number : ℕ) (body : List ℕ) → facts.rounds < new.now → SamePapers old new
    → body ≡ shown_body facts old (RoundIs number) → IsShownBy facts new number body
final_later facts old new number body over same is = record {
  stays = or_right (is_some (round_at new.rounds number)) (nat_lt facts.rounds new.now) (lt-ltb facts.rounds new.now over);
  is = is ∙ sym (
      ap (λ (rounds : List Round). reply_body facts.matrix facts.people (round_at rounds number) (rows_shown new) (RoundIs number)) same.rounds
      ∙ ap (λ (finals : Option (List AllotRow)). reply_body facts.matrix facts.people (round_at old.rounds number) (unwrap_or finals []) (RoundIs number)) same.finals
      );
}

-- after a move it is still the body of the question for its number
shown_later : (facts : SeasonFacts) (old new : State) (request : Request) (reply : Reply) (number : ℕ) (body : List ℕ) → IsMove facts old request reply new
    → IsShownBy facts old number body → IsShownBy facts new number body
shown_later facts old new request reply number body moves shown = go (or_cases (is_some (round_at old.rounds number)) (nat_lt facts.rounds old.now) shown.stays)
  where
    go : (is_some (round_at old.rounds number) ≡ true) ⊎ (nat_lt facts.rounds old.now ≡ true) → IsShownBy facts new number body
    go (inl published) =
        let grown = (does_grows facts old (decided facts old request) reply new moves).rounds in
        let here = there (round_at old.rounds number) published in
        round_later facts old new grown.0 number body here.0 grown.1 here.1 shown.is
    go (inr ended) =
        let over = ltb-true facts.rounds old.now ended in
        let later = (does_grows facts old (decided facts old request) reply new moves).later in
        final_later facts old new number body (omega (arith, over, later)) (papers_stay facts old new request reply over moves) shown.is

-- ---- all of them

all_later : (facts : SeasonFacts) (old new : State) (request : Request) (reply : Reply) (made : List RoundBody) → IsMove facts old request reply new
    → AllByRecursion (λ one. IsShownBy facts old one.number one.body) made → AllByRecursion (λ one. IsShownBy facts new one.number one.body) made
all_later facts old new request reply [] moves all = tt
all_later facts old new request reply (one ∷ made) moves all =
    (shown_later facts old new request reply one.number one.body moves all.0, all_later facts old new request reply made moves all.1)

-- after a move each is still the body of the question for its number
pub bodies_after : (facts : SeasonFacts) (old new : State) (request : Request) (reply : Reply) (bodies : Bodies) → IsMove facts old request reply new → AreBodies facts old bodies → AreBodies facts new bodies
bodies_after facts old new request reply bodies moves all = all_later facts old new request reply bodies.made.items moves all
