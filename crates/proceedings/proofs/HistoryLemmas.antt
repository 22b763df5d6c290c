-- A history with one entry more.
use Rattle.std.proofs.Common.{◌≡◌, ◌<◌, ◌+◌, ℕ, List, [], ◌∷◌, ◌++◌, refl, sym, ap, ◌∙◌, subst, append-nil}
use Rattle.std.specs.Prelude.{length}
use Rattle.kept_rows.specs.declared.rows.AnswerRow.{AnswerRow}
use Rattle.kept_rows.specs.declared.rows.AllotRow.{AllotRow}
use Rattle.kept_rows.specs.declared.rows.RaiseRow.{RaiseRow}
use Rattle.rounds.specs.Round.{seated}
use Rattle.rounds.specs.declared.round.Round.{Round}
use Rattle.office_moves.specs.Facts.{SeasonFacts}
use Rattle.office_moves.specs.State.{State, with_finals, with_raise, with_round, with_row}
use Rattle.office_moves.specs.Decided.{decided}
use Rattle.office_moves.specs.Moves.{Does, IsNextRound, final_rows, noted, raised_reply}
use Rattle.office_moves.specs.History.{IsHistory, asked, grown, newly}
use Rattle.office_moves.specs.declared.decide.Decision.{Decision}
use Rattle.office_moves.specs.declared.decide.Decision.TheVariants.{Finish, Lift, Note, Publish}
use Rattle.office_moves.specs.declared.moves.Act.{Act}
use Rattle.office_moves.specs.declared.moves.Act.TheVariants.{Answer, Cut, Raise}
use Rattle.office_moves.specs.declared.moves.Entry.{Entry}
use Rattle.office_moves.specs.declared.moves.Reply.{Reply}
use Rattle.office_moves.specs.declared.moves.Reply.TheVariants.{Final, Published}
use Rattle.history_laws.specs.Laws.{HistoryGrows}
use Rattle.proceedings.specs.Proceeding.{answer_before, answers_of, last_of}

-- ---- answers of entries

before_first : (act : Act) (rows more : List AnswerRow) → answer_before act (rows ++ more) ≡ answer_before act rows ++ more
before_first (Answer row) rows more = refl
before_first (Raise row) rows more = refl
before_first (Cut window) rows more = refl

pub answers_more : (entries : List Entry) (entry : Entry) → answers_of (entries ++ entry ∷ []) ≡ answers_of entries ++ answer_before entry.act []
answers_more [] entry = refl
answers_more (first ∷ entries) entry = ap (λ (z : List AnswerRow). answer_before first.act z) (answers_more entries entry) ∙ before_first first.act (answers_of entries) (answer_before entry.act [])

-- an entry that is no answer leaves them
pub answers_same : (entries : List Entry) (entry : Entry) → answer_before entry.act [] ≡ [] → answers_of (entries ++ entry ∷ []) ≡ answers_of entries
answers_same entries entry none = answers_more entries entry ∙ (ap (λ (z : List AnswerRow). answers_of entries ++ z) none ∙ append-nil (answers_of entries))

-- ---- a history goes on

goes_on : (facts : SeasonFacts) (entries : List Entry) (old new : State) (act : Act) (decision : Decision) (reply : Reply) (number : ℕ) → HistoryGrows facts → IsHistory facts entries old
    → last_of entries < number → decided facts old (asked facts act) ≡ decision → Does facts old decision reply new → IsHistory facts (grown entries number (newly old.now decision)) new
goes_on facts entries old new act decision reply number law history above is does =
    subst (λ (d : Decision). IsHistory facts (grown entries number (newly old.now d)) new) is
    (law entries old new (asked facts act) reply number history above (subst (λ (d : Decision). Does facts old d reply new) (sym is) does))

pub noted_on : (facts : SeasonFacts) (entries : List Entry) (old : State) (row : AnswerRow) (number : ℕ) → HistoryGrows facts → IsHistory facts entries old → last_of entries < number
    → decided facts old (asked facts (Answer row)) ≡ Note row → IsHistory facts (entries ++ record { number = number; act = Answer row } ∷ []) (with_row old row)
noted_on facts entries old row number law history above is = goes_on facts entries old (with_row old row) (Answer row) (Note row) (noted row) number law history above is (refl, refl)

pub raised_on : (facts : SeasonFacts) (entries : List Entry) (old : State) (row : RaiseRow) (number : ℕ) → HistoryGrows facts → IsHistory facts entries old → last_of entries < number
    → decided facts old (asked facts (Raise row)) ≡ Lift row → IsHistory facts (entries ++ record { number = number; act = Raise row } ∷ []) (with_raise old row)
raised_on facts entries old row number law history above is = goes_on facts entries old (with_raise old row) (Raise row) (Lift row) (raised_reply row) number law history above is (refl, refl)

pub published_on : (facts : SeasonFacts) (entries : List Entry) (old : State) (round : Round) (number : ℕ) → HistoryGrows facts → IsHistory facts entries old → last_of entries < number
    → decided facts old (asked facts (Cut old.now)) ≡ Publish → IsNextRound facts old round → IsHistory facts (entries ++ record { number = number; act = Cut old.now } ∷ []) (with_round old round)
published_on facts entries old round number law history above is next =
    goes_on facts entries old (with_round old round) (Cut old.now) Publish (Published (old.now + 1) (seated round.seats)) number law history above is (round, next, refl, refl)

pub finished_on : (facts : SeasonFacts) (entries : List Entry) (old : State) (rows : List AllotRow) (number : ℕ) → HistoryGrows facts → IsHistory facts entries old → last_of entries < number
    → decided facts old (asked facts (Cut old.now)) ≡ Finish → rows ≡ final_rows facts old → IsHistory facts (entries ++ record { number = number; act = Cut old.now } ∷ []) (with_finals old rows)
finished_on facts entries old rows number law history above is same =
    goes_on facts entries old (with_finals old rows) (Cut old.now) Finish (Final (length (final_rows facts old))) number law history above is
    (refl, ap (λ (z : List AllotRow). with_finals old z) same)
