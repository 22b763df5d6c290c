-- Links that are served where an ask without an answer adds nothing.
use Rattle.std.specs.Prelude.{◌≡◌, ◌+◌, ℕ, Bool, true, List, [], ◌∷◌, ◌++◌, Option, Ok, Err}
use Rattle.office_asks.specs.declared.ask.Ask.{Ask}
use Rattle.office_desk.specs.Own.{Begins}
use Rattle.office_moves.specs.Facts.{SeasonFacts}
use Rattle.office_moves.specs.declared.moves.Entry.{Entry}
use Rattle.http_sessions.specs.Exchange.{Item, Outcome, wired, unread, heard, IsRefusal, IsAsked}
use Rattle.http_sessions.specs.declared.counter.Answered.{Answered}
use Rattle.http_wire.specs.declared.faults.Fault.{Fault}
use Rattle.door_crews.specs.Served.{IsServing, failures_of}
use Rattle.office_http.specs.Asking.{AnswersAt, IsUnanswered, UnanswersAt, request_of}

-- `Answers place token ask answered added`: after the entries of the place the ask is answered so, and adds these.
-- `Unanswers place token ask fault`:
-- there it may stay unanswered with this fault.
module _ {I : Type 0} (Answers : List I → Option (List ℕ) → Ask → Answered → List I → Type 0) (Unanswers : List I → Option (List ℕ) → Ask → Fault → Type 0) where
  -- One message after the history A, of a link that is served to the history B.
  -- An ask is put at a place that begins with A. An answer leaves that place and what it added;
  -- without an answer nothing is added, and A stays.
  abbrev pub IsPlacedAtOnce : List I → List I → Item → Outcome → List I → ℕ → List I → Type 0
  IsPlacedAtOnce A B item wired added n behind = IsRefusal item.verdict × (added ≡ []) × (n ≡ 0) × (behind ≡ A)
  IsPlacedAtOnce A B item unread added n behind = (item.reads_body ≡ true) × (added ≡ []) × (n ≡ 0) × (behind ≡ A)
  IsPlacedAtOnce A B item (heard (Ok answered)) added n behind = (n ≡ 0)
      × IsAsked item.verdict (λ token ask. (place : List I) × Begins A place × Answers place token ask answered added × (behind ≡ place ++ added))
  IsPlacedAtOnce A B item (heard (Err fault)) added n behind = (added ≡ []) × (n ≡ failures_of fault) × (behind ≡ A)
      × IsAsked item.verdict (λ token ask. (place : List I) × Begins A place × Begins place B × Unanswers place token ask fault)

  -- The messages are answered one after another, from the history A to the history B,
  -- with these entries and f failures of the keeper.
  abbrev pub IsServingAtOnce : List I → List Item → List Outcome → List I → ℕ → List I → Type 0
  IsServingAtOnce A [] [] E f B = (E ≡ []) × (f ≡ 0) × Begins A B
  IsServingAtOnce A [] (outcome ∷ outcomes) E f B = ⊥
  IsServingAtOnce A (item ∷ items) [] E f B = ⊥
  IsServingAtOnce A (item ∷ items) (outcome ∷ outcomes) E f B = (added : List I) × (n : ℕ) × (behind : List I) × (more : List I) × (k : ℕ)
      × IsPlacedAtOnce A B item outcome added n behind × IsServingAtOnce behind items outcomes more k B × (E ≡ added ++ more) × (f ≡ n + k)

-- If no keeper lets rows wait, a link that is served by an office is served so that an ask without an answer adds nothing.
abbrev pub NothingIsHeldBack : Type 0
NothingIsHeldBack = (facts : SeasonFacts) (room : Bool) (kept : ℕ) (A : List Entry) (items : List Item) (outcomes : List Outcome) (E : List Entry) (f : ℕ) (B : List Entry)
    → IsServing (AnswersAt facts) (UnanswersAt facts room ⊥) kept A items outcomes E f B
    → IsServingAtOnce (AnswersAt facts) (λ place token ask fault. IsUnanswered facts room place (request_of facts token ask) fault) A items outcomes E f B
