-- What is kept later is no less: links and doors that are served stay served.
use Rattle.std.proofs.Common.{◌≡◌, ◌≤◌, ◌+◌, ℕ, List, [], ◌∷◌, ◌++◌, Option, Ok, Err, length, arith, ap}
use Rattle.office_asks.specs.declared.ask.Ask.{Ask}
use Rattle.http_sessions.specs.Exchange.{Item, Outcome, wired, unread, heard}
use Rattle.http_sessions.specs.declared.counter.Answered.{Answered}
use Rattle.http_wire.specs.declared.faults.Fault.{Fault}
use Rattle.door_crews.specs.Served.{DoorLooks, IsPlaced, IsServing, IsServed, AreServed, DoorServed}

module _ {I : Type 0} (Answers : List I → Option (List ℕ) → Ask → Answered → List I → Type 0) (Unanswers : List I → Option (List ℕ) → Ask → Fault → List I → Type 0) (k l : ℕ) (le : k ≤ l) where
  pub placed_later : (A : List I) (item : Item) (outcome : Outcome) (added : List I) (n : ℕ) (behind : List I)
      → IsPlaced Answers Unanswers k A item outcome added n behind → IsPlaced Answers Unanswers l A item outcome added n behind
  placed_later A item wired added n behind p = p
  placed_later A item unread added n behind p = p
  placed_later A item (heard (Ok answered)) added n behind p = (p.0, (let few = p.1 in omega (arith, few, le)), p.2)
  placed_later A item (heard (Err fault)) added n behind p = p

  pub serving_later : (A : List I) (items : List Item) (outcomes : List Outcome) (E : List I) (f : ℕ) (B : List I)
      → IsServing Answers Unanswers k A items outcomes E f B → IsServing Answers Unanswers l A items outcomes E f B
  serving_later A [] [] E f B s = s
  serving_later A [] (outcome ∷ outcomes) E f B s = absurd s
  serving_later A (item ∷ items) [] E f B s = absurd s
  serving_later A (item ∷ items) (outcome ∷ outcomes) E f B s = (
    s.0,
    s.1,
    s.2,
    s.3,
    s.4,
    placed_later A item outcome s.0 s.1 s.2 s.5,
    serving_later s.2 items outcomes s.3 s.4 B s.6,
    s.7,
    s.8,
  )

  module _ {D L : Type 0} (of : DoorLooks D L) where
    pub link_later : (A : List I) (link link' : L) (E : List I) (f : ℕ) (B : List I) → IsServed Answers Unanswers k of A link link' E f B → IsServed Answers Unanswers l of A link link' E f B
    link_later A link link' E f B s = record {
      bytes = s.bytes;
      end = s.end;
      items = s.items;
      outcomes = s.outcomes;
      rest = s.rest;
      are = s.are;
      cuts = s.cuts;
      few = s.few;
      unclosed = s.unclosed;
      serving = serving_later A s.items s.outcomes E f B s.serving;
      told = s.told;
      cause = s.cause;
      steady = s.steady;
    }

    pub links_later : (A : List I) (pairs : List (L × L)) (E : List I) (f : ℕ) (B : List I) → AreServed Answers Unanswers k of A pairs E f B → AreServed Answers Unanswers l of A pairs E f B
    links_later A [] E f B s = s
    links_later A (pair ∷ pairs) E f B s =
        (s.0, s.1, s.2, s.3, s.4, link_later A pair.0 pair.1 s.0 s.1 s.2 s.5, links_later s.2 pairs s.3 s.4 B s.6, s.7, s.8)

    pub door_later : (door door' : D) (A : List I) (E : List I) (f : ℕ) (B : List I) → DoorServed Answers Unanswers k of door door' A E f B → DoorServed Answers Unanswers l of door door' A E f B
    door_later door door' A E f B s = record { links = s.links; passed = s.passed; served = links_later A s.links E f B s.served; back = s.back; ended = s.ended }
