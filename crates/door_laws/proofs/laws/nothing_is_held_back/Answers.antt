use Rattle.std.proofs.Common.{◌≡◌, ⊎_elim, [], List, ℕ, Bool, Option}
use Rattle.office_asks.specs.declared.ask.Ask.{Ask}
use Rattle.office_moves.specs.Facts.{SeasonFacts}
use Rattle.office_moves.specs.declared.moves.Entry.{Entry}
use Rattle.http_wire.specs.declared.faults.Fault.{Fault}
use Rattle.office_http.specs.Asking.{AnswersAt, IsUnanswered, UnanswersAt, request_of}
use Rattle.door_laws.proofs.AtOnce.{at_once}
use Rattle.door_laws.proofs.laws.nothing_is_held_back.Goals as goal

nothing : (facts : SeasonFacts) (room : Bool) (place : List Entry) (token : Option (List ℕ)) (ask : Ask) (fault : Fault) (added : List Entry) → UnanswersAt facts room ⊥ place token ask fault added
    → (added ≡ []) × IsUnanswered facts room place (request_of facts token ask) fault
nothing facts room place token ask fault added is = ⊎_elim (λ one. one) (λ held. absurd held.0) is

pub returns : goal.returns
returns c facts room kept A items outcomes E f B served =
    at_once (AnswersAt facts) (UnanswersAt facts room ⊥) (λ place token ask fault. IsUnanswered facts room place (request_of facts token ask) fault) (nothing facts room) kept A items outcomes E f B served
