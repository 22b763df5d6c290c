-- Where no guarantee is given, nobody is guaranteed a seat.
use Rattle.std.proofs.Common.{◌≡◌, ◌↔◌, ◌∙◌, ◌==◌, ℕ, zero, suc, Bool, true, false, List, [], ◌∷◌, Option, Some, None, refl, sym}
use Rattle.std.specs.Prelude.{replicate, if◌then◌else◌}
use Rattle.office_base.specs.Person.{at_person}
use Rattle.office_base.specs.declared.person.Person.{Person}
use Rattle.office_base.specs.declared.person.ProgId.{ProgId}
use Rattle.office_base.specs.declared.seat.SeatKind.{SeatKind}
use Rattle.office_base.specs.declared.seat.SeatKind.TheVariants.{Kept, Under}
use Rattle.kept_seats.specs.Kept.{Guarantees, StepRule, with_kept}
use Rattle.rounds.specs.Round.{IsRound}
use Rattle.rounds.proofs.Nobody.{AdmitAlike, best_as}
use Rattle.rounds.specs.Rule.{guarantees, is_programme, nobody, rule_of, steps_of}
use Rattle.rounds.specs.declared.round.Round.{Round}
use Rattle.seat_matrix.specs.Matrix.{SeatTable}
use Rattle.seeks.specs.declared.seek.Seek.{Seek}

-- no programme is guaranteed where none is given
either : (p : ℕ) (here : Bool) (later : Option (Option ProgId)) → is_programme p later ≡ false → is_programme p (if here then Some None else later) ≡ false
either p true later none = refl
either p false later none = none

none_at : (p id n : ℕ) (people : List Person) → is_programme p (at_person id people (replicate n None)) ≡ false
none_at p id n [] = refl
none_at p id zero (person ∷ people) = refl
none_at p id (suc n) (person ∷ people) = either p (person.id.0 == id) (at_person id people (replicate n None)) (none_at p id n people)

none_guaranteed : (people : List Person) (n p : ℕ) (x : Person) → guarantees people (replicate n None) p x ≡ false
none_guaranteed people n p x = none_at p x.id.0 n people

-- guarantees that say the same give the same rule
module _ (rule : StepRule) (guaranteed other : Guarantees) (same : (p : ℕ) (x : Person) → guaranteed p x ≡ other p x) where
  one_way : (p : ℕ) (people : List Person) (x : Person) (kind : SeatKind) → with_kept guaranteed rule p people x kind → with_kept other rule p people x kind
  one_way p people x (Under step) admits = admits
  one_way p people x Kept keeps = record { guaranteed_there = sym (same p x) ∙ keeps.guaranteed_there; applies = keeps.applies; not_chosen = keeps.not_chosen }

both_ways : (rule : StepRule) (guaranteed other : Guarantees) → ((p : ℕ) (x : Person) → guaranteed p x ≡ other p x) → AdmitAlike (with_kept guaranteed rule) (with_kept other rule)
both_ways rule guaranteed other same p people x kind = (one_way rule guaranteed other same p people x kind, one_way rule other guaranteed (λ q y. sym (same q y)) p people x kind)

-- So a round in which no guarantee is given is one in which nobody is guaranteed a seat.
pub plain_is : (version n count : ℕ) (table : SeatTable) (people : List Person) (lists : List (List ProgId)) (seeks : List Seek) (round : Round)
    → IsRound version (guarantees people (replicate count None)) table people lists n seeks round → IsRound version nobody table people lists n seeks round
plain_is version n count table people lists seeks round is = record {
  number = is.number;
  sought = is.sought;
  best = best_as (rule_of version (guarantees people (replicate count None)) table) (rule_of version nobody table) _ _ round.seats
      (both_ways (steps_of version table) (guarantees people (replicate count None)) nobody (λ p x. none_guaranteed people count p x)) is.best;
  count = is.count;
  shown = is.shown;
}
