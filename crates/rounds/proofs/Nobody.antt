-- Where nobody is guaranteed a seat, nobody is kept: each seat is under a step.
use Rattle.std.proofs.Common.{◌≡◌, ◌↔◌, ℕ, List, Option, refl}
use Rattle.std.proofs.lemmas.Bool.{false≢true}
use Rattle.office_base.specs.declared.person.Person.{Person}
use Rattle.office_base.specs.declared.seat.Seat.{Seat}
use Rattle.office_base.specs.declared.seat.SeatKind.{SeatKind}
use Rattle.office_base.specs.declared.seat.SeatKind.TheVariants.{Kept, Under}
use Rattle.office_base.specs.declared.step.StepKind.{StepKind}
use Rattle.allocations.specs.Fair.{IsBest, IsFair}
use Rattle.allocations.specs.Market.{Seeker}
use Rattle.allocations.specs.Rule.{Rule}
use Rattle.kept_seats.specs.Kept.{alone}
use Rattle.rounds.specs.Rule.{nobody, rule_of, steps_of}
use Rattle.seat_matrix.specs.Matrix.{SeatTable}

-- whom the programme admits is chosen under a step
pub record IsUnder (version : ℕ) (table : SeatTable) (p : ℕ) (people : List Person) (person : Person) (kind : SeatKind) : Type 0 where
  pub step : StepKind
  pub is : kind ≡ Under step
  pub chosen : steps_of version table p people person step

pub is_under : (version : ℕ) (table : SeatTable) (p : ℕ) (people : List Person) (person : Person) (kind : SeatKind) → rule_of version nobody table p people person kind
    → IsUnder version table p people person kind
is_under version table p people person (Under step) admits = record { step = step; is = refl; chosen = admits }
is_under version table p people person Kept keeps = absurd (false≢true keeps.guaranteed_there)

-- ---- rules that admit alike

-- the rules admit the same persons in the same way
abbrev pub AdmitAlike : Rule → Rule → Type 0
AdmitAlike rule other = (p : ℕ) (people : List Person) (x : Person) (kind : SeatKind) → rule p people x kind ↔ other p people x kind

turned : (rule other : Rule) → AdmitAlike rule other → AdmitAlike other rule
turned rule other same p people x kind = let here = same p people x kind in (here.1, here.0)

fair_as : (rule other : Rule) (count : ℕ) (seekers : List Seeker) (seats : List (Option Seat)) → AdmitAlike rule other → IsFair rule count seekers seats → IsFair other count seekers seats
fair_as rule other count seekers seats same fair = record {
  allocation = fair.allocation;
  agrees = λ p i s kind below there.
      let agrees = fair.agrees p i s kind below there in
      let here = same p _ s.person kind in
      (λ admits. agrees.0 (here.1 admits), λ has. here.0 (agrees.1 has));
}

-- so their best allocations are the same
pub best_as : (rule other : Rule) (count : ℕ) (seekers : List Seeker) (seats : List (Option Seat)) → AdmitAlike rule other → IsBest rule count seekers seats → IsBest other count seekers seats
best_as rule other count seekers seats same best = record {
  fair = fair_as rule other count seekers seats same best.fair;
  best = λ others fair. best.best others (fair_as other rule count seekers others (turned rule other same) fair);
}

-- without guarantees the steps decide alone
steps_alone : (version : ℕ) (table : SeatTable) → AdmitAlike (rule_of version nobody table) (alone (steps_of version table))
steps_alone version table p people x (Under step) = (λ admits. admits, λ admits. admits)
steps_alone version table p people x Kept = (λ keeps. false≢true keeps.guaranteed_there, λ none. absurd none)

pub fair_alone : (version count : ℕ) (table : SeatTable) (seekers : List Seeker) (seats : List (Option Seat)) → IsFair (rule_of version nobody table) count seekers seats
    → IsFair (alone (steps_of version table)) count seekers seats
fair_alone version count table seekers seats fair = fair_as (rule_of version nobody table) (alone (steps_of version table)) count seekers seats (steps_alone version table) fair

pub best_alone : (version count : ℕ) (table : SeatTable) (seekers : List Seeker) (seats : List (Option Seat)) → IsBest (rule_of version nobody table) count seekers seats
    → IsBest (alone (steps_of version table)) count seekers seats
best_alone version count table seekers seats best = best_as (rule_of version nobody table) (alone (steps_of version table)) count seekers seats (steps_alone version table) best
