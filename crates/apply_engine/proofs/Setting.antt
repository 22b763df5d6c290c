-- What follows for a setting: its programmes are a rule that chooses well, and whom each of them may be offered.
use Rattle.std.proofs.Common.{◌≡◌, ℕ, zero, suc, List, [], ◌∷◌, Some, length, arith, refl, ap}
use Rattle.std.specs.Prelude.{slice_get}
use Rattle.office_base.specs.declared.person.Person.{Person}
use Rattle.office_base.specs.declared.person.ProgId.{ProgId}
use Rattle.allocations.specs.Market.{Seeker}
use Rattle.allocations.specs.Rule.{ChoosesWell}
use Rattle.rounds.specs.Rule.{MayApplyIn, guarantees}
use Rattle.seat_matrix.specs.Matrix.{AreSeats}
use Rattle.apply_engine.specs.Engine.{AreLawful, Setting, rule_in, seekers_with}

-- the programmes of a setting choose well
pub chooses_well_in : (set : Setting) → AreLawful → AreSeats set.table → ChoosesWell (rule_in set) (MayApplyIn set.table)
chooses_well_in set laws seats = laws.well set.version (guarantees set.people set.guaranteed) set.table seats

-- ---- seekers

pub record SeekerAt (people : List Person) (lists : List (List ProgId)) (i : ℕ) (s : Seeker) : Type 0 where
  pub person_at : slice_get people i ≡ Some s.person
  pub list_at : slice_get lists i ≡ Some s.list

pub seeker_at : (people : List Person) (lists : List (List ProgId)) (i : ℕ) (s : Seeker) → slice_get (seekers_with people lists) i ≡ Some s → SeekerAt people lists i s
seeker_at [] lists i s at = absurd (cc)
seeker_at (person ∷ people) [] i s at = absurd (cc)
seeker_at (person ∷ people) (list ∷ lists) zero s at =
    let made : Seeker = record { person = person; list = list } in
    let same : made ≡ s = cc in
    record { person_at = ap (λ (z : Seeker). Some z.person) same; list_at = ap (λ (z : Seeker). Some z.list) same }
seeker_at (person ∷ people) (list ∷ lists) (suc i) s at =
    let rest = seeker_at people lists i s at in
    record { person_at = rest.person_at; list_at = rest.list_at }

pub length_with : (people : List Person) (lists : List (List ProgId)) → length lists ≡ length people → length (seekers_with people lists) ≡ length people
length_with [] lists full = refl
length_with (person ∷ people) [] full = absurd (omega (arith, full))
length_with (person ∷ people) (list ∷ lists) full = ap suc (length_with people lists (omega (arith, full)))
