-- Candidates of the trials.
use Rattle.std.specs.Prelude.{ℕ, [], ◌∷◌}
use Rattle.office_base.specs.declared.person.Category.TheVariants.{Gen}
use Rattle.office_base.specs.declared.person.Person.{Person}
use Rattle.office_base.specs.declared.person.Place.TheVariants.{Common, Absent}

-- a general candidate with the number as the common place in list 1
abbrev pub general : ℕ → ℕ → Person
general number traits = record { id = record { 0 = number }; category = Gen; traits = record { 0 = traits }; places = Common number ∷ Absent ∷ Absent ∷ Absent ∷ [] }
