-- What is left while people are placed one after another.
use Rattle.std.specs.Prelude.{◌≡◌, ◌-◌, ℕ, List, Option, Some, None, length}
use Rattle.office_base.specs.declared.person.Person.{Person}
use Rattle.placements.specs.Greatest.{one_less}
use Rattle.slot_cert.specs.Bounds.{AreBounds, IsLeastBound}
use Rattle.slot_cert.specs.declared.canonical.Search.{Search}

-- the search is in front of these people
pub record IsSearch (search : Search) (people : List Person) : Type 0 where
  pub six : length search.room.counts ≡ 6
  pub bounds : AreBounds search.bounds search.room people
  pub least : IsLeastBound search.room people search.most

-- with the next person placed on this trait, or on none
abbrev pub Moves : Search → Option ℕ → Search → Type 0
Moves old None new = (new.room ≡ old.room) × (new.most ≡ old.most)
Moves old (Some t) new = (new.room ≡ one_less old.room t) × (new.most ≡ old.most - 1)
