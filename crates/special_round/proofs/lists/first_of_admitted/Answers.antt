use Rattle.std.proofs.Common.{◌<◌, ℕ, List, sym, subst}
use Rattle.office_base.specs.Lists.{Pairwise}
use Rattle.special_round.proofs.lists.first_of_admitted.Goals as goal

pub is_of_admitted-requires : goal.is_of_admitted-requires
is_of_admitted-requires c = subst (λ (ids : List ℕ). Pairwise (λ a b. a < b) ids) (sym c.as_slice.ensures.value) c.in_ok-ids.ensures.rising
