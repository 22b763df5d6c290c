use Rattle.placements.proofs.Hall.{placed_where_none_short, none_short_where_placed}
use Rattle.slot_matching.proofs.laws.trait_sets.Goals as goal

pub returns : goal.returns
returns c = λ protections people distinct small. (
  (λ can m less. none_short_where_placed protections people (record { 0 = m }) distinct small can),
  (λ none_short. placed_where_none_short protections people distinct small none_short),
)
