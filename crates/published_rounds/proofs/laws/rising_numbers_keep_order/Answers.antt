use Rattle.published_rounds.proofs.Numbers as numbers
use Rattle.published_rounds.proofs.laws.rising_numbers_keep_order.Goals as goal

pub returns : goal.returns
returns c = numbers.rising_numbers_keep_order
