use Rattle.placements.proofs.Ranks.{outside}
use Rattle.slot_matching.proofs.laws.outside.Goals as goal

pub returns : goal.returns
returns c = λ protections people others all m n among h h'. outside protections others people all m n among h h'
