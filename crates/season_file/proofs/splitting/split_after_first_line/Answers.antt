use Rattle.std.proofs.Common.{refl}
use Rattle.season_file.proofs.splitting.split_after_first_line.Goals as goal

pub returns-in-Ok : goal.returns-in-Ok
returns-in-Ok c = rw (← c.after_line.ensures, ← c.skip_empty.ensures, c.in-Ok.ensures) refl
