use Rattle.std.proofs.Common.{rules, ◌≡◌, true}
use Rattle.sqlite_wal.specs.Reads.{IsClean}
use Rattle.system_edge.specs.Heads.{HasSoundHead}
use Rattle.system_edge.specs.Hidden.{HidesNothing}
use Rattle.system_edge.proofs.HiddenLemmas.{both_hold}
use Rattle.system_edge.proofs.hidden.is_sound.Goals as goal

pub returns-clause-sound : goal.returns-clause-sound
returns-clause-sound g c =
    let log = g.D.Disk.seen c.args.log.now in
    let yes : c.in_ok-has_sound_head.field-0 ≡ true = search rules in
    both_hold (IsClean g.D.Disk c.hides_nothing.new.log) (HasSoundHead log) (HidesNothing log) c.hides_nothing.result
    (λ clean. (c.in_ok-has_sound_head.ensures.sound (c.hides_nothing.ensures.same.clean clean)).0 yes)
    (rw c.in_ok-has_sound_head.ensures.same.seen at c.hides_nothing.ensures.nothing)
