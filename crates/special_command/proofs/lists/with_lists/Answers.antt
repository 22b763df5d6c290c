use Rattle.special_command.specs.Texts.{special_text}
use Rattle.special_command.proofs.Listed.{one_more}
use Rattle.special_command.proofs.lists.with_lists.Goals as goal

pub loop-prog-preserved : goal.loop-prog-preserved
loop-prog-preserved c =
    let (text, is, put) = c.in_ok-push_programme.ensures in
    one_more c.args.special.now.season.matrix c.args.special.now.round c.loop-prog.prog (special_text c.args.special.now) c.loop-prog.out c.push_programme.new.out text c.loop-prog.invariant is put
