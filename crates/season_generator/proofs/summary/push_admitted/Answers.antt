use Rattle.std.proofs.Common.{codes}
use Rattle.std.specs.Fmt.{decimal}
use Rattle.std.proofs.lemmas.Result.{on_ok_weaker}
use Rattle.season_generator.proofs.RowLemmas.{put_three}
use Rattle.season_generator.proofs.summary.push_admitted.Goals as goal

pub returns : goal.returns
returns c =
    on_ok_weaker c.extend_from_slice-2.result
    (λ e. put_three c.args.out.now (codes "final admitted ") (decimal c.args.admitted) (codes "\n") _ _ _ c.in_ok-extend_from_slice.ensures.ok c.in_ok-push_count.ensures.ok e)
    c.extend_from_slice-2.ensures.ok
