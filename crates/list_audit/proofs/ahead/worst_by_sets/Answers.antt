use Rattle.std.proofs.Common.{◌<◌, ◌+◌, ℕ, None, get_or, arith, subst, sym}
use Rattle.std.proofs.Math.ListN.{length-set, set}
use Rattle.list_audit.specs.Reckoning.{IsWorstWithin}
use Rattle.list_audit.proofs.Worst.{worst_put}
use Rattle.list_audit.proofs.ahead.worst_by_sets.Goals as goal

pub loop-set-preserved : goal.loop-set-preserved
loop-set-preserved c =
    let size = c.loop-set.invariant.0 in (
      simp length-set size,
      subst (λ (at : ℕ). (n : ℕ) → n < c.loop-set.set + 1 → IsWorstWithin c.args.list (record { 0 = n }) c.args.members.now (get_or (set c.loop-set.worst at c.worst_within.result) n None)) (sym c.from.ensures)
          (worst_put c.args.list c.args.members.now c.loop-set.worst c.loop-set.set c.worst_within.result (omega (arith, size)) c.worst_within.ensures c.loop-set.invariant.1),
    )

pub returns : goal.returns
returns c n less = c.loop-set.invariant.1 n (omega (arith, less))
