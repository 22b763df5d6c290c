use Rattle.best_audit.proofs.Replaying.{publishing}
use Rattle.best_audit.proofs.cut.publishes.Goals as goal

pub returns-in_default : goal.returns-in_default
returns-in_default c facts state rounds window = (λ e. absurd (cc), λ is. let p = publishing facts state c.args.request.now.by c.args.request.now.ask is in absurd (c.in_default.not-Cut p.window p.asks))
