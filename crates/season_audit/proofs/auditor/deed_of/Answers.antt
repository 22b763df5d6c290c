use Rattle.season_facts.specs.Season.{facts_of}
use Rattle.season_audit.proofs.Requests.{others_quiet}
use Rattle.season_audit.proofs.auditor.deed_of.Goals as goal

pub returns-in_default-clause-does : goal.returns-in_default-clause-does
returns-in_default-clause-does c = others_quiet (facts_of c.args.season.now) c.args.request.now c.in_default.not-Answer c.in_default.not-Cut c.in_default.not-Raise
