use Rattle.std.proofs.Common.{◌∙◌, subst, sym}
use Rattle.std.proofs.lemmas.List.{length-map}
use Rattle.audit_rules.specs.Verdict.{IsVerdict}
use Rattle.audit_rules.specs.declared.verdict.Verdict.{Verdict}
use Rattle.season_facts.specs.Season.{facts_of}
use Rattle.publish.specs.declared.reads.RoundRead.{RoundRead}
use Rattle.season_audit.specs.Audit.{papers_in}
use Rattle.season_audit.proofs.Taking.{is_whole}
use Rattle.season_audit.proofs.whole.audit.Goals as goal

pub returns-clause-verdict : goal.returns-clause-verdict
returns-clause-verdict c =
    c.verdict_of.ensures (facts_of c.args.dossier.now.season) c.args.dossier.now.script (papers_in c.args.dossier.now)
    (c.len.ensures ∙ sym (length-map c.args.dossier.now.rounds (λ (read : RoundRead). read.rows))) c.in_ok-broken.ensures

pub returns-clause-fair : goal.returns-clause-fair
returns-clause-fair c rounds is =
    let facts = facts_of c.args.dossier.now.season in
    let verdict = c.verdict_of.ensures facts c.args.dossier.now.script (papers_in c.args.dossier.now)
    (c.len.ensures ∙ sym (length-map c.args.dossier.now.rounds (λ (read : RoundRead). read.rows))) c.in_ok-broken.ensures in
    c.sound_is_fair.ensures facts c.args.dossier.now.script (papers_in c.args.dossier.now) rounds c.says_what_is_sound.ensures
    (is_whole facts c.args.dossier.now.script c.args.dossier.now.rounds c.args.dossier.now.lists _ c.args.dossier.now.whole_rounds c.args.dossier.now.whole_lists)
    (subst (λ (v : Verdict). IsVerdict facts c.args.dossier.now.script (papers_in c.args.dossier.now) v) is verdict)
