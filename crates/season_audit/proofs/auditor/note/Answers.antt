use Rattle.std.proofs.Common.{◌∙◌, sym}
use Rattle.season_facts.specs.Season.{facts_of}
use Rattle.season_audit.proofs.Taking.{not_known, noted, unnoted}
use Rattle.season_audit.proofs.auditor.note.Goals as goal

pub returns-in_default : goal.returns-in_default
returns-in_default g c = not_known (facts_of c.args.season.now) g.state c.args.by c.args.row c.args.stands.now c.requires.0 (sym c.in_default.ensures.person)

pub returns-then-not-notes : goal.returns-then-not-notes
returns-then-not-notes g c =
    unnoted (facts_of c.args.season.now) g.state c.args.by c.args.row c.args.stands.now c.in-Some.at _ c.requires.0 (sym c.in-Some.ensures.row) c.in-Some.ensures.within (sym c.notes.ensures ∙ c.if-not-notes.true)

pub returns : goal.returns
returns g c =
    rw (c.answered.ensures) (noted (facts_of c.args.season.now) g.state c.args.by c.args.row c.args.stands.now c.in-Some.at _ c.people.ensures.ranks.rising c.requires.0 c.requires.1.0 c.requires.1.1
    (sym c.in-Some.ensures.row) c.in-Some.ensures.within (sym c.notes.ensures ∙ c.if-not-notes.false))
