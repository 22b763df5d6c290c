use Rattle.std.proofs.Common.{◌≡◌, ◌∙◌, None, length, refl, rules}
use Rattle.std.specs.Prelude.{replicate}
use Rattle.round_options.specs.declared.standing.Standing.TheVariants.{Waiting}
use Rattle.season_facts.specs.Season.{facts_of}
use Rattle.season_audit.proofs.Taking.{begun}
use Rattle.season_audit.proofs.auditor.Auditor.begin.Goals as goal

pub returns : goal.returns
returns c =
    let facts = facts_of c.args.season.now in
    let all : c.in_ok-stands.stands.items ≡ replicate (length facts.people) (record { left = Waiting; last = 0; standing = Waiting; seat = None }) = search rules in
    begun facts _ c.says_what_is_sound.ensures refl c.new.ensures.raises (c.new.ensures.matrix ∙ c.in_ok-matrix.ensures) all
