use Rattle.std.proofs.Common.{refl}
use Rattle.season_facts.specs.Season.{facts_of}
use Rattle.best_audit.proofs.Replaying.{all_publish, as_request, early_there, fair_there, tested}
use Rattle.best_audit.proofs.cut.gain_at.Goals as goal

pub returns-then-not-publishes : goal.returns-then-not-publishes
returns-then-not-publishes g c request there is =
    let facts = facts_of c.args.dossier.now.season in
    let test = tested facts g.cut.state c.args.dossier.now.script c.as_slice.result.now c.args.at request c.index-as_slice-at.result c.publishes.result c.as_slice.ensures c.index-as_slice-at.is
    (c.publishes.ensures facts g.cut.state refl c.requires.1.1.0.window) there in
    let yes' = test.1 is in
    let no' = c.if-not-publishes.true in
    absurd (cc)

pub gain_of_cut-requires : goal.gain_of_cut-requires
gain_of_cut-requires g c =
    let facts = facts_of c.args.dossier.now.season in
    let script = c.args.dossier.now.script in
    let publish = all_publish facts g.cut.state script c.as_slice.result.now c.args.at c.index-as_slice-at.result c.publishes.result c.as_slice.ensures c.index-as_slice-at.is
    (c.publishes.ensures facts g.cut.state refl c.requires.1.1.0.window) c.if-not-publishes.false in
    (c.requires.1.0, (c.requires.1.1.0, (early_there facts g.cut.state script c.args.at c.requires.0 publish, fair_there facts g.cut script c.args.at c.requires.0 publish c.requires.1.1.1)))

pub returns : goal.returns
returns g c =
    let facts = facts_of c.args.dossier.now.season in
    let script = c.args.dossier.now.script in
    let publish = all_publish facts g.cut.state script c.as_slice.result.now c.args.at c.index-as_slice-at.result c.publishes.result c.as_slice.ensures c.index-as_slice-at.is
    (c.publishes.ensures facts g.cut.state refl c.requires.1.1.0.window) c.if-not-publishes.false in
    as_request facts g.cut script c.args.at c.gain_of_cut.result publish c.gain_of_cut.ensures
