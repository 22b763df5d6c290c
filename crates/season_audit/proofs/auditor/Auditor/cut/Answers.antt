use Rattle.std.proofs.Common.{◌≡◌, ◌<◌, ◌∙◌, arith, rules, sym}
use Rattle.season_facts.specs.Season.{facts_of}
use Rattle.office_moves.specs.declared.decide.Decision.TheVariants.{Finish, Publish}
use Rattle.season_audit.specs.Audit.{papers_in}
use Rattle.season_audit.proofs.Requests.{comes_as, ok_as}
use Rattle.season_audit.proofs.Taking.{cut_by, cut_early, cut_last, not_cut, quiet}
use Rattle.season_audit.proofs.auditor.Auditor.cut.Goals as goal

pub returns-then-ne : goal.returns-then-ne
returns-then-ne g c =
    let facts = facts_of c.args.dossier.now.season in
    quiet facts (papers_in c.args.dossier.now) g.state (cut_by facts g.state c.args.by c.args.window) c.args.self.now
    (not_cut facts g.state c.args.by c.args.window (λ clerk now few. absurd (search rules))) c.requires

pub returns-then-window-self : goal.returns-then-window-self
returns-then-window-self g c =
    let facts = facts_of c.args.dossier.now.season in
    quiet facts (papers_in c.args.dossier.now) g.state (cut_by facts g.state c.args.by c.args.window) c.args.self.now
    (not_cut facts g.state c.args.by c.args.window (λ clerk now few. c.if-window-self.true (now ∙ sym c.requires.window))) c.requires

pub returns-then-window-rounds : goal.returns-then-window-rounds
returns-then-window-rounds g c =
    let facts = facts_of c.args.dossier.now.season in
    let over = c.if-window-rounds.true in
    quiet facts (papers_in c.args.dossier.now) g.state (cut_by facts g.state c.args.by c.args.window) c.args.self.now
    (not_cut facts g.state c.args.by c.args.window (λ clerk now few. omega (arith, over, few))) c.requires

pub finish-requires : goal.finish-requires
finish-requires g c =
    let window = c.requires.window in
    let same = c.if-window-self.false in
    let last = c.if-window-rounds-2.true in
    (c.requires, omega (arith, window, same, last))

pub returns-then-window-rounds-2 : goal.returns-then-window-rounds-2
returns-then-window-rounds-2 g c =
    let facts = facts_of c.args.dossier.now.season in
    let same = c.if-window-self.false in
    let last = c.if-window-rounds-2.true in
    comes_as facts (papers_in c.args.dossier.now) g.state (cut_by facts g.state c.args.by c.args.window) Finish _ _
    (cut_last facts g.state c.args.by c.args.window (search rules) (same ∙ c.requires.window) last) c.finish.ensures

pub returns : goal.returns
returns g c =
    let facts = facts_of c.args.dossier.now.season in
    let same = c.if-window-self.false in
    let few = c.if-window-rounds.false in
    let early = c.if-window-rounds-2.false in
    let less : c.args.window < facts.rounds = omega (arith, few, early) in
    ok_as facts (papers_in c.args.dossier.now) g.state (cut_by facts g.state c.args.by c.args.window) Publish c.publish.new.self c.publish.result
    (cut_early facts g.state c.args.by c.args.window (search rules) (same ∙ c.requires.window) less) c.publish.ensures
