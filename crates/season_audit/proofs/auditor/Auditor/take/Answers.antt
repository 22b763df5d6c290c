use Rattle.std.proofs.Common.{◌≡◌, ◌∙◌, ℕ, List, Some, get_or, ap, subst}
use Rattle.std.specs.Prelude.{slice_get}
use Rattle.std.proofs.lemmas.Option.{get_or_from_slice_get}
use Rattle.office_asks.specs.declared.ask.Request.{Request}
use Rattle.office_moves.specs.Decided.{decided}
use Rattle.season_facts.specs.Season.{facts_of}
use Rattle.season_audit.specs.Audit.{papers_in}
use Rattle.season_audit.specs.Deeds.{Does}
use Rattle.season_audit.specs.declared.auditor.Deed.TheVariants.{Answer, Cut, Raise, Nothing}
use Rattle.season_audit.proofs.Requests.{ok_there, passes_as}
use Rattle.season_audit.proofs.Taking.{answer_by, cut_by, quiet, raise_by}
use Rattle.season_audit.proofs.auditor.Auditor.take.Goals as goal

-- the request at the place
mine : (script slice : List Request) (at : ℕ) (item request : Request) → slice ≡ script → item ≡ get_or slice at item → slice_get script at ≡ Some request → item ≡ request
mine script slice at item request same is there = is ∙ (ap (λ (z : List Request). get_or z at item) same ∙ get_or_from_slice_get script at request item there)

pub returns-in-Answer : goal.returns-in-Answer
returns-in-Answer g c request there =
    let facts = facts_of c.args.dossier.now.season in
    let by = c.index-as_slice-at.result.by in
    let does = subst (λ (r : Request). Does facts r by (Answer c.in-Answer.row)) (mine c.args.dossier.now.script c.as_slice.result.now c.args.at c.index-as_slice-at.result request c.as_slice.ensures c.index-as_slice-at.is there) c.in-Answer.ensures.does in
    passes_as facts (papers_in c.args.dossier.now) g.state (decided facts g.state request) (answer_by facts g.state by c.in-Answer.row) c.answer.new.self (does g.state) (c.answer.ensures (papers_in c.args.dossier.now))

pub returns-in-Cut : goal.returns-in-Cut
returns-in-Cut g c =
    let facts = facts_of c.args.dossier.now.season in
    let by = c.index-as_slice-at.result.by in
    let does : (request : Request) → slice_get c.args.dossier.now.script c.args.at ≡ Some request → decided facts g.state request ≡ cut_by facts g.state by c.in-Cut.window =
    λ request there. subst (λ (r : Request). Does facts r by (Cut c.in-Cut.window)) (mine c.args.dossier.now.script c.as_slice.result.now c.args.at c.index-as_slice-at.result request c.as_slice.ensures c.index-as_slice-at.is there) c.in-Cut.ensures.does g.state in
    ok_there facts (papers_in c.args.dossier.now) g.state c.args.dossier.now.script c.args.at (cut_by facts g.state by c.in-Cut.window) c.cut.new.self c.cut.result does c.cut.ensures

pub returns-in_ok-raise-in-Raise : goal.returns-in_ok-raise-in-Raise
returns-in_ok-raise-in-Raise g c request there =
    let facts = facts_of c.args.dossier.now.season in
    let by = c.index-as_slice-at.result.by in
    let does = subst (λ (r : Request). Does facts r by (Raise c.in-Raise.row)) (mine c.args.dossier.now.script c.as_slice.result.now c.args.at c.index-as_slice-at.result request c.as_slice.ensures c.index-as_slice-at.is there) c.in-Raise.ensures.does in
    passes_as facts (papers_in c.args.dossier.now) g.state (decided facts g.state request) (raise_by facts g.state by c.in-Raise.row) c.raise.new.self (does g.state) (c.in_ok-raise-in-Raise.ensures (papers_in c.args.dossier.now))

pub returns-in-Nothing : goal.returns-in-Nothing
returns-in-Nothing g c request there =
    let facts = facts_of c.args.dossier.now.season in
    let by = c.index-as_slice-at.result.by in
    let does = subst (λ (r : Request). Does facts r by Nothing) (mine c.args.dossier.now.script c.as_slice.result.now c.args.at c.index-as_slice-at.result request c.as_slice.ensures c.index-as_slice-at.is there) c.in-Nothing.ensures.does in
    quiet facts (papers_in c.args.dossier.now) g.state (decided facts g.state request) c.args.self.now (does g.state) c.requires.1
