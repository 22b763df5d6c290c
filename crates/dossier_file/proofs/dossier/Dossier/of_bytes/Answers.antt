use Rattle.std.proofs.Common.{List, sym, subst, arith}
use Rattle.office_asks.specs.declared.ask.Request.{Request}
use Rattle.text_readers.specs.Reading.{IsTextFault}
use Rattle.season_file.specs.Season.{content_of}
use Rattle.dossier_file.specs.Dossier.{IsBytesFault}
use Rattle.dossier_file.specs.Papers.{AreDuePapers}
use Rattle.dossier_file.specs.declared.fault.DossierFault.{DossierFault}
use Rattle.dossier_file.proofs.SplitLemmas.{published_short}
use Rattle.dossier_file.proofs.PartLemmas.{bundle_fault, papers_fault, requests_fault}
use Rattle.dossier_file.proofs.dossier.Dossier.of_bytes.Goals as goal

pub returns-in-Err-clause-fault : goal.returns-in-Err-clause-fault
returns-in-Err-clause-fault c =
    let parts = c.in-Some.parts in
    subst (λ (fault : DossierFault). IsBytesFault c.args.bytes.now fault) (sym c.season_error.ensures)
    (bundle_fault c.args.bytes.now parts.bundle.now parts.requests.now parts.published.now c.requires c.in-Some.ensures.some c.in-Err.fault c.in-Err.ensures.fault)

pub returns-in-Err-read_requests-clause-fault : goal.returns-in-Err-read_requests-clause-fault
returns-in-Err-read_requests-clause-fault c =
    let parts = c.in-Some.parts in
    let season = c.in-Ok.ensures.value in
    subst (λ (fault : DossierFault). IsBytesFault c.args.bytes.now fault) (sym c.season_error-in-Err-read_requests.ensures)
    (requests_fault c.args.bytes.now parts.bundle.now parts.requests.now parts.published.now c.requires c.in-Some.ensures.some (content_of c.in-Ok.season season.row) season.given c.in-Err-read_requests.fault c.in-Err-read_requests.ensures.fault)

pub read_papers-requires : goal.read_papers-requires
read_papers-requires c =
    let parts = c.in-Some.parts in
    let short = published_short c.args.bytes.now parts.bundle.now parts.requests.now parts.published.now c.in-Some.ensures.some in
    omega (arith, short, c.requires)

pub with_papers-requires : goal.with_papers-requires
with_papers-requires c =
    let season = c.in-Ok.season in (
      c.in-Some.parts.published.now,
      subst (λ (z : List Request). AreDuePapers season.matrix season.register.people season.rounds z c.in-Some.parts.published.now c.in-Ok-read_papers.papers) c.as_slice.ensures c.in-Ok-read_papers.ensures.value,
    )

pub returns-in-Err-read_papers-clause-fault : goal.returns-in-Err-read_papers-clause-fault
returns-in-Err-read_papers-clause-fault c =
    let parts = c.in-Some.parts in
    let season = c.in-Ok.season in
    subst (λ (fault : DossierFault). IsBytesFault c.args.bytes.now fault) (sym c.papers_error.ensures)
    (papers_fault c.args.bytes.now parts.bundle.now parts.requests.now parts.published.now c.requires c.in-Some.ensures.some season c.in-Ok.ensures.value c.in-Ok-read_requests.script c.in-Ok-read_requests.ensures.value c.in-Err-read_papers.fault
    (subst (λ (z : List Request). IsTextFault (AreDuePapers season.matrix season.register.people season.rounds z) parts.published.now c.in-Err-read_papers.fault) c.as_slice.ensures c.in-Err-read_papers.ensures.fault))
