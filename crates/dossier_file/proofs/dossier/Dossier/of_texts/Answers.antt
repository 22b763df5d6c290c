use Rattle.std.proofs.Common.{List, subst}
use Rattle.office_asks.specs.declared.ask.Request.{Request}
use Rattle.dossier_file.specs.Papers.{AreDuePapers}
use Rattle.dossier_file.proofs.dossier.Dossier.of_texts.Goals as goal

pub with_papers-requires : goal.with_papers-requires
with_papers-requires c =
    let season = c.args.season in (
      c.args.published.now,
      subst (λ (z : List Request). AreDuePapers season.matrix season.register.people season.rounds z c.args.published.now c.in-Ok.papers) c.as_slice.ensures c.in-Ok.ensures.value,
    )
