use Rattle.dossier_file.proofs.KeptLemmas.{lists_whole, named_once, rounds_whole}
use Rattle.dossier_file.proofs.dossier.Dossier.with_papers.Goals as goal

pub invariant_of-result : goal.invariant_of-result
invariant_of-result c =
    let season = c.args.season in
    let papers = c.args.papers in
    record {
      texts = ∣ c.requires ∣₁;
      whole_rounds = rounds_whole season.matrix season.register.people season.rounds c.args.script papers.rounds papers.lists papers.last c.requires;
      whole_lists = lists_whole season.matrix season.register.people season.rounds c.args.script papers.rounds papers.lists papers.last c.requires;
      once = named_once season.matrix season.register.people season.rounds c.args.script papers.rounds papers.lists papers.last c.requires;
    }
