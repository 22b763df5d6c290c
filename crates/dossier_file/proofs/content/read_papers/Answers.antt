use Rattle.std.proofs.Common.{◌≡◌, ℕ, List, ap, length, sym, subst, ◌∙◌, arith}
use Rattle.std.specs.List.{AllByRecursion}
use Rattle.text_readers.proofs.KnownLemmas.{small-people}
use Rattle.dossier_file.specs.Due.{IsDueOf, due}
use Rattle.dossier_file.specs.declared.due.Due.{Due}
use Rattle.dossier_file.proofs.KeptLemmas.{due_good}
use Rattle.dossier_file.proofs.content.read_papers.Goals as goal

pub take_all-requires-clause-readable : goal.take_all-requires-clause-readable
take_all-requires-clause-readable c = record {
  spelled = c.codes_are_spelled.ensures;
  codes = c.count-programmes.ensures.seats.codes;
  small = small-people c.args.season.now.register.people (λ id person e. (c.people.ensures.ranks.registered id person e).high);
  rising = c.people.ensures.ranks.rising;
  few = omega (arith, c.people.ensures.ranks.few);
}

pub take_all-requires-clause-dues : goal.take_all-requires-clause-dues
take_all-requires-clause-dues c =
    let season = c.args.season.now in
    let cuts = c.accepted_cuts-cuts.result in
    let same : c.as_slice.result.now ≡ due season.rounds (length season.matrix.programmes) cuts = c.as_slice.ensures ∙ (c.in_ok-dues.ensures ∙ ap (λ (n : ℕ). due season.rounds n cuts) c.count-programmes.ensures.count) in
    subst (λ (z : List Due). AllByRecursion (IsDueOf season.matrix) z) (sym same) (due_good season.matrix season.rounds cuts (omega (arith, c.accepted_cuts-cuts.ensures.within, season.few_rounds)))
