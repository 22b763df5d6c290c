use Rattle.http_asks.proofs.NamedLemmas.{named_path, queried_path}
use Rattle.http_asks.proofs.PagesLemmas.{one_path}
use Rattle.http_asks.proofs.laws.pages_have_one_path.Goals as goal

pub returns : goal.returns
returns c = record {
  one = one_path c.numbers_are_inverse.ensures;
  named = named_path c.numbers_are_inverse.ensures;
  queried = queried_path c.numbers_are_inverse.ensures;
}
