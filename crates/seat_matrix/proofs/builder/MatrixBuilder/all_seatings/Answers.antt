use Rattle.std.proofs.Common.{◌≡◌, map, rules}
use Rattle.std.specs.Map.Iter.{deref_pair}
use Rattle.std.proofs.lemmas.Map.Iter.{iter_end}
use Rattle.seat_matrix.proofs.Numbers.{all_seats_made}
use Rattle.seat_matrix.proofs.builder.MatrixBuilder.all_seatings.Goals as goal

pub returns : goal.returns
returns c = λ entries keeps.
    let all : map deref_pair c.loop-code.yielded ≡ c.args.self.now.programmes.entries = search (rules, iter_end) in
    all_seats_made entries c.args.self.now keeps c.loop-code.steps.items (map deref_pair c.loop-code.yielded) all (c.loop-code.invariant entries keeps)
