use Rattle.std.proofs.Common.{sym, ◌∙◌}
use Rattle.seat_matrix.proofs.Numbers.{settle-new, settle-old}
use Rattle.seat_matrix.proofs.builder.settle.Goals as goal

pub returns-in_ok-insert-clause-keys : goal.returns-in_ok-insert-clause-keys
returns-in_ok-insert-clause-keys c =
    settle-new c.args.programmes.now.entries c.insert.new.self.entries c.args.code c.args.home (sym c.contains_key.ensures ∙ c.if-not-contains_key.true) c.in_ok-insert.ensures.entries

pub returns-else-not-contains_key-clause-keys : goal.returns-else-not-contains_key-clause-keys
returns-else-not-contains_key-clause-keys c = settle-old c.args.programmes.now.entries c.args.code (sym c.contains_key.ensures ∙ c.if-not-contains_key.false)
