use Rattle.std.proofs.Common.{◌<◌, refl, subst, sym}
use Rattle.office_http.specs.Knowing.{known_of}
use Rattle.proceedings.specs.Proceeding.{last_of}
use Rattle.office_http.specs.Keeping.{StoodView}
use Rattle.office_http.proofs.Turns.{settled_at_desk, settled_puts_back}
use Rattle.office_http.proofs.desk_counter.settle_in_turn.Goals as goal

pub late_turn-requires-clause-job : goal.late_turn-requires-clause-job
late_turn-requires-clause-job g c v n small basis last p shown = (
  subst (λ (stood : StoodView _). last_of stood.office.entries < n) (sym shown) last,
  λ q r settled. settled_puts_back g.K.Keeper.seen n c.args.needed r p.now v q.now shown settled,
)

pub returns-clause-settled : goal.returns-clause-settled
returns-clause-settled g c =
    let t = c.late_turn.ensures.turned in
    settled_at_desk g.K.Keeper.seen t.number c.args.needed _ t.did.shown.now t.held t.did.left.now t.left (known_of c.args.pass.now) (known_of c.late_turn.new.pass) t.did.shows t.did.leaves
    (record { begins = t.begins; counts = t.counts; shares = t.shares; seen = t.seen; own = t.grown; found = t.found; count = t.count; keeps = t.keeps; keeps_on = t.keeps_on; kept = t.kept }) t.did.met c.requires.needed
