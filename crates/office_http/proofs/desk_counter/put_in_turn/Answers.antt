use Rattle.std.proofs.Common.{◌<◌, ◌∙◌, ap, length, refl, subst, sym}
use Rattle.office_http.specs.Knowing.{known_of}
use Rattle.proceedings.specs.Proceeding.{last_of}
use Rattle.office_http.specs.Keeping.{StoodView}
use Rattle.office_http.proofs.Turns.{put_at_desk, asked_puts_back}
use Rattle.office_http.proofs.desk_counter.put_in_turn.Goals as goal

pub turn-requires-clause-job : goal.turn-requires-clause-job
turn-requires-clause-job g c v n small basis last p shown = (
  subst (λ (stood : StoodView _). last_of stood.office.entries < n) (sym shown) last,
  λ q r asked. asked_puts_back g.K.Keeper.seen n _ _ r.0 p.now v q.now shown asked.0 asked.2,
)

pub returns-clause-put : goal.returns-clause-put
returns-clause-put g c =
    let t = c.turn.ensures.turned in
    put_at_desk g.K.Keeper.seen _ t.number _ _ _ _ _ t.did.shown.now t.held t.did.left.now t.left (known_of c.args.pass.now)
    (known_of c.turn.new.pass) c.token_parts-has_token.ensures t.did.shows t.did.leaves t.basis
    (record { begins = t.begins; counts = t.counts; shares = t.shares; seen = t.seen; own = t.grown; found = t.found; count = t.count; keeps = t.keeps; keeps_on = t.keeps_on; kept = t.kept }) t.did.met.0 t.did.met.1

pub returns-clause-count : goal.returns-clause-count
returns-clause-count g c =
    let t = c.turn.ensures.turned in
    t.did.met.3 ∙ ap (λ (stood : StoodView _). length stood.office.entries) t.did.leaves ∙ ap length (sym t.seen)
