use Rattle.std.proofs.Common.{◌≡◌, refl}
use Rattle.keeper_sqlite.proofs.OpenLemmas.{ready_nothing}
use Rattle.keeper_sqlite.proofs.calls.make_ready.Goals as goal

pub returns-clause-acts : goal.returns-clause-acts
returns-clause-acts g c = record {
  done = λ clean.
      let made = c.in_ok-prepare.ensures.ok clean in
      (made.0, (_, record { outline = c.in_ok-prepare.field-0; is = c.in_ok-prepare.ensures.shape clean; same = made.1 }, refl));
  lost = λ _. tt;
}

pub returns-in_err-prepare-clause-inside : goal.returns-in_err-prepare-clause-inside
returns-in_err-prepare-clause-inside g c = (c.prepare.ensures.same_reference, ready_nothing g.S.Store _ (λ s. s.text ≡ c.args.text.now) c.args.tx.now.conn.now c.prepare.new.self.conn.now c.prepare.result c.prepare.ensures.ok c.prepare.ensures.err c.prepare.ensures.survives)

pub returns-clause-inside : goal.returns-clause-inside
returns-clause-inside g c = (c.prepare.ensures.same_reference, ready_nothing g.S.Store _ (λ s. s.text ≡ c.args.text.now) c.args.tx.now.conn.now c.prepare.new.self.conn.now c.prepare.result c.prepare.ensures.ok c.prepare.ensures.err c.prepare.ensures.survives)
