use Rattle.std.proofs.Common.{◌≡◌, ℕ, length, take, refl, sym, ap, ◌∙◌, inl, arith}
use Rattle.std.proofs.lemmas.List.{length-take, take_min}
use Rattle.http_wire.specs.Limits.{most_head_bytes}
use Rattle.http_wire.specs.HeadEnds.{head_len}
use Rattle.http_wire.proofs.MessagesLemmas.{IsRefused-append, no_head_yet, stays}
use Rattle.http_wire.proofs.held.held_message.Goals as goal

pub after_head-requires-clause-ends : goal.after_head-requires-clause-ends
after_head-requires-clause-ends c =
    let is : take c.min.result c.args.held.now ≡ take most_head_bytes c.args.held.now = ap (λ (n : ℕ). take n c.args.held.now) c.min.ensures ∙ take_min most_head_bytes c.args.held.now in
    ap head_len (sym is) ∙ sym c.in-Some.ensures.value

pub after_head-requires-clause-within : goal.after_head-requires-clause-within
after_head-requires-clause-within c =
    omega (arith, c.in-Some.ensures.within, length-take c.min.result c.args.held.now)

pub returns-in-Some-clause-stays : goal.returns-in-Some-clause-stays
returns-in-Some-clause-stays c = stays c.args.held.now _ c.after_head.ensures

pub returns-in-None-clause-exact : goal.returns-in-None-clause-exact
returns-in-None-clause-exact c =
    let is : take c.min.result c.args.held.now ≡ take most_head_bytes c.args.held.now = ap (λ (n : ℕ). take n c.args.held.now) c.min.ensures ∙ take_min most_head_bytes c.args.held.now in
    no_head_yet c.args.held.now _ is c.if-held-lt-MOST_HEAD_BYTES.true c.in-None.ensures.value

pub returns-in-None-clause-stays : goal.returns-in-None-clause-stays
returns-in-None-clause-stays c =
    let is : take c.min.result c.args.held.now ≡ take most_head_bytes c.args.held.now = ap (λ (n : ℕ). take n c.args.held.now) c.min.ensures ∙ take_min most_head_bytes c.args.held.now in
    no_head_yet c.args.held.now _ is c.if-held-lt-MOST_HEAD_BYTES.true c.in-None.ensures.value

pub returns-in-None-2-clause-exact : goal.returns-in-None-2-clause-exact
returns-in-None-2-clause-exact c =
    let is : take c.min.result c.args.held.now ≡ take most_head_bytes c.args.held.now = ap (λ (n : ℕ). take n c.args.held.now) c.min.ensures ∙ take_min most_head_bytes c.args.held.now in
    inl (refl, (c.if-held-lt-MOST_HEAD_BYTES.false, ap head_len (sym is) ∙ sym c.in-None-2.ensures.value))

pub returns-in-None-2-clause-stays : goal.returns-in-None-2-clause-stays
returns-in-None-2-clause-stays c =
    let is : take c.min.result c.args.held.now ≡ take most_head_bytes c.args.held.now = ap (λ (n : ℕ). take n c.args.held.now) c.min.ensures ∙ take_min most_head_bytes c.args.held.now in
    λ more. IsRefused-append c.args.held.now more 431 (inl (refl, (c.if-held-lt-MOST_HEAD_BYTES.false, ap head_len (sym is) ∙ sym c.in-None-2.ensures.value)))
