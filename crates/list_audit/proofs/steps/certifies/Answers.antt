use Rattle.std.proofs.Common.{◌≡◌, ◌∙◌, ℕ, length, subst, sym}
use Rattle.std.proofs.lemmas.Bool.{eq-eqb, eqb-true}
use Rattle.office_base.specs.Placement.{IsHonoured}
use Rattle.placements.proofs.Greatest.{honoured-one}
use Rattle.list_audit.proofs.Among.{reckoned_honours}
use Rattle.list_audit.proofs.steps.certifies.Goals as goal

pub returns : goal.returns
returns c =
    let kept = c.in_ok-reckoning.reckoning.needed in
    let pairs = c.args.cert.now.pairs in
    let all = reckoned_honours c.args.list c.args.protections.now c.args.people.now kept c.in_ok-reckoning.reckoning.free c.requires.ranked c.in_ok-reckoning.ensures in
    let needed : c.from.result ≡ length kept.members = c.from.ensures ∙ c.honoured.ensures.number in (
      (λ e.
          let same : length kept.members ≡ length pairs = sym needed ∙ sym (eqb-true c.len.result c.from.result e) ∙ c.len.ensures in
          (c.check.ensures.0 c.if-not-check.false, subst (λ (n : ℕ). IsHonoured c.args.protections.now c.args.people.now n) same all)),
      (λ h. eq-eqb c.len.result c.from.result (c.len.ensures ∙ honoured-one c.args.protections.now c.args.people.now (length pairs) (length kept.members) h.1 all ∙ sym needed)),
    )
