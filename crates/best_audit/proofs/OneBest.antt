-- A second verdict is one.
use Rattle.std.proofs.Common.{◌≡◌, ◌<◌, ◌+◌, ◌↔◌, ℕ, List, arith, ap, refl, subst, sym, ◌∙◌}
use Rattle.std.specs.Prelude.{slice_get}
use Rattle.std.proofs.lemmas.Option.{same_Some}
use Rattle.office_asks.specs.declared.ask.Request.{Request}
use Rattle.office_base.specs.declared.person.CandId.{CandId}
use Rattle.allocations.specs.Market.{Seeker}
use Rattle.office_moves.specs.Facts.{SeasonFacts}
use Rattle.office_moves.specs.State.{State}
use Rattle.audit_rules.specs.Cut.{seekers_at}
use Rattle.audit_rules.specs.Papers.{Papers}
use Rattle.audit_rules.specs.Replay.{before}
use Rattle.best_audit.specs.Best.{AreBestRounds, Gains, GainsFirst, IsBestCut, IsBestVerdict, IsFirstNotBest}
use Rattle.best_audit.specs.declared.verdict.BestVerdict.{BestVerdict}
use Rattle.best_audit.specs.declared.verdict.BestVerdict.TheVariants.{Best, NotBest}

-- nobody gains where the round of the text is the best one
pub nobody_gains : (facts : SeasonFacts) (papers : Papers) (state : State) (at : ℕ) → IsBestCut facts papers state → Gains facts papers state at → ⊥
nobody_gains facts papers state at best g =
    let no_worse = best.best g.best g.is_best.fair at g.gain.s g.gain.other g.gain.seat g.gain.there g.gain.had g.gain.has in
    let better = g.gain.better in
    omega (arith, no_worse, better)

-- the places of two firsts are one
compared : (m n : ℕ) → (m < n → ⊥) → (n < m → ⊥) → m ≡ n
compared m n low high = omega (arith, low, high)

same_cand : (facts : SeasonFacts) (papers : Papers) (state : State) (cand other : CandId) → GainsFirst facts papers state cand → GainsFirst facts papers state other → cand ≡ other
same_cand facts papers state cand other a b =
    let same : a.at ≡ b.at = compared a.at b.at (λ less. b.earlier a.at less a.gains) (λ less. a.earlier b.at less b.gains) in
    let one : a.gains.gain.s ≡ b.gains.gain.s = same_Some a.gains.gain.s b.gains.gain.s (sym a.gains.gain.there ∙ (ap (slice_get (seekers_at facts state)) same ∙ b.gains.gain.there)) in
    sym a.is ∙ (ap (λ (s : Seeker). s.person.id) one ∙ b.is)

not_both : (facts : SeasonFacts) (script : List Request) (papers : Papers) (round : ℕ) (cand : CandId) → AreBestRounds facts script papers → IsFirstNotBest facts script papers round cand → ⊥
not_both facts script papers round cand all first = nobody_gains facts papers (before facts script papers first.at) first.first.at (all first.at first.publishes) first.first.gains

pub one_first : (facts : SeasonFacts) (script : List Request) (papers : Papers) (round number : ℕ) (cand other : CandId) → IsFirstNotBest facts script papers round cand
    → IsFirstNotBest facts script papers number other → (round ≡ number) × (cand ≡ other)
one_first facts script papers round number cand other a b =
    let same : a.at ≡ b.at = compared a.at b.at
    (λ less. nobody_gains facts papers (before facts script papers a.at) a.first.at (b.earlier a.at less a.publishes) a.first.gains)
    (λ less. nobody_gains facts papers (before facts script papers b.at) b.first.at (a.earlier b.at less b.publishes) b.first.gains) in (
      a.number ∙ (ap (λ (j : ℕ). (before facts script papers j).now + 1) same ∙ sym b.number),
      same_cand facts papers (before facts script papers b.at) cand other (subst (λ (j : ℕ). GainsFirst facts papers (before facts script papers j) cand) same a.first) b.first,
    )

pub one_best : (facts : SeasonFacts) (script : List Request) (papers : Papers) (one other : BestVerdict) → IsBestVerdict facts script papers one → IsBestVerdict facts script papers other → one ≡ other
one_best facts script papers Best Best a b = refl
one_best facts script papers Best (NotBest round cand) a b = absurd (not_both facts script papers round cand a b)
one_best facts script papers (NotBest round cand) Best a b = absurd (not_both facts script papers round cand b a)
one_best facts script papers (NotBest round cand) (NotBest number other) a b =
    let same = one_first facts script papers round number cand other a b in
    ap (λ (n : ℕ). NotBest n cand) same.0 ∙ ap (λ (c : CandId). NotBest number c) same.1

pub best_exactly : (facts : SeasonFacts) (script : List Request) (papers : Papers) (verdict : BestVerdict) → IsBestVerdict facts script papers verdict
    → (verdict ≡ Best) ↔ AreBestRounds facts script papers
best_exactly facts script papers verdict is = (λ same. subst (λ (v : BestVerdict). IsBestVerdict facts script papers v) same is, λ all. one_best facts script papers verdict Best is all)
