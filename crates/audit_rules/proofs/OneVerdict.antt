-- The verdict is one.
use Rattle.std.proofs.Common.{◌≡◌, ◌+◌, inl, inr, ℕ, List, Option, Some, None, refl, sym, ap, ◌∙◌, subst}
use Rattle.std.specs.Prelude.{slice_get}
use Rattle.std.proofs.lemmas.Bool.{cases_order}
use Rattle.std.proofs.lemmas.Option.{same_Some, none-some}
use Rattle.office_asks.specs.declared.ask.Request.{Request}
use Rattle.office_base.specs.declared.seat.Seat.{Seat}
use Rattle.office_base.specs.declared.person.CandId.{CandId}
use Rattle.office_base.specs.declared.person.Person.{Person}
use Rattle.office_base.specs.declared.person.ProgId.{ProgId}
use Rattle.list_audit.specs.Laws.{OneListFault}
use Rattle.list_audit.specs.declared.clause.Clause.{Clause}
use Rattle.list_audit.specs.declared.clause.Clause.TheVariants.{NotSought, Fell, Unlisted, WrongNumbers, NotCandidate, WrongSize, BadCertificate, Overtaken, FinalDiffers}
use Rattle.office_moves.specs.Decided.{decided}
use Rattle.office_moves.specs.Facts.{SeasonFacts}
use Rattle.office_moves.specs.Raised.{matrix_at}
use Rattle.office_moves.specs.State.{State}
use Rattle.office_moves.specs.declared.decide.Decision.{Decision}
use Rattle.office_moves.specs.declared.decide.Decision.TheVariants.{Publish, Finish}
use Rattle.programme_lists.specs.declared.programme.Programme.{Programme}
use Rattle.seat_matrix.specs.Matrix.{seats_in}
use Rattle.audit_rules.specs.Cut.{Agree, BreaksAt, ComesTo, CutBreaks, CutHolds, Differ, EndBreaks, HasFallen, HasStayed, HoldsAt, IsFirstWithout, IsListed, IsSought, IsSoundList, IsUnsound, IsUnsought, OfEach, applicants_at, lists_at}
use Rattle.audit_rules.specs.Laws.{OneVerdict}
use Rattle.audit_rules.specs.Papers.{Papers}
use Rattle.audit_rules.specs.Replay.{before}
use Rattle.audit_rules.specs.Verdict.{HoldsThere, IsFirstBroken}
use Rattle.audit_rules.specs.declared.verdict.Verdict.TheVariants.{Sound, Broken}

-- ---- the first of whom it does not hold

-- it does not hold of each
pub not_each : (P : Person → Type 0) (people : List Person) (cand : CandId) → IsFirstWithout P people cand → OfEach P people → ⊥
not_each P people cand first each = first.fails (each first.at first.person first.there)

one_first : (P : Person → Type 0) (people : List Person) (cand other : CandId) → IsFirstWithout P people cand → IsFirstWithout P people other → cand ≡ other
one_first P people cand other a b = elim (cases_order a.at b.at) [
  | inl same ↦
      let there : slice_get people b.at ≡ Some a.person = subst (λ (k : ℕ). slice_get people k ≡ Some a.person) same a.there in
      let person : a.person ≡ b.person = same_Some a.person b.person (sym there ∙ b.there) in
      sym a.is ∙ (ap (λ (p : Person). p.id) person ∙ b.is)
  | inr apart ↦ elim apart [
    | inl less ↦ absurd (a.fails (b.earlier a.at a.person less a.there))
    | inr more ↦ absurd (b.fails (a.earlier b.at b.person more b.there))
  ]
]

-- ---- what is broken at a cut, distinguished

data Break (facts : SeasonFacts) (papers : Papers) (state : State) (clause : Clause) (prog : Option ProgId) (cand : Option CandId) : Type 0 where
  AsUnsought : (p : ProgId) (c : CandId) → clause ≡ NotSought → prog ≡ Some p → cand ≡ Some c → IsUnsought facts papers state p c → Break facts papers state clause prog cand
  AsFallen : (c : CandId) → clause ≡ Fell → prog ≡ None → cand ≡ Some c → HasFallen facts papers state c → Break facts papers state clause prog cand
  AsDiffering : (p : ProgId) (c : CandId) → clause ≡ Unlisted → prog ≡ Some p → cand ≡ Some c → Differ facts papers state p c → Break facts papers state clause prog cand
  AsUnsound : (p : ProgId) → prog ≡ Some p → IsUnsound facts papers state clause p cand → Break facts papers state clause prog cand

told : (facts : SeasonFacts) (papers : Papers) (state : State) (clause : Clause) (prog : Option ProgId) (cand : Option CandId) → CutBreaks facts papers state clause prog cand
    → Break facts papers state clause prog cand
told facts papers state NotSought (Some p) (Some c) breaks = AsUnsought p c refl refl refl breaks
told facts papers state Fell None (Some c) breaks = AsFallen c refl refl refl breaks
told facts papers state Unlisted (Some p) (Some c) breaks = AsDiffering p c refl refl refl breaks
told facts papers state WrongNumbers (Some p) cand breaks = AsUnsound p refl breaks
told facts papers state NotCandidate (Some p) cand breaks = AsUnsound p refl breaks
told facts papers state WrongSize (Some p) cand breaks = AsUnsound p refl breaks
told facts papers state BadCertificate (Some p) cand breaks = AsUnsound p refl breaks
told facts papers state Overtaken (Some p) cand breaks = AsUnsound p refl breaks
told facts papers state _ _ _ breaks = absurd breaks

-- ---- a cut does not hold where a clause is broken

not_listed : (facts : SeasonFacts) (papers : Papers) (state : State) (p : ProgId) (c : CandId) (d : Differ facts papers state p c) → IsListed facts papers state p.0 → ⊥
not_listed facts papers state p c d listed = not_each (Agree papers state p.0 d.programme) facts.people c d.first (listed d.programme d.there)

not_sound : OneListFault → (facts : SeasonFacts) (papers : Papers) (state : State) (clause : Clause) (p : ProgId) (cand : Option CandId) (u : IsUnsound facts papers state clause p cand)
    → IsSoundList facts papers state p.0 → ⊥
not_sound one facts papers state clause p cand u sound =
    none-some (clause, cand) (one facts.version (seats_in (matrix_at facts state) p.0) (applicants_at facts papers state p.0) u.programme None (Some (clause, cand)) (sound u.programme u.there) u.first)

cut_apart : OneListFault → (facts : SeasonFacts) (papers : Papers) (state : State) (clause : Clause) (prog : Option ProgId) (cand : Option CandId) → CutHolds facts papers state
    → Break facts papers state clause prog cand → ⊥
cut_apart one facts papers state clause prog cand holds (AsUnsought p c is by of u) = not_each (IsSought facts papers state) facts.people c u.first holds.sought
cut_apart one facts papers state clause prog cand holds (AsFallen c is by of u) = not_each (HasStayed facts papers state) facts.people c u.first holds.stayed
cut_apart one facts papers state clause prog cand holds (AsDiffering p c is by of u) = not_listed facts papers state p c u (holds.listed p.0)
cut_apart one facts papers state clause prog cand holds (AsUnsound p by u) = not_sound one facts papers state clause p cand u (holds.sound p.0)

apart : OneListFault → (facts : SeasonFacts) (papers : Papers) (state : State) (decision : Decision) (clause : Clause) (prog : Option ProgId) (cand : Option CandId)
    → HoldsAt facts papers state decision → BreaksAt facts papers state decision clause prog cand → ⊥
apart one facts papers state Publish clause prog cand holds breaks = cut_apart one facts papers state clause prog cand holds (told facts papers state clause prog cand breaks)
apart one facts papers state Finish clause prog cand holds breaks = end_apart clause prog cand breaks
  where
    end_apart : (clause : Clause) (prog : Option ProgId) (cand : Option CandId) → EndBreaks facts papers state clause prog cand → ⊥
    end_apart FinalDiffers None None breaks = breaks holds
    end_apart _ _ _ breaks = breaks
apart one facts papers state _ clause prog cand holds breaks = breaks

-- ---- what is broken first is one

record Same (c c' : Clause) (p p' : Option ProgId) (d d' : Option CandId) : Type 0 where
  clause : c ≡ c'
  prog : p ≡ p'
  cand : d ≡ d'

prog_of : (p q : ProgId) → p.0 ≡ q.0 → p ≡ q
prog_of p q e = ap number_prog e
  where
    number_prog : ℕ → ProgId
    number_prog n = record { 0 = n }

one_unsought : (facts : SeasonFacts) (papers : Papers) (state : State) (p q : ProgId) (c d : CandId) → IsUnsought facts papers state p c → IsUnsought facts papers state q d → (p ≡ q) × (c ≡ d)
one_unsought facts papers state p q c d u v =
    let cand = one_first (IsSought facts papers state) facts.people c d u.first v.first in
    let a = u.given in
    let b = v.given in
    let seat : u.seat ≡ v.seat = (let f = ap (λ (x : CandId). x.0) cand in cc) in
    (sym u.is ∙ (ap (λ (s : Seat). s.prog) seat ∙ v.is), cand)

one_differ : (facts : SeasonFacts) (papers : Papers) (state : State) (p q : ProgId) (c d : CandId) → Differ facts papers state p c → Differ facts papers state q d → (p ≡ q) × (c ≡ d)
one_differ facts papers state p q c d u v = elim (cases_order p.0 q.0) [
  | inl same ↦
      let there : lists_at facts papers state q.0 ≡ Some u.programme = subst (λ (k : ℕ). lists_at facts papers state k ≡ Some u.programme) same u.there in
      let programme : u.programme ≡ v.programme = same_Some u.programme v.programme (sym there ∙ v.there) in
      let first : IsFirstWithout (Agree papers state q.0 v.programme) facts.people c =
      subst (λ (x : Programme). IsFirstWithout (Agree papers state q.0 x) facts.people c) programme
      (subst (λ (k : ℕ). IsFirstWithout (Agree papers state k u.programme) facts.people c) same u.first) in
      (prog_of p q same, one_first (Agree papers state q.0 v.programme) facts.people c d first v.first)
  | inr other ↦ elim other [
    | inl less ↦ absurd (not_listed facts papers state p c u (v.before p.0 less))
    | inr more ↦ absurd (not_listed facts papers state q d v (u.before q.0 more))
  ]
]

one_unsound : OneListFault → (facts : SeasonFacts) (papers : Papers) (state : State) (clause other : Clause) (p q : ProgId) (c d : Option CandId) → IsUnsound facts papers state clause p c
    → IsUnsound facts papers state other q d → Same clause other (Some p) (Some q) c d
one_unsound one facts papers state clause other p q c d u v = elim (cases_order p.0 q.0) [
  | inl same ↦
      let prog = prog_of p q same in
      let there : lists_at facts papers state q.0 ≡ Some u.programme = subst (λ (k : ℕ). lists_at facts papers state k ≡ Some u.programme) same u.there in
      let programme : v.programme ≡ u.programme = same_Some v.programme u.programme (sym v.there ∙ there) in
      let first = subst (λ (x : Programme). ComesTo facts papers state q.0 x (Some (other, d))) programme v.first in
      let mine = subst (λ (k : ℕ). ComesTo facts papers state k u.programme (Some (clause, c))) same u.first in
      let e = one facts.version (seats_in (matrix_at facts state) q.0) (applicants_at facts papers state q.0) u.programme (Some (clause, c)) (Some (other, d)) mine first in
      let f : (clause, c) ≡ (other, d) = same_Some (clause, c) (other, d) e in
      record { clause = ap (λ (x : Clause × Option CandId). x.0) f; prog = ap Some prog; cand = ap (λ (x : Clause × Option CandId). x.1) f }
  | inr apart ↦ elim apart [
    | inl less ↦ absurd (not_sound one facts papers state clause p c u (v.before p.0 less))
    | inr more ↦ absurd (not_sound one facts papers state other q d v (u.before q.0 more))
  ]
]

cut_one : OneListFault → (facts : SeasonFacts) (papers : Papers) (state : State) (clause other : Clause) (prog prog' : Option ProgId) (cand cand' : Option CandId)
    → Break facts papers state clause prog cand → Break facts papers state other prog' cand' → Same clause other prog prog' cand cand'
cut_one one facts papers state clause other prog prog' cand cand' (AsUnsought p c is by of u) (AsUnsought q d is' by' of' v) =
    let e = one_unsought facts papers state p q c d u v in
    record { clause = is ∙ sym is'; prog = by ∙ (ap Some e.0 ∙ sym by'); cand = of ∙ (ap Some e.1 ∙ sym of') }
cut_one one facts papers state clause other prog prog' cand cand' (AsUnsought p c is by of u) (AsFallen d is' by' of' v) = absurd (not_each (IsSought facts papers state) facts.people c u.first v.sought)
cut_one one facts papers state clause other prog prog' cand cand' (AsUnsought p c is by of u) (AsDiffering q d is' by' of' v) =
    absurd (not_each (IsSought facts papers state) facts.people c u.first v.sought)
cut_one one facts papers state clause other prog prog' cand cand' (AsUnsought p c is by of u) (AsUnsound q by' v) = absurd (not_each (IsSought facts papers state) facts.people c u.first v.sought)
cut_one one facts papers state clause other prog prog' cand cand' (AsFallen c is by of u) (AsUnsought q d is' by' of' v) =
    absurd (not_each (IsSought facts papers state) facts.people d v.first u.sought)
cut_one one facts papers state clause other prog prog' cand cand' (AsFallen c is by of u) (AsFallen d is' by' of' v) =
    record { clause = is ∙ sym is'; prog = by ∙ sym by'; cand = of ∙ (ap Some (one_first (HasStayed facts papers state) facts.people c d u.first v.first) ∙ sym of') }
cut_one one facts papers state clause other prog prog' cand cand' (AsFallen c is by of u) (AsDiffering q d is' by' of' v) =
    absurd (not_each (HasStayed facts papers state) facts.people c u.first v.stayed)
cut_one one facts papers state clause other prog prog' cand cand' (AsFallen c is by of u) (AsUnsound q by' v) = absurd (not_each (HasStayed facts papers state) facts.people c u.first v.stayed)
cut_one one facts papers state clause other prog prog' cand cand' (AsDiffering p c is by of u) (AsUnsought q d is' by' of' v) =
    absurd (not_each (IsSought facts papers state) facts.people d v.first u.sought)
cut_one one facts papers state clause other prog prog' cand cand' (AsDiffering p c is by of u) (AsFallen d is' by' of' v) =
    absurd (not_each (HasStayed facts papers state) facts.people d v.first u.stayed)
cut_one one facts papers state clause other prog prog' cand cand' (AsDiffering p c is by of u) (AsDiffering q d is' by' of' v) =
    let e = one_differ facts papers state p q c d u v in
    record { clause = is ∙ sym is'; prog = by ∙ (ap Some e.0 ∙ sym by'); cand = of ∙ (ap Some e.1 ∙ sym of') }
cut_one one facts papers state clause other prog prog' cand cand' (AsDiffering p c is by of u) (AsUnsound q by' v) = absurd (not_listed facts papers state p c u (v.listed p.0))
cut_one one facts papers state clause other prog prog' cand cand' (AsUnsound p by u) (AsUnsought q d is' by' of' v) = absurd (not_each (IsSought facts papers state) facts.people d v.first u.sought)
cut_one one facts papers state clause other prog prog' cand cand' (AsUnsound p by u) (AsFallen d is' by' of' v) = absurd (not_each (HasStayed facts papers state) facts.people d v.first u.stayed)
cut_one one facts papers state clause other prog prog' cand cand' (AsUnsound p by u) (AsDiffering q d is' by' of' v) = absurd (not_listed facts papers state q d v (u.listed q.0))
cut_one one facts papers state clause other prog prog' cand cand' (AsUnsound p by u) (AsUnsound q by' v) =
    let e = one_unsound one facts papers state clause other p q cand cand' u v in
    record { clause = e.clause; prog = by ∙ (e.prog ∙ sym by'); cand = e.cand }

-- of the last cut it is the one clause
record IsEnd (clause : Clause) (prog : Option ProgId) (cand : Option CandId) : Type 0 where
  is : clause ≡ FinalDiffers
  by : prog ≡ None
  of : cand ≡ None

end_is : (facts : SeasonFacts) (papers : Papers) (state : State) (clause : Clause) (prog : Option ProgId) (cand : Option CandId) → EndBreaks facts papers state clause prog cand → IsEnd clause prog cand
end_is facts papers state FinalDiffers None None breaks = record { is = refl; by = refl; of = refl }
end_is facts papers state _ _ _ breaks = absurd breaks

one_break : OneListFault → (facts : SeasonFacts) (papers : Papers) (state : State) (decision : Decision) (clause other : Clause) (prog prog' : Option ProgId) (cand cand' : Option CandId)
    → BreaksAt facts papers state decision clause prog cand → BreaksAt facts papers state decision other prog' cand' → Same clause other prog prog' cand cand'
one_break one facts papers state Publish clause other prog prog' cand cand' a b =
    cut_one one facts papers state clause other prog prog' cand cand' (told facts papers state clause prog cand a) (told facts papers state other prog' cand' b)
one_break one facts papers state Finish clause other prog prog' cand cand' a b =
    let e = end_is facts papers state clause prog cand a in
    let f = end_is facts papers state other prog' cand' b in
    record { clause = e.is ∙ sym f.is; prog = e.by ∙ sym f.by; cand = e.of ∙ sym f.of }
one_break one facts papers state _ clause other prog prog' cand cand' a b = absurd a

-- ---- the verdict

same_broken : (round round' : ℕ) (c c' : Clause) (p p' : Option ProgId) (d d' : Option CandId) → round ≡ round' → Same c c' p p' d d' → Broken round c p d ≡ Broken round' c' p' d'
same_broken round round' c c' p p' d d' e same =
    ap (λ (n : ℕ). Broken n c p d) e ∙ (ap (λ (x : Clause). Broken round' x p d) same.clause ∙ (ap (λ (x : Option ProgId). Broken round' c' x d) same.prog ∙ ap (λ (x : Option CandId). Broken round' c' p' x) same.cand))

not_sound_and_broken : OneListFault → (facts : SeasonFacts) (script : List Request) (papers : Papers) (round : ℕ) (clause : Clause) (prog : Option ProgId) (cand : Option CandId)
    → ((j : ℕ) (request : Request) → slice_get script j ≡ Some request → HoldsThere facts script papers j request) → IsFirstBroken facts script papers round clause prog cand → ⊥
not_sound_and_broken one facts script papers round clause prog cand holds b =
    apart one facts papers (before facts script papers b.at) (decided facts (before facts script papers b.at) b.request) clause prog cand (holds b.at b.request b.there) b.here

one_broken : OneListFault → (facts : SeasonFacts) (script : List Request) (papers : Papers) (round round' : ℕ) (c c' : Clause) (p p' : Option ProgId) (d d' : Option CandId)
    → IsFirstBroken facts script papers round c p d → IsFirstBroken facts script papers round' c' p' d' → Broken round c p d ≡ Broken round' c' p' d'
one_broken one facts script papers round round' c c' p p' d d' a b = elim (cases_order a.at b.at) [
  | inl same ↦
      let there : slice_get script b.at ≡ Some a.request = subst (λ (k : ℕ). slice_get script k ≡ Some a.request) same a.there in
      let request : a.request ≡ b.request = same_Some a.request b.request (sym there ∙ b.there) in
      let here : BreaksAt facts papers (before facts script papers b.at) (decided facts (before facts script papers b.at) b.request) c p d =
      subst (λ (r : Request). BreaksAt facts papers (before facts script papers b.at) (decided facts (before facts script papers b.at) r) c p d) request
      (subst (λ (k : ℕ). BreaksAt facts papers (before facts script papers k) (decided facts (before facts script papers k) a.request) c p d) same a.here) in
      same_broken round round' c c' p p' d d' (a.number ∙ (ap (λ (k : ℕ). (before facts script papers k).now + 1) same ∙ sym b.number))
      (one_break one facts papers (before facts script papers b.at) (decided facts (before facts script papers b.at) b.request) c c' p p' d d' here b.here)
  | inr other ↦ elim other [
    | inl less ↦ absurd (apart one facts papers (before facts script papers a.at) (decided facts (before facts script papers a.at) a.request) c p d (b.earlier a.at a.request less a.there) a.here)
    | inr more ↦ absurd (apart one facts papers (before facts script papers b.at) (decided facts (before facts script papers b.at) b.request) c' p' d' (a.earlier b.at b.request more b.there) b.here)
  ]
]

pub one_verdict : OneListFault → OneVerdict
one_verdict one facts script papers (Sound rounds) (Sound rounds') a b = ap Sound (a.0 ∙ sym b.0)
one_verdict one facts script papers (Sound rounds) (Broken round clause prog cand) a b = absurd (not_sound_and_broken one facts script papers round clause prog cand a.1 b)
one_verdict one facts script papers (Broken round clause prog cand) (Sound rounds) a b = absurd (not_sound_and_broken one facts script papers round clause prog cand b.1 a)
one_verdict one facts script papers (Broken round c p d) (Broken round' c' p' d') a b = one_broken one facts script papers round round' c c' p p' d d' a b
