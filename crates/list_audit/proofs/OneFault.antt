-- Lists come to one verdict.
use Rattle.std.proofs.Common.{◌≡◌, ◌<◌, ◌⊎◌, ℕ, zero, suc, Option, Some, None, List, [], ◌∷◌, ◌++◌, refl, sym, ap, ◌∙◌, subst, inl, inr, arith}
use Rattle.std.proofs.lemmas.Bool.{cases_lt}
use Rattle.std.specs.List.{AllByRecursion}
use Rattle.office_base.specs.Lists.{IsAmong, Pairwise}
use Rattle.office_base.specs.Person.{IsBetter}
use Rattle.office_base.specs.StepNumbers.{step_number}
use Rattle.office_base.specs.declared.person.CandId.{CandId}
use Rattle.office_base.specs.declared.person.ListId.{ListId}
use Rattle.office_base.specs.declared.person.Person.{Person}
use Rattle.office_base.specs.declared.step.StepKind.{StepKind}
use Rattle.office_base.proofs.StepNumbers.{one_number}
use Rattle.office_base.proofs.Lists.{all_middle}
use Rattle.placements.proofs.Merit.{not_both_better}
use Rattle.seat_matrix.specs.declared.seats.ProgrammeSeats.{ProgrammeSeats}
use Rattle.programme_lists.specs.declared.programme.Programme.{Programme}
use Rattle.list_audit.specs.Clauses.{Audited, AreCandidates, AreRightNumbers, BreaksFirst, IsBestOvertaking, IsCertified, IsFirstBroken, IsFirstOutside, IsRightSize, IsSound, NobodyOvertakes, audited, named_at, people_at}
use Rattle.list_audit.specs.Laws.{OneListFault}
use Rattle.list_audit.specs.declared.clause.Clause.{Clause}
use Rattle.list_audit.specs.declared.clause.Clause.TheVariants.{NotSought, Fell, Unlisted, WrongNumbers, NotCandidate, WrongSize, BadCertificate, Overtaken, FinalDiffers}

-- ---- the first who is outside

-- the last of some comes before the next
last_before : (list : ListId) (front : List Person) (last person : Person) (back : List Person) → Pairwise (IsBetter list) ((front ++ last ∷ []) ++ person ∷ back) → IsBetter list last person
last_before list [] last person back order = order.0.0
last_before list (one ∷ front) last person back order = last_before list front last person back order.1

-- not all are people in merit order where one of those named is outside
not_candidates : (list : ListId) (people named : List Person) (cand : CandId) → IsFirstOutside list people named cand → AllByRecursion (λ person. IsAmong person people) named → Pairwise (IsBetter list) named → ⊥
not_candidates list people named cand first among order =
    let split = first.told in
    let there : IsAmong first.person people =
    all_middle (λ person. IsAmong person people) first.before first.person first.after (subst (λ (those : List Person). AllByRecursion (λ person. IsAmong person people) those) split among) in
    let bad = first.bad there in
    let ordered : Pairwise (IsBetter list) ((bad.0 ++ bad.1 ∷ []) ++ first.person ∷ first.after) =
    subst (λ (those : List Person). Pairwise (IsBetter list) (those ++ first.person ∷ first.after)) bad.2 (subst (Pairwise (IsBetter list)) split order) in
    not_both_better list first.person bad.1 bad.3 (last_before list bad.0 bad.1 first.person first.after ordered)

-- of two ways to split a list the first split is at the same one, or before the other or after it
two_splits : (front other : List Person) (x y : Person) (back rest : List Person) → front ++ x ∷ back ≡ other ++ y ∷ rest
    → (x ≡ y) ⊎ ((tail : List Person) × (other ≡ front ++ x ∷ tail)) ⊎ ((tail : List Person) × (front ≡ other ++ y ∷ tail))
two_splits [] [] x y back rest e = inl (cc)
two_splits [] (o ∷ other) x y back rest e = inr (inl (other, (let same : o ≡ x = cc in ap (λ (p : Person). p ∷ other) same)))
two_splits (f ∷ front) [] x y back rest e = inr (inr (front, (let same : f ≡ y = cc in ap (λ (p : Person). p ∷ front) same)))
two_splits (f ∷ front) (o ∷ other) x y back rest e =
    let same : f ≡ o = cc in
    let later : front ++ x ∷ back ≡ other ++ y ∷ rest = cc in
    elim (two_splits front other x y back rest later) [
      | inl here ↦ inl here
      | inr apart ↦ elim apart [
        | inl h ↦ inr (inl (h.0, ap (λ (those : List Person). o ∷ those) h.1 ∙ ap (λ (p : Person). p ∷ front ++ x ∷ h.0) (sym same)))
        | inr h ↦ inr (inr (h.0, ap (λ (those : List Person). f ∷ those) h.1 ∙ ap (λ (p : Person). p ∷ other ++ y ∷ h.0) same))
      ]
    ]

-- a person in front of another who is the first outside is not outside
not_in_front : (list : ListId) (people named : List Person) (one other : CandId) (first : IsFirstOutside list people named one) (second : IsFirstOutside list people named other) (tail : List Person)
    → second.before ≡ first.before ++ first.person ∷ tail → ⊥
not_in_front list people named one other first second tail is =
    let there : IsAmong first.person people =
    all_middle (λ person. IsAmong person people) first.before first.person tail (subst (λ (those : List Person). AllByRecursion (λ person. IsAmong person people) those) is second.good) in
    let bad = first.bad there in
    let ordered : Pairwise (IsBetter list) ((bad.0 ++ bad.1 ∷ []) ++ first.person ∷ tail) =
    subst (λ (those : List Person). Pairwise (IsBetter list) (those ++ first.person ∷ tail)) bad.2 (subst (Pairwise (IsBetter list)) is second.in_order) in
    not_both_better list first.person bad.1 bad.3 (last_before list bad.0 bad.1 first.person tail ordered)

one_outside : (list : ListId) (people named : List Person) (one other : CandId) → IsFirstOutside list people named one → IsFirstOutside list people named other → one ≡ other
one_outside list people named one other first second =
    elim (two_splits first.before second.before first.person second.person first.after second.after (sym first.told ∙ second.told)) [
      | inl same ↦ sym first.is ∙ ap (λ (p : Person). p.id) same ∙ second.is
      | inr apart ↦ elim apart [
        | inl h ↦ absurd (not_in_front list people named one other first second h.0 h.1)
        | inr h ↦ absurd (not_in_front list people named other one second first h.0 h.1)
      ]
    ]

-- ---- one step

module _ (step : Audited) where
  -- what is tried in a step, by its number
  abbrev Holds : ℕ → Type 0
  Holds zero = AreRightNumbers step
  Holds (suc zero) = AreCandidates step
  Holds (suc (suc zero)) = IsRightSize step
  Holds (suc (suc (suc zero))) = IsCertified step
  Holds (suc (suc (suc (suc n)))) = NobodyOvertakes step

  abbrev clause_at : ℕ → Clause
  clause_at zero = WrongNumbers
  clause_at (suc zero) = NotCandidate
  clause_at (suc (suc zero)) = WrongSize
  clause_at (suc (suc (suc zero))) = BadCertificate
  clause_at (suc (suc (suc (suc n)))) = Overtaken

  -- the clause is the first that does not hold
  record IsLevel (clause : Clause) : Type 0 where
    level : ℕ
    few : level < 5
    is : clause ≡ clause_at level
    below : (m : ℕ) → m < level → Holds m
    fails : Holds level → ⊥

  level_of : (clause : Clause) (cand : Option CandId) → BreaksFirst step clause cand → IsLevel clause
  level_of WrongNumbers None h = record { level = 0; few = omega arith; is = refl; below = λ m less. absurd (omega (arith, less)); fails = h }
  level_of NotCandidate (Some cand) h = record {
    level = 1;
    few = omega arith;
    is = refl;
    below = λ m less. one m less;
    fails = λ right. not_candidates step.seats.list (people_at step) (named_at step) cand h.1 right.people right.in_order;
  }
    where
      one : (m : ℕ) → m < 1 → Holds m
      one zero less = h.0
      one (suc m) less = absurd (omega (arith, less))
  level_of WrongSize None h = record { level = 2; few = omega arith; is = refl; below = below; fails = h.2 }
    where
      below : (m : ℕ) → m < 2 → Holds m
      below zero less = h.0
      below (suc zero) less = h.1
      below (suc (suc m)) less = absurd (omega (arith, less))
  level_of BadCertificate None h = record { level = 3; few = omega arith; is = refl; below = below; fails = h.3 }
    where
      below : (m : ℕ) → m < 3 → Holds m
      below zero less = h.0
      below (suc zero) less = h.1
      below (suc (suc zero)) less = h.2
      below (suc (suc (suc m))) less = absurd (omega (arith, less))
  level_of Overtaken (Some cand) h = record { level = 4; few = omega arith; is = refl; below = below; fails = λ none. none h.4.person h.4.overtakes }
    where
      below : (m : ℕ) → m < 4 → Holds m
      below zero less = h.0
      below (suc zero) less = h.1
      below (suc (suc zero)) less = h.2
      below (suc (suc (suc zero))) less = h.3
      below (suc (suc (suc (suc m)))) less = absurd (omega (arith, less))
  level_of _ _ h = absurd h

  -- a sound step breaks none
  not_sound : (clause : Clause) (cand : Option CandId) → BreaksFirst step clause cand → IsSound step → ⊥
  not_sound clause cand h sound = let l = level_of clause cand h in l.fails (holds l.level)
    where
      holds : (m : ℕ) → Holds m
      holds zero = sound.numbers
      holds (suc zero) = sound.candidates
      holds (suc (suc zero)) = sound.size
      holds (suc (suc (suc zero))) = sound.certified
      holds (suc (suc (suc (suc m)))) = sound.best

  same_clause : (one other : Clause) (a b : Option CandId) → BreaksFirst step one a → BreaksFirst step other b → one ≡ other
  same_clause one other a b h k =
      let l = level_of one a h in
      let m = level_of other b k in
      elim (cases_lt l.level m.level) [
        | inl less ↦ absurd (l.fails (m.below l.level less))
        | inr far ↦ elim (cases_lt m.level l.level) [
          | inl less ↦ absurd (m.fails (l.below m.level less))
          | inr near ↦ (let same : l.level ≡ m.level = omega (arith, far, near) in l.is ∙ ap clause_at same ∙ sym m.is)
        ]
      ]

  one_best : (a b : CandId) → IsBestOvertaking step a → IsBestOvertaking step b → a ≡ b
  one_best a b first second = elim (first.best second.person second.overtakes) [
    | inl same ↦ sym first.is ∙ ap (λ (p : Person). p.id) (sym same) ∙ second.is
    | inr ahead ↦ elim (second.best first.person first.overtakes) [
      | inl same ↦ sym first.is ∙ ap (λ (p : Person). p.id) same ∙ second.is
      | inr behind ↦ absurd (not_both_better step.seats.list first.person second.person ahead behind)
    ]
  ]

  same_cand : (clause : Clause) (a b : Option CandId) → BreaksFirst step clause a → BreaksFirst step clause b → a ≡ b
  same_cand WrongNumbers None None h k = refl
  same_cand WrongNumbers None (Some b) h k = absurd k
  same_cand WrongNumbers (Some a) b h k = absurd h
  same_cand NotCandidate (Some a) (Some b) h k = ap (λ (c : CandId). Some c) (one_outside step.seats.list (people_at step) (named_at step) a b h.1 k.1)
  same_cand NotCandidate (Some a) None h k = absurd k
  same_cand NotCandidate None b h k = absurd h
  same_cand WrongSize None None h k = refl
  same_cand WrongSize None (Some b) h k = absurd k
  same_cand WrongSize (Some a) b h k = absurd h
  same_cand BadCertificate None None h k = refl
  same_cand BadCertificate None (Some b) h k = absurd k
  same_cand BadCertificate (Some a) b h k = absurd h
  same_cand Overtaken (Some a) (Some b) h k = ap (λ (c : CandId). Some c) (one_best a b h.4 k.4)
  same_cand Overtaken (Some a) None h k = absurd k
  same_cand Overtaken None b h k = absurd h
  same_cand NotSought a b h k = absurd h
  same_cand Fell a b h k = absurd h
  same_cand Unlisted a b h k = absurd h
  same_cand FinalDiffers a b h k = absurd h

-- ---- the steps

module _ (version : ℕ) (seats : ProgrammeSeats) (people : List Person) (programme : Programme) where
  abbrev at : StepKind → Audited
  at kind = audited version seats people programme kind

  abbrev Breaks : Clause → Option CandId → StepKind → Type 0
  Breaks clause cand kind = BreaksFirst (at kind) clause cand

  same_kind : (one other : Clause) (a b : Option CandId) (first : IsFirstBroken version seats people programme one a) (second : IsFirstBroken version seats people programme other b) → first.kind ≡ second.kind
  same_kind one other a b first second = elim (cases_lt (step_number first.kind) (step_number second.kind)) [
    | inl less ↦ absurd (not_sound (at first.kind) one a first.here (second.before first.kind less))
    | inr far ↦ elim (cases_lt (step_number second.kind) (step_number first.kind)) [
      | inl less ↦ absurd (not_sound (at second.kind) other b second.here (first.before second.kind less))
      | inr near ↦ one_number first.kind second.kind (let same : step_number first.kind ≡ step_number second.kind = omega (arith, far, near) in same)
    ]
  ]

  same_fault : (one other : Clause) (a b : Option CandId) → IsFirstBroken version seats people programme one a → IsFirstBroken version seats people programme other b → (one ≡ other) × (a ≡ b)
  same_fault one other a b first second =
      let kind = same_kind one other a b first second in
      let here : Breaks one a second.kind = subst (Breaks one a) kind first.here in
      let clause : one ≡ other = same_clause (at second.kind) one other a b here second.here in
      (clause, same_cand (at second.kind) other a b (subst (λ (c : Clause). Breaks c a second.kind) clause here) second.here)

pub one_fault : OneListFault
one_fault version seats people programme None None first second = refl
one_fault version seats people programme None (Some other) first second =
    absurd (not_sound (audited version seats people programme second.kind) other.0 other.1 second.here (first second.kind))
one_fault version seats people programme (Some one) None first second =
    absurd (not_sound (audited version seats people programme first.kind) one.0 one.1 first.here (second first.kind))
one_fault version seats people programme (Some one) (Some other) first second =
    let same = same_fault version seats people programme one.0 other.0 one.1 other.1 first second in
    let clause = same.0 in
    let cand = same.1 in
    let both : Some (one.0, one.1) ≡ Some (other.0, other.1) = cc in
    both
