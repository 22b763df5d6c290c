-- Rows have no fault, or one that is the first.
use Rattle.std.proofs.Common.{◌≡◌, ◌<◌, ◌⊎◌, inl, inr, ℕ, zero, suc, List, Option, Some, None, length, refl, sym, subst, arith}
use Rattle.std.proofs.lemmas.Bool.{cases_order}
use Rattle.office_text.specs.FirstFault.{Judge, fault_at, IsFirstFault, IsFaultless, HaveOneAnswer}

-- an option is None, or has a value
cases_Option : {X : Type 0} (o : Option X) → (o ≡ None) ⊎ ((x : X) × (o ≡ Some x))
cases_Option None = inl refl
cases_Option (Some x) = inr (x, refl)

-- no row below n has a fault, or one of them is the first with one
abbrev Below : {Row Kind : Type 0} → Judge Row Kind → List Row → ℕ → Type 0
Below {Row} {Kind} judge rows n = ((m : ℕ) → m < n → fault_at judge rows m ≡ None) ⊎ ((k : ℕ) × (kind : Kind) × (k < n) × (fault_at judge rows k ≡ Some kind) × ((m : ℕ) → m < k → fault_at judge rows m ≡ None))

first_below : {Row Kind : Type 0} (judge : Judge Row Kind) (rows : List Row) (n : ℕ) → Below judge rows n
first_below judge rows zero = inl (λ m h. absurd (omega arith))
first_below {Row} {Kind} judge rows (suc n) =
    elim (first_below judge rows n) [
      | inl none ↦ elim (cases_Option (fault_at judge rows n)) [
        | inl here ↦ inl (λ m below. elim (cases_order m n) [
          | inl same ↦ subst (λ (k : ℕ). fault_at judge rows k ≡ None) (sym same) here
          | inr other ↦ elim other [ inl less ↦ none m less | inr more ↦ absurd (omega arith) ]
        ])
        | inr found ↦ inr (n, found.0, omega arith, found.1, none)
      ]
      | inr found ↦ inr (found.0, found.1, omega (arith, found.2), found.3, found.4)
    ]

-- Either no row and no end has a fault, or there is a first fault.
pub first_fault : {Row Kind : Type 0} (judge : Judge Row Kind) (rows : List Row) → IsFaultless judge rows ⊎ ((n : ℕ) × (kind : Kind) × IsFirstFault judge rows n kind)
first_fault judge rows =
    elim (first_below judge rows (suc (length rows))) [
      | inl none ↦ inl (λ m within. none m (omega arith))
      | inr found ↦ inr (found.0, found.1, record { here = found.3; within = omega (arith, found.2); before = found.4 })
    ]

-- What has a first fault is not without faults.
pub faults_apart : {Row Kind : Type 0} (judge : Judge Row Kind) (rows : List Row) (n : ℕ) (kind : Kind) → IsFaultless judge rows → IsFirstFault judge rows n kind → ⊥
faults_apart judge rows n kind none first =
    let e : fault_at judge rows n ≡ None = none n first.within in
    let here : fault_at judge rows n ≡ Some kind = first.here in
    cc

-- There is one first fault at most.
pub one_first_fault : {Row Kind : Type 0} (judge : Judge Row Kind) (rows : List Row) (m n : ℕ) (first second : Kind) → IsFirstFault judge rows m first → IsFirstFault judge rows n second → (m ≡ n) × (first ≡ second)
one_first_fault judge rows m n first second a b =
    elim (cases_order m n) [
      | inl same ↦ (same, (let here : fault_at judge rows m ≡ Some first = a.here in let there : fault_at judge rows n ≡ Some second = b.here in cc))
      | inr other ↦ elim other [
        | inl less ↦ absurd (let e : fault_at judge rows m ≡ None = b.before m less in let here : fault_at judge rows m ≡ Some first = a.here in cc)
        | inr more ↦ absurd (let e : fault_at judge rows n ≡ None = a.before n more in let here : fault_at judge rows n ≡ Some second = b.here in cc)
      ]
    ]

-- Rows have exactly one answer.
pub one_answer : {Row Kind : Type 0} (judge : Judge Row Kind) (rows : List Row) → HaveOneAnswer judge rows
one_answer judge rows = record { some = first_fault judge rows; apart = faults_apart judge rows; one = one_first_fault judge rows }
