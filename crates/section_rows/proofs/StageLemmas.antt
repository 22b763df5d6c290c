-- Stages of a reading, one after another: each ends with a value, which the next one is about, or with a fault, which ends them all.
use Rattle.std.proofs.Common.{◌≡◌, ◌⊎◌, inl, inr, ℕ, Result, Ok, Err, refl, sym, ap, subst, ◌∙◌}
use Rattle.section_rows.specs.declared.fault.TableFault.{TableFault}
use Rattle.section_rows.specs.declared.fault.TableFault.TheVariants.{Bad}

-- a result is one value, or one error, and never both
pub one_ok : {X E : Type 0} (r : Result X E) (x y : X) → r ≡ Ok x → r ≡ Ok y → x ≡ y
one_ok r x y e f = cc

pub one_err : {X E : Type 0} (r : Result X E) (x y : E) → r ≡ Err x → r ≡ Err y → x ≡ y
one_err r x y e f = cc

pub not_both : {X E : Type 0} (r : Result X E) (x : X) (y : E) → r ≡ Ok x → r ≡ Err y → ⊥
not_both r x y e f = cc

-- a stage ends in one way
abbrev pub EndsOnce : {Fault X : Type 0} → (Result X Fault → Type 0) → Type 0
EndsOnce {Fault} {X} stage = (r s : Result X Fault) → stage r → stage s → r ≡ s

-- two stages end with the fault of the first, or as the second does with the value of the first
abbrev pub then : {Fault X Y : Type 0} → (Result X Fault → Type 0) → (X → Result Y Fault → Type 0) → Result Y Fault → Type 0
then {Fault} {X} first rest r = ((fault : Fault) × first (Err fault) × (r ≡ Err fault)) ⊎ ((x : X) × first (Ok x) × rest x r)

-- Two stages end in one way if each does.
pub then-once : {Fault X Y : Type 0} (first : Result X Fault → Type 0) (rest : X → Result Y Fault → Type 0) → EndsOnce first → ((x : X) → EndsOnce (rest x)) → EndsOnce (then first rest)
then-once first rest one each r s (inl a) (inl b) = a.2 ∙ ap Err (one_err (Err a.0) a.0 b.0 refl (one (Err a.0) (Err b.0) a.1 b.1)) ∙ sym b.2
then-once first rest one each r s (inl a) (inr b) = absurd (not_both (Err a.0) b.0 a.0 (one (Err a.0) (Ok b.0) a.1 b.1) refl)
then-once first rest one each r s (inr a) (inl b) = absurd (not_both (Ok a.0) a.0 b.0 refl (one (Ok a.0) (Err b.0) a.1 b.1))
then-once {Fault} {X} first rest one each r s (inr a) (inr b) =
    each b.0 r s (subst (λ (x : X). rest x r) (one_ok (Ok a.0) a.0 b.0 refl (one (Ok a.0) (Ok b.0) a.1 b.1)) a.2) b.2

-- a stage that is computed: its error is a fault
abbrev pub gives : {Fault E X : Type 0} → (E → Fault) → Result X E → Result X Fault → Type 0
gives named r (Ok x) = r ≡ Ok x
gives {Fault} {E} named r (Err fault) = (error : E) × (r ≡ Err error) × (fault ≡ named error)

pub gives-once : {Fault E X : Type 0} (named : E → Fault) (r : Result X E) → EndsOnce (gives named r)
gives-once named r (Ok x) (Ok y) a b = ap Ok (one_ok r x y a b)
gives-once named r (Ok x) (Err fault) a b = absurd (not_both r x b.0 a b.1)
gives-once named r (Err fault) (Ok y) a b = absurd (not_both r y a.0 b a.1)
gives-once named r (Err fault) (Err other) a b = ap Err (a.2 ∙ ap named (one_err r a.0 b.0 a.1 b.1) ∙ sym b.2)

-- a stage that reads a table: it has a value, or a first fault
abbrev pub reads : {Fault Kind X : Type 0} → (X → Type 0) → (TableFault Kind → Type 0) → (TableFault Kind → Fault) → Result X Fault → Type 0
reads IsRead IsFault named (Ok x) = IsRead x
reads {Fault} {Kind} IsRead IsFault named (Err fault) = (row : ℕ) × (kind : Kind) × IsFault (Bad row kind) × (fault ≡ named (Bad row kind))

pub reads-once : {Fault Kind X : Type 0} (IsRead : X → Type 0) (IsFault : TableFault Kind → Type 0) (named : TableFault Kind → Fault)
    → ((x : X) (row : ℕ) (kind : Kind) → IsRead x → IsFault (Bad row kind) → ⊥) → ((x y : X) → IsRead x → IsRead y → x ≡ y)
    → ((row other : ℕ) (kind next : Kind) → IsFault (Bad row kind) → IsFault (Bad other next) → (row ≡ other) × (kind ≡ next)) → EndsOnce (reads IsRead IsFault named)
reads-once IsRead IsFault named apart one_value one_fault (Ok x) (Ok y) a b = ap Ok (one_value x y a b)
reads-once IsRead IsFault named apart one_value one_fault (Ok x) (Err fault) a b = absurd (apart x b.0 b.1 a b.2)
reads-once IsRead IsFault named apart one_value one_fault (Err fault) (Ok y) a b = absurd (apart y a.0 a.1 b a.2)
reads-once {Fault} {Kind} IsRead IsFault named apart one_value one_fault (Err fault) (Err other) a b =
    let both = one_fault a.0 b.0 a.1 b.1 a.2 b.2 in
    let row = both.0 in
    let kind = both.1 in
    let same : named (Bad a.0 a.1) ≡ named (Bad b.0 b.1) = cc in
    ap Err (a.3 ∙ same ∙ sym b.3)
