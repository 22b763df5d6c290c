-- The lines of a list: what each says, and that it says one thing and has no LF.
use Rattle.std.proofs.Common.{◌≡◌, ◌≢◌, ◌<◌, ◌≤◌, ◌^◌, ℕ, Bool, not, eqb, List, [], ◌∷◌, ◌++◌, Option, Some, None, IfSome, get_or, is_some, refl, sym, ap, ◌∙◌, arith}
use Rattle.std.proofs.lemmas.Bool.{false≢true}
use Rattle.std.proofs.lemmas.Fmt.{decimal_injective}
use Rattle.std.proofs.lemmas.List.{append_cancel_left}
use Rattle.std.specs.Fmt.{decimal}
use Rattle.std.specs.Prelude.{codes}
use Rattle.office_base.specs.Lists.{Pairwise}
use Rattle.office_base.specs.declared.step.StepKind.{StepKind}
use Rattle.office_text.specs.Traits.{trait_of}
use Rattle.office_text.proofs.TraitsLemmas.{trait_of-letter}
use Rattle.published_texts.specs.Texts.{code_in}
use Rattle.seat_matrix.specs.Matrix.{SeatTable, codes_in}
use Rattle.step_lines.specs.Lines.{slot_letter, step_name}
use Rattle.text_readers.specs.Parts.{AreSpelled}
use Rattle.text_readers.specs.Reading.{HasNo}
use Rattle.text_readers.proofs.KnownLemmas.{code-clear, code-one, step-clear}
use Rattle.text_readers.proofs.NumberLemmas.{digits-clear}
use Rattle.text_readers.proofs.PartsLemmas.{has-no-append, has-no-tested}
use Rattle.list_texts.specs.ListLines.{IsListHead, IsStepHead, honoured_words, last_words, list_words, step_words}
use Rattle.list_texts.proofs.NumberLines.{numbers-one}

-- another byte than LF
not-lf : ℕ → Bool
not-lf byte = not (eqb byte 10)

-- numbers side by side
abbrev two : ℕ → ℕ → ℕ × ℕ
two a b = (a, b)

abbrev three : ℕ → ℕ → ℕ → ℕ × ℕ × ℕ
three a b c = (a, b, c)

-- ---- the first line

list-clear' : HasNo 10 (codes "list ")
unfolding not-lf
list-clear' = has-no-tested not-lf 10 (codes "list ") refl refl

pub list-clear : (table : SeatTable) → AreSpelled table → (part : ℕ × ℕ) → IsListHead table part → HasNo 10 (list_words table part)
list-clear table spelled part may =
    has-no-append 10 (codes "list ") (decimal part.0 ++ 32 ∷ code_in table part.1) list-clear'
    (has-no-append 10 (decimal part.0) (32 ∷ code_in table part.1) (digits-clear 10 part.0 (omega (arith, may.0)) refl)
    (λ same. absurd (omega (arith, same)), code-clear 10 (code_in table part.1) refl (spelled part.1 may.1)))

-- ---- a step

-- the numbers of a step after that of its seats, and all of them
pub candidates_words : ℕ × ℕ × ℕ → List ℕ
candidates_words part = codes "candidates " ++ (decimal part.1 ++ 32 ∷ (codes "admitted " ++ decimal part.2))

pub seats_words : ℕ × ℕ × ℕ → List ℕ
seats_words part = codes " seats " ++ (decimal part.0 ++ 32 ∷ (codes "candidates " ++ (decimal part.1 ++ 32 ∷ (codes "admitted " ++ decimal part.2))))

seats-clear' : HasNo 10 (codes " seats ")
unfolding not-lf
seats-clear' = has-no-tested not-lf 10 (codes " seats ") refl refl

candidates-clear' : HasNo 10 (codes "candidates ")
unfolding not-lf
candidates-clear' = has-no-tested not-lf 10 (codes "candidates ") refl refl

admitted-clear' : HasNo 10 (codes "admitted ")
unfolding not-lf
admitted-clear' = has-no-tested not-lf 10 (codes "admitted ") refl refl

step-clear' : HasNo 10 (codes "step ")
unfolding not-lf
step-clear' = has-no-tested not-lf 10 (codes "step ") refl refl

not-space : ◌≡◌ {A = ℕ} 32 10 → ⊥
not-space same = absurd (omega (arith, same))

pub step-head-clear : (kind : StepKind) (most : ℕ) → most < 2 ^ 32 → (part : ℕ × ℕ × ℕ) → IsStepHead most part → HasNo 10 (step_words kind part)
step-head-clear kind most fits part may =
    let count = codes "admitted " ++ decimal part.2 in
    let candidates = codes "candidates " ++ (decimal part.1 ++ 32 ∷ count) in
    let seats = codes " seats " ++ (decimal part.0 ++ 32 ∷ candidates) in
    has-no-append 10 (codes "step ") (step_name kind ++ seats) step-clear'
    (has-no-append 10 (step_name kind) seats (step-clear 10 kind refl)
    (has-no-append 10 (codes " seats ") (decimal part.0 ++ 32 ∷ candidates) seats-clear'
    (has-no-append 10 (decimal part.0) (32 ∷ candidates) (digits-clear 10 part.0 (omega (arith, may.0)) refl) (
      not-space,
      has-no-append 10 (codes "candidates ") (decimal part.1 ++ 32 ∷ count) candidates-clear'
          (has-no-append 10 (decimal part.1) (32 ∷ count) (digits-clear 10 part.1 (omega (arith, may.1)) refl) (
            not-space,
            has-no-append 10 (codes "admitted ") (decimal part.2) admitted-clear' (digits-clear 10 part.2 (omega (arith, may.2, fits)) refl),
          )),
    ))))

-- how a line of a step is cut
module _ (kind : StepKind) (most : ℕ) (fits : most < 2 ^ 32) (part : ℕ × ℕ × ℕ) (may : IsStepHead most part) where
  pub step-kind : (line rest : List ℕ) → line ≡ codes "step " ++ rest → line ≡ step_words kind part → rest ≡ step_name kind ++ seats_words part
  unfolding seats_words
  step-kind line rest cut is = append_cancel_left (codes "step ") rest (step_name kind ++ seats_words part) (sym cut ∙ is)

  pub step-seats : (line first rest : List ℕ) → line ≡ codes "step " ++ first → line ≡ step_words kind part → first ≡ step_name kind ++ rest → rest ≡ seats_words part
  step-seats line first rest cut is next = append_cancel_left (step_name kind) rest (seats_words part) (sym next ∙ step-kind line first cut is)

  pub seats-candidates : (text rest : List ℕ) (n : ℕ) → n < 2 ^ 32 → text ≡ seats_words part → text ≡ codes " seats " ++ (decimal n ++ 32 ∷ rest) → (n ≡ part.0) × (rest ≡ candidates_words part)
  unfolding seats_words candidates_words
  seats-candidates text rest n small is cut = numbers-one (codes " seats ") n part.0 rest (candidates_words part) small (omega (arith, may.0)) (sym cut ∙ is)

  pub candidates-admitted : (text rest : List ℕ) (n : ℕ) → n < 2 ^ 32 → text ≡ candidates_words part → text ≡ codes "candidates " ++ (decimal n ++ 32 ∷ rest)
      → (n ≡ part.1) × (rest ≡ codes "admitted " ++ decimal part.2)
  unfolding candidates_words
  candidates-admitted text rest n small is cut = numbers-one (codes "candidates ") n part.1 rest (codes "admitted " ++ decimal part.2) small (omega (arith, may.1)) (sym cut ∙ is)

  -- no numbers where there are some
  pub no-seats : (text : List ℕ) → text ≡ seats_words part → ((n : ℕ) (rest : List ℕ) → n ≤ 4294967295 → text ≢ codes " seats " ++ (decimal n ++ 32 ∷ rest)) → ⊥
  unfolding seats_words
  no-seats text is never = never part.0 (codes "candidates " ++ (decimal part.1 ++ 32 ∷ (codes "admitted " ++ decimal part.2))) (omega (arith, may.0)) is

  pub no-candidates : (text : List ℕ) → text ≡ candidates_words part → ((n : ℕ) (rest : List ℕ) → n ≤ 4294967295 → text ≢ codes "candidates " ++ (decimal n ++ 32 ∷ rest)) → ⊥
  unfolding candidates_words
  no-candidates text is never = never part.1 (codes "admitted " ++ decimal part.2) (omega (arith, may.1)) is

pub step-one : (kind : StepKind) (most : ℕ) → most < 2 ^ 32 → (p q : ℕ × ℕ × ℕ) → IsStepHead most p → IsStepHead most q → step_words kind p ≡ step_words kind q → p ≡ q
unfolding seats_words candidates_words
step-one kind most fits p q may can e =
    let rest = step-seats kind most fits q can (step_words kind p) (step_name kind ++ seats_words p) (seats_words p) refl e refl in
    let (seats, later) = seats-candidates kind most fits q can (seats_words p) (candidates_words p) p.0 (omega (arith, may.0)) rest refl in
    let (candidates, last) = candidates-admitted kind most fits q can (candidates_words p) (codes "admitted " ++ decimal p.2) p.1 (omega (arith, may.1)) later refl in
    let admitted = decimal_injective p.2 q.2 (omega (arith, may.2, fits)) (omega (arith, can.2, fits)) (append_cancel_left (codes "admitted ") (decimal p.2) (decimal q.2) last) in
    ap (λ a. three a p.1 p.2) seats ∙ ap (λ a. three q.0 a p.2) candidates ∙ ap (λ a. three q.0 q.1 a) admitted

-- ---- slots

honoured-clear' : HasNo 10 (codes "honoured ")
unfolding not-lf
honoured-clear' = has-no-tested not-lf 10 (codes "honoured ") refl refl

pub honoured-clear : (most : ℕ) → most < 2 ^ 32 → (slots : ℕ) → slots ≤ most → HasNo 10 (honoured_words slots)
honoured-clear most fits slots may = has-no-append 10 (codes "honoured ") (decimal slots) honoured-clear' (digits-clear 10 slots (omega (arith, fits, may)) refl)

pub honoured-one : (most : ℕ) → most < 2 ^ 32 → (p q : ℕ) → p ≤ most → q ≤ most → honoured_words p ≡ honoured_words q → p ≡ q
honoured-one most fits p q may can e = decimal_injective p q (omega (arith, fits, may)) (omega (arith, fits, can)) (append_cancel_left (codes "honoured ") (decimal p) (decimal q) e)

-- ---- the last line

pub last-clear : (part : Unit {0}) → HasNo 10 (last_words part)
unfolding not-lf
last-clear part = has-no-tested not-lf 10 (codes "end list") refl refl

-- ---- letters

-- two slots with one letter are one
pub slot-one : (a b : Option ℕ) → IfSome a (λ t. t < 6) → IfSome b (λ t. t < 6) → slot_letter a ≡ slot_letter b → a ≡ b
slot-one None None left right e = refl
slot-one None (Some t) left right e = absurd (false≢true (ap is_some (ap trait_of e ∙ trait_of-letter t right)))
slot-one (Some t) None left right e = absurd (false≢true (ap is_some (sym (sym (trait_of-letter t left) ∙ ap trait_of e))))
slot-one (Some t) (Some s) left right e = sym (trait_of-letter t left) ∙ ap trait_of e ∙ trait_of-letter s right

pub slot-clear : (slot : Option ℕ) → IfSome slot (λ t. t < 6) → slot_letter slot ≡ 10 → ⊥
slot-clear None known e = absurd (omega (arith, e))
slot-clear (Some t) known e = false≢true (ap is_some (sym (sym (trait_of-letter t known) ∙ ap trait_of e)))

-- ---- a row

module _ (id other : ℕ) (small : id < 2 ^ 32) (fits : other < 2 ^ 32) (a b : Option ℕ) (known : IfSome a (λ t. t < 6)) (such : IfSome b (λ t. t < 6)) where
  pub row-one : decimal id ++ 32 ∷ slot_letter a ∷ [] ≡ decimal other ++ 32 ∷ slot_letter b ∷ [] → (id ≡ other) × (a ≡ b)
  row-one e =
      let (same, last) = numbers-one [] id other (slot_letter a ∷ []) (slot_letter b ∷ []) small fits e in
      (same, slot-one a b known such (ap (λ (z : List ℕ). get_or z 0 0) last))

pub row-no-lf : (id : ℕ) → id < 2 ^ 32 → (slot : Option ℕ) → IfSome slot (λ t. t < 6) → HasNo 10 (decimal id ++ 32 ∷ slot_letter slot ∷ [])
row-no-lf id small slot known = has-no-append 10 (decimal id) (32 ∷ slot_letter slot ∷ []) (digits-clear 10 id (omega (arith, small)) refl) (not-space, (slot-clear slot known, tt))

-- a first line names one round and one programme
pub list-one : (table : SeatTable) → Pairwise (λ a b. a ≢ b) (codes_in table.programmes) → (p q : ℕ × ℕ) → IsListHead table p → IsListHead table q → list_words table p ≡ list_words table q → p ≡ q
list-one table apart p q may can e =
    let (number, code) = numbers-one (codes "list ") p.0 q.0 (code_in table p.1) (code_in table q.1) (omega (arith, may.0)) (omega (arith, can.0)) e in
    let prog = code-one table apart p.1 q.1 may.1 can.1 code in
    ap (λ a. two a p.1) number ∙ ap (λ a. two q.0 a) prog
