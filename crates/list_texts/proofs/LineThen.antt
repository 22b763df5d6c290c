-- A line, and what may follow it.
use Rattle.std.proofs.Common.{◌≡◌, List, ℕ, [], ◌∷◌, ◌++◌, refl, sym, ap, subst, ◌∙◌, append_assoc}
use Rattle.text_readers.specs.Reading.{Begins, EndsWithLines, Grammar, HasNo, IsRefused, Leads}
use Rattle.text_readers.proofs.PartsLemmas.{cut-one, has-one}
use Rattle.text_readers.proofs.PieceLemmas.{prefix-line, prefix-more}
use Rattle.list_texts.specs.ListLines.{BeginsLine, IsLineThen}

-- one of the lines is possible, and something completes the text after it
pub then-some : {P V : Type 0} (words : P → List ℕ) (can : P → Type 0) (next : P → Grammar V) (p : P) → can p → Begins (next p) [] → Begins (IsLineThen words can next) []
then-some words can next p may (rest, value, later) = (words p ++ 10 ∷ rest, value, record { part = p; may = may; rest = rest; same = refl; later = later })

module _ {P V : Type 0} (words : P → List ℕ) (can : P → Type 0) (next : P → Grammar V) where
  -- where a text begins with a piece of a line, the piece begins one of these
  pub begins-then : (piece : List ℕ) → HasNo 10 piece → Begins (IsLineThen words can next) piece → BeginsLine words can piece
  begins-then piece none (more, value, is) = record { part = is.part; may = is.may; begins = prefix-line 10 piece more (words is.part) is.rest none is.same [] }

  -- and back
  pub then-begins : (piece : List ℕ) → ((p : P) → can p → Begins (next p) []) → BeginsLine words can piece → Begins (IsLineThen words can next) piece
  then-begins piece all b =
      let (more, is) = prefix-more piece (words b.part ++ 10 ∷ []) b.begins in
      let (rest, value, later) = all b.part b.may in (
        more ++ rest,
        value,
        record {
          part = b.part;
          may = b.may;
          rest = rest;
          same = sym (append_assoc piece more rest) ∙ ap (λ z. z ++ rest) (sym is) ∙ append_assoc (words b.part) (10 ∷ []) rest;
          later = later;
        },
      )

  -- no text ends inside a line
  pub then-ends : (piece : List ℕ) → HasNo 10 piece → EndsWithLines (IsLineThen words can next) piece
  then-ends piece none value is = has-one 10 (words is.part) is.rest (subst (HasNo 10) is.same none)

  module _ (clear : (p : P) → can p → HasNo 10 (words p)) (line : List ℕ) (none : HasNo 10 line) where
    line-parts : (rest : List ℕ) (value : V) (is : IsLineThen words can next (line ++ 10 ∷ rest) value) → (line ≡ words is.part) × (rest ≡ is.rest)
    line-parts rest value is = cut-one 10 line (words is.part) rest is.rest none (clear is.part is.may) is.same

    -- a line that is none of these
    pub then-refused : ((p : P) → can p → line ≡ words p → ⊥) → IsRefused (IsLineThen words can next) line
    then-refused never rest value is = never is.part is.may (line-parts rest value is).0

    -- one of them
    pub then-leads : ((p q : P) → can p → can q → words p ≡ words q → p ≡ q) → (p : P) → can p → line ≡ words p → Begins (next p) [] → Leads (IsLineThen words can next) (next p) line
    then-leads one p may same some = record {
      back = λ rest value later. record { part = p; may = may; rest = rest; same = ap (λ z. z ++ 10 ∷ rest) same; later = later };
      on = λ rest value is.
          let (e, r) = line-parts rest value is in
          let q = one is.part p is.may may (sym e ∙ same) in
          (value, subst (λ z. next z rest value) q (subst (λ z. next is.part z value) (sym r) is.later));
      some = some;
    }

-- A form of a line: its texts have no LF and spell one part each, and something completes the text after each.
pub record LineForm {P V : Type 0} (words : P → List ℕ) (can : P → Type 0) (next : P → Grammar V) : Type 0 where
  pub clear : (p : P) → can p → HasNo 10 (words p)
  pub one : (p q : P) → can p → can q → words p ≡ words q → p ≡ q
  pub some : (p : P) → can p → Begins (next p) []

module _ {P V : Type 0} {words : P → List ℕ} {can : P → Type 0} {next : P → Grammar V} (form : LineForm words can next) where
  pub form-refused : (line : List ℕ) → HasNo 10 line → ((p : P) → can p → line ≡ words p → ⊥) → IsRefused (IsLineThen words can next) line
  form-refused line none never = then-refused words can next form.clear line none never

  pub form-leads : (line : List ℕ) → HasNo 10 line → (p : P) → can p → line ≡ words p → Leads (IsLineThen words can next) (next p) line
  form-leads line none p may same = then-leads words can next form.clear line none form.one p may same (form.some p may)

  pub form-from : (piece : List ℕ) → BeginsLine words can piece → Begins (IsLineThen words can next) piece
  form-from piece b = then-begins words can next piece form.some b

  pub form-to : (piece : List ℕ) → HasNo 10 piece → Begins (IsLineThen words can next) piece → BeginsLine words can piece
  form-to piece none b = begins-then words can next piece none b

  pub form-ends : (piece : List ℕ) → HasNo 10 piece → EndsWithLines (IsLineThen words can next) piece
  form-ends piece none = then-ends words can next piece none
