-- How the line of a row is taken apart.
use Rattle.std.proofs.Common.{◌≡◌, ◌≢◌, ◌<◌, ◌^◌, ℕ, List, ◌∷◌, ◌++◌, Some, None, length, refl, sym, subst, ◌∙◌, arith}
use Rattle.std.proofs.lemmas.Bool.{false≢true}
use Rattle.std.proofs.lemmas.Fmt.{decimal_injective}
use Rattle.std.proofs.lemmas.List.{append_cancel_left}
use Rattle.std.proofs.lemmas.Slice.Eq.{bytes_eq-Decides}
use Rattle.std.specs.Fmt.{decimal}
use Rattle.std.specs.Prelude.{bytes_eq}
use Rattle.office_base.proofs.SeatKinds.{found_kind, no_kind}
use Rattle.office_base.specs.declared.seat.SeatKind.{SeatKind}
use Rattle.published_texts.specs.Texts.{code_in}
use Rattle.seat_matrix.specs.Matrix.{SeatTable}
use Rattle.step_lines.specs.Lines.{seat_kind_name}
use Rattle.text_readers.specs.Parts.{AreSpelled}
use Rattle.text_readers.specs.Reading.{HasNo}
use Rattle.text_readers.proofs.KnownLemmas.{code-clear, kind-clear}
use Rattle.text_readers.proofs.NumberLemmas.{digits-clear}
use Rattle.text_readers.proofs.PartsLemmas.{cut-one, has-no-append, has-one}
use Rattle.publish.specs.Rows.{IsRow, row_words, written_kind}

-- the name of a kind of seat is that of the kind which is read of it
pub kind-written : (text : List ℕ) (step : SeatKind) → written_kind text ≡ Some step → text ≡ seat_kind_name step
kind-written text step found = (bytes_eq-Decides text (seat_kind_name step)).0 (found_kind (λ s. bytes_eq text (seat_kind_name s)) step found)

-- of which no step is read is the name of none
pub no-kind : (text : List ℕ) → written_kind text ≡ None → (step : SeatKind) → text ≢ seat_kind_name step
no-kind text none step same = false≢true (sym (no_kind (λ s. bytes_eq text (seat_kind_name s)) none step) ∙ (bytes_eq-Decides text (seat_kind_name step)).1 same)

module _ (word : List ℕ) (table : SeatTable) (line : List ℕ) (cand prog : ℕ) (step : SeatKind) (spelled : AreSpelled table) (small : cand < 2 ^ 32) (row : IsRow word table line cand prog step) where
  pub row-rest : (rest : List ℕ) → line ≡ word ++ rest → rest ≡ decimal cand ++ 32 ∷ (code_in table prog ++ 32 ∷ seat_kind_name step)
  row-rest rest e = append_cancel_left word rest (decimal cand ++ 32 ∷ (code_in table prog ++ 32 ∷ seat_kind_name step)) (sym e ∙ row.same)

  pub row-whole : (rest : List ℕ) → line ≡ word ++ rest → HasNo 32 rest → ⊥
  row-whole rest e none = has-one 32 (decimal cand) (code_in table prog ++ 32 ∷ seat_kind_name step) (subst (HasNo 32) (row-rest rest e) none)

  pub row-cand : (rest a b : List ℕ) → line ≡ word ++ rest → rest ≡ a ++ 32 ∷ b → HasNo 32 a → (a ≡ decimal cand) × (b ≡ code_in table prog ++ 32 ∷ seat_kind_name step)
  row-cand rest a b e cut none =
      cut-one 32 a (decimal cand) b (code_in table prog ++ 32 ∷ seat_kind_name step) none (digits-clear 32 cand (omega (arith, small)) refl) (sym cut ∙ row-rest rest e)

  pub row-half : (rest a b : List ℕ) → line ≡ word ++ rest → rest ≡ a ++ 32 ∷ b → HasNo 32 a → HasNo 32 b → ⊥
  row-half rest a b e cut none whole = has-one 32 (code_in table prog) (seat_kind_name step) (subst (HasNo 32) (row-cand rest a b e cut none).1 whole)

  pub row-code : (rest a b c d : List ℕ) → line ≡ word ++ rest → rest ≡ a ++ 32 ∷ b → HasNo 32 a → b ≡ c ++ 32 ∷ d → HasNo 32 c → (c ≡ code_in table prog) × (d ≡ seat_kind_name step)
  row-code rest a b c d e cut none next clear =
      cut-one 32 c (code_in table prog) d (seat_kind_name step) clear (code-clear 32 (code_in table prog) refl (spelled prog row.within)) (sym next ∙ (row-cand rest a b e cut none).1)

-- the line of a row has no LF
pub row-clear : (word : List ℕ) (table : SeatTable) (cand prog : ℕ) (step : SeatKind) → HasNo 10 word → AreSpelled table → cand < 2 ^ 32 → prog < length table.programmes → HasNo 10 (row_words word table cand prog step)
row-clear word table cand prog step first spelled small within =
    has-no-append 10 word (decimal cand ++ 32 ∷ (code_in table prog ++ 32 ∷ seat_kind_name step)) first
    (has-no-append 10 (decimal cand) (32 ∷ (code_in table prog ++ 32 ∷ seat_kind_name step)) (digits-clear 10 cand (omega (arith, small)) refl) (
      λ same. absurd (omega (arith, same)),
      has-no-append 10 (code_in table prog) (32 ∷ seat_kind_name step) (code-clear 10 (code_in table prog) refl (spelled prog within))
          (λ same. absurd (omega (arith, same)), kind-clear 10 step refl),
    ))

-- a line has one candidate, programme and step
pub row-one : (word : List ℕ) (table : SeatTable) (line : List ℕ) (cand prog : ℕ) (step : SeatKind) (other next : ℕ) (kind : SeatKind) → AreSpelled table → cand < 2 ^ 32 → other < 2 ^ 32
    → IsRow word table line cand prog step → IsRow word table line other next kind → cand ≡ other
row-one word table line cand prog step other next kind spelled small fits row same =
    let rest = row-rest word table line other next kind spelled fits same (decimal cand ++ 32 ∷ (code_in table prog ++ 32 ∷ seat_kind_name step)) row.same in
    decimal_injective cand other (omega (arith, small)) (omega (arith, fits))
    (cut-one 32 (decimal cand) (decimal other) (code_in table prog ++ 32 ∷ seat_kind_name step) (code_in table next ++ 32 ∷ seat_kind_name kind)
    (digits-clear 32 cand (omega (arith, small)) refl) (digits-clear 32 other (omega (arith, fits)) refl) rest).0
