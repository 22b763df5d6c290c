-- Codes, names of steps, and ids: what a matrix and a register keep of them.
use Rattle.std.proofs.Common.{◌≡◌, ◌≢◌, ◌<◌, ◌≤◌, ℕ, zero, suc, true, false, ◌&&◌, leb, eqb, List, [], ◌∷◌, Option, Some, None, length, map, get_or, inl, inr, refl, sym, ap, ◌∙◌, arith, eq-eqb}
use Rattle.std.proofs.lemmas.Bool.{and_parts, cases_eq, cond-true, cond-false, ne_eqb}
use Rattle.std.proofs.lemmas.List.Quantifiers.{position-Some}
use Rattle.std.proofs.lemmas.Slice.Eq.{bytes_eq-Decides}
use Rattle.std.specs.List.{AllByRecursion, list_all, position}
use Rattle.std.specs.Option.{option_map, unwrap_or}
use Rattle.std.specs.Prelude.{IfNone, IfSome, bytes_eq, slice_get}
use Rattle.office_base.specs.Codes.{is_code, is_code_byte}
use Rattle.office_base.specs.Limits.{longest_code, shortest_code}
use Rattle.office_base.specs.Lists.{Pairwise}
use Rattle.office_base.specs.declared.person.Person.{Person}
use Rattle.office_base.specs.declared.person.ProgId.{ProgId}
use Rattle.office_base.specs.declared.seat.SeatKind.{SeatKind}
use Rattle.office_base.specs.declared.seat.SeatKind.TheVariants.{Kept, Under}
use Rattle.office_base.specs.declared.step.StepKind.{StepKind}
use Rattle.office_base.proofs.StepNumbers.{each_step}
use Rattle.published_texts.specs.Texts.{code_in}
use Rattle.rank_lists.specs.Register.{find_person}
use Rattle.rank_lists.proofs.Known.{found_id}
use Rattle.seat_matrix.specs.Matrix.{SeatTable, codes_in}
use Rattle.seat_matrix.specs.declared.entry.Home.{Home}
use Rattle.step_lines.specs.Lines.{seat_kind_name, step_name}
use Rattle.text_readers.specs.Parts.{AreSmall}
use Rattle.text_readers.specs.Reading.{HasNo}
use Rattle.text_readers.proofs.PartsLemmas.{has-no-tested, position-none}

-- ---- codes and steps

pub code-clear : (byte : ℕ) (code : List ℕ) → is_code_byte byte ≡ false → is_code code ≡ true → HasNo byte code
code-clear byte code other spelled =
    let (bounds, all) = and_parts (leb shortest_code (length code) && leb (length code) longest_code) (list_all is_code_byte code) spelled in
    has-no-tested is_code_byte byte code other all

step-letters : (step : StepKind) → list_all is_code_byte (step_name step) ≡ true
step-letters = each_step (λ step. list_all is_code_byte (step_name step)) refl

kind-letters : (kind : SeatKind) → list_all is_code_byte (seat_kind_name kind) ≡ true
kind-letters (Under step) = step-letters step
kind-letters Kept = refl

pub kind-clear : (byte : ℕ) (kind : SeatKind) → is_code_byte byte ≡ false → HasNo byte (seat_kind_name kind)
kind-clear byte kind other = has-no-tested is_code_byte byte (seat_kind_name kind) other (kind-letters kind)

pub step-clear : (byte : ℕ) (step : StepKind) → is_code_byte byte ≡ false → HasNo byte (step_name step)
step-clear byte step other = has-no-tested is_code_byte byte (step_name step) other (step-letters step)

-- ---- the programme of a code

-- the code of a programme is the one at its place
code-at : (programmes : List (List ℕ × Home)) (n : ℕ) → n < length programmes → unwrap_or (option_map (λ held. held.0) (slice_get programmes n)) [] ≡ get_or (map (λ held. held.0) programmes) n []
code-at [] n within = absurd (omega (arith, within))
code-at (held ∷ programmes) zero within = refl
code-at (held ∷ programmes) (suc n) within = code-at programmes n (omega (arith, within))

map-length : (programmes : List (List ℕ × Home)) → length (map (λ held. held.0) programmes) ≡ length programmes
map-length [] = refl
map-length (held ∷ programmes) = ap suc (map-length programmes)

pub found-programme : (table : SeatTable) (code : List ℕ) (found : Option ProgId) → option_map (λ prog. prog.0) found ≡ position (bytes_eq code) (map (λ held. held.0) table.programmes)
    → IfSome found (λ prog. (prog.0 < length table.programmes) × (code ≡ code_in table prog.0))
found-programme table code None e = tt
found-programme table code (Some prog) e =
    let codes = map (λ (held : List ℕ × Home). held.0) table.programmes in
    let (within, passes, _) = position-Some (bytes_eq code) codes prog.0 [] (sym e) in
    let below : prog.0 < length table.programmes = omega (arith, within, map-length table.programmes) in
    (below, (bytes_eq-Decides code (get_or codes prog.0 [])).0 passes ∙ sym (code-at table.programmes prog.0 below))

pub no-programme : (table : SeatTable) (code : List ℕ) (found : Option ProgId) → option_map (λ prog. prog.0) found ≡ position (bytes_eq code) (map (λ held. held.0) table.programmes)
    → IfNone found ((prog : ℕ) → prog < length table.programmes → code ≢ code_in table prog)
no-programme table code None e = λ prog within same.
    let codes = map (λ (held : List ℕ × Home). held.0) table.programmes in
    position-none (bytes_eq code) codes prog [] e (omega (arith, within, map-length table.programmes))
    ((bytes_eq-Decides code (get_or codes prog [])).1 (same ∙ code-at table.programmes prog within))
no-programme table code (Some prog) e = tt

code-of : List (List ℕ × Home) → ℕ → List ℕ
code-of programmes n = unwrap_or (option_map (λ held. held.0) (slice_get programmes n)) []

code-apart : (programmes : List (List ℕ × Home)) (code : List ℕ) → AllByRecursion (λ other. code ≢ other) (codes_in programmes) → (n : ℕ) → n < length programmes → code ≡ code-of programmes n → ⊥
unfolding code-of
code-apart [] code apart n within e = absurd (omega (arith, within))
code-apart (held ∷ programmes) code apart zero within e = apart.0 e
code-apart (held ∷ programmes) code apart (suc n) within e = code-apart programmes code apart.1 n (omega (arith, within)) e

codes-one : (programmes : List (List ℕ × Home)) → Pairwise (λ a b. a ≢ b) (codes_in programmes) → (i j : ℕ) → i < length programmes → j < length programmes → code-of programmes i ≡ code-of programmes j → i ≡ j
unfolding code-of
codes-one [] apart i j within below e = absurd (omega (arith, within))
codes-one (held ∷ programmes) apart zero zero within below e = refl
codes-one (held ∷ programmes) apart zero (suc j) within below e = absurd (code-apart programmes held.0 apart.0 j (omega (arith, below)) e)
codes-one (held ∷ programmes) apart (suc i) zero within below e = absurd (code-apart programmes held.0 apart.0 i (omega (arith, within)) (sym e))
codes-one (held ∷ programmes) apart (suc i) (suc j) within below e = ap suc (codes-one programmes apart.1 i j (omega (arith, within)) (omega (arith, below)) e)

-- a code is that of one programme
pub code-one : (table : SeatTable) → Pairwise (λ a b. a ≢ b) (codes_in table.programmes) → (i j : ℕ) → i < length table.programmes → j < length table.programmes → code_in table i ≡ code_in table j → i ≡ j
unfolding code-of
code-one table apart i j within below e = codes-one table.programmes apart i j within below e

-- ---- ids

pub small-people : (people : List Person) → ((id : ℕ) (person : Person) → find_person id people ≡ Some person → person.id.0 ≤ 999999999) → AreSmall people
small-people [] known = tt
small-people (p ∷ people) known =
    let here : p.id.0 ≤ 999999999 = known p.id.0 p (cond-true (eqb p.id.0 p.id.0) (Some p) (find_person p.id.0 people) (eq-eqb p.id.0 p.id.0 refl)) in (
      omega (arith, here),
      small-people people (λ id person e. elim (cases_eq id p.id.0) [
        | inl same ↦ omega (arith, same, here, found_id id people person e)
        | inr other ↦ known id person (cond-false (eqb id p.id.0) (Some p) (find_person id people) (ne_eqb id p.id.0 other) ∙ e)
      ]),
    )
