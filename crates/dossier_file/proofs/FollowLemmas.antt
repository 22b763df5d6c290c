-- The line of the first fault of texts one after another.
use Rattle.std.proofs.Common.{◌≡◌, ◌≤◌, ◌+◌, ◌-◌, ◌⊎◌, ℕ, false, List, [], ◌∷◌, ◌++◌, refl, sym, ap, ◌∙◌, subst, inl, inr, arith, append-nil, append_assoc}
use Rattle.std.proofs.lemmas.Bool.{cases_lt}
use Rattle.text_readers.specs.Reading.{Begins, Grammar, IsFaultLine, first_lines, lines_in}
use Rattle.dossier_file.specs.Papers.{IsThen}
use Rattle.dossier_file.specs.Texts.{IsEnded, IsLeast}
use Rattle.dossier_file.proofs.LineLemmas.{all_taken, are_front, ended_lines, ended_then, nothing_left, short_same, two_fronts}

-- bytes that begin a text of the first and then some text of the second
pub begin_then : {A B : Type 0} (join : A → B → B) (first : Grammar A) (second : Grammar B) (bytes : List ℕ) → Begins first bytes → Begins second [] → Begins (IsThen join first second) bytes
begin_then join first second bytes one two = (
  one.0 ++ two.0,
  join one.1 two.1,
  record {
    one = one.1;
    more = two.1;
    all = refl;
    front = bytes ++ one.0;
    rest = two.0;
    split = sym (append_assoc bytes one.0 two.0);
    begins = one.2;
    later = two.2;
  },
)

module _ {A B : Type 0} (join : A → B → B) (first : Grammar A) (second : Grammar B) (piece rest : List ℕ) (least : IsLeast first piece) where
  module _ (ended : IsEnded first piece ⊎ (rest ≡ [])) where
    -- a text that begins the bytes is the piece
    only_piece : (front tail : List ℕ) (value : A) → piece ++ rest ≡ front ++ tail → first front value → (front ≡ piece) × (tail ≡ rest)
    only_piece front tail value split text = elim (two_fronts piece rest front tail split) [
      | inl h ↦
          let none : h.0 ≡ [] = elim ended [
            | inl e ↦ e.no_longer h.0 value (subst (λ (z : List ℕ). first z value) h.1 text)
            | inr empty ↦ nothing_left h.0 tail (sym h.2 ∙ empty)
          ] in
          (h.1 ∙ ap (λ (z : List ℕ). piece ++ z) none ∙ append-nil piece, sym (h.2 ∙ ap (λ (z : List ℕ). z ++ tail) none))
      | inr h ↦
          let none : h.0 ≡ [] = least front h.0 value h.1 text in
          (sym (h.1 ∙ ap (λ (z : List ℕ). front ++ z) none ∙ append-nil front), h.2 ∙ ap (λ (z : List ℕ). z ++ rest) none)
    ]

    module _ (some : Begins second []) (n : ℕ) (fault : IsFaultLine first piece n) where
      -- where more could follow the piece nothing does
      all_there : Begins first piece → rest ≡ []
      all_there begins = elim ended [
        | inl e ↦ absurd (
            let none = e.no_longer begins.0 begins.1 begins.2 in
            fault.none begins.1 (subst (λ (z : List ℕ). first z begins.1) (ap (λ (z : List ℕ). piece ++ z) none ∙ append-nil piece) begins.2))
        | inr empty ↦ empty
      ]

      whole : rest ≡ [] → piece ++ rest ≡ piece
      whole empty = ap (λ (z : List ℕ). piece ++ z) empty ∙ append-nil piece

      -- up to the fault the lines are those of the piece
      lines_same : (k : ℕ) → k ≤ lines_in piece → first_lines k (piece ++ rest) ≡ first_lines k piece
      lines_same k few = elim (cases_lt k (lines_in piece)) [
        | inl less ↦ short_same k false piece rest less
        | inr far ↦
            let all : k ≡ lines_in piece = omega (arith, few, far) in
            elim ended [
              | inl e ↦
                  let ends : first_lines (lines_in piece) (piece ++ rest) ≡ piece =
                  subst (λ (z : List ℕ). first_lines (lines_in z) (z ++ rest) ≡ z) (sym e.whole)
                  (ap (λ (m : ℕ). first_lines m ((e.line ++ 10 ∷ []) ++ rest)) (omega arith) ∙ (ended_then false e.line rest 0 ∙ ap (λ (z : List ℕ). (e.line ++ 10 ∷ []) ++ z) (none_of rest)
                  ∙ append-nil (e.line ++ 10 ∷ []))) in
                  ap (λ (m : ℕ). first_lines m (piece ++ rest)) all ∙ ends ∙ sym (ap (λ (m : ℕ). first_lines m piece) all ∙ all_taken false piece)
              | inr empty ↦ ap (λ (z : List ℕ). first_lines k z) (whole empty)
            ]
      ]
        where
          none_of : (bytes : List ℕ) → first_lines 0 bytes ≡ []
          none_of [] = refl
          none_of (byte ∷ bytes) = refl

      carried : IsFaultLine (IsThen join first second) (piece ++ rest) n
      carried = record {
        none = λ value t.
            let only = only_piece t.front t.rest t.one t.split t.begins in
            fault.none t.one (subst (λ (z : List ℕ). first z t.one) only.0 t.begins);
        some = fault.some;
        before = elim fault.here [
          | inl h ↦
              let same = lines_same (n - 1) (let few = h.0 in omega (arith, few)) in
              subst (Begins (IsThen join first second)) (sym same) (begin_then join first second (first_lines (n - 1) piece) fault.before some)
          | inr h ↦
              let same : first_lines (n - 1) (piece ++ rest) ≡ first_lines (n - 1) piece = ap (λ (z : List ℕ). first_lines (n - 1) z) (whole (all_there h.1)) in
              subst (Begins (IsThen join first second)) (sym same) (begin_then join first second (first_lines (n - 1) piece) fault.before some)
        ];
        here = elim fault.here [
          | inl h ↦ inl (more_lines h.0, λ begins. refused h.0 h.1 (subst (Begins (IsThen join first second)) (lines_same n h.0) begins))
          | inr h ↦
              let all = whole (all_there h.1) in
              inr (h.0 ∙ ap (λ (z : List ℕ). lines_in z + 1) (sym all), subst (Begins (IsThen join first second)) (sym all) (begin_then join first second piece h.1 some))
        ];
      }
        where
          more_lines : n ≤ lines_in piece → n ≤ lines_in (piece ++ rest)
          more_lines few = elim ended [
            | inl e ↦ (
                let sum : lines_in (piece ++ rest) ≡ lines_in piece + lines_in rest =
                subst (λ (z : List ℕ). lines_in (z ++ rest) ≡ lines_in z + lines_in rest) (sym e.whole) (ended_lines false e.line rest) in
                omega (arith, few, sum))
            | inr empty ↦ (let same = ap (λ (z : List ℕ). lines_in z) (whole empty) in omega (arith, few, same))
          ]

          refused : n ≤ lines_in piece → (Begins first (first_lines n piece) → ⊥) → Begins (IsThen join first second) (first_lines n piece) → ⊥
          refused few none begins =
              let t = begins.2 in
              elim (two_fronts (first_lines n piece) begins.0 t.front t.rest t.split) [
                | inl h ↦ none (h.0, t.one, subst (λ (z : List ℕ). first z t.one) h.1 t.begins)
                | inr h ↦
                    let tail = are_front n piece in
                    let split : piece ≡ t.front ++ (h.0 ++ tail.0) = tail.1 ∙ ap (λ (z : List ℕ). z ++ tail.0) h.1 ∙ append_assoc t.front h.0 tail.0 in
                    let nothing = least t.front (h.0 ++ tail.0) t.one split t.begins in
                    let same : piece ≡ t.front = split ∙ ap (λ (z : List ℕ). t.front ++ z) nothing ∙ append-nil t.front in
                    fault.none t.one (subst (λ (z : List ℕ). first z t.one) (sym same) t.begins)
              ]

-- The bytes were cut after the first ending line, or there is none and the piece is all that there is: the line of its fault is that of the whole.
pub faults_carry : {A B : Type 0} (join : A → B → B) (first : Grammar A) (second : Grammar B) (piece rest : List ℕ) (n : ℕ) → IsLeast first piece → IsEnded first piece ⊎ (rest ≡ []) → Begins second []
    → IsFaultLine first piece n → IsFaultLine (IsThen join first second) (piece ++ rest) n
faults_carry join first second piece rest n least ended some fault = carried join first second piece rest least ended some n fault

-- Where the piece is a text, the line of the fault of what follows comes after its lines.
pub faults_follow : {A B : Type 0} (join : A → B → B) (first : Grammar A) (second : Grammar B) (piece rest : List ℕ) (value : A) (n : ℕ) → IsLeast first piece → IsEnded first piece → first piece value
    → IsFaultLine second rest n → IsFaultLine (IsThen join first second) (piece ++ rest) (lines_in piece + n)
faults_follow {A} {B} join first second piece rest value n least ended text fault = record {
  none = λ other t.
      let only = only_piece join first second piece rest least (inl ended) t.front t.rest t.one t.split t.begins in
      fault.none t.more (subst (λ (z : List ℕ). second z t.more) only.1 t.later);
  some = (let some = fault.some in omega (arith, some));
  before =
      let some = fault.some in
      let same : first_lines ((lines_in piece + n) - 1) (piece ++ rest) ≡ piece ++ first_lines (n - 1) rest =
      ap (λ (m : ℕ). first_lines m (piece ++ rest)) (omega (arith, some)) ∙ firsts (n - 1) in
      subst (Begins (IsThen join first second)) (sym same) (begun (first_lines (n - 1) rest) fault.before);
  here = elim fault.here [
    | inl h ↦ inl ((let few = h.0 in omega (arith, few, sum)), λ begins. refused (first_lines n rest) h.1 (subst (Begins (IsThen join first second)) (firsts n) begins))
    | inr h ↦ inr ((let count = h.0 in omega (arith, count, sum)), begun rest h.1)
  ];
}
  where
    firsts : (j : ℕ) → first_lines (lines_in piece + j) (piece ++ rest) ≡ piece ++ first_lines j rest
    firsts j = subst (λ (z : List ℕ). first_lines (lines_in z + j) (z ++ rest) ≡ z ++ first_lines j rest) (sym ended.whole) (ended_then false ended.line rest j)

    sum : lines_in (piece ++ rest) ≡ lines_in piece + lines_in rest
    sum = subst (λ (z : List ℕ). lines_in (z ++ rest) ≡ lines_in z + lines_in rest) (sym ended.whole) (ended_lines false ended.line rest)

    begun : (bytes : List ℕ) → Begins second bytes → Begins (IsThen join first second) (piece ++ bytes)
    begun bytes b = (b.0, join value b.1, record { one = value; more = b.1; all = refl; front = piece; rest = bytes ++ b.0; split = append_assoc piece bytes b.0; begins = text; later = b.2 })

    refused : (bytes : List ℕ) → (Begins second bytes → ⊥) → Begins (IsThen join first second) (piece ++ bytes) → ⊥
    refused bytes none begins =
        let t = begins.2 in
        let only = only_piece join first second piece (bytes ++ begins.0) least (inl ended) t.front t.rest t.one (sym (append_assoc piece bytes begins.0) ∙ t.split) t.begins in
        none (begins.0, t.more, subst (λ (z : List ℕ). second z t.more) only.1 t.later)
