-- The first line of a text of rows, and what follows it.
use Rattle.std.proofs.Common.{◌≡◌, ◌<◌, ◌≤◌, ◌^◌, ℕ, Bool, not, eqb, List, [], ◌∷◌, ◌++◌, length, refl, sym, ap, subst, ◌∙◌, arith, append_assoc}
use Rattle.std.proofs.lemmas.Fmt.{decimal_injective}
use Rattle.std.proofs.lemmas.List.{append_cancel_left}
use Rattle.std.specs.Fmt.{decimal}
use Rattle.std.specs.Prelude.{codes}
use Rattle.office_base.specs.declared.person.Person.{Person}
use Rattle.seat_matrix.specs.Matrix.{SeatTable}
use Rattle.text_readers.specs.Reading.{Begins, EndsWithLines, HasNo, IsRefused, Leads}
use Rattle.text_readers.proofs.NumberLemmas.{digits-clear}
use Rattle.text_readers.proofs.PartsLemmas.{cut-one, has-no-append, has-no-tested, has-one}
use Rattle.text_readers.proofs.PieceLemmas.{prefix-line, prefix-more}
use Rattle.publish.specs.Pieces.{BeginsHead}
use Rattle.publish.specs.Rows.{AreRows, CanGoOn, IsNumber, IsRest, IsRowsText, Read, head_words, tail_text}
use Rattle.publish.specs.declared.sort.Sort.{Sort}
use Rattle.publish.specs.declared.sort.Sort.TheVariants.{Round, Final}
use Rattle.publish.proofs.TailLemmas.{can-tail, rows-can}

-- another byte than LF
not-lf : ℕ → Bool
not-lf byte = not (eqb byte 10)

pub round-clear : HasNo 10 (codes "round ")
unfolding not-lf
round-clear = has-no-tested not-lf 10 (codes "round ") refl refl

seated-clear : HasNo 10 (codes "seated ")
unfolding not-lf
seated-clear = has-no-tested not-lf 10 (codes "seated ") refl refl

pub final-clear : HasNo 10 (codes "final ")
unfolding not-lf
final-clear = has-no-tested not-lf 10 (codes "final ") refl refl

pub head-clear : (sort : Sort) (known number count : ℕ) → known < 2 ^ 16 → count < 2 ^ 32 → IsNumber sort known number → HasNo 10 (head_words sort number count)
head-clear Round known number count fits small is =
    has-no-append 10 (codes "round ") (decimal number ++ 32 ∷ (codes "seated " ++ decimal count)) round-clear
    (has-no-append 10 (decimal number) (32 ∷ (codes "seated " ++ decimal count)) (digits-clear 10 number (omega (arith, is)) refl)
    (λ same. absurd (omega (arith, same)), has-no-append 10 (codes "seated ") (decimal count) seated-clear (digits-clear 10 count (omega (arith, small)) refl)))
head-clear Final known number count fits small is =
    has-no-append 10 (codes "final ") (decimal count) final-clear (digits-clear 10 count (omega (arith, small)) refl)

-- one line spells one number and one count
pub head-one : (sort : Sort) (known number count other next : ℕ) → known < 2 ^ 16 → count < 2 ^ 32 → next < 2 ^ 32 → IsNumber sort known number → IsNumber sort known other
    → head_words sort number count ≡ head_words sort other next → (number ≡ other) × (count ≡ next)
head-one Round known number count other next fits small below is too e =
    let rest = append_cancel_left (codes "round ") (decimal number ++ 32 ∷ (codes "seated " ++ decimal count)) (decimal other ++ 32 ∷ (codes "seated " ++ decimal next)) e in
    let (first, last) = cut-one 32 (decimal number) (decimal other) (codes "seated " ++ decimal count) (codes "seated " ++ decimal next)
    (digits-clear 32 number (omega (arith, is)) refl) (digits-clear 32 other (omega (arith, too)) refl) rest in (
      decimal_injective number other (omega (arith, is)) (omega (arith, too)) first,
      decimal_injective count next (omega (arith, small)) (omega (arith, below)) (append_cancel_left (codes "seated ") (decimal count) (decimal next) last),
    )
head-one Final known number count other next fits small below is too e =
    (is ∙ sym too, decimal_injective count next (omega (arith, small)) (omega (arith, below)) (append_cancel_left (codes "final ") (decimal count) (decimal next) e))

module _ (sort : Sort) (table : SeatTable) (people : List Person) (known : ℕ) (fits : known < 2 ^ 16) (few : length people < 2 ^ 32) where
  -- where a text begins with a whole line, it is a first line, and what follows it are the rows
  first-line : (line rest : List ℕ) (read : Read) → HasNo 10 line → IsRowsText sort table people known (line ++ 10 ∷ rest) read
      → (line ≡ head_words sort read.0 (length read.1)) × (rest ≡ tail_text sort table read.1) × CanGoOn table people (length read.1)
  first-line line rest read none is =
      let can = rows-can table people read.0 (length read.1) read.1 is.rows refl in
      let (same, after) = cut-one 10 line (head_words sort read.0 (length read.1)) rest (tail_text sort table read.1) none
      (head-clear sort known read.0 (length read.1) fits (omega (arith, can.few, few)) is.number) is.same in
      (same, after, can)

  pub first-refused : (line : List ℕ) → HasNo 10 line → ((number count : ℕ) → IsNumber sort known number → count < 2 ^ 32 → line ≡ head_words sort number count → ⊥)
      → IsRefused (IsRowsText sort table people known) line
  first-refused line none never rest read is =
      let (same, after, can) = first-line line rest read none is in
      never read.0 (length read.1) is.number (omega (arith, can.few, few)) same

  module _ (line : List ℕ) (none : HasNo 10 line) (number count : ℕ) (numbered : IsNumber sort known number) (small : count < 2 ^ 32) (is-line : line ≡ head_words sort number count) where
    -- too many
    pub many-refused : (CanGoOn table people count → ⊥) → IsRefused (IsRowsText sort table people known) line
    many-refused never rest read is =
        let (same, after, can) = first-line line rest read none is in
        let one = head-one sort known number count read.0 (length read.1) fits small (omega (arith, can.few, few)) numbered is.number (sym is-line ∙ same) in
        never (subst (CanGoOn table people) (sym one.1) can)

    pub first-leads : CanGoOn table people count → Leads (IsRowsText sort table people known) (IsRest sort table people number count []) line
    first-leads can = record {
      back = λ rest read is. record {
        rows = subst (λ z. AreRows table people z read.1) (sym is.numbered) (subst (AreRows table people number) (sym is.all) is.tail.are);
        number = subst (IsNumber sort known) (sym is.numbered) numbered;
        same = ap (λ z. line ++ 10 ∷ z) (is.tail.same ∙ ap (tail_text sort table) (sym is.all))
            ∙ ap (λ z. z ++ 10 ∷ tail_text sort table read.1) (is-line ∙ ap (λ z. head_words sort z count) (sym is.numbered) ∙ ap (head_words sort read.0) (sym is.tail.count ∙ ap length (sym is.all)));
      };
      on = λ rest read is.
          let (same, after, can') = first-line line rest read none is in
          let one = head-one sort known number count read.0 (length read.1) fits small (omega (arith, can'.few, few)) numbered is.number (sym is-line ∙ same) in (
            read,
            record {
              numbered = sym one.0;
              later = read.1;
              all = refl;
              tail = record { are = subst (λ z. AreRows table people z read.1) (sym one.0) is.rows; count = sym one.1; same = after };
            },
          );
      some =
          let (text, later, tail) = can-tail sort table people number count can in
          (text, (number, later), record { numbered = refl; later = later; all = refl; tail = tail });
    }

  -- ---- pieces

  pub head-begins : (most : ℕ) (piece : List ℕ) → ((count : ℕ) → count ≤ most → CanGoOn table people count) → BeginsHead sort known most piece → Begins (IsRowsText sort table people known) piece
  head-begins most piece can b =
      let (text, later, tail) = can-tail sort table people b.number b.count (can b.count b.within) in
      let (more, is) = prefix-more piece (head_words sort b.number b.count ++ 10 ∷ []) b.begins in (
        more ++ tail_text sort table later,
        (b.number, later),
        record {
          rows = tail.are;
          number = b.numbered;
          same = sym (append_assoc piece more (tail_text sort table later)) ∙ ap (λ z. z ++ tail_text sort table later) (sym is)
              ∙ append_assoc (head_words sort b.number b.count) (10 ∷ []) (tail_text sort table later) ∙ ap (λ z. head_words sort b.number z ++ 10 ∷ tail_text sort table later) (sym tail.count);
        },
      )

  pub begins-head : (most : ℕ) (piece : List ℕ) → ((count : ℕ) → CanGoOn table people count → count ≤ most) → HasNo 10 piece → Begins (IsRowsText sort table people known) piece → BeginsHead sort known most piece
  begins-head most piece can none (more, read, is) = record {
    number = read.0;
    count = length read.1;
    numbered = is.number;
    within = can (length read.1) (rows-can table people read.0 (length read.1) read.1 is.rows refl);
    begins = prefix-line 10 piece more (head_words sort read.0 (length read.1)) (tail_text sort table read.1) none is.same [];
  }

  pub head-lines : (piece : List ℕ) → HasNo 10 piece → EndsWithLines (IsRowsText sort table people known) piece
  head-lines piece none read is = has-one 10 (head_words sort read.0 (length read.1)) (tail_text sort table read.1) (subst (HasNo 10) is.same none)
