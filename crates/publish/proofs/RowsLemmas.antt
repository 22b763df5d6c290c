-- A line among the rows of a text, and what follows it.
use Rattle.std.proofs.Common.{◌≡◌, ◌<◌, ◌≤◌, ◌+◌, ◌^◌, inl, inr, ℕ, Bool, true, not, eqb, List, [], ◌∷◌, ◌++◌, Some, None, is_some, length, drop, get_or, refl, sym, ap, subst, ◌∙◌, arith, append_assoc}
use Rattle.std.proofs.lemmas.Bool.{false≢true}
use Rattle.std.proofs.lemmas.List.{append-nil}
use Rattle.std.specs.Fmt.{decimal}
use Rattle.std.specs.List.{flat_map}
use Rattle.std.specs.Option.{unwrap_or}
use Rattle.kept_rows.specs.declared.rows.AllotRow.{AllotRow}
use Rattle.office_base.specs.Lists.{IsSublist}
use Rattle.office_base.specs.declared.person.Person.{Person}
use Rattle.office_base.specs.declared.seat.SeatKind.{SeatKind}
use Rattle.published_texts.specs.Texts.{code_in}
use Rattle.seat_matrix.specs.Matrix.{SeatTable}
use Rattle.step_lines.specs.Lines.{seat_kind_name}
use Rattle.text_readers.specs.Parts.{AreSmall, AreSpelled, is_prefix}
use Rattle.text_readers.specs.Reading.{Begins, EndsWithLines, HasNo, IsRefused, Leads}
use Rattle.text_readers.proofs.PartsLemmas.{cut-one, has-no-tested, has-one}
use Rattle.text_readers.proofs.PieceLemmas.{prefix-line, prefix-more}
use Rattle.publish.specs.Pieces.{BeginsRows}
use Rattle.publish.specs.Rows.{AreRows, IsEnd, IsNoRow, IsRest, IsRow, IsTail, Read, ending, people_after, row_line, row_words, tail_text, word}
use Rattle.publish.specs.declared.sort.Sort.{Sort}
use Rattle.publish.specs.declared.sort.Sort.TheVariants.{Round, Final}
use Rattle.publish.proofs.RowLemmas.{row-clear, row-one}
use Rattle.publish.proofs.TailLemmas.{IsFirstRow, can-tail, first-row, ids, cands, made, row-before, rows-can, sub-nothing, sub-short, tail-more, ids-length, cands-length}

-- ---- words and endings

-- another byte than LF
not-lf : ℕ → Bool
not-lf byte = not (eqb byte 10)

pub word-clear : (sort : Sort) → HasNo 10 (word sort)
unfolding not-lf
word-clear Round = has-no-tested not-lf 10 (word Round) refl refl
word-clear Final = has-no-tested not-lf 10 (word Final) refl refl

pub ending-clear : (sort : Sort) → HasNo 10 (ending sort)
unfolding not-lf
ending-clear Round = has-no-tested not-lf 10 (ending Round) refl refl
ending-clear Final = has-no-tested not-lf 10 (ending Final) refl refl

-- rows of which there are none
empty-later : (sort : Sort) (table : SeatTable) (text : List ℕ) (later : List AllotRow) → length later ≡ 0 → text ≡ tail_text sort table later → (later ≡ []) × (text ≡ ending sort ++ 10 ∷ [])
empty-later sort table text [] e is = (refl, is)
empty-later sort table text (row ∷ later) e is = absurd (omega (arith, e))

-- the line of a row with its end
pub row-assoc : (word : List ℕ) (table : SeatTable) (id prog : ℕ) (step : SeatKind)
    → row_words word table id prog step ++ 10 ∷ [] ≡ word ++ (decimal id ++ 32 ∷ (code_in table prog ++ 32 ∷ (seat_kind_name step ++ 10 ∷ [])))
row-assoc word table id prog step =
    append_assoc word (decimal id ++ 32 ∷ (code_in table prog ++ 32 ∷ seat_kind_name step)) (10 ∷ [])
    ∙ ap (λ z. word ++ z) (append_assoc (decimal id) (32 ∷ (code_in table prog ++ 32 ∷ seat_kind_name step)) (10 ∷ [])
    ∙ ap (λ z. decimal id ++ 32 ∷ z) (append_assoc (code_in table prog) (32 ∷ seat_kind_name step) (10 ∷ [])))

-- Rows whose text begins with a piece.
record HasPiece (sort : Sort) (table : SeatTable) (people : List Person) (number left : ℕ) (piece : List ℕ) : Type 0 where
  later : List AllotRow
  rows : AreRows table people number later
  count : length later ≡ left
  more : List ℕ
  text : tail_text sort table later ≡ piece ++ more

piece-rows : (sort : Sort) (table : SeatTable) (number left n : ℕ) (piece : List ℕ) → left ≡ n + 1 → (people : List Person) → BeginsRows (word sort) table left people piece → HasPiece sort table people number left piece
piece-rows sort table number left n piece e [] begins = absurd begins
piece-rows sort table number left n piece e (p ∷ people) (inl (enough, b)) =
    let (later, are, count) = made table people number n (record { few = omega (arith, e, enough); some = λ _. omega (arith, b.within) }) in
    let row : AllotRow = record { round = number; cand = p.id; prog = record { 0 = b.prog }; step = b.step } in
    let words = row_words (word sort) table p.id.0 b.prog b.step in
    let (more, is) = prefix-more piece (words ++ 10 ∷ []) (ap (is_prefix piece) (row-assoc (word sort) table p.id.0 b.prog b.step) ∙ b.begins) in
    record {
      later = row ∷ later;
      rows = record { order = inr (cands later, refl, are.order); known = ((b.within, refl), are.known) };
      count = omega (arith, e, count);
      more = more ++ tail_text sort table later;
      text = tail-more sort table row later ∙ sym (append_assoc words (10 ∷ []) (tail_text sort table later)) ∙ ap (λ z. z ++ tail_text sort table later) is
          ∙ append_assoc piece more (tail_text sort table later);
    }
piece-rows sort table number left n piece e (p ∷ people) (inr begins) =
    let has = piece-rows sort table number left n piece e people begins in
    record {
      later = has.later;
      rows = record { order = inl has.rows.order; known = has.rows.known };
      count = has.count;
      more = has.more;
      text = has.text;
    }

rows-piece : (word : List ℕ) (table : SeatTable) (left : ℕ) (piece : List ℕ) (row : AllotRow) (later : List AllotRow) → left ≡ length later + 1 → row.prog.0 < length table.programmes
    → is_prefix piece (row_words word table row.cand.0 row.prog.0 row.step ++ 10 ∷ []) ≡ true
    → (people : List Person) → IsSublist (row.cand.0 ∷ cands later) (ids people) → BeginsRows word table left people piece
rows-piece word table left piece row later e within begins [] order = absurd (omega (arith, ap length order))
rows-piece word table left piece row later e within begins (p ∷ people) (inl order) = inr (rows-piece word table left piece row later e within begins people order)
rows-piece word table left piece row later e within begins (p ∷ people) (inr (rest, same, order)) =
    let id : row.cand.0 ≡ p.id.0 = ap (λ (z : List ℕ). get_or z 0 0) same in
    let all : cands later ≡ rest = ap (λ (z : List ℕ). drop 1 z) same in
    inl (
      omega (arith, e, sub-short rest (ids people) order, ids-length people, cands-length later, ap length all),
      record {
        prog = row.prog.0;
        step = row.step;
        within = within;
        begins = subst (λ z. is_prefix piece (word ++ (decimal z ++ 32 ∷ (code_in table row.prog.0 ++ 32 ∷ (seat_kind_name row.step ++ 10 ∷ [])))) ≡ true) id
            (ap (is_prefix piece) (sym (row-assoc word table row.cand.0 row.prog.0 row.step)) ∙ begins);
      },
    )

module _ (sort : Sort) (table : SeatTable) (people : List Person) (number : ℕ) (rows : List AllotRow) (spelled : AreSpelled table) (small : AreSmall people) where
  -- ---- a row

  module _ (left n : ℕ) (more : left ≡ n + 1) (line : List ℕ) (none : HasNo 10 line) where
    -- where a text goes on with the line, it is a row of one of the people, and what follows it completes the text
    line-row : (rest : List ℕ) (read : Read) → IsRest sort table people number left rows (line ++ 10 ∷ rest) read
        → (row : AllotRow) × (later : List AllotRow) × (next : List Person) × IsFirstRow sort table people number n (line ++ 10 ∷ rest) row later next
        × IsRow (word sort) table line row.cand.0 row.prog.0 row.step × (rest ≡ tail_text sort table later)
    line-row rest read is =
        let (row, later, next, first) = first-row sort table people number left n (line ++ 10 ∷ rest) is.later small more is.tail in
        let (same, after) = cut-one 10 line (row_words (word sort) table row.cand.0 row.prog.0 row.step) rest (tail_text sort table later) none
        (row-clear (word sort) table row.cand.0 row.prog.0 row.step (word-clear sort) spelled first.small first.within) first.same in
        (row, later, next, first, record { same = same; within = first.within }, after)

    -- a line that is no row is refused
    pub row-refused : IsNoRow (word sort) table line → IsRefused (IsRest sort table people number left rows) line
    row-refused never rest read is =
        let (row, later, next, first, row-is, after) = line-row rest read is in
        never row.cand.0 row.prog.0 row.step first.small row-is

    module _ (cand prog : ℕ) (step : SeatKind) (fits : cand < 2 ^ 32) (row-is : IsRow (word sort) table line cand prog step) where
      -- one whose candidate is none of the people too
      pub cand-refused : people_after cand people ≡ None → IsRefused (IsRest sort table people number left rows) line
      cand-refused gone rest read is =
          let (row, later, next, first, other, after) = line-row rest read is in
          let same = row-one (word sort) table line cand prog step row.cand.0 row.prog.0 row.step spelled fits first.small row-is other in
          false≢true (ap is_some (sym gone ∙ ap (λ z. people_after z people) same ∙ first.after))

      module _ (next : List Person) (found : people_after cand people ≡ Some next) where
        next-is : (row : AllotRow) (after : List Person) → row.cand.0 < 2 ^ 32 → IsRow (word sort) table line row.cand.0 row.prog.0 row.step → people_after row.cand.0 people ≡ Some after → after ≡ next
        next-is row after small' other there =
            let same = row-one (word sort) table line cand prog step row.cand.0 row.prog.0 row.step spelled fits small' row-is other in
            ap (λ o. unwrap_or o next) (sym there ∙ ap (λ z. people_after z people) (sym same) ∙ found)

        -- and one after whose candidate there are too few
        pub few-refused : length next < n → IsRefused (IsRest sort table people number left rows) line
        few-refused few rest read is =
            let (row, later, next', first, other, after) = line-row rest read is in
            let same = next-is row next' first.small other first.after in
            let can = rows-can table next' number n later first.tail.are first.tail.count in
            absurd (omega (arith, few, can.few, ap length same))

        -- else it leads on
        pub row-leads : n ≤ length next
            → Leads (IsRest sort table people number left rows) (IsRest sort table next number n (rows ++ record { round = number; cand = record { 0 = cand }; prog = record { 0 = prog }; step = step } ∷ [])) line
        row-leads enough =
            let row : AllotRow = record { round = number; cand = record { 0 = cand }; prog = record { 0 = prog }; step = step } in
            record {
              back = λ rest read is. record {
                numbered = is.numbered;
                later = row ∷ is.later;
                all = is.all ∙ append_assoc rows (row ∷ []) is.later;
                tail = subst (λ z. IsTail sort table people number left (z ++ 10 ∷ rest) (row ∷ is.later)) (sym row-is.same)
                    (row-before sort table people next number left n rest row is.later more row-is.within refl found is.tail);
              };
              on = λ rest read is.
                  let (first-is, later, next', first, other, after) = line-row rest read is in
                  let same = next-is first-is next' first.small other first.after in (
                    (number, (rows ++ row ∷ []) ++ later),
                    record {
                      numbered = refl;
                      later = later;
                      all = refl;
                      tail = subst (λ z. IsTail sort table next number n z later) (sym after) (subst (λ z. IsTail sort table z number n (tail_text sort table later) later) same first.tail);
                    },
                  );
              some =
                  let (text, later, tail) = can-tail sort table next number n (record { few = enough; some = λ _. omega (arith, row-is.within) }) in
                  (text, (number, (rows ++ row ∷ []) ++ later), record { numbered = refl; later = later; all = refl; tail = tail });
            }

  -- ---- the last line

  -- where no row is to come, the rows are all
  no-later : (text : List ℕ) (read : Read) (is : IsRest sort table people number 0 rows text read) → (is.later ≡ []) × (text ≡ ending sort ++ 10 ∷ [])
  no-later text read is = empty-later sort table text is.later is.tail.count is.tail.same

  pub end-leads : (line : List ℕ) → line ≡ ending sort → Leads (IsRest sort table people number 0 rows) (IsEnd number rows) line
  end-leads line e = record {
    back = λ rest read is. record {
      numbered = is.numbered;
      later = [];
      all = is.all ∙ sym (append-nil rows);
      tail = record { are = record { order = sub-nothing (ids people); known = tt }; count = refl; same = ap (λ z. z ++ 10 ∷ rest) e ∙ ap (λ z. ending sort ++ 10 ∷ z) is.empty };
    };
    on = λ rest read is.
        let text = (no-later (line ++ 10 ∷ rest) read is).1 in
        ((number, rows), record { numbered = refl; all = refl; empty = (cut-one 10 line (ending sort) rest [] (subst (HasNo 10) (sym e) (ending-clear sort)) (ending-clear sort) text).1 });
    some = ([], (number, rows), record { numbered = refl; all = refl; empty = refl });
  }

  pub end-refused : (line : List ℕ) → HasNo 10 line → (line ≡ ending sort → ⊥) → IsRefused (IsRest sort table people number 0 rows) line
  end-refused line none other rest read is =
      other (cut-one 10 line (ending sort) rest [] none (ending-clear sort) (no-later (line ++ 10 ∷ rest) read is).1).0

  -- ---- pieces

  pub end-begins : (piece : List ℕ) → is_prefix piece (ending sort ++ 10 ∷ []) ≡ true → Begins (IsRest sort table people number 0 rows) piece
  end-begins piece e =
      let (more, is) = prefix-more piece (ending sort ++ 10 ∷ []) e in (
        more,
        (number, rows),
        record {
          numbered = refl;
          later = [];
          all = sym (append-nil rows);
          tail = record { are = record { order = sub-nothing (ids people); known = tt }; count = refl; same = sym is };
        },
      )

  pub begins-end : (piece : List ℕ) → HasNo 10 piece → Begins (IsRest sort table people number 0 rows) piece → is_prefix piece (ending sort ++ 10 ∷ []) ≡ true
  begins-end piece none (more, read, is) = prefix-line 10 piece more (ending sort) [] none (no-later (piece ++ more) read is).1 []

  pub rows-begin : (left n : ℕ) (piece : List ℕ) → left ≡ n + 1 → BeginsRows (word sort) table left people piece → Begins (IsRest sort table people number left rows) piece
  rows-begin left n piece e begins =
      let has = piece-rows sort table number left n piece e people begins in (
        has.more,
        (number, rows ++ has.later),
        record {
          numbered = refl;
          later = has.later;
          all = refl;
          tail = record { are = has.rows; count = has.count; same = sym has.text };
        },
      )

  begins-later : (left n : ℕ) (piece more : List ℕ) (later : List AllotRow) → left ≡ n + 1 → HasNo 10 piece → IsTail sort table people number left (piece ++ more) later → BeginsRows (word sort) table left people piece
  begins-later left n piece more [] e none tail = absurd (omega (arith, e, tail.count))
  begins-later left n piece more (row ∷ later) e none tail =
      rows-piece (word sort) table left piece row later (omega (arith, tail.count)) tail.are.known.0.0
      (prefix-line 10 piece more (row_words (word sort) table row.cand.0 row.prog.0 row.step) (tail_text sort table later) none (tail.same ∙ tail-more sort table row later) [])
      people tail.are.order

  pub begins-rows : (left n : ℕ) (piece : List ℕ) → left ≡ n + 1 → HasNo 10 piece → Begins (IsRest sort table people number left rows) piece → BeginsRows (word sort) table left people piece
  begins-rows left n piece e none (more, read, is) = begins-later left n piece more is.later e none is.tail

  -- no text ends inside a line
  pub rest-lines : (left : ℕ) (piece : List ℕ) → HasNo 10 piece → EndsWithLines (IsRest sort table people number left rows) piece
  rest-lines left piece none read is =
      has-one 10 (flat_map (row_line sort table) is.later ++ ending sort) []
      (subst (HasNo 10) (is.tail.same ∙ sym (append_assoc (flat_map (row_line sort table) is.later) (ending sort) (10 ∷ []))) none)

  pub end-lines : (piece : List ℕ) → 0 < length piece → EndsWithLines (IsEnd number rows) piece
  end-lines piece some read is = absurd (omega (arith, some, ap length is.empty))
