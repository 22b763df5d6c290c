-- The texts of rounds and of final admissions: their last line, their head, and that there are some.
use Rattle.std.proofs.Common.{◌≡◌, ◌≢◌, ◌<◌, ◌^◌, ℕ, Bool, not, eqb, List, [], ◌∷◌, ◌++◌, length, map, refl, sym, ap, ◌∙◌, inl, arith, append_assoc}
use Rattle.std.specs.Fmt.{decimal}
use Rattle.std.specs.List.{AllByRecursion, flat_map}
use Rattle.std.specs.Prelude.{codes}
use Rattle.kept_rows.specs.declared.rows.AllotRow.{AllotRow}
use Rattle.office_base.specs.Lists.{IsSublist}
use Rattle.office_base.specs.declared.person.Person.{Person}
use Rattle.seat_matrix.specs.Matrix.{SeatTable}
use Rattle.text_readers.specs.Parts.{AreSmall, AreSpelled}
use Rattle.text_readers.specs.Reading.{Begins, HasNo}
use Rattle.text_readers.proofs.NumberLemmas.{digits-clear}
use Rattle.text_readers.proofs.PartsLemmas.{has-no-append, has-no-tested, heads}
use Rattle.list_texts.proofs.NumberLines.{numbers-one}
use Rattle.publish.specs.Rows.{IsFinalText, IsRoundText, round_rows_text, row_words}
use Rattle.publish.specs.declared.reads.FinalRead.{FinalRead}
use Rattle.publish.specs.declared.reads.RoundRead.{RoundRead}
use Rattle.publish.proofs.HeadLemmas.{round-clear, final-clear}
use Rattle.publish.proofs.RowLemmas.{row-clear}
use Rattle.publish.proofs.TailLemmas.{cands, ids, rows-can, sub-nothing, sub-rest, sub-small}
use Rattle.publish.proofs.WholeLemmas.{text-final, text-round}
use Rattle.published_texts.specs.Texts.{final_text}
use Rattle.dossier_file.specs.Papers.{IsRoundOf}
use Rattle.dossier_file.specs.Texts.{AreOthers, joined, round_start}
use Rattle.dossier_file.proofs.EndLemmas.{EndsOnce, line-first}
use Rattle.dossier_file.proofs.HeadLemmas.{IsHead, IsHeaded}

-- ---- words

-- another byte than LF
not-lf : ℕ → Bool
not-lf byte = not (eqb byte 10)

seated-clear : HasNo 10 (codes " seated ")
unfolding not-lf
seated-clear = has-no-tested not-lf 10 (codes " seated ") refl refl

allot-clear : HasNo 10 (codes "allot ")
unfolding not-lf
allot-clear = has-no-tested not-lf 10 (codes "allot ") refl refl

admit-clear : HasNo 10 (codes "admit ")
unfolding not-lf
admit-clear = has-no-tested not-lf 10 (codes "admit ") refl refl

pub end-round-clear : HasNo 10 (codes "end round")
unfolding not-lf
end-round-clear = has-no-tested not-lf 10 (codes "end round") refl refl

pub end-final-clear : HasNo 10 (codes "end final")
unfolding not-lf
end-final-clear = has-no-tested not-lf 10 (codes "end final") refl refl

-- ---- lines

-- the line of a row that begins with this word, with its end
abbrev line_of : List ℕ → SeatTable → AllotRow → List ℕ
line_of word table row = row_words word table row.cand.0 row.prog.0 row.step ++ 10 ∷ []

-- and without it
abbrev words_of : List ℕ → SeatTable → AllotRow → List ℕ
words_of word table row = row_words word table row.cand.0 row.prog.0 row.step

rows-joined : (word : List ℕ) (table : SeatTable) (rows : List AllotRow) → flat_map (line_of word table) rows ≡ joined (map (words_of word table) rows)
rows-joined word table [] = refl
rows-joined word table (row ∷ rows) = ap (λ (z : List ℕ). line_of word table row ++ z) (rows-joined word table rows)

-- the words of the first line of a round, and of final admissions
abbrev round_words : ℕ → ℕ → List ℕ
round_words number count = codes "round " ++ (decimal number ++ 32 ∷ (codes "seated " ++ decimal count))

abbrev final_words : ℕ → List ℕ
final_words count = codes "final " ++ decimal count

round-words-clear : (number count : ℕ) → number < 2 ^ 16 → count < 2 ^ 32 → HasNo 10 (round_words number count)
round-words-clear number count small few =
    has-no-append 10 (codes "round ") (decimal number ++ (codes " seated " ++ decimal count)) round-clear
    (has-no-append 10 (decimal number) (codes " seated " ++ decimal count) (digits-clear 10 number (omega (arith, small)) refl)
    (has-no-append 10 (codes " seated ") (decimal count) seated-clear (digits-clear 10 count (omega (arith, few)) refl)))

final-words-clear : (count : ℕ) → count < 2 ^ 32 → HasNo 10 (final_words count)
final-words-clear count few = has-no-append 10 (codes "final ") (decimal count) final-clear (digits-clear 10 count (omega (arith, few)) refl)

module _ (table : SeatTable) (people : List Person) (spelled : AreSpelled table) (small : AreSmall people) (few : length people < 2 ^ 32) where
  rows-others : (word ending : List ℕ) (number : ℕ) (rows : List AllotRow) → HasNo 10 word → ((row : AllotRow) → words_of word table row ≢ ending) → IsSublist (cands rows) (ids people)
      → AllByRecursion (λ row. (row.prog.0 < length table.programmes) × (row.round ≡ number)) rows → AreOthers ending (map (words_of word table) rows)
  rows-others word ending number [] clear other sub known = tt
  rows-others word ending number (row ∷ rows) clear other sub known = (
    (row-clear word table row.cand.0 row.prog.0 row.step clear spelled (sub-small row.cand.0 (cands rows) people small sub) known.0.0, other row),
    rows-others word ending number rows clear other (sub-rest row.cand.0 (cands rows) (ids people) sub) known.1,
  )

  -- a text of a round has its last line once
  pub round-once : EndsOnce (codes "end round") (IsRoundText table people)
  round-once text read is =
      let whole = text-round table people 0 text read is in
      let can = rows-can table people read.round (length read.rows) read.rows is.rows refl in
      let count = can.few in
      let fits = is.number in
      let head = round_words read.round (length read.rows) in
      let lines = map (words_of (codes "allot ") table) read.rows in
      record {
        lines = head ∷ lines;
        others = (
          (round-words-clear read.round (length read.rows) (omega (arith, fits)) (omega (arith, count, few)), λ e. let first = heads 114 101 _ _ e in omega (arith, first)),
          rows-others (codes "allot ") (codes "end round") read.round read.rows allot-clear (λ row e. let first = heads 97 101 _ _ e in omega (arith, first)) is.rows.order is.rows.known,
        );
        whole = whole.same ∙ (ap (λ (z : List ℕ). head ++ 10 ∷ (z ++ (codes "end round" ++ 10 ∷ []))) (rows-joined (codes "allot ") table read.rows) ∙ sym (line-first head (joined lines) (codes "end round" ++ 10 ∷ [])));
      }

  -- and so has one of final admissions
  pub final-once : (known : ℕ) → EndsOnce (codes "end final") (IsFinalText table people known)
  final-once known text read is =
      let whole = text-final table people known text read is in
      let can = rows-can table people known (length read.rows) read.rows is.rows refl in
      let count = can.few in
      let head = final_words (length read.rows) in
      let lines = map (words_of (codes "admit ") table) read.rows in
      record {
        lines = head ∷ lines;
        others = (
          (final-words-clear (length read.rows) (omega (arith, count, few)), λ e. let first = heads 102 101 _ _ e in omega (arith, first)),
          rows-others (codes "admit ") (codes "end final") known read.rows admit-clear (λ row e. let first = heads 97 101 _ _ e in omega (arith, first)) is.rows.order is.rows.known,
        );
        whole = whole.same ∙ (ap (λ (z : List ℕ). head ++ 10 ∷ (z ++ (codes "end final" ++ 10 ∷ []))) (rows-joined (codes "admit ") table read.rows) ∙ sym (line-first head (joined lines) (codes "end final" ++ 10 ∷ [])));
      }

-- ---- the head of a round

pub round-head : (number : ℕ) → number < 2 ^ 16 → IsHead (round_start number)
round-head number small =
    inl (has-no-append 10 (codes "round ") (decimal number ++ codes " seated ") round-clear
    (has-no-append 10 (decimal number) (codes " seated ") (digits-clear 10 number (omega (arith, small)) refl) seated-clear))

-- a first line and what follows it
head-split : (a d s k t : List ℕ) → (a ++ (d ++ 32 ∷ (s ++ k))) ++ t ≡ (a ++ (d ++ 32 ∷ s)) ++ (k ++ t)
head-split a d s k t = simp append_assoc

start-split : (a d s t : List ℕ) → (a ++ (d ++ 32 ∷ s)) ++ t ≡ a ++ (d ++ 32 ∷ (s ++ t))
start-split a d s t = simp append_assoc

pub round-headed : (table : SeatTable) (people : List Person) (number : ℕ) → number < 2 ^ 16 → IsHeaded (round_start number) (IsRoundText table people) (λ read. read.round ≡ number)
round-headed table people number small = record {
  back = λ tail read is.
      let rows = text-round table people 0 (round_start number ++ tail) read is in
      let count = decimal (length read.rows) in
      let later = 10 ∷ (flat_map (line_of (codes "allot ") table) read.rows ++ (codes "end round" ++ 10 ∷ [])) in
      let same : codes "round " ++ (decimal number ++ 32 ∷ (codes "seated " ++ tail)) ≡ codes "round " ++ (decimal read.round ++ 32 ∷ (codes "seated " ++ (count ++ later))) =
      sym (start-split (codes "round ") (decimal number) (codes "seated ") tail) ∙ (rows.same ∙ (head-split (codes "round ") (decimal read.round) (codes "seated ") count later
      ∙ start-split (codes "round ") (decimal read.round) (codes "seated ") (count ++ later))) in
      let fits = is.number in
      sym (numbers-one (codes "round ") number read.round (codes "seated " ++ tail) (codes "seated " ++ (count ++ later)) (omega (arith, small)) (omega (arith, fits)) same).0;
  starts = λ text read is own.
      let rows = text-round table people 0 text read is in
      let count = decimal (length read.rows) in
      let later = 10 ∷ (flat_map (line_of (codes "allot ") table) read.rows ++ (codes "end round" ++ 10 ∷ [])) in (
        count ++ later,
        rows.same ∙ (head-split (codes "round ") (decimal read.round) (codes "seated ") count later ∙ ap (λ (n : ℕ). round_start n ++ (count ++ later)) own),
      );
}

-- ---- some texts

pub round-some : (table : SeatTable) (people : List Person) (number : ℕ) → number < 2 ^ 16 → Begins (IsRoundOf table people number) []
round-some table people number small =
    let read : RoundRead = record { round = number; rows = [] } in
    (round_rows_text table number [], read, (record { rows = record { order = sub-nothing (ids people); known = tt }; number = small; same = refl }, refl))

pub final-some : (table : SeatTable) (people : List Person) (known : ℕ) → Begins (IsFinalText table people known) []
final-some table people known =
    let read : FinalRead = record { rows = [] } in
    (final_text table [], read, record { rows = record { order = sub-nothing (ids people); known = tt }; same = refl })
