-- What a text that is due gives, from the bytes that were cut off for it.
use Rattle.std.proofs.Common.{◌≡◌, ◌<◌, ◌^◌, ℕ, List, ◌++◌, length, ap, ◌∙◌, subst, arith}
use Rattle.std.specs.Prelude.{codes}
use Rattle.office_base.specs.declared.person.Person.{Person}
use Rattle.published_texts.specs.Texts.{list_head}
use Rattle.text_readers.specs.Reading.{IsTextFault}
use Rattle.text_readers.specs.declared.fault.TextFault.{TextFault}
use Rattle.list_texts.specs.ListReader.{AreKnown}
use Rattle.list_texts.specs.Listing.{IsListText}
use Rattle.list_texts.specs.declared.lists.ListRead.{ListRead}
use Rattle.publish.specs.Rows.{IsFinalText, IsRoundText}
use Rattle.publish.specs.declared.reads.FinalRead.{FinalRead}
use Rattle.publish.specs.declared.reads.RoundRead.{RoundRead}
use Rattle.seat_matrix.specs.Matrix.{SeatTable}
use Rattle.dossier_file.specs.Papers.{IsListAt, IsListOf, IsRoundOf}
use Rattle.dossier_file.specs.Texts.{AreReadable, IsSplitAfter, IsFaultFrom, IsNoHead, IsReadFrom, IsTextsFault, round_start}
use Rattle.dossier_file.proofs.ListLemmas.{end-list-clear, list-headed, list-is-head, list-once, list-some}
use Rattle.dossier_file.proofs.RowsLemmas.{end-final-clear, end-round-clear, final-once, round-head, round-headed, round-once, round-some}
use Rattle.dossier_file.proofs.TakeLemmas.{headless, own_refused_as, own_taken, refused_as, taken}

module _ (table : SeatTable) (people : List Person) (readable : AreReadable table people) where
  few : length people < 2 ^ 32
  few = (let all = readable.few in omega (arith, all))

  -- ---- rounds

  module _ (number : ℕ) (small : number < 2 ^ 16) (head bytes : List ℕ) (same : head ≡ round_start number) where
    pub round_headless : (line : ℕ) → IsNoHead head bytes line → IsFaultFrom (IsRoundOf table people number) bytes line
    round_headless line lacks =
        headless (round_start number) (codes "end round") end-round-clear (IsRoundText table people) (λ read. read.round ≡ number) (round-once table people readable.spelled readable.small few)
        (round-headed table people number small) (round-head number small) (round-some table people number small) bytes line (subst (λ (z : List ℕ). IsNoHead z bytes line) same lacks)

    module _ (tail piece rest : List ℕ) (begins : bytes ≡ head ++ tail) (cut : IsSplitAfter (codes "end round") bytes piece rest) where
      pub round_taken : (read : RoundRead) → IsRoundText table people piece read → IsReadFrom (IsRoundOf table people number) bytes read rest
      round_taken read is =
          own_taken (round_start number) (codes "end round") end-round-clear (IsRoundText table people) (λ (r : RoundRead). r.round ≡ number) (round-once table people readable.spelled readable.small few)
          (round-headed table people number small) (round-head number small) (round-some table people number small) bytes piece rest tail cut (begins ∙ ap (λ (z : List ℕ). z ++ tail) same) read is

      pub round_refused : (fault : TextFault) → IsTextFault (IsRoundText table people) piece fault → IsTextsFault (IsRoundOf table people number) bytes fault
      round_refused fault is =
          own_refused_as (round_start number) (codes "end round") end-round-clear (IsRoundText table people) (λ (r : RoundRead). r.round ≡ number) (round-once table people readable.spelled readable.small few)
          (round-headed table people number small) (round-head number small) (round-some table people number small) bytes piece rest tail cut (begins ∙ ap (λ (z : List ℕ). z ++ tail) same) fault is

  -- ---- lists

  module _ (number prog : ℕ) (small : number < 2 ^ 16) (within : prog < length table.programmes) (head bytes : List ℕ) (same : head ≡ list_head table number prog) where
    known : AreKnown table people
    known = record {
      some = omega (arith, within);
      spelled = readable.spelled;
      codes = readable.codes;
      small = readable.small;
      rising = readable.rising;
      few = (let all = readable.few in omega (arith, all));
    }

    pub list_headless : (line : ℕ) → IsNoHead head bytes line → IsFaultFrom (IsListOf table people number prog) bytes line
    list_headless line lacks =
        headless (list_head table number prog) (codes "end list") end-list-clear (IsListText table people) (IsListAt number prog) (list-once table people known)
        (list-headed table people known number prog small within) (list-is-head table people known number prog small within) (list-some table people number prog small within) bytes line
        (subst (λ (z : List ℕ). IsNoHead z bytes line) same lacks)

    module _ (tail piece rest : List ℕ) (begins : bytes ≡ head ++ tail) (cut : IsSplitAfter (codes "end list") bytes piece rest) where
      pub list_taken : (read : ListRead) → IsListText table people piece read → IsReadFrom (IsListOf table people number prog) bytes read rest
      list_taken read is =
          own_taken (list_head table number prog) (codes "end list") end-list-clear (IsListText table people) (IsListAt number prog) (list-once table people known)
          (list-headed table people known number prog small within) (list-is-head table people known number prog small within) (list-some table people number prog small within) bytes piece rest tail cut
          (begins ∙ ap (λ (z : List ℕ). z ++ tail) same) read is

      pub list_refused : (fault : TextFault) → IsTextFault (IsListText table people) piece fault → IsTextsFault (IsListOf table people number prog) bytes fault
      list_refused fault is =
          own_refused_as (list_head table number prog) (codes "end list") end-list-clear (IsListText table people) (IsListAt number prog) (list-once table people known)
          (list-headed table people known number prog small within) (list-is-head table people known number prog small within) (list-some table people number prog small within) bytes piece rest tail cut
          (begins ∙ ap (λ (z : List ℕ). z ++ tail) same) fault is

  -- ---- final admissions

  module _ (number : ℕ) (bytes piece rest : List ℕ) (cut : IsSplitAfter (codes "end final") bytes piece rest) where
    pub final_taken : (read : FinalRead) → IsFinalText table people number piece read → IsReadFrom (IsFinalText table people number) bytes read rest
    final_taken read is = taken (codes "end final") end-final-clear (IsFinalText table people number) (final-once table people readable.spelled readable.small few number) bytes piece rest cut read is

    pub final_refused : (fault : TextFault) → IsTextFault (IsFinalText table people number) piece fault → IsTextsFault (IsFinalText table people number) bytes fault
    final_refused fault is = refused_as (codes "end final") end-final-clear (IsFinalText table people number) (final-once table people readable.spelled readable.small few number) bytes piece rest cut fault is
