-- Texts one after another say one thing alone.
use Rattle.std.proofs.Common.{◌≡◌, ◌<◌, ◌+◌, ◌-◌, ◌^◌, ℕ, List, [], ◌∷◌, ◌++◌, length, sym, ap, ◌∙◌, subst, arith}
use Rattle.std.proofs.lemmas.List.{append_cancel_right}
use Rattle.std.specs.Prelude.{codes}
use Rattle.kept_rows.specs.declared.rows.AllotRow.{AllotRow}
use Rattle.office_base.specs.declared.person.Person.{Person}
use Rattle.seat_matrix.specs.Matrix.{SeatTable}
use Rattle.text_readers.specs.Reading.{Grammar, HasNo}
use Rattle.list_texts.specs.Laws.{ListsAreOne}
use Rattle.list_texts.specs.ListReader.{AreKnown}
use Rattle.publish.specs.Laws.{AreDistinct, FinalsAreOne, RoundsAreOne}
use Rattle.publish.specs.Rows.{IsFinalText}
use Rattle.publish.specs.declared.reads.FinalRead.{FinalRead}
use Rattle.publish.specs.declared.reads.RoundRead.{RoundRead}
use Rattle.dossier_file.specs.Due.{cuts_accepted, due}
use Rattle.dossier_file.specs.Laws.{TextsAreOne}
use Rattle.dossier_file.specs.Papers.{ArePapers, IsListOf, IsRoundOf, IsThen, with_final, with_list, with_round}
use Rattle.dossier_file.specs.Texts.{AreReadable}
use Rattle.dossier_file.specs.declared.due.Due.{Due}
use Rattle.dossier_file.specs.declared.due.Due.TheVariants.{Round as RoundDue, List as ListDue, Final as FinalDue}
use Rattle.dossier_file.proofs.EndLemmas.{EndsOnce, same_rest}
use Rattle.dossier_file.proofs.ListLemmas.{end-list-clear, list-once}
use Rattle.dossier_file.proofs.RowsLemmas.{end-final-clear, end-round-clear, final-once, round-once}

-- a text of a grammar says one thing
abbrev IsOne : {A : Type 0} → Grammar A → Type 0
IsOne {A} grammar = (text : List ℕ) (a b : A) → grammar text a → grammar text b → a ≡ b

-- and so does one after another
then_one : {A B : Type 0} (join : A → B → B) (first : Grammar A) (second : Grammar B) (ending : List ℕ) → HasNo 10 ending → EndsOnce ending first → IsOne first → IsOne second → IsOne (IsThen join first second)
then_one join first second ending clear once one_first one_second text a b is its =
    let rest : is.rest ≡ its.rest = same_rest ending clear is.front its.front is.rest its.rest (once is.front is.one is.begins) (once its.front its.one its.begins) (sym is.split ∙ its.split) in
    let front : is.front ≡ its.front = append_cancel_right is.front its.front its.rest (ap (λ (z : List ℕ). is.front ++ z) (sym rest) ∙ (sym is.split ∙ its.split)) in
    let one : is.one ≡ its.one = one_first its.front is.one its.one (subst (λ (z : List ℕ). first z is.one) front is.begins) its.begins in
    let more : is.more ≡ its.more = one_second its.rest is.more its.more (subst (λ (z : List ℕ). second z is.more) rest is.later) its.later in
    is.all ∙ (ap (λ z. join z is.more) one ∙ (ap (λ z. join its.one z) more ∙ sym its.all))

module _ (rounds_one : RoundsAreOne) (lists_one : ListsAreOne) (finals_one : FinalsAreOne) (table : SeatTable) (people : List Person) (rounds : ℕ) (fits : rounds < 2 ^ 16 - 1) (readable : AreReadable table people) where
  distinct : AreDistinct table people
  distinct = record { spelled = readable.spelled; codes = readable.codes; small = readable.small; few = (let all = readable.few in omega (arith, all)) }

  few : length people < 2 ^ 32
  few = (let all = readable.few in omega (arith, all))

  known : (prog : ℕ) → prog < length table.programmes → AreKnown table people
  known prog within = record {
    some = omega (arith, within);
    spelled = readable.spelled;
    codes = readable.codes;
    small = readable.small;
    rising = readable.rising;
    few = (let all = readable.few in omega (arith, all));
  }

  one_round : (number : ℕ) → IsOne (IsRoundOf table people number)
  one_round number text a b is its =
      let both = rounds_one table people text a b distinct is.0 its.0 in
      ap (λ (n : ℕ). let r : RoundRead = record { round = n; rows = a.rows } in r) both.0 ∙ ap (λ (z : List AllotRow). let r : RoundRead = record { round = b.round; rows = z } in r) both.1

  one_list : (number prog : ℕ) → IsOne (IsListOf table people number prog)
  one_list number prog text a b is its = lists_one table people text a b (known a.prog.0 is.0.programme) is.0 its.0

  one_final : IsOne (IsFinalText table people (rounds + 1))
  one_final text a b is its = ap (λ (z : List AllotRow). let r : FinalRead = record { rows = z } in r) (finals_one table people (rounds + 1) text a b (omega (arith, fits)) distinct is its)

  once_list : (number prog : ℕ) → EndsOnce (codes "end list") (IsListOf table people number prog)
  once_list number prog text read is = list-once table people (known read.prog.0 is.0.programme) text read is.0

  papers_one : (dues : List Due) → IsOne (ArePapers table people rounds dues)
  papers_one [] text a b is its = is.1 ∙ sym its.1
  papers_one (RoundDue number ∷ dues) text a b is its =
      then_one with_round (IsRoundOf table people number) (ArePapers table people rounds dues) (codes "end round") end-round-clear (λ piece read are. round-once table people readable.spelled readable.small few piece read are.0)
      (one_round number) (papers_one dues) text a b is its
  papers_one (ListDue number prog ∷ dues) text a b is its =
      then_one with_list (IsListOf table people number prog.0) (ArePapers table people rounds dues) (codes "end list") end-list-clear (once_list number prog.0) (one_list number prog.0) (papers_one dues) text a b is its
  papers_one (FinalDue ∷ dues) text a b is its =
      then_one with_final (IsFinalText table people (rounds + 1)) (ArePapers table people rounds dues) (codes "end final") end-final-clear (final-once table people readable.spelled readable.small few (rounds + 1)) one_final (papers_one dues) text
      a b is its

pub texts_one : RoundsAreOne → ListsAreOne → FinalsAreOne → TextsAreOne
texts_one rounds_one lists_one finals_one table people rounds script text papers more fits readable is its =
    papers_one rounds_one lists_one finals_one table people rounds fits readable (due rounds (length table.programmes) (cuts_accepted rounds 0 script)) text papers more is its
