-- The texts of lists: their last line, their head, and that there are some.
use Rattle.std.proofs.Common.{◌≡◌, ◌≢◌, ◌<◌, ◌≤◌, ◌-◌, ◌^◌, ℕ, zero, suc, Bool, not, eqb, List, [], ◌∷◌, ◌++◌, length, map, refl, sym, ap, ◌∙◌, inr, arith, append-nil, append_assoc}
use Rattle.std.specs.Fmt.{decimal}
use Rattle.std.specs.List.{flat_map}
use Rattle.std.specs.Prelude.{codes}
use Rattle.office_base.specs.declared.person.Person.{Person}
use Rattle.office_base.specs.declared.step.Pair.{Pair}
use Rattle.office_base.specs.declared.step.StepKind.{StepKind}
use Rattle.programme_lists.specs.declared.programme.Programme.{Programme}
use Rattle.programme_lists.specs.declared.programme.StepList.{StepList}
use Rattle.published_texts.specs.Texts.{list_head, list_step, list_text}
use Rattle.seat_matrix.specs.Matrix.{SeatTable}
use Rattle.text_readers.specs.Reading.{Begins, Grammar, HasNo}
use Rattle.text_readers.proofs.NumberLemmas.{digits-clear}
use Rattle.text_readers.proofs.PartsLemmas.{cut-one, has-no-tested, heads}
use Rattle.list_texts.specs.ListLines.{CanStand, IsLineThen, IsListEnd, IsListHead, IsStepHead, Said, entry_words, honoured_text, honoured_words, last_words, lines_text, list_words, most_slots, rows_text, slots_in, step_list, step_text, step_words, steps_text, with_step}
use Rattle.list_texts.specs.ListReader.{AreKnown}
use Rattle.list_texts.specs.Listing.{AreStepLists, Entry, IsListText, pair_of, step_kinds}
use Rattle.list_texts.specs.declared.lists.ListRead.{ListRead}
use Rattle.list_texts.proofs.FollowLemmas.{slots-few}
use Rattle.list_texts.proofs.FreeLemmas.{found-small}
use Rattle.list_texts.proofs.ListTexts.{list-lines', head-lines}
use Rattle.list_texts.proofs.StageLines.{entry-clear}
use Rattle.list_texts.proofs.WordLemmas.{honoured-clear, list-clear, list-one, step-head-clear}
use Rattle.dossier_file.specs.Papers.{IsListAt, IsListOf}
use Rattle.dossier_file.specs.Texts.{joined}
use Rattle.dossier_file.proofs.EndLemmas.{EndsOnce, line-first}
use Rattle.dossier_file.proofs.HeadLemmas.{IsHead, IsHeaded}

-- ---- the last line

-- the last line of a list
abbrev last_line : List ℕ
last_line = codes "end list"

-- a line that is not the last one, and what follows it
then-once : {P V : Type 0} (words : P → List ℕ) (can : P → Type 0) (next : P → Grammar V) → ((p : P) → can p → HasNo 10 (words p)) → ((p : P) → can p → words p ≢ last_line) → ((p : P) → can p → EndsOnce last_line (next p))
    → EndsOnce last_line (IsLineThen words can next)
then-once words can next clear other later text value is =
    let own = later is.part is.may is.rest value is.later in
    record {
      lines = words is.part ∷ own.lines;
      others = ((clear is.part is.may, other is.part is.may), own.others);
      whole = is.same ∙ ap (λ (z : List ℕ). words is.part ++ 10 ∷ z) own.whole ∙ sym (line-first (words is.part) (joined own.lines) (last_line ++ 10 ∷ []));
    }

end-once : (said : Said) → EndsOnce last_line (IsLineThen last_words (λ _. Unit {0}) (λ _. IsListEnd said))
end-once said text value is = record {
  lines = [];
  others = tt;
  whole = is.same ∙ ap (λ (z : List ℕ). last_line ++ 10 ∷ z) is.later.empty;
}

-- a number and more is not the last line
number-other : (number rest : List ℕ) → HasNo 101 number → number ++ 32 ∷ rest ≢ last_line
number-other [] rest none e = (let first = heads 32 101 _ _ e in omega (arith, first))
number-other (digit ∷ number) rest none e = none.0 (heads digit 101 _ _ e)

module _ (table : SeatTable) (people : List Person) (known : AreKnown table people) where
  entry-other : (left slots : ℕ) (admitted : List Person) (entry : Entry) → CanStand people admitted left slots entry → entry_words entry ≢ last_line
  entry-other left slots admitted entry may =
      let small = found-small people entry.0 known.small may.is.known in
      number-other (decimal entry.0.id.0) _ (digits-clear 101 entry.0.id.0 (omega (arith, small)) refl)

  rows-once : (after : List Person → List Pair → Grammar Said) → ((admitted : List Person) (pairs : List Pair) → EndsOnce last_line (after admitted pairs)) → (rows slots : ℕ) (admitted : List Person) (pairs : List Pair)
      → EndsOnce last_line (rows_text people after rows slots admitted pairs)
  rows-once after all zero slots admitted pairs = all admitted pairs
  rows-once after all (suc left) slots admitted pairs =
      then-once entry_words (CanStand people admitted left slots) (λ entry. rows_text people after left (slots - slots_in entry.1) (admitted ++ entry.0 ∷ []) (pairs ++ pair_of entry.0 entry.1))
      (entry-clear table people known left slots admitted) (entry-other left slots admitted)
      (λ entry may. rows-once after all left (slots - slots_in entry.1) (admitted ++ entry.0 ∷ []) (pairs ++ pair_of entry.0 entry.1))

  step-once : (kind : StepKind) (after : StepList → Grammar Said) → ((list : StepList) → EndsOnce last_line (after list)) → EndsOnce last_line (step_text people kind after)
  step-once kind after all =
      then-once (step_words kind) (IsStepHead (length people)) (λ part. honoured_text people (λ admitted pairs. after (step_list kind part.0 part.1 admitted pairs)) kind part.2)
      (step-head-clear kind (length people) (omega (arith, known.few))) (λ part may e. let first = heads 115 101 _ _ e in omega (arith, first))
      (λ part may.
      let fits : most_slots kind part.2 < 2 ^ 32 = omega (arith, slots-few kind part.2 (most_slots kind part.2) (omega arith), may.2, known.few) in
      then-once honoured_words (λ slots. slots ≤ most_slots kind part.2) (λ slots. rows_text people (λ admitted pairs. after (step_list kind part.0 part.1 admitted pairs)) part.2 slots [] [])
      (honoured-clear (most_slots kind part.2) fits) (λ slots few e. let first = heads 104 101 _ _ e in omega (arith, first))
      (λ slots few. rows-once (λ admitted pairs. after (step_list kind part.0 part.1 admitted pairs)) (λ admitted pairs. all (step_list kind part.0 part.1 admitted pairs)) part.2 slots [] []))

  steps-once : (kinds : List StepKind) (said : Said) → EndsOnce last_line (steps_text people kinds said)
  steps-once [] said = end-once said
  steps-once (kind ∷ kinds) said = step-once kind (λ list. steps_text people kinds (with_step said list)) (λ list. steps-once kinds (with_step said list))

  lines-once : EndsOnce last_line (lines_text table people)
  lines-once =
      then-once (list_words table) (IsListHead table) (λ part. steps_text people step_kinds (part.0, part.1, [])) (list-clear table known.spelled)
      (λ part may e. let first = heads 108 101 _ _ e in omega (arith, first)) (λ part may. steps-once step_kinds (part.0, part.1, []))

  -- the text of a list has its last line once
  pub list-once : EndsOnce (codes "end list") (IsListText table people)
  list-once text read is = lines-once text (read.round, read.prog.0, read.programme.steps) (list-lines' table people text read known.rising is)

-- ---- the head

-- another byte than LF
not-lf : ℕ → Bool
not-lf byte = not (eqb byte 10)

pub end-list-clear : HasNo 10 (codes "end list")
unfolding not-lf
end-list-clear = has-no-tested not-lf 10 (codes "end list") refl refl

module _ (table : SeatTable) (people : List Person) (known : AreKnown table people) (number prog : ℕ) (small : number < 2 ^ 16) (within : prog < length table.programmes) where
  pub list-is-head : IsHead (list_head table number prog)
  list-is-head = inr (list_words table (number, prog), sym (append-nil (list_head table number prog)) ∙ head-lines table number prog [], list-clear table known.spelled (number, prog) (small, within))

  pub list-headed : IsHeaded (list_head table number prog) (IsListText table people) (IsListAt number prog)
  list-headed = record {
    back = λ tail read is.
        let body = flat_map list_step read.programme.steps ++ codes "end list\n" in
        let same : list_words table (number, prog) ++ 10 ∷ tail ≡ list_words table (read.round, read.prog.0) ++ 10 ∷ body =
        sym (head-lines table number prog tail) ∙ (is.same ∙ (append_assoc (list_head table read.round read.prog.0) (flat_map list_step read.programme.steps) (codes "end list\n") ∙ head-lines table read.round read.prog.0 body)) in
        let words = (cut-one 10 (list_words table (number, prog)) (list_words table (read.round, read.prog.0)) tail body (list-clear table known.spelled (number, prog) (small, within))
        (list-clear table known.spelled (read.round, read.prog.0) (is.number, is.programme)) same).0 in
        let parts = list-one table known.codes (number, prog) (read.round, read.prog.0) (small, within) (is.number, is.programme) words in
        (ap (λ (z : ℕ × ℕ). z.0) (sym parts), ap (λ (z : ℕ × ℕ). z.1) (sym parts));
    starts = λ text read is own.
        let body = flat_map list_step read.programme.steps ++ codes "end list\n" in (
          body,
          is.same ∙ (append_assoc (list_head table read.round read.prog.0) (flat_map list_step read.programme.steps) (codes "end list\n")
              ∙ (ap (λ (n : ℕ). list_head table n read.prog.0 ++ body) own.0 ∙ ap (λ (n : ℕ). list_head table number n ++ body) own.1)),
        );
  }

-- ---- some text

-- a step without people
abbrev empty_step : StepKind → StepList
empty_step kind = step_list kind 0 0 [] []

empty-steps : (people : List Person) (kinds : List StepKind) → AreStepLists people kinds (map empty_step kinds)
empty-steps people [] = tt
empty-steps people (kind ∷ kinds) = (
  record {
    named = refl;
    seats = omega arith;
    candidates = omega arith;
    entries = [];
    are = tt;
    admitted = refl;
    pairs = refl;
    none = λ last. refl;
  },
  empty-steps people kinds,
)

pub list-some : (table : SeatTable) (people : List Person) (number prog : ℕ) → number < 2 ^ 16 → prog < length table.programmes → Begins (IsListOf table people number prog) []
list-some table people number prog small within =
    let programme : Programme = record { steps = map empty_step step_kinds } in
    let read : ListRead = record { round = number; prog = record { 0 = prog }; programme = programme } in
    (list_text table number prog programme, read, (record { number = small; programme = within; steps = empty-steps people step_kinds; same = refl }, (refl, refl)))
