-- Texts that are due, one after another.
use Rattle.std.proofs.Common.{◌≡◌, ◌≢◌, ◌<◌, ◌≤◌, ◌+◌, ◌-◌, ◌^◌, ℕ, zero, suc, List, [], ◌∷◌, ◌++◌, Option, Some, None, length, take, drop, false, eqb, refl, sym, ap, ◌∙◌, subst, inl, inr, arith, append_assoc, length-append}
use Rattle.std.proofs.lemmas.Bool.{false≢true}
use Rattle.std.proofs.lemmas.List.{append-nil, length-take}
use Rattle.std.specs.List.{AllByRecursion}
use Rattle.office_base.specs.declared.person.Person.{Person}
use Rattle.text_readers.specs.Reading.{Begins, Grammar, IsFaultLine, IsTextFault, first_lines, lines_in}
use Rattle.text_readers.specs.declared.fault.TextFault.{TextFault}
use Rattle.text_readers.specs.declared.fault.TextFault.TheVariants.{Line, OutOfMemory}
use Rattle.text_readers.proofs.LineLemmas.{first_lines-none}
use Rattle.list_texts.specs.declared.lists.ListRead.{ListRead}
use Rattle.publish.specs.Rows.{IsFinalText}
use Rattle.publish.specs.declared.reads.FinalRead.{FinalRead}
use Rattle.publish.specs.declared.reads.RoundRead.{RoundRead}
use Rattle.seat_matrix.specs.Matrix.{SeatTable}
use Rattle.dossier_file.specs.Due.{IsDueOf}
use Rattle.dossier_file.specs.Papers.{ArePapers, IsListOf, IsRoundOf, IsThen, no_papers, with_final, with_list, with_round}
use Rattle.dossier_file.specs.Texts.{HasRoom, IsDueFault, IsFaultFrom, IsPut, IsReadFrom, after_lines, final_after, list_after, or_else, round_after}
use Rattle.dossier_file.specs.declared.due.Due.{Due}
use Rattle.dossier_file.specs.declared.due.Due.TheVariants.{Round as RoundDue, List as ListDue, Final as FinalDue}
use Rattle.dossier_file.specs.declared.papers.Papers.{Papers}
use Rattle.dossier_file.proofs.FollowLemmas.{begin_then, faults_carry, faults_follow}
use Rattle.dossier_file.proofs.LineLemmas.{lines_short, nothing_left, one_taken, some_lines}
use Rattle.dossier_file.proofs.ListLemmas.{list-some}
use Rattle.dossier_file.proofs.RowsLemmas.{final-some, round-some}

-- the first final admissions of two
abbrev pub or_last : Option FinalRead → Option FinalRead → Option FinalRead
or_last None last = last
or_last (Some first) last = Some first

-- papers, and those after them
abbrev pub after_papers : Papers → Papers → Papers
after_papers papers later = record { rounds = papers.rounds ++ later.rounds; lists = papers.lists ++ later.lists; last = or_last papers.last later.last }

or_same : (last later : Option FinalRead) (read : FinalRead) → or_last last (Some read) ≡ or_last (or_else last read) later
or_same None later read = refl
or_same (Some first) later read = refl

round_put : (papers later : Papers) (read : RoundRead) → after_papers papers (with_round read later) ≡ after_papers (round_after papers read) later
round_put papers later read = ap (λ (z : List RoundRead). record { rounds = z; lists = papers.lists ++ later.lists; last = or_last papers.last later.last }) (sym (append_assoc papers.rounds (read ∷ []) later.rounds))

list_put : (papers later : Papers) (read : ListRead) → after_papers papers (with_list read later) ≡ after_papers (list_after papers read) later
list_put papers later read = ap (λ (z : List ListRead). record { rounds = papers.rounds ++ later.rounds; lists = z; last = or_last papers.last later.last }) (sym (append_assoc papers.lists (read ∷ []) later.lists))

final_put : (papers later : Papers) (read : FinalRead) → after_papers papers (with_final read later) ≡ after_papers (final_after papers read) later
final_put papers later read = ap (λ (z : Option FinalRead). record { rounds = papers.rounds ++ later.rounds; lists = papers.lists ++ later.lists; last = z }) (or_same papers.last later.last read)

or_none : (last : Option FinalRead) → or_last last None ≡ last
or_none None = refl
or_none (Some first) = refl

pub none_after : (papers : Papers) → after_papers papers no_papers ≡ papers
none_after papers =
    ap (λ (z : List RoundRead). record { rounds = z; lists = papers.lists ++ []; last = or_last papers.last None }) (append-nil papers.rounds)
    ∙ (ap (λ (z : List ListRead). record { rounds = papers.rounds; lists = z; last = or_last papers.last None }) (append-nil papers.lists)
    ∙ ap (λ (z : Option FinalRead). record { rounds = papers.rounds; lists = papers.lists; last = z }) (or_none papers.last))

-- a text of a grammar and then texts of another: the value, the line of what follows, and the line of the text itself
module _ {A B : Type 0} (join : A → B → B) (first : Grammar A) (second : Grammar B) (bytes : List ℕ) where
  then-value : (rest : List ℕ) (one : A) (more : B) → IsReadFrom first bytes one rest → second rest more → IsThen join first second bytes (join one more)
  then-value rest one more read later = record { front = read.piece; rest = rest; one = one; more = more; split = read.whole; all = refl; begins = read.is; later = later }

  then-fault : (rest : List ℕ) (one : A) (n : ℕ) (read : IsReadFrom first bytes one rest) → IsFaultLine second rest n → IsFaultLine (IsThen join first second) bytes (lines_in read.piece + n)
  then-fault rest one n read fault =
      subst (λ (z : List ℕ). IsFaultLine (IsThen join first second) z (lines_in read.piece + n)) (sym read.whole)
      (faults_follow join first second read.piece rest one n read.least read.ended read.is fault)

  own-fault : (n : ℕ) → IsFaultFrom first bytes n → Begins second [] → IsFaultLine (IsThen join first second) bytes n
  own-fault n from some =
      subst (λ (z : List ℕ). IsFaultLine (IsThen join first second) z n) (sym from.whole) (faults_carry join first second from.piece from.rest n from.least from.ended some from.fault)

-- the piece that was read
piece_of : {A : Type 0} (grammar : Grammar A) (bytes : List ℕ) (one : A) (rest : List ℕ) (read : IsReadFrom grammar bytes one rest) → read.piece ≡ take (length bytes - length rest) bytes
piece_of grammar bytes one rest read = cut read.piece bytes rest read.whole
  where
    front : (a b : List ℕ) → take (length a) (a ++ b) ≡ a
    front [] b = none b
      where
        none : (b : List ℕ) → take 0 b ≡ []
        none [] = refl
        none (x ∷ b) = refl
    front (x ∷ a) b = ap (λ (z : List ℕ). x ∷ z) (front a b)

    cut : (piece bytes rest : List ℕ) → bytes ≡ piece ++ rest → piece ≡ take (length bytes - length rest) bytes
    cut piece bytes rest e =
        let sum = length-append piece rest in
        let long = ap length e in
        sym (front piece rest) ∙ (ap (λ (z : List ℕ). take (length piece) z) (sym e) ∙ ap (λ (n : ℕ). take n bytes) (omega (arith, sum, long)))

-- How many lines the bytes have before the rest.
abbrev pub lines_before : List ℕ → List ℕ → ℕ
lines_before bytes rest = lines_in (take (length bytes - length rest) bytes)

module _ (table : SeatTable) (people : List Person) (rounds : ℕ) where
  -- texts that are due can be
  pub papers_some : (dues : List Due) → AllByRecursion (IsDueOf table) dues → Begins (ArePapers table people rounds dues) []
  papers_some [] good = ([], no_papers, (refl, refl))
  papers_some (RoundDue number ∷ dues) good = begin_then with_round (IsRoundOf table people number) (ArePapers table people rounds dues) [] (round-some table people number good.0) (papers_some dues good.1)
  papers_some (ListDue number prog ∷ dues) good =
      begin_then with_list (IsListOf table people number prog.0) (ArePapers table people rounds dues) [] (list-some table people number prog.0 good.0.0 good.0.1) (papers_some dues good.1)
  papers_some (FinalDue ∷ dues) good = begin_then with_final (IsFinalText table people (rounds + 1)) (ArePapers table people rounds dues) [] (final-some table people (rounds + 1)) (papers_some dues good.1)

  module _ (dues : List Due) (bytes rest : List ℕ) (before after : Papers) where
    -- what a text and those after it say
    pub put_value : (due : Due) → IsPut table people (rounds + 1) due bytes rest before after → (later : Papers) → ArePapers table people rounds dues rest later
        → (all : Papers) × ArePapers table people rounds (due ∷ dues) bytes all × (after_papers before all ≡ after_papers after later)
    put_value (RoundDue number) (read, from, is) later texts = (
      with_round read later,
      then-value with_round (IsRoundOf table people number) (ArePapers table people rounds dues) bytes rest read later from texts,
      round_put before later read ∙ ap (λ (z : Papers). after_papers z later) (sym is),
    )
    put_value (ListDue number prog) (read, from, is) later texts = (
      with_list read later,
      then-value with_list (IsListOf table people number prog.0) (ArePapers table people rounds dues) bytes rest read later from texts,
      list_put before later read ∙ ap (λ (z : Papers). after_papers z later) (sym is),
    )
    put_value FinalDue (read, from, is) later texts = (
      with_final read later,
      then-value with_final (IsFinalText table people (rounds + 1)) (ArePapers table people rounds dues) bytes rest read later from texts,
      final_put before later read ∙ ap (λ (z : Papers). after_papers z later) (sym is),
    )

    -- the line of the fault of those after it
    pub put_fault : (due : Due) → IsPut table people (rounds + 1) due bytes rest before after → (n : ℕ) → IsFaultLine (ArePapers table people rounds dues) rest n
        → IsFaultLine (ArePapers table people rounds (due ∷ dues)) bytes (lines_before bytes rest + n)
    put_fault (RoundDue number) (read, from, is) n fault =
        subst (λ (z : List ℕ). IsFaultLine (ArePapers table people rounds (RoundDue number ∷ dues)) bytes (lines_in z + n)) (piece_of (IsRoundOf table people number) bytes read rest from)
        (then-fault with_round (IsRoundOf table people number) (ArePapers table people rounds dues) bytes rest read n from fault)
    put_fault (ListDue number prog) (read, from, is) n fault =
        subst (λ (z : List ℕ). IsFaultLine (ArePapers table people rounds (ListDue number prog ∷ dues)) bytes (lines_in z + n)) (piece_of (IsListOf table people number prog.0) bytes read rest from)
        (then-fault with_list (IsListOf table people number prog.0) (ArePapers table people rounds dues) bytes rest read n from fault)
    put_fault FinalDue (read, from, is) n fault =
        subst (λ (z : List ℕ). IsFaultLine (ArePapers table people rounds (FinalDue ∷ dues)) bytes (lines_in z + n)) (piece_of (IsFinalText table people (rounds + 1)) bytes read rest from)
        (then-fault with_final (IsFinalText table people (rounds + 1)) (ArePapers table people rounds dues) bytes rest read n from fault)

  -- what follows is no more than the bytes
  pub put_short : (due : Due) (bytes rest : List ℕ) (before after : Papers) → IsPut table people (rounds + 1) due bytes rest before after → length rest ≤ length bytes
  put_short (RoundDue number) bytes rest before after (read, from, is) = (let long = ap length from.whole in let sum = length-append from.piece rest in omega (arith, long, sum))
  put_short (ListDue number prog) bytes rest before after (read, from, is) = (let long = ap length from.whole in let sum = length-append from.piece rest in omega (arith, long, sum))
  put_short FinalDue bytes rest before after (read, from, is) = (let long = ap length from.whole in let sum = length-append from.piece rest in omega (arith, long, sum))

  -- the line of the fault of the text itself
  pub due_fault : (due : Due) (dues : List Due) (bytes : List ℕ) (n : ℕ) → AllByRecursion (IsDueOf table) dues → IsDueFault table people (rounds + 1) due bytes (Line n) → IsFaultLine (ArePapers table people rounds (due ∷ dues)) bytes n
  due_fault (RoundDue number) dues bytes n good from = own-fault with_round (IsRoundOf table people number) (ArePapers table people rounds dues) bytes n from (papers_some dues good)
  due_fault (ListDue number prog) dues bytes n good from = own-fault with_list (IsListOf table people number prog.0) (ArePapers table people rounds dues) bytes n from (papers_some dues good)
  due_fault FinalDue dues bytes n good from = own-fault with_final (IsFinalText table people (rounds + 1)) (ArePapers table people rounds dues) bytes n from (papers_some dues good)

  -- bytes after all texts
  pub left_over : (bytes : List ℕ) → bytes ≢ [] → IsFaultLine (ArePapers table people rounds []) bytes 1
  left_over bytes some = record {
    none = λ papers is. some is.0;
    some = omega arith;
    before = subst (Begins (ArePapers table people rounds [])) (sym (first_lines-none bytes)) ([], no_papers, (refl, refl));
    here = inl (some_lines bytes some, λ begins. never bytes some begins.0 begins.2.0);
  }
    where
      never : (bytes : List ℕ) → bytes ≢ [] → (more : List ℕ) → first_lines 1 bytes ++ more ≡ [] → ⊥
      never [] some more e = some refl
      never (byte ∷ bytes) some more e = (let gone = nothing_left (first_lines 1 (byte ∷ bytes)) more e in first byte bytes gone)
        where
          first : (byte : ℕ) (bytes : List ℕ) → first_lines 1 (byte ∷ bytes) ≡ [] → ⊥
          first byte bytes gone = (let taken = one_taken 1 byte bytes (omega arith) in let same = sym taken ∙ gone in cc)

  -- What was read of the bytes, up to a rest: what the rest says and where it has its fault say what all say and where they have theirs.
  pub record IsAlong (dues left : List Due) (bytes rest : List ℕ) (before : ℕ) (papers : Papers) : Type 0 where
    pub values : (later : Papers) → ArePapers table people rounds left rest later → ArePapers table people rounds dues bytes (after_papers papers later)
    pub faults : (n : ℕ) → IsFaultLine (ArePapers table people rounds left) rest n → IsFaultLine (ArePapers table people rounds dues) bytes (before + n)
    pub short : before + length rest ≤ length bytes

  pub along_more : (dues : List Due) (due : Due) (left : List Due) (bytes rest later : List ℕ) (before count : ℕ) (papers after : Papers) → IsAlong dues (due ∷ left) bytes rest before papers
      → IsPut table people (rounds + 1) due rest later papers after → count ≡ lines_before rest later → count ≤ length (take (length rest - length later) rest) → IsAlong dues left bytes later (before + count) after
  along_more dues due left bytes rest later before count papers after along put same few = record {
    values = λ more texts.
        let value = put_value left rest later papers after due put more texts in
        subst (ArePapers table people rounds dues bytes) value.2 (along.values value.0 value.1);
    faults = λ n fault.
        subst (IsFaultLine (ArePapers table people rounds dues) bytes) (omega (arith, same)) (along.faults (lines_before rest later + n) (put_fault left rest later papers after due put n fault));
    short =
        let short = along.short in
        let fits = put_short due rest later papers after put in
        let taken = taken_length (length rest - length later) rest in
        omega (arith, short, fits, taken, few);
  }
    where
      taken_length : (n : ℕ) (xs : List ℕ) → length (take n xs) ≤ n
      taken_length n xs = (let h = length-take n xs in omega (arith, h))

  -- all that was due was read, and nothing is left
  pub along_done : (dues left : List Due) (bytes rest : List ℕ) (before : ℕ) (papers : Papers) → IsAlong dues left bytes rest before papers → left ≡ [] → rest ≡ [] → ArePapers table people rounds dues bytes papers
  along_done dues left bytes rest before papers along none empty =
      let here : ArePapers table people rounds left rest no_papers = subst (λ (z : List Due). ArePapers table people rounds z rest no_papers) (sym none) (empty, refl) in
      subst (ArePapers table people rounds dues bytes) (none_after papers) (along.values no_papers here)

  -- and something is left
  pub along_left : (dues left : List Due) (bytes rest : List ℕ) (before : ℕ) (papers : Papers) → IsAlong dues left bytes rest before papers → left ≡ [] → rest ≢ [] → IsFaultLine (ArePapers table people rounds dues) bytes (before + 1)
  along_left dues left bytes rest before papers along none some =
      along.faults 1 (subst (λ (z : List Due). IsFaultLine (ArePapers table people rounds z) rest 1) (sym none) (left_over rest some))

  -- a fault is that of all, after the lines before it
  pub along_fault : (dues : List Due) (due : Due) (left : List Due) (bytes rest : List ℕ) (before : ℕ) (papers : Papers) → IsAlong dues (due ∷ left) bytes rest before papers → AllByRecursion (IsDueOf table) left
      → (fault : TextFault) → IsDueFault table people (rounds + 1) due rest fault → IsTextFault (ArePapers table people rounds dues) bytes (after_lines before fault)
  along_fault dues due left bytes rest before papers along good (Line n) from = along.faults n (due_fault due left rest n good from)
  along_fault dues due left bytes rest before papers along good OutOfMemory from = tt

  -- and its line has 32 bits
  pub along_room : (dues : List Due) (due : Due) (left : List Due) (bytes rest : List ℕ) (before : ℕ) (papers : Papers) → IsAlong dues (due ∷ left) bytes rest before papers → AllByRecursion (IsDueOf table) left
      → length bytes < 2 ^ 32 - 2 → (fault : TextFault) → IsDueFault table people (rounds + 1) due rest fault → HasRoom before fault
  along_room dues due left bytes rest before papers along good few (Line n) from =
      let fault = due_fault due left rest n good from in
      let short = along.short in
      let lines = lines_short rest in
      elim fault.here [
        | inl h ↦ (let within = h.0 in omega (arith, within, lines, short, few))
        | inr h ↦ (let end = h.0 in omega (arith, end, lines, short, few))
      ]
  along_room dues due left bytes rest before papers along good few OutOfMemory from = tt

-- texts that can be due, after some of them
pub good_rest : (table : SeatTable) (n : ℕ) (dues : List Due) → AllByRecursion (IsDueOf table) dues → AllByRecursion (IsDueOf table) (drop n dues)
good_rest table zero dues good = good
good_rest table (suc n) [] good = tt
good_rest table (suc n) (due ∷ dues) good = good_rest table n dues good.1

-- none are left at the end
pub none_left : (n : ℕ) (dues : List Due) → length dues ≤ n → drop n dues ≡ []
none_left zero [] past = refl
none_left zero (due ∷ dues) past = absurd (omega (arith, past))
none_left (suc n) [] past = refl
none_left (suc n) (due ∷ dues) past = none_left n dues (omega (arith, past))

pub some_bytes : (bytes : List ℕ) → eqb (length bytes) 0 ≡ false → bytes ≢ []
some_bytes bytes e empty = false≢true (sym e ∙ ap (λ (z : List ℕ). eqb (length z) 0) empty)

pub long_of : (bytes : List ℕ) → bytes ≢ [] → 0 < length bytes
long_of [] some = absurd (some refl)
long_of (byte ∷ bytes) some = omega arith
