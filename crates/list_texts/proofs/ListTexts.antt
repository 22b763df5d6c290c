-- The texts of lists by their lines are those that are published.
use Rattle.std.proofs.Common.{◌≡◌, ◌<◌, ◌≤◌, ◌+◌, ◌-◌, ◌^◌, ℕ, zero, suc, true, false, eqb, List, [], ◌∷◌, ◌++◌, Option, Some, None, length, refl, sym, ap, subst, ◌∙◌, arith, append_assoc, length-append, eq-eqb}
use Rattle.std.proofs.lemmas.Bool.{cond-true, cond-false, false≢true, ne_eqb}
use Rattle.std.proofs.lemmas.List.{append-nil}
use Rattle.std.specs.Fmt.{decimal}
use Rattle.std.specs.List.{AllByRecursion, flat_map}
use Rattle.std.specs.Prelude.{codes}
use Rattle.office_base.specs.Certificate.{slot_of}
use Rattle.office_base.specs.declared.person.CandId.{CandId}
use Rattle.office_base.specs.declared.person.Person.{Person}
use Rattle.office_base.specs.declared.person.ProgId.{ProgId}
use Rattle.office_base.specs.declared.step.Pair.{Pair}
use Rattle.office_base.specs.declared.step.StepKind.{StepKind}
use Rattle.office_base.specs.declared.step.StepKind.TheVariants.{Dereserved}
use Rattle.office_base.proofs.Lists.{all_joined}
use Rattle.programme_lists.specs.declared.programme.Programme.{Programme}
use Rattle.programme_lists.specs.declared.programme.StepList.{StepList}
use Rattle.published_texts.specs.Texts.{code_in, list_head, list_step}
use Rattle.seat_matrix.specs.Matrix.{SeatTable}
use Rattle.step_lines.specs.Lines.{admitted_line, count_lines, slot_letter, step_name}
use Rattle.text_readers.specs.Reading.{Grammar, IsTextFault}
use Rattle.text_readers.specs.declared.fault.TextFault.{TextFault}
use Rattle.text_readers.proofs.ReadLemmas.{fault-on}
use Rattle.list_texts.specs.ListLines.{Said, entry_words, honoured_words, lines_text, list_words, most_slots, rows_text, slots_in, step_list, step_text, step_words, steps_text}
use Rattle.list_texts.specs.ListReader.{AreRising, free_in}
use Rattle.list_texts.specs.Listing.{AreEntries, AreStepLists, Entry, IsListText, IsStepList, is_listed, pair_of, pairs_of, persons_of, step_kinds}
use Rattle.list_texts.specs.declared.lists.ListRead.{ListRead}
use Rattle.list_texts.proofs.FollowLemmas.{slots-few}
use Rattle.list_texts.proofs.FreeLemmas.{free-all, free-less, listed-here, listed-kept}

-- ---- letters

-- no pair is of this candidate
abbrev AreOthers : ℕ → List Pair → Type 0
AreOthers id pairs = AllByRecursion (λ pair. pair.cand.0 ≡ id → ⊥) pairs

slot-skip : (id : CandId) (first rest : List Pair) → AreOthers id.0 first → slot_of (first ++ rest) id ≡ slot_of rest id
slot-skip id [] rest others = refl
slot-skip id (pair ∷ first) rest others = cond-false (eqb pair.cand.0 id.0) (Some pair.slot) (slot_of (first ++ rest) id) (ne_eqb pair.cand.0 id.0 others.0) ∙ slot-skip id first rest others.1

slot-none : (id : CandId) (pairs : List Pair) → AreOthers id.0 pairs → slot_of pairs id ≡ None
slot-none id [] others = refl
slot-none id (pair ∷ pairs) others = cond-false (eqb pair.cand.0 id.0) (Some pair.slot) (slot_of pairs id) (ne_eqb pair.cand.0 id.0 others.0) ∙ slot-none id pairs others.1

slot-here : (person : Person) (slot : Option ℕ) (rest : List Pair) → AreOthers person.id.0 rest → slot_of (pair_of person slot ++ rest) person.id ≡ slot
slot-here person None rest others = slot-none person.id rest others
slot-here person (Some t) rest others = cond-true (eqb person.id.0 person.id.0) (Some t) (slot_of rest person.id) (eq-eqb person.id.0 person.id.0 refl)

pair-others : (id : ℕ) (person : Person) (slot : Option ℕ) → (person.id.0 ≡ id → ⊥) → AreOthers id (pair_of person slot)
pair-others id person None other = tt
pair-others id person (Some t) other = (other, tt)

-- rows to come are not of those who had one
later-others : (people used : List Person) (entries : List Entry) (id : ℕ) → is_listed id used ≡ true → AreEntries people used entries → AreOthers id (pairs_of entries)
later-others people used [] id listed are = tt
later-others people used (entry ∷ entries) id listed are =
    all_joined (λ pair. pair.cand.0 ≡ id → ⊥) (pair_of entry.0 entry.1) (pairs_of entries)
    (pair-others id entry.0 entry.1 (λ same. false≢true (sym are.0.new ∙ ap (λ n. is_listed n used) same ∙ listed)))
    (later-others people (used ++ entry.0 ∷ []) entries id (listed-kept id used entry.0 listed) are.1)

-- the pairs are of those who had a row
abbrev AreOf : List Person → List Pair → Type 0
AreOf used pairs = AllByRecursion (λ pair. is_listed pair.cand.0 used ≡ true) pairs

of-others : (id : ℕ) (used : List Person) (pairs : List Pair) → is_listed id used ≡ false → AreOf used pairs → AreOthers id pairs
of-others id used [] new of = tt
of-others id used (pair ∷ pairs) new of = (λ same. false≢true (sym new ∙ ap (λ n. is_listed n used) (sym same) ∙ of.0), of-others id used pairs new of.1)

of-more : (used : List Person) (person : Person) (pairs : List Pair) → AreOf used pairs → AreOf (used ++ person ∷ []) pairs
of-more used person [] of = tt
of-more used person (pair ∷ pairs) of = (listed-kept pair.cand.0 used person of.0, of-more used person pairs of.1)

of-pair : (used : List Person) (person : Person) (slot : Option ℕ) → AreOf (used ++ person ∷ []) (pair_of person slot)
of-pair used person None = tt
of-pair used person (Some t) = (listed-here used person, tt)

-- a row with its LF
abbrev entry_line : Entry → List ℕ
entry_line entry = entry_words entry ++ 10 ∷ []

line-same : (pairs : List Pair) (entry : Entry) → slot_of pairs entry.0.id ≡ entry.1 → admitted_line pairs entry.0 ≡ entry_line entry
line-same pairs entry e =
    ap (λ slot. decimal entry.0.id.0 ++ 32 ∷ slot_letter slot ∷ 10 ∷ []) e ∙ sym (append_assoc (decimal entry.0.id.0) (32 ∷ slot_letter entry.1 ∷ []) (10 ∷ []))

-- rows are written as the list of their persons and pairs is
letters-same : (people used : List Person) (before : List Pair) (entries : List Entry) → AreOf used before → AreEntries people used entries
    → flat_map (admitted_line (before ++ pairs_of entries)) (persons_of entries) ≡ flat_map entry_line entries
letters-same people used before [] of are = refl
letters-same people used before (entry ∷ entries) of are =
    let pairs = before ++ (pair_of entry.0 entry.1 ++ pairs_of entries) in
    let moved : pairs ≡ (before ++ pair_of entry.0 entry.1) ++ pairs_of entries = sym (append_assoc before (pair_of entry.0 entry.1) (pairs_of entries)) in
    let others = later-others people (used ++ entry.0 ∷ []) entries entry.0.id.0 (listed-here used entry.0) are.1 in
    let slot : slot_of pairs entry.0.id ≡ entry.1 =
    slot-skip entry.0.id before (pair_of entry.0 entry.1 ++ pairs_of entries) (of-others entry.0.id.0 used before are.0.new of) ∙ slot-here entry.0 entry.1 (pairs_of entries) others in
    let later = letters-same people (used ++ entry.0 ∷ []) (before ++ pair_of entry.0 entry.1) entries
    (all_joined (λ pair. is_listed pair.cand.0 (used ++ entry.0 ∷ []) ≡ true) before (pair_of entry.0 entry.1) (of-more used entry.0 before of) (of-pair used entry.0 entry.1)) are.1 in
    ap (λ z. z ++ flat_map (admitted_line pairs) (persons_of entries)) (line-same pairs entry slot)
    ∙ ap (λ z. entry_line entry ++ z) (ap (λ z. flat_map (admitted_line z) (persons_of entries)) moved ∙ later)

-- ---- rows

pair-length : (person : Person) (slot : Option ℕ) → length (pair_of person slot) ≡ slots_in slot
pair-length person None = refl
pair-length person (Some t) = refl

pairs-length : (entry : Entry) (entries : List Entry) → length (pairs_of (entry ∷ entries)) ≡ slots_in entry.1 + length (pairs_of entries)
pairs-length entry entries = length-append (pair_of entry.0 entry.1) (pairs_of entries) ∙ ap (λ n. n + length (pairs_of entries)) (pair-length entry.0 entry.1)

slot-most : (slot : Option ℕ) → slots_in slot ≤ 1
slot-most None = omega arith
slot-most (Some t) = omega arith

pairs-few : (entries : List Entry) → length (pairs_of entries) ≤ length entries
pairs-few [] = omega arith
pairs-few (entry ∷ entries) = omega (arith, pairs-length entry entries, slot-most entry.1, pairs-few entries)

entries-few : (people used : List Person) (entries : List Entry) → AreRising people → AreEntries people used entries → length entries ≤ free_in people used
entries-few people used [] rising are = omega arith
entries-few people used (entry ∷ entries) rising are =
    omega (arith, free-less people used entry.0 rising are.0.known are.0.new, entries-few people (used ++ entry.0 ∷ []) entries rising are.1)

persons-length : (entries : List Entry) → length (persons_of entries) ≡ length entries
persons-length [] = refl
persons-length (entry ∷ entries) = ap suc (persons-length entries)

-- Rows, and what follows them.
record AreRowsOf (people : List Person) (after : List Person → List Pair → Grammar Said) (rows slots : ℕ) (admitted : List Person) (pairs : List Pair) (text : List ℕ) (said : Said) : Type 0 where
  entries : List Entry
  rest : List ℕ
  are : AreEntries people admitted entries
  count : length entries ≡ rows
  honoured : length (pairs_of entries) ≡ slots
  same : text ≡ flat_map entry_line entries ++ rest
  later : after (admitted ++ persons_of entries) (pairs ++ pairs_of entries) rest said

rows-read : (people : List Person) (after : List Person → List Pair → Grammar Said) (rows slots : ℕ) (admitted : List Person) (pairs : List Pair) (text : List ℕ) (said : Said)
    → slots ≤ rows → rows_text people after rows slots admitted pairs text said → AreRowsOf people after rows slots admitted pairs text said
rows-read people after zero slots admitted pairs text said enough is = record {
  entries = [];
  rest = text;
  are = tt;
  count = refl;
  honoured = omega (arith, enough);
  same = refl;
  later = subst (λ z. after (admitted ++ []) z text said) (sym (append-nil pairs)) (subst (λ z. after z pairs text said) (sym (append-nil admitted)) is);
}
rows-read people after (suc left) slots admitted pairs text said enough is =
    let entry = is.part in
    let r = rows-read people after left (slots - slots_in entry.1) (admitted ++ entry.0 ∷ []) (pairs ++ pair_of entry.0 entry.1) is.rest said is.may.enough is.later in
    record {
      entries = entry ∷ r.entries;
      rest = r.rest;
      are = (is.may.is, r.are);
      count = ap suc r.count;
      honoured = omega (arith, pairs-length entry r.entries, r.honoured, is.may.some);
      same = is.same ∙ ap (λ z. entry_words entry ++ 10 ∷ z) r.same ∙ sym (append_assoc (entry_words entry) (10 ∷ []) (flat_map entry_line r.entries ++ r.rest)) ∙ sym (append_assoc (entry_line entry) (flat_map entry_line r.entries) r.rest);
      later = subst (λ z. after (admitted ++ (entry.0 ∷ persons_of r.entries)) z r.rest said) (append_assoc pairs (pair_of entry.0 entry.1) (pairs_of r.entries))
          (subst (λ z. after z ((pairs ++ pair_of entry.0 entry.1) ++ pairs_of r.entries) r.rest said) (append_assoc admitted (entry.0 ∷ []) (persons_of r.entries)) r.later);
    }

rows-write : (people : List Person) (after : List Person → List Pair → Grammar Said) (admitted : List Person) (pairs : List Pair) (entries : List Entry) (rest : List ℕ) (said : Said)
    → AreEntries people admitted entries → after (admitted ++ persons_of entries) (pairs ++ pairs_of entries) rest said
    → rows_text people after (length entries) (length (pairs_of entries)) admitted pairs (flat_map entry_line entries ++ rest) said
rows-write people after admitted pairs [] rest said are is =
    subst (λ z. after admitted z rest said) (append-nil pairs) (subst (λ z. after z (pairs ++ []) rest said) (append-nil admitted) is)
rows-write people after admitted pairs (entry ∷ entries) rest said are is =
    let count = pairs-length entry entries in
    let next = rows-write people after (admitted ++ entry.0 ∷ []) (pairs ++ pair_of entry.0 entry.1) entries rest said are.1
    (subst (λ z. after ((admitted ++ entry.0 ∷ []) ++ persons_of entries) z rest said) (sym (append_assoc pairs (pair_of entry.0 entry.1) (pairs_of entries)))
    (subst (λ z. after z (pairs ++ (pair_of entry.0 entry.1 ++ pairs_of entries)) rest said) (sym (append_assoc admitted (entry.0 ∷ []) (persons_of entries))) is)) in
    let fewer : length (pairs_of entries) ≡ length (pairs_of (entry ∷ entries)) - slots_in entry.1 = omega (arith, count) in
    record {
      part = entry;
      may = record { is = are.0; some = omega (arith, count); enough = omega (arith, count, pairs-few entries) };
      rest = flat_map entry_line entries ++ rest;
      same = append_assoc (entry_line entry) (flat_map entry_line entries) rest ∙ append_assoc (entry_words entry) (10 ∷ []) (flat_map entry_line entries ++ rest);
      later = subst (λ n. rows_text people after (length entries) n (admitted ++ entry.0 ∷ []) (pairs ++ pair_of entry.0 entry.1) (flat_map entry_line entries ++ rest) said) fewer next;
    }

-- ---- steps

regroup : (a name b seats c candidates d admitted e honoured f rows rest : List ℕ)
    → ((a ++ name) ++ (((((((((b ++ seats) ++ c) ++ candidates) ++ d) ++ admitted) ++ e) ++ honoured) ++ f) ++ rows)) ++ rest
    ≡ (a ++ (name ++ (b ++ (seats ++ (c ++ (candidates ++ (d ++ admitted))))))) ++ (e ++ (honoured ++ (f ++ (rows ++ rest))))
regroup a name b seats c candidates d admitted e honoured f rows rest = simp append_assoc

-- the lines of a step, one after another
step-lines : (kind : StepKind) (seats candidates count slots : ℕ) (rows rest : List ℕ)
    → (codes "step " ++ step_name kind ++ (count_lines seats candidates count slots ++ rows)) ++ rest ≡ step_words kind (seats, candidates, count) ++ 10 ∷ (honoured_words slots ++ 10 ∷ (rows ++ rest))
step-lines kind seats candidates count slots rows rest =
    regroup (codes "step ") (step_name kind) (codes " seats ") (decimal seats) (codes " candidates ") (decimal candidates) (codes " admitted ") (decimal count) (codes "\nhonoured ") (decimal slots) (codes "\n") rows rest
    ∙ ap (λ z. step_words kind (seats, candidates, count) ++ 10 ∷ z) (sym (append_assoc (codes "honoured ") (decimal slots) (10 ∷ (rows ++ rest))))

list-lines : (people : List Person) (kind : StepKind) (seats candidates : ℕ) (entries : List Entry) (rest : List ℕ) → AreEntries people [] entries
    → list_step (step_list kind seats candidates (persons_of entries) (pairs_of entries)) ++ rest
    ≡ step_words kind (seats, candidates, length entries) ++ 10 ∷ (honoured_words (length (pairs_of entries)) ++ 10 ∷ (flat_map entry_line entries ++ rest))
list-lines people kind seats candidates entries rest are =
    step-lines kind seats candidates (length (persons_of entries)) (length (pairs_of entries)) (flat_map (admitted_line (pairs_of entries)) (persons_of entries)) rest
    ∙ ap (λ n. step_words kind (seats, candidates, n) ++ 10 ∷ (honoured_words (length (pairs_of entries)) ++ 10 ∷ (flat_map (admitted_line (pairs_of entries)) (persons_of entries) ++ rest))) (persons-length entries)
    ∙ ap (λ z. step_words kind (seats, candidates, length entries) ++ 10 ∷ (honoured_words (length (pairs_of entries)) ++ 10 ∷ (z ++ rest))) (letters-same people [] [] entries tt are)

nothing : {X : Type 0} (xs : List X) → length xs ≤ 0 → xs ≡ []
nothing [] few = refl
nothing (x ∷ xs) few = absurd (omega (arith, few))

-- A step, and what follows it.
record IsStepOf (people : List Person) (kind : StepKind) (after : StepList → Grammar Said) (text : List ℕ) (said : Said) : Type 0 where
  list : StepList
  sound : IsStepList people kind list
  rest : List ℕ
  same : text ≡ list_step list ++ rest
  later : after list rest said

step-read : (people : List Person) (kind : StepKind) (after : StepList → Grammar Said) (text : List ℕ) (said : Said) → step_text people kind after text said → IsStepOf people kind after text said
step-read people kind after text said is =
    let part = is.part in
    let honoured = is.later in
    let slots = honoured.part in
    let r = rows-read people (λ admitted pairs. after (step_list kind part.0 part.1 admitted pairs)) part.2 slots [] [] honoured.rest said (slots-few kind part.2 slots honoured.may) honoured.later in
    record {
      list = step_list kind part.0 part.1 (persons_of r.entries) (pairs_of r.entries);
      sound = record {
        named = refl;
        seats = is.may.0;
        candidates = is.may.1;
        entries = r.entries;
        are = r.are;
        admitted = refl;
        pairs = refl;
        none = λ last. nothing (pairs_of r.entries) (omega (arith, r.honoured, subst (λ k. slots ≤ most_slots k part.2) last honoured.may));
      };
      rest = r.rest;
      same = is.same ∙ ap (λ z. step_words kind part ++ 10 ∷ z) (honoured.same ∙ ap (λ z. honoured_words slots ++ 10 ∷ z) r.same)
          ∙ ap (λ n. step_words kind (part.0, part.1, n) ++ 10 ∷ (honoured_words slots ++ 10 ∷ (flat_map entry_line r.entries ++ r.rest))) (sym r.count)
          ∙ ap (λ n. step_words kind (part.0, part.1, length r.entries) ++ 10 ∷ (honoured_words n ++ 10 ∷ (flat_map entry_line r.entries ++ r.rest))) (sym r.honoured)
          ∙ sym (list-lines people kind part.0 part.1 r.entries r.rest r.are);
      later = r.later;
    }

within-slots : (kind : StepKind) (rows slots : ℕ) → slots ≤ rows → (kind ≡ Dereserved → slots ≡ 0) → slots ≤ most_slots kind rows
within-slots Dereserved rows slots few none = omega (arith, none refl)
within-slots kind rows slots few none = few

step-write : (people : List Person) (kind : StepKind) (after : StepList → Grammar Said) (list : StepList) (rest : List ℕ) (said : Said) → AreRising people
    → IsStepList people kind list → after list rest said → step_text people kind after (list_step list ++ rest) said
step-write people kind after list rest said rising sound is =
    let entries = sound.entries in
    let made = step_list kind list.seats list.candidates (persons_of entries) (pairs_of entries) in
    let same : list ≡ made =
    ap (λ k. step_list k list.seats list.candidates list.admitted list.cert.pairs) sound.named
    ∙ ap (λ z. step_list kind list.seats list.candidates z list.cert.pairs) sound.admitted
    ∙ ap (λ z. step_list kind list.seats list.candidates (persons_of entries) z) sound.pairs in
    let few = entries-few people [] entries rising sound.are in
    record {
      part = (list.seats, list.candidates, length entries);
      may = (sound.seats, sound.candidates, omega (arith, few, free-all people));
      rest = honoured_words (length (pairs_of entries)) ++ 10 ∷ (flat_map entry_line entries ++ rest);
      same = ap (λ z. list_step z ++ rest) same ∙ list-lines people kind list.seats list.candidates entries rest sound.are;
      later = record {
        part = length (pairs_of entries);
        may = within-slots kind (length entries) (length (pairs_of entries)) (pairs-few entries) (λ last. ap length (sym sound.pairs ∙ sound.none last));
        rest = flat_map entry_line entries ++ rest;
        same = refl;
        later = rows-write people (λ admitted pairs. after (step_list kind list.seats list.candidates admitted pairs)) [] [] entries rest said sound.are (subst (λ z. after z rest said) same is);
      };
    }

-- Steps, and the last line.
record AreStepsOf (people : List Person) (number prog : ℕ) (kinds : List StepKind) (done : List StepList) (text : List ℕ) (said : Said) : Type 0 where
  lists : List StepList
  are : AreStepLists people kinds lists
  same : text ≡ flat_map list_step lists ++ codes "end list\n"
  all : said ≡ (number, prog, done ++ lists)

steps-read : (people : List Person) (number prog : ℕ) (kinds : List StepKind) (done : List StepList) (text : List ℕ) (said : Said) → steps_text people kinds (number, prog, done) text said → AreStepsOf people number prog kinds done text said
steps-read people number prog [] done text said is = record {
  lists = [];
  are = tt;
  same = is.same ∙ ap (λ z. codes "end list" ++ 10 ∷ z) is.later.empty;
  all = is.later.all ∙ ap (λ z. (number, prog, z)) (sym (append-nil done));
}
steps-read people number prog (kind ∷ kinds) done text said is =
    let s = step-read people kind (λ list. steps_text people kinds (number, prog, done ++ list ∷ [])) text said is in
    let r = steps-read people number prog kinds (done ++ s.list ∷ []) s.rest said s.later in
    record {
      lists = s.list ∷ r.lists;
      are = (s.sound, r.are);
      same = s.same ∙ ap (λ z. list_step s.list ++ z) r.same ∙ sym (append_assoc (list_step s.list) (flat_map list_step r.lists) (codes "end list\n"));
      all = r.all ∙ ap (λ z. (number, prog, z)) (append_assoc done (s.list ∷ []) r.lists);
    }

steps-write : (people : List Person) (number prog : ℕ) (kinds : List StepKind) (done lists : List StepList) → AreRising people → AreStepLists people kinds lists
    → steps_text people kinds (number, prog, done) (flat_map list_step lists ++ codes "end list\n") (number, prog, done ++ lists)
steps-write people number prog [] done [] rising are = record { part = tt; may = tt; rest = []; same = refl; later = record { all = ap (λ z. (number, prog, z)) (append-nil done); empty = refl } }
steps-write people number prog [] done (list ∷ lists) rising are = absurd are
steps-write people number prog (kind ∷ kinds) done [] rising are = absurd are
steps-write people number prog (kind ∷ kinds) done (list ∷ lists) rising are =
    let after : StepList → Grammar Said = λ l. steps_text people kinds (number, prog, done ++ l ∷ []) in
    let rest = flat_map list_step lists ++ codes "end list\n" in
    subst (λ z. step_text people kind after z (number, prog, done ++ (list ∷ lists))) (sym (append_assoc (list_step list) (flat_map list_step lists) (codes "end list\n")))
    (step-write people kind after list rest (number, prog, done ++ (list ∷ lists)) rising are.0
    (subst (λ z. steps_text people kinds (number, prog, done ++ list ∷ []) rest (number, prog, z)) (append_assoc done (list ∷ []) lists) (steps-write people number prog kinds (done ++ list ∷ []) lists rising are.1)))

-- ---- a whole text

pub head-lines : (table : SeatTable) (number prog : ℕ) (rest : List ℕ) → list_head table number prog ++ rest ≡ list_words table (number, prog) ++ 10 ∷ rest
head-lines table number prog rest =
    append_assoc (codes "list " ++ decimal number ++ codes " " ++ code_in table prog) (10 ∷ []) rest
    ∙ ap (λ z. z ++ 10 ∷ rest) (append_assoc (codes "list " ++ decimal number) (codes " ") (code_in table prog) ∙ append_assoc (codes "list ") (decimal number) (32 ∷ code_in table prog))

-- what a list says, as it is read
unfoldable pub read_of : Said → ListRead
read_of said = record { round = said.0; prog = record { 0 = said.1 }; programme = record { steps = said.2 } }

pub lines-list : (table : SeatTable) (people : List Person) (text : List ℕ) (said : Said) → lines_text table people text said → IsListText table people text (read_of said)
unfolding read_of
lines-list table people text said is =
    let r = steps-read people is.part.0 is.part.1 step_kinds [] is.rest said is.later in
    let number : is.part.0 ≡ said.0 = ap (λ z. z.0) (sym r.all) in
    let prog : is.part.1 ≡ said.1 = ap (λ z. z.1) (sym r.all) in
    let lists : r.lists ≡ said.2 = ap (λ z. z.2) (sym r.all) in
    let body : List StepList → List ℕ = λ z. flat_map list_step z in
    record {
      number = subst (λ n. n < 2 ^ 16) number is.may.0;
      programme = subst (λ n. n < length table.programmes) prog is.may.1;
      steps = subst (AreStepLists people step_kinds) lists r.are;
      same = is.same ∙ ap (λ z. list_words table is.part ++ 10 ∷ z) r.same ∙ sym (head-lines table is.part.0 is.part.1 (body r.lists ++ codes "end list\n"))
          ∙ sym (append_assoc (list_head table is.part.0 is.part.1) (body r.lists) (codes "end list\n"))
          ∙ ap (λ n. list_head table n is.part.1 ++ body r.lists ++ codes "end list\n") number
          ∙ ap (λ n. list_head table said.0 n ++ body r.lists ++ codes "end list\n") prog
          ∙ ap (λ z. list_head table said.0 said.1 ++ body z ++ codes "end list\n") lists;
    }

pub list-lines' : (table : SeatTable) (people : List Person) (text : List ℕ) (read : ListRead) → AreRising people → IsListText table people text read
    → lines_text table people text (read.round, read.prog.0, read.programme.steps)
list-lines' table people text read rising is =
    let body = flat_map list_step read.programme.steps ++ codes "end list\n" in
    record {
      part = (read.round, read.prog.0);
      may = (is.number, is.programme);
      rest = body;
      same = is.same ∙ append_assoc (list_head table read.round read.prog.0) (flat_map list_step read.programme.steps) (codes "end list\n") ∙ head-lines table read.round read.prog.0 body;
      later = steps-write people read.round read.prog.0 step_kinds [] read.programme.steps rising is.steps;
    }

-- a list is read for each step
lists-length : (people : List Person) (kinds : List StepKind) (lists : List StepList) → AreStepLists people kinds lists → length lists ≡ length kinds
lists-length people [] [] are = refl
lists-length people [] (list ∷ lists) are = absurd are
lists-length people (kind ∷ kinds) [] are = absurd are
lists-length people (kind ∷ kinds) (list ∷ lists) are = ap suc (lists-length people kinds lists are.1)

pub every-read : (table : SeatTable) (people : List Person) (text : List ℕ) (number prog : ℕ) (steps : List StepList) → lines_text table people text (number, prog, steps) → length steps ≡ length step_kinds
unfolding read_of
every-read table people text number prog steps is = lists-length people step_kinds steps (lines-list table people text (number, prog, steps) is).steps

pub list-fault : (table : SeatTable) (people : List Person) → AreRising people → (text : List ℕ) (fault : TextFault) → IsTextFault (lines_text table people) text fault → IsTextFault (IsListText table people) text fault
list-fault table people rising text fault is =
    fault-on (lines_text table people) (IsListText table people)
    (λ bytes said there. (read_of said, lines-list table people bytes said there))
    (λ bytes read there. ((read.round, read.prog.0, read.programme.steps), list-lines' table people bytes read rising there)) text fault is

-- the value that is read
pub read-list : (table : SeatTable) (people : List Person) (text : List ℕ) (number : ℕ) (prog : ProgId) (steps : List StepList) (programme : Programme) → programme.steps ≡ steps
    → lines_text table people text (number, prog.0, steps) → IsListText table people text (record { round = number; prog = prog; programme = programme })
unfolding read_of
read-list table people text number prog steps programme same is =
    subst (λ z. IsListText table people text (record { round = number; prog = prog; programme = record { steps = z } })) (sym same) (lines-list table people text (number, prog.0, steps) is)
