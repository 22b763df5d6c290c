-- Rows have exactly one reading, which depends on the people and the programmes alone.
use Rattle.std.proofs.Common.{◌≡◌, ℕ, List, [], ◌∷◌, ◌++◌, ◌+◌, map, drop, Result, Ok, Err, refl, sym, ap, subst, ◌∙◌, arith}
use Rattle.std.specs.Prelude.{IsSome, is_some}
use Rattle.std.proofs.lemmas.List.{length-drop}
use Rattle.office_base.specs.declared.person.Person.{Person}
use Rattle.office_base.specs.declared.person.ProgId.{ProgId}
use Rattle.section_rows.specs.Rows.{Row}
use Rattle.section_rows.proofs.TableLemmas.{all-hold, apart_reading, one_fault, one_value, some_reading}
use Rattle.section_rows.specs.Steps.{after}
use Rattle.section_rows.specs.Table.{Reading, table_of}
use Rattle.section_rows.proofs.StepsLemmas.{after_ok}
use Rattle.rank_lists.specs.Register.{Ranks, find_person}
use Rattle.seat_matrix.specs.Matrix.{SeatTable}
use Rattle.seat_matrix.specs.declared.entry.Home.{Home}
use Rattle.choice_lists.specs.Choices.{Entry, IsChoice, IsRead, Lists, choice, choices, entries_of, header, list_at, list_of, listed, lists_for, new_candidate, reading}
use Rattle.choice_lists.specs.Laws.{DependOnPeopleAndProgrammes, HaveOneReading}
use Rattle.choice_lists.specs.declared.fault.ChoiceKind.{ChoiceKind}
use Rattle.choice_lists.specs.declared.fault.ChoiceKind.TheVariants.{BadHeader}
use Rattle.choice_lists.proofs.ChoicesLemmas.{choices_ok, good_choice, new_candidate_ok}
use Rattle.choice_lists.proofs.BuilderLemmas.{ids_of-people, known-step, sound-step}
use Rattle.choice_lists.proofs.FoundLemmas.{lists-found}

-- the entry of a person with these programmes
abbrev entry_of : Person → List ProgId → Result Entry ChoiceKind
entry_of person programmes = Ok (record { candidate = person.id.0; programmes = programmes })

-- what the fields of a row give a person
abbrev wanted : SeatTable → Row → Person → Result Entry ChoiceKind
wanted seats row person = after (choices seats person [] (drop 1 row)) (entry_of person)

-- What a row gives is sound, and its candidate is one of the register.
row_sound : (ranks : Ranks) (seats : SeatTable) (entries : List Entry) (row : Row) (entry : Entry) → reading ranks seats entries row ≡ Ok entry
    → IsChoice ranks seats entry.candidate entry.programmes × IsSome (find_person entry.candidate ranks.people)
unfolding reading
row_sound ranks seats entries row entry e =
    let (person, e1, r1) = after_ok (new_candidate ranks entries row) (wanted seats row) entry e in
    let (progs, e2, r2) = after_ok (choices seats person [] (drop 1 row)) (entry_of person) entry r1 in
    let accepted = new_candidate_ok ranks entries row person e1 in
    let (good, count) = choices_ok seats person [] (drop 1 row) progs e2 (record { distinct = tt; ranked = tt }) in
    let made : Entry = record { candidate = person.id.0; programmes = progs } in
    let same : made ≡ entry = cc r2 in
    subst (λ (x : Entry). IsChoice ranks seats x.candidate x.programmes × IsSome (find_person x.candidate ranks.people)) same
    (good_choice ranks seats person progs accepted.known good (omega (arith, accepted.short, count, length-drop 1 row)), ap is_some accepted.known)

-- each list of entries is sound, and its candidate is one of the register
record AreSound (ranks : Ranks) (seats : SeatTable) (entries : List Entry) : Type 0 where
  lists : (candidate : ℕ) → IsChoice ranks seats candidate (listed (list_at candidate entries))
  known : (candidate : ℕ) → IsSome (list_at candidate entries) → IsSome (find_person candidate ranks.people)

-- The entries of rows are sound.
entries_sound : (ranks : Ranks) (seats : SeatTable) (rows : List Row) (entries : List Entry) → entries_of ranks seats rows ≡ Ok entries → AreSound ranks seats entries
entries_sound ranks seats rows entries e =
    all-hold (reading ranks seats) (AreSound ranks seats)
    (λ before row entry sound is.
    let (good, known) = row_sound ranks seats before row entry is in
    record { lists = sound-step ranks seats before entry sound.lists good; known = known-step ranks before entry sound.known known })
    BadHeader header rows entries (record { lists = λ candidate. record { distinct = tt; short = omega arith; numbers = tt; ranked = tt }; known = λ candidate some. cc some }) e

-- The lists that are read are those of the entries.
lists_read : (ranks : Ranks) (seats : SeatTable) (rows : List Row) (lists : Lists) (entries : List Entry) → IsRead ranks seats rows lists → entries_of ranks seats rows ≡ Ok entries
    → (candidate : ℕ) → list_of lists candidate ≡ listed (list_at candidate entries)
lists_read ranks seats rows lists entries read e candidate =
    let f = read.1 in
    let same : read.0 ≡ entries = cc (e, f) in
    ap (λ (ls : Lists). list_of ls candidate) (read.2 ∙ ap (lists_for ranks) same) ∙ lists-found ranks entries (entries_sound ranks seats rows entries e).known candidate

-- Rows have exactly one reading.
pub one_reading : (ranks : Ranks) (seats : SeatTable) (rows : List Row) → HaveOneReading ranks seats rows
one_reading ranks seats rows =
    let given = entries_of ranks seats rows in
    record {
      some = some_reading given (λ entries lists. lists ≡ lists_for ranks entries) (λ entries. (lists_for ranks entries, refl));
      apart = apart_reading given (λ entries lists. lists ≡ lists_for ranks entries);
      one_value = one_value given (λ entries lists. lists ≡ lists_for ranks entries) (λ entries lists other a b. a ∙ sym b);
      one_fault = one_fault given;
      sound = λ lists read candidate. subst (IsChoice ranks seats candidate) (sym (lists_read ranks seats rows lists read.0 read read.1 candidate)) ((entries_sound ranks seats rows read.0 read.1).lists candidate);
      aligned = λ lists read. ap (λ (ls : Lists). map (λ (held : ℕ × List ProgId). held.0) ls) read.2 ∙ ids_of-people read.0 ranks.people;
      own = lists_read ranks seats rows;
    }

-- a programme is chosen among the programmes alone
same_choice : (seats matrix : SeatTable) (person : Person) (chosen : List ProgId) (text : List ℕ) → seats.programmes ≡ matrix.programmes → choice seats person chosen text ≡ choice matrix person chosen text
same_choice seats matrix person chosen text e = ap (λ (programmes : List (List ℕ × Home)). choice (record { programmes = programmes; steps = seats.steps }) person chosen text) e

same_choices : (seats matrix : SeatTable) (person : Person) (chosen : List ProgId) (texts : List (List ℕ)) → seats.programmes ≡ matrix.programmes → choices seats person chosen texts ≡ choices matrix person chosen texts
same_choices seats matrix person chosen [] e = refl
same_choices seats matrix person chosen (text ∷ texts) e =
    ap (λ (r : Result ProgId ChoiceKind). after r (λ prog. choices seats person (chosen ++ prog ∷ []) texts)) (same_choice seats matrix person chosen text e)
    ∙ by (choice matrix person chosen text) (λ prog. same_choices seats matrix person (chosen ++ prog ∷ []) texts e)
  where
    by : (r : Result ProgId ChoiceKind) → ((prog : ProgId) → choices seats person (chosen ++ prog ∷ []) texts ≡ choices matrix person (chosen ++ prog ∷ []) texts)
        → after r (λ prog. choices seats person (chosen ++ prog ∷ []) texts) ≡ after r (λ prog. choices matrix person (chosen ++ prog ∷ []) texts)
    by (Ok prog) more = more prog
    by (Err kind) more = refl

-- a candidate is known among the people alone
same_candidate : (ranks other : Ranks) (entries : List Entry) (row : Row) → ranks.people ≡ other.people → new_candidate ranks entries row ≡ new_candidate other entries row
same_candidate ranks other entries row e = ap (λ (people : List Person). new_candidate (record { people = people; holders = ranks.holders }) entries row) e

-- what a row gives depends on the people and the programmes alone
same_row : (ranks other : Ranks) (seats matrix : SeatTable) (entries : List Entry) (row : Row) → ranks.people ≡ other.people → seats.programmes ≡ matrix.programmes
    → reading ranks seats entries row ≡ reading other matrix entries row
unfolding reading
same_row ranks other seats matrix entries row e f =
    ap (λ (r : Result Person ChoiceKind). after r (wanted seats row)) (same_candidate ranks other entries row e) ∙ by (new_candidate other entries row)
  where
    by : (r : Result Person ChoiceKind) → after r (wanted seats row) ≡ after r (wanted matrix row)
    by (Ok person) = ap (λ (r : Result (List ProgId) ChoiceKind). after r (entry_of person)) (same_choices seats matrix person [] (drop 1 row) f)
    by (Err kind) = refl

-- the same people and programmes give the same reading
same_grammar : (ranks other : Ranks) (seats matrix : SeatTable) → ranks.people ≡ other.people → seats.programmes ≡ matrix.programmes → reading ranks seats ≡ reading other matrix
same_grammar ranks other seats matrix e f = λ i entries row. same_row ranks other seats matrix entries row e f i

-- What rows give depends on the people and the programmes alone.
pub same_reading : (rows : List Row) → DependOnPeopleAndProgrammes rows
same_reading rows ranks other seats matrix e f =
    let same : entries_of ranks seats rows ≡ entries_of other matrix rows = ap (λ (r : Reading Entry ChoiceKind). table_of BadHeader header r rows) (same_grammar ranks other seats matrix e f) in
    record {
      value = λ lists read. (read.0, sym same ∙ read.1, read.2 ∙ ap (λ (people : List Person). map (λ person. (person.id.0, listed (list_at person.id.0 read.0))) people) e);
      fault = λ row kind fault. sym same ∙ fault;
    }
