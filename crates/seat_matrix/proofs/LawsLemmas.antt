-- Rows have exactly one reading, and what they give is sound.
use Rattle.std.proofs.Common.{◌≡◌, ℕ, Bool, true, false, cond, List, [], ◌∷◌, ◌++◌, map, Option, Some, None, Ok, refl, sym, ap, subst, ◌∙◌, arith}
use Rattle.std.specs.Prelude.{◌||◌, bytes_eq, is_some, if◌then◌else◌}
use Rattle.std.specs.List.{AllByRecursion, list_any}
use Rattle.std.proofs.lemmas.Bool.{cond-false, cond-true, false_from_ne_true}
use Rattle.std.proofs.lemmas.Slice.Eq.{bytes_eq-Decides}
use Rattle.office_base.specs.Codes.{is_code}
use Rattle.section_rows.specs.Rows.{Row}
use Rattle.section_rows.proofs.TableLemmas.{all-hold, apart_reading, one_fault, one_value, some_reading}
use Rattle.section_rows.specs.Steps.{or_else}
use Rattle.section_rows.proofs.StepsLemmas.{first_of-push}
use Rattle.seat_matrix.proofs.Codes.{Distinct, codes-distinct}
use Rattle.seat_matrix.proofs.SeatsLemmas as seats
use Rattle.seat_matrix.specs.Laws.{AreCodes, HaveOneReading}
use Rattle.seat_matrix.specs.Matrix.{AreEntries, IsMatrix, SeatTable, codes_after, codes_in, codes_of, entries_of, find_home, header, home_at, reading, seatings_in, with_code}
use Rattle.seat_matrix.specs.declared.entry.Entry.{Entry}
use Rattle.seat_matrix.specs.declared.entry.Home.{Home}
use Rattle.seat_matrix.specs.declared.fault.MatrixKind.TheVariants.{BadHeader}

-- programmes with their homes
abbrev Homes : Type 0
Homes = List (List ℕ × Home)

-- the programmes with that of one more entry, unless it is among them
abbrev with_programme : Homes → Entry → Homes
with_programme programmes entry = if is_some (find_home entry.programme programmes) then programmes else programmes ++ (entry.programme, entry.home) ∷ []

-- the programmes of entries, behind these
abbrev programmes_after : Homes → List Entry → Homes
programmes_after programmes [] = programmes
programmes_after programmes (entry ∷ entries) = programmes_after (with_programme programmes entry) entries

-- a home is found where the code is among the codes
pub known_code : (code : List ℕ) (programmes : Homes) → is_some (find_home code programmes) ≡ list_any (bytes_eq code) (codes_in programmes)
known_code code [] = refl
known_code code (held ∷ programmes) = by (bytes_eq code held.0) (known_code code programmes)
  where
    by : (b : Bool) → is_some (find_home code programmes) ≡ list_any (bytes_eq code) (codes_in programmes)
        → is_some (cond b (Some held.1) (find_home code programmes)) ≡ (b || list_any (bytes_eq code) (codes_in programmes))
    by true h = refl
    by false h = h

pub codes-push : (programmes : Homes) (held : List ℕ × Home) → codes_in (programmes ++ held ∷ []) ≡ codes_in programmes ++ held.0 ∷ []
codes-push [] held = refl
codes-push (first ∷ programmes) held = ap (λ (codes : List (List ℕ)). first.0 ∷ codes) (codes-push programmes held)

-- The programmes with one more have the codes with one more.
with_programme-codes : (programmes : Homes) (entry : Entry) → codes_in (with_programme programmes entry) ≡ with_code (codes_in programmes) entry.programme
with_programme-codes programmes entry = by (is_some (find_home entry.programme programmes)) (list_any (bytes_eq entry.programme) (codes_in programmes)) (known_code entry.programme programmes)
  where
    by : (b c : Bool) → b ≡ c
        → codes_in (cond b programmes (programmes ++ (entry.programme, entry.home) ∷ [])) ≡ cond c (codes_in programmes) (codes_in programmes ++ entry.programme ∷ [])
    by true true e = refl
    by true false e = cc e
    by false true e = cc e
    by false false e = codes-push programmes (entry.programme, entry.home)

programmes-codes : (programmes : Homes) (entries : List Entry) → codes_in (programmes_after programmes entries) ≡ codes_after (codes_in programmes) entries
programmes-codes programmes [] = refl
programmes-codes programmes (entry ∷ entries) =
    programmes-codes (with_programme programmes entry) entries ∙ ap (λ (codes : List (List ℕ)). codes_after codes entries) (with_programme-codes programmes entry)

-- what was found hides what comes behind it
known_first : {X : Type 0} (o next : Option X) (b : Bool) (x : X) → (b ≡ true → is_some o ≡ true) → or_else o next ≡ or_else o (cond b (Some x) next)
known_first (Some y) next b x h = refl
known_first None next true x h = cc (h refl)
known_first None next false x h = refl

-- the first of three
new_first : {X : Type 0} (o next : Option X) (b : Bool) (x : X) → or_else (or_else o (cond b (Some x) None)) next ≡ or_else o (cond b (Some x) next)
new_first (Some y) next b x = refl
new_first None next true x = refl
new_first None next false x = refl

-- What is found with one more entry.
with_programme-found : (code : List ℕ) (programmes : Homes) (entry : Entry) (next : Option Home)
    → or_else (find_home code (with_programme programmes entry)) next ≡ or_else (find_home code programmes) (cond (bytes_eq code entry.programme) (Some entry.home) next)
with_programme-found code programmes entry next = by (is_some (find_home entry.programme programmes)) refl
  where
    by : (b : Bool) → is_some (find_home entry.programme programmes) ≡ b
        → or_else (find_home code (cond b programmes (programmes ++ (entry.programme, entry.home) ∷ []))) next ≡ or_else (find_home code programmes) (cond (bytes_eq code entry.programme) (Some entry.home) next)
    by true e = known_first (find_home code programmes) next (bytes_eq code entry.programme) entry.home
        (λ same. ap (λ (c : List ℕ). is_some (find_home c programmes)) ((bytes_eq-Decides code entry.programme).0 same) ∙ e)
    by false e = ap (λ (o : Option Home). or_else o next) (first_of-push (λ held. bytes_eq code held.0) (λ held. held.1) programmes (entry.programme, entry.home))
        ∙ new_first (find_home code programmes) next (bytes_eq code entry.programme) entry.home

or_none : {X : Type 0} (o : Option X) → o ≡ or_else o None
or_none None = refl
or_none (Some x) = refl

programmes-found : (code : List ℕ) (programmes : Homes) (entries : List Entry) → find_home code (programmes_after programmes entries) ≡ or_else (find_home code programmes) (home_at code entries)
programmes-found code programmes [] = or_none (find_home code programmes)
programmes-found code programmes (entry ∷ entries) = programmes-found code (with_programme programmes entry) entries ∙ with_programme-found code programmes entry (home_at code entries)

-- All entries have a matrix.
matrix_of : (entries : List Entry) → IsMatrix entries (record { programmes = programmes_after [] entries; steps = map (seatings_in entries) (codes_of entries) })
matrix_of entries = record {
  programmes = programmes-codes [] entries;
  homes = λ code. programmes-found code [] entries;
  steps = refl;
}

-- a code that is not among those of programmes is not found
not_found : (code : List ℕ) (programmes : Homes) → AllByRecursion (λ other. code ≡ other → ⊥) (codes_in programmes) → find_home code programmes ≡ None
not_found code [] all = refl
not_found code (held ∷ programmes) all =
    cond-false (bytes_eq code held.0) _ _ (false_from_ne_true (bytes_eq code held.0) (λ e. all.0 ((bytes_eq-Decides code held.0).0 e))) ∙ not_found code programmes all.1

-- the first programme is found by its own code
found_first : (held : List ℕ × Home) (programmes : Homes) → find_home held.0 (held ∷ programmes) ≡ Some held.1
found_first held programmes = cond-true (bytes_eq held.0 held.0) _ _ ((bytes_eq-Decides held.0 held.0).1 refl)

-- where the codes are one, the same is found behind the first
found_behind : (first second : List ℕ × Home) (firsts seconds : Homes) → first ≡ second → codes_in firsts ≡ codes_in seconds → AllByRecursion (λ other. first.0 ≡ other → ⊥) (codes_in firsts)
    → ((code : List ℕ) → find_home code (first ∷ firsts) ≡ find_home code (second ∷ seconds)) → (code : List ℕ) → find_home code firsts ≡ find_home code seconds
found_behind first second firsts seconds same codes all e code = by (bytes_eq code first.0) refl
  where
    by : (b : Bool) → bytes_eq code first.0 ≡ b → find_home code firsts ≡ find_home code seconds
    by true f =
        let here : code ≡ first.0 = (bytes_eq-Decides code first.0).0 f in
        let others = subst (λ (c : List ℕ). AllByRecursion (λ other. c ≡ other → ⊥) (codes_in firsts)) (sym here) all in
        not_found code firsts others ∙ sym (not_found code seconds (subst (λ (l : List (List ℕ)). AllByRecursion (λ other. code ≡ other → ⊥) l) codes others))
    by false f =
        sym (cond-false (bytes_eq code first.0) (Some first.1) (find_home code firsts) f) ∙ e code
        ∙ cond-false (bytes_eq code second.0) (Some second.1) (find_home code seconds) (ap (λ (held : List ℕ × Home). bytes_eq code held.0) (sym same) ∙ f)

-- programmes with one code and one home are one
same_held : (held other : List ℕ × Home) → held.0 ≡ other.0 → held.1 ≡ other.1 → held ≡ other
same_held held other codes homes = ap (λ (c : List ℕ). (c, held.1)) codes ∙ ap (λ (h : Home). (other.0, h)) homes

-- Programmes are known by their codes and what is found.
same_programmes : (programmes others : Homes) → codes_in programmes ≡ codes_in others → Distinct (codes_in programmes) → ((code : List ℕ) → find_home code programmes ≡ find_home code others) → programmes ≡ others
same_programmes [] [] codes distinct e = refl
same_programmes [] (second ∷ seconds) codes distinct e = cc codes
same_programmes (first ∷ firsts) [] codes distinct e = cc codes
same_programmes (first ∷ firsts) (second ∷ seconds) codes distinct e =
    let ids : first.0 ≡ second.0 = cc codes in
    let behind : codes_in firsts ≡ codes_in seconds = cc codes in
    let there : find_home first.0 (second ∷ seconds) ≡ Some second.1 = cond-true (bytes_eq first.0 second.0) _ _ ((bytes_eq-Decides first.0 second.0).1 ids) in
    let homes : first.1 ≡ second.1 = cc (found_first first firsts, e first.0, there) in
    let same = same_held first second ids homes in
    let rest = same_programmes firsts seconds behind distinct.1 (found_behind first second firsts seconds same behind distinct.0 e) in
    cc (same, rest)

-- Entries have one matrix.
one_matrix : (entries : List Entry) (table other : SeatTable) → IsMatrix entries table → IsMatrix entries other → table ≡ other
one_matrix entries table other a b = λ i. record { programmes = programmes i; steps = steps i }
  where
    programmes : table.programmes ≡ other.programmes
    programmes = same_programmes table.programmes other.programmes (a.programmes ∙ sym b.programmes) (subst Distinct (sym a.programmes) (codes-distinct [] entries tt)) (λ code. a.homes code ∙ sym (b.homes code))

    steps : table.steps ≡ other.steps
    steps = a.steps ∙ sym b.steps

-- ---- what rows give is sound

-- a programme has a home where its code is among the codes
home_known : (entries : List Entry) (code : List ℕ) → is_some (home_at code entries) ≡ list_any (bytes_eq code) (codes_of entries)
home_known entries code =
    ap (λ (o : Option Home). is_some o) (sym (programmes-found code [] entries)) ∙ known_code code (programmes_after [] entries)
    ∙ ap (λ (codes : List (List ℕ)). list_any (bytes_eq code) codes) (programmes-codes [] entries)

codes-behind : (codes : List (List ℕ)) (code : List ℕ) → AreCodes codes → is_code code ≡ true → AreCodes (codes ++ code ∷ [])
codes-behind [] code all e = (e, tt)
codes-behind (first ∷ codes) code all e = (all.0, codes-behind codes code all.1 e)

codes-with : (codes : List (List ℕ)) (code : List ℕ) → AreCodes codes → is_code code ≡ true → AreCodes (with_code codes code)
codes-with codes code all e = by (list_any (bytes_eq code) codes)
  where
    by : (known : Bool) → AreCodes (cond known codes (codes ++ code ∷ []))
    by true = all
    by false = codes-behind codes code all e

-- the entries are sound, and their codes are spelled
abbrev AreSound : List Entry → Type 0
AreSound entries = AreEntries entries × AreCodes (codes_of entries)

no_entries : AreSound []
no_entries = (record { seated = λ code step seating e. cc e; lists = λ code home e. cc e; few = omega arith; total = omega arith }, tt)

-- Each row that gives an entry keeps the entries sound.
row_sound : (entries : List Entry) (row : Row) (entry : Entry) → AreSound entries → reading entries row ≡ Ok entry → AreSound (entries ++ entry ∷ [])
row_sound entries row entry sound e =
    let accepted = seats.accepted entries row entry e in (
      seats.entries-step entries entry sound.0 accepted (home_known entries entry.programme),
      subst AreCodes (sym (seats.codes-push [] entries entry)) (codes-with (codes_of entries) entry.programme sound.1 accepted.code),
    )

entries_sound : (rows : List Row) (entries : List Entry) → entries_of rows ≡ Ok entries → AreSound entries
entries_sound rows entries e = all-hold reading AreSound row_sound BadHeader header rows entries no_entries e

-- ---- one reading

-- Rows have exactly one reading.
pub one_reading : (rows : List Row) → HaveOneReading rows
one_reading rows =
    let given = entries_of rows in
    record {
      some = some_reading given IsMatrix (λ entries. (record { programmes = programmes_after [] entries; steps = map (seatings_in entries) (codes_of entries) }, matrix_of entries));
      apart = apart_reading given IsMatrix;
      sound = λ table read. seats.matrix_sound read.0 table (entries_sound rows read.0 read.1).0 read.2;
      spelled = λ table read. subst AreCodes (sym read.2.programmes) (entries_sound rows read.0 read.1).1;
      one_value = one_value given IsMatrix one_matrix;
      one_fault = one_fault given;
    }
