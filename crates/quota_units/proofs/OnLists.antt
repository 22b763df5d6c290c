-- A candidate who has a unit on the list lives in a state that the unit is for.
use Rattle.std.proofs.Common.{◌≡◌, inl, inr, ℕ, zero, suc, Bool, true, false, not, List, [], ◌∷◌, ◌++◌, Option, Some, None, Result, Ok, map, drop, refl, sym, ap, subst, ◌∙◌, ◌==◌, if◌then◌else◌, arith}
use Rattle.std.specs.Prelude.{◌&&◌, bytes_eq, get_or, position, slice_get}
use Rattle.std.specs.Option.{option_and_then, option_map}
use Rattle.std.specs.Fmt.{decimal}
use Rattle.std.specs.List.{AllByRecursion}
use Rattle.std.proofs.lemmas.Bool.{eqb-true}
use Rattle.std.proofs.lemmas.List.Quantifiers.{position-Some}
use Rattle.std.proofs.lemmas.Slice.Eq.{bytes_eq-Decides}
use Rattle.office_base.specs.Limits.{last_id}
use Rattle.office_base.specs.declared.person.Person.{Person}
use Rattle.office_base.specs.declared.person.ProgId.{ProgId}
use Rattle.office_base.specs.Codes.{is_code}
use Rattle.office_text.specs.Number.{AreInverse, is_number, number_within, value_of}
use Rattle.section_rows.specs.Rows.{Row, field, rows_of}
use Rattle.section_rows.specs.Steps.{after, unless}
use Rattle.section_rows.proofs.StageLemmas.{not_both}
use Rattle.section_rows.proofs.StepsLemmas.{after_ok, needs_ok, unless_ok, within_range}
use Rattle.section_rows.proofs.TableLemmas.{all-along}
use Rattle.rank_lists.specs.Register.{Ranks, find_person}
use Rattle.seat_matrix.specs.Matrix.{SeatTable}
use Rattle.seat_matrix.specs.declared.entry.Home.{Home}
use Rattle.choice_lists.specs.Choices.{Entry, Lists, choice, choices, entries_of, header, is_chosen, is_ranked, list_at, list_of, listed, lists_for, new_candidate, person_of, programme_of, reading}
use Rattle.choice_lists.specs.declared.fault.ChoiceKind.{ChoiceKind}
use Rattle.choice_lists.specs.declared.fault.ChoiceKind.TheVariants.{BadHeader, UnknownProgramme, RepeatedProgramme, NotRankedThere}
use Rattle.quota_units.specs.Homes.{Homes}
use Rattle.office_base.specs.Lists.{IsAmong}
use Rattle.office_asks.specs.declared.ask.Request.{Request}
use Rattle.office_base.proofs.Lists.{all_push, all_among}
use Rattle.rank_lists.proofs.Known.{found_id}
use Rattle.choice_lists.proofs.ChoicesLemmas.{new_candidate_ok}
use Rattle.choice_lists.proofs.FoundLemmas.{listed-or-none}
use Rattle.season_file.specs.declared.content.Content.{Content}
use Rattle.quota_units.specs.Mapping.{mapped_from, mapped_rows}
use Rattle.quota_units.specs.Reads.{AllLiveRight, MappedGives}
use Rattle.quota_units.proofs.Living.{from-right}
use Rattle.quota_units.specs.Living.{AreRight, HasRight, IsRight}

-- ---- texts of candidates and of programmes

spelled : (a x y : Bool) (v n : ℕ) → (if a && x && y then Some v else None) ≡ Some n → (if a then Some v else None) ≡ Some n
spelled true true true v n e = e
spelled true true false v n e = absurd (cc)
spelled true false y v n e = absurd (cc)
spelled false x y v n e = absurd (cc)

text-is : AreInverse → (ranks : Ranks) (text : List ℕ) (person : Person) → person_of ranks text ≡ Some person → text ≡ decimal person.id.0
text-is inverse ranks text person e = by (number_within 1 last_id text) refl e
  where
    by : (o : Option ℕ) → number_within 1 last_id text ≡ o → option_and_then (λ id. find_person id ranks.people) o ≡ Some person → text ≡ decimal person.id.0
    by None found e = absurd (cc)
    by (Some id) found e =
        let high = (within_range 1 last_id id text found).1 in
        inverse.written_back text id (omega (arith, high)) (spelled (is_number text) _ _ (value_of text) id found) ∙ sym (ap decimal (found_id id ranks.people person e))

get-code : (programmes : List (List ℕ × Home)) (n : ℕ) (code : List ℕ) → option_map (λ held. held.0) (slice_get programmes n) ≡ Some code → get_or (map (λ held. held.0) programmes) n [] ≡ code
get-code [] zero code e = absurd (cc)
get-code [] (suc n) code e = absurd (cc)
get-code (held ∷ programmes) zero code e = cc
get-code (held ∷ programmes) (suc n) code e = get-code programmes n code e

code-is : (seats : SeatTable) (text : List ℕ) (n : ℕ) (code : List ℕ) → programme_of seats text ≡ Some n → option_map (λ held. held.0) (slice_get seats.programmes n) ≡ Some code → text ≡ code
code-is seats text n code e there = by (is_code text) e
  where
    by : (b : Bool) → option_and_then (λ c. position (bytes_eq c) (map (λ held. held.0) seats.programmes)) (if b then Some text else None) ≡ Some n → text ≡ code
    by true h =
        let found = position-Some (bytes_eq text) (map (λ held. held.0) seats.programmes) n [] h in
        (bytes_eq-Decides text (get_or (map (λ held. held.0) seats.programmes) n [])).0 found.1 ∙ get-code seats.programmes n code there
    by false h = absurd (cc)

-- ---- programmes, entries and lists

abbrev ok_prog : ProgId → Result ProgId ChoiceKind
ok_prog prog = Ok prog

progs-right : (units states : Homes) (seats : SeatTable) (person : Person) (candidate : ℕ) (chosen : List ProgId) (texts : Row) (progs : List ProgId) → choices seats person chosen texts ≡ Ok progs
    → AllByRecursion (HasRight seats units states candidate) chosen → AllByRecursion (IsRight units states (decimal candidate)) texts → AllByRecursion (HasRight seats units states candidate) progs
progs-right units states seats person candidate chosen [] progs e all right = let same : chosen ≡ progs = cc in subst (AllByRecursion (HasRight seats units states candidate)) same all
progs-right units states seats person candidate chosen (t ∷ texts) progs e all right =
    let (prog, here, next) = after_ok (choice seats person chosen t) (λ prog. choices seats person (chosen ++ prog ∷ []) texts) progs e in
    let (n, found, rest) = needs_ok (programme_of seats t) UnknownProgramme (λ n. unless (is_chosen n chosen) RepeatedProgramme (unless (not (is_ranked seats person n)) NotRankedThere (Ok (record { 0 = n })))) prog here in
    let (new, more) = unless_ok (is_chosen n chosen) RepeatedProgramme (unless (not (is_ranked seats person n)) NotRankedThere (Ok (record { 0 = n }))) prog rest in
    let (ranked, made) = unless_ok (not (is_ranked seats person n)) NotRankedThere (Ok (record { 0 = n })) prog more in
    let one : n ≡ prog.0 = number n prog made in
    progs-right units states seats person candidate (chosen ++ prog ∷ []) texts progs next
    (all_push (HasRight seats units states candidate) chosen prog all
    (λ code there. subst (IsRight units states (decimal candidate)) (code-is seats t n code found (ap (λ (k : ℕ). option_map (λ (held : List ℕ × Home). held.0) (slice_get seats.programmes k)) one ∙ there)) right.0)) right.1
  where
    number : (n : ℕ) (prog : ProgId) → ok_prog (record { 0 = n }) ≡ ok_prog prog → n ≡ prog.0
    number n prog e = let same : record { 0 = n } ≡ prog = cc in ap (λ (q : ProgId). q.0) same

abbrev pub RightEntry : SeatTable → Homes → Homes → Entry → Type 0
RightEntry seats units states entry = AllByRecursion (HasRight seats units states entry.candidate) entry.programmes

abbrev wanted : SeatTable → Row → Person → Result Entry ChoiceKind
wanted seats row person = after (choices seats person [] (drop 1 row)) (λ programmes. Ok (record { candidate = person.id.0; programmes = programmes }))

entry-right : AreInverse → (units states : Homes) (ranks : Ranks) (seats : SeatTable) (entries : List Entry) (row : Row) (entry : Entry) → reading ranks seats entries row ≡ Ok entry → AreRight units states row → RightEntry seats units states entry
unfolding reading
entry-right inverse units states ranks seats entries row entry e right =
    let (person, here, next) = after_ok (new_candidate ranks entries row) (wanted seats row) entry e in
    let (progs, chosen, made) = after_ok (choices seats person [] (drop 1 row)) (λ programmes. Ok (record { candidate = person.id.0; programmes = programmes })) entry next in
    let text = text-is inverse ranks (field row 0) person (new_candidate_ok ranks entries row person here).found in
    let same : record { candidate = person.id.0; programmes = progs } ≡ entry = cc in
    subst (RightEntry seats units states) same
    (progs-right units states seats person person.id.0 [] (drop 1 row) progs chosen tt (subst (λ (l : List ℕ). AllByRecursion (IsRight units states l) (drop 1 row)) text right))

-- The entries of right rows are right.
entries-right : AreInverse → (units states : Homes) (ranks : Ranks) (seats : SeatTable) (first : Row) (rows : List Row) (entries : List Entry) → AllByRecursion (AreRight units states) rows → entries_of ranks seats (first ∷ rows) ≡ Ok entries
    → AllByRecursion (RightEntry seats units states) entries
entries-right inverse units states ranks seats first rows entries right e =
    (all-along (reading ranks seats) (λ before rest. AllByRecursion (RightEntry seats units states) before × AllByRecursion (AreRight units states) rest)
    (λ before row rest entry held found. (all_push (RightEntry seats units states) before entry held.0 (entry-right inverse units states ranks seats before row entry found held.1.0), held.1.1))
    BadHeader header first rows entries (tt, right) e).0

-- The list of a candidate is right.
pub list-right : (units states : Homes) (seats : SeatTable) (entries : List Entry) (candidate : ℕ) (progs : List ProgId) → AllByRecursion (RightEntry seats units states) entries → list_at candidate entries ≡ Some progs
    → AllByRecursion (HasRight seats units states candidate) progs
list-right units states seats [] candidate progs all e = absurd (cc)
list-right units states seats (entry ∷ entries) candidate progs all e = by (list-right units states seats entries candidate progs all.1) (candidate == entry.candidate) refl e
  where
    by : (list_at candidate entries ≡ Some progs → AllByRecursion (HasRight seats units states candidate) progs) → (b : Bool) → (candidate == entry.candidate) ≡ b
        → (if b then Some entry.programmes else list_at candidate entries) ≡ Some progs → AllByRecursion (HasRight seats units states candidate) progs
    by next true is h =
        let same : entry.programmes ≡ progs = cc in
        subst (AllByRecursion (HasRight seats units states candidate)) same (subst (λ (c : ℕ). AllByRecursion (HasRight seats units states c) entry.programmes) (sym (eqb-true candidate entry.candidate is)) all.0)
    by next false is h = next h

-- ---- the lists of mapped rows

from-listed : (P : ProgId → Type 0) (o : Option (List ProgId)) (prog : ProgId) → ((progs : List ProgId) → o ≡ Some progs → AllByRecursion P progs) → IsAmong prog (listed o) → P prog
from-listed P None prog all here = absurd here
from-listed P (Some progs) prog all here = all_among P progs prog (all progs refl) here

mapped-entries : AreInverse → (units states : Homes) (ranks : Ranks) (seats : SeatTable) (rows mapped : List Row) (entries : List Entry) → mapped_rows units states rows ≡ Ok mapped → entries_of ranks seats mapped ≡ Ok entries
    → AllByRecursion (RightEntry seats units states) entries
mapped-entries inverse units states ranks seats [] mapped entries e gave =
    let none : [] ≡ mapped = cc in absurd (not_both (entries_of ranks seats []) entries (1, BadHeader) (ap (entries_of ranks seats) none ∙ gave) refl)
mapped-entries inverse units states ranks seats (first ∷ rows) mapped entries e gave =
    let (more, rest, made) = after_ok (mapped_from units states 2 rows) (λ more. Ok (first ∷ more)) mapped e in
    let same : first ∷ more ≡ mapped = cc in
    entries-right inverse units states ranks seats first more entries (from-right units states 2 rows more rest) (ap (entries_of ranks seats) same ∙ gave)

-- A candidate who has a unit on the list lives in a state that the unit is for.
pub live_right : AreInverse → (units states : Homes) (bundle : List ℕ) (content : Content) (script : List Request) → MappedGives units states bundle content script → AllLiveRight units states content
live_right inverse units states bundle content script h candidate prog code here there =
    let m = h.1.0 in
    let read = h.1.1.choices in
    let own = mapped-entries inverse units states content.register content.matrix (rows_of m.parts.choices) m.rows read.0 m.mapped (ap (entries_of content.register content.matrix) (sym m.spelled) ∙ read.1) in
    let among : IsAmong prog (list_of (lists_for content.register read.0) candidate) = subst (λ (lists : Lists). IsAmong prog (list_of lists candidate)) read.2 here in
    let mine : IsAmong prog (listed (list_at candidate read.0)) = elim (listed-or-none content.register read.0 candidate) [
      | inl e ↦ subst (IsAmong prog) e among
      | inr e ↦ absurd (subst (IsAmong prog) e among)
    ] in
    let right = from-listed (HasRight content.matrix units states candidate) (list_at candidate read.0) prog (λ progs found. list-right units states content.matrix read.0 candidate progs own found) mine code there in
    record { home = right.home; other = right.other }
