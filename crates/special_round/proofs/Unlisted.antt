-- Where lists have no row of a candidate with a final row, such a candidate has no list, and so no seat of a round over them.
use Rattle.std.proofs.Common.{◌≡◌, ◌<◌, ◌+◌, inl, inr, ℕ, Bool, true, false, List, [], ◌∷◌, ◌++◌, drop, Option, Some, None, Result, Ok, length, map, arith, refl, sym, ap, ◌∙◌, subst, ◌==◌, if◌then◌else◌}
use Rattle.std.specs.Option.{option_and_then}
use Rattle.std.proofs.lemmas.Bool.{cases_Bool, eqb-true}
use Rattle.std.proofs.lemmas.Option.{slice_get_within}
use Rattle.office_base.specs.Limits.{last_id}
use Rattle.office_base.specs.Person.{at_person}
use Rattle.office_base.specs.declared.seat.Seat.{Seat}
use Rattle.office_base.specs.declared.person.Person.{Person}
use Rattle.office_base.specs.declared.person.ProgId.{ProgId}
use Rattle.office_base.proofs.Lists.{there_is}
use Rattle.office_text.specs.Number.{number_within}
use Rattle.section_rows.specs.Rows.{Row, field}
use Rattle.section_rows.proofs.TableLemmas.{all-along}
use Rattle.section_rows.proofs.StepsLemmas.{after_ok, first_of-other}
use Rattle.kept_rows.specs.declared.rows.AllotRow.{AllotRow}
use Rattle.rank_lists.specs.Register.{AreRanks, Ranks, find_person}
use Rattle.rank_lists.proofs.Known.{found_id}
use Rattle.seat_matrix.specs.Matrix.{SeatTable}
use Rattle.choice_lists.specs.Choices.{Entry, IsRead, Lists, choices, entries_of, header, list_at, list_of, listed, new_candidate, reading}
use Rattle.choice_lists.specs.declared.fault.ChoiceKind.TheVariants.{BadHeader}
use Rattle.seeks.specs.Seek.{seek_leaves}
use Rattle.seeks.specs.declared.seek.Seek.{Seek}
use Rattle.choice_lists.proofs.ChoicesLemmas.{new_candidate_ok}
use Rattle.choice_lists.proofs.FoundLemmas.{listed-or-none}
use Rattle.allocations.specs.Market.{place_of}
use Rattle.rounds.specs.Round.{IsRound}
use Rattle.rounds.specs.Rule.{nobody, seekers_of}
use Rattle.rounds.specs.declared.round.Round.{Round}
use Rattle.rounds.proofs.Entrants.{entered, length_seekers}
use Rattle.round_laws.specs.Laws.{lists_in}
use Rattle.round_laws.proofs.People.{stands_at}
use Rattle.round_laws.proofs.Season.{aligned_length, length_lists, list_at_place}
use Rattle.special_round.specs.Season.{admitted_from, first_admitted, has_final, is_admitted}

-- ---- whose a row is

spelled : (number : Option ℕ) (people : List Person) (person : Person) → option_and_then (λ id. find_person id people) number ≡ Some person → number ≡ Some person.id.0
spelled None people person e = absurd (cc)
spelled (Some id) people person e = ap Some (sym (found_id id people person e))

ok_one : {X Kind : Type 0} (r : Result X Kind) (a x : X) → r ≡ Ok a → r ≡ Ok x → a ≡ x
ok_one r a x e f = cc

-- an entry is of the candidate whose id the first field of its row spells
entry_is : (ranks : Ranks) (seats : SeatTable) (entries : List Entry) (row : Row) (entry : Entry) → reading ranks seats entries row ≡ Ok entry
    → number_within 1 last_id (field row 0) ≡ Some entry.candidate
unfolding reading
entry_is ranks seats entries row entry e =
    let (person, new, rest) = after_ok (new_candidate ranks entries row) _ entry e in
    let (programmes, all, made) = after_ok (choices seats person [] (drop 1 row)) _ entry rest in
    let same : record { candidate = person.id.0; programmes = programmes } ≡ entry = ok_one (Ok (record { candidate = person.id.0; programmes = programmes })) _ entry refl made in
    spelled (number_within 1 last_id (field row 0)) ranks.people person (new_candidate_ok ranks entries row person new).found ∙ ap (λ (z : Entry). Some z.candidate) same

-- ---- those without a row

-- where an entry is of another candidate, a candidate has no list after it either
with_none : (ranks : Ranks) (seats : SeatTable) (id : ℕ) (finals : List AllotRow) (entries : List Entry) (row : Row) (entry : Entry) → reading ranks seats entries row ≡ Ok entry
    → has_final id finals ≡ true → is_admitted (number_within 1 last_id (field row 0)) finals ≡ false → list_at id entries ≡ None → list_at id (entries ++ entry ∷ []) ≡ None
with_none ranks seats id finals entries row entry gave final apart none =
    let mine = entry_is ranks seats entries row entry gave in
    let no : has_final entry.candidate finals ≡ false = subst (λ n. is_admitted n finals ≡ false) mine apart in
    let other : (id == entry.candidate) ≡ false = elim (cases_Bool (id == entry.candidate)) [
      | inl same ↦ absurd (let e : has_final id finals ≡ false = subst (λ n. has_final n finals ≡ false) (sym (eqb-true id entry.candidate same)) no in cc)
      | inr e ↦ e
    ] in
    first_of-other (λ entry. id == entry.candidate) (λ entry. entry.programmes) entries entry other ∙ none

admitted_rest : (finals : List AllotRow) (number : ℕ) (row : Row) (rows : List Row) → admitted_from finals number (row ∷ rows) ≡ None
    → (is_admitted (number_within 1 last_id (field row 0)) finals ≡ false) × (admitted_from finals (number + 1) rows ≡ None)
admitted_rest finals number row rows e = by (is_admitted (number_within 1 last_id (field row 0)) finals) refl e
  where
    by : (b : Bool) → is_admitted (number_within 1 last_id (field row 0)) finals ≡ b → (if b then Some number else admitted_from finals (number + 1) rows) ≡ None
        → (b ≡ false) × (admitted_from finals (number + 1) rows ≡ None)
    by true is e = absurd (cc)
    by false is e = (refl, e)

-- a candidate has no list so far, and no further row is the candidate's
abbrev HasNone : ℕ → List AllotRow → List Entry → List Row → Type 0
HasNone id finals entries rows = (list_at id entries ≡ None) × ((number : ℕ) × (admitted_from finals number rows ≡ None))

no_list_of : (ranks : Ranks) (seats : SeatTable) (id : ℕ) (finals : List AllotRow) (rows : List Row) (entries : List Entry) → has_final id finals ≡ true → first_admitted finals rows ≡ None
    → entries_of ranks seats rows ≡ Ok entries → list_at id entries ≡ None
no_list_of ranks seats id finals [] entries final nobody e = cc e
no_list_of ranks seats id finals (first ∷ rows) entries final nobody e =
    (all-along (reading ranks seats) (HasNone id finals)
    (λ before row rest entry has gave.
    let (apart, later) = admitted_rest finals has.1.0 row rest has.1.1 in
    (with_none ranks seats id finals before row entry gave final apart has.0, (has.1.0 + 1, later)))
    BadHeader header first rows entries (refl, (2, nobody)) e).0

-- a candidate who has a final row has the empty list
pub unlisted : (ranks : Ranks) (seats : SeatTable) (id : ℕ) (finals : List AllotRow) (rows : List Row) (lists : Lists) → has_final id finals ≡ true → first_admitted finals rows ≡ None
    → IsRead ranks seats rows lists → list_of lists id ≡ []
unlisted ranks seats id finals rows lists final nobody read =
    ap (λ (ls : Lists). list_of ls id) read.2 ∙ elim (listed-or-none ranks read.0 id) [
      | inl e ↦ e ∙ ap listed (no_list_of ranks seats id finals rows read.0 final nobody read.1)
      | inr e ↦ e
    ]

-- ---- no seat

-- who seeks nothing has no seat
pub unseated : (version number : ℕ) (table : SeatTable) (ranks : Ranks) (lists : Lists) (seeks : List Seek) (round : Round) (id : ℕ) → AreRanks ranks
    → map (λ (held : ℕ × List ProgId). held.0) lists ≡ map (λ (p : Person). p.id.0) ranks.people → length seeks ≡ length (lists_in lists)
    → IsRound version nobody table ranks.people (lists_in lists) number seeks round → list_of lists id ≡ [] → option_and_then (λ (seat : Option Seat). seat) (at_person id ranks.people round.seats) ≡ None
unseated version number table ranks lists seeks round id sound aligned full made empty = by (at_person id ranks.people round.seats) refl
  where
    none : (seat : Seat) → at_person id ranks.people round.seats ≡ Some (Some seat) → ⊥
    none seat e =
        let stands = stands_at id ranks.people round.seats (Some seat) e in
        let below = slice_get_within ranks.people stands.place stands.person stands.person_at in
        let all = length_lists lists ∙ aligned_length lists ranks.people aligned in
        let many = length_seekers table ranks.people (lists_in lists) seeks all full in
        let found = there_is (seekers_of table ranks.people (lists_in lists) seeks) stands.place (omega (arith, below, many)) in
        let entry = entered table ranks.people (lists_in lists) seeks stands.place found.0 found.1 in
        let same : found.0.person ≡ stands.person = (let a = entry.person_at in let b = stands.person_at in cc) in
        let mine = list_at_place lists ranks.people stands.place found.0.person entry.list aligned sound.rising entry.person_at entry.list_at in
        let is : found.0.person.id.0 ≡ id = ap (λ (z : Person). z.id.0) same ∙ stands.is in
        let nothing : entry.list ≡ [] = sym mine ∙ (ap (λ n. list_of lists n) is ∙ empty) in
        let seeks_none : found.0.list ≡ [] = subst (λ (l : List ProgId). found.0.list ≡ seek_leaves table entry.seek l) nothing entry.leaves in
        let own = made.best.fair.allocation.own stands.place found.0 (Some seat) found.1 stands.at in
        let less : 0 < 0 = subst (λ l. place_of l seat.prog.0 < length l) seeks_none own in
        omega (arith, less)

    by : (o : Option (Option Seat)) → at_person id ranks.people round.seats ≡ o → option_and_then (λ (seat : Option Seat). seat) o ≡ None
    by None e = refl
    by (Some None) e = refl
    by (Some (Some seat)) e = absurd (none seat e)
