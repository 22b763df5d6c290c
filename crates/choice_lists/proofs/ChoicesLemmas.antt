-- What a row of choices that is read has passed.
use Rattle.std.proofs.Common.{◌≡◌, ℕ, Bool, true, false, List, [], ◌∷◌, ◌++◌, Option, Some, None, Result, Ok, length, refl, sym, ap, subst, ◌∙◌, cond, arith, length-append}
use Rattle.std.specs.Prelude.{◌==◌, ◌||◌, ◌<◌, ◌≤◌, ◌+◌, ◌-◌, not, nat_lt, is_some, IsTrue, drop, slice_get}
use Rattle.std.specs.List.{AllByRecursion}
use Rattle.std.specs.Option.{option_and_then}
use Rattle.std.proofs.Math.Numerals.{add-one}
use Rattle.std.proofs.Math.Seq.{drop-cons}
use Rattle.std.proofs.lemmas.Bool.{eq-eqb, eqb-true, ltb-false, not-false}
use Rattle.std.proofs.lemmas.Option.{slice_get_within}
use Rattle.office_base.specs.Limits.{last_id, most_choices, most_row_choices}
use Rattle.office_base.specs.declared.person.Person.{Person}
use Rattle.office_base.specs.declared.person.ProgId.{ProgId}
use Rattle.office_base.proofs.Options.{none_from}
use Rattle.section_rows.specs.Rows.{Row, field}
use Rattle.section_rows.specs.Steps.{after, unless}
use Rattle.section_rows.proofs.StepsLemmas.{after_ok, needs_ok, unless_ok}
use Rattle.rank_lists.specs.Register.{Ranks, find_person, row_of}
use Rattle.seat_matrix.specs.Matrix.{SeatTable}
use Rattle.seat_matrix.specs.declared.entry.Home.{Home}
use Rattle.office_text.specs.Number.{number_within}
use Rattle.choice_lists.specs.Choices.{AreDistinct, Entry, IsChoice, all_choices, choice, choices, is_chosen, is_ranked, is_ranked_for, is_ranked_there, list_at, new_candidate, person_of, programme_of}
use Rattle.choice_lists.specs.declared.fault.ChoiceKind.{ChoiceKind}
use Rattle.choice_lists.specs.declared.fault.ChoiceKind.TheVariants.{UnknownCandidate, RepeatedCandidate, UnknownProgramme, RepeatedProgramme, NotRankedThere, TooLong, TooMany}

-- who is found has the id that was looked for
same_id : (n : ℕ) (people : List Person) (person : Person) → find_person n people ≡ Some person → n ≡ person.id.0
same_id n [] person e = cc e
same_id n (p ∷ people) person e = by (n == p.id.0) refl e (same_id n people person)
  where
    by : (b : Bool) → (n == p.id.0) ≡ b → cond b (Some p) (find_person n people) ≡ Some person → (find_person n people ≡ Some person → n ≡ person.id.0) → n ≡ person.id.0
    by true f h more = let one : p ≡ person = cc h in eqb-true n p.id.0 f ∙ ap (λ (q : Person). q.id.0) one
    by false f h more = more h

-- a person is found by the person's own id
found_self : (n : ℕ) (people : List Person) (person : Person) → find_person n people ≡ Some person → find_person person.id.0 people ≡ Some person
found_self n people person e = subst (λ (k : ℕ). find_person k people ≡ Some person) (same_id n people person e) e

-- the person at the position of an id has that position
pub row_own : (people : List Person) (id at : ℕ) (person : Person) → Some at ≡ row_of id people → slice_get people at ≡ find_person id people → slice_get people at ≡ Some person
    → row_of person.id.0 people ≡ Some at
row_own people id at person e f g =
    let same = same_id id people person (sym f ∙ g) in
    ap (λ (k : ℕ). row_of k people) (sym same) ∙ sym e

-- the person of a text is found by the person's own id
pub known : (ranks : Ranks) (person : Person) (o : Option ℕ) → option_and_then (λ id. find_person id ranks.people) o ≡ Some person → find_person person.id.0 ranks.people ≡ Some person
known ranks person None e = cc e
known ranks person (Some n) e = found_self n ranks.people person e

-- A new candidate is known and new, and there is room for the row.
pub record IsNew (ranks : Ranks) (entries : List Entry) (row : Row) (person : Person) : Type 0 where
  pub found : person_of ranks (field row 0) ≡ Some person
  pub known : find_person person.id.0 ranks.people ≡ Some person
  pub fresh : list_at person.id.0 entries ≡ None
  pub short : length row - 1 ≤ most_row_choices
  pub room : all_choices entries + (length row - 1) ≤ most_choices

pub new_candidate_ok : (ranks : Ranks) (entries : List Entry) (row : Row) (person : Person) → new_candidate ranks entries row ≡ Ok person → IsNew ranks entries row person
new_candidate_ok ranks entries row person e =
    let (p, e1, e2) = needs_ok (person_of ranks (field row 0)) UnknownCandidate
    (λ p. unless (is_some (list_at p.id.0 entries)) RepeatedCandidate (unless (nat_lt most_row_choices (length row - 1)) TooLong (unless (nat_lt most_choices (all_choices entries + (length row - 1))) TooMany (Ok p)))) person e in
    let (fresh, e3) = unless_ok (is_some (list_at p.id.0 entries)) RepeatedCandidate (unless (nat_lt most_row_choices (length row - 1)) TooLong (unless (nat_lt most_choices (all_choices entries + (length row - 1))) TooMany (Ok p))) person e2 in
    let (short, e4) = unless_ok (nat_lt most_row_choices (length row - 1)) TooLong (unless (nat_lt most_choices (all_choices entries + (length row - 1))) TooMany (Ok p)) person e3 in
    let (room, e5) = unless_ok (nat_lt most_choices (all_choices entries + (length row - 1))) TooMany (Ok p) person e4 in
    let same : p ≡ person = cc e5 in
    subst (IsNew ranks entries row) same (record {
      found = e1;
      known = known ranks p (number_within 1 last_id (field row 0)) e1;
      fresh = none_from (list_at p.id.0 entries) fresh;
      short = ltb-false most_row_choices (length row - 1) short;
      room = ltb-false most_choices (all_choices entries + (length row - 1)) room;
    })

-- a choice is new to the row, and the person has a place there
choice_ok : (seats : SeatTable) (person : Person) (chosen : List ProgId) (text : List ℕ) (prog : ProgId) → choice seats person chosen text ≡ Ok prog
    → (is_chosen prog.0 chosen ≡ false) × (is_ranked seats person prog.0 ≡ true)
choice_ok seats person chosen text prog e =
    let (n, e1, e2) = needs_ok (programme_of seats text) UnknownProgramme (λ n. unless (is_chosen n chosen) RepeatedProgramme (unless (not (is_ranked seats person n)) NotRankedThere (Ok (record { 0 = n })))) prog e in
    let (fresh, e3) = unless_ok (is_chosen n chosen) RepeatedProgramme (unless (not (is_ranked seats person n)) NotRankedThere (Ok (record { 0 = n }))) prog e2 in
    let (ranked, e4) = unless_ok (not (is_ranked seats person n)) NotRankedThere (Ok (record { 0 = n })) prog e3 in
    let made : ProgId = record { 0 = n } in
    let same : made ≡ prog = cc e4 in
    subst (λ (p : ProgId). (is_chosen p.0 chosen ≡ false) × (is_ranked seats person p.0 ≡ true)) same (fresh, not-false (is_ranked seats person n) ranked)

-- P holds of one more element
all_push : (P : ProgId → Type 0) (xs : List ProgId) (x : ProgId) → AllByRecursion P xs → P x → AllByRecursion P (xs ++ x ∷ [])
all_push P [] x all p = (p, tt)
all_push P (y ∷ xs) x all p = (all.0, all_push P xs x all.1 p)

-- distinct programmes with one that is not among them
distinct_push : (xs : List ProgId) (x : ProgId) → AreDistinct xs → is_chosen x.0 xs ≡ false → AreDistinct (xs ++ x ∷ [])
distinct_push [] x distinct e = (tt, tt)
distinct_push (y ∷ xs) x distinct e = by (x.0 == y.0) refl e (distinct_push xs x distinct.1)
  where
    by : (b : Bool) → (x.0 == y.0) ≡ b → (b || is_chosen x.0 xs) ≡ false → (is_chosen x.0 xs ≡ false → AreDistinct (xs ++ x ∷ [])) → AreDistinct (y ∷ (xs ++ x ∷ []))
    by true f h more = cc h
    by false f h more = (all_push (λ z. y.0 ≡ z.0 → ⊥) xs x distinct.0 (λ same. cc (f, eq-eqb x.0 y.0 (sym same))), more h)

-- distinct programmes in whose lists the person has a place
pub record AreGood (seats : SeatTable) (person : Person) (progs : List ProgId) : Type 0 where
  pub distinct : AreDistinct progs
  pub ranked : AllByRecursion (λ prog. is_ranked seats person prog.0 ≡ true) progs

-- The programmes of a row are good, and as many as the fields.
pub choices_ok : (seats : SeatTable) (person : Person) (chosen : List ProgId) (texts : List (List ℕ)) (progs : List ProgId) → choices seats person chosen texts ≡ Ok progs
    → AreGood seats person chosen → AreGood seats person progs × (length progs ≡ length chosen + length texts)
choices_ok seats person chosen [] progs e good =
    let same : chosen ≡ progs = cc e in
    (subst (AreGood seats person) same good, omega (arith, ap (λ (l : List ProgId). length l) same))
choices_ok seats person chosen (text ∷ texts) progs e good =
    let (prog, e1, e2) = after_ok (choice seats person chosen text) (λ prog. choices seats person (chosen ++ prog ∷ []) texts) progs e in
    let (fresh, ranked) = choice_ok seats person chosen text prog e1 in
    let (more, count) = choices_ok seats person (chosen ++ prog ∷ []) texts progs e2 (record {
      distinct = distinct_push chosen prog good.distinct fresh;
      ranked = all_push (λ p. is_ranked seats person p.0 ≡ true) chosen prog good.ranked ranked;
    }) in
    (more, omega (arith, count, length-append chosen (prog ∷ [])))

-- a ranked programme is one of the matrix
ranked_within : (seats : SeatTable) (person : Person) (n : ℕ) → is_ranked seats person n ≡ true → n < length seats.programmes
ranked_within seats person n e = by (slice_get seats.programmes n) refl e
  where
    by : (o : Option (List ℕ × Home)) → slice_get seats.programmes n ≡ o → is_ranked_for person o ≡ true → n < length seats.programmes
    by None f h = cc h
    by (Some held) f h = slice_get_within seats.programmes n held f

all_map : (P Q : ProgId → Type 0) (xs : List ProgId) → ((x : ProgId) → P x → Q x) → AllByRecursion P xs → AllByRecursion Q xs
all_map P Q [] f all = tt
all_map P Q (x ∷ xs) f all = (f x all.0, all_map P Q xs f all.1)

-- Good programmes are a sound list of the person.
pub good_choice : (ranks : Ranks) (seats : SeatTable) (person : Person) (progs : List ProgId) → find_person person.id.0 ranks.people ≡ Some person → AreGood seats person progs → length progs ≤ most_row_choices
    → IsChoice ranks seats person.id.0 progs
good_choice ranks seats person progs known good short = record {
  distinct = good.distinct;
  short = short;
  numbers = all_map (λ p. is_ranked seats person p.0 ≡ true) (λ p. p.0 < length seats.programmes) progs (λ p. ranked_within seats person p.0) good.ranked;
  ranked = all_map (λ p. is_ranked seats person p.0 ≡ true) (λ p. IsTrue (is_ranked_there seats (find_person person.id.0 ranks.people) p.0)) progs
      (λ p e. ap (λ (o : Option Person). is_ranked_there seats o p.0) known ∙ e) good.ranked;
}

-- A further programme is among those of the row.
pub is_chosen-push : (n : ℕ) (progs : List ProgId) (prog : ProgId) → is_chosen n (progs ++ prog ∷ []) ≡ (n == prog.0 || is_chosen n progs)
is_chosen-push n [] prog = refl
is_chosen-push n (p ∷ progs) prog = ap (λ (b : Bool). n == p.0 || b) (is_chosen-push n progs prog) ∙ swap (n == p.0) (n == prog.0) (is_chosen n progs)
  where
    swap : (a b c : Bool) → (a || (b || c)) ≡ (b || (a || c))
    swap true true c = refl
    swap true false c = refl
    swap false b c = refl

-- The fields from one on are its field and those behind it.
pub fields-from : (row : Row) (at : ℕ) → at < length row → drop at row ≡ field row at ∷ drop (at + 1) row
fields-from row at within = rw (add-one at) (drop-cons row at [] within)

-- One more programme of the row was read.
pub choices-more : (seats : SeatTable) (person : Person) (row : Row) (at : ℕ) (progs : List ProgId) (text : List ℕ) (prog : ProgId) → at < length row → text ≡ field row at → choice seats person progs text ≡ Ok prog
    → choices seats person progs (drop at row) ≡ choices seats person (progs ++ prog ∷ []) (drop (at + 1) row)
choices-more seats person row at progs text prog within e f =
    ap (λ (texts : List (List ℕ)). choices seats person progs texts) (fields-from row at within)
    ∙ ap (λ (r : Result ProgId ChoiceKind). after r (λ p. choices seats person (progs ++ p ∷ []) (drop (at + 1) row))) (ap (choice seats person progs) (sym e) ∙ f)
