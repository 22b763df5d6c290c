-- What one more entry adds.
use Rattle.std.proofs.Common.{◌≡◌, ◌⊎◌, ◌≢◌, inl, inr, ℕ, zero, suc, Bool, true, false, cond, set, get_or, lit≤, length-set, get_or-set_same, get_or-set_other, List, [], ◌∷◌, ◌++◌, Option, Some, None, Result, Ok, length, map, refl, sym, ap, subst, ◌∙◌, length-append, arith}
use Rattle.std.specs.Prelude.{◌==◌, ◌&&◌, ◌<◌, ◌≤◌, ◌+◌, not, sum, nat_le, nat_lt, bytes_eq, is_some, option_map, slice_get}
use Rattle.std.specs.Bool.{one_answer}
use Rattle.std.specs.Cmp.Lexicographic.{slice_cmp}
use Rattle.std.specs.List.{list_any}
use Rattle.std.specs.Option.{option_and_then, unwrap_or}
use Rattle.std.specs.Ordering.{is_eq, nat_cmp}
use Rattle.std.proofs.lemmas.Bool.{and_parts, cases_Bool, cases_eq, cond-false, cond-true, cond_both, eq-eqb, eqb-false, eqb-true, false_from_ne_true, leb-false, ltb-false, ne_eqb}
use Rattle.std.proofs.lemmas.Grind.{get_or-set_at}
use Rattle.std.proofs.lemmas.List.{get_or-map, length-map}
use Rattle.std.proofs.lemmas.Option.{cond_some, get_or_from_slice_get}
use Rattle.std.proofs.lemmas.Map.Text.{is_eq-slice_cmp}
use Rattle.std.proofs.lemmas.Slice.Eq.{bytes_eq-Decides}
use Rattle.office_base.specs.CategorySteps.{own_steps}
use Rattle.office_base.specs.Codes.{is_code}
use Rattle.office_base.specs.Limits.{most_matrix_seats, most_programmes, most_step_seats}
use Rattle.office_base.specs.Person.{IsList}
use Rattle.office_base.specs.declared.step.StepKind.{StepKind}
use Rattle.office_base.specs.declared.step.StepKind.TheVariants.{Dereserved}
use Rattle.seat_matrix.proofs.Codes.{Distinct, code_apart, codes-distinct}
use Rattle.office_text.specs.Number.{number_within}
use Rattle.office_text.specs.Names.{code_of, step_of}
use Rattle.section_rows.specs.Rows.{Row, field}
use Rattle.section_rows.specs.Steps.{after, needs, unless}
use Rattle.section_rows.proofs.StepsLemmas.{after_ok, flip, found_cases, needs_ok, number_found, step, then_found, unless_ok, within_range}
use Rattle.office_base.specs.StepNumbers.{step_number}
use Rattle.office_base.proofs.Options.{none_from}
use Rattle.office_base.proofs.StepNumbers.{below_all, one_number, own_at}
use Rattle.seat_matrix.specs.Fields.{count_of, protections_of, seating_of}
use Rattle.seat_matrix.specs.Laws.{OneStepChanges}
use Rattle.seat_matrix.specs.Matrix.{AreEntries, AreSeats, IsMatrix, SeatTable, all_seats, codes_after, codes_in, codes_of, find_home, first_list, given, home_at, matrix_with, new_row, reading, seating_at, seating_in, seatings_in, seats_after, settles, steps_in, with_code}
use Rattle.seat_matrix.specs.Seats.{IsSeated, is_dereserved, no_seating, no_seatings, of_step, with_seating}
use Rattle.seat_matrix.specs.Builder.{step_cmp}
use Rattle.seat_matrix.specs.declared.entry.Entry.{Entry}
use Rattle.seat_matrix.specs.declared.entry.Home.{Home}
use Rattle.seat_matrix.specs.declared.seats.Seating.{Seating}
use Rattle.seat_matrix.specs.declared.seats.Seatings.{Seatings}
use Rattle.seat_matrix.specs.declared.fault.MatrixKind.{MatrixKind}
use Rattle.seat_matrix.specs.declared.fault.MatrixKind.TheVariants.{BadCode, RepeatedRow, BadNumber, ProtectionsExceedSeats, UnknownList, TwoInstitutes, TwoLists, TooMany}

-- the codes and the seats with one more entry
pub codes-push : (codes : List (List ℕ)) (entries : List Entry) (entry : Entry) → codes_after codes (entries ++ entry ∷ []) ≡ with_code (codes_after codes entries) entry.programme
codes-push codes [] entry = refl
codes-push codes (e ∷ entries) entry = codes-push (with_code codes e.programme) entries entry

pub seats-push : (seats : ℕ) (entries : List Entry) (entry : Entry) → seats_after seats (entries ++ entry ∷ []) ≡ seats_after seats entries + entry.seating.seats
seats-push seats [] entry = refl
seats-push seats (e ∷ entries) entry = seats-push (seats + e.seating.seats) entries entry

-- the steps of programmes compare by code and number
pub step_found : (code : List ℕ) (k : ℕ) (q : List ℕ) (t : ℕ) → is_eq (step_cmp (code, k) (q, t)) ≡ (bytes_eq q code && t == k)
step_found code k q t =
    then_found (slice_cmp nat_cmp code q) (nat_cmp k t)
    ∙ ap (λ (b : Bool). b && is_eq (nat_cmp k t)) (is_eq-slice_cmp code q ∙ one_answer _ _ (bytes_eq-Decides code q) (flip _ (bytes_eq-Decides q code)))
    ∙ ap (λ (b : Bool). bytes_eq q code && b) (number_found k t)

-- The seats of steps, with one more.
pub seating-step : (entries : List Entry) (entry : Entry) (k : ℕ) → k ≡ step_number entry.step → seating_at entry.programme (step_number entry.step) entries ≡ None → (q : List ℕ) (t : ℕ)
    → cond (is_eq (step_cmp (entry.programme, k) (q, t))) (Some entry.seating) (seating_at q t entries) ≡ seating_at q t (entries ++ entry ∷ [])
seating-step entries entry k e none q t =
    let test : is_eq (step_cmp (entry.programme, k) (q, t)) ≡ (bytes_eq q entry.programme && t == step_number entry.step) = step_found entry.programme k q t ∙ ap (λ (n : ℕ). bytes_eq q entry.programme && t == n) e in
    step (λ e. bytes_eq q e.programme && t == step_number e.step) (λ e. e.seating) entries entry (is_eq (step_cmp (entry.programme, k) (q, t))) test
    (λ h.
    let parts = and_parts (bytes_eq q entry.programme) (t == step_number entry.step) (sym test ∙ h) in
    let same_code : q ≡ entry.programme = (bytes_eq-Decides q entry.programme).0 parts.0 in
    let same_step : t ≡ step_number entry.step = eqb-true t (step_number entry.step) parts.1 in
    ap (λ (c : List ℕ). seating_at c t entries) same_code ∙ ap (λ (n : ℕ). seating_at entry.programme n entries) same_step ∙ none)

-- What a row gave is new to the entries, and within its ranges.
pub record IsAccepted (entries : List Entry) (entry : Entry) : Type 0 where
  pub fresh : seating_at entry.programme (step_number entry.step) entries ≡ None
  pub code : is_code entry.programme ≡ true
  pub seated : IsSeated entry.seating
  pub list : IsList entry.home.list
  pub few : home_at entry.programme entries ≡ None → length (codes_of entries) < most_programmes
  pub total : all_seats entries + entry.seating.seats ≤ most_matrix_seats

-- the steps of reading a row, one behind the other
abbrev with_home : List Entry → Row → List ℕ × List ℕ × StepKind → Seating → Home → Result Entry MatrixKind
with_home entries row p seating home = unless (nat_lt most_matrix_seats (all_seats entries + seating.seats)) TooMany (Ok (record { programme = p.0; home = home; step = p.2; seating = seating }))

abbrev with_list : List Entry → Row → List ℕ × List ℕ × StepKind → Seating → ℕ → Result Entry MatrixKind
with_list entries row p seating list = after (settles (home_at p.0 entries) (length (codes_of entries)) (record { institute = p.1; list = record { 0 = list } })) (with_home entries row p seating)

abbrev with_protections : List Entry → Row → List ℕ × List ℕ × StepKind → Seating → Result Entry MatrixKind
with_protections entries row p seating = needs (number_within 1 4 (field row 2)) UnknownList (with_list entries row p seating)

abbrev with_numbers : List Entry → Row → List ℕ × List ℕ × StepKind → Seating → Result Entry MatrixKind
with_numbers entries row p seating = unless (nat_lt seating.seats (sum seating.protections.counts)) ProtectionsExceedSeats (with_protections entries row p seating)

abbrev with_row : List Entry → Row → List ℕ × List ℕ × StepKind → Result Entry MatrixKind
with_row entries row p = needs (seating_of row) BadNumber (with_numbers entries row p)

-- a new row is new, and its programme has a code
row_accepted : (entries : List Entry) (row : Row) (p : List ℕ × List ℕ × StepKind) → new_row entries row ≡ Ok p → (seating_at p.0 (step_number p.2) entries ≡ None) × (is_code p.0 ≡ true)
row_accepted entries row p e = by (code_of (field row 0)) refl (code_of (field row 1)) (step_of (field row 3)) e
  where
    by : (a : Option (List ℕ)) → code_of (field row 0) ≡ a → (b : Option (List ℕ)) (s : Option StepKind)
        → needs a BadCode (λ programme. needs b BadCode (λ institute. needs s BadCode (λ step. unless (is_some (seating_at programme (step_number step) entries)) RepeatedRow (Ok (programme, institute, step))))) ≡ Ok p
        → (seating_at p.0 (step_number p.2) entries ≡ None) × (is_code p.0 ≡ true)
    by None f b s h = cc h
    by (Some a) f None s h = cc h
    by (Some a) f (Some b) None h = cc h
    by (Some a) f (Some b) (Some s) h =
        let (fresh, same) = unless_ok (is_some (seating_at a (step_number s) entries)) RepeatedRow (Ok (a, b, s)) p h in
        let one : (a, b, s) ≡ p = cc same in
        let (spelled, read) = cond_some (is_code (field row 0)) (field row 0) a f in
        subst (λ (q : List ℕ × List ℕ × StepKind). (seating_at q.0 (step_number q.2) entries ≡ None) × (is_code q.0 ≡ true)) one
        (none_from (seating_at a (step_number s) entries) fresh, ap is_code (sym read) ∙ spelled)

-- seats are at most 4,000
seats_within : (row : Row) (seating : Seating) → seating_of row ≡ Some seating → seating.seats ≤ most_step_seats
seats_within row seating e = by (count_of (field row 4)) refl (protections_of row) e
  where
    by : (o : Option ℕ) → count_of (field row 4) ≡ o → (p : Option (List ℕ))
        → option_and_then (λ seats. option_and_then (λ counts. Some (record { seats = seats; protections = record { counts = counts } })) p) o ≡ Some seating → seating.seats ≤ most_step_seats
    by None f p h = cc h
    by (Some n) f None h = cc h
    by (Some n) f (Some counts) h = let same : n ≡ seating.seats = cc (ap (λ (o : Option Seating). option_and_then (λ s. Some s.seats) o) h) in omega (arith, (within_range 0 most_step_seats n (field row 4) f).1, same)

-- a home that settles is the one asked for, and a new programme finds room
settled : (o : Option Home) (count : ℕ) (home result : Home) → settles o count home ≡ Ok result → (home ≡ result) × (o ≡ None → count < most_programmes)
settled None count home result e =
    let (many, same) = unless_ok (nat_le most_programmes count) TooMany (Ok home) result e in
    ((cc same), λ _. leb-false most_programmes count many)
settled (Some known) count home result e =
    let (one, e1) = unless_ok (not (bytes_eq known.institute home.institute)) TwoInstitutes (unless (not (known.list.0 == home.list.0)) TwoLists (Ok home)) result e in
    let (two, same) = unless_ok (not (known.list.0 == home.list.0)) TwoLists (Ok home) result e1 in
    ((cc same), λ h. cc h)

-- What is read is accepted.
pub accepted : (entries : List Entry) (row : Row) (entry : Entry) → reading entries row ≡ Ok entry → IsAccepted entries entry
unfolding reading
accepted entries row entry e =
    let (p, e1, r1) = after_ok (new_row entries row) (with_row entries row) entry e in
    let (seating, e2, r2) = needs_ok (seating_of row) BadNumber (with_numbers entries row p) entry r1 in
    let (covered, r3) = unless_ok (nat_lt seating.seats (sum seating.protections.counts)) ProtectionsExceedSeats (with_protections entries row p seating) entry r2 in
    let (list, e4, r4) = needs_ok (number_within 1 4 (field row 2)) UnknownList (with_list entries row p seating) entry r3 in
    let (home, e5, r5) = after_ok (settles (home_at p.0 entries) (length (codes_of entries)) (record { institute = p.1; list = record { 0 = list } })) (with_home entries row p seating) entry r4 in
    let (within, r6) = unless_ok (nat_lt most_matrix_seats (all_seats entries + seating.seats)) TooMany (Ok (record { programme = p.0; home = home; step = p.2; seating = seating })) entry r5 in
    let asked : Home = record { institute = p.1; list = record { 0 = list } } in
    let here = settled (home_at p.0 entries) (length (codes_of entries)) asked home e5 in
    let made : Entry = record { programme = p.0; home = home; step = p.2; seating = seating } in
    let same : made ≡ entry = cc r6 in
    let range = within_range 1 4 list (field row 2) e4 in
    let listed : IsList asked.list = (range.0, range.1) in
    subst (IsAccepted entries) same (record {
      fresh = (row_accepted entries row p e1).0;
      code = (row_accepted entries row p e1).1;
      seated = record { protections = ltb-false seating.seats (sum seating.protections.counts) covered; seats = seats_within row seating e2 };
      list = subst (λ (h : Home). IsList h.list) here.0 listed;
      few = here.1;
      total = ltb-false most_matrix_seats (all_seats entries + seating.seats) within;
    })

-- there is room for the codes with one more
with_code-few : (codes : List (List ℕ)) (code : List ℕ) (o : Option Home) → is_some o ≡ list_any (bytes_eq code) codes → length codes ≤ most_programmes → (o ≡ None → length codes < most_programmes) → length (with_code codes code) ≤ most_programmes
with_code-few codes code None e few room = rw (← e) (omega (arith, room refl, length-append codes (code ∷ [])))
with_code-few codes code (Some home) e few room = rw (← e) few

-- What holds of the entries holds with one more.
pub entries-step : (entries : List Entry) (entry : Entry) → AreEntries entries → IsAccepted entries entry → is_some (home_at entry.programme entries) ≡ list_any (bytes_eq entry.programme) (codes_of entries) → AreEntries (entries ++ entry ∷ [])
entries-step entries entry all accepted known = record {
  seated = λ code number seating e. elim (found_cases (λ e. bytes_eq code e.programme && number == step_number e.step) (λ e. e.seating) entries entry seating e) [
    | inl old ↦ all.seated code number seating old
    | inr new ↦ subst IsSeated new.1 accepted.seated
  ];
  lists = λ code home e. elim (found_cases (λ e. bytes_eq code e.programme) (λ e. e.home) entries entry home e) [
    | inl old ↦ all.lists code home old
    | inr new ↦ subst (λ (h : Home). IsList h.list) new.1 accepted.list
  ];
  few = rw (codes-push [] entries entry) (with_code-few (codes_of entries) entry.programme (home_at entry.programme entries) known all.few accepted.few);
  total = omega (arith, seats-push 0 entries entry, accepted.total);
}

-- what the entries give for each step is seated
given_seated : (entries : List Entry) → AreEntries entries → (code : List ℕ) (step : ℕ) → IsSeated (given (seating_at code step entries))
given_seated entries sound code step = by (seating_at code step entries) refl
  where
    by : (o : Option Seating) → seating_at code step entries ≡ o → IsSeated (given o)
    by None e = record { protections = omega arith; seats = omega arith }
    by (Some seating) e = sound.seated code step seating e

-- one number is another, or is not
cases_number : (a b : ℕ) → (a ≡ b) ⊎ (a ≢ b)
cases_number a b = cases_eq a b

-- the number of a step with seats of its own is below their count
pub own_number : (step : StepKind) → is_dereserved step ≡ false → step_number step < length own_steps
own_number step own = omega (arith, below_all step, eqb-false (step_number step) (step_number Dereserved) own)

-- what a list that is made for each step with seats of its own has for a step
pub made_at : (f : StepKind → Seating) (step : StepKind) → is_dereserved step ≡ false → of_step (record { own = map f own_steps }) step ≡ f step
made_at f step own =
    cond-false (is_dereserved step) no_seating (get_or (map f own_steps) (step_number step) no_seating) own
    ∙ get_or-map f own_steps (step_number step) step no_seating (own_number step own)
    ∙ ap f (get_or_from_slice_get own_steps (step_number step) step step (own_at step (own_number step own)))

-- the de-reserved step has no seats of its own
pub none_own : (steps : Seatings) (step : StepKind) → is_dereserved step ≡ true → of_step steps step ≡ no_seating
none_own steps step e = cond-true (is_dereserved step) no_seating (get_or steps.own (step_number step) no_seating) e

-- and so is what they give for a programme
pub steps_seated : (entries : List Entry) → AreEntries entries → (code : List ℕ) (kind : StepKind) → IsSeated (of_step (seatings_in entries code) kind)
steps_seated entries sound code kind = elim (cases_Bool (is_dereserved kind)) [
  | inl last ↦ subst IsSeated (sym (none_own (seatings_in entries code) kind last)) (record { protections = lit≤ tt; seats = lit≤ tt })
  | inr own ↦ subst IsSeated (sym (made_at (λ step. given (seating_at code (step_number step) entries)) kind own)) (given_seated entries sound code (step_number kind))
]

-- what holds of each image holds at each place
mapped_at : {X Y : Type 0} (f : X → Y) (P : Y → Type 0) (d : Y) → ((x : X) → P (f x)) → (xs : List X) (k : ℕ) → k < length xs → P (get_or (map f xs) k d)
mapped_at f P d each [] k below = absurd (omega arith)
mapped_at f P d each (x ∷ xs) zero below = each x
mapped_at f P d each (x ∷ xs) (suc k) below = mapped_at f P d each xs k (omega arith)

-- a programme of distinct ones is found by its code
found_at : (programmes : List (List ℕ × Home)) → Distinct (codes_in programmes) → (prog : ℕ) (held : List ℕ × Home) → slice_get programmes prog ≡ Some held → find_home held.0 programmes ≡ Some held.1
found_at [] distinct prog held e = cc e
found_at (first ∷ programmes) distinct zero held e =
    let same : first ≡ held = cc e in
    cond-true (bytes_eq held.0 first.0) _ _ ((bytes_eq-Decides held.0 first.0).1 (ap (λ (h : List ℕ × Home). h.0) (sym same))) ∙ ap (λ (h : List ℕ × Home). Some h.1) same
found_at (first ∷ programmes) distinct (suc prog) held e =
    let other = code_apart first.0 programmes prog held distinct.0 e in
    cond-false (bytes_eq held.0 first.0) _ _ (false_from_ne_true (bytes_eq held.0 first.0) (λ t. other (sym ((bytes_eq-Decides held.0 first.0).0 t)))) ∙ found_at programmes distinct.1 prog held e

-- the list of a programme by its number
pub list_sound : (programmes : List (List ℕ × Home)) (prog : ℕ) → prog < length programmes → ((held : List ℕ × Home) → slice_get programmes prog ≡ Some held → IsList held.1.list)
    → IsList (unwrap_or (option_map (λ held. held.1.list) (slice_get programmes prog)) first_list)
list_sound programmes prog below each = by (slice_get programmes prog) refl
  where
    by : (o : Option (List ℕ × Home)) → slice_get programmes prog ≡ o → IsList (unwrap_or (option_map (λ held. held.1.list) o) first_list)
    by None e = (lit≤ tt, lit≤ tt)
    by (Some held) e = each held e

-- The matrix of sound entries is sound.
pub matrix_sound : (entries : List Entry) (table : SeatTable) → AreEntries entries → IsMatrix entries table → AreSeats table
matrix_sound entries table sound matrix =
    let codes : Distinct (codes_in table.programmes) = subst Distinct (sym matrix.programmes) (codes-distinct [] entries tt) in
    let count : length table.programmes ≡ length (codes_of entries) = omega (arith, ap (λ (l : List (List ℕ)). length l) matrix.programmes, length-map table.programmes (λ (held : List ℕ × Home). held.0)) in
    let long : length table.steps ≡ length (codes_of entries) = ap (λ (l : List Seatings). length l) matrix.steps ∙ length-map (codes_of entries) (seatings_in entries) in
    record {
      codes = codes;
      few = omega (arith, sound.few);
      steps = omega arith;
      sound = λ prog below. record {
        list = list_sound table.programmes prog below (λ held e. sound.lists held.0 held.1 (sym (matrix.homes held.0) ∙ found_at table.programmes codes prog held e));
        steps = λ kind. subst (λ (l : List Seatings). IsSeated (of_step (get_or l prog no_seatings) kind)) (sym matrix.steps)
            (mapped_at (seatings_in entries) (λ steps. IsSeated (of_step steps kind)) no_seatings (λ code. steps_seated entries sound code kind) (codes_of entries) prog (omega arith));
      };
    }

-- ---- other seats in one step

-- the step has the seats that it was given
put_here : (steps : Seatings) (step : StepKind) (seating : Seating) → is_dereserved step ≡ false → of_step (with_seating steps step seating) step ≡ seating
put_here steps step seating own =
    made_at (λ other. cond (step_number other == step_number step) seating (of_step steps other)) step own
    ∙ cond-true (step_number step == step_number step) seating (of_step steps step) (eq-eqb (step_number step) (step_number step) refl)

-- each other step has its own
put_elsewhere : (steps : Seatings) (step kind : StepKind) (seating : Seating) → (kind ≡ step → ⊥) → of_step (with_seating steps step seating) kind ≡ of_step steps kind
put_elsewhere steps step kind seating apart = elim (cases_Bool (is_dereserved kind)) [
  | inl last ↦ none_own (with_seating steps step seating) kind last ∙ sym (none_own steps kind last)
  | inr own ↦
      made_at (λ other. cond (step_number other == step_number step) seating (of_step steps other)) kind own
      ∙ cond-false (step_number kind == step_number step) seating (of_step steps kind) (ne_eqb (step_number kind) (step_number step) (λ e. apart (one_number kind step e)))
]

-- A matrix with other seats in one step has them there, and is as before elsewhere.
pub one_step_changes : OneStepChanges
one_step_changes table prog step seating below plain =
    let old = steps_in table prog in
    let there : steps_in (matrix_with table prog step seating) prog ≡ with_seating old step seating = get_or-set_same table.steps prog (with_seating old step seating) no_seatings below in
    record {
      programmes = refl;
      here = ap (λ (steps : Seatings). of_step steps step) there ∙ put_here old step seating plain;
      elsewhere = λ other kind apart. elim (cases_number other prog) [
        | inl same ↦
            subst (λ (n : ℕ). seating_in (matrix_with table prog step seating) n kind ≡ seating_in table n kind) (sym same)
            (ap (λ (steps : Seatings). of_step steps kind) there ∙ put_elsewhere old step kind seating (apart same))
        | inr differs ↦ ap (λ (steps : Seatings). of_step steps kind) (get_or-set_other table.steps prog other (with_seating old step seating) no_seatings differs)
      ];
    }

-- sound seats of each step stay sound where a step gets others
put_seated : (steps : Seatings) (step kind : StepKind) (seating : Seating) → IsSeated seating → ((k : StepKind) → IsSeated (of_step steps k)) → IsSeated (of_step (with_seating steps step seating) kind)
put_seated steps step kind seating here each = elim (cases_Bool (is_dereserved kind)) [
  | inl last ↦ subst IsSeated (none_own steps kind last ∙ sym (none_own (with_seating steps step seating) kind last)) (each kind)
  | inr own ↦
      subst IsSeated (sym (made_at (λ other. cond (step_number other == step_number step) seating (of_step steps other)) kind own))
      (cond_both (step_number kind == step_number step) seating (of_step steps kind) IsSeated (λ _. here) (λ _. each kind))
]

-- A sound matrix with sound other seats in one step is sound.
pub with_sound : (table : SeatTable) (prog : ℕ) (step : StepKind) (seating : Seating) → AreSeats table → prog < length table.programmes → IsSeated seating → AreSeats (matrix_with table prog step seating)
with_sound table prog step seating sound below seated = record {
  codes = sound.codes;
  few = sound.few;
  steps = length-set table.steps prog (with_seating (steps_in table prog) step seating) ∙ sound.steps;
  sound = λ other within.
      let old = sound.sound other within in
      record {
        list = old.list;
        steps = λ kind. elim (cases_number other prog) [
          | inl same ↦
              let here : get_or (set table.steps prog (with_seating (steps_in table prog) step seating)) other no_seatings ≡ with_seating (steps_in table prog) step seating =
              get_or-set_at table.steps prog other (with_seating (steps_in table prog) step seating) no_seatings same (omega (arith, sound.steps)) in
              subst (λ (steps : Seatings). IsSeated (of_step steps kind)) (sym here) (put_seated (steps_in table prog) step kind seating seated (sound.sound prog below).steps)
          | inr differs ↦
              subst (λ (steps : Seatings). IsSeated (of_step steps kind)) (sym (get_or-set_other table.steps prog other (with_seating (steps_in table prog) step seating) no_seatings differs)) (old.steps kind)
        ];
      };
}
