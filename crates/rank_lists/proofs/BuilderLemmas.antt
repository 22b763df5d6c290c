-- What one more entry adds.
use Rattle.std.proofs.Common.{◌≡◌, ℕ, zero, suc, Bool, true, false, cond, List, [], ◌∷◌, ◌++◌, Option, Some, None, Result, Ok, get_or, refl, sym, ap, subst, ◌∙◌, length-append, arith}
use Rattle.std.specs.Prelude.{◌==◌, ◌&&◌, ◌||◌, ◌<◌, ◌≤◌, ◌+◌, length, option_map, nat_le, bytes_eq, is_some, if◌then◌else◌}
use Rattle.std.specs.BTreeMap.{insert_entry}
use Rattle.std.specs.Bool.{one_answer}
use Rattle.std.specs.Cmp.Lexicographic.{slice_cmp}
use Rattle.std.specs.List.{AllByRecursion}
use Rattle.std.specs.Ordering.{is_eq, match_ordering, nat_cmp}
use Rattle.std.specs.declared.cmp.Ordering.{Ordering}
use Rattle.std.specs.declared.cmp.Ordering.TheVariants.{Less, Equal, Greater}
use Rattle.std.proofs.lemmas.Bool.{leb-false}
use Rattle.std.proofs.Math.Bool.{or_assoc, or_comm}
use Rattle.std.proofs.lemmas.Map.Text.{is_eq-slice_cmp}
use Rattle.std.proofs.lemmas.Option.{cond_some}
use Rattle.std.proofs.lemmas.Slice.Eq.{bytes_eq-Decides}
use Rattle.office_base.specs.Limits.{last_id, most_candidates}
use Rattle.office_base.specs.declared.person.Person.{Person}
use Rattle.office_base.specs.declared.person.Place.{Place}
use Rattle.office_base.specs.Codes.{is_token}
use Rattle.office_text.specs.Number.{number_within}
use Rattle.office_text.specs.Traits.{traits_of, read_from, weighted_letters, is_dash}
use Rattle.section_rows.specs.Rows.{Row, field}
use Rattle.section_rows.specs.Steps.{after, needs, unless}
use Rattle.section_rows.proofs.StepsLemmas.{after_ok, flip, nat_at, needs_ok, number_found, step, unless_ok, within_range}
use Rattle.office_base.specs.Person.{number_of}
use Rattle.rank_lists.specs.Register.{any_relaxed, any_repeats, is_general, is_number, is_taken, place_at, reading, new_id, places_of, new_token, person_at, holder_at, token_of, IsRegistered}
use Rattle.rank_lists.specs.declared.entry.Entry.{Entry}
use Rattle.rank_lists.specs.Fields.{category_of, place_of}
use Rattle.rank_lists.specs.declared.fault.RankKind.{RankKind}
use Rattle.rank_lists.specs.declared.fault.RankKind.TheVariants.{BadId, RepeatedId, BadCategory, BadTrait, BadPlace, RepeatedPlace, RelaxedGeneral, BadToken, TooMany}
use Rattle.office_base.specs.declared.person.Category.{Category}
use Rattle.office_base.proofs.Options.{none_from}

-- the persons by id, with one more
pub person-step : (entries : List Entry) (entry : Entry) → person_at entry.person.id.0 entries ≡ None → (q : ℕ)
    → cond (is_eq (nat_cmp entry.person.id.0 q)) (Some entry.person) (person_at q entries) ≡ person_at q (entries ++ entry ∷ [])
person-step entries entry none q =
    step (λ e. q == e.person.id.0) (λ e. e.person) entries entry (is_eq (nat_cmp entry.person.id.0 q)) (number_found entry.person.id.0 q)
    (λ h. subst (λ (k : ℕ). person_at k entries ≡ None) ((nat_at entry.person.id.0 q).0 h) none)

-- the holders by token, with one more
pub holder-step : (entries : List Entry) (entry : Entry) → holder_at entry.token entries ≡ None → (q : List ℕ)
    → cond (is_eq (slice_cmp nat_cmp entry.token q)) (Some entry.person.id) (holder_at q entries) ≡ holder_at q (entries ++ entry ∷ [])
holder-step entries entry none q =
    let same : is_eq (slice_cmp nat_cmp entry.token q) ≡ bytes_eq entry.token q = is_eq-slice_cmp entry.token q in
    step (λ e. bytes_eq q e.token) (λ e. e.person.id) entries entry (is_eq (slice_cmp nat_cmp entry.token q))
    (same ∙ one_answer _ _ (bytes_eq-Decides entry.token q) (flip _ (bytes_eq-Decides q entry.token)))
    (λ h. subst (λ (k : List ℕ). holder_at k entries ≡ None) ((bytes_eq-Decides entry.token q).0 (sym same ∙ h)) none)

-- the numbers taken, with those of one more
is_taken-push : (l n : ℕ) (entries : List Entry) (entry : Entry) → is_taken l n (entries ++ entry ∷ []) ≡ (is_taken l n entries || is_number n (number_of (place_at entry.person.places l)))
is_taken-push l n [] entry = or_comm _ false
is_taken-push l n (e ∷ entries) entry = ap (λ (b : Bool). is_number n (number_of (place_at e.person.places l)) || b) (is_taken-push l n entries entry)
    ∙ sym (or_assoc (is_number n (number_of (place_at e.person.places l))) (is_taken l n entries) (is_number n (number_of (place_at entry.person.places l))))

-- The numbers taken in a list, with that of one more.
pub taken-step : (entries : List Entry) (entry : Entry) (l n : ℕ) (place : Place) (old new : Bool) → place ≡ place_at entry.person.places l
    → old ≡ is_taken l n entries → new ≡ (is_number n (number_of place) || old) → new ≡ is_taken l n (entries ++ entry ∷ [])
taken-step entries entry l n place old new here before e =
    e
    ∙ ap (λ (p : Place). is_number n (number_of p) || old) here
    ∙ ap (λ (b : Bool). is_number n (number_of (place_at entry.person.places l)) || b) before
    ∙ or_comm (is_number n (number_of (place_at entry.person.places l))) (is_taken l n entries)
    ∙ sym (is_taken-push l n entries entry)

-- Each person stays under the person's own id.
pub keyed-insert : (k : ℕ) (v : Person) (es : List (ℕ × Person)) → k ≡ v.id.0 → AllByRecursion (λ held. held.0 ≡ held.1.id.0) es → AllByRecursion (λ held. held.0 ≡ held.1.id.0) (insert_entry nat_cmp es k v)
keyed-insert k v [] e all = (e, tt)
keyed-insert k v (held ∷ es) e all = by (nat_cmp k held.0) refl (keyed-insert k v es e all.1)
  where
    by : (o : Ordering) → nat_cmp k held.0 ≡ o → AllByRecursion (λ held. held.0 ≡ held.1.id.0) (insert_entry nat_cmp es k v)
        → AllByRecursion (λ held. held.0 ≡ held.1.id.0) (match_ordering o ((k, v) ∷ held ∷ es) ((held.0, v) ∷ es) (held ∷ insert_entry nat_cmp es k v))
    by Less f more = (e, all)
    by Equal f more = (sym ((nat_at k held.0).0 (ap is_eq f)) ∙ e, all.1)
    by Greater f more = (all.0, more)

-- What a row gave is new to the entries, and within its ranges.
pub record IsAccepted (entries : List Entry) (entry : Entry) : Type 0 where
  pub few : length entries < most_candidates
  pub fresh : person_at entry.person.id.0 entries ≡ None
  pub unheld : holder_at entry.token entries ≡ None
  pub four : (a : Place) × (b : Place) × (c : Place) × (d : Place) × (entry.person.places ≡ a ∷ b ∷ c ∷ d ∷ [])
  pub apart : any_repeats entry.person.places entries ≡ false
  pub registered : IsRegistered entry.person
  pub token : is_token entry.token ≡ true

-- all the bits of letters
abbrev bits : List (ℕ × ℕ) → ℕ
bits [] = 0
bits (pair ∷ allowed) = pair.1 + bits allowed

-- the bits of letters are among those of the letters allowed
bits_within : (allowed : List (ℕ × ℕ)) (text : List ℕ) (n : ℕ) → read_from allowed text ≡ Some n → n ≤ bits allowed
bits_within [] [] n e = let z : 0 ≡ n = cc e in omega arith
bits_within [] (b ∷ text) n e = cc e
bits_within (pair ∷ allowed) [] n e = let z : 0 ≡ n = cc e in omega arith
bits_within (pair ∷ allowed) (b ∷ text) n e = by (pair.0 == b) e (read_from allowed text) refl (λ m. bits_within allowed text m) (λ m. bits_within allowed (b ∷ text) m)
  where
    by : (t : Bool) → cond t (option_map (λ m. pair.1 + m) (read_from allowed text)) (read_from allowed (b ∷ text)) ≡ Some n
        → (o : Option ℕ) → read_from allowed text ≡ o
        → ((m : ℕ) → read_from allowed text ≡ Some m → m ≤ bits allowed)
        → ((m : ℕ) → read_from allowed (b ∷ text) ≡ Some m → m ≤ bits allowed)
        → n ≤ pair.1 + bits allowed
    by true h None f here there = cc (rw f at h)
    by true h (Some m) f here there = let same : pair.1 + m ≡ n = cc (rw f at h) in omega (arith, here m f)
    by false h o f here there = omega (arith, there n h)

traits_within : (text : List ℕ) (n : ℕ) → traits_of text ≡ Some n → n < 64
traits_within text n e = by (is_dash text) e
  where
    by : (t : Bool) → cond t (Some 0) (read_from weighted_letters text) ≡ Some n → n < 64
    by true h = let z : 0 ≡ n = cc h in omega arith
    by false h = omega (arith, bits_within weighted_letters text n h)

-- the steps of reading a row, one behind the other
abbrev last : ℕ → Category → ℕ → List Place → List ℕ → Result Entry RankKind
last id category traits places token = Ok (record { person = record { id = record { 0 = id }; category = category; traits = record { 0 = traits }; places = places }; token = token })

abbrev with_token : List Entry → Row → ℕ → Category → ℕ → List Place → Result Entry RankKind
with_token entries row id category traits places = after (new_token entries (field row 3)) (last id category traits places)

abbrev with_general : List Entry → Row → ℕ → Category → ℕ → List Place → Result Entry RankKind
with_general entries row id category traits places = unless (is_general category && any_relaxed places) RelaxedGeneral (with_token entries row id category traits places)

abbrev with_places : List Entry → Row → ℕ → Category → ℕ → List Place → Result Entry RankKind
with_places entries row id category traits places = unless (any_repeats places entries) RepeatedPlace (with_general entries row id category traits places)

abbrev with_traits : List Entry → Row → ℕ → Category → ℕ → Result Entry RankKind
with_traits entries row id category traits = after (places_of row) (with_places entries row id category traits)

abbrev with_category : List Entry → Row → ℕ → Category → Result Entry RankKind
with_category entries row id category = needs (traits_of (field row 2)) BadTrait (with_traits entries row id category)

abbrev with_id : List Entry → Row → ℕ → Result Entry RankKind
with_id entries row id = needs (category_of (field row 1)) BadCategory (with_category entries row id)

-- a new id is new and within its range
id_accepted : (entries : List Entry) (row : Row) (id : ℕ) → new_id entries row ≡ Ok id → (length entries < most_candidates) × (1 ≤ id) × (id ≤ last_id) × (person_at id entries ≡ None)
id_accepted entries row id e =
    let (many, e1) = unless_ok (nat_le most_candidates (length entries)) TooMany (needs (number_within 1 last_id (field row 0)) BadId (λ n. unless (is_some (person_at n entries)) RepeatedId (Ok n))) id e in
    let (n, e2, e3) = needs_ok (number_within 1 last_id (field row 0)) BadId (λ n. unless (is_some (person_at n entries)) RepeatedId (Ok n)) id e1 in
    let (fresh, e4) = unless_ok (is_some (person_at n entries)) RepeatedId (Ok n) id e3 in
    let same : n ≡ id = cc e4 in
    let range = within_range 1 last_id n (field row 0) e2 in
    (leb-false most_candidates (length entries) many, omega (arith, range.0, same), omega (arith, range.1, same), subst (λ (k : ℕ). person_at k entries ≡ None) same (none_from (person_at n entries) fresh))

-- four places
places_accepted : (row : Row) (places : List Place) → places_of row ≡ Ok places → (a : Place) × (b : Place) × (c : Place) × (d : Place) × (places ≡ a ∷ b ∷ c ∷ d ∷ [])
places_accepted row places e =
    by (place_of (field row 4)) (place_of (field row 5)) (place_of (field row 6)) (place_of (field row 7)) (nat_le 9 (length row)) e
  where
    by : (a b c d : Option Place) (long : Bool)
        → needs a BadPlace (λ first. needs b BadPlace (λ second. needs c BadPlace (λ third. needs d BadPlace (λ fourth. unless long BadPlace (Ok (first ∷ second ∷ third ∷ fourth ∷ [])))))) ≡ Ok places
        → (a : Place) × (b : Place) × (c : Place) × (d : Place) × (places ≡ a ∷ b ∷ c ∷ d ∷ [])
    by None b c d long h = cc h
    by (Some p) None c d long h = cc h
    by (Some p) (Some q) None d long h = cc h
    by (Some p) (Some q) (Some r) None long h = cc h
    by (Some p) (Some q) (Some r) (Some s) true h = cc h
    by (Some p) (Some q) (Some r) (Some s) false h = (p, q, r, s, cc h)

-- a new token is a token, and held by nobody
token_accepted : (entries : List Entry) (text token : List ℕ) → new_token entries text ≡ Ok token → (is_token token ≡ true) × (holder_at token entries ≡ None)
token_accepted entries text token e =
    let (t, e1, e2) = needs_ok (token_of text) BadToken (λ t. unless (is_some (holder_at t entries)) BadToken (Ok t)) token e in
    let (free, e3) = unless_ok (is_some (holder_at t entries)) BadToken (Ok t) token e2 in
    let (spelled, same) = cond_some (is_token text) text t e1 in
    let one : t ≡ token = cc e3 in
    (ap is_token (sym (same ∙ one)) ∙ spelled, subst (λ (k : List ℕ). holder_at k entries ≡ None) one (none_from (holder_at t entries) free))

-- What is read is accepted.
pub accepted : (entries : List Entry) (row : Row) (entry : Entry) → reading entries row ≡ Ok entry → IsAccepted entries entry
unfolding reading
accepted entries row entry e =
    let (id, e1, r1) = after_ok (new_id entries row) (with_id entries row) entry e in
    let (category, e2, r2) = needs_ok (category_of (field row 1)) BadCategory (with_category entries row id) entry r1 in
    let (traits, e3, r3) = needs_ok (traits_of (field row 2)) BadTrait (with_traits entries row id category) entry r2 in
    let (places, e4, r4) = after_ok (places_of row) (with_places entries row id category traits) entry r3 in
    let (apart, r5) = unless_ok (any_repeats places entries) RepeatedPlace (with_general entries row id category traits places) entry r4 in
    let (general, r6) = unless_ok (is_general category && any_relaxed places) RelaxedGeneral (with_token entries row id category traits places) entry r5 in
    let (token, e5, r7) = after_ok (new_token entries (field row 3)) (last id category traits places) entry r6 in
    let new = id_accepted entries row id e1 in
    let held = token_accepted entries (field row 3) token e5 in
    let made : Entry = record { person = record { id = record { 0 = id }; category = category; traits = record { 0 = traits }; places = places }; token = token } in
    let same : made ≡ entry = cc r7 in
    subst (IsAccepted entries) same (record {
      few = new.0;
      fresh = new.3;
      unheld = held.1;
      four = places_accepted row places e4;
      apart = apart;
      registered = record { low = new.1; high = new.2; traits = traits_within (field row 2) traits e3; general = general };
      token = held.0;
    })

-- One more is counted, where it is new.
pub count-step : (old : Option Person) (m n : ℕ) (entries : List Entry) (entry : Entry) → old ≡ None → n ≡ m + (if is_some old then 0 else 1) → m ≡ length entries → n ≡ length (entries ++ entry ∷ [])
count-step None m n entries entry e f g = omega (arith, f, g, length-append entries (entry ∷ []))
count-step (Some p) m n entries entry e f g = cc e

-- A place that is there, by its number.
pub place-there : (places : List Place) (x : Place) (l : ℕ) → l < length places → get_or places l x ≡ place_at places l
place-there [] x l less = absurd (omega arith)
place-there (p ∷ places) x zero less = refl
place-there (p ∷ places) x (suc l) less = place-there places x l (omega arith)
