-- What one more entry changes of choices in the making.
use Rattle.std.proofs.Common.{◌≡◌, lt-ltb, le-ltb, ℕ, zero, suc, Bool, true, false, List, [], ◌∷◌, ◌++◌, Option, Some, None, Ok, Err, length, refl, sym, ap, subst, ◌∙◌, cond, arith, add-one, map}
use Rattle.std.specs.Prelude.{◌==◌, ◌||◌, ◌<◌, ◌≤◌, ◌+◌, ◌-◌, IsSome, is_some, nat_lt, drop, option_map, replicate, slice_get, slice_index_or, slice_set}
use Rattle.std.specs.List.{AllByRecursion}
use Rattle.std.proofs.lemmas.Bool.{eqb-false, eqb-true, eq-eqb, ne_eqb}
use Rattle.std.proofs.lemmas.List.{length-drop, length-replicate}
use Rattle.std.proofs.lemmas.Option.{get_or_from_slice_get, slice_get_within}
use Rattle.office_base.specs.Limits.{most_choices, most_row_choices}
use Rattle.office_base.specs.Lists.{Pairwise}
use Rattle.office_base.specs.declared.person.Person.{Person}
use Rattle.office_base.specs.declared.person.ProgId.{ProgId}
use Rattle.section_rows.specs.Rows.{Row, field}
use Rattle.section_rows.specs.Steps.{first_of, or_else, unless}
use Rattle.section_rows.proofs.StepsLemmas.{first_of-other, first_of-push, first_of-same}
use Rattle.rank_lists.specs.Register.{AreRanks, Ranks, find_person, row_of}
use Rattle.rank_lists.proofs.MadeLemmas.{above_same}
use Rattle.seat_matrix.specs.Matrix.{SeatTable}
use Rattle.choice_lists.specs.Choices.{AreChoices, AreKept, Entry, IsChoice, Lists, choices, choices_after, is_chosen, list_at, list_of, listed, lists_along, lists_for, new_candidate, person_of, reading, all_choices}
use Rattle.choice_lists.specs.Builder.{Keeps, along}
use Rattle.choice_lists.specs.declared.builder.ChoicesBuilder.{ChoicesBuilder}
use Rattle.choice_lists.specs.declared.fault.ChoiceKind.{ChoiceKind}
use Rattle.choice_lists.specs.declared.fault.ChoiceKind.TheVariants.{RepeatedCandidate, TooLong, TooMany}
use Rattle.choice_lists.proofs.FoundLemmas.{lists-found}
use Rattle.choice_lists.proofs.ChoicesLemmas.{IsNew, choices_ok, good_choice, is_chosen-push, new_candidate_ok}

choices-push : (count : ℕ) (entries : List Entry) (entry : Entry) → choices_after count (entries ++ entry ∷ []) ≡ choices_after count entries + length entry.programmes
choices-push count [] entry = refl
choices-push count (e ∷ entries) entry = choices-push (count + length e.programmes) entries entry

-- Each list is sound with one more.
pub sound-step : (ranks : Ranks) (seats : SeatTable) (entries : List Entry) (entry : Entry) → ((q : ℕ) → IsChoice ranks seats q (listed (list_at q entries))) → IsChoice ranks seats entry.candidate entry.programmes
    → (q : ℕ) → IsChoice ranks seats q (listed (list_at q (entries ++ entry ∷ [])))
sound-step ranks seats entries entry sound new q =
    subst (λ (o : Option (List ProgId)). IsChoice ranks seats q (listed o)) (sym (first_of-push (λ e. q == e.candidate) (λ e. e.programmes) entries entry))
    (by (list_at q entries) (q == entry.candidate) refl (sound q))
  where
    by : (o : Option (List ProgId)) (b : Bool) → (q == entry.candidate) ≡ b → IsChoice ranks seats q (listed o) → IsChoice ranks seats q (listed (or_else o (cond b (Some entry.programmes) None)))
    by (Some l) b e old = old
    by None true e old = subst (λ (k : ℕ). IsChoice ranks seats k entry.programmes) (sym (eqb-true q entry.candidate e)) new
    by None false e old = old

-- A row is read as its candidate and its programmes are.
pub reading-ok : (ranks : Ranks) (seats : SeatTable) (entries : List Entry) (row : Row) (person : Person) (progs : List ProgId) → new_candidate ranks entries row ≡ Ok person → choices seats person [] (drop 1 row) ≡ Ok progs
    → reading ranks seats entries row ≡ Ok (record { candidate = person.id.0; programmes = progs })
unfolding reading
reading-ok ranks seats entries row person progs c d = rw (c, d) refl

pub reading-bad-row : (ranks : Ranks) (seats : SeatTable) (entries : List Entry) (row : Row) (person : Person) (kind : ChoiceKind) → new_candidate ranks entries row ≡ Ok person → choices seats person [] (drop 1 row) ≡ Err kind
    → reading ranks seats entries row ≡ Err kind
unfolding reading
reading-bad-row ranks seats entries row person kind c d = rw (c, d) refl

pub reading-bad-candidate : (ranks : Ranks) (seats : SeatTable) (entries : List Entry) (row : Row) (kind : ChoiceKind) → new_candidate ranks entries row ≡ Err kind → reading ranks seats entries row ≡ Err kind
unfolding reading
reading-bad-candidate ranks seats entries row kind c = rw c refl

-- people rise by id
abbrev Rising : List Person → Type 0
Rising people = Pairwise (λ a b. a.id.0 < b.id.0) people

-- what goes along with the people has a person's at the person's position
pub along_at : {X : Type 0} (value : Option (List ProgId) → X) (entries : List Entry) (people : List Person) (q at : ℕ) → row_of q people ≡ Some at
    → slice_get (along value entries people) at ≡ Some (value (list_at q entries))
along_at value entries [] q at e = cc e
along_at {X} value entries (p ∷ people) q at e = by (q == p.id.0) refl (row_of q people) refl (along_at value entries people q) e
  where
    by : (b : Bool) → (q == p.id.0) ≡ b → (o : Option ℕ) → row_of q people ≡ o
        → ((n : ℕ) → row_of q people ≡ Some n → slice_get (along value entries people) n ≡ Some (value (list_at q entries)))
        → cond b (Some 0) (option_map (λ n. n + 1) o) ≡ Some at → slice_get (along value entries (p ∷ people)) at ≡ Some (value (list_at q entries))
    by true same o f more g =
        let here : 0 ≡ at = cc g in
        ap (λ (n : ℕ). slice_get (along value entries (p ∷ people)) n) (sym here) ∙ ap (λ (k : ℕ). Some (value (list_at k entries))) (sym (eqb-true q p.id.0 same))
    by false same None f more g = cc g
    by false same (Some n) f more g =
        let next : n + 1 ≡ at = cc g in
        let there : suc n ≡ at = sym (add-one n) ∙ next in
        ap (λ (k : ℕ). slice_get (along value entries (p ∷ people)) k) (sym there) ∙ more n f

-- an entry of another candidate changes nothing
list_at-other : (q : ℕ) (entries : List Entry) (entry : Entry) → (q ≡ entry.candidate → ⊥) → list_at q (entries ++ entry ∷ []) ≡ list_at q entries
list_at-other q entries entry ne = first_of-other (λ e. q == e.candidate) (λ e. e.programmes) entries entry (ne_eqb q entry.candidate ne)

list_at-same : (entries : List Entry) (entry : Entry) → list_at entry.candidate entries ≡ None → list_at entry.candidate (entries ++ entry ∷ []) ≡ Some entry.programmes
list_at-same entries entry none = first_of-same (λ e. entry.candidate == e.candidate) (λ e. e.programmes) entries entry none (eq-eqb entry.candidate entry.candidate refl)

-- an entry of somebody who is not among people changes nothing that goes along with them
along-others : {X : Type 0} (value : Option (List ProgId) → X) (entries : List Entry) (entry : Entry) (people : List Person) → AllByRecursion (λ (p : Person). entry.candidate < p.id.0) people
    → along value entries people ≡ along value (entries ++ entry ∷ []) people
along-others value entries entry [] all = refl
along-others {X} value entries entry (p ∷ people) all =
    let same = list_at-other p.id.0 entries entry (λ e. absurd (omega (arith, e, all.0))) in
    ap (λ (o : Option (List ProgId)). value o ∷ along value entries people) (sym same)
    ∙ ap (λ (xs : List X). value (list_at p.id.0 (entries ++ entry ∷ [])) ∷ xs) (along-others value entries entry people all.1)

-- What goes along with the people after one more entry: what it gives is at the position of its candidate.
pub along_set : {X : Type 0} (value : Option (List ProgId) → X) (entries : List Entry) (entry : Entry) (people : List Person) (at : ℕ) → Rising people → row_of entry.candidate people ≡ Some at
    → list_at entry.candidate entries ≡ None → slice_set (along value entries people) at (value (Some entry.programmes)) ≡ along value (entries ++ entry ∷ []) people
along_set value entries entry [] at rising e none = cc e
along_set {X} value entries entry (p ∷ people) at rising e none = by (entry.candidate == p.id.0) refl (row_of entry.candidate people) refl (λ n f. along_set value entries entry people n rising.1 f none) e
  where
    by : (b : Bool) → (entry.candidate == p.id.0) ≡ b → (o : Option ℕ) → row_of entry.candidate people ≡ o
        → ((n : ℕ) → row_of entry.candidate people ≡ Some n → slice_set (along value entries people) n (value (Some entry.programmes)) ≡ along value (entries ++ entry ∷ []) people)
        → cond b (Some 0) (option_map (λ n. n + 1) o) ≡ Some at → slice_set (along value entries (p ∷ people)) at (value (Some entry.programmes)) ≡ along value (entries ++ entry ∷ []) (p ∷ people)
    by true same o f more g =
        let here : 0 ≡ at = cc g in
        let id : entry.candidate ≡ p.id.0 = eqb-true entry.candidate p.id.0 same in
        let own : list_at p.id.0 (entries ++ entry ∷ []) ≡ Some entry.programmes = ap (λ (k : ℕ). list_at k (entries ++ entry ∷ [])) (sym id) ∙ list_at-same entries entry none in
        ap (λ (n : ℕ). slice_set (along value entries (p ∷ people)) n (value (Some entry.programmes))) (sym here)
        ∙ ap (λ (o : Option (List ProgId)). value o ∷ along value entries people) (sym own)
        ∙ ap (λ (xs : List X). value (list_at p.id.0 (entries ++ entry ∷ [])) ∷ xs) (along-others value entries entry people (above_same p.id.0 entry.candidate people (sym id) rising.0))
    by false same None f more g = cc g
    by false same (Some n) f more g =
        let next : n + 1 ≡ at = cc g in
        let there : suc n ≡ at = sym (add-one n) ∙ next in
        let other = list_at-other p.id.0 entries entry (λ h. eqb-false entry.candidate p.id.0 same (sym h)) in
        ap (λ (k : ℕ). slice_set (along value entries (p ∷ people)) k (value (Some entry.programmes))) (sym there)
        ∙ ap (λ (xs : List X). value (list_at p.id.0 entries) ∷ xs) (more n f)
        ∙ ap (λ (o : Option (List ProgId)). value o ∷ along value (entries ++ entry ∷ []) people) (sym other)

-- with no entries each list is empty and nobody had a row
pub along_nobody : {X : Type 0} (value : Option (List ProgId) → X) (people : List Person) → replicate (length people) (value None) ≡ along value [] people
along_nobody value [] = refl
along_nobody {X} value (p ∷ people) = ap (λ (xs : List X). value None ∷ xs) (along_nobody value people)

-- nobody named a programme last
pub nobody : (count n candidate : ℕ) → 1 ≤ candidate → (slice_index_or (replicate count 0) n 0 == candidate) ≡ false
nobody zero n candidate some = ne_eqb 0 candidate (λ e. absurd (omega (arith, e)))
nobody (suc count) zero candidate some = ne_eqb 0 candidate (λ e. absurd (omega (arith, e)))
nobody (suc count) (suc n) candidate some = nobody count n candidate some

-- who has an entry after one more is known, where the one who has it is
pub known-step : (ranks : Ranks) (entries : List Entry) (entry : Entry) → ((q : ℕ) → IsSome (list_at q entries) → IsSome (find_person q ranks.people)) → IsSome (find_person entry.candidate ranks.people)
    → (q : ℕ) → IsSome (list_at q (entries ++ entry ∷ [])) → IsSome (find_person q ranks.people)
known-step ranks entries entry known one q some = by (q == entry.candidate) refl
  where
    by : (b : Bool) → (q == entry.candidate) ≡ b → IsSome (find_person q ranks.people)
    by true e = subst (λ (k : ℕ). IsSome (find_person k ranks.people)) (sym (eqb-true q entry.candidate e)) one
    by false e = known q (subst (λ (o : Option (List ProgId)). IsSome o) (list_at-other q entries entry (eqb-false q entry.candidate e)) some)

-- who named no programme last before and is not the candidate did not afterwards
named-step : (entries : List Entry) (entry : Entry) (old new : List ℕ) → ((n q : ℕ) → 1 ≤ q → list_at q entries ≡ None → (slice_index_or old n 0 == q) ≡ false) → list_at entry.candidate entries ≡ None
    → ((n q : ℕ) → (entry.candidate == q) ≡ false → (slice_index_or old n 0 == q) ≡ false → (slice_index_or new n 0 == q) ≡ false)
    → (n q : ℕ) → 1 ≤ q → list_at q (entries ++ entry ∷ []) ≡ None → (slice_index_or new n 0 == q) ≡ false
named-step entries entry old new before fresh others n q some none = by (entry.candidate == q) refl
  where
    by : (b : Bool) → (entry.candidate == q) ≡ b → (slice_index_or new n 0 == q) ≡ false
    by true e =
        let same : entry.candidate ≡ q = eqb-true entry.candidate q e in
        cc (sym (list_at-same entries entry fresh) ∙ (subst (λ (k : ℕ). list_at k (entries ++ entry ∷ []) ≡ None) (sym same) none))
    by false e =
        let other : q ≡ entry.candidate → ⊥ = λ h. eqb-false entry.candidate q e (sym h) in
        others n q e (before n q some (sym (list_at-other q entries entry other) ∙ none))

-- What is kept with the entry of one more row.
pub keeps_step : (entries : List Entry) (row : Row) (person : Person) (at : ℕ) (progs : List ProgId) (old new : ChoicesBuilder)
    → Keeps entries old → new_candidate old.register.now entries row ≡ Ok person → row_of person.id.0 old.register.now.people ≡ Some at
    → choices old.matrix.now person [] (drop 1 row) ≡ Ok progs
    → new.register ≡ old.register → new.matrix ≡ old.matrix
    → new.lists ≡ slice_set old.lists at progs → new.had_row.items ≡ slice_set old.had_row.items at true
    → length new.named_last.items ≡ length old.named_last.items → length new.guesses.items ≡ length old.guesses.items
    → ((n q : ℕ) → (person.id.0 == q) ≡ false → (slice_index_or old.named_last.items n 0 == q) ≡ false → (slice_index_or new.named_last.items n 0 == q) ≡ false)
    → new.total ≡ old.total + length progs
    → Keeps (entries ++ record { candidate = person.id.0; programmes = progs } ∷ []) new
keeps_step entries row person at progs old new keeps c there d same_register same_matrix lists had_row marks guesses others total =
    let entry : Entry = record { candidate = person.id.0; programmes = progs } in
    let ranks : Ranks = old.register.now in
    let seats : SeatTable = old.matrix.now in
    let ranks_same : ranks ≡ new.register.now = sym (λ i. (same_register i).now) in
    let seats_same : seats ≡ new.matrix.now = sym (λ i. (same_matrix i).now) in
    let accepted : IsNew ranks entries row person = new_candidate_ok ranks entries row person c in
    let (good, count) = choices_ok seats person [] (drop 1 row) progs d (record { distinct = tt; ranked = tt }) in
    let fields = length-drop 1 row in
    let sound = sound-step ranks seats entries entry keeps.sound (good_choice ranks seats person progs accepted.known good (omega (arith, accepted.short, count, fields))) in
    let known = known-step ranks entries entry keeps.known (ap is_some accepted.known) in
    record {
      ranks = rw ranks_same at keeps.ranks;
      sound = λ q. subst (λ (r : Ranks). IsChoice r new.matrix.now q (listed (list_at q (entries ++ entry ∷ [])))) ranks_same
          (subst (λ (s : SeatTable). IsChoice ranks s q (listed (list_at q (entries ++ entry ∷ [])))) seats_same (sound q));
      known = λ q some. subst (λ (r : Ranks). IsSome (find_person q r.people)) ranks_same (known q some);
      lists = lists ∙ ap (λ (ls : List (List ProgId)). slice_set ls at progs) keeps.lists ∙ along_set listed entries entry ranks.people at keeps.ranks.rising there accepted.fresh
          ∙ ap (λ (r : Ranks). along listed (entries ++ entry ∷ []) r.people) ranks_same;
      had_row = had_row ∙ ap (λ (bs : List Bool). slice_set bs at true) keeps.had_row ∙ along_set is_some entries entry ranks.people at keeps.ranks.rising there accepted.fresh
          ∙ ap (λ (r : Ranks). along is_some (entries ++ entry ∷ []) r.people) ranks_same;
      marks = marks ∙ keeps.marks ∙ ap (λ (s : SeatTable). length s.programmes) seats_same;
      guesses = guesses ∙ keeps.guesses;
      named_last = named-step entries entry old.named_last.items new.named_last.items keeps.named_last accepted.fresh others;
      total = omega (arith, total, keeps.total, choices-push 0 entries entry);
      few = omega (arith, choices-push 0 entries entry, accepted.room, count, fields);
    }

-- people with their ids and their lists
zip_people : (entries : List Entry) (people : List Person) → lists_along (map (λ person. person.id.0) people) (along listed entries people) ≡ map (λ person. (person.id.0, listed (list_at person.id.0 entries))) people
zip_people entries [] = refl
zip_people entries (p ∷ people) = ap (λ (ls : Lists). (p.id.0, listed (list_at p.id.0 entries)) ∷ ls) (zip_people entries people)

-- The lists that were made are those of the people.
pub made : (entries : List Entry) (builder : ChoicesBuilder) → Keeps entries builder → lists_along (map (λ person. person.id.0) builder.register.now.people) builder.lists ≡ lists_for builder.register.now entries
made entries builder keeps =
    ap (λ (ls : List (List ProgId)). lists_along (map (λ person. person.id.0) builder.register.now.people) ls) keeps.lists ∙ zip_people entries builder.register.now.people

pub made_sound : (entries : List Entry) (builder : ChoicesBuilder) → Keeps entries builder
    → AreChoices builder.register.now builder.matrix.now (lists_along (map (λ person. person.id.0) builder.register.now.people) builder.lists)
made_sound entries builder keeps q =
    subst (IsChoice builder.register.now builder.matrix.now q)
    (sym (ap (λ (ls : Lists). list_of ls q) (made entries builder keeps) ∙ lists-found builder.register.now entries keeps.known q)) (keeps.sound q)

pub ids_of-people : (entries : List Entry) (people : List Person) → map (λ (held : ℕ × List ProgId). held.0) (map (λ person. (person.id.0, listed (list_at person.id.0 entries))) people) ≡ map (λ person. person.id.0) people
ids_of-people entries [] = refl
ids_of-people entries (p ∷ people) = ap (λ (ids : List ℕ). p.id.0 ∷ ids) (ids_of-people entries people)

pub made_aligned : (entries : List Entry) (builder : ChoicesBuilder) → Keeps entries builder
    → map (λ (held : ℕ × List ProgId). held.0) (lists_along (map (λ person. person.id.0) builder.register.now.people) builder.lists) ≡ map (λ person. person.id.0) builder.register.now.people
made_aligned entries builder keeps =
    ap (λ (ls : Lists). map (λ (held : ℕ × List ProgId). held.0) ls) (made entries builder keeps) ∙ ids_of-people entries builder.register.now.people

ids_above : (id : ℕ) (people : List Person) → AllByRecursion (λ (p : Person). id < p.id.0) people → AllByRecursion (λ (n : ℕ). id < n) (map (λ person. person.id.0) people)
ids_above id [] all = tt
ids_above id (p ∷ people) all = (all.0, ids_above id people all.1)

ids_rise : (people : List Person) → Rising people → Pairwise (λ (a b : ℕ). a < b) (map (λ person. person.id.0) people)
ids_rise [] rising = tt
ids_rise (p ∷ people) rising = (ids_above p.id.0 people rising.0, ids_rise people rising.1)

length_along : (entries : List Entry) (people : List Person) → length (map (λ (person : Person). person.id.0) people) ≡ length (along listed entries people)
length_along entries [] = refl
length_along entries (p ∷ people) = ap suc (length_along entries people)

pub made_kept : (entries : List Entry) (builder : ChoicesBuilder) → Keeps entries builder → AreKept (map (λ person. person.id.0) builder.register.now.people) builder.lists
made_kept entries builder keeps = record {
  rising = ids_rise builder.register.now.people keeps.ranks.rising;
  count = length_along entries builder.register.now.people ∙ ap (λ (ls : List (List ProgId)). length ls) (sym keeps.lists);
  sound = λ q. let sound = made_sound entries builder keeps q in (sound.distinct, sound.short);
}

-- whether the person at a position of the register had a row
pub had_at : (entries : List Entry) (builder : ChoicesBuilder) (q at : ℕ) (b d : Bool) → Keeps entries builder → row_of q builder.register.now.people ≡ Some at
    → b ≡ slice_index_or builder.had_row.items at d → is_some (list_at q entries) ≡ b
had_at entries builder q at b d keeps there e =
    sym (e ∙ ap (λ (bs : List Bool). slice_index_or bs at d) keeps.had_row ∙ get_or_from_slice_get (along is_some entries builder.register.now.people) at _ d (along_at is_some entries builder.register.now.people q at there))

-- the position of somebody is within what goes along with the people
along_within : {X : Type 0} (value : Option (List ProgId) → X) (entries : List Entry) (people : List Person) (q at : ℕ) → row_of q people ≡ Some at → at < length (along value entries people)
along_within value entries people q at e = slice_get_within (along value entries people) at _ (along_at value entries people q at e)

pub lists_within : (entries : List Entry) (builder : ChoicesBuilder) (q at : ℕ) → Keeps entries builder → row_of q builder.register.now.people ≡ Some at → at < length builder.lists
lists_within entries builder q at keeps e =
    let within = along_within listed entries builder.register.now.people q at e in
    omega (arith, within, ap (λ (ls : List (List ProgId)). length ls) keeps.lists)

pub had_within : (entries : List Entry) (builder : ChoicesBuilder) (q at : ℕ) → Keeps entries builder → row_of q builder.register.now.people ≡ Some at → at < length builder.had_row.items
had_within entries builder q at keeps e =
    let within = along_within is_some entries builder.register.now.people q at e in
    omega (arith, within, ap (λ (bs : List Bool). length bs) keeps.had_row)

-- A new candidate named no programme last.
pub apart : (entries : List Entry) (builder : ChoicesBuilder) (row : Row) (person : Person) (n : ℕ) → Keeps entries builder → new_candidate builder.register.now entries row ≡ Ok person
    → (slice_index_or builder.named_last.items n 0 == person.id.0) ≡ false
apart entries builder row person n keeps e =
    let new : IsNew builder.register.now entries row person = new_candidate_ok builder.register.now entries row person e in
    keeps.named_last n person.id.0 (keeps.ranks.registered person.id.0 person new.known).low new.fresh

-- the marks with one more programme named by somebody
mark_same : (named : List ℕ) (k id : ℕ) → k < length named → slice_index_or (slice_set named k id) k 0 ≡ id
mark_same [] k id within = absurd (omega arith)
mark_same (m ∷ named) zero id within = refl
mark_same (m ∷ named) (suc k) id within = mark_same named k id (omega arith)

mark_other : (named : List ℕ) (k id n : ℕ) → (n ≡ k → ⊥) → slice_index_or (slice_set named k id) n 0 ≡ slice_index_or named n 0
mark_other [] k id n ne = refl
mark_other (m ∷ named) zero id zero ne = absurd (ne refl)
mark_other (m ∷ named) zero id (suc n) ne = refl
mark_other (m ∷ named) (suc k) id zero ne = refl
mark_other (m ∷ named) (suc k) id (suc n) ne = mark_other named k id n (λ e. ne (ap suc e))

pub marks_chosen : (named : List ℕ) (k id n : ℕ) (prog : ProgId) (progs : List ProgId) → k ≡ prog.0 → k < length named → (slice_index_or named n 0 == id) ≡ is_chosen n progs
    → (slice_index_or (slice_set named k id) n 0 == id) ≡ is_chosen n (progs ++ prog ∷ [])
marks_chosen named k id n prog progs e within before = by (n == k) refl ∙ ap (λ (m : ℕ). n == m || is_chosen n progs) e ∙ sym (is_chosen-push n progs prog)
  where
    by : (b : Bool) → (n == k) ≡ b → (slice_index_or (slice_set named k id) n 0 == id) ≡ (n == k || is_chosen n progs)
    by true f =
        let same : n ≡ k = eqb-true n k f in
        let here : slice_index_or (slice_set named k id) n 0 ≡ id = ap (λ (m : ℕ). slice_index_or (slice_set named k id) m 0) same ∙ mark_same named k id within in
        eq-eqb (slice_index_or (slice_set named k id) n 0) id here ∙ sym (ap (λ (b : Bool). b || is_chosen n progs) f)
    by false f =
        ap (λ (m : ℕ). m == id) (mark_other named k id n (eqb-false n k f)) ∙ before ∙ sym (ap (λ (b : Bool). b || is_chosen n progs) f)

pub marks_others : (named : List ℕ) (k id n q : ℕ) → (id == q) ≡ false → (slice_index_or named n 0 == q) ≡ false → (slice_index_or (slice_set named k id) n 0 == q) ≡ false
marks_others [] k id n q e f = f
marks_others (m ∷ named) zero id zero q e f = e
marks_others (m ∷ named) zero id (suc n) q e f = f
marks_others (m ∷ named) (suc k) id zero q e f = f
marks_others (m ∷ named) (suc k) id (suc n) q e f = marks_others named k id n q e f

-- How the candidate of a row is tested.
pub candidate_tests : (ranks : Ranks) (entries : List Entry) (row : Row) (person : Person) → Some person ≡ person_of ranks (field row 0)
    → new_candidate ranks entries row ≡ unless (is_some (list_at person.id.0 entries)) RepeatedCandidate (unless (nat_lt most_row_choices (length row - 1)) TooLong (unless (nat_lt most_choices (all_choices entries + (length row - 1))) TooMany (Ok person)))
candidate_tests ranks entries row person e = rw (← e) refl

pub tests_had : (ranks : Ranks) (entries : List Entry) (row : Row) (person : Person) → Some person ≡ person_of ranks (field row 0) → is_some (list_at person.id.0 entries) ≡ true
    → new_candidate ranks entries row ≡ Err RepeatedCandidate
tests_had ranks entries row person e f = candidate_tests ranks entries row person e ∙ (rw f refl)

pub tests_long : (ranks : Ranks) (entries : List Entry) (row : Row) (person : Person) → Some person ≡ person_of ranks (field row 0) → is_some (list_at person.id.0 entries) ≡ false
    → most_row_choices < length row - 1 → new_candidate ranks entries row ≡ Err TooLong
tests_long ranks entries row person e f g =
    let long : nat_lt most_row_choices (length row - 1) ≡ true = lt-ltb most_row_choices (length row - 1) g in
    candidate_tests ranks entries row person e ∙ (rw (f, long) refl)

pub tests_many : (ranks : Ranks) (entries : List Entry) (row : Row) (person : Person) → Some person ≡ person_of ranks (field row 0) → is_some (list_at person.id.0 entries) ≡ false
    → length row - 1 ≤ most_row_choices → most_choices < all_choices entries + (length row - 1) → new_candidate ranks entries row ≡ Err TooMany
tests_many ranks entries row person e f g h =
    let short : nat_lt most_row_choices (length row - 1) ≡ false = le-ltb most_row_choices (length row - 1) g in
    let many : nat_lt most_choices (all_choices entries + (length row - 1)) ≡ true = lt-ltb most_choices (all_choices entries + (length row - 1)) h in
    candidate_tests ranks entries row person e ∙ (rw (f, short, many) refl)

pub tests_none : (ranks : Ranks) (entries : List Entry) (row : Row) (person : Person) → Some person ≡ person_of ranks (field row 0) → is_some (list_at person.id.0 entries) ≡ false
    → length row - 1 ≤ most_row_choices → all_choices entries + (length row - 1) ≤ most_choices → new_candidate ranks entries row ≡ Ok person
tests_none ranks entries row person e f g h =
    let short : nat_lt most_row_choices (length row - 1) ≡ false = le-ltb most_row_choices (length row - 1) g in
    let few : nat_lt most_choices (all_choices entries + (length row - 1)) ≡ false = le-ltb most_choices (all_choices entries + (length row - 1)) h in
    candidate_tests ranks entries row person e ∙ (rw (f, short, few) refl)

-- No lists, for a register and a matrix.
pub nothing_kept : (builder : ChoicesBuilder) (count places : ℕ) → AreRanks builder.register.now → count ≡ length builder.register.now.people → places ≡ length builder.matrix.now.programmes
    → builder.lists ≡ replicate count [] → builder.had_row.items ≡ replicate count false → builder.named_last.items ≡ replicate places 0 → length builder.guesses.items ≡ 65536 → builder.total ≡ 0 → Keeps [] builder
nothing_kept builder count places ranks e f lists had_row named guesses total = record {
  ranks = ranks;
  sound = λ q. record { distinct = tt; short = omega arith; numbers = tt; ranked = tt };
  known = λ q some. cc some;
  lists = lists ∙ ap (λ (n : ℕ). replicate n []) e ∙ along_nobody listed builder.register.now.people;
  had_row = had_row ∙ ap (λ (n : ℕ). replicate n false) e ∙ along_nobody is_some builder.register.now.people;
  marks = ap (λ (ns : List ℕ). length ns) named ∙ length-replicate places 0 ∙ f;
  named_last = λ n q some none. ap (λ (ns : List ℕ). slice_index_or ns n 0 == q) named ∙ nobody places n q some;
  guesses = guesses;
  total = total;
  few = omega arith;
}
