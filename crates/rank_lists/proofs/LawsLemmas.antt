-- Rows have exactly one reading, and what they give is sound.
use Rattle.std.proofs.Common.{◌≡◌, ◌<◌, ◌≤◌, ◌⊎◌, inl, inr, ℕ, suc, Bool, true, false, cond, List, [], ◌∷◌, map, Option, Some, None, Result, Ok, Err, length, refl, sym, ap, subst, ◌∙◌, arith}
use Rattle.std.specs.Prelude.{◌==◌, ◌+◌, ◌++◌, T, IsTrue, bytes_eq, is_some, nat_lt, if◌then◌else◌}
use Rattle.std.specs.Cmp.Lexicographic.{nat_list_cmp_total, slice_cmp}
use Rattle.std.specs.FinMap.{find, is_sorted, nat_cmp-IsAntisymmetric, put as put_entry, slice_cmp-IsAntisymmetric}
use Rattle.std.specs.FinMap.Entries.{find-put, is_sorted-put, same_entries}
use Rattle.std.specs.Ordering.{is_eq, nat_cmp}
use Rattle.std.specs.List.{AllByRecursion}
use Rattle.std.proofs.lemmas.Map.Text.{is_eq-slice_cmp}
use Rattle.std.proofs.lemmas.Bool.{cases_order, cond-false, cond-true, eq-eqb, eqb-false, eqb-true, ltb-false, ltb-true, ne_eqb}
use Rattle.office_base.specs.Lists.{Pairwise}
use Rattle.office_base.specs.declared.person.CandId.{CandId}
use Rattle.office_base.specs.declared.person.Person.{Person}
use Rattle.section_rows.specs.Rows.{Row}
use Rattle.section_rows.proofs.TableLemmas.{all-hold, apart_reading, one_fault, one_value, some_reading}
use Rattle.rank_lists.specs.Laws.{HaveOneReading}
use Rattle.rank_lists.specs.Register.{AreEntries, AreRanks, IsRegister, Ranks, entries_of, find_holder, find_person, header, holder_at, person_at, reading}
use Rattle.rank_lists.specs.declared.entry.Entry.{Entry}
use Rattle.rank_lists.specs.declared.fault.RankKind.{RankKind}
use Rattle.rank_lists.specs.declared.fault.RankKind.TheVariants.{BadHeader}
use Rattle.rank_lists.proofs.BuilderLemmas.{IsAccepted, accepted}
use Rattle.rank_lists.proofs.EntriesLemmas.{entries-step}

-- people rise by id
abbrev Rising : List Person → Type 0
Rising people = Pairwise (λ a b. a.id.0 < b.id.0) people

-- each of the people has a greater id
abbrev Above : ℕ → List Person → Type 0
Above id people = AllByRecursion (λ person. id < person.id.0) people

-- the people with one more in the order of ids, in place of one with the same id
abbrev put : Person → List Person → List Person
put person [] = person ∷ []
put person (other ∷ people) = if nat_lt person.id.0 other.id.0 then person ∷ other ∷ people else if person.id.0 == other.id.0 then person ∷ people else other ∷ put person people

-- the people of entries
abbrev people_of : List Entry → List Person
people_of [] = []
people_of (entry ∷ entries) = put entry.person (people_of entries)

-- the tokens of entries, with those who hold them, in the order of tokens
abbrev holders_of : List Entry → List (List ℕ × CandId)
holders_of [] = []
holders_of (entry ∷ entries) = put_entry (slice_cmp nat_cmp) entry.token entry.person.id (holders_of entries)

above-less : (low id : ℕ) (people : List Person) → low ≤ id → Above id people → Above low people
above-less low id [] e all = tt
above-less low id (person ∷ people) e all = (omega (arith, all.0), above-less low id people e all.1)

above-put : (id : ℕ) (person : Person) (people : List Person) → id < person.id.0 → Above id people → Above id (put person people)
above-put id person [] e all = (e, tt)
above-put id person (other ∷ people) e all = by (nat_lt person.id.0 other.id.0) (person.id.0 == other.id.0) (above-put id person people e all.1)
  where
    by : (less same : Bool) → Above id (put person people) → Above id (cond less (person ∷ other ∷ people) (cond same (person ∷ people) (other ∷ put person people)))
    by true same more = (e, all)
    by false true more = (e, all.1)
    by false false more = (all.0, more)

-- One more person keeps the order.
rising-put : (person : Person) (people : List Person) → Rising people → Rising (put person people)
rising-put person [] rising = (tt, tt)
rising-put person (other ∷ people) rising = by (nat_lt person.id.0 other.id.0) refl (person.id.0 == other.id.0) refl (rising-put person people rising.1)
  where
    by : (less : Bool) → nat_lt person.id.0 other.id.0 ≡ less → (same : Bool) → (person.id.0 == other.id.0) ≡ same → Rising (put person people)
        → Rising (cond less (person ∷ other ∷ people) (cond same (person ∷ people) (other ∷ put person people)))
    by true e same f more =
        let below : person.id.0 < other.id.0 = ltb-true person.id.0 other.id.0 e in
        ((below, above-less person.id.0 other.id.0 people (omega arith) rising.0), rising)
    by false e true f more =
        let one : person.id.0 ≡ other.id.0 = eqb-true person.id.0 other.id.0 f in
        (above-less person.id.0 other.id.0 people (omega arith) rising.0, rising.1)
    by false e false f more =
        let above : other.id.0 ≤ person.id.0 = ltb-false person.id.0 other.id.0 e in
        let apart : person.id.0 ≡ other.id.0 → ⊥ = eqb-false person.id.0 other.id.0 f in
        (above-put other.id.0 person people (omega arith) rising.0, more)

-- two tests that are not both met may change places
swapped : {X : Type 0} (b c : Bool) (x y z : X) → (b ≡ true → c ≡ true → ⊥) → cond c y (cond b x z) ≡ cond b x (cond c y z)
swapped true true x y z apart = absurd (apart refl refl)
swapped true false x y z apart = refl
swapped false c x y z apart = refl

-- the first of two tests hides the other one where that is met no more often
hidden : {X : Type 0} (b c : Bool) (x y z : X) → (c ≡ true → b ≡ true) → cond b x z ≡ cond b x (cond c y z)
hidden true c x y z more = refl
hidden false true x y z more = cc (more refl)
hidden false false x y z more = refl

-- What is found with one more person.
found-put : (id : ℕ) (person : Person) (people : List Person) → find_person id (put person people) ≡ cond (id == person.id.0) (Some person) (find_person id people)
found-put id person [] = refl
found-put id person (other ∷ people) = by (nat_lt person.id.0 other.id.0) (person.id.0 == other.id.0) refl (found-put id person people)
  where
    by : (less same : Bool) → (person.id.0 == other.id.0) ≡ same → find_person id (put person people) ≡ cond (id == person.id.0) (Some person) (find_person id people)
        → find_person id (cond less (person ∷ other ∷ people) (cond same (person ∷ people) (other ∷ put person people))) ≡ cond (id == person.id.0) (Some person) (find_person id (other ∷ people))
    by true same f more = refl
    by false true f more = hidden (id == person.id.0) (id == other.id.0) (Some person) (Some other) (find_person id people)
        (λ g. eq-eqb id person.id.0 (eqb-true id other.id.0 g ∙ sym (eqb-true person.id.0 other.id.0 f)))
    by false false f more = ap (λ (o : Option Person). cond (id == other.id.0) (Some other) o) more
        ∙ swapped (id == person.id.0) (id == other.id.0) (Some person) (Some other) (find_person id people)
        (λ g h. eqb-false person.id.0 other.id.0 f (sym (eqb-true id person.id.0 g) ∙ eqb-true id other.id.0 h))

people_of-rising : (entries : List Entry) → Rising (people_of entries)
people_of-rising [] = tt
people_of-rising (entry ∷ entries) = rising-put entry.person (people_of entries) (people_of-rising entries)

people_of-found : (entries : List Entry) (id : ℕ) → find_person id (people_of entries) ≡ person_at id entries
people_of-found [] id = refl
people_of-found (entry ∷ entries) id = found-put id entry.person (people_of entries) ∙ ap (λ (o : Option Person). cond (id == entry.person.id.0) (Some entry.person) o) (people_of-found entries id)

-- a holder is found by bytes as by the order of tokens
pub found-holder : (token : List ℕ) (holders : List (List ℕ × CandId)) → find_holder token holders ≡ find (slice_cmp nat_cmp) token holders
found-holder token [] = refl
found-holder token (held ∷ holders) =
    ap (λ (b : Bool). cond b (Some held.1) (find_holder token holders)) (sym (is_eq-slice_cmp token held.0))
    ∙ ap (λ (o : Option CandId). cond (is_eq (slice_cmp nat_cmp token held.0)) (Some held.1) o) (found-holder token holders)

holders_of-found : (entries : List Entry) (token : List ℕ) → find_holder token (holders_of entries) ≡ holder_at token entries
holders_of-found [] token = refl
holders_of-found (entry ∷ entries) token =
    found-holder token (holders_of (entry ∷ entries)) ∙ find-put (slice_cmp nat_cmp) nat_list_cmp_total token entry.token entry.person.id (holders_of entries)
    ∙ ap (λ (b : Bool). cond b (Some entry.person.id) (find (slice_cmp nat_cmp) token (holders_of entries))) (is_eq-slice_cmp token entry.token)
    ∙ ap (λ (o : Option CandId). cond (bytes_eq token entry.token) (Some entry.person.id) o) (sym (found-holder token (holders_of entries)) ∙ holders_of-found entries token)

true-T : (b : Bool) → IsTrue b → T b
true-T true e = tt
true-T false e = cc e

T-true : (b : Bool) → T b → IsTrue b
T-true true t = refl
T-true false t = absurd t

holders_of-sorted : (entries : List Entry) → IsTrue (is_sorted (slice_cmp nat_cmp) (holders_of entries))
holders_of-sorted [] = refl
holders_of-sorted (entry ∷ entries) =
    T-true _ (is_sorted-put (slice_cmp nat_cmp) nat_list_cmp_total entry.token entry.person.id (holders_of entries) (true-T _ (holders_of-sorted entries)))

-- All entries have a register.
register_of : (entries : List Entry) → IsRegister entries (record { people = people_of entries; holders = holders_of entries })
register_of entries = record { rising = people_of-rising entries; people = people_of-found entries; sorted = holders_of-sorted entries; holders = holders_of-found entries }

-- an id below all others is not found
not_found : (id : ℕ) (people : List Person) → Above id people → find_person id people ≡ None
not_found id [] all = refl
not_found id (person ∷ people) all = cond-false (id == person.id.0) _ _ (ne_eqb id person.id.0 (λ e. absurd (omega (arith, all.0)))) ∙ not_found id people all.1

-- the first one is found by the first one's own id
found_first : (person : Person) (people : List Person) → find_person person.id.0 (person ∷ people) ≡ Some person
found_first person people = cond-true (person.id.0 == person.id.0) _ _ (eq-eqb person.id.0 person.id.0 refl)

-- the first of people who rise is not found before the first of others
not_before : (first : Person) (firsts : List Person) (second : Person) (seconds : List Person) → Rising (second ∷ seconds)
    → find_person first.id.0 (first ∷ firsts) ≡ find_person first.id.0 (second ∷ seconds) → first.id.0 < second.id.0 → ⊥
not_before first firsts second seconds rising e less =
    let none = not_found first.id.0 (second ∷ seconds) (less, above-less first.id.0 second.id.0 seconds (omega arith) rising.0) in
    cc (found_first first firsts, none)

-- where the first is one, the same is found behind it
found_behind : (first second : Person) (firsts seconds : List Person) → first ≡ second → Rising (first ∷ firsts) → Rising (second ∷ seconds)
    → ((id : ℕ) → find_person id (first ∷ firsts) ≡ find_person id (second ∷ seconds)) → (id : ℕ) → find_person id firsts ≡ find_person id seconds
found_behind first second firsts seconds same a b e id = by (id == first.id.0) refl
  where
    by : (t : Bool) → (id == first.id.0) ≡ t → find_person id firsts ≡ find_person id seconds
    by true f =
        let here : id ≡ first.id.0 = eqb-true id first.id.0 f in
        let there : id ≡ second.id.0 = here ∙ ap (λ (p : Person). p.id.0) same in
        not_found id firsts (above-less id first.id.0 firsts (omega arith) a.0) ∙ sym (not_found id seconds (above-less id second.id.0 seconds (omega arith) b.0))
    by false f =
        sym (cond-false (id == first.id.0) (Some first) (find_person id firsts) f) ∙ e id
        ∙ cond-false (id == second.id.0) (Some second) (find_person id seconds) (ap (λ (p : Person). id == p.id.0) (sym same) ∙ f)

-- People who rise are known by what is found.
same_people : (people others : List Person) → Rising people → Rising others → ((id : ℕ) → find_person id people ≡ find_person id others) → people ≡ others
same_people [] [] a b e = refl
same_people [] (second ∷ seconds) a b e = cc (e second.id.0, found_first second seconds)
same_people (first ∷ firsts) [] a b e = cc (e first.id.0, found_first first firsts)
same_people (first ∷ firsts) (second ∷ seconds) a b e = elim (cases_order first.id.0 second.id.0) [
  | inl ids ↦ (
      let there : find_person first.id.0 (second ∷ seconds) ≡ Some second = cond-true (first.id.0 == second.id.0) _ _ (eq-eqb first.id.0 second.id.0 ids) in
      let same : first ≡ second = cc (found_first first firsts, e first.id.0, there) in
      let rest = same_people firsts seconds a.1 b.1 (found_behind first second firsts seconds same a b e) in
      cc (same, rest)
      )
  | inr other ↦ elim other [
    | inl less ↦ absurd (not_before first firsts second seconds b (e first.id.0) less)
    | inr more ↦ absurd (not_before second seconds first firsts a (sym (e second.id.0)) more)
  ]
]

-- Entries have one register.
one_register : (entries : List Entry) (ranks other : Ranks) → IsRegister entries ranks → IsRegister entries other → ranks ≡ other
one_register entries ranks other a b = λ i. record { people = people i; holders = holders i }
  where
    people : ranks.people ≡ other.people
    people = same_people ranks.people other.people a.rising b.rising (λ id. a.people id ∙ sym (b.people id))

    holders : ranks.holders ≡ other.holders
    holders = same_entries (slice_cmp nat_cmp) nat_list_cmp_total (slice_cmp-IsAntisymmetric nat_cmp-IsAntisymmetric) ranks.holders other.holders (true-T _ a.sorted) (true-T _ b.sorted)
        (λ token. sym (found-holder token ranks.holders) ∙ a.holders token ∙ sym (b.holders token) ∙ found-holder token other.holders)

-- ---- what rows give is sound

-- one more person is one more at most
length-put : (person : Person) (people : List Person) → length (put person people) ≤ suc (length people)
length-put person [] = omega arith
length-put person (other ∷ people) = by (nat_lt person.id.0 other.id.0) (person.id.0 == other.id.0) (length-put person people)
  where
    by : (less same : Bool) → length (put person people) ≤ suc (length people)
        → length (cond less (person ∷ other ∷ people) (cond same (person ∷ people) (other ∷ put person people))) ≤ suc (suc (length people))
    by true same more = omega arith
    by false true more = omega arith
    by false false more = omega (arith, more)

people_of-few : (entries : List Entry) → length (people_of entries) ≤ length entries
people_of-few [] = omega arith
people_of-few (entry ∷ entries) = omega (arith, length-put entry.person (people_of entries), people_of-few entries)

-- The register of sound entries is sound.
pub ranks_sound : (entries : List Entry) (ranks : Ranks) → AreEntries entries → IsRegister entries ranks → AreRanks ranks
ranks_sound entries ranks sound register =
    let same = ap (λ (r : Ranks). r.people) (one_register entries ranks _ register (register_of entries)) in
    record {
      few = omega (arith, ap (λ (l : List Person). length l) same, people_of-few entries, sound.few);
      rising = register.rising;
      apart = λ i j list n a b ha hb na nb. sound.apart i j list n a b (sym (register.people i) ∙ ha) (sym (register.people j) ∙ hb) na nb;
      registered = λ id person h. sound.registered id person (sym (register.people id) ∙ h);
      tokens = λ token h. sound.tokens token (ap is_some (sym (register.holders token)) ∙ h);
    }

no_entries : AreEntries []
no_entries = record { few = omega arith; apart = λ i j list n a b ha. cc ha; registered = λ id person e. cc e; tokens = λ token h. cc h }

-- The entries of rows are sound.
entries_sound : (rows : List Row) (entries : List Entry) → entries_of rows ≡ Ok entries → AreEntries entries
entries_sound rows entries e = all-hold reading AreEntries (λ before row entry sound is. entries-step before entry sound (accepted before row entry is)) BadHeader header rows entries no_entries e

-- ---- one reading

-- Rows have exactly one reading.
pub one_reading : (rows : List Row) → HaveOneReading rows
one_reading rows =
    let table = entries_of rows in
    record {
      some = some_reading table IsRegister (λ entries. (record { people = people_of entries; holders = holders_of entries }, register_of entries));
      apart = apart_reading table IsRegister;
      sound = λ ranks read. ranks_sound read.0 ranks (entries_sound rows read.0 read.1) read.2;
      one_value = one_value table IsRegister one_register;
      one_fault = one_fault table;
    }
