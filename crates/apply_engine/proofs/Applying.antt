-- The loops of the applications: who is free, who is settled, and how many offers were made.
use Rattle.std.proofs.Common.{◌≡◌, ◌<◌, ◌≤◌, ◌+◌, ◌⊎◌, inl, inr, ℕ, zero, suc, List, Some, None, length, slice_set, slice_index, arith, refl, sym, ap, subst, get_or}
use Rattle.std.specs.Prelude.{Option, slice_get}
use Rattle.std.proofs.lemmas.Bool.Decides.{eqb_tells}
use Rattle.std.proofs.lemmas.Option.{slice_get-get_or, get_or_from_slice_get}
use Rattle.office_base.specs.Limits.{most_candidates}
use Rattle.office_base.specs.declared.person.Person.{Person}
use Rattle.office_base.specs.declared.person.ProgId.{ProgId}
use Rattle.office_base.proofs.Lists.{there_is}
use Rattle.allocations.specs.Course.{HaveNotBegun, places_left}
use Rattle.allocations.proofs.Settled.{not_begun_free, still_not_begun}
use Rattle.allocations.proofs.Those.{value_at}
use Rattle.open_then_category.specs.State.{ProgrammeKept}
use Rattle.apply_engine.specs.Engine.{AreSettledBefore, HasApplied, IsFree, IsGoing, IsNextToPropose, IsSet, IsSettledBut, Leaves, Setting, seekers_in, rule_in}
use Rattle.apply_engine.proofs.Making.{standing}
use Rattle.apply_engine.proofs.Setting.{length_with, seeker_at}

-- what is so at each turn of the inner loop
pub record IsOn (over : Setting) (people : List Person) (lists : List (List ProgId)) (guaranteed : List (Option ProgId)) (before next : List ℕ) (states : List ProgrammeKept) (first cur steps_before steps : ℕ) : Type 0 where
  pub people_is : over.people ≡ people
  pub lists_is : over.lists ≡ lists
  pub guaranteed_is : over.guaranteed ≡ guaranteed
  pub set_is : IsSet over
  pub going : IsGoing over next states
  pub free : IsFree over next cur
  pub within : cur < first + 1
  pub but : IsSettledBut over next (first + 1) cur
  pub not_begun : HaveNotBegun next (first + 1)
  pub cost : steps + places_left (seekers_in over) next ≡ steps_before + places_left (seekers_in over) before

pub begins_on : (over : Setting) (people : List Person) (lists : List (List ProgId)) (guaranteed : List (Option ProgId)) (next : List ℕ) (states : List ProgrammeKept) (first steps : ℕ) → IsNextToPropose over people lists guaranteed next states first
    → IsOn over people lists guaranteed next next states first first steps steps
begins_on over people lists guaranteed next states first steps b =
    let r = b.before in
    let less : first < length (seekers_in over) = (let full = length_with over.people over.lists r.set_is.full in let same = ap length r.people_is in let in_people = b.within in omega (arith, full, same, in_people)) in
    let s = there_is (seekers_in over) first less in
    let n = value_at (seekers_in over) next first s.0 r.going.underway.full s.1 in
    let none = r.not_begun first n.0 (omega arith) n.1 in
    record {
      people_is = r.people_is;
      lists_is = r.lists_is;
      guaranteed_is = r.guaranteed_is;
      set_is = r.set_is;
      going = r.going;
      free = record { s = s.0; n = n.0; there = s.1; at = n.1; free = not_begun_free (rule_in over) (length over.table.programmes) (seekers_in over) next s.0 n.0 none };
      within = omega arith;
      but = λ j m t less' apart there at. r.settled j m t (omega (arith, less', apart)) there at;
      not_begun = λ j m far at. r.not_begun j m (omega (arith, far)) at;
      cost = refl;
    }

pub standing_on : (over : Setting) (people : List Person) (lists : List (List ProgId)) (guaranteed : List (Option ProgId)) (before next : List ℕ) (states : List ProgrammeKept) (first cur steps_before steps : ℕ)
    → IsOn over people lists guaranteed before next states first cur steps_before steps → (cur < length lists) × (cur < length next) × (cur < most_candidates)
standing_on over people lists guaranteed before next states first cur steps_before steps h =
    let st = standing over next cur h.set_is h.free in
    (subst (λ l. cur < length l) h.lists_is st.in_lists, st.in_next, st.few)

-- what one offer leaves
pub record Offered (over : Setting) (next after : List ℕ) (states : List ProgrammeKept) (cur steps_before steps : ℕ) : Type 0 where
  pub going : IsGoing over after states
  pub next_is : after ≡ slice_set next cur (slice_index next cur + 1)
  pub left : places_left (seekers_in over) next ≡ places_left (seekers_in over) after + 1
  pub cost : steps ≡ steps_before + 1

not_begun_after : (over : Setting) (people : List Person) (lists : List (List ProgId)) (guaranteed : List (Option ProgId)) (before next after : List ℕ) (states states' : List ProgrammeKept) (first cur steps_before steps steps' : ℕ)
    → IsOn over people lists guaranteed before next states first cur steps_before steps → Offered over next after states' cur steps steps' → HaveNotBegun after (first + 1)
not_begun_after over people lists guaranteed before next after states states' first cur steps_before steps steps' h o =
    let st = standing over next cur h.set_is h.free in
    let at = slice_get-get_or next cur 0 st.in_next in
    subst (λ (l : List ℕ). HaveNotBegun l (first + 1)) (sym o.next_is) (still_not_begun next cur (slice_index next cur) (first + 1) at h.within h.not_begun)

-- somebody is free still
pub goes_on_free : (over : Setting) (people : List Person) (lists : List (List ProgId)) (guaranteed : List (Option ProgId)) (before next after : List ℕ) (states states' : List ProgrammeKept) (first cur out steps_before steps steps' : ℕ)
    → IsOn over people lists guaranteed before next states first cur steps_before steps → Offered over next after states' cur steps steps' → Leaves over next after cur (Some out)
    → IsOn over people lists guaranteed before after states' first out steps_before steps'
goes_on_free over people lists guaranteed before next after states states' first cur out steps_before steps steps' h o free =
    let none = not_begun_after over people lists guaranteed before next after states states' first cur steps_before steps steps' h o in
    record {
      people_is = h.people_is;
      lists_is = h.lists_is;
      guaranteed_is = h.guaranteed_is;
      set_is = h.set_is;
      going = o.going;
      free = free.free;
      within = elim (cases out (first + 1)) [
        | inl less ↦ less
        | inr far ↦ absurd (
            let zero_is = none out free.free.n far free.free.at in
            let some = free.tried_some free.free.n free.free.at in
            omega (arith, zero_is, some))
      ];
      but = free.settled (first + 1) h.but;
      not_begun = none;
      cost = (let a = h.cost in let b = o.left in let d = o.cost in omega (arith, a, b, d));
    }
  where
    cases : (m n : ℕ) → (m < n) ⊎ (n ≤ m)
    cases m zero = inr (omega arith)
    cases zero (suc n) = inl (omega arith)
    cases (suc m) (suc n) = elim (cases m n) [ inl h ↦ inl (omega (arith, h)) | inr h ↦ inr (omega (arith, h)) ]

-- nobody is free
pub ends_free : (over : Setting) (people : List Person) (lists : List (List ProgId)) (guaranteed : List (Option ProgId)) (before next after : List ℕ) (states states' : List ProgrammeKept) (first cur steps_before steps steps' : ℕ)
    → IsOn over people lists guaranteed before next states first cur steps_before steps → Offered over next after states' cur steps steps' → Leaves over next after cur None
    → HasApplied over before after states' (first + 1) steps_before steps'
ends_free over people lists guaranteed before next after states states' first cur steps_before steps steps' h o none = record {
  going = o.going;
  settled = none (first + 1) h.but;
  not_begun = not_begun_after over people lists guaranteed before next after states states' first cur steps_before steps steps' h o;
  cost = (let a = h.cost in let b = o.left in let d = o.cost in omega (arith, a, b, d));
}

-- a candidate who is free has come to the end of their list
pub ends_list : (over : Setting) (people : List Person) (lists : List (List ProgId)) (guaranteed : List (Option ProgId)) (before next : List ℕ) (states : List ProgrammeKept) (first cur steps_before steps : ℕ) (list : List ProgId)
    → IsOn over people lists guaranteed before next states first cur steps_before steps → slice_get lists cur ≡ Some list → length list ≤ slice_index next cur
    → HasApplied over before next states (first + 1) steps_before steps
ends_list over people lists guaranteed before next states first cur steps_before steps list h there far = record {
  going = h.going;
  settled = λ j m t less there' at. elim (eqb_tells j cur) [
    | inl e ↦
        let at_cur : slice_get next cur ≡ Some m = subst (λ k. slice_get next k ≡ Some m) e.1 at in
        let t_cur : slice_get (seekers_in over) cur ≡ Some t = subst (λ k. slice_get (seekers_in over) k ≡ Some t) e.1 there' in
        let mine = seeker_at over.people over.lists cur t t_cur in
        let his : slice_get over.lists cur ≡ Some list = subst (λ l. slice_get l cur ≡ Some list) (sym h.lists_is) there in
        let same : t.list ≡ list = (let e' = mine.list_at in cc) in
        let size : length t.list ≡ length list = ap length same in
        let value : get_or next cur 0 ≡ m = get_or_from_slice_get next cur m 0 at_cur in
        let short = h.going.underway.within cur m t t_cur at_cur in
        inr (omega (arith, far, value, size, short))
    | inr e ↦ h.but j m t less e.1 there' at
  ];
  not_begun = h.not_begun;
  cost = h.cost;
}

-- ---- all candidates

pub first_applied : (over : Setting) (people : List Person) (lists : List (List ProgId)) (guaranteed : List (Option ProgId)) (next : List ℕ) (states : List ProgrammeKept) (steps : ℕ) → AreSettledBefore over people lists guaranteed next states 0
    → HasApplied over next next states 0 steps steps
first_applied over people lists guaranteed next states steps b = record { going = b.going; settled = b.settled; not_begun = b.not_begun; cost = refl }

pub begins_next : (over : Setting) (people : List Person) (lists : List (List ProgId)) (guaranteed : List (Option ProgId)) (before next : List ℕ) (states states' : List ProgrammeKept) (first steps_before steps : ℕ)
    → AreSettledBefore over people lists guaranteed before states 0 → HasApplied over before next states' first steps_before steps → first < length next → IsNextToPropose over people lists guaranteed next states' first
begins_next over people lists guaranteed before next states states' first steps_before steps b h less = record {
  before = record { people_is = b.people_is; lists_is = b.lists_is; guaranteed_is = b.guaranteed_is; set_is = b.set_is; going = h.going; settled = h.settled; not_begun = h.not_begun };
  within = (let full = h.going.underway.full in let size = length_with over.people over.lists b.set_is.full in let same = ap length b.people_is in omega (arith, less, full, size, same));
}

pub applied_more : (over : Setting) (before middle next : List ℕ) (states states' : List ProgrammeKept) (first last steps_before steps steps' : ℕ)
    → HasApplied over before middle states first steps_before steps → HasApplied over middle next states' last steps steps' → HasApplied over before next states' last steps_before steps'
applied_more over before middle next states states' first last steps_before steps steps' h k = record {
  going = k.going;
  settled = k.settled;
  not_begun = k.not_begun;
  cost = (let a = h.cost in let b = k.cost in omega (arith, a, b));
}

-- there are as many places as people
pub as_many : (over : Setting) (people : List Person) (lists : List (List ProgId)) (guaranteed : List (Option ProgId)) (next : List ℕ) (states : List ProgrammeKept) → AreSettledBefore over people lists guaranteed next states 0 → length next ≡ length people
as_many over people lists guaranteed next states b =
    let full = b.going.underway.full in
    let size = length_with over.people over.lists b.set_is.full in
    let same = ap length b.people_is in
    omega (arith, full, size, same)
