-- The offer that the engine makes next.
use Rattle.std.proofs.Common.{◌≡◌, ◌<◌, ◌+◌, ℕ, List, ◌∷◌, Some, None, length, slice_set, slice_index, arith, sym, ap, ◌∙◌, subst, get_or}
use Rattle.std.specs.Prelude.{Option, slice_get}
use Rattle.std.proofs.lemmas.Option.{slice_get-get_or, get_or_from_slice_get, slice_get_within}
use Rattle.office_base.specs.Limits.{most_candidates, most_programmes}
use Rattle.office_base.specs.declared.person.CandId.{CandId}
use Rattle.office_base.specs.declared.person.Person.{Person}
use Rattle.office_base.specs.declared.person.ProgId.{ProgId}
use Rattle.merit_choice.specs.declared.state.Offered.{Offered}
use Rattle.merit_choice.specs.declared.state.Offered.TheVariants.{Displaced}
use Rattle.allocations.specs.Course.{IsHeld, MayTry, places_left}
use Rattle.allocations.specs.Market.{Seeker, place_of}
use Rattle.allocations.proofs.Course.{left_falls}
use Rattle.open_then_category.specs.State.{IsAnswered, ProgrammeKept, admissions_of}
use Rattle.programme_lists.specs.Chosen.{AreApplicants, ChoosesFrom, everybody}
use Rattle.rank_lists.specs.Register.{row_of}
use Rattle.apply_engine.specs.Engine.{IsFree, IsSet, Leaves, MayPropose, Setting, free_at, rule_in, seekers_in}
use Rattle.apply_engine.proofs.Answered.{Given, Offer, leaves_displaced, may_be_offered}
use Rattle.apply_engine.proofs.Setting.{seeker_at}

-- a candidate who is free is in the register, with a list and a place
pub record Standing (over : Setting) (next : List ℕ) (cur : ℕ) : Type 0 where
  pub in_people : cur < length over.people
  pub in_lists : cur < length over.lists
  pub in_next : cur < length next
  pub few : cur < most_candidates

pub standing : (over : Setting) (next : List ℕ) (cur : ℕ) → IsSet over → IsFree over next cur → Standing over next cur
standing over next cur set free =
    let at = seeker_at over.people over.lists cur free.s free.there in
    let here = slice_get_within over.people cur free.s.person at.person_at in
    record {
      in_people = here;
      in_lists = slice_get_within over.lists cur free.s.list at.list_at;
      in_next = slice_get_within next cur free.n free.at;
      few = (let short = set.few in omega (arith, here, short));
    }

pub record Making (over : Setting) (next : List ℕ) (states : List ProgrammeKept) (cur p : ℕ) : Type 0 where
  pub s : Seeker
  pub try : MayTry (rule_in over) (length over.table.programmes) (seekers_in over) next cur p (slice_index next cur) s

pub making : (over : Setting) (people : List Person) (lists : List (List ProgId)) (guaranteed : List (Option ProgId)) (next : List ℕ) (states : List ProgrammeKept) (cur to p : ℕ) (list : List ProgId) (d : ProgId)
    → MayPropose over people lists guaranteed next states cur → slice_get lists cur ≡ Some list → to ≡ get_or next cur 0 → p ≡ (get_or list to d).0 → Making over next states cur p
making over people lists guaranteed next states cur to p list d r read to_is p_is =
    let s : Seeker = r.free.s in
    let at = seeker_at over.people over.lists cur s r.free.there in
    let mine : slice_get over.lists cur ≡ Some list = subst (λ l. slice_get l cur ≡ Some list) (sym r.lists_is) read in
    let same : s.list ≡ list = (let e = at.list_at in cc) in
    let n_is : get_or next cur 0 ≡ r.free.n = get_or_from_slice_get next cur r.free.n 0 r.free.at in
    let less : get_or next cur 0 < length list = r.more list read in
    let less' : get_or next cur 0 < length s.list = subst (λ l. get_or next cur 0 < length l) (sym same) less in
    let prog : slice_get list (get_or next cur 0) ≡ Some (get_or list (get_or next cur 0) d) = slice_get-get_or list (get_or next cur 0) d less in
    let prog' : slice_get s.list (get_or next cur 0) ≡ Some (get_or list (get_or next cur 0) d) = subst (λ l. slice_get l (get_or next cur 0) ≡ Some (get_or list (get_or next cur 0) d)) (sym same) prog in
    let q : ProgId = get_or list (get_or next cur 0) d in
    let p_q : p ≡ q.0 = p_is ∙ ap (λ k. (get_or list k d).0) to_is in
    record {
      s = s;
      try = record {
        there = r.free.there;
        at = r.free.at ∙ ap Some (sym n_is);
        below = subst (λ k. k < length over.table.programmes) (sym p_q) (r.set_is.market.below cur (get_or next cur 0) s q r.free.there prog');
        place = ap (λ k. place_of s.list k) p_q ∙ r.set_is.market.distinct cur (get_or next cur 0) s q r.free.there prog';
        less = less';
        free = λ held. r.free.free (subst (λ k. IsHeld (rule_in over) (length over.table.programmes) (seekers_in over) next s k) n_is held);
      };
    }

-- the offer itself
pub offer_of : (over : Setting) (people : List Person) (lists : List (List ProgId)) (guaranteed : List (Option ProgId)) (next : List ℕ) (states : List ProgrammeKept) (cur p : ℕ) (old : ProgrammeKept)
    → MayPropose over people lists guaranteed next states cur → (m : Making over next states cur p) → slice_get states p ≡ Some old → Offer over next states cur p (slice_index next cur) m.s old
offer_of over people lists guaranteed next states cur p old r m at = record { set_is = r.set_is; going = r.going; try = m.try; at = at }

pub known : (over : Setting) (people : List Person) (lists : List (List ProgId)) (guaranteed : List (Option ProgId)) (next : List ℕ) (states : List ProgrammeKept) (cur p : ℕ) → MayPropose over people lists guaranteed next states cur
    → Making over next states cur p → (p < length states) × (p < most_programmes)
known over people lists guaranteed next states cur p r m =
    let below = m.try.below in
    let full = r.going.shows.full in
    let few = r.set_is.seats.few in
    (omega (arith, below, full), omega (arith, below, few))

-- the person who is read is the seeker's
pub same_person : (over : Setting) (people : List Person) (lists : List (List ProgId)) (guaranteed : List (Option ProgId)) (next : List ℕ) (states : List ProgrammeKept) (cur p : ℕ) (d : Person)
    → MayPropose over people lists guaranteed next states cur → (m : Making over next states cur p) → get_or people cur d ≡ m.s.person
same_person over people lists guaranteed next states cur p d r m =
    let at = seeker_at over.people over.lists cur m.s m.try.there in
    get_or_from_slice_get people cur m.s.person d (subst (λ l. slice_get l cur ≡ Some m.s.person) r.people_is at.person_at)

pub offered : (over : Setting) (people : List Person) (lists : List (List ProgId)) (guaranteed : List (Option ProgId)) (next : List ℕ) (states : List ProgrammeKept) (cur p : ℕ) (old : ProgrammeKept) (person : Person)
    → MayPropose over people lists guaranteed next states cur → (m : Making over next states cur p) → slice_get states p ≡ Some old → person ≡ m.s.person
    → AreApplicants old.seats.list (person ∷ everybody (admissions_of old))
offered over people lists guaranteed next states cur p old person r m at same =
    subst (λ z. AreApplicants old.seats.list (z ∷ everybody (admissions_of old))) (sym same)
    (may_be_offered over next states cur p (slice_index next cur) m.s old (offer_of over people lists guaranteed next states cur p old r m at))

pub given : (over : Setting) (people : List Person) (lists : List (List ProgId)) (guaranteed : List (Option ProgId)) (next : List ℕ) (states : List ProgrammeKept) (cur p : ℕ) (old new : ProgrammeKept) (person : Person) (result : Offered)
    → MayPropose over people lists guaranteed next states cur → (m : Making over next states cur p) → slice_get states p ≡ Some old → person ≡ m.s.person
    → new ≡ record old { held = new.held } → ChoosesFrom old.version old.seats (person ∷ everybody (admissions_of old)) (admissions_of new) → IsAnswered old person result new
    → Given over next states cur p (slice_index next cur) m.s old new result
given over people lists guaranteed next states cur p old new person result r m at same stays choice answer = record {
  offer = offer_of over people lists guaranteed next states cur p old r m at;
  stays = stays;
  choice = subst (λ z. ChoosesFrom old.version old.seats (z ∷ everybody (admissions_of old)) (admissions_of new)) same choice;
  answer = subst (λ z. IsAnswered old z result new) same answer;
}

pub falls : (over : Setting) (next : List ℕ) (states : List ProgrammeKept) (cur p : ℕ) → Making over next states cur p
    → places_left (seekers_in over) next ≡ places_left (seekers_in over) (slice_set next cur (slice_index next cur + 1)) + 1
falls over next states cur p m = left_falls cur (slice_index next cur) (seekers_in over) next m.s m.try.there m.try.at m.try.less

-- the one who left is at the row that the register gives
pub displaced : (over : Setting) (people : List Person) (lists : List (List ProgId)) (guaranteed : List (Option ProgId)) (next : List ℕ) (states : List ProgrammeKept) (cur p : ℕ) (old new : ProgrammeKept) (cand : CandId) (place : ℕ)
    → MayPropose over people lists guaranteed next states cur → (m : Making over next states cur p) → Given over next states cur p (slice_index next cur) m.s old new (Displaced cand)
    → Some place ≡ row_of cand.0 people → Leaves over next (slice_set next cur (slice_index next cur + 1)) cur (free_at guaranteed place p)
displaced over people lists guaranteed next states cur p old new cand place r m g row =
    let gone = leaves_displaced over next states cur p (slice_index next cur) m.s old new cand g in
    let row' : row_of cand.0 people ≡ Some gone.out = subst (λ l. row_of cand.0 l ≡ Some gone.out) r.people_is gone.row in
    let same : gone.out ≡ place = cc in
    subst (λ l. Leaves over next (slice_set next cur (slice_index next cur + 1)) cur (free_at l place p)) r.guaranteed_is
    (subst (λ k. Leaves over next (slice_set next cur (slice_index next cur + 1)) cur (free_at over.guaranteed k p)) same gone.leaves)

pub has_left_row : (over : Setting) (people : List Person) (lists : List (List ProgId)) (guaranteed : List (Option ProgId)) (next : List ℕ) (states : List ProgrammeKept) (cur p : ℕ) (old new : ProgrammeKept) (cand : CandId)
    → MayPropose over people lists guaranteed next states cur → (m : Making over next states cur p) → Given over next states cur p (slice_index next cur) m.s old new (Displaced cand)
    → None ≡ row_of cand.0 people → ⊥
has_left_row over people lists guaranteed next states cur p old new cand r m g row =
    let gone = leaves_displaced over next states cur p (slice_index next cur) m.s old new cand g in
    let row' : row_of cand.0 people ≡ Some gone.out = subst (λ l. row_of cand.0 l ≡ Some gone.out) r.people_is gone.row in
    cc

-- the same, where the people were read from the register
pub person_read : (over : Setting) (people read : List Person) (lists : List (List ProgId)) (guaranteed : List (Option ProgId)) (next : List ℕ) (states : List ProgrammeKept) (cur p : ℕ) (d : Person)
    → MayPropose over people lists guaranteed next states cur → (m : Making over next states cur p) → read ≡ people → get_or read cur d ≡ m.s.person
person_read over people read lists guaranteed next states cur p d r m same = ap (λ l. get_or l cur d) same ∙ same_person over people lists guaranteed next states cur p d r m

-- there is a guarantee for each of the people
pub sure_within : (over : Setting) (people : List Person) (lists : List (List ProgId)) (guaranteed : List (Option ProgId)) (next : List ℕ) (states : List ProgrammeKept) (cur : ℕ)
    → MayPropose over people lists guaranteed next states cur → cur < length guaranteed
sure_within over people lists guaranteed next states cur r =
    let st = standing over next cur r.set_is r.free in
    let here = st.in_people in
    let size = r.set_is.sure in
    subst (λ l. cur < length l) r.guaranteed_is (omega (arith, here, size))

pub row_within : (over : Setting) (people : List Person) (lists : List (List ProgId)) (guaranteed : List (Option ProgId)) (next : List ℕ) (states : List ProgrammeKept) (cur p : ℕ) (old new : ProgrammeKept) (cand : CandId) (place : ℕ)
    → MayPropose over people lists guaranteed next states cur → (m : Making over next states cur p) → Given over next states cur p (slice_index next cur) m.s old new (Displaced cand)
    → Some place ≡ row_of cand.0 people → place < length guaranteed
row_within over people lists guaranteed next states cur p old new cand place r m g row =
    let gone = leaves_displaced over next states cur p (slice_index next cur) m.s old new cand g in
    let row' : row_of cand.0 people ≡ Some gone.out = subst (λ l. row_of cand.0 l ≡ Some gone.out) r.people_is gone.row in
    let same : gone.out ≡ place = cc in
    let here = gone.within in
    let size = r.set_is.sure in
    subst (λ l. place < length l) r.guaranteed_is (omega (arith, here, size, same))

-- who is free, as it was told
pub free_told : (over : Setting) (before after : List ℕ) (cur place p q : ℕ) (own told : List (Option ProgId)) (result : Option ℕ) → own ≡ told → p ≡ q → result ≡ free_at told place q
    → Leaves over before after cur (free_at own place p) → Leaves over before after cur result
free_told over before after cur place p q own told result same prog is leaves =
    let first : Leaves over before after cur (free_at told place p) = subst (λ l. Leaves over before after cur (free_at l place p)) same leaves in
    let second : Leaves over before after cur (free_at told place q) = subst (λ k. Leaves over before after cur (free_at told place k)) prog first in
    subst (λ r. Leaves over before after cur r) (sym is) second
