-- What a person gains in a round by another list or another seek: nothing; who is seated in every fair allocation of a round; and that more seats hurt nobody.
use Rattle.std.proofs.Common.{◌≡◌, ◌<◌, ◌≤◌, ◌+◌, inl, inr, ℕ, zero, suc, Bool, true, false, List, [], ◌∷◌, Some, length, arith, refl, sym, ap, ◌∙◌, subst, ◌==◌, if◌then◌else◌}
use Rattle.std.specs.Prelude.{slice_get, nat_le, option_map}
use Rattle.std.specs.Option.{unwrap_or}
use Rattle.std.proofs.lemmas.Option.{slice_get_within}
use Rattle.std.proofs.lemmas.Bool.{and_parts, eqb-true, le-leb, leb-true}
use Rattle.office_base.specs.declared.person.Person.{Person}
use Rattle.office_base.specs.declared.person.ProgId.{ProgId}
use Rattle.office_base.proofs.Lists.{there_is}
use Rattle.allocations.specs.Fair.{IsBest}
use Rattle.allocations.specs.Market.{Seeker, place_of, rank_of}
use Rattle.allocations.specs.Compared.{SomeLeave, TellsAnother}
use Rattle.allocations.specs.Rule.{ChoosesWell}
use Rattle.allocations.proofs.Eased.{hurts_nobody}
use Rattle.allocations.proofs.Seated.{fair_seat_alike}
use Rattle.allocations.proofs.Truthful.{all_of_the_front_is_best, truth_is_best}
use Rattle.seat_matrix.specs.Matrix.{SeatTable, first_list}
use Rattle.seat_matrix.specs.declared.entry.Home.{Home}
use Rattle.programme_lists.specs.Chosen.{AreApplicants}
use Rattle.seeks.specs.Seek.{is_beside, is_left, left_from, seek_leaves}
use Rattle.seeks.specs.declared.seek.Seek.{Seek}
use Rattle.seeks.specs.declared.seek.Seek.TheVariants.{Whole, UpTo, Within, Only, Nothing}
use Rattle.seeks.proofs.Left.{leaves_same, left_nothing, left_up_to}
use Rattle.kept_seats.specs.Kept.{Guarantees}
use Rattle.rounds.specs.Rule.{MayApplyIn, ProgrammesAdmitNoFewer, ProgrammesChooseWell, ProgrammesGrow, rule_of, seekers_of}
use Rattle.rounds.proofs.Entrants.{entered, market}
use Rattle.round_laws.specs.Laws.{AreOtherwise, FairRoundsSeatAlike, IsUpTo, MoreSeatsHurtNobody, SomeSeekNothing, TruthIsBest, WiderIsNoWorse}

pub seat_alike : ProgrammesChooseWell → ProgrammesAdmitNoFewer → FairRoundsSeatAlike
seat_alike well fewer version guaranteed table people lists seeks seats others are entrants fair fair' =
    fair_seat_alike (rule_of version guaranteed table) (MayApplyIn table) (well version guaranteed table are) (fewer version guaranteed table are) (length table.programmes) (seekers_of table people lists seeks) seats others
    (market table people lists seeks are entrants) fair fair'

-- ---- the seekers, when one submits another list and another seek

as_many_seekers : (table more : SeatTable) (people : List Person) (lists told : List (List ProgId)) (seeks sought : List Seek) → length told ≡ length lists → length sought ≡ length seeks
    → length (seekers_of more people told sought) ≡ length (seekers_of table people lists seeks)
as_many_seekers table more [] lists told seeks sought first second = refl
as_many_seekers table more (person ∷ people) [] [] seeks sought first second = refl
as_many_seekers table more (person ∷ people) [] (t ∷ told) seeks sought first second = absurd (omega (arith, first))
as_many_seekers table more (person ∷ people) (l ∷ lists) [] seeks sought first second = absurd (omega (arith, first))
as_many_seekers table more (person ∷ people) (l ∷ lists) (t ∷ told) [] [] first second = refl
as_many_seekers table more (person ∷ people) (l ∷ lists) (t ∷ told) [] (q ∷ sought) first second = absurd (omega (arith, second))
as_many_seekers table more (person ∷ people) (l ∷ lists) (t ∷ told) (s ∷ seeks) [] first second = absurd (omega (arith, second))
as_many_seekers table more (person ∷ people) (l ∷ lists) (t ∷ told) (s ∷ seeks) (q ∷ sought) first second =
    ap suc (as_many_seekers table more people lists told seeks sought (omega (arith, first)) (omega (arith, second)))

seeker_same : (table : SeatTable) (people : List Person) (lists told : List (List ProgId)) (seeks sought : List Seek) (j : ℕ) → length told ≡ length lists → length sought ≡ length seeks
    → slice_get told j ≡ slice_get lists j → slice_get sought j ≡ slice_get seeks j → slice_get (seekers_of table people told sought) j ≡ slice_get (seekers_of table people lists seeks) j
seeker_same table [] lists told seeks sought j first second same same' = refl
seeker_same table (person ∷ people) [] [] seeks sought j first second same same' = refl
seeker_same table (person ∷ people) [] (t ∷ told) seeks sought j first second same same' = absurd (omega (arith, first))
seeker_same table (person ∷ people) (l ∷ lists) [] seeks sought j first second same same' = absurd (omega (arith, first))
seeker_same table (person ∷ people) (l ∷ lists) (t ∷ told) [] [] j first second same same' = refl
seeker_same table (person ∷ people) (l ∷ lists) (t ∷ told) [] (q ∷ sought) j first second same same' = absurd (omega (arith, second))
seeker_same table (person ∷ people) (l ∷ lists) (t ∷ told) (s ∷ seeks) [] j first second same same' = absurd (omega (arith, second))
seeker_same table (person ∷ people) (l ∷ lists) (t ∷ told) (s ∷ seeks) (q ∷ sought) zero first second same same' =
    let list : t ≡ l = cc in
    let seek : q ≡ s = cc in
    ap (λ z. Some (record { person = person; list = seek_leaves table q z })) list ∙ ap (λ z. Some (record { person = person; list = seek_leaves table z l })) seek
seeker_same table (person ∷ people) (l ∷ lists) (t ∷ told) (s ∷ seeks) (q ∷ sought) (suc j) first second same same' =
    seeker_same table people lists told seeks sought j (omega (arith, first)) (omega (arith, second)) same same'

pub tells_otherwise : (table : SeatTable) (people : List Person) (lists told : List (List ProgId)) (seeks sought : List Seek) (i : ℕ) → AreOtherwise i lists told seeks sought
    → TellsAnother i (seekers_of table people lists seeks) (seekers_of table people told sought)
tells_otherwise table people lists told seeks sought i h = record {
  same = as_many_seekers table table people lists told seeks sought h.as_many_lists h.as_many_seeks;
  others = λ j apart. seeker_same table people lists told seeks sought j h.as_many_lists h.as_many_seeks (h.same_lists j apart) (h.same_seeks j apart);
  person = λ s t there there'.
      let first = (entered table people lists seeks i s there).person_at in
      let second = (entered table people told sought i t there').person_at in
      cc;
}

pub truth : ProgrammesChooseWell → ProgrammesAdmitNoFewer → TruthIsBest
truth well fewer version guaranteed table people lists told seeks sought seats others i s seat other are entrants entrants' otherwise best fair there has has' =
    truth_is_best (rule_of version guaranteed table) (MayApplyIn table) (well version guaranteed table are) (fewer version guaranteed table are) (length table.programmes) i (seekers_of table people lists seeks)
    (seekers_of table people told sought) seats others s seat other (market table people lists seeks are entrants) (market table people told sought are entrants')
    (tells_otherwise table people lists told seeks sought i otherwise) best fair there has has'

-- ---- parts of a list up to a place

-- what a seek up to the place leaves is up to the place
left_up : (table : SeatTable) (seek : Seek) (k : ℕ) (progs : List ProgId) (place : ℕ) (prog : ProgId) → IsUpTo k seek → is_left table seek progs place prog ≡ true → nat_le place k ≡ true
left_up table Whole k progs place prog up left = absurd up
left_up table (UpTo last) k progs place prog up left = let less = leb-true _ _ left in le-leb _ _ (omega (arith, up, less))
left_up table (Within last) k progs place prog up left =
    let parts = and_parts (nat_le place last) (is_beside table (slice_get progs last) prog) left in
    let less = leb-true _ _ parts.0 in
    le-leb _ _ (omega (arith, up, less))
left_up table (Only seat) k progs place prog up left = let same = eqb-true place seat left in le-leb _ _ (omega (arith, up, same))
left_up table Nothing k progs place prog up left = absurd (cc)

abbrev Stands : ℕ → List ProgId → Type 0
Stands p list = place_of list p < length list

stands_first : (b : Bool) (m n : ℕ) → (b ≡ false → m < n) → (if b then 0 else m + 1) < suc n
stands_first true m n later = omega arith
stands_first false m n later = let less = later refl in omega (arith, less)

stands_later : (b : Bool) (m n : ℕ) → (if b then 0 else m + 1) < suc n → b ≡ false → m < n
stands_later true m n less fails = absurd (cc)
stands_later false m n less fails = omega (arith, less)

stands_if : (b c : Bool) (x : ProgId) (xs ys : List ProgId) (p : ℕ) → (b ≡ true → c ≡ true) → (Stands p xs → Stands p ys) → Stands p (if b then x ∷ xs else xs) → Stands p (if c then x ∷ ys else ys)
stands_if true true x xs ys p passes rest stands = stands_first (x.0 == p) _ _ (λ fails. rest (stands_later (x.0 == p) _ _ stands fails))
stands_if true false x xs ys p passes rest stands = absurd (let e = passes refl in cc)
stands_if false true x xs ys p passes rest stands = stands_first (x.0 == p) _ _ (λ fails. rest stands)
stands_if false false x xs ys p passes rest stands = rest stands

left_stands : (table : SeatTable) (seek : Seek) (k : ℕ) (progs : List ProgId) (place : ℕ) (rest : List ProgId) (p : ℕ) → IsUpTo k seek → Stands p (left_from table seek progs place rest)
    → Stands p (left_from table (UpTo k) progs place rest)
left_stands table seek k progs place [] p up stands = stands
left_stands table seek k progs place (prog ∷ rest) p up stands =
    stands_if (is_left table seek progs place prog) (nat_le place k) prog _ _ p (left_up table seek k progs place prog up) (left_stands table seek k progs (place + 1) rest p up) stands

-- what a seeker wants, by their list and seek
leaves_by : (table : SeatTable) (people : List Person) (lists : List (List ProgId)) (seeks : List Seek) (i : ℕ) (s : Seeker) (list : List ProgId) (seek : Seek)
    → slice_get (seekers_of table people lists seeks) i ≡ Some s → slice_get lists i ≡ Some list → slice_get seeks i ≡ Some seek → s.list ≡ seek_leaves table seek list
leaves_by table people lists seeks i s list seek there at at' =
    let e = entered table people lists seeks i s there in
    let first = e.list_at in
    let second = e.seek_at in
    let one : e.list ≡ list = cc in
    let two : e.seek ≡ seek = cc in
    e.leaves ∙ (ap (λ z. seek_leaves table z e.list) two ∙ ap (λ l. seek_leaves table seek l) one)

pub wider : ProgrammesChooseWell → ProgrammesAdmitNoFewer → WiderIsNoWorse
wider well fewer version guaranteed table people lists seeks sought seats others i k list seek seat other are entrants otherwise at sought_at sought_at' up best fair has has' =
    let seekers = seekers_of table people lists seeks in
    let told = seekers_of table people lists sought in
    let size = best.fair.allocation.full in
    let size' = fair.allocation.full in
    let s = there_is seekers i (let less = slice_get_within seats i seat has in omega (arith, less, size)) in
    let t = there_is told i (let less = slice_get_within others i other has' in omega (arith, less, size')) in
    let mine = leaves_by table people lists seeks i s.0 list (UpTo k) s.1 at sought_at in
    let his = leaves_by table people lists sought i t.0 list seek t.1 at sought_at' in
    let front = mine ∙ left_up_to table list k 0 (suc k) list (omega arith) in
    all_of_the_front_is_best (rule_of version guaranteed table) (MayApplyIn table) (well version guaranteed table are) (fewer version guaranteed table are) (length table.programmes) i (suc k) seekers told seats others s.0 t.0 list
    seat other (market table people lists seeks are entrants) (market table people lists sought are entrants) (tells_otherwise table people lists lists seeks sought i otherwise) best fair
    s.1 t.1 front (λ p wanted.
    let stands = subst (λ l. Stands p l) his wanted in
    subst (λ l. Stands p l) (sym mine) (left_stands table seek k list 0 list p up stands)) has has'

-- ---- more seats

-- those who may apply by one matrix may by another of the same programmes
may_apply_same : (version : ℕ) (wider : Guarantees) (table more : SeatTable) → more.programmes ≡ table.programmes → ChoosesWell (rule_of version wider more) (MayApplyIn more)
    → ChoosesWell (rule_of version wider more) (MayApplyIn table)
may_apply_same version wider table more same well =
    subst (λ (programmes : List (List ℕ × Home)). ChoosesWell (rule_of version wider more) (λ p. AreApplicants (unwrap_or (option_map (λ held. held.1.list) (slice_get programmes p)) first_list)))
    same well

some_leave : (table more : SeatTable) (people : List Person) (lists : List (List ProgId)) (seeks later : List Seek) → more.programmes ≡ table.programmes → SomeSeekNothing seeks later
    → SomeLeave (seekers_of table people lists seeks) (seekers_of more people lists later)
some_leave table more people lists seeks later same h = record {
  same = as_many_seekers table more people lists lists seeks later refl h.as_many;
  persons = λ i s t there there'.
      let first = (entered table people lists seeks i s there).person_at in
      let second = (entered more people lists later i t there').person_at in
      cc;
  lists = λ i s t there there'.
      let e = entered table people lists seeks i s there in
      let e' = entered more people lists later i t there' in
      let first = e.list_at in
      let second = e'.list_at in
      let list : e'.list ≡ e.list = cc in
      let left : t.list ≡ seek_leaves table e'.seek e.list = e'.leaves ∙ (leaves_same table more e'.seek e'.list same ∙ ap (λ l. seek_leaves table e'.seek l) list) in
      elim (h.each i e.seek e'.seek e.seek_at e'.seek_at) [
        | inl still ↦ inl (left ∙ (ap (λ q. seek_leaves table q e.list) still ∙ sym e.leaves))
        | inr gone ↦ inr (left ∙ (ap (λ q. seek_leaves table q e.list) gone ∙ left_nothing table e.list 0 e.list))
      ];
}

pub more_seats : ProgrammesChooseWell → ProgrammesGrow → MoreSeatsHurtNobody
more_seats well grows version guaranteed wider table more people lists seeks later seats others i list seek seat other sure are more_are raised entrants h at sought_at sought_at' fair best has has' =
    let seekers = seekers_of table people lists seeks in
    let next = seekers_of more people lists later in
    let count : length more.programmes ≡ length table.programmes = ap (λ l. length l) raised.programmes in
    let best' = subst (λ n. IsBest (rule_of version wider more) n next others) count best in
    let size = fair.allocation.full in
    let size' = best.fair.allocation.full in
    let s = there_is seekers i (let less = slice_get_within seats i seat has in omega (arith, less, size)) in
    let t = there_is next i (let less = slice_get_within others i other has' in omega (arith, less, size')) in
    let mine = leaves_by table people lists seeks i s.0 list seek s.1 at sought_at in
    let his = leaves_by more people lists later i t.0 list seek t.1 at sought_at' in
    let same : t.0.list ≡ s.0.list = his ∙ (leaves_same table more seek list raised.programmes ∙ sym mine) in
    let no_worse = hurts_nobody (rule_of version guaranteed table) (rule_of version wider more) (MayApplyIn table) (well version guaranteed table are) (may_apply_same version wider table more raised.programmes (well version wider more more_are))
    (grows version guaranteed wider table more sure are more_are raised) (length table.programmes) i seekers next seats others s.0 t.0 seat other (market table people lists seeks are entrants)
    (some_leave table more people lists seeks later raised.programmes h) fair best' s.1 t.1 same has has' in
    subst (λ l. rank_of l other ≤ rank_of l seat) mine no_worse
