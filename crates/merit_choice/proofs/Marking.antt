-- Down the people a matching shows who raises the number honoured.
use Rattle.std.proofs.Common.{◌≡◌, ◌≢◌, ◌<◌, ◌+◌, ℕ, suc, Bool, true, false, Option, Some, None, List, [], ◌∷◌, ◌++◌, length, get_or, take, drop, add-one, refl, sym, ap, ◌∙◌, subst, inl, arith}
use Rattle.std.proofs.lemmas.List.{length-append, take-append-drop}
use Rattle.std.proofs.Math.Seq.{take-suc, drop-cons}
use Rattle.std.specs.List.{AllByRecursion}
use Rattle.office_base.specs.Lists.{Pairwise}
use Rattle.std.specs.Prelude.{IsSome}
use Rattle.office_base.specs.Person.{IsAhead, IsBetter, IsTraitSet, number_in}
use Rattle.office_base.specs.Placement.{IsHonoured}
use Rattle.office_base.specs.StepChoice.{AreRanked, IsStep}
use Rattle.office_base.specs.declared.person.ListId.{ListId}
use Rattle.office_base.specs.declared.person.Person.{Person}
use Rattle.office_base.specs.declared.step.Protections.{Protections}
use Rattle.office_base.specs.declared.step.Step.{Step}
use Rattle.office_base.proofs.Lists.{all_weaker, all_middle}
use Rattle.placements.specs.Ranks.{AreAmong, AreDistinct, CanBePlaced}
use Rattle.placements.proofs.Ranks.{among_longer, among_itself, among_again, among_joined, among_front, among_back, placed_again, taken, refused, all_among}
use Rattle.slot_matching.specs.Kept.{Kept, MayJoin}
use Rattle.merit_choice.specs.Marks.{marked, IsRaise, AreRaises, IsJoined}
use Rattle.merit_choice.proofs.Raises.{onto, AreNew, apart_part, new-from_nobody, raise_from, no_raise_from, honoured_nobody}

-- ---- one of the people, between those before and those behind

-- one more of the people, in front of those before
pub onto-snoc : (front before : List Person) (person : Person) → onto (front ++ person ∷ []) before ≡ person ∷ onto front before
onto-snoc [] before person = refl
onto-snoc (one ∷ front) before person = onto-snoc front (one ∷ before) person

-- the one in the middle is apart from those before
new_middle : (front before back : List Person) (person : Person) → AreNew (front ++ person ∷ back) before → AreDistinct (person ∷ onto front before)
new_middle [] before back person new = new.0
new_middle (one ∷ front) before back person new = new_middle front (one ∷ before) back person new.1

-- and all of those are better
better_middle : (list : ListId) (front before back : List Person) (person : Person) → Pairwise (IsBetter list) (front ++ person ∷ back)
    → AllByRecursion (λ one. IsBetter list one person) before → AllByRecursion (λ one. IsBetter list one person) (onto front before)
better_middle list [] before back person ranked better = better
better_middle list (one ∷ front) before back person ranked better =
    better_middle list front (one ∷ before) back person ranked.1 (all_middle (IsBetter list one) front person back ranked.0, better)

-- a better number is another
pub ahead_apart : (first second : Option ℕ) → IsAhead first second → second ≢ first
ahead_apart None second ahead same = ahead
ahead_apart (Some m) None ahead same = ahead
ahead_apart (Some m) (Some n) ahead same = absurd (let e : n ≡ m = cc in omega arith)

-- one mark more
raises-snoc : (protections : Protections) (before front : List Person) (marks : List Bool) (person : Person) (mark : Bool) → AreRaises protections before front marks
    → IsRaise protections (onto front before) person mark → AreRaises protections before (front ++ person ∷ []) (marks ++ mark ∷ [])
raises-snoc protections before [] [] person mark raises one = (one, tt)
raises-snoc protections before [] (other ∷ marks) person mark raises one = absurd raises
raises-snoc protections before (first ∷ front) [] person mark raises one = absurd raises
raises-snoc protections before (first ∷ front) (other ∷ marks) person mark raises one = (raises.0, raises-snoc protections (first ∷ before) front marks person mark raises.1 one)

-- a mark that is set counts
marked-snoc : (marks : List Bool) → marked (marks ++ true ∷ []) ≡ suc (marked marks)
marked-snoc [] = refl
marked-snoc (true ∷ marks) = ap suc (marked-snoc marks)
marked-snoc (false ∷ marks) = marked-snoc marks

-- one that is not does not
unmarked-snoc : (marks : List Bool) → marked (marks ++ false ∷ []) ≡ marked marks
unmarked-snoc [] = refl
unmarked-snoc (true ∷ marks) = ap suc (unmarked-snoc marks)
unmarked-snoc (false ∷ marks) = unmarked-snoc marks

-- ---- how far the matching has come

-- The matching has been offered the people in front: its members are as many as these honour, and the marks say who joined.
pub record IsMarked (step : Step) (front : List Person) (kept : Kept) (marks : List Bool) : Type 0 where
  pub protections : kept.protections ≡ step.protections
  pub list : kept.list ≡ step.list
  pub among : AreAmong kept.members (onto front [])
  pub placed : CanBePlaced step.protections kept.members
  pub honoured : IsHonoured step.protections (onto front []) (length kept.members)
  pub raises : AreRaises step.protections [] front marks
  pub count : marked marks ≡ length kept.members

-- at first nobody
pub marked_nobody : (step : Step) (kept : Kept) (marks : List Bool) → kept ≡ record { protections = step.protections; list = step.list; members = [] } → marks ≡ [] → IsMarked step [] kept marks
marked_nobody step kept marks e none = subst (λ (those : List Bool). IsMarked step [] kept those) (sym none) (subst (λ (k : Kept). IsMarked step [] k []) (sym e) (record {
  protections = refl;
  list = refl;
  among = tt;
  placed = ([], record { held = tt; once = tt; within = λ t. omega arith }, refl);
  honoured = honoured_nobody step.protections;
  raises = tt;
  count = refl;
}))

-- the next of the people may join
pub next_may_join : (step : Step) (front back : List Person) (person : Person) (kept : Kept) (marks : List Bool) → IsStep step → step.people ≡ front ++ person ∷ back
    → IsMarked step front kept marks → MayJoin kept person
next_may_join step front back person kept marks ok split so_far =
    let ranked : AreRanked step.list (front ++ person ∷ back) = subst (AreRanked step.list) split ok.people in
    let distinct = new_middle front [] back person (new-from_nobody (front ++ person ∷ back) ranked.distinct) in
    let better = better_middle step.list front [] back person ranked.in_order tt in
    let apart : AllByRecursion (λ one. number_in step.list person ≢ number_in step.list one) (onto front []) =
    all_weaker (λ one. IsBetter step.list one person) (λ one. number_in step.list person ≢ number_in step.list one)
    (λ one ahead. ahead_apart (number_in step.list one) (number_in step.list person) ahead) (onto front []) better in
    record {
      traits = all_middle (λ (one : Person). IsTraitSet one.traits) front person back ranked.traits;
      placed = subst (λ (list : ListId). IsSome (number_in list person)) (sym so_far.list) (all_middle (λ one. IsSome (number_in step.list one)) front person back ranked.placed);
      distinct = apart_part person kept.members (onto front []) so_far.among distinct.0;
      apart = subst (λ (list : ListId). AllByRecursion (λ member. number_in list person ≢ number_in list member) kept.members) (sym so_far.list)
          (all_among (λ one. number_in step.list person ≢ number_in step.list one) kept.members (onto front []) so_far.among apart);
    }

-- the members with one more at the end are those with one more in front
member_first : (members : List Person) (person : Person) → AreAmong (members ++ person ∷ []) (person ∷ members)
member_first members person = among_joined members (person ∷ []) (person ∷ members) (among_longer person members members (among_itself members)) (inl refl, tt)

-- and the other way round
member_last : (members : List Person) (person : Person) → AreAmong (person ∷ members) (members ++ person ∷ [])
member_last members person = ((among_back members (person ∷ [])).0, among_front members (person ∷ []))

-- then the person is marked too
pub marked_next : (step : Step) (front back : List Person) (person : Person) (before after : Kept) (marks : List Bool) (joined : Bool) → IsStep step → step.people ≡ front ++ person ∷ back
    → IsMarked step front before marks → IsJoined before person joined after → IsMarked step (front ++ person ∷ []) after (marks ++ joined ∷ [])
marked_next step front back person before after marks true ok split so_far done =
    let members = before.members in
    let many = length-append members (person ∷ []) in
    let placed : CanBePlaced step.protections (members ++ person ∷ []) =
    subst (λ (protections : Protections). CanBePlaced protections (members ++ person ∷ [])) so_far.protections done.0 in
    let in_front = placed_again step.protections (members ++ person ∷ []) (person ∷ members) (member_first members person) (omega arith) placed in
    let honoured : IsHonoured step.protections (person ∷ onto front []) (suc (length members)) =
    taken step.protections person members (onto front []) so_far.among so_far.honoured in_front in
    let now = onto-snoc front [] person in
    subst (λ (kept : Kept). IsMarked step (front ++ person ∷ []) kept (marks ++ true ∷ [])) (sym done.1) (record {
      protections = so_far.protections;
      list = so_far.list;
      among = subst (AreAmong (members ++ person ∷ [])) (sym now)
          (among_again (members ++ person ∷ []) (person ∷ members) (person ∷ onto front []) (member_first members person) (inl refl, among_longer person members (onto front []) so_far.among));
      placed = placed;
      honoured = subst (λ (people : List Person). IsHonoured step.protections people (length (members ++ person ∷ []))) (sym now)
          (subst (λ (n : ℕ). IsHonoured step.protections (person ∷ onto front []) n) (omega arith) honoured);
      raises = raises-snoc step.protections [] front marks person true so_far.raises (raise_from step.protections (onto front []) person (length members) so_far.honoured honoured);
      count = omega (arith, marked-snoc marks, so_far.count);
    })
marked_next step front back person before after marks false ok split so_far done =
    let members = before.members in
    let many = length-append members (person ∷ []) in
    let distinct = new_middle front [] back person (new-from_nobody (front ++ person ∷ back) (subst AreDistinct split ok.people.distinct)) in
    let cannot : CanBePlaced step.protections (person ∷ members) → ⊥ = λ can. done.0 (subst (λ (protections : Protections). CanBePlaced protections (members ++ person ∷ [])) (sym so_far.protections)
    (placed_again step.protections (person ∷ members) (members ++ person ∷ []) (member_last members person) (omega arith) can)) in
    let honoured : IsHonoured step.protections (person ∷ onto front []) (length members) =
    refused step.protections person members (onto front []) distinct so_far.among so_far.placed so_far.honoured cannot in
    let now = onto-snoc front [] person in
    subst (λ (kept : Kept). IsMarked step (front ++ person ∷ []) kept (marks ++ false ∷ [])) (sym done.1) (record {
      protections = so_far.protections;
      list = so_far.list;
      among = subst (AreAmong members) (sym now) (among_longer person members (onto front []) so_far.among);
      placed = so_far.placed;
      honoured = subst (λ (people : List Person). IsHonoured step.protections people (length members)) (sym now) honoured;
      raises = raises-snoc step.protections [] front marks person false so_far.raises (no_raise_from step.protections (onto front []) person (length members) so_far.honoured honoured);
      count = omega (arith, unmarked-snoc marks, so_far.count);
    })

-- ---- by places

-- the people before a place, the one there, and those behind
pub split_at : (people : List Person) (at : ℕ) (other : Person) → at < length people → people ≡ take at people ++ get_or people at other ∷ drop (suc at) people
split_at people at other inside = sym (take-append-drop at people) ∙ ap (λ (rest : List Person). take at people ++ rest) (drop-cons people at other inside)

-- the next may join
pub may_join_at : (step : Step) (people : List Person) (at : ℕ) (other : Person) (kept : Kept) (marks : List Bool) → IsStep step → people ≡ step.people → at < length people
    → IsMarked step (take at people) kept marks → MayJoin kept (get_or people at other)
may_join_at step people at other kept marks ok same inside so_far =
    next_may_join step (take at people) (drop (suc at) people) (get_or people at other) kept marks ok (sym same ∙ split_at people at other inside) so_far

-- and is marked then
pub marked_at : (step : Step) (people : List Person) (at : ℕ) (other : Person) (before after : Kept) (marks : List Bool) (joined : Bool) → IsStep step → people ≡ step.people
    → at < length people → IsMarked step (take at people) before marks → IsJoined before (get_or people at other) joined after
    → IsMarked step (take (at + 1) people) after (marks ++ joined ∷ [])
marked_at step people at other before after marks joined ok same inside so_far done =
    let next : take (at + 1) people ≡ take at people ++ get_or people at other ∷ [] = rw add-one (take-suc people at other inside) in
    subst (λ (front : List Person). IsMarked step front after (marks ++ joined ∷ [])) (sym next)
    (marked_next step (take at people) (drop (suc at) people) (get_or people at other) before after marks joined ok (sym same ∙ split_at people at other inside) so_far done)
