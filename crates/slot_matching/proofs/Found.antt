-- The members, looked through one by one.
use Rattle.std.proofs.Common.{◌≡◌, ◌<◌, ◌≤◌, ◌+◌, ℕ, List, [], ◌∷◌, ◌++◌, length, take, drop, get_or, Bool, true, false, Option, Some, None, IsTrue, ◌↔◌, MatchOption, refl, sym, ap, subst, inl, inr, arith, add-one, length-append}
use Rattle.std.proofs.lemmas.Bool.{both_ways}
use Rattle.std.proofs.lemmas.List.{take_all}
use Rattle.std.proofs.Math.Seq.{take-suc}
use Rattle.std.specs.List.{AllByRecursion}
use Rattle.office_base.specs.Lists.{AnyByRecursion}
use Rattle.office_base.specs.Person.{IsBetter, number_in}
use Rattle.office_base.specs.declared.person.CandId.{CandId}
use Rattle.office_base.specs.declared.person.ListId.{ListId}
use Rattle.office_base.specs.declared.person.Person.{Person}
use Rattle.office_base.specs.declared.person.TraitSet.{TraitSet}
use Rattle.office_base.proofs.Lists.{all_push}
use Rattle.placements.specs.Demand.{is_within}
use Rattle.placements.specs.Ranks.{without}
use Rattle.placements.proofs.Without.{length_without}
use Rattle.placements.proofs.Merit.{ahead_again, not_ahead}
use Rattle.slot_matching.specs.Members.{IsWorstWithin}

-- past the end nobody was found, so nobody was there
pub nobody_found : (cand : CandId) (members : List Person) (n : ℕ) → AnyByRecursion (λ member. member.id ≡ cand) members → length members ≤ n
    → without cand members ≡ take n members ++ without cand (drop n members) → ⊥
nobody_found cand members n one past same =
    let shorter = length_without cand members one in
    let whole = ap (λ (l : List Person). length l) (take_all n members past) in
    let size = ap (λ (l : List Person). length l) same in
    let sum = length-append (take n members) (without cand (drop n members)) in
    omega (arith, shorter, whole, size, sum)

-- one of them at the end
any_end : (member : Person) (members : List Person) → AnyByRecursion (λ other. member ≡ other) (members ++ member ∷ [])
any_end member [] = inl refl
any_end member (first ∷ members) = inr (any_end member members)

any_more : (P : Person → Type 0) (members others : List Person) → AnyByRecursion P members → AnyByRecursion P (members ++ others)
any_more P [] others one = absurd one
any_more P (first ∷ members) others one = elim one [ inl here ↦ inl here | inr later ↦ inr (any_more P members others later) ]

-- what the test says of the worst so far and the next member
abbrev pub IsNext : ListId → Option Person → Person → Type 0
IsNext list None member = Unit {0}
IsNext list (Some worst) member = IsBetter list worst member

-- the next member is the worst now
pub worst_taken : (list : ListId) (set : TraitSet) (members : List Person) (worst : Option Person) (member : Person)
    → is_within member.traits set ≡ true → IsNext list worst member → IsWorstWithin list set members worst → IsWorstWithin list set (members ++ member ∷ []) (Some member)
worst_taken list set members None member inside next before = (
  any_end member members,
  inside,
  all_push (λ one. is_within one.traits set ≡ true → IsBetter list member one → ⊥) members member
      (none members before) (λ h. not_ahead (number_in list member)),
)
  where
    none : (others : List Person) → AllByRecursion (λ one. is_within one.traits set ≡ false) others
        → AllByRecursion (λ one. is_within one.traits set ≡ true → IsBetter list member one → ⊥) others
    none [] out = tt
    none (one ∷ others) out = ((λ h better. absurd (cc)), none others out.1)
worst_taken list set members (Some worst) member inside next before = (
  any_end member members,
  inside,
  all_push (λ one. is_within one.traits set ≡ true → IsBetter list member one → ⊥) members member
      (none members before.2) (λ h. not_ahead (number_in list member)),
)
  where
    none : (others : List Person) → AllByRecursion (λ one. is_within one.traits set ≡ true → IsBetter list worst one → ⊥) others
        → AllByRecursion (λ one. is_within one.traits set ≡ true → IsBetter list member one → ⊥) others
    none [] out = tt
    none (one ∷ others) out =
        ((λ h better. out.0 h (ahead_again (number_in list worst) (number_in list member) (number_in list one) next better)), none others out.1)

-- the next member holds a trait outside, or is not worse
pub worst_stays : (list : ListId) (set : TraitSet) (members : List Person) (worst : Option Person) (member : Person)
    → (is_within member.traits set ≡ true → ¬ IsNext list worst member) → IsWorstWithin list set members worst → IsWorstWithin list set (members ++ member ∷ []) worst
worst_stays list set members None member passes before =
    all_push (λ one. is_within one.traits set ≡ false) members member before (outside (is_within member.traits set) (λ h. passes h tt))
  where
    outside : (test : Bool) → (test ≡ true → ⊥) → test ≡ false
    outside true h = absurd (h refl)
    outside false h = refl
worst_stays list set members (Some worst) member passes before = (
  any_more (λ one. worst ≡ one) members (member ∷ []) before.0,
  before.1,
  all_push (λ one. is_within one.traits set ≡ true → IsBetter list worst one → ⊥) members member before.2 passes,
)

-- the members up to the next one
pub one_further : (members : List Person) (at : ℕ) (other : Person) → at < length members → take (at + 1) members ≡ take at members ++ get_or members at other ∷ []
one_further members at other inside = rw add-one (take-suc members at other inside)

-- the worst so far goes over to the next one
pub worst_next : (list : ListId) (set : TraitSet) (members : List Person) (at : ℕ) (other : Person) (worst : Option Person) → at < length members
    → is_within (get_or members at other).traits set ≡ true → IsNext list worst (get_or members at other) → IsWorstWithin list set (take at members) worst
    → IsWorstWithin list set (take (at + 1) members) (Some (get_or members at other))
worst_next list set members at other worst inside within next before =
    subst (λ (l : List Person). IsWorstWithin list set l (Some (get_or members at other))) (sym (one_further members at other inside))
    (worst_taken list set (take at members) worst (get_or members at other) within next before)

pub worst_same : (list : ListId) (set : TraitSet) (members : List Person) (at : ℕ) (other : Person) (worst : Option Person) → at < length members
    → (is_within (get_or members at other).traits set ≡ true → ¬ IsNext list worst (get_or members at other)) → IsWorstWithin list set (take at members) worst
    → IsWorstWithin list set (take (at + 1) members) worst
worst_same list set members at other worst inside passes before =
    subst (λ (l : List Person). IsWorstWithin list set l worst) (sym (one_further members at other inside))
    (worst_stays list set (take at members) worst (get_or members at other) passes before)

-- what the test answers
pub is_next : (list : ListId) (worst : Option Person) (member : Person) (answer : Bool) → MatchOption worst (answer ≡ true) (λ other. IsTrue answer ↔ IsBetter list other member)
    → answer ≡ true → IsNext list worst member
is_next list None member answer says answered = tt
is_next list (Some other) member answer says answered = says.0 answered

pub is_not_next : (list : ListId) (worst : Option Person) (member : Person) (answer : Bool) → MatchOption worst (answer ≡ true) (λ other. IsTrue answer ↔ IsBetter list other member)
    → answer ≡ false → ¬ IsNext list worst member
is_not_next list None member answer says answered next = both_ways answer answered says
is_not_next list (Some other) member answer says answered next = both_ways answer answered (says.1 next)
