-- The people without one of them.
use Rattle.std.proofs.Common.{◌≡◌, ◌∙◌, ◌≢◌, ◌<◌, ◌⊎◌, ℕ, zero, suc, List, [], ◌∷◌, length, get_or, eqb, refl, sym, ap, subst, inl, inr, arith}
use Rattle.std.proofs.lemmas.Bool.{cases_Bool, eqb-true, eq-eqb, cond-true, cond-false}
use Rattle.std.specs.List.{AllByRecursion, remove}
use Rattle.office_base.specs.Lists.{AnyByRecursion, Pairwise, IsSublist}
use Rattle.office_base.specs.declared.person.CandId.{CandId}
use Rattle.office_base.specs.declared.person.Person.{Person}
use Rattle.placements.specs.Ranks.{AreDistinct, AreAmong, without}
use Rattle.placements.proofs.Convert
use Rattle.placements.proofs.Exchange.{Leaves, length_leaves}
use Rattle.placements.proofs.Ranks
use Rattle.placements.proofs.Ranks.{among_sublist}
use Rattle.placements.proofs.Sublists.{IsSublist-same}

-- without the first of the people
pub without_first : (cand : CandId) (person : Person) (people : List Person) → person.id ≡ cand → without cand (person ∷ people) ≡ people
without_first cand person people same = cond-true _ _ _ (eq-eqb person.id.0 cand.0 (ap (λ (c : CandId). c.0) same))

-- the first of the people stays where the number is another one
pub without_later : (cand : CandId) (person : Person) (people : List Person) → person.id ≢ cand → without cand (person ∷ people) ≡ person ∷ without cand people
without_later cand person people other = elim (cases_Bool (eqb person.id.0 cand.0)) [
  | inl same ↦ absurd (other (Convert.same_cand person.id cand (eqb-true person.id.0 cand.0 same)))
  | inr apart ↦ cond-false _ _ _ apart
]

-- a person has the number or another one
pub is_numbered : (cand : CandId) (person : Person) → (person.id ≡ cand) ⊎ (person.id ≢ cand)
is_numbered cand person = Ranks.same_cand person.id cand

-- one of the people has the number: that one is taken out, and the others are left
pub leaves_numbered : (cand : CandId) (people : List Person) → AnyByRecursion (λ member. member.id ≡ cand) people
    → (out : Person) × (out.id ≡ cand) × AnyByRecursion (λ other. out ≡ other) people × Leaves out people (without cand people)
leaves_numbered cand [] one = absurd one
leaves_numbered cand (person ∷ people) one = elim (is_numbered cand person) [
  | inl same ↦ (person, same, inl refl, inl (refl, without_first cand person people same))
  | inr other ↦ elim one [
    | inl here ↦ absurd (other here)
    | inr later ↦ let deeper = leaves_numbered cand people later in
        (deeper.0, deeper.1, inr deeper.2, inr (without cand people, without_later cand person people other, deeper.3))
  ]
]

-- somebody among distinct people is taken out
pub leaves_member : (member : Person) (people : List Person) → AreDistinct people → AnyByRecursion (λ other. member ≡ other) people
    → Leaves member people (without member.id people)
leaves_member member [] distinct one = absurd one
leaves_member member (person ∷ people) distinct one = elim one [
  | inl here ↦ inl (here, without_first member.id person people (ap (λ (p : Person). p.id) (sym here)))
  | inr later ↦ inr (without member.id people, without_later member.id person people (apart people distinct.0 later), leaves_member member people distinct.1 later)
]
  where
    apart : (others : List Person) → AllByRecursion (λ other. person.id ≢ other.id) others → AnyByRecursion (λ other. member ≡ other) others → person.id ≢ member.id
    apart [] far found e = absurd found
    apart (other ∷ others) far found e = elim found [
      | inl same ↦ far.0 (e ∙ ap (λ (p : Person). p.id) same)
      | inr deeper ↦ apart others far.1 deeper e
    ]

-- what is at a place is taken out there
pub leaves_at : {X : Type 0} (xs : List X) (i : ℕ) (d : X) → i < length xs → Leaves (get_or xs i d) xs (remove xs i)
leaves_at [] i d less = absurd (omega arith)
leaves_at (x ∷ xs) zero d less = inl (refl, refl)
leaves_at (x ∷ xs) (suc i) d less = inr (remove xs i, refl, leaves_at xs i d (omega (arith, less)))

-- those left are a sublist
pub without_sublist : (cand : CandId) (people : List Person) → IsSublist (without cand people) people
without_sublist cand [] = refl
without_sublist cand (person ∷ people) = elim (is_numbered cand person) [
  | inl same ↦ inl (subst (λ (l : List Person). IsSublist l people) (sym (without_first cand person people same)) (IsSublist-same people))
  | inr other ↦ inr (without cand people, without_later cand person people other, without_sublist cand people)
]

-- and so are among them
pub without_among : (cand : CandId) (people : List Person) → AreAmong (without cand people) people
without_among cand people = among_sublist (without cand people) people (without_sublist cand people)

-- what holds of each holds of those left
pub all_without : (P : Person → Type 0) (cand : CandId) (people : List Person) → AllByRecursion P people → AllByRecursion P (without cand people)
all_without P cand [] all = tt
all_without P cand (person ∷ people) all = elim (is_numbered cand person) [
  | inl same ↦ subst (AllByRecursion P) (sym (without_first cand person people same)) all.1
  | inr other ↦ subst (AllByRecursion P) (sym (without_later cand person people other)) (all.0, all_without P cand people all.1)
]

-- what holds between each two holds between those left
pub pairwise_without : (R : Person → Person → Type 0) (cand : CandId) (people : List Person) → Pairwise R people → Pairwise R (without cand people)
pairwise_without R cand [] pairs = tt
pairwise_without R cand (person ∷ people) pairs = elim (is_numbered cand person) [
  | inl same ↦ subst (Pairwise R) (sym (without_first cand person people same)) pairs.1
  | inr other ↦ subst (Pairwise R) (sym (without_later cand person people other)) (all_without (R person) cand people pairs.0, pairwise_without R cand people pairs.1)
]

-- those left are distinct
pub distinct_without : (cand : CandId) (people : List Person) → AreDistinct people → AreDistinct (without cand people)
distinct_without cand people distinct = pairwise_without (λ (a : Person) (b : Person). a.id ≢ b.id) cand people distinct

-- of distinct people none of those left has the number
pub without_apart : (cand : CandId) (people : List Person) → AreDistinct people → AllByRecursion (λ other. cand ≢ other.id) (without cand people)
without_apart cand [] distinct = tt
without_apart cand (person ∷ people) distinct = elim (is_numbered cand person) [
  | inl same ↦ subst (AllByRecursion (λ other. cand ≢ other.id)) (sym (without_first cand person people same))
      (subst (λ (c : CandId). AllByRecursion (λ other. c ≢ other.id) people) same distinct.0)
  | inr other ↦ subst (AllByRecursion (λ other. cand ≢ other.id)) (sym (without_later cand person people other))
      ((λ e. other (sym e)), without_apart cand people distinct.1)
]

-- a person with another number is left
pub among_without : (cand : CandId) (person : Person) (people : List Person) → AnyByRecursion (λ other. person ≡ other) people → person.id ≢ cand
    → AnyByRecursion (λ other. person ≡ other) (without cand people)
among_without cand person [] one other = absurd one
among_without cand person (first ∷ people) one other = elim (is_numbered cand first) [
  | inl same ↦ subst (AnyByRecursion (λ one. person ≡ one)) (sym (without_first cand first people same)) (elim one [
    | inl here ↦ absurd (other (ap (λ (p : Person). p.id) here ∙ same))
    | inr later ↦ later
  ])
  | inr apart ↦ subst (AnyByRecursion (λ one. person ≡ one)) (sym (without_later cand first people apart)) (elim one [
    | inl here ↦ inl here
    | inr later ↦ inr (among_without cand person people later other)
  ])
]

-- one fewer is left
pub length_without : (cand : CandId) (people : List Person) → AnyByRecursion (λ member. member.id ≡ cand) people → length people ≡ suc (length (without cand people))
length_without cand people one = let out = leaves_numbered cand people one in length_leaves out.0 people (without cand people) out.3
