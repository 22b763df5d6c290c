-- Who raises the number honoured: the marks are there, they count that number, and every other set that honours as much has as many later on.
use Rattle.std.proofs.Common.{◌≡◌, ◌≢◌, ◌+◌, ◌⊎◌, ℕ, suc, Bool, true, false, List, [], ◌∷◌, ◌++◌, length, refl, sym, ap, ◌∙◌, subst, inl, inr, arith}
use Rattle.std.proofs.lemmas.Bool.{cases_lt}
use Rattle.std.specs.List.{AllByRecursion}
use Rattle.office_base.specs.Lists.{AnyByRecursion}
use Rattle.office_base.specs.Placement.{IsHonoured}
use Rattle.office_base.specs.declared.person.Person.{Person}
use Rattle.office_base.specs.declared.step.Protections.{Protections}
use Rattle.office_base.proofs.Lists.{all_weaker}
use Rattle.placements.specs.Ranks.{AreAmong, AreDistinct}
use Rattle.placements.proofs.Greatest.{honoured-exists, honoured-one}
use Rattle.placements.proofs.Ranks.{all_both, any_all, any_among, among_longer, among_again, among_itself, among_front, among_back, among_joined, one_step, monotone, outside, same_people, diminishing, no_more_than_people, are_among}
use Rattle.merit_choice.specs.Laws.{IsAmong}
use Rattle.merit_choice.specs.Marks.{marked, kept, IsRaise, AreRaises}
use Rattle.merit_choice.proofs.Marks.{Covers, AreFewer, AreNoFewerLater}
use Rattle.merit_choice.proofs.Members.{apart_from}

-- ---- one person

-- two numbers show that a person raises
pub raise_from : (protections : Protections) (before : List Person) (person : Person) (n : ℕ)
    → IsHonoured protections before n → IsHonoured protections (person ∷ before) (suc n) → IsRaise protections before person true
raise_from protections before person n was now m h =
    subst (λ (k : ℕ). IsHonoured protections (person ∷ before) (suc k)) (honoured-one protections before n m was h) now

-- or does not
pub no_raise_from : (protections : Protections) (before : List Person) (person : Person) (n : ℕ)
    → IsHonoured protections before n → IsHonoured protections (person ∷ before) n → IsRaise protections before person false
no_raise_from protections before person n was now m h =
    subst (λ (k : ℕ). IsHonoured protections (person ∷ before) k) (honoured-one protections before n m was h) now

-- a person raises the number or not
pub raise-exists : (protections : Protections) (before : List Person) (person : Person) → AreDistinct (person ∷ before) → (mark : Bool) × IsRaise protections before person mark
raise-exists protections before person distinct =
    let was = honoured-exists protections before distinct.1 in
    let now = honoured-exists protections (person ∷ before) distinct in
    let up = one_step protections person before (person ∷ before) was.0 now.0 (among_itself (person ∷ before)) was.1 now.1 in
    let low = monotone protections before (person ∷ before) was.0 now.0 (among_longer person before before (among_itself before)) was.1 now.1 in
    elim (cases_lt was.0 now.0) [
      | inl more ↦
          let e : now.0 ≡ suc was.0 = omega arith in
          (true, raise_from protections before person was.0 was.1 (subst (λ (k : ℕ). IsHonoured protections (person ∷ before) k) e now.1))
      | inr same ↦
          let e : now.0 ≡ was.0 = omega arith in
          (false, no_raise_from protections before person was.0 was.1 (subst (λ (k : ℕ). IsHonoured protections (person ∷ before) k) e now.1))
    ]

-- ---- down the people

-- the people one after another, put in front of those before
abbrev pub onto : List Person → List Person → List Person
onto [] before = before
onto (person ∷ people) before = onto people (person ∷ before)

-- who is apart from all of them is apart from those of a part
pub apart_part : (person : Person) (some all : List Person) → AreAmong some all → AllByRecursion (λ one. person.id ≢ one.id) all → AllByRecursion (λ one. person.id ≢ one.id) some
apart_part person some all among apart =
    all_weaker (λ one. AnyByRecursion (λ other. one ≡ other) all) (λ one. person.id ≢ one.id)
    (λ one there same. apart_from person one all apart there (one_of person one all apart there same)) some among
  where
    one_of : (person one : Person) (all : List Person) → AllByRecursion (λ other. person.id ≢ other.id) all → AnyByRecursion (λ other. one ≡ other) all → person.id ≡ one.id → person ≡ one
    one_of person one all apart there same =
        let found = any_all (λ other. one ≡ other) (λ other. person.id ≢ other.id) all there apart in
        absurd (found.2 (same ∙ ap (λ (p : Person). p.id) found.1))

-- each of the people is apart from those before, and they are distinct
abbrev pub AreNew : List Person → List Person → Type 0
AreNew [] before = AreDistinct before
AreNew (person ∷ people) before = AreDistinct (person ∷ before) × AreNew people (person ∷ before)

-- distinct people are new, one after another, behind people apart from all of them
pub new-from_distinct : (people before : List Person) → AreDistinct people → AreDistinct before
    → AllByRecursion (λ person. AllByRecursion (λ one. person.id ≢ one.id) before) people → AreNew people before
new-from_distinct [] before distinct was apart = was
new-from_distinct (person ∷ people) before distinct was apart = (
  (apart.0, was),
  new-from_distinct people (person ∷ before) distinct.1 (apart.0, was)
      (all_both (λ other. person.id ≢ other.id) (λ other. AllByRecursion (λ one. other.id ≢ one.id) before) (λ other. AllByRecursion (λ one. other.id ≢ one.id) (person ∷ before))
      (λ other new old. ((λ e. new (sym e)), old)) people distinct.0 apart.1),
)

-- with nobody before
pub new-from_nobody : (people : List Person) → AreDistinct people → AreNew people []
new-from_nobody people distinct = new-from_distinct people [] distinct tt (apart_from_nobody people)
  where
    apart_from_nobody : (people : List Person) → AllByRecursion (λ (person : Person). AllByRecursion (λ (one : Person). person.id ≢ one.id) []) people
    apart_from_nobody [] = tt
    apart_from_nobody (person ∷ people) = (tt, apart_from_nobody people)

-- the marks are there
pub raises-exist : (protections : Protections) (people before : List Person) → AreNew people before → (marks : List Bool) × AreRaises protections before people marks
raises-exist protections [] before new = ([], tt)
raises-exist protections (person ∷ people) before new =
    let first = raise-exists protections before person new.0 in
    let rest = raises-exist protections people (person ∷ before) new.1 in
    (first.0 ∷ rest.0, (first.1, rest.1))

-- one mark for each of the people
pub length-raises : (protections : Protections) (before people : List Person) (marks : List Bool) → AreRaises protections before people marks → length marks ≡ length people
length-raises protections before [] [] raises = refl
length-raises protections before [] (mark ∷ marks) raises = absurd raises
length-raises protections before (person ∷ people) [] raises = absurd raises
length-raises protections before (person ∷ people) (mark ∷ marks) raises = ap suc (length-raises protections (person ∷ before) people marks raises.1)

-- all of them honour as many more as there are marks set
pub honoured_onto : (protections : Protections) (before people : List Person) (marks : List Bool) (n : ℕ) → AreRaises protections before people marks
    → IsHonoured protections before n → IsHonoured protections (onto people before) (n + marked marks)
honoured_onto protections before [] [] n raises h = subst (λ (k : ℕ). IsHonoured protections before k) (omega arith) h
honoured_onto protections before [] (mark ∷ marks) n raises h = absurd raises
honoured_onto protections before (person ∷ people) [] n raises h = absurd raises
honoured_onto protections before (person ∷ people) (true ∷ marks) n raises h =
    subst (λ (k : ℕ). IsHonoured protections (onto people (person ∷ before)) k) (omega arith)
    (honoured_onto protections (person ∷ before) people marks (suc n) raises.1 (raises.0 n h))
honoured_onto protections before (person ∷ people) (false ∷ marks) n raises h = honoured_onto protections (person ∷ before) people marks n raises.1 (raises.0 n h)

-- who is among the people, or among those before, is among them all
pub among_onto : (person : Person) (people before : List Person) → IsAmong person people ⊎ IsAmong person before → IsAmong person (onto people before)
among_onto person [] before one = elim one [ inl here ↦ absurd here | inr there ↦ there ]
among_onto person (other ∷ people) before one = elim one [
  | inl among ↦ elim among [
    | inl here ↦ among_onto person people (other ∷ before) (inr (inl here))
    | inr later ↦ among_onto person people (other ∷ before) (inl later)
  ]
  | inr there ↦ among_onto person people (other ∷ before) (inr (inr there))
]

-- and nobody else is
pub onto_among : (person : Person) (people before : List Person) → IsAmong person (onto people before) → IsAmong person people ⊎ IsAmong person before
onto_among person [] before one = inr one
onto_among person (other ∷ people) before one = elim (onto_among person people (other ∷ before) one) [
  | inl later ↦ inl (inr later)
  | inr there ↦ elim there [ inl here ↦ inl (inl here) | inr before ↦ inr before ]
]

-- the people one after another are the people
pub honoured_again : (protections : Protections) (people : List Person) (n : ℕ) → IsHonoured protections (onto people []) n → IsHonoured protections people n
honoured_again protections people n h = same_people protections (onto people []) people n
    (are_among (onto people []) people (λ person there. elim (onto_among person people [] there) [ inl one ↦ one | inr none ↦ absurd none ]))
    (are_among people (onto people []) (λ person one. among_onto person people [] (inl one))) h

-- nobody honours none
pub honoured_nobody : (protections : Protections) → IsHonoured protections [] 0
honoured_nobody protections = record {
  reached = ([], record { held = tt; once = tt; within = λ t. omega arith }, refl);
  most = λ pairs placement. no_more_than_people protections [] pairs placement;
}

-- the people honour as many as there are marks set
pub honoured_marked : (protections : Protections) (people : List Person) (marks : List Bool) → AreRaises protections [] people marks → IsHonoured protections people (marked marks)
honoured_marked protections people marks raises =
    honoured_again protections people (marked marks)
    (subst (λ (k : ℕ). IsHonoured protections (onto people []) k) (omega arith) (honoured_onto protections [] people marks 0 raises (honoured_nobody protections)))

-- ---- those who cover the marks honour as much

-- a person who raises the number of more people raises that of some of them
pub raise_of_some : (protections : Protections) (before some : List Person) (person : Person) (n : ℕ) → AreDistinct (person ∷ before) → AreDistinct some → AreAmong some before
    → IsHonoured protections before n → IsHonoured protections some n → IsHonoured protections (person ∷ before) (suc n) → IsHonoured protections (person ∷ some) (suc n)
raise_of_some protections before some person n distinct own among was theirs now =
    let more = honoured-exists protections (person ∷ some) (apart_part person some before among distinct.0, own) in
    let up = one_step protections person some (person ∷ some) n more.0 (among_itself (person ∷ some)) theirs more.1 in
    let less = diminishing protections person some before n n more.0 (suc n) distinct among theirs was more.1 now in
    let e : more.0 ≡ suc n = omega arith in
    subst (λ (k : ℕ). IsHonoured protections (person ∷ some) k) e more.1

-- a person who does not raise the number does not raise that of people who honour as much
pub no_raise_of_some : (protections : Protections) (before some : List Person) (person : Person) (n : ℕ) → AreDistinct (person ∷ before) → AreDistinct some → AreAmong some before
    → IsHonoured protections some n → IsHonoured protections (person ∷ before) n → IsHonoured protections (person ∷ some) n
no_raise_of_some protections before some person n distinct own among theirs now =
    let more = honoured-exists protections (person ∷ some) (apart_part person some before among distinct.0, own) in
    let low = monotone protections some (person ∷ some) n more.0 (among_longer person some some (among_itself some)) theirs more.1 in
    let high = monotone protections (person ∷ some) (person ∷ before) more.0 n (inl refl, among_longer person some before among) more.1 now in
    let e : more.0 ≡ n = omega arith in
    subst (λ (k : ℕ). IsHonoured protections (person ∷ some) k) e more.1

-- marks that cover those of the people who raise the number keep people who honour as much
pub honoured_covered : (protections : Protections) (before some people : List Person) (marks others : List Bool) (n : ℕ) → AreRaises protections before people marks → Covers marks others
    → AreNew people before → AreDistinct some → AreAmong some before → IsHonoured protections before n → IsHonoured protections some n
    → IsHonoured protections (onto (kept people others) some) (n + marked marks)
honoured_covered protections before some [] [] others n raises covers new own among was theirs = subst (λ (k : ℕ). IsHonoured protections some k) (omega arith) theirs
honoured_covered protections before some [] (mark ∷ marks) others n raises covers new own among was theirs = absurd raises
honoured_covered protections before some (person ∷ people) [] others n raises covers new own among was theirs = absurd raises
honoured_covered protections before some (person ∷ people) (mark ∷ marks) [] n raises covers new own among was theirs = absurd covers
honoured_covered protections before some (person ∷ people) (true ∷ marks) (false ∷ others) n raises covers new own among was theirs = absurd (let e : false ≡ true = covers.0 refl in cc)
honoured_covered protections before some (person ∷ people) (true ∷ marks) (true ∷ others) n raises covers new own among was theirs =
    let now = raises.0 n was in
    subst (λ (k : ℕ). IsHonoured protections (onto (kept people others) (person ∷ some)) k) (omega arith)
    (honoured_covered protections (person ∷ before) (person ∷ some) people marks others (suc n) raises.1 covers.1 new.1
    (apart_part person some before among new.0.0, own) (inl refl, among_longer person some before among) now
    (raise_of_some protections before some person n new.0 own among was theirs now))
honoured_covered protections before some (person ∷ people) (false ∷ marks) (true ∷ others) n raises covers new own among was theirs =
    let now = raises.0 n was in
    honoured_covered protections (person ∷ before) (person ∷ some) people marks others n raises.1 covers.1 new.1
    (apart_part person some before among new.0.0, own) (inl refl, among_longer person some before among) now
    (no_raise_of_some protections before some person n new.0 own among theirs now)
honoured_covered protections before some (person ∷ people) (false ∷ marks) (false ∷ others) n raises covers new own among was theirs =
    honoured_covered protections (person ∷ before) some people marks others n raises.1 covers.1 new.1 own (among_longer person some before among) (raises.0 n was) theirs

-- ---- another set that honours as much

-- a person comes to those before
passed_over : (whole : List Person) (person : Person) (rest before : List Person) → AreAmong whole (rest ++ before) → AreAmong whole (rest ++ person ∷ before)
passed_over whole person rest before among = among_again whole (rest ++ before) (rest ++ person ∷ before) among
    (among_joined rest before (rest ++ person ∷ before) (among_front rest (person ∷ before))
    (among_again before (person ∷ before) (rest ++ person ∷ before) (among_longer person before before (among_itself before)) (among_back rest (person ∷ before))))

-- or goes over to them from those to come
one_over : (whole : List Person) (person : Person) (rest before : List Person) → AreAmong whole (person ∷ (rest ++ before)) → AreAmong whole (rest ++ person ∷ before)
one_over whole person rest before among = among_again whole (person ∷ (rest ++ before)) (rest ++ person ∷ before) among (
  any_among (λ other. person ≡ other) (person ∷ before) (rest ++ person ∷ before) (among_back rest (person ∷ before)) (inl refl),
  passed_over (rest ++ before) person rest before (among_itself (rest ++ before)),
)

-- In a set that honours as much as all people, at every place as many follow from there on as there are marks set.
pub later_from_honoured : (protections : Protections) (whole before people : List Person) (marks others : List Bool) (n all : ℕ) → AreRaises protections before people marks
    → length others ≡ length people → AreAmong whole (kept people others ++ before) → IsHonoured protections whole all → all ≡ n + marked marks → IsHonoured protections before n
    → length (kept people others) ≡ marked others → AreNoFewerLater marks others
later_from_honoured protections whole before [] [] [] n all raises same among h total was count = tt
later_from_honoured protections whole before [] [] (other ∷ others) n all raises same among h total was count = absurd (omega arith)
later_from_honoured protections whole before [] (mark ∷ marks) others n all raises same among h total was count = absurd raises
later_from_honoured protections whole before (person ∷ people) [] others n all raises same among h total was count = absurd raises
later_from_honoured protections whole before (person ∷ people) (mark ∷ marks) [] n all raises same among h total was count = absurd (omega arith)
later_from_honoured protections whole before (person ∷ people) (true ∷ marks) (true ∷ others) n all raises same among h total was count = (
  omega (arith, outside protections (kept (person ∷ people) (true ∷ others)) before whole n all among was h, count),
  later_from_honoured protections whole (person ∷ before) people marks others (suc n) all raises.1 (omega arith) (one_over whole person (kept people others) before among) h (omega arith) (raises.0 n was) (omega arith),
)
later_from_honoured protections whole before (person ∷ people) (true ∷ marks) (false ∷ others) n all raises same among h total was count = (
  omega (arith, outside protections (kept people others) before whole n all among was h, count),
  later_from_honoured protections whole (person ∷ before) people marks others (suc n) all raises.1 (omega arith) (passed_over whole person (kept people others) before among) h (omega arith) (raises.0 n was) count,
)
later_from_honoured protections whole before (person ∷ people) (false ∷ marks) (true ∷ others) n all raises same among h total was count = (
  omega (arith, outside protections (kept (person ∷ people) (true ∷ others)) before whole n all among was h, count),
  later_from_honoured protections whole (person ∷ before) people marks others n all raises.1 (omega arith) (one_over whole person (kept people others) before among) h total (raises.0 n was) (omega arith),
)
later_from_honoured protections whole before (person ∷ people) (false ∷ marks) (false ∷ others) n all raises same among h total was count = (
  omega (arith, outside protections (kept people others) before whole n all among was h, count),
  later_from_honoured protections whole (person ∷ before) people marks others n all raises.1 (omega arith) (passed_over whole person (kept people others) before among) h total (raises.0 n was) count,
)

-- ---- more people

-- who raises the number of more people raises that of fewer
pub fewer_raise : (protections : Protections) (before some : List Person) (person : Person) (mark other : Bool) (n m : ℕ) → AreDistinct (person ∷ before) → AreAmong some before
    → IsHonoured protections before n → IsHonoured protections some m → IsRaise protections before person other → IsRaise protections some person mark → other ≡ true → mark ≡ true
fewer_raise protections before some person true other n m distinct among was theirs raise own set = refl
fewer_raise protections before some person false false n m distinct among was theirs raise own set = set
fewer_raise protections before some person false true n m distinct among was theirs raise own set =
    absurd (omega (arith, diminishing protections person some before m n m (suc n) distinct among theirs was (own m theirs) (raise n was)))

-- the number with the person
after_mark : (protections : Protections) (before : List Person) (person : Person) (mark : Bool) (n : ℕ) → IsRaise protections before person mark
    → IsHonoured protections before n → (k : ℕ) × IsHonoured protections (person ∷ before) k
after_mark protections before person true n raise was = (suc n, raise n was)
after_mark protections before person false n raise was = (n, raise n was)

-- the marks of more people are fewer on those of some
pub raises_fewer : (protections : Protections) (before some people : List Person) (part others marks : List Bool) (n m : ℕ) → AreNew people before → AreAmong some before
    → IsHonoured protections before n → IsHonoured protections some m → length part ≡ length people
    → AreRaises protections before people others → AreRaises protections some (kept people part) marks → AreFewer part others marks
raises_fewer protections before some [] [] [] [] n m new among was theirs same raises own = tt
raises_fewer protections before some [] [] [] (mark ∷ marks) n m new among was theirs same raises own = absurd own
raises_fewer protections before some [] [] (other ∷ others) marks n m new among was theirs same raises own = absurd raises
raises_fewer protections before some [] (one ∷ part) others marks n m new among was theirs same raises own = absurd (omega arith)
raises_fewer protections before some (person ∷ people) [] others marks n m new among was theirs same raises own = absurd (omega arith)
raises_fewer protections before some (person ∷ people) (one ∷ part) [] marks n m new among was theirs same raises own = absurd raises
raises_fewer protections before some (person ∷ people) (false ∷ part) (true ∷ others) marks n m new among was theirs same raises own =
    raises_fewer protections (person ∷ before) some people part others marks (suc n) m new.1 (among_longer person some before among) (raises.0 n was) theirs (omega arith) raises.1 own
raises_fewer protections before some (person ∷ people) (false ∷ part) (false ∷ others) marks n m new among was theirs same raises own =
    raises_fewer protections (person ∷ before) some people part others marks n m new.1 (among_longer person some before among) (raises.0 n was) theirs (omega arith) raises.1 own
raises_fewer protections before some (person ∷ people) (true ∷ part) (other ∷ others) [] n m new among was theirs same raises own = absurd own
raises_fewer protections before some (person ∷ people) (true ∷ part) (other ∷ others) (mark ∷ marks) n m new among was theirs same raises own =
    let now = after_mark protections before person other n raises.0 was in
    let then = after_mark protections some person mark m own.0 theirs in (
      fewer_raise protections before some person mark other n m new.0 among was theirs raises.0 own.0,
      raises_fewer protections (person ∷ before) (person ∷ some) people part others marks now.0 then.0 new.1 (inl refl, among_longer person some before among) now.1 then.1 (omega arith) raises.1 own.1,
    )
