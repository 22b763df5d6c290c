-- How many protections lists of people honour, when people are added or left out.
use Rattle.std.proofs.Common.{◌≡◌, ◌∙◌, ◌≢◌, ◌<◌, ◌≤◌, ◌+◌, ◌-◌, ◌⊎◌, ℕ, zero, suc, List, [], ◌∷◌, ◌++◌, length, eqb, refl, ap, sym, subst, inl, inr, arith, length-append}
use Rattle.std.proofs.lemmas.Bool.{eqb-true, eqb-false, cases_Bool, cases_lt}
use Rattle.std.specs.List.{AllByRecursion}
use Rattle.std.specs.Prelude.{IsSome}
use Rattle.office_base.specs.Lists.{AnyByRecursion, IsAmong, Pairwise, IsSublist}
use Rattle.office_base.specs.Person.{IsBetter, IsTraitSet, number_in}
use Rattle.office_base.specs.Placement.{IsPlacement, IsHonoured, Fills, placed_on}
use Rattle.office_base.specs.StepChoice.{AreRanked}
use Rattle.office_base.specs.declared.person.CandId.{CandId}
use Rattle.office_base.specs.declared.person.ListId.{ListId}
use Rattle.office_base.specs.declared.person.Person.{Person}
use Rattle.office_base.specs.declared.step.Pair.{Pair}
use Rattle.office_base.specs.declared.step.Protections.{Protections}
use Rattle.office_base.proofs.Lists.{all_weaker, all_joined}
use Rattle.placements.proofs.Sublists.{AllByRecursion-sublist}
use Rattle.placements.specs.Ranks.{AreDistinct, CanBePlaced, AreAmong}
use Rattle.placements.proofs.Exchange.{Leaves, Apart, Stands, AllStand, Joins, apart_back, pairwise_leaves, length_leaves, fewer, finds, stands_at, stands_or, stands_still, at_standing, all_stand_same, exchange_pairs}

-- ---- who is among whom

-- one of the elements stays one of them, where P goes over to Q
pub any_weaker : {X : Type 0} (P Q : X → Type 0) → ((x : X) → P x → Q x) → (xs : List X) → AnyByRecursion P xs → AnyByRecursion Q xs
any_weaker P Q f [] one = absurd one
any_weaker P Q f (x ∷ xs) one = elim one [ inl here ↦ inl (f x here) | inr later ↦ inr (any_weaker P Q f xs later) ]

-- P holds of one of the elements, and Q of each: both hold of one of them
pub any_all : {X : Type 0} (P Q : X → Type 0) (xs : List X) → AnyByRecursion P xs → AllByRecursion Q xs → (x : X) × P x × Q x
any_all P Q [] one all = absurd one
any_all P Q (x ∷ xs) one all = elim one [ inl here ↦ (x, here, all.0) | inr later ↦ any_all P Q xs later all.1 ]

-- what follows from two facts of each element
pub all_both : {X : Type 0} (P Q R : X → Type 0) → ((x : X) → P x → Q x → R x) → (xs : List X) → AllByRecursion P xs → AllByRecursion Q xs → AllByRecursion R xs
all_both P Q R f [] first second = tt
all_both P Q R f (x ∷ xs) first second = (f x first.0 second.0, all_both P Q R f xs first.1 second.1)

-- an element for which P holds shows that it holds of one of them
pub any_at : {X : Type 0} (P : X → Type 0) (x : X) (xs : List X) → AnyByRecursion (λ y. x ≡ y) xs → P x → AnyByRecursion P xs
any_at P x xs one p = any_weaker (λ y. x ≡ y) P (λ y e. subst P e p) xs one

-- one of the first people is one of the second
pub any_among : (P : Person → Type 0) (some all : List Person) → AreAmong some all → AnyByRecursion P some → AnyByRecursion P all
any_among P some all among one =
    let found = any_all P (λ person. AnyByRecursion (λ other. person ≡ other) all) some one among in any_at P found.0 all found.2 found.1

-- so each of the first people is one of the second
pub widen : (person : Person) (some all : List Person) → AreAmong some all → IsAmong person some → IsAmong person all
widen person some all among here = any_among (λ other. person ≡ other) some all among here

-- a list is among another where each of its people is
pub are_among : (some all : List Person) → ((person : Person) → IsAmong person some → IsAmong person all) → AreAmong some all
are_among [] all each = tt
are_among (person ∷ some) all each = (each person (inl refl), are_among some all (λ one there. each one (inr there)))

-- what holds of each of all holds of those among them
pub all_among : (P : Person → Type 0) (some all : List Person) → AreAmong some all → AllByRecursion P all → AllByRecursion P some
all_among P some all among each =
    all_weaker (λ one. AnyByRecursion (λ other. one ≡ other) all) P
    (λ one there. let found = any_all (λ other. one ≡ other) P all there each in subst P (sym found.1) found.2) some among

-- everybody is among a list with one more in front
pub among_longer : (person : Person) (some all : List Person) → AreAmong some all → AreAmong some (person ∷ all)
among_longer person some all among =
    all_weaker (λ one. AnyByRecursion (λ other. one ≡ other) all) (λ one. AnyByRecursion (λ other. one ≡ other) (person ∷ all)) (λ one h. inr h) some among

-- each is among all
pub among_itself : (people : List Person) → AreAmong people people
among_itself [] = tt
among_itself (person ∷ people) = (inl refl, among_longer person people people (among_itself people))

-- the people of a sublist are among all
pub among_sublist : (some all : List Person) → IsSublist some all → AreAmong some all
among_sublist some [] h = subst (λ people. AreAmong people []) (sym h) tt
among_sublist some (person ∷ all) h = elim h [
  | inl skips ↦ among_longer person some all (among_sublist some all skips)
  | inr takes ↦ subst (λ people. AreAmong people (person ∷ all)) (sym takes.1) (inl refl, among_longer person takes.0 all (among_sublist takes.0 all takes.2))
]

-- among those among all is among all
pub among_again : (some more all : List Person) → AreAmong some more → AreAmong more all → AreAmong some all
among_again some more all first second =
    all_weaker (λ one. AnyByRecursion (λ other. one ≡ other) more) (λ one. AnyByRecursion (λ other. one ≡ other) all)
    (λ one h. any_among (λ other. one ≡ other) more all second h) some first

-- those in front, and those behind, are among all
pub among_front : (front back : List Person) → AreAmong front (front ++ back)
among_front [] back = tt
among_front (person ∷ front) back = (inl refl, among_longer person front (front ++ back) (among_front front back))

pub among_back : (front back : List Person) → AreAmong back (front ++ back)
among_back [] back = among_itself back
among_back (person ∷ front) back = among_longer person back (front ++ back) (among_back front back)

-- P holds of one of two lists joined
pub any_append : {X : Type 0} (P : X → Type 0) (xs ys : List X) → AnyByRecursion P (xs ++ ys) → AnyByRecursion P xs ⊎ AnyByRecursion P ys
any_append P [] ys one = inr one
any_append P (x ∷ xs) ys one = elim one [
  | inl here ↦ inl (inl here)
  | inr later ↦ elim (any_append P xs ys later) [ inl front ↦ inl (inr front) | inr back ↦ inr back ]
]

-- who is in each of two lists is in both joined
pub among_joined : (front back all : List Person) → AreAmong front all → AreAmong back all → AreAmong (front ++ back) all
among_joined front back all first second = all_joined (λ one. AnyByRecursion (λ other. one ≡ other) all) front back first second

-- each of some persons is who they are by their number: of all, no two have one number
pub one_person : (all : List Person) → AreDistinct all → (a b : Person) → AnyByRecursion (λ other. a ≡ other) all
    → AnyByRecursion (λ other. b ≡ other) all → a.id ≡ b.id → a ≡ b
one_person [] distinct a b in_a in_b same = absurd in_a
one_person (person ∷ all) distinct a b in_a in_b same = elim in_a [
  | inl here ↦ elim in_b [
    | inl here_too ↦ here ∙ sym here_too
    | inr later ↦ absurd (let far = any_all (λ other. b ≡ other) (λ other. person.id ≢ other.id) all later distinct.0 in
        far.2 (ap (λ (p : Person). p.id) (sym here) ∙ same ∙ ap (λ (p : Person). p.id) far.1))
  ]
  | inr later ↦ elim in_b [
    | inl here ↦ absurd (let far = any_all (λ other. a ≡ other) (λ other. person.id ≢ other.id) all later distinct.0 in
        far.2 (ap (λ (p : Person). p.id) (sym here) ∙ sym same ∙ ap (λ (p : Person). p.id) far.1))
    | inr later_too ↦ one_person all distinct.1 a b later later_too same
  ]
]

-- ---- placements of some people, and of more or fewer

-- what places some of the people places some of more people
pub widened : (protections : Protections) (some all : List Person) (pairs : List Pair) → AreAmong some all
    → IsPlacement protections some pairs → IsPlacement protections all pairs
widened protections some all pairs among p = record {
  held = all_weaker (λ pair. AnyByRecursion (Fills pair) some) (λ pair. AnyByRecursion (Fills pair) all) (λ pair h. any_among (Fills pair) some all among h) pairs p.held;
  once = p.once;
  within = p.within;
}

-- a person who fills the pair, and is one of the people
filler : (pair : Pair) (people : List Person) → AnyByRecursion (Fills pair) people
    → (person : Person) × Fills pair person × AnyByRecursion (λ other. person ≡ other) people
filler pair people held = any_all (Fills pair) (λ person. AnyByRecursion (λ other. person ≡ other) people) people held (among_itself people)

-- what places none but some of the people is a placement of those
pub narrowed : (protections : Protections) (some all : List Person) (pairs : List Pair) → AreDistinct all → AreAmong some all
    → AllByRecursion (λ pair. AnyByRecursion (λ person. pair.cand ≡ person.id) some) pairs
    → IsPlacement protections all pairs → IsPlacement protections some pairs
narrowed protections some all pairs distinct among theirs p = record {
  held = both pairs theirs p.held;
  once = p.once;
  within = p.within;
}
  where
    both : (ps : List Pair) → AllByRecursion (λ pair. AnyByRecursion (λ person. pair.cand ≡ person.id) some) ps
        → AllByRecursion (λ pair. AnyByRecursion (Fills pair) all) ps → AllByRecursion (λ pair. AnyByRecursion (Fills pair) some) ps
    both [] their held = tt
    both (pair ∷ ps) their held =
        let own = any_all (λ person. pair.cand ≡ person.id) (λ person. AnyByRecursion (λ other. person ≡ other) some) some their.0 (among_itself some) in
        let full = filler pair all held.0 in
        let person : Person = own.0 in
        let wide : AnyByRecursion (λ other. person ≡ other) all = any_among (λ other. person ≡ other) some all among own.2 in
        let same : full.0 ≡ person = one_person all distinct full.0 person full.2 wide (sym full.1.0 ∙ own.1) in
        (any_at (Fills pair) person some own.2 (subst (Fills pair) same full.1), both ps their.1 held.1)

-- a person with a number of their own is in no placement of the others
pub nowhere : (protections : Protections) (person : Person) (people : List Person) (pairs : List Pair)
    → AllByRecursion (λ other. person.id ≢ other.id) people → IsPlacement protections people pairs → AllByRecursion (λ (pair : Pair). person.id ≢ pair.cand) pairs
nowhere protections person people pairs new p =
    all_weaker (λ pair. AnyByRecursion (Fills pair) people) (λ (pair : Pair). person.id ≢ pair.cand) (λ pair held. away pair held) pairs p.held
  where
    away : (pair : Pair) → AnyByRecursion (Fills pair) people → person.id ≢ pair.cand
    away pair held e =
        let full = filler pair people held in
        let far = any_all (λ (one : Person). full.0 ≡ one) (λ one. person.id ≢ one.id) people full.2 new in
        far.2 (e ∙ full.1.0 ∙ ap (λ (q : Person). q.id) far.1)

-- a person in none of the pairs is not needed for them
pub left_out : (protections : Protections) (person : Person) (people : List Person) (pairs : List Pair)
    → AllByRecursion (λ pair. person.id ≢ pair.cand) pairs → IsPlacement protections (person ∷ people) pairs → IsPlacement protections people pairs
left_out protections person people pairs away p = record { held = theirs pairs away p.held; once = p.once; within = p.within }
  where
    theirs : (ps : List Pair) → AllByRecursion (λ pair. person.id ≢ pair.cand) ps
        → AllByRecursion (λ pair. AnyByRecursion (Fills pair) (person ∷ people)) ps → AllByRecursion (λ pair. AnyByRecursion (Fills pair) people) ps
    theirs [] far held = tt
    theirs (pair ∷ ps) far held = (elim held.0 [ inl own ↦ absurd (far.0 (sym own.0)) | inr later ↦ later ], theirs ps far.1 held.1)

-- without one person, at most one pair fewer
pub one_fewer : (protections : Protections) (person : Person) (people all : List Person) (pairs : List Pair) → AreAmong all (person ∷ people)
    → IsPlacement protections all pairs → (rest : List Pair) × IsPlacement protections people rest × (length pairs ≤ suc (length rest))
one_fewer protections person people all pairs among p =
    let wide = widened protections all (person ∷ people) pairs among p in
    elim (finds person.id pairs) [
      | inl found ↦
          let less = fewer protections (person ∷ people) found.0 pairs found.1 found.2 wide in
          let away : AllByRecursion (λ (pair : Pair). person.id ≢ pair.cand) found.1 =
          subst (λ cand. AllByRecursion (λ (pair : Pair). cand ≢ pair.cand) found.1) found.3
          (pairwise_leaves Apart apart_back found.0 pairs found.1 found.2 wide.once).0 in
          let count = length_leaves found.0 pairs found.1 found.2 in
          (found.1, left_out protections person people found.1 away less, omega arith)
      | inr none ↦ (pairs, left_out protections person people pairs none wide, omega arith)
    ]

-- without some persons, at most as many pairs fewer
pub some_fewer : (protections : Protections) (out people all : List Person) (pairs : List Pair) → AreAmong all (out ++ people)
    → IsPlacement protections all pairs → (rest : List Pair) × IsPlacement protections people rest × (length pairs ≤ length rest + length out)
some_fewer protections [] people all pairs among p = (pairs, widened protections all people pairs among p, omega arith)
some_fewer protections (person ∷ out) people all pairs among p =
    let first = one_fewer protections person (out ++ people) all pairs among p in
    let others = some_fewer protections out people (out ++ people) first.0 (among_itself (out ++ people)) first.1 in
    (others.0, others.1, omega (arith, first.2, others.2))

-- no placement has more pairs than there are people
pub no_more_than_people : (protections : Protections) (people : List Person) (pairs : List Pair) → IsPlacement protections people pairs
    → length pairs ≤ length people
no_more_than_people protections [] [] p = omega arith
no_more_than_people protections [] (pair ∷ pairs) p = absurd p.held.0
no_more_than_people protections (person ∷ people) pairs p =
    let less = one_fewer protections person people (person ∷ people) pairs (among_itself (person ∷ people)) p in
    let short = no_more_than_people protections people less.0 less.1 in
    omega (arith, less.2, short)

-- a placement with as many pairs as people leaves nobody out
pub everybody_stands : (protections : Protections) (people : List Person) (pairs : List Pair) → IsPlacement protections people pairs
    → length pairs ≡ length people → AllByRecursion (λ person. Stands person.id pairs) people
everybody_stands protections [] pairs p full = tt
everybody_stands protections (person ∷ people) pairs p full = elim (finds person.id pairs) [
  | inl found ↦
      let less = fewer protections (person ∷ people) found.0 pairs found.1 found.2 p in
      let away : AllByRecursion (λ (pair : Pair). person.id ≢ pair.cand) found.1 =
      subst (λ cand. AllByRecursion (λ (pair : Pair). cand ≢ pair.cand) found.1) found.3
      (pairwise_leaves Apart apart_back found.0 pairs found.1 found.2 p.once).0 in
      let count = length_leaves found.0 pairs found.1 found.2 in
      let others = everybody_stands protections people found.1 (left_out protections person people found.1 away less) (omega arith) in (
        subst (λ cand. Stands cand pairs) found.3 (stands_at found.0 pairs found.1 found.2),
        all_weaker (λ (one : Person). Stands one.id found.1) (λ (one : Person). Stands one.id pairs)
            (λ one s. stands_still found.0 pairs found.1 found.2 one.id s) people others,
      )
  | inr none ↦ absurd (let short = no_more_than_people protections people pairs (left_out protections person people pairs none p) in omega arith)
]

-- ---- the numbers honoured

-- more people honour at least as much
pub monotone : (protections : Protections) (some all : List Person) (m n : ℕ) → AreAmong some all
    → IsHonoured protections some m → IsHonoured protections all n → m ≤ n
monotone protections some all m n among hs ha =
    let most = ha.most hs.reached.0 (widened protections some all hs.reached.0 among hs.reached.1) in omega (arith, hs.reached.2, most)

-- one person more honours at most one more
pub one_step : (protections : Protections) (person : Person) (people all : List Person) (m n : ℕ) → AreAmong all (person ∷ people)
    → IsHonoured protections people m → IsHonoured protections all n → n ≤ suc m
one_step protections person people all m n among hp ha =
    let less = one_fewer protections person people all ha.reached.0 among ha.reached.1 in
    let most = hp.most less.0 less.1 in omega (arith, ha.reached.2, less.2, most)

-- all honour at most as much as some of them, and one for each of the others
pub outside : (protections : Protections) (out people all : List Person) (m n : ℕ) → AreAmong all (out ++ people)
    → IsHonoured protections people m → IsHonoured protections all n → n ≤ m + length out
outside protections out people all m n among hp ha =
    let less = some_fewer protections out people all ha.reached.0 among ha.reached.1 in
    let most = hp.most less.0 less.1 in omega (arith, ha.reached.2, less.2, most)

-- the same people in another order, or repeated, honour as much
pub same_people : (protections : Protections) (some others : List Person) (n : ℕ) → AreAmong some others → AreAmong others some
    → IsHonoured protections some n → IsHonoured protections others n
same_people protections some others n there back h = record {
  reached = (h.reached.0, widened protections some others h.reached.0 there h.reached.1, h.reached.2);
  most = λ pairs p. h.most pairs (widened protections others some pairs back p);
}

-- ---- all placed

-- a candidate who is in a placement of some people has the number of one of them
pub ids_at : (people : List Person) (cand : CandId) (pairs : List Pair) → Stands cand pairs
    → AllByRecursion (λ pair. AnyByRecursion (Fills pair) people) pairs → AnyByRecursion (λ one. cand ≡ one.id) people
ids_at people cand pairs s held =
    let own = any_all (λ (pair : Pair). cand ≡ pair.cand) (λ pair. AnyByRecursion (Fills pair) people) pairs s held in
    any_weaker (Fills own.0) (λ one. cand ≡ one.id) (λ one f. own.1 ∙ f.0) people own.2

-- the same people in another order can be placed too
pub placed_again : (protections : Protections) (some others : List Person) → AreAmong some others → length others ≡ length some
    → CanBePlaced protections some → CanBePlaced protections others
placed_again protections some others there same can =
    (can.0, widened protections some others can.0 there can.1, can.2 ∙ sym same)

-- a person with this number is one of the people, or not
pub finds_person : (person : Person) (people : List Person)
    → AnyByRecursion (λ other. person.id ≡ other.id) people ⊎ AllByRecursion (λ other. person.id ≢ other.id) people
finds_person person [] = inr tt
finds_person person (other ∷ people) = elim (cases_Bool (eqb person.id.0 other.id.0)) [
  | inl same ↦ inl (inl (ap (λ (n : ℕ). let c : CandId = record { 0 = n } in c) (eqb-true person.id.0 other.id.0 same)))
  | inr apart ↦ elim (finds_person person people) [
    | inl found ↦ inl (inr found)
    | inr none ↦ inr ((λ e. eqb-false person.id.0 other.id.0 apart (ap (λ (c : CandId). c.0) e)), none)
  ]
]

-- Of two lists of people who can all be placed, a longer one has a person who joins the shorter one.
pub exchange : (protections : Protections) (all some more : List Person) → AreDistinct all → AreAmong some all → AreAmong more all
    → CanBePlaced protections some → CanBePlaced protections more → length some < length more
    → (person : Person) × AnyByRecursion (λ other. person ≡ other) more × AllByRecursion (λ other. person.id ≢ other.id) some × CanBePlaced protections (person ∷ some)
exchange protections all some more distinct in_some in_more can_some can_more less =
    let xs : List Pair = can_some.0 in
    let ys : List Pair = can_more.0 in
    let px = widened protections some all xs in_some can_some.1 in
    let py = widened protections more all ys in_more can_more.1 in
    let j : Joins protections all xs ys = exchange_pairs protections all xs ys (omega (arith, can_some.2, can_more.2)) px py in
    let whose = standing_person j.who.cand ys j.of can_more.1.held in
    let person : Person = whose.0 in
    let their : AllByRecursion (λ pair. AnyByRecursion (λ one. pair.cand ≡ one.id) (person ∷ some)) j.after =
    all_weaker (λ p. Stands p.cand (j.who ∷ xs)) (λ pair. AnyByRecursion (λ one. pair.cand ≡ one.id) (person ∷ some))
    (λ p s. elim s [ inl here ↦ inl (here ∙ whose.1) | inr later ↦ inr (ids_at some p.cand xs later can_some.1.held) ]) j.after j.only in
    let in_both : AreAmong (person ∷ some) all = (any_among (λ other. person ≡ other) more all in_more whose.2, in_some) in
    let placed = narrowed protections (person ∷ some) all j.after distinct in_both their j.placed in
    let full : length j.after ≡ suc (length some) = j.longer ∙ ap suc can_some.2 in
    (person, whose.2, apart_from person in_both.0 j.after placed full, (j.after, placed, full))
  where
    -- a candidate of the pairs is one of the people
    standing_person : (cand : CandId) (ps : List Pair) → Stands cand ps → AllByRecursion (λ pair. AnyByRecursion (Fills pair) more) ps
        → (person : Person) × (cand ≡ person.id) × AnyByRecursion (λ other. person ≡ other) more
    standing_person cand ps s held =
        let own = any_all (λ (pair : Pair). cand ≡ pair.cand) (λ pair. AnyByRecursion (Fills pair) more) ps s held in
        let full = filler own.0 more own.2 in (full.0, own.1 ∙ full.1.0, full.2)

    apart_from : (person : Person) → AnyByRecursion (λ other. person ≡ other) all → (ps : List Pair) → IsPlacement protections (person ∷ some) ps
        → length ps ≡ suc (length some) → AllByRecursion (λ other. person.id ≢ other.id) some
    apart_from person in_all ps p full = elim (finds_person person some) [
      | inl known ↦
          let other = any_all (λ (other : Person). person.id ≡ other.id) (λ other. AnyByRecursion (λ one. other ≡ one) some) some known (among_itself some) in
          let wide : AnyByRecursion (λ one. other.0 ≡ one) all = any_among (λ one. other.0 ≡ one) some all in_some other.2 in
          let same : person ≡ other.0 = one_person all distinct person other.0 in_all wide other.1 in
          let in_some_too : AreAmong (person ∷ some) some = (subst (λ one. AnyByRecursion (λ o. one ≡ o) some) (sym same) other.2, among_itself some) in
          let short = no_more_than_people protections some ps (widened protections (person ∷ some) some ps in_some_too p) in
          absurd (omega arith)
      | inr new ↦ new
    ]

-- if each candidate of some pairs is in others, and each of these is in a third list, then each of the first is in
-- the third
pub all_stand_again : (some more all : List Pair) → AllStand some more → AllStand more all → AllStand some all
all_stand_again some more all first second =
    all_weaker (λ pair. Stands pair.cand more) (λ pair. Stands pair.cand all) (λ pair s. at_standing (λ cand. Stands cand all) pair.cand more s second) some first

-- a placement grows, with all its candidates, to any length that some placement has
pub grown : (protections : Protections) (people : List Person) (n : ℕ) (xs ys : List Pair) → length xs + n ≡ length ys
    → IsPlacement protections people xs → IsPlacement protections people ys
    → (zs : List Pair) × IsPlacement protections people zs × (length zs ≡ length ys) × AllStand xs zs
grown protections people zero xs ys more px py = (xs, px, omega arith, all_stand_same xs)
grown protections people (suc n) xs ys more px py =
    let j : Joins protections people xs ys = exchange_pairs protections people xs ys (omega arith) px py in
    let longer = j.longer in
    let rest = grown protections people n j.after ys (omega arith) j.placed py in
    (rest.0, rest.1, rest.2, all_stand_again xs j.after rest.0 j.all.1 rest.3)

-- things with different candidates, each of whom is in some pair, are no more than the pairs
pub no_more_than_pairs : {X : Type 0} (of : X → CandId) (xs : List X) (pairs : List Pair) → Pairwise (λ a b. of a ≢ of b) xs
    → AllByRecursion (λ x. Stands (of x) pairs) xs → length xs ≤ length pairs
no_more_than_pairs of [] pairs distinct all = omega arith
no_more_than_pairs {X} of (x ∷ xs) pairs distinct all = elim (finds (of x) pairs) [
  | inl found ↦
      let shorter = length_leaves found.0 pairs found.1 found.2 in
      let still : AllByRecursion (λ y. Stands (of y) found.1) xs = others found.0 found.1 found.2 found.3 xs distinct.0 all.1 in
      let less = no_more_than_pairs of xs found.1 distinct.1 still in
      omega arith
  | inr none ↦ absurd (at_standing (λ cand. (of x ≡ cand) → ⊥) (of x) pairs all.0 none refl)
]
  where
    others : (p : Pair) (rest : List Pair) → Leaves p pairs rest → p.cand ≡ of x → (ys : List X) → AllByRecursion (λ y. of x ≢ of y) ys
        → AllByRecursion (λ y. Stands (of y) pairs) ys → AllByRecursion (λ y. Stands (of y) rest) ys
    others p rest leaves same [] apart stand = tt
    others p rest leaves same (y ∷ ys) apart stand =
        (elim (stands_or p pairs rest leaves (of y) stand.0) [ inl e ↦ absurd (apart.0 (sym (e ∙ same))) | inr there ↦ there ], others p rest leaves same ys apart.1 stand.1)

-- the pairs of a placement that satisfy a decision: they are a placement too, and each candidate who satisfies it is
-- in one of them
pub chosen_pairs : (protections : Protections) (people : List Person) (some pairs : List Pair) → IsPlacement protections people pairs
    → (kept : List Pair) × IsPlacement protections people kept × AllStand kept some × ((cand : CandId) → Stands cand some → Stands cand pairs → Stands cand kept)
    × AllStand kept pairs × ((t : ℕ) → placed_on t kept ≤ placed_on t pairs)
chosen_pairs protections people some [] p = ([], p, tt, (λ cand s t. t), tt, (λ t. omega arith))
chosen_pairs protections people some (pair ∷ pairs) p =
    let deeper = chosen_pairs protections people some pairs (fewer protections people pair (pair ∷ pairs) pairs (inl (refl, refl)) p) in
    let kept : List Pair = deeper.0 in
    let stand_more : AllStand kept (pair ∷ pairs) =
    all_weaker (λ q. Stands q.cand pairs) (λ q. Stands q.cand (pair ∷ pairs)) (λ q s. inr s) kept deeper.4 in
    elim (finds pair.cand some) [
      | inl found ↦ (
        pair ∷ kept,
        record {
          held = (p.held.0, deeper.1.held);
          once = (all_weaker (λ q. Stands q.cand pairs) (Apart pair) (λ q s e. at_standing (λ cand. pair.cand ≢ cand) q.cand pairs s p.once.0 e) kept deeper.4, deeper.1.once);
          within = λ t. let a = deeper.5 t in let b = p.within t in omega arith;
        },
        (subst (λ cand. Stands cand some) found.3 (stands_at found.0 some found.1 found.2), deeper.2),
        (λ cand s there. elim there [ inl here ↦ inl here | inr later ↦ inr (deeper.3 cand s later) ]),
        (inl refl, stand_more),
        (λ t. let a = deeper.5 t in omega arith),
      )
      | inr none ↦ (
        kept,
        deeper.1,
        deeper.2,
        (λ cand s there. elim there [
          | inl here ↦ absurd (at_standing (λ c. pair.cand ≢ c) cand some s none (sym here))
          | inr later ↦ deeper.3 cand s later
        ]),
        stand_more,
        (λ t. let a = deeper.5 t in omega arith),
      )
    ]

-- where each pair is of somebody else, or of nobody, the people alone are placed
pub placed_without : (protections : Protections) (person : Person) (people : List Person) (xs pairs : List Pair) (who : Pair)
    → AllByRecursion (λ other. person.id ≢ other.id) people → IsPlacement protections people xs → who.cand ≢ person.id
    → AllStand pairs (who ∷ xs) → IsPlacement protections (person ∷ people) pairs → IsPlacement protections people pairs
placed_without protections person people xs pairs who new px other only p =
    left_out protections person people pairs
    (all_weaker (λ pair. Stands pair.cand (who ∷ xs)) (λ pair. person.id ≢ pair.cand) (λ pair s. away pair.cand s) pairs only) p
  where
    away : (cand : CandId) → Stands cand (who ∷ xs) → person.id ≢ cand
    away cand (inl here) e = other (sym (e ∙ here))
    away cand (inr later) e =
        let own = any_all (λ (q : Pair). cand ≡ q.cand) (λ q. AnyByRecursion (Fills q) people) xs later px.held in
        let full = filler own.0 people own.2 in
        let far = any_all (λ (one : Person). full.0 ≡ one) (λ one. person.id ≢ one.id) people full.2 new in
        far.2 (e ∙ own.1 ∙ full.1.0 ∙ ap (λ (q : Person). q.id) far.1)

-- where the two numbers of a candidate differ or not
pub same_cand : (a b : CandId) → (a ≡ b) ⊎ (a ≢ b)
same_cand a b = elim (cases_Bool (eqb a.0 b.0)) [
  | inl same ↦ inl (ap (λ (n : ℕ). let c : CandId = record { 0 = n } in c) (eqb-true a.0 b.0 same))
  | inr other ↦ inr (λ e. eqb-false a.0 b.0 other (ap (λ (c : CandId). c.0) e))
]

-- Diminishing returns: who raises the number of more people raises that of some of them.
pub diminishing : (protections : Protections) (person : Person) (some all : List Person) (m m' n n' : ℕ) → AreDistinct (person ∷ all)
    → AreAmong some all → IsHonoured protections some m → IsHonoured protections all m' → IsHonoured protections (person ∷ some) n
    → IsHonoured protections (person ∷ all) n' → n' + m ≤ n + m'
diminishing protections person some all m m' n n' distinct among hs ha hs' ha' = elim (cases_lt m' n') [
  | inr no_raise ↦ let more = monotone protections some (person ∷ some) m n (among_longer person some some (among_itself some)) hs hs' in omega arith
  | inl raise ↦
      let wide_all : AreAmong all (person ∷ all) = among_longer person all all (among_itself all) in
      let xs : List Pair = hs.reached.0 in
      let first = grown protections all (m' - m) xs ha.reached.0
      (let mono = monotone protections some all m m' among hs ha in omega (arith, hs.reached.2, ha.reached.2))
      (widened protections some all xs among hs.reached.1) ha.reached.1 in
      let zs : List Pair = first.0 in
      let j : Joins protections (person ∷ all) zs ha'.reached.0 =
      exchange_pairs protections (person ∷ all) zs ha'.reached.0 (omega (arith, first.2, ha.reached.2, ha'.reached.2))
      (widened protections all (person ∷ all) zs wide_all first.1) ha'.reached.1 in
      elim (same_cand j.who.cand person.id) [
        | inr other ↦ absurd (
            let alone = placed_without protections person all zs j.after j.who distinct.0 first.1 other j.only j.placed in
            let most = ha.most j.after alone in
            omega (arith, j.longer, first.2, ha.reached.2, most))
        | inl same ↦
            let kept = chosen_pairs protections (person ∷ all) (j.who ∷ xs) j.after j.placed in
            let theirs : AllByRecursion (λ pair. AnyByRecursion (λ one. pair.cand ≡ one.id) (person ∷ some)) kept.0 =
            all_weaker (λ p. Stands p.cand (j.who ∷ xs)) (λ pair. AnyByRecursion (λ one. pair.cand ≡ one.id) (person ∷ some))
            (λ p s. elim s [ inl here ↦ inl (here ∙ same) | inr later ↦ inr (ids_at some p.cand xs later hs.reached.1.held) ]) kept.0 kept.2 in
            let placed = narrowed protections (person ∷ some) (person ∷ all) kept.0 distinct (inl refl, among_longer person some all among) theirs kept.1 in
            let apart : Pairwise Apart (j.who ∷ xs) = (apart_from_some zs xs j.who.cand j.new first.3, hs.reached.1.once) in
            let all_there : AllByRecursion (λ (p : Pair). Stands p.cand kept.0) (j.who ∷ xs) =
            stay_all (j.who ∷ xs) j.after kept.0 kept.3 (j.all.0, all_stand_again xs zs j.after first.3 j.all.1) in
            let count = no_more_than_pairs (λ (p : Pair). p.cand) (j.who ∷ xs) kept.0 apart all_there in
            let most = hs'.most kept.0 placed in
            let step = one_step protections person all (person ∷ all) m' n' (among_itself (person ∷ all)) ha ha' in
            omega (arith, hs.reached.2)
      ]
]
  where
    apart_from_some : (zs xs : List Pair) (cand : CandId) → AllByRecursion (λ (p : Pair). cand ≢ p.cand) zs → AllStand xs zs
        → AllByRecursion (λ (p : Pair). cand ≢ p.cand) xs
    apart_from_some zs xs cand new stand =
        all_weaker (λ p. Stands p.cand zs) (λ (p : Pair). cand ≢ p.cand) (λ p s. at_standing (λ c. cand ≢ c) p.cand zs s new) xs stand

    stay_all : (ps pairs kept : List Pair) → ((cand : CandId) → Stands cand ps → Stands cand pairs → Stands cand kept)
        → AllByRecursion (λ (p : Pair). Stands p.cand pairs) ps → AllByRecursion (λ (p : Pair). Stands p.cand kept) ps
    stay_all ps pairs kept stay stand =
        all_both (λ p. Stands p.cand ps) (λ p. Stands p.cand pairs) (λ p. Stands p.cand kept) (λ p a b. stay p.cand a b) ps (all_stand_same ps) stand

-- ---- one person after another: the chosen are a largest part of the people who can be placed

-- who can be placed with the chosen raises the number
pub taken : (protections : Protections) (person : Person) (chosen people : List Person) → AreAmong chosen people → IsHonoured protections people (length chosen)
    → CanBePlaced protections (person ∷ chosen) → IsHonoured protections (person ∷ people) (suc (length chosen))
taken protections person chosen people among h can = record {
  reached = (can.0, widened protections (person ∷ chosen) (person ∷ people) can.0 (inl refl, among_longer person chosen people among) can.1, can.2);
  most = λ pairs p.
      let less = one_fewer protections person people (person ∷ people) pairs (among_itself (person ∷ people)) p in
      let most = h.most less.0 less.1 in omega (arith, less.2);
}

-- who cannot does not
pub refused : (protections : Protections) (person : Person) (chosen people : List Person) → AreDistinct (person ∷ people)
    → AreAmong chosen people → CanBePlaced protections chosen → IsHonoured protections people (length chosen)
    → (CanBePlaced protections (person ∷ chosen) → ⊥) → IsHonoured protections (person ∷ people) (length chosen)
refused protections person chosen people distinct among can h cannot = record {
  reached = (can.0, widened protections chosen (person ∷ people) can.0 (among_longer person chosen people among) can.1, can.2);
  most = most;
}
  where
    most : (pairs : List Pair) → IsPlacement protections (person ∷ people) pairs → length pairs ≤ length chosen
    most pairs p = elim (cases_lt (length chosen) (length pairs)) [
      | inr few ↦ few
      | inl many ↦ absurd (
          let xs : List Pair = can.0 in
          let px = widened protections chosen people xs among can.1 in
          let wide : AreAmong people (person ∷ people) = among_longer person people people (among_itself people) in
          let j : Joins protections (person ∷ people) xs pairs =
          exchange_pairs protections (person ∷ people) xs pairs (omega (arith, can.2)) (widened protections people (person ∷ people) xs wide px) p in
          elim (same_cand j.who.cand person.id) [
            | inr other ↦
                let alone = h.most j.after (placed_without protections person people xs j.after j.who distinct.0 px other j.only j.placed) in
                omega (arith, j.longer, can.2)
            | inl same ↦
                let theirs : AllByRecursion (λ pair. AnyByRecursion (λ one. pair.cand ≡ one.id) (person ∷ chosen)) j.after =
                all_weaker (λ q. Stands q.cand (j.who ∷ xs)) (λ pair. AnyByRecursion (λ one. pair.cand ≡ one.id) (person ∷ chosen))
                (λ q s. elim s [ inl here ↦ inl (here ∙ same) | inr later ↦ inr (ids_at chosen q.cand xs later can.1.held) ]) j.after j.only in
                let placed = narrowed protections (person ∷ chosen) (person ∷ people) j.after distinct (inl refl, among_longer person chosen people among) theirs j.placed in
                cannot (j.after, placed, j.longer ∙ ap suc can.2)
          ])
    ]

-- ---- a largest part of the people who can be placed

-- those of the people who are in the pairs
pub standing_people : (pairs : List Pair) (people : List Person)
    → (kept : List Person) × IsSublist kept people × AllByRecursion (λ (person : Person). Stands person.id pairs) kept
    × ((person : Person) → Stands person.id pairs → AnyByRecursion (λ other. person ≡ other) people → AnyByRecursion (λ other. person ≡ other) kept)
standing_people pairs [] = ([], refl, tt, (λ person s one. one))
standing_people pairs (first ∷ people) =
    let deeper = standing_people pairs people in
    elim (finds first.id pairs) [
      | inl found ↦ (
        first ∷ deeper.0,
        inr (deeper.0, refl, deeper.1),
        (subst (λ cand. Stands cand pairs) found.3 (stands_at found.0 pairs found.1 found.2), deeper.2),
        (λ person s one. elim one [ inl here ↦ inl here | inr later ↦ inr (deeper.3 person s later) ]),
      )
      | inr none ↦ (
        deeper.0,
        inl deeper.1,
        deeper.2,
        (λ person s one. elim one [
          | inl here ↦ absurd (at_standing (λ cand. first.id ≢ cand) person.id pairs s none (ap (λ (p : Person). p.id) (sym here)))
          | inr later ↦ deeper.3 person s later
        ]),
      )
    ]

-- what holds of each and every later one does so in a sublist
pub pairwise_sublist : {X : Type 0} (R : X → X → Type 0) (some all : List X) → IsSublist some all → Pairwise R all → Pairwise R some
pairwise_sublist R some [] h each = subst (Pairwise R) (sym h) tt
pairwise_sublist R some (x ∷ all) h each = elim h [
  | inl skips ↦ pairwise_sublist R some all skips each.1
  | inr takes ↦ subst (Pairwise R) (sym takes.1) (AllByRecursion-sublist (R x) takes.0 all takes.2 each.0, pairwise_sublist R takes.0 all takes.2 each.1)
]

-- some of the people who can all be placed are among as many such people as all of them honour
pub extension : (protections : Protections) (some all : List Person) (n : ℕ) → AreDistinct all → AreAmong some all
    → CanBePlaced protections some → IsHonoured protections all n
    → (more : List Person) × IsSublist more all × AreAmong some more × CanBePlaced protections more × (length more ≡ n)
extension protections some all n distinct among can h =
    let xs : List Pair = can.0 in
    let px = widened protections some all xs among can.1 in
    let most = h.most xs px in
    let first = grown protections all (n - length xs) xs h.reached.0 (omega (arith, h.reached.2)) px h.reached.1 in
    let zs : List Pair = first.0 in
    let those = standing_people zs all in
    let more : List Person = those.0 in
    let within = among_sublist more all those.1 in
    let theirs : AllByRecursion (λ pair. AnyByRecursion (λ one. pair.cand ≡ one.id) more) zs =
    all_both (λ p. Stands p.cand zs) (λ pair. AnyByRecursion (Fills pair) all) (λ pair. AnyByRecursion (λ one. pair.cand ≡ one.id) more)
    (λ pair s held. let full = filler pair all held in
    any_at (λ (one : Person). pair.cand ≡ one.id) full.0 more (those.3 full.0 (subst (λ cand. Stands cand zs) full.1.0 s) full.2) full.1.0)
    zs (all_stand_same zs) first.1.held in
    let placed = narrowed protections more all zs distinct within theirs first.1 in
    let few = no_more_than_people protections more zs placed in
    let many = no_more_than_pairs (λ (person : Person). person.id) more zs (pairwise_sublist (λ (a : Person) (b : Person). a.id ≢ b.id) more all those.1 distinct) those.2 in
    let size : length zs ≡ n = first.2 ∙ h.reached.2 in
    let all_stand : AllByRecursion (λ (person : Person). Stands person.id xs) some = everybody_stands protections some xs can.1 can.2 in
    let still : AreAmong some more =
    all_both (λ (person : Person). Stands person.id xs) (λ person. AnyByRecursion (λ other. person ≡ other) all) (λ person. AnyByRecursion (λ other. person ≡ other) more)
    (λ person s in_all. those.3 person (at_standing (λ cand. Stands cand zs) person.id xs s first.3) in_all) some all_stand among in
    (more, those.1, still, (zs, placed, omega arith), omega arith)

-- ---- one person more at the end of a list

-- the same persons, whether one comes first or last
pub front_among_end : (person : Person) (people : List Person) → AreAmong (person ∷ people) (people ++ person ∷ [])
front_among_end person people = ((among_back people (person ∷ [])).0, among_front people (person ∷ []))

pub end_among_front : (person : Person) (people : List Person) → AreAmong (people ++ person ∷ []) (person ∷ people)
end_among_front person people =
    among_joined people (person ∷ []) (person ∷ people) (among_longer person people people (among_itself people)) (inl refl, tt)

-- all placed, whether one person comes first or last
pub placed_end : (protections : Protections) (person : Person) (people : List Person) → CanBePlaced protections (person ∷ people) → CanBePlaced protections (people ++ person ∷ [])
placed_end protections person people can = placed_again protections (person ∷ people) (people ++ person ∷ []) (front_among_end person people)
    (length-append people (person ∷ []) ∙ omega arith) can

pub placed_front : (protections : Protections) (person : Person) (people : List Person) → CanBePlaced protections (people ++ person ∷ []) → CanBePlaced protections (person ∷ people)
placed_front protections person people can = placed_again protections (people ++ person ∷ []) (person ∷ people) (end_among_front person people)
    (let e = length-append people (person ∷ []) in omega arith) can

-- a sublist of ranked people is ranked
pub ranked_sublist : (list : ListId) (some all : List Person) → AreRanked list all → IsSublist some all → AreRanked list some
ranked_sublist list some all ranked sub = record {
  traits = AllByRecursion-sublist (λ (person : Person). IsTraitSet person.traits) some all sub ranked.traits;
  placed = AllByRecursion-sublist (λ (person : Person). IsSome (number_in list person)) some all sub ranked.placed;
  in_order = pairwise_sublist (IsBetter list) some all sub ranked.in_order;
  distinct = pairwise_sublist (λ (a : Person) (b : Person). a.id ≢ b.id) some all sub ranked.distinct;
}
