-- Who is among the people whose marks are set.
use Rattle.std.proofs.Common.{◌≡◌, ◌≢◌, ◌⊎◌, Bool, true, false, List, [], ◌∷◌, refl, sym, ap, ◌∙◌, subst, inl, inr}
use Rattle.std.specs.List.{AllByRecursion}
use Rattle.office_base.specs.Lists.{AnyByRecursion, IsSublist}
use Rattle.office_base.specs.declared.person.Person.{Person}
use Rattle.placements.specs.Ranks.{AreDistinct}
use Rattle.placements.proofs.Ranks.{any_all, any_among, among_sublist, one_person, finds_person, among_itself}
use Rattle.merit_choice.specs.Laws.{IsAmong}
use Rattle.merit_choice.specs.Marks.{kept}
use Rattle.merit_choice.proofs.Marks.{Covers, AreFewer, kept-sublist}

-- who is among the people is not the one apart from all of them
pub apart_from : (person other : Person) (people : List Person) → AllByRecursion (λ one. person.id ≢ one.id) people → IsAmong other people → person ≢ other
apart_from person other people apart among same =
    let found = any_all (λ one. other ≡ one) (λ one. person.id ≢ one.id) people among apart in
    found.2 (ap (λ (p : Person). p.id) (same ∙ found.1))

-- who is kept is one of the people
pub among_kept : (person : Person) (people : List Person) (marks : List Bool) → IsAmong person (kept people marks) → IsAmong person people
among_kept person people marks among =
    any_among (λ other. person ≡ other) (kept people marks) people (among_sublist (kept people marks) people (kept-sublist people marks)) among

-- who is kept by some marks is kept by those that cover them
pub kept_covered : (person : Person) (people : List Person) (marks others : List Bool) → Covers marks others → IsAmong person (kept people marks) → IsAmong person (kept people others)
kept_covered person [] marks others covers among = absurd among
kept_covered person (one ∷ people) [] others covers among = absurd among
kept_covered person (one ∷ people) (mark ∷ marks) [] covers among = absurd covers
kept_covered person (one ∷ people) (true ∷ marks) (true ∷ others) covers among = elim among [
  | inl here ↦ inl here
  | inr later ↦ inr (kept_covered person people marks others covers.1 later)
]
kept_covered person (one ∷ people) (true ∷ marks) (false ∷ others) covers among = absurd (let e : false ≡ true = covers.0 refl in cc)
kept_covered person (one ∷ people) (false ∷ marks) (true ∷ others) covers among = inr (kept_covered person people marks others covers.1 among)
kept_covered person (one ∷ people) (false ∷ marks) (false ∷ others) covers among = kept_covered person people marks others covers.1 among

-- who is one of some people, and kept among more by marks that are fewer, is kept among the some
pub kept_among_fewer : (person : Person) (people : List Person) (some others marks : List Bool) → AreDistinct people → AreFewer some others marks
    → IsAmong person (kept people some) → IsAmong person (kept people others) → IsAmong person (kept (kept people some) marks)
kept_among_fewer person [] some others marks distinct fewer here there = absurd here
kept_among_fewer person (one ∷ people) [] others marks distinct fewer here there = absurd here
kept_among_fewer person (one ∷ people) (among ∷ some) [] marks distinct fewer here there = absurd there
kept_among_fewer person (one ∷ people) (false ∷ some) (false ∷ others) marks distinct fewer here there =
    kept_among_fewer person people some others marks distinct.1 fewer here there
kept_among_fewer person (one ∷ people) (false ∷ some) (true ∷ others) marks distinct fewer here there = elim there [
  | inl same ↦ absurd (apart_from one person people distinct.0 (among_kept person people some here) (sym same))
  | inr later ↦ kept_among_fewer person people some others marks distinct.1 fewer here later
]
kept_among_fewer person (one ∷ people) (true ∷ some) (other ∷ others) [] distinct fewer here there = absurd fewer
kept_among_fewer person (one ∷ people) (true ∷ some) (true ∷ others) (false ∷ marks) distinct fewer here there = absurd (let e : false ≡ true = fewer.0 refl in cc)
kept_among_fewer person (one ∷ people) (true ∷ some) (true ∷ others) (true ∷ marks) distinct fewer here there = elim there [
  | inl same ↦ inl same
  | inr later ↦ elim here [
    | inl same ↦ inl same
    | inr too ↦ inr (kept_among_fewer person people some others marks distinct.1 fewer.1 too later)
  ]
]
kept_among_fewer person (one ∷ people) (true ∷ some) (false ∷ others) (true ∷ marks) distinct fewer here there = elim here [
  | inl same ↦ inl same
  | inr too ↦ inr (kept_among_fewer person people some others marks distinct.1 fewer.1 too there)
]
kept_among_fewer person (one ∷ people) (true ∷ some) (false ∷ others) (false ∷ marks) distinct fewer here there = elim here [
  | inl same ↦ absurd (apart_from one person people distinct.0 (among_kept person people others there) (sym same))
  | inr too ↦ kept_among_fewer person people some others marks distinct.1 fewer.1 too there
]

-- whether a person of the people is one of some of them
pub decides_among : (all some : List Person) (person : Person) → AreDistinct all → IsSublist some all → IsAmong person all → IsAmong person some ⊎ (IsAmong person some → ⊥)
decides_among all some person distinct sub among = elim (finds_person person some) [
  | inl found ↦
      let own = any_all (λ (other : Person). person.id ≡ other.id) (λ other. AnyByRecursion (λ one. other ≡ one) some) some found (among_itself some) in
      let wide = any_among (λ one. own.0 ≡ one) some all (among_sublist some all sub) own.2 in
      let same : person ≡ own.0 = one_person all distinct person own.0 among wide own.1 in
      inl (subst (λ one. AnyByRecursion (λ o. one ≡ o) some) (sym same) own.2)
  | inr none ↦ inr (λ there. apart_from person person some none there refl)
]

-- a sublist of all, each of whom is one of some of them, is a sublist of those
pub sublist_of_some : (xs some all : List Person) → AreDistinct all → IsSublist xs all → IsSublist some all
    → ((person : Person) → IsAmong person xs → IsAmong person some) → IsSublist xs some
sublist_of_some xs some [] distinct sub part within = subst (λ (ys : List Person). IsSublist xs ys) (sym part) sub
sublist_of_some xs some (one ∷ all) distinct sub part within = elim sub [
  | inl skips ↦ elim part [
    | inl skipped ↦ sublist_of_some xs some all distinct.1 skips skipped within
    | inr begins ↦ subst (λ (ys : List Person). IsSublist xs ys) (sym begins.1)
        (inl (sublist_of_some xs begins.0 all distinct.1 skips begins.2 (λ person among.
        elim (subst (IsAmong person) begins.1 (within person among)) [
          | inl same ↦ absurd (apart_from one person all distinct.0 (any_among (λ other. person ≡ other) xs all (among_sublist xs all skips) among) (sym same))
          | inr later ↦ later
        ])))
  ]
  | inr takes ↦ elim part [
    | inl skipped ↦ absurd (
        let there : IsAmong one some = within one (subst (IsAmong one) (sym takes.1) (inl refl)) in
        apart_from one one all distinct.0 (any_among (λ other. one ≡ other) some all (among_sublist some all skipped) there) refl)
    | inr begins ↦
        let rest : IsSublist takes.0 begins.0 = sublist_of_some takes.0 begins.0 all distinct.1 takes.2 begins.2 (λ person among.
        elim (subst (IsAmong person) begins.1 (within person (subst (IsAmong person) (sym takes.1) (inr among)))) [
          | inl same ↦ absurd (apart_from one person all distinct.0 (any_among (λ other. person ≡ other) takes.0 all (among_sublist takes.0 all takes.2) among) (sym same))
          | inr later ↦ later
        ]) in
        subst (λ (ys : List Person). IsSublist xs ys) (sym begins.1) (inr (takes.0, takes.1, rest))
  ]
]
