-- The needed while people come one by one: a person joins them, takes the place of the worst whom the person can replace, or leaves them as they are;
-- and the best of the others, with them, are the choice.
use Rattle.std.proofs.Common.{◌≡◌, ◌≢◌, ◌<◌, ◌⊎◌, ℕ, suc, List, [], ◌∷◌, length, refl, sym, ap, ◌∙◌, subst, inl, inr, arith}
use Rattle.std.proofs.lemmas.Bool.{cases_lt}
use Rattle.std.specs.List.{AllByRecursion}
use Rattle.office_base.specs.Lists.{AnyByRecursion}
use Rattle.office_base.specs.Person.{IsBetter, number_in}
use Rattle.office_base.specs.Placement.{IsHonoured}
use Rattle.office_base.specs.StepChoice.{IsStep, IsStepChoice}
use Rattle.office_base.specs.declared.person.CandId.{CandId}
use Rattle.office_base.specs.declared.person.ListId.{ListId}
use Rattle.office_base.specs.declared.person.Person.{Person}
use Rattle.office_base.specs.declared.step.Pair.{Pair}
use Rattle.office_base.specs.declared.step.Protections.{Protections}
use Rattle.office_base.specs.declared.step.Step.{Step}
use Rattle.office_base.proofs.Lists.{all_weaker}
use Rattle.placements.specs.Ranks.{AreAmong, AreDistinct, CanBePlaced, without}
use Rattle.placements.proofs.Exchange.{Stands}
use Rattle.placements.proofs.Greatest.{honoured-exists}
use Rattle.placements.proofs.Ranks.{any_all, all_both, any_among, among_longer, among_itself, among_again, among_sublist, one_person, finds_person, everybody_stands, chosen_pairs, narrowed, no_more_than_people, no_more_than_pairs, monotone, exchange, extension, are_among}
use Rattle.placements.proofs.Without.{is_numbered, without_first, without_later, without_among, without_apart, among_without, length_without, distinct_without}
use Rattle.placements.proofs.Merit.{ahead_again, not_ahead}
use Rattle.merit_choice.specs.Laws.{IsAmong}
use Rattle.merit_choice.specs.Needed.{AreNeeded}
use Rattle.merit_choice.proofs.ByHand.{honoured_placed, placed_nobody}
use Rattle.merit_choice.proofs.OneByOne.{has_number, one_too_many}

-- ---- who is who

-- who is among people is one of more
pub among_more : (person : Person) (some all : List Person) → AreAmong some all → IsAmong person some → IsAmong person all
among_more person some all among there = any_among (λ other. person ≡ other) some all among there

-- one of the people, of whom none has a number, has another one
pub other_number : (person : Person) (cand : CandId) (people : List Person) → AllByRecursion (λ other. cand ≢ other.id) people → IsAmong person people → person.id ≢ cand
other_number person cand people apart there same =
    let found = any_all (λ other. person ≡ other) (λ other. cand ≢ other.id) people there apart in
    found.2 (sym same ∙ ap (λ (p : Person). p.id) found.1)

-- who has another number than each of the people is none of them
pub nobody_of : (person : Person) (people : List Person) → AllByRecursion (λ other. person.id ≢ other.id) people → IsAmong person people → ⊥
nobody_of person people apart there = other_number person person.id people apart there refl

-- one of all is one of some of them, or has another number than each of these
pub decides : (person : Person) (some all : List Person) → AreDistinct all → AreAmong some all → IsAmong person all
    → IsAmong person some ⊎ AllByRecursion (λ other. person.id ≢ other.id) some
decides person some all distinct among there = elim (finds_person person some) [
  | inl found ↦
      let own = any_all (λ (other : Person). person.id ≡ other.id) (λ other. AnyByRecursion (λ one. other ≡ one) some) some found (among_itself some) in
      let same : person ≡ own.0 = one_person all distinct person own.0 there (among_more own.0 some all among own.2) own.1 in
      inl (subst (λ one. AnyByRecursion (λ o. one ≡ o) some) (sym same) own.2)
  | inr none ↦ inr none
]

-- who is none of some has another number than each of them
pub apart_of : (person : Person) (some all : List Person) → AreDistinct all → AreAmong some all → IsAmong person all → (IsAmong person some → ⊥)
    → AllByRecursion (λ other. person.id ≢ other.id) some
apart_of person some all distinct among there out = elim (decides person some all distinct among there) [ inl found ↦ absurd (out found) | inr apart ↦ apart ]

-- apart from all is apart from some
pub apart_some : (cand : CandId) (some all : List Person) → AreAmong some all → AllByRecursion (λ other. cand ≢ other.id) all → AllByRecursion (λ other. cand ≢ other.id) some
apart_some cand some all among apart =
    all_weaker (λ one. AnyByRecursion (λ other. one ≡ other) all) (λ other. cand ≢ other.id) (λ one there same. other_number one cand all apart there (sym same)) some among

-- without one of them, the people and that one are all
pub among_rejoined : (one : Person) (people : List Person) → AreDistinct people → IsAmong one people → AreAmong people (one ∷ without one.id people)
among_rejoined one people distinct there = are_among people (one ∷ without one.id people) (λ other in_people. elim (is_numbered one.id other) [
  | inl same ↦ inl (one_person people distinct other one in_people there same)
  | inr apart ↦ inr (among_without one.id other people in_people apart)
])

-- ---- parts of people who can all be placed

-- one pair for each of some people, for who they are
abbrev pairs_for : List Person → List Pair
pairs_for [] = []
pairs_for (person ∷ people) = record { cand = person.id; slot = 0 } ∷ pairs_for people

-- each of them is in a pair
stands_for : (person : Person) (people : List Person) → IsAmong person people → Stands person.id (pairs_for people)
stands_for person [] there = absurd there
stands_for person (one ∷ people) there = elim there [ inl here ↦ inl (ap (λ (p : Person). p.id) here) | inr later ↦ inr (stands_for person people later) ]

-- and a candidate who is in a pair is one of them
stands_of : (cand : CandId) (people : List Person) → Stands cand (pairs_for people) → AnyByRecursion (λ one. cand ≡ one.id) people
stands_of cand [] there = absurd there
stands_of cand (one ∷ people) there = elim there [ inl here ↦ inl here | inr later ↦ inr (stands_of cand people later) ]

-- some distinct persons of people who can all be placed can be placed too
pub placed_part : (protections : Protections) (some all : List Person) → AreDistinct all → AreDistinct some → AreAmong some all → CanBePlaced protections all → CanBePlaced protections some
placed_part protections some all distinct own among can =
    let stand : AllByRecursion (λ (person : Person). Stands person.id can.0) all = everybody_stands protections all can.0 can.1 can.2 in
    let chosen = chosen_pairs protections all (pairs_for some) can.0 can.1 in
    let whose : AllByRecursion (λ (pair : Pair). AnyByRecursion (λ (one : Person). pair.cand ≡ one.id) some) chosen.0 =
    all_weaker (λ (pair : Pair). Stands pair.cand (pairs_for some)) (λ (pair : Pair). AnyByRecursion (λ (one : Person). pair.cand ≡ one.id) some)
    (λ pair s. stands_of pair.cand some s) chosen.0 chosen.2 in
    let placed = narrowed protections some all chosen.0 distinct among whose chosen.1 in
    let theirs : AllByRecursion (λ (person : Person). Stands person.id chosen.0) some =
    all_both (λ person. AnyByRecursion (λ other. person ≡ other) some) (λ person. AnyByRecursion (λ other. person ≡ other) all) (λ (person : Person). Stands person.id chosen.0)
    (λ person mine wide.
    let found = any_all (λ (other : Person). person ≡ other) (λ (other : Person). Stands other.id can.0) all wide stand in
    chosen.3 person.id (stands_for person some mine) (subst (λ (one : Person). Stands one.id can.0) (sym found.1) found.2))
    some (among_itself some) among in
    let few = no_more_than_people protections some chosen.0 placed in
    let many = no_more_than_pairs (λ (person : Person). person.id) some chosen.0 own theirs in
    (chosen.0, placed, omega arith)

-- ---- what the needed honour

-- those held honour as many as there are needed
pub needed_honoured : (list : ListId) (protections : Protections) (held needed : List Person) → AreDistinct held → AreNeeded list protections held needed
    → IsHonoured protections held (length needed)
needed_honoured list protections held needed distinct n =
    let all = honoured-exists protections held distinct in
    let low = monotone protections needed held (length needed) all.0 n.among (honoured_placed protections needed n.placed) all.1 in
    elim (cases_lt (length needed) all.0) [
      | inr few ↦ let e : all.0 ≡ length needed = omega arith in subst (IsHonoured protections held) e all.1
      | inl more ↦ absurd (
          let largest = extension protections [] held all.0 distinct tt (placed_nobody protections) all.1 in
          let joins = exchange protections held needed largest.0 distinct n.among (among_sublist largest.0 held largest.1) n.placed largest.3 (omega (arith, largest.4)) in
          n.most joins.0 (among_more joins.0 largest.0 held (among_sublist largest.0 held largest.1) joins.1) (nobody_of joins.0 needed joins.2) joins.3)
    ]

-- where only people who are not needed leave, the needed stay so
pub needed_left : (list : ListId) (protections : Protections) (held rest needed : List Person) → AreAmong rest held → AreAmong needed rest
    → AreNeeded list protections held needed → AreNeeded list protections rest needed
needed_left list protections held rest needed within among n = record {
  among = among;
  distinct = n.distinct;
  placed = n.placed;
  most = λ other there out. n.most other (among_more other rest held within there) out;
  best = λ one other mine there out. n.best one other mine (among_more other rest held within there) out;
}

-- the same persons in another order
pub needed_again : (list : ListId) (protections : Protections) (held others needed again : List Person) → AreDistinct held → AreAmong others held → AreAmong again others
    → AreAmong needed again → AreAmong again needed → AreDistinct again
    → AreNeeded list protections held needed → AreNeeded list protections others again
needed_again list protections held others needed again distinct within among there back own n = record {
  among = among;
  distinct = own;
  placed = placed_part protections again needed n.distinct own back n.placed;
  most = λ other in_others out can.
      let in_held = among_more other others held within in_others in
      let gone : IsAmong other needed → ⊥ = λ mine. out (among_more other needed again there mine) in
      n.most other in_held gone
      (placed_part protections (other ∷ needed) (other ∷ again) (apart other again in_held (among_again again needed held back n.among) out, own)
      (apart other needed in_held n.among gone, n.distinct) (inl refl, among_longer other needed again there) can);
  best = λ one other mine in_others out better can.
      let in_held = among_more other others held within in_others in
      let gone : IsAmong other needed → ⊥ = λ his. out (among_more other needed again there his) in
      let far = apart other again in_held (among_again again needed held back n.among) out in
      let near = apart other needed in_held n.among gone in
      n.best one other (among_more one again needed back mine) in_held gone better
      (placed_part protections (other ∷ without one.id needed) (other ∷ without one.id again)
      (apart_some other.id (without one.id again) again (without_among one.id again) far, distinct_without one.id again own)
      (apart_some other.id (without one.id needed) needed (without_among one.id needed) near, distinct_without one.id needed n.distinct) (
        inl refl,
        among_longer other (without one.id needed) (without one.id again) (are_among (without one.id needed) (without one.id again) (λ person left.
            among_without one.id person again (among_more person needed again there (among_more person (without one.id needed) needed (without_among one.id needed) left))
            (other_number person one.id (without one.id needed) (without_apart one.id needed n.distinct) left))),
      ) can);
}
  where
    apart : (other : Person) (some : List Person) → IsAmong other held → AreAmong some held → (IsAmong other some → ⊥) → AllByRecursion (λ person. other.id ≢ person.id) some
    apart other some in_held within out = apart_of other some held distinct within in_held out

-- ---- the choice

-- Of one person more than there are seats, the worst who is not needed is left out.
pub needed_choice : (step : Step) (needed : List Person) (out : Person) → IsStep step → AreNeeded step.list step.protections step.people needed
    → length step.people ≡ suc step.seats → IsAmong out step.people → (IsAmong out needed → ⊥)
    → ((other : Person) → IsAmong other step.people → (IsAmong other needed → ⊥) → (other ≡ out) ⊎ IsBetter step.list other out)
    → IsStepChoice step (without out.id step.people)
needed_choice step needed out ok n count there free worst =
    let people = step.people in
    let distinct = ok.people.distinct in
    let rest = without out.id people in
    let far = apart_of out needed people distinct n.among there free in
    let still : AreAmong needed rest = are_among needed rest (λ person mine.
    among_without out.id person people (among_more person needed people n.among mine) (other_number person out.id needed far mine)) in
    let all = needed_honoured step.list step.protections people needed distinct n in
    let left = needed_honoured step.list step.protections rest needed (distinct_without out.id people distinct)
    (needed_left step.list step.protections people rest needed (without_among out.id people) still n) in
    one_too_many step out (length needed) ok count there all left (λ other m in_people better honoured. fewer other m in_people better honoured)
  where
    fewer : (other : Person) (m : ℕ) → IsAmong other step.people → IsBetter step.list out other → IsHonoured step.protections (without other.id step.people) m → m < length needed
    fewer other m in_people better honoured = elim (cases_lt m (length needed)) [
      | inl less ↦ less
      | inr most ↦ absurd (
          let people = step.people in
          let distinct = ok.people.distinct in
          let rest = without other.id people in
          elim (decides other needed people distinct n.among in_people) [
            | inr apart ↦ elim (worst other in_people (nobody_of other needed apart)) [
              | inl same ↦ not_ahead (number_in step.list out) (subst (IsBetter step.list out) same better)
              | inr worse ↦ not_ahead (number_in step.list out)
                  (ahead_again (number_in step.list out) (number_in step.list other) (number_in step.list out) better worse)
            ]
            | inl mine ↦
                let own_rest = distinct_without other.id people distinct in
                let largest = extension step.protections [] rest m own_rest tt (placed_nobody step.protections) honoured in
                let within : AreAmong largest.0 people = among_again largest.0 rest people (among_sublist largest.0 rest largest.1) (without_among other.id people) in
                let size = length_without other.id needed (has_number other needed mine) in
                let others = without other.id needed in
                let can = placed_part step.protections others needed n.distinct (distinct_without other.id needed n.distinct) (without_among other.id needed) n.placed in
                let joins = exchange step.protections people others largest.0 distinct (among_again others needed people (without_among other.id needed) n.among) within can largest.3
                (omega (arith, largest.4)) in
                let who = joins.0 in
                let in_rest : IsAmong who rest = among_more who largest.0 rest (among_sublist largest.0 rest largest.1) joins.1 in
                let not_other : who.id ≢ other.id = other_number who other.id rest (without_apart other.id people distinct) in_rest in
                let in_all = among_more who rest people (without_among other.id people) in_rest in
                let gone : IsAmong who needed → ⊥ = λ his. nobody_of who others joins.2 (among_without other.id who needed his not_other) in
                let ahead : IsBetter step.list who other = elim (worst who in_all gone) [
                  | inl same ↦ subst (λ (one : Person). IsBetter step.list one other) (sym same) better
                  | inr above ↦ ahead_again (number_in step.list who) (number_in step.list out) (number_in step.list other) above better
                ] in
                n.best other who mine in_all gone ahead joins.3
          ])
    ]

-- ---- a person comes

-- a person who can be placed with the needed joins them
pub needed_joined : (list : ListId) (protections : Protections) (held needed : List Person) (person : Person) → AreDistinct held
    → AllByRecursion (λ other. person.id ≢ other.id) held → AreNeeded list protections held needed → CanBePlaced protections (person ∷ needed)
    → AreNeeded list protections (person ∷ held) (person ∷ needed)
needed_joined list protections held needed person distinct new n can = record {
  among = (inl refl, among_longer person needed held n.among);
  distinct = (mine, n.distinct);
  placed = can;
  most = λ other there out more. elim there [
    | inl same ↦ out (inl same)
    | inr in_held ↦
        let gone : IsAmong other needed → ⊥ = λ his. out (inr his) in
        n.most other in_held gone (with_two other in_held out more needed n.distinct (among_itself needed))
  ];
  best = λ one other who there out better more. elim there [
    | inl same ↦ out (inl same)
    | inr in_held ↦
        let gone : IsAmong other needed → ⊥ = λ his. out (inr his) in
        elim who [
          | inl same ↦ n.most other in_held gone
              (subst (λ (people : List Person). CanBePlaced protections (other ∷ people)) (without_first one.id person needed (ap (λ (p : Person). p.id) (sym same))) more)
          | inr his ↦
              let apart : person.id ≢ one.id = λ same. other_number one person.id needed mine his (sym same) in
              let told : CanBePlaced protections (other ∷ person ∷ without one.id needed) =
              subst (λ (people : List Person). CanBePlaced protections (other ∷ people)) (without_later one.id person needed apart) more in
              let less = without one.id needed in
              let far = apart_of other needed held distinct n.among in_held gone in
              let not_him : other.id ≢ person.id = other_number other person.id held new in_held in
              n.best one other his in_held gone better
              (placed_part protections (other ∷ less) (other ∷ person ∷ less) (
                (not_him, apart_some other.id less needed (without_among one.id needed) far),
                (apart_some person.id less needed (without_among one.id needed) mine, distinct_without one.id needed n.distinct),
              )
              (apart_some other.id less needed (without_among one.id needed) far, distinct_without one.id needed n.distinct)
              (inl refl, among_longer other less (person ∷ less) (among_longer person less less (among_itself less))) told)
        ]
  ];
}
  where
    mine : AllByRecursion (λ other. person.id ≢ other.id) needed
    mine = apart_some person.id needed held n.among new

    with_two : (other : Person) → IsAmong other held → (IsAmong other (person ∷ needed) → ⊥) → CanBePlaced protections (other ∷ person ∷ needed)
        → (some : List Person) → AreDistinct some → AreAmong some needed → CanBePlaced protections (other ∷ some)
    with_two other in_held out more some own within =
        let gone : IsAmong other needed → ⊥ = λ his. out (inr his) in
        let far = apart_of other needed held distinct n.among in_held gone in
        let not_him : other.id ≢ person.id = other_number other person.id held new in_held in
        placed_part protections (other ∷ some) (other ∷ person ∷ needed) ((not_him, far), (mine, n.distinct))
        (apart_some other.id some needed within far, own) (inl refl, among_longer other some (person ∷ needed) (among_longer person some needed within)) more

-- Who can be placed neither with the needed nor in the place of one of them who is worse leaves them as they are.
pub needed_kept : (list : ListId) (protections : Protections) (held needed : List Person) (person : Person)
    → AreNeeded list protections held needed → (CanBePlaced protections (person ∷ needed) → ⊥)
    → ((one : Person) → IsAmong one needed → IsBetter list person one → CanBePlaced protections (person ∷ without one.id needed) → ⊥)
    → AreNeeded list protections (person ∷ held) needed
needed_kept list protections held needed person n cannot nobody = record {
  among = among_longer person needed held n.among;
  distinct = n.distinct;
  placed = n.placed;
  most = λ other there out can. elim there [
    | inl same ↦ cannot (subst (λ (one : Person). CanBePlaced protections (one ∷ needed)) same can)
    | inr in_held ↦ n.most other in_held out can
  ];
  best = λ one other his there out better can. elim there [
    | inl same ↦ nobody one his (subst (λ (who : Person). IsBetter list who one) same better)
        (subst (λ (who : Person). CanBePlaced protections (who ∷ without one.id needed)) same can)
    | inr in_held ↦ n.best one other his in_held out better can
  ];
}
