-- A person takes the place of the worst of the needed whom the person can replace.
use Rattle.std.proofs.Common.{◌≡◌, ◌≢◌, ◌⊎◌, List, ◌∷◌, refl, sym, ap, ◌∙◌, subst, inl, inr, arith}
use Rattle.std.specs.List.{AllByRecursion}
use Rattle.office_base.specs.Lists.{Pairwise}
use Rattle.office_base.specs.Person.{IsBetter, number_in}
use Rattle.office_base.specs.declared.person.ListId.{ListId}
use Rattle.office_base.specs.declared.person.Person.{Person}
use Rattle.office_base.specs.declared.step.Protections.{Protections}
use Rattle.placements.specs.Ranks.{AreAmong, AreDistinct, CanBePlaced, without}
use Rattle.placements.proofs.Ranks.{among_longer, among_itself, among_again, one_person, exchange, are_among}
use Rattle.placements.proofs.Without.{is_numbered, without_first, without_later, without_among, without_apart, among_without, length_without, distinct_without}
use Rattle.placements.proofs.Merit.{ahead_again, not_ahead}
use Rattle.merit_choice.specs.Laws.{IsAmong}
use Rattle.merit_choice.specs.Needed.{AreNeeded}
use Rattle.merit_choice.proofs.OneByOne.{better_or_worse, has_number}
use Rattle.merit_choice.proofs.Needed.{among_more, among_rejoined, other_number, nobody_of, decides, apart_of, apart_some, placed_part}

-- what is known where a person comes, is held back, and can replace somebody: the worst of those is worse than the person
pub record Replaces (list : ListId) (protections : Protections) (held needed : List Person) (person worst : Person) : Type 0 where
  pub order : Pairwise (IsBetter list) held
  pub held_distinct : AreDistinct held
  pub new : AllByRecursion (λ other. person.id ≢ other.id) held
  pub needs : AreNeeded list protections held needed
  pub cannot : CanBePlaced protections (person ∷ needed) → ⊥
  pub member : IsAmong worst needed
  pub can : CanBePlaced protections (person ∷ without worst.id needed)
  pub last : (one : Person) → IsAmong one needed → CanBePlaced protections (person ∷ without one.id needed) → (one ≡ worst) ⊎ IsBetter list one worst
  pub better : IsBetter list person worst

module _ (list : ListId) (protections : Protections) (held needed : List Person) (person worst : Person) (r : Replaces list protections held needed person worst) where
  -- who is left of the needed, and what is known of them and of the person
  left_held : AreAmong (without worst.id needed) held
  left_held = among_again (without worst.id needed) needed held (without_among worst.id needed) r.needs.among

  left_distinct : AreDistinct (without worst.id needed)
  left_distinct = distinct_without worst.id needed r.needs.distinct

  person_apart : AllByRecursion (λ other. person.id ≢ other.id) needed
  person_apart = apart_some person.id needed held r.needs.among r.new

  worst_held : IsAmong worst held
  worst_held = among_more worst needed held r.needs.among r.member

  -- of those held, a person with the worst one's number is the worst one
  is_worst : (other : Person) → IsAmong other held → other.id ≡ worst.id → other ≡ worst
  is_worst other in_held same = one_person held r.held_distinct other worst in_held worst_held same

  -- one of the needed is the worst one, or is left
  worst_or_left : (other : Person) → IsAmong other needed → (other ≡ worst) ⊎ IsAmong other (without worst.id needed)
  worst_or_left other his = elim (is_numbered worst.id other) [
    | inl same ↦ inl (is_worst other (among_more other needed held r.needs.among his) same)
    | inr apart ↦ inr (among_without worst.id other needed his apart)
  ]

  -- nobody else can be placed with them
  nobody_more : (other : Person) → IsAmong other (person ∷ held) → (IsAmong other (person ∷ without worst.id needed) → ⊥) → CanBePlaced protections (other ∷ person ∷ without worst.id needed) → ⊥
  nobody_more other there out can = elim there [
    | inl same ↦ out (inl same)
    | inr in_held ↦
        let left = without worst.id needed in
        let size = length_without worst.id needed (has_number worst needed r.member) in
        let joins = exchange protections (person ∷ held) needed (other ∷ person ∷ left) (r.new, r.held_distinct) (among_longer person needed held r.needs.among)
        (inr in_held, (inl refl, among_longer person left held left_held)) r.needs.placed can (omega arith) in
        let new = nobody_of joins.0 needed joins.2 in
        elim joins.1 [
          | inl is_other ↦
              r.needs.most other in_held (subst (λ (who : Person). IsAmong who needed → ⊥) is_other new)
              (subst (λ (who : Person). CanBePlaced protections (who ∷ needed)) is_other joins.3)
          | inr later ↦ elim later [
            | inl is_person ↦ r.cannot (subst (λ (who : Person). CanBePlaced protections (who ∷ needed)) is_person joins.3)
            | inr in_left ↦ new (among_more joins.0 left needed (without_among worst.id needed) in_left)
          ]
        ]
  ]

  -- nor in the place of the person
  nobody_for_person : (other : Person) → IsAmong other held → (IsAmong other (person ∷ without worst.id needed) → ⊥) → IsBetter list other person
      → CanBePlaced protections (other ∷ without worst.id needed) → ⊥
  nobody_for_person other in_held out better can =
      let gone : IsAmong other needed → ⊥ = λ his. elim (worst_or_left other his) [
        | inl same ↦ not_ahead (number_in list person)
            (ahead_again (number_in list person) (number_in list worst) (number_in list person) r.better (subst (λ (who : Person). IsBetter list who person) same better))
        | inr left ↦ out (inr left)
      ] in
      r.needs.best worst other r.member in_held gone (ahead_again (number_in list other) (number_in list person) (number_in list worst) better r.better) can

  -- ---- nor in the place of another who is left

  -- without one of those left, the needed are the worst, this one and the rest
  left_rejoined : (one : Person) → IsAmong one (without worst.id needed) → AreAmong (without worst.id needed) (one ∷ without one.id (without worst.id needed))
  left_rejoined one in_left = among_rejoined one (without worst.id needed) left_distinct in_left

  needed_rejoined : (one : Person) → AreAmong (without one.id needed) (worst ∷ without one.id (without worst.id needed))
  needed_rejoined one = are_among (without one.id needed) (worst ∷ without one.id (without worst.id needed)) (λ other there.
      elim (worst_or_left other (among_more other (without one.id needed) needed (without_among one.id needed) there)) [
        | inl same ↦ inl same
        | inr left ↦ inr (among_without one.id other (without worst.id needed) left
            (other_number other one.id (without one.id needed) (without_apart one.id needed r.needs.distinct) there))
      ])

  -- the rest are among the needed without this one
  rest_needed : (one : Person) → AreAmong (without one.id (without worst.id needed)) (without one.id needed)
  rest_needed one = are_among (without one.id (without worst.id needed)) (without one.id needed) (λ other there.
      let in_left = among_more other (without one.id (without worst.id needed)) (without worst.id needed) (without_among one.id (without worst.id needed)) there in
      among_without one.id other needed (among_more other (without worst.id needed) needed (without_among worst.id needed) in_left)
      (other_number other one.id (without one.id (without worst.id needed)) (without_apart one.id (without worst.id needed) left_distinct) there))

  -- a person who replaces one of those left would have that one worse than the worst
  not_replaced : (one : Person) → IsAmong one (without worst.id needed) → IsBetter list worst one → CanBePlaced protections (person ∷ without one.id needed) → ⊥
  not_replaced one in_left better can =
      let in_needed = among_more one (without worst.id needed) needed (without_among worst.id needed) in_left in
      elim (r.last one in_needed can) [
        | inl same ↦ not_ahead (number_in list worst) (subst (IsBetter list worst) same better)
        | inr above ↦ not_ahead (number_in list worst) (ahead_again (number_in list worst) (number_in list one) (number_in list worst) better above)
      ]

  -- where the worst is better than this one
  nobody_below_worst : (one other : Person) → IsAmong one (without worst.id needed) → IsAmong other held → (IsAmong other needed → ⊥) → IsBetter list other one → IsBetter list worst one
      → CanBePlaced protections (other ∷ person ∷ without one.id (without worst.id needed)) → ⊥
  nobody_below_worst one other in_left in_held gone better below can =
      let left = without worst.id needed in
      let rest = without one.id left in
      let others = without one.id needed in
      let in_needed = among_more one left needed (without_among worst.id needed) in_left in
      let size = length_without worst.id needed (has_number worst needed r.member) in
      let size_left = length_without one.id left (has_number one left in_left) in
      let size_others = length_without one.id needed (has_number one needed in_needed) in
      let others_held = among_again others needed held (without_among one.id needed) r.needs.among in
      let rest_held = among_again rest left held (without_among one.id left) left_held in
      let placed = placed_part protections others needed r.needs.distinct (distinct_without one.id needed r.needs.distinct) (without_among one.id needed) r.needs.placed in
      let joins = exchange protections (person ∷ held) others (other ∷ person ∷ rest) (r.new, r.held_distinct) (among_longer person others held others_held)
      (inr in_held, (inl refl, among_longer person rest held rest_held)) placed can (omega arith) in
      elim joins.1 [
        | inl is_other ↦ r.needs.best one other in_needed in_held gone better (subst (λ (who : Person). CanBePlaced protections (who ∷ others)) is_other joins.3)
        | inr later ↦ elim later [
          | inl is_person ↦ not_replaced one in_left below (subst (λ (who : Person). CanBePlaced protections (who ∷ others)) is_person joins.3)
          | inr in_rest ↦ nobody_of joins.0 others joins.2 (among_more joins.0 rest others (rest_needed one) in_rest)
        ]
      ]

  -- somebody else who is not needed
  nobody_for_left : (one other : Person) → IsAmong one (without worst.id needed) → IsAmong other held → (IsAmong other needed → ⊥) → IsBetter list other one
      → CanBePlaced protections (other ∷ person ∷ without one.id (without worst.id needed)) → ⊥
  nobody_for_left one other in_left in_held gone better can =
      let left = without worst.id needed in
      let rest = without one.id left in
      let in_needed = among_more one left needed (without_among worst.id needed) in_left in
      let size = length_without worst.id needed (has_number worst needed r.member) in
      let size_left = length_without one.id left (has_number one left in_left) in
      let rest_left = without_among one.id left in
      let rest_needs = among_again rest left needed rest_left (without_among worst.id needed) in
      let rest_distinct = distinct_without one.id left left_distinct in
      let far = apart_of other needed held r.held_distinct r.needs.among in_held gone in
      let far_rest = apart_some other.id rest needed rest_needs far in
      let not_him : other.id ≢ person.id = other_number other person.id held r.new in_held in
      let small : CanBePlaced protections (other ∷ rest) = placed_part protections (other ∷ rest) (other ∷ person ∷ rest)
      ((not_him, far_rest), (apart_some person.id rest needed rest_needs person_apart, rest_distinct)) (far_rest, rest_distinct)
      (inl refl, among_longer other rest (person ∷ rest) (among_longer person rest rest (among_itself rest))) can in
      let joins = exchange protections held (other ∷ rest) needed r.held_distinct (in_held, among_again rest needed held rest_needs r.needs.among) r.needs.among small r.needs.placed (omega arith) in
      let who = joins.0 in
      let all : AreDistinct (who ∷ other ∷ rest) = (joins.2, (far_rest, rest_distinct)) in
      let who_held = among_more who needed held r.needs.among joins.1 in
      elim (worst_or_left who joins.1) [
        | inl same ↦
            let others = without one.id needed in
            let mine : AreAmong others (worst ∷ rest) = needed_rejoined one in
            let wide : AreAmong (other ∷ others) (who ∷ other ∷ rest) = (
              inr (inl refl),
              are_among others (who ∷ other ∷ rest) (λ each there. elim (among_more each others (worst ∷ rest) mine there) [
                | inl here ↦ inl (here ∙ sym same)
                | inr later ↦ inr (inr later)
              ]),
            ) in
            r.needs.best one other in_needed in_held gone better
            (placed_part protections (other ∷ others) (who ∷ other ∷ rest) all
            (apart_some other.id others needed (without_among one.id needed) far, distinct_without one.id needed r.needs.distinct) wide joins.3)
        | inr who_left ↦ elim (among_more who left (one ∷ rest) (left_rejoined one in_left) who_left) [
          | inr in_rest ↦ nobody_of who rest joins.2.1 in_rest
          | inl is_one ↦
              let mine : AreAmong left (one ∷ rest) = left_rejoined one in_left in
              let wide : AreAmong (other ∷ left) (who ∷ other ∷ rest) = (
                inr (inl refl),
                are_among left (who ∷ other ∷ rest) (λ each there. elim (among_more each left (one ∷ rest) mine there) [
                  | inl here ↦ inl (here ∙ sym is_one)
                  | inr later ↦ inr (inr later)
                ]),
              ) in
              let fits = placed_part protections (other ∷ left) (who ∷ other ∷ rest) all
              (apart_some other.id left needed (without_among worst.id needed) far, left_distinct) wide joins.3 in
              let apart : other.id ≢ worst.id = λ e. gone (subst (λ (each : Person). IsAmong each needed) (sym (is_worst other in_held e)) r.member) in
              elim (better_or_worse list held other worst r.order in_held worst_held apart) [
                | inl above ↦ r.needs.best worst other r.member in_held gone above fits
                | inr below ↦ nobody_below_worst one other in_left in_held gone better
                    (ahead_again (number_in list worst) (number_in list other) (number_in list one) below better) can
              ]
        ]
      ]

  -- the worst one
  not_worst : (one other : Person) → IsAmong one (without worst.id needed) → other ≡ worst → IsBetter list other one
      → CanBePlaced protections (other ∷ person ∷ without one.id (without worst.id needed)) → ⊥
  not_worst one other in_left same better can =
      let left = without worst.id needed in
      let rest = without one.id left in
      let others = without one.id needed in
      let rest_needs = among_again rest left needed (without_among one.id left) (without_among worst.id needed) in
      let placed : CanBePlaced protections (worst ∷ person ∷ rest) = subst (λ (who : Person). CanBePlaced protections (who ∷ person ∷ rest)) same can in
      let worst_apart : AllByRecursion (λ each. worst.id ≢ each.id) rest =
      apart_some worst.id rest left (without_among one.id left) (without_apart worst.id needed r.needs.distinct) in
      let not_him : worst.id ≢ person.id = other_number worst person.id held r.new worst_held in
      let wide : AreAmong (person ∷ others) (worst ∷ person ∷ rest) = (
        inr (inl refl),
        are_among others (worst ∷ person ∷ rest) (λ each there.
            elim (among_more each others (worst ∷ rest) (needed_rejoined one) there) [ inl here ↦ inl here | inr later ↦ inr (inr later) ]),
      ) in
      not_replaced one in_left (subst (λ (who : Person). IsBetter list who one) same better)
      (placed_part protections (person ∷ others) (worst ∷ person ∷ rest)
      ((not_him, worst_apart), (apart_some person.id rest needed rest_needs person_apart, distinct_without one.id left left_distinct))
      (apart_some person.id others needed (without_among one.id needed) person_apart, distinct_without one.id needed r.needs.distinct) wide placed)

  -- nobody takes the place of one of them who is worse
  nobody_instead : (one other : Person) → IsAmong one (person ∷ without worst.id needed) → IsAmong other (person ∷ held) → (IsAmong other (person ∷ without worst.id needed) → ⊥)
      → IsBetter list other one → CanBePlaced protections (other ∷ without one.id (person ∷ without worst.id needed)) → ⊥
  nobody_instead one other his there out better can = elim there [
    | inl same ↦ out (inl same)
    | inr in_held ↦ elim his [
      | inl is_person ↦ nobody_for_person other in_held out (subst (IsBetter list other) is_person better)
          (subst (λ (people : List Person). CanBePlaced protections (other ∷ people)) (without_first one.id person (without worst.id needed) (ap (λ (p : Person). p.id) (sym is_person))) can)
      | inr in_left ↦
          let in_needed = among_more one (without worst.id needed) needed (without_among worst.id needed) in_left in
          let apart : person.id ≢ one.id = λ same. other_number one person.id needed person_apart in_needed (sym same) in
          let told : CanBePlaced protections (other ∷ person ∷ without one.id (without worst.id needed)) =
          subst (λ (people : List Person). CanBePlaced protections (other ∷ people)) (without_later one.id person (without worst.id needed) apart) can in
          elim (decides other needed held r.held_distinct r.needs.among in_held) [
            | inl mine ↦ elim (worst_or_left other mine) [
              | inl same ↦ not_worst one other in_left same better told
              | inr left ↦ out (inr left)
            ]
            | inr far ↦ nobody_for_left one other in_left in_held (nobody_of other needed far) better told
          ]
    ]
  ]

  pub needed_exchanged : AreNeeded list protections (person ∷ held) (person ∷ without worst.id needed)
  needed_exchanged = record {
    among = (inl refl, among_longer person (without worst.id needed) held left_held);
    distinct = (apart_some person.id (without worst.id needed) needed (without_among worst.id needed) person_apart, left_distinct);
    placed = r.can;
    most = nobody_more;
    best = nobody_instead;
  }
