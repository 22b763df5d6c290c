-- Who overtakes somebody listed, by those of the listed whom the protections need.
use Rattle.std.proofs.Common.{◌≡◌, ◌≢◌, ◌≤◌, ℕ, List, [], ◌∷◌, length, refl, sym, ap, ◌∙◌, subst, inl, inr, arith}
use Rattle.std.specs.List.{AllByRecursion}
use Rattle.office_base.specs.Lists.{IsAmong, IsSublist}
use Rattle.office_base.specs.Person.{IsBetter, number_in}
use Rattle.office_base.specs.Placement.{IsHonoured}
use Rattle.office_base.specs.StepChoice.{AreRanked}
use Rattle.office_base.specs.declared.person.ListId.{ListId}
use Rattle.office_base.specs.declared.person.Person.{Person}
use Rattle.office_base.specs.declared.step.Protections.{Protections}
use Rattle.placements.specs.Ranks.{AreAmong, AreDistinct, CanBePlaced, without}
use Rattle.placements.proofs.Greatest.{honoured-exists, honoured-one}
use Rattle.placements.proofs.Merit.{ahead_again}
use Rattle.placements.proofs.Ranks.{among_again, among_sublist, any_all, are_among, exchange, extension, monotone, pairwise_sublist, widen}
use Rattle.placements.proofs.Without.{among_without, distinct_without, length_without, without_among, without_apart}
use Rattle.merit_choice.specs.Needed.{AreNeeded}
use Rattle.merit_choice.proofs.ByHand.{honoured_placed, placed_nobody}
use Rattle.merit_choice.proofs.Needed.{apart_of, decides, needed_honoured, nobody_of, other_number, placed_part}
use Rattle.merit_choice.proofs.OneByOne.{better_or_worse, has_number}
use Rattle.axiom_laws.specs.Exchanges.{Overtakes}
use Rattle.list_audit.specs.Reckoning.{IsAhead, Reckoned}

-- everybody honours as much as those listed
pub record Settled (list : ListId) (protections : Protections) (people listed needed : List Person) (one : Person) : Type 0 where
  pub ranked : AreRanked list people
  pub part : IsSublist listed people
  pub needs : AreNeeded list protections listed needed
  pub most : IsHonoured protections people (length needed)
  pub stands : IsAmong one people
  pub unlisted : IsAmong one listed → ⊥

module _ (list : ListId) (protections : Protections) (people listed needed : List Person) (one : Person) (s : Settled list protections people listed needed one) where
  distinct_listed : AreDistinct listed
  distinct_listed = pairwise_sublist (λ (a : Person) (b : Person). a.id ≢ b.id) listed people s.part s.ranked.distinct

  listed_among : AreAmong listed people
  listed_among = among_sublist listed people s.part

  -- the person is apart from those listed
  apart : AllByRecursion (λ other. one.id ≢ other.id) listed
  apart = apart_of one listed people s.ranked.distinct listed_among s.stands s.unlisted

  -- the listed with the person in the place of one of them
  abbrev swapped : Person → List Person
  swapped worse = one ∷ without worse.id listed

  distinct_swapped : (worse : Person) → AreDistinct (swapped worse)
  distinct_swapped worse = (away (without worse.id listed) (without_among worse.id listed), distinct_without worse.id listed distinct_listed)
    where
      away : (some : List Person) → AreAmong some listed → AllByRecursion (λ other. one.id ≢ other.id) some
      away some within = apart_of one some people s.ranked.distinct (among_again some listed people within listed_among) s.stands (λ there. s.unlisted (widen one some listed within there))

  swapped_among : (worse : Person) → AreAmong (swapped worse) people
  swapped_among worse = (s.stands, among_again (without worse.id listed) listed people (without_among worse.id listed) listed_among)

  -- a person who can be placed with the others has them honour as much
  as_much : (worse : Person) (some : List Person) → AreAmong some (swapped worse) → CanBePlaced protections some → length some ≡ length needed
      → (m n : ℕ) → IsHonoured protections listed m → IsHonoured protections (swapped worse) n → m ≤ n
  as_much worse some within can count m n ours theirs =
      let low = monotone protections some (swapped worse) (length some) n within (honoured_placed protections some can) theirs in
      let own = honoured-one protections listed m (length needed) ours (needed_honoured list protections listed needed distinct_listed s.needs) in
      omega (arith, low, own, count)

  -- by this somebody is overtaken
  pub then_overtakes : IsAhead list protections listed needed one → (worse : Person) × Overtakes list protections people listed one worse
  then_overtakes ahead = elim ahead [
    | inl free ↦ (
      free.0,
      record {
        stands = s.stands;
        unlisted = s.unlisted;
        there = free.1;
        better = free.3;
        as_much = as_much free.0 needed
            (are_among needed (swapped free.0) (λ person his.
            let here = widen person needed listed s.needs.among his in
            inr (among_without free.0.id person listed here (λ same.
            free.2 (subst (λ (p : Person). IsAmong p needed) (one_of person free.0 here free.1 same) his))))) s.needs.placed refl;
      },
    )
    | inr taken ↦
        let size = length_without taken.0.id needed (has_number taken.0 needed taken.1) in (
          taken.0,
          record {
            stands = s.stands;
            unlisted = s.unlisted;
            there = widen taken.0 needed listed s.needs.among taken.1;
            better = taken.2;
            as_much = as_much taken.0 (one ∷ without taken.0.id needed) (
              inl refl,
              are_among (without taken.0.id needed) (swapped taken.0) (λ person left.
                  let his = widen person (without taken.0.id needed) needed (without_among taken.0.id needed) left in
                  inr (among_without taken.0.id person listed (widen person needed listed s.needs.among his)
                  (other_number person taken.0.id (without taken.0.id needed) (without_apart taken.0.id needed s.needs.distinct) left))),
            ) taken.3 (sym size);
          },
        )
  ]
    where
      one_of : (a b : Person) → IsAmong a listed → IsAmong b listed → a.id ≡ b.id → a ≡ b
      one_of a b in_a in_b same = elim (decides a (b ∷ []) listed distinct_listed (in_b, tt) in_a) [
        | inl found ↦ elim found [ inl here ↦ here | inr none ↦ absurd none ]
        | inr away ↦ absurd (away.0 same)
      ]

  -- where somebody is overtaken, it is by this
  pub overtakes_then : (worse : Person) → Overtakes list protections people listed one worse → IsAhead list protections listed needed one
  overtakes_then worse over = elim (decides worse needed listed distinct_listed s.needs.among over.there) [
    | inr away ↦ inl (worse, over.there, nobody_of worse needed away, over.better)
    | inl his ↦
        let m = honoured-exists protections (swapped worse) (distinct_swapped worse) in
        let own = needed_honoured list protections listed needed distinct_listed s.needs in
        let low = over.as_much (length needed) m.0 own m.1 in
        let largest = extension protections [] (swapped worse) m.0 (distinct_swapped worse) tt (placed_nobody protections) m.1 in
        let others = without worse.id needed in
        let size = length_without worse.id needed (has_number worse needed his) in
        let can = placed_part protections others needed s.needs.distinct (distinct_without worse.id needed s.needs.distinct) (without_among worse.id needed) s.needs.placed in
        let wide : AreAmong others people = among_again others needed people (without_among worse.id needed) (among_again needed listed people s.needs.among listed_among) in
        let theirs = among_sublist largest.0 (swapped worse) largest.1 in
        let joins = exchange protections people others largest.0 s.ranked.distinct wide (among_again largest.0 (swapped worse) people theirs (swapped_among worse)) can largest.3
        (let count = largest.4 in omega (arith, count, size, low)) in
        elim (widen joins.0 largest.0 (swapped worse) theirs joins.1) [
          | inl here ↦ inr (worse, his, over.better, subst (λ (p : Person). CanBePlaced protections (p ∷ others)) here joins.3)
          | inr later ↦ inl (free worse over his joins.0 later joins.2 joins.3)
        ]
  ]
    where
      free : (worse : Person) → Overtakes list protections people listed one worse → IsAmong worse needed → (who : Person) → IsAmong who (without worse.id listed)
          → AllByRecursion (λ other. who.id ≢ other.id) (without worse.id needed) → CanBePlaced protections (who ∷ without worse.id needed)
          → (other : Person) × IsAmong other listed × (IsAmong other needed → ⊥) × IsBetter list one other
      free worse over his who left away can =
          let here = widen who (without worse.id listed) listed (without_among worse.id listed) left in
          let not_worse = other_number who worse.id (without worse.id listed) (without_apart worse.id listed distinct_listed) left in
          let gone : IsAmong who needed → ⊥ = λ mine. nobody_of who (without worse.id needed) away (among_without worse.id who needed mine not_worse) in
          let far = any_all (λ (o : Person). who ≡ o) (λ (o : Person). one.id ≢ o.id) listed here apart in
          elim (better_or_worse list people one who s.ranked.in_order s.stands (widen who listed people listed_among here) (λ e. far.2 (e ∙ ap (λ (p : Person). p.id) far.1))) [
            | inl ahead ↦ (who, here, gone, ahead)
            | inr behind ↦ absurd (s.needs.best worse who his here gone (ahead_again (number_in list who) (number_in list one) (number_in list worse) behind over.better) can)
          ]

pub reckoned : Reckoned
reckoned list protections people listed needed one ranked part needs most stands unlisted =
    let s : Settled list protections people listed needed one = record { ranked = ranked; part = part; needs = needs; most = most; stands = stands; unlisted = unlisted } in (
      λ over. overtakes_then list protections people listed needed one s over.0 over.1,
      λ ahead. then_overtakes list protections people listed needed one s ahead,
    )
