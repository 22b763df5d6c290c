-- Distinct people have a canonical certificate: the first of the longest placements, down the people.
use Rattle.std.proofs.Common.{◌≡◌, ◌≤◌, ◌<◌, ◌+◌, ◌⊎◌, inl, inr, ℕ, zero, suc, List, [], ◌∷◌, Option, Some, None, length, arith, refl, sym, ap, ◌∙◌, subst}
use Rattle.std.specs.Prelude.{IsTrue}
use Rattle.std.proofs.lemmas.Bool.{cases_Bool, cases_lt, false≢true}
use Rattle.office_base.specs.Certificate.{AreNoLater, IsCanonical, slots_of}
use Rattle.office_base.specs.Person.{has_trait}
use Rattle.office_base.specs.Placement.{protected}
use Rattle.office_base.specs.declared.person.Person.{Person}
use Rattle.office_base.specs.declared.step.Pair.{Pair}
use Rattle.office_base.specs.declared.step.Protections.{Protections}
use Rattle.placements.specs.Greatest.{one_less}
use Rattle.placements.specs.Ranks.{AreDistinct}
use Rattle.placements.specs.Slots.{AreSlots, filled, pairs_of}
use Rattle.placements.proofs.Convert.{length-pairs_of, pairs_of-in_order, placement-from_slots, slots-from_placement, slots_of-pairs_of}
use Rattle.placements.proofs.Greatest.{AreSlots-from_nowhere, AreSlots-from_somewhere, AreSlots-nowhere, AreSlots-somewhere, counted_trait}

-- the first of the longest placements, given by slots
record IsFirst (protections : Protections) (people : List Person) (slots : List (Option ℕ)) : Type 0 where
  pub stand : AreSlots protections people slots
  pub most : (others : List (Option ℕ)) → AreSlots protections people others → filled others ≤ filled slots
  pub first : (others : List (Option ℕ)) → AreSlots protections people others → filled others ≡ filled slots → AreNoLater slots others

-- there is a first person, who is on no trait, or on one from this trait on
abbrev StandsFrom : ℕ → List (Option ℕ) → Type 0
StandsFrom bound [] = ⊥
StandsFrom bound (None ∷ slots) = Unit {0}
StandsFrom bound (Some t ∷ slots) = bound ≤ t

-- the first of the longest placements where `StandsFrom` holds of the first person
record IsFirstFrom (bound : ℕ) (protections : Protections) (people : List Person) (slots : List (Option ℕ)) : Type 0 where
  pub stand : AreSlots protections people slots
  pub from : StandsFrom bound slots
  pub most : (others : List (Option ℕ)) → StandsFrom bound others → AreSlots protections people others → filled others ≤ filled slots
  pub first : (others : List (Option ℕ)) → StandsFrom bound others → AreSlots protections people others → filled others ≡ filled slots → AreNoLater slots others

-- where nobody before the first person's trait may be counted, the others go on as they are the first
nowhere : (protections : Protections) (person : Person) (people : List Person) (rest : List (Option ℕ)) → IsFirst protections people rest
    → IsFirstFrom (length protections.counts) protections (person ∷ people) (None ∷ rest)
nowhere protections person people rest h = record {
  stand = AreSlots-nowhere protections person people rest h.stand;
  from = tt;
  most = most_of;
  first = first_of;
}
  where
    most_of : (others : List (Option ℕ)) → StandsFrom (length protections.counts) others → AreSlots protections (person ∷ people) others → filled others ≤ filled rest
    most_of [] from are = absurd from
    most_of (None ∷ others) from are = h.most others (AreSlots-from_nowhere protections person people others are)
    most_of (Some t ∷ others) from are =
        absurd (let left = counted_trait protections t (AreSlots-from_somewhere protections person people t others are).1 in omega (arith, left, from))

    first_of : (others : List (Option ℕ)) → StandsFrom (length protections.counts) others → AreSlots protections (person ∷ people) others → filled others ≡ filled rest
        → AreNoLater (None ∷ rest) others
    first_of [] from are same = absurd from
    first_of (None ∷ others) from are same = inr (refl, h.first others (AreSlots-from_nowhere protections person people others are) same)
    first_of (Some t ∷ others) from are same =
        absurd (let left = counted_trait protections t (AreSlots-from_somewhere protections person people t others are).1 in omega (arith, left, from))

-- a trait on which the person cannot stand, or places fewer, changes nothing
passed : (bound : ℕ) (protections : Protections) (person : Person) (people : List Person) (slots : List (Option ℕ)) → IsFirstFrom (suc bound) protections (person ∷ people) slots
    → ((others : List (Option ℕ)) → AreSlots protections (person ∷ people) (Some bound ∷ others) → suc (filled others) < filled slots)
    → IsFirstFrom bound protections (person ∷ people) slots
passed bound protections person people slots h fewer = record {
  stand = h.stand;
  from = lower slots h.from;
  most = most_of;
  first = first_of;
}
  where
    lower : (slots : List (Option ℕ)) → StandsFrom (suc bound) slots → StandsFrom bound slots
    lower [] from = from
    lower (None ∷ slots) from = tt
    lower (Some t ∷ slots) from = omega (arith, from)

    on_it : (t : ℕ) (others : List (Option ℕ)) → t ≤ bound → bound ≤ t → AreSlots protections (person ∷ people) (Some t ∷ others) → suc (filled others) < filled slots
    on_it t others high from are = fewer others (subst (λ k. AreSlots protections (person ∷ people) (Some k ∷ others)) (let same : t ≡ bound = omega (arith, high, from) in same) are)

    most_of : (others : List (Option ℕ)) → StandsFrom bound others → AreSlots protections (person ∷ people) others → filled others ≤ filled slots
    most_of [] from are = absurd from
    most_of (None ∷ others) from are = h.most (None ∷ others) tt are
    most_of (Some t ∷ others) from are = elim (cases_lt bound t) [
      | inl more ↦ h.most (Some t ∷ others) more are
      | inr high ↦ let less = on_it t others high from are in omega (arith, less)
    ]

    first_of : (others : List (Option ℕ)) → StandsFrom bound others → AreSlots protections (person ∷ people) others → filled others ≡ filled slots → AreNoLater slots others
    first_of [] from are e = absurd from
    first_of (None ∷ others) from are e = h.first (None ∷ others) tt are e
    first_of (Some t ∷ others) from are e = elim (cases_lt bound t) [
      | inl more ↦ h.first (Some t ∷ others) more are e
      | inr high ↦ absurd (let less = on_it t others high from are in omega (arith, less, e))
    ]

-- the person is on the trait, if that places no fewer
module _ (bound : ℕ) (protections : Protections) (person : Person) (people : List Person) (slots rest : List (Option ℕ))
    (h : IsFirstFrom (suc bound) protections (person ∷ people) slots) (r : IsFirst (one_less protections bound) people rest)
    (holds : IsTrue (has_trait person.traits bound)) (left : 0 < protected protections bound) where
  -- a trait from this one on is this one, or a later one
  later : (t : ℕ) → bound ≤ t → (t ≡ bound) ⊎ (suc bound ≤ t)
  later t from = elim (cases_lt bound t) [ inl less ↦ inr (omega (arith, less)) | inr high ↦ inl (omega (arith, high, from)) ]

  on_it : (t : ℕ) (others : List (Option ℕ)) → t ≡ bound → AreSlots protections (person ∷ people) (Some t ∷ others) → AreSlots (one_less protections bound) people others
  on_it t others same are = (AreSlots-from_somewhere protections person people bound others (subst (λ k. AreSlots protections (person ∷ people) (Some k ∷ others)) same are)).2

  taken : filled slots ≤ suc (filled rest) → IsFirstFrom bound protections (person ∷ people) (Some bound ∷ rest)
  taken enough = record {
    stand = AreSlots-somewhere protections person people bound rest holds left r.stand;
    from = omega arith;
    most = most_of;
    first = first_of;
  }
    where
      most_of : (others : List (Option ℕ)) → StandsFrom bound others → AreSlots protections (person ∷ people) others → filled others ≤ suc (filled rest)
      most_of [] from are = absurd from
      most_of (None ∷ others) from are = let le = h.most (None ∷ others) tt are in omega (arith, le, enough)
      most_of (Some t ∷ others) from are = elim (later t from) [
        | inl same ↦ let le = r.most others (on_it t others same are) in omega (arith, le)
        | inr more ↦ let le = h.most (Some t ∷ others) more are in omega (arith, le, enough)
      ]

      first_of : (others : List (Option ℕ)) → StandsFrom bound others → AreSlots protections (person ∷ people) others → filled others ≡ suc (filled rest)
          → AreNoLater (Some bound ∷ rest) others
      first_of [] from are e = absurd from
      first_of (None ∷ others) from are e = inl tt
      first_of (Some t ∷ others) from are e = elim (later t from) [
        | inl same ↦ inr (ap Some (sym same), r.first others (on_it t others same are) (omega (arith, e)))
        | inr more ↦ inl more
      ]

-- one trait more
one_more : (bound : ℕ) (protections : Protections) (person : Person) (people : List Person) (slots : List (Option ℕ)) → IsFirstFrom (suc bound) protections (person ∷ people) slots
    → ((room : Protections) → (rest : List (Option ℕ)) × IsFirst room people rest) → (better : List (Option ℕ)) × IsFirstFrom bound protections (person ∷ people) better
one_more bound protections person people slots h others = elim (cases_Bool (has_trait person.traits bound)) [
  | inl holds ↦ elim (cases_lt 0 (protected protections bound)) [
    | inl left ↦
        let r = others (one_less protections bound) in
        elim (cases_lt (suc (filled r.0)) (filled slots)) [
          | inl fewer ↦
              (slots, passed bound protections person people slots h (λ o are. let le = r.1.most o (AreSlots-from_somewhere protections person people bound o are).2 in omega (arith, le, fewer)))
          | inr enough ↦ (Some bound ∷ r.0, taken bound protections person people slots r.0 h r.1 holds left enough)
        ]
    | inr none ↦ (slots, passed bound protections person people slots h (λ o are. let left = (AreSlots-from_somewhere protections person people bound o are).1 in omega (arith, left, none)))
  ]
  | inr lacks ↦
      (slots, passed bound protections person people slots h (λ o are. absurd (false≢true (sym lacks ∙ (AreSlots-from_somewhere protections person people bound o are).0))))
]

-- all traits, the last first
all_traits : (k bound : ℕ) (protections : Protections) (person : Person) (people : List Person) → bound + k ≡ length protections.counts
    → ((room : Protections) → (rest : List (Option ℕ)) × IsFirst room people rest) → (slots : List (Option ℕ)) × IsFirstFrom bound protections (person ∷ people) slots
all_traits zero bound protections person people all others =
    let same : length protections.counts ≡ bound = omega (arith, all) in
    let r = others protections in
    (None ∷ r.0, subst (λ n. IsFirstFrom n protections (person ∷ people) (None ∷ r.0)) same (nowhere protections person people r.0 r.1))
all_traits (suc k) bound protections person people all others =
    let rest = all_traits k (suc bound) protections person people (omega (arith, all)) others in
    one_more bound protections person people rest.0 rest.1 others

first_there : (people : List Person) (protections : Protections) → (slots : List (Option ℕ)) × IsFirst protections people slots
first_there [] protections = ([], record { stand = record { held = tt; within = λ t. omega arith }; most = none_more; first = λ others are same. tt })
  where
    none_more : (others : List (Option ℕ)) → AreSlots protections [] others → filled others ≤ 0
    none_more [] are = omega arith
    none_more (slot ∷ others) are = absurd are.held
first_there (person ∷ people) protections =
    let all = all_traits (length protections.counts) 0 protections person people (omega arith) (first_there people) in
    (all.0, record { stand = all.1.stand; most = λ others are. all.1.most others (from_none others are) are; first = λ others are same. all.1.first others (from_none others are) are same })
  where
    from_none : (others : List (Option ℕ)) → AreSlots protections (person ∷ people) others → StandsFrom 0 others
    from_none [] are = absurd are.held
    from_none (None ∷ others) are = tt
    from_none (Some t ∷ others) are = omega arith

-- There is a canonical certificate.
pub certificate : (protections : Protections) (people : List Person) → AreDistinct people → (pairs : List Pair) × IsCanonical protections people pairs
certificate protections people apart =
    let found = first_there people protections in
    let slots = found.0 in
    let stand = found.1.stand in
    let size = length-pairs_of people slots stand.held in (
      pairs_of people slots,
      record {
        placement = placement-from_slots protections people slots apart stand;
        in_order = pairs_of-in_order people slots;
        longest = λ other placement.
            let os = slots-from_placement protections people other apart placement in
            let le = found.1.most (slots_of other people) os.0 in
            let same = os.1 in
            omega (arith, size, le, same);
        first = λ other placement e.
            let os = slots-from_placement protections people other apart placement in
            let same = os.1 in
            subst (λ l. AreNoLater l (slots_of other people)) (sym (slots_of-pairs_of people slots apart stand.held)) (found.1.first (slots_of other people) os.0 (omega (arith, size, same, e)));
      },
    )
