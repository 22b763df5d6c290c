-- With guarantees the programmes are again a rule of choice: from the same facts of the rule beneath.
use Rattle.std.proofs.Common.{◌≡◌, ◌⊎◌, ◌↔◌, inl, inr, ℕ, List, refl, sym, ap, ◌∙◌}
use Rattle.std.proofs.lemmas.Bool.{cases_Bool}
use Rattle.office_base.specs.Lists.{IsAmong, IsSublist}
use Rattle.office_base.specs.declared.seat.SeatKind.{SeatKind}
use Rattle.office_base.specs.declared.seat.SeatKind.TheVariants.{Kept, Under}
use Rattle.office_base.specs.declared.person.Person.{Person}
use Rattle.office_base.specs.declared.step.StepKind.{StepKind}
use Rattle.placements.proofs.Ranks.{among_sublist, any_among}
use Rattle.allocations.specs.Rule.{Admits, ChoosesWell, Grows, Refuses, RuleBy}
use Rattle.kept_seats.specs.Kept.{Guarantees, GuaranteesMore, IsKept, StepRule, with_kept}
use Rattle.kept_seats.proofs.Persons.{is_among}

-- who is among some is among all
pub widens : (x : Person) (some all : List Person) → IsSublist some all → IsAmong x some → IsAmong x all
widens x some all sub among = any_among (λ other. x ≡ other) some all (among_sublist some all sub) among

-- who is admitted is chosen under a step, or kept
abbrev pub Picked : StepRule → ℕ → List Person → Person → SeatKind → Type 0
Picked rule p people x kind = (step : StepKind) × (kind ≡ Under step) × rule p people x step

pub view : (guaranteed : Guarantees) (rule : StepRule) (p : ℕ) (people : List Person) (x : Person) (kind : SeatKind) → with_kept guaranteed rule p people x kind
    → Picked rule p people x kind ⊎ ((kind ≡ Kept) × IsKept rule guaranteed p people x)
view guaranteed rule p people x (Under step) admits = inl (step, refl, admits)
view guaranteed rule p people x Kept admits = inr (refl, admits)

module _ (guaranteed : Guarantees) (rule : StepRule) where
  -- who is chosen is admitted
  pub chosen : (p : ℕ) (people : List Person) (x : Person) → Admits rule p people x → Admits (with_kept guaranteed rule) p people x
  chosen p people x admits = (Under admits.0, admits.1)

  -- who is kept is admitted
  pub kept : (p : ℕ) (people : List Person) (x : Person) → IsKept rule guaranteed p people x → Admits (with_kept guaranteed rule) p people x
  kept p people x keeps = (Kept, keeps)

  -- who is refused is not chosen
  pub not_chosen : (p : ℕ) (people : List Person) (x : Person) → Refuses (with_kept guaranteed rule) p people x → Refuses rule p people x
  not_chosen p people x refused = λ step admits. refused (Under step) admits

  -- nor kept
  pub not_kept : (p : ℕ) (people : List Person) (x : Person) → Refuses (with_kept guaranteed rule) p people x → IsKept rule guaranteed p people x → ⊥
  not_kept p people x refused keeps = refused Kept keeps

  -- who is neither is refused
  pub neither : (p : ℕ) (people : List Person) (x : Person) → Refuses rule p people x → (IsKept rule guaranteed p people x → ⊥) → Refuses (with_kept guaranteed rule) p people x
  neither p people x refused none (Under step) admits = refused step admits
  neither p people x refused none Kept admits = none admits

  -- who is not chosen is kept or refused
  pub kept_or_refused : (p : ℕ) (people : List Person) (x : Person) → Refuses rule p people x → IsKept rule guaranteed p people x ⊎ Refuses (with_kept guaranteed rule) p people x
  kept_or_refused p people x refused = elim (cases_Bool (guaranteed p x)) [
    | inl sure ↦ elim (is_among x people) [
      | inl there ↦ inl (record { guaranteed_there = sure; applies = there; not_chosen = refused })
      | inr none ↦ inr (neither p people x refused (λ keeps. none keeps.applies))
    ]
    | inr unsure ↦ inr (neither p people x refused (λ keeps. let sure = keeps.guaranteed_there in cc))
  ]

module _ (guaranteed : Guarantees) (rule : StepRule) (MayApply : ℕ → List Person → Type 0) (well : ChoosesWell rule MayApply) where
  same_kinds : (p : ℕ) (some all : List Person) → IsSublist some all → ((x : Person) (step : StepKind) → rule p some x step ↔ rule p all x step)
      → ((x : Person) → IsAmong x all → (IsAmong x some → ⊥) → Refuses (with_kept guaranteed rule) p all x)
      → (x : Person) (kind : SeatKind) → with_kept guaranteed rule p some x kind ↔ with_kept guaranteed rule p all x kind
  same_kinds p some all sub same gone x (Under step) = same x step
  same_kinds p some all sub same gone x Kept = (
    λ keeps. record {
      guaranteed_there = keeps.guaranteed_there;
      applies = widens x some all sub keeps.applies;
      not_chosen = λ step picked. keeps.not_chosen step ((same x step).1 picked);
    },
    λ keeps. elim (is_among x some) [
      | inl here ↦ record {
        guaranteed_there = keeps.guaranteed_there;
        applies = here;
        not_chosen = λ step picked. keeps.not_chosen step ((same x step).0 picked);
      }
      | inr out ↦ absurd (not_kept guaranteed rule p all x (gone x keeps.applies out) keeps)
    ],
  )

  -- The programmes choose well.
  pub choose_well : ChoosesWell (with_kept guaranteed rule) MayApply
  choose_well = record {
    part = well.part;
    decided = λ p people x may. elim (well.decided p people x may) [
      | inl admits ↦ inl (chosen guaranteed rule p people x admits)
      | inr refuses ↦ elim (kept_or_refused guaranteed rule p people x refuses) [
        | inl keeps ↦ inl (kept guaranteed rule p people x keeps)
        | inr out ↦ inr out
      ]
    ];
    among = λ p people x kind may admits. elim (view guaranteed rule p people x kind admits) [
      | inl picked ↦ well.among p people x picked.0 may picked.2
      | inr beside ↦ beside.1.applies
    ];
    one_step = λ p people x kind other may admits more. elim (view guaranteed rule p people x kind admits) [
      | inl picked ↦ elim (view guaranteed rule p people x other more) [
        | inl again ↦ picked.1 ∙ (ap (λ z. Under z) (well.one_step p people x picked.0 again.0 may picked.2 again.2) ∙ sym again.1)
        | inr beside ↦ absurd (beside.1.not_chosen picked.0 picked.2)
      ]
      | inr beside ↦ elim (view guaranteed rule p people x other more) [
        | inl picked ↦ absurd (beside.1.not_chosen picked.0 picked.2)
        | inr again ↦ beside.0 ∙ sym again.0
      ]
    ];
    fewer = λ p some all x may sub here admits. elim (well.decided p some x (well.part p some all may sub)) [
      | inl picked ↦ chosen guaranteed rule p some x picked
      | inr out ↦ elim (view guaranteed rule p all x admits.0 admits.1) [
        | inl picked ↦ absurd (let again = well.fewer p some all x may sub here (picked.0, picked.2) in out again.0 again.1)
        | inr beside ↦ kept guaranteed rule p some x (record { guaranteed_there = beside.1.guaranteed_there; applies = here; not_chosen = out })
      ]
    ];
    without = λ p some all may sub gone.
        same_kinds p some all sub (well.without p some all may sub (λ y here out. not_chosen guaranteed rule p all y (gone y here out))) gone;
    together = λ p some all may sub alone x here out.
        let refused = well.together p some all may sub (λ y there gone. let a = alone y there gone in record {
          people = a.people;
          some_within = a.some_within;
          within = a.within;
          there = a.there;
          refused = not_chosen guaranteed rule p a.people y a.refused;
        }) x here out in
        elim (kept_or_refused guaranteed rule p all x refused) [
          | inl keeps ↦ absurd (
              let a = alone x here out in
              not_kept guaranteed rule p a.people x a.refused (record {
                guaranteed_there = keeps.guaranteed_there;
                applies = a.there;
                not_chosen = not_chosen guaranteed rule p a.people x a.refused;
              }))
          | inr none ↦ none
        ];
  }

-- Where the rule beneath admits everybody whom it admitted, and more are guaranteed, everybody is still admitted.
pub grow : (guaranteed more_guaranteed : Guarantees) (rule more : StepRule) (MayApply : ℕ → List Person → Type 0)
    → ((p : ℕ) (people : List Person) (x : Person) → MayApply p people → Admits more p people x ⊎ Refuses more p people x) → GuaranteesMore guaranteed more_guaranteed
    → Grows rule more MayApply → Grows (with_kept guaranteed rule) (with_kept more_guaranteed more) MayApply
grow guaranteed more_guaranteed rule more MayApply decided wider grows = λ p people x may admits. elim (view guaranteed rule p people x admits.0 admits.1) [
  | inl picked ↦ chosen more_guaranteed more p people x (grows p people x may (picked.0, picked.2))
  | inr beside ↦ elim (decided p people x may) [
    | inl picked ↦ chosen more_guaranteed more p people x picked
    | inr out ↦ kept more_guaranteed more p people x (record {
      guaranteed_there = wider p x beside.1.guaranteed_there;
      applies = beside.1.applies;
      not_chosen = out;
    })
  ]
]

-- who may apply together may be told in another way
pub choose_well_too : {Kind : Type 0} (rule : RuleBy Kind) (MayApply May : ℕ → List Person → Type 0) → ((p : ℕ) (people : List Person) → MayApply p people → May p people)
    → ((p : ℕ) (people : List Person) → May p people → MayApply p people) → ChoosesWell rule MayApply → ChoosesWell rule May
choose_well_too rule MayApply May to back well = record {
  part = λ p some all may sub. to p some (well.part p some all (back p all may) sub);
  decided = λ p people x may. well.decided p people x (back p people may);
  among = λ p people x kind may. well.among p people x kind (back p people may);
  one_step = λ p people x kind other may. well.one_step p people x kind other (back p people may);
  fewer = λ p some all x may. well.fewer p some all x (back p all may);
  without = λ p some all may. well.without p some all (back p all may);
  together = λ p some all may. well.together p some all (back p all may);
}

-- whether the rule beneath chooses a person, where the programme admits or refuses each
pub decided_alone : (guaranteed : Guarantees) (rule : StepRule) (p : ℕ) (people : List Person) (x : Person)
    → Admits (with_kept guaranteed rule) p people x ⊎ Refuses (with_kept guaranteed rule) p people x → Admits rule p people x ⊎ Refuses rule p people x
decided_alone guaranteed rule p people x decided = elim decided [
  | inl admits ↦ elim (view guaranteed rule p people x admits.0 admits.1) [
    | inl picked ↦ inl (picked.0, picked.2)
    | inr beside ↦ inr beside.1.not_chosen
  ]
  | inr refuses ↦ inr (not_chosen guaranteed rule p people x refuses)
]
