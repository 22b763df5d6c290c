-- Each set of traits has one cutoff.
use Rattle.std.proofs.Common.{◌≢◌, ◌⊎◌, ◌∙◌, inl, inr, ℕ, List, [], ◌∷◌, true, false, length, arith, refl, sym, subst}
use Rattle.std.proofs.lemmas.Bool.{cases_eq, cases_lt}
use Rattle.office_base.specs.Lists.{IsAmong, Pairwise}
use Rattle.office_base.specs.Merit.{IsNewTo}
use Rattle.office_base.specs.Person.{IsBetter, number_in}
use Rattle.office_base.specs.Placement.{IsHonoured}
use Rattle.office_base.specs.declared.person.Person.{Person}
use Rattle.office_base.proofs.Lists.{all_among}
use Rattle.office_base.proofs.Options.{some_value}
use Rattle.placements.specs.Ranks.{without}
use Rattle.placements.proofs.Greatest.{honoured-exists, honoured-one}
use Rattle.placements.proofs.Merit.{not_ahead, not_both_better}
use Rattle.placements.proofs.Ranks.{among_itself, among_longer, monotone, one_step}
use Rattle.placements.proofs.Without.{all_without, distinct_without}
use Rattle.merit_choice.specs.Marks.{IsRaise}
use Rattle.merit_choice.specs.State.{IsStepKept, StepKept}
use Rattle.step_cutoffs.specs.Cutoff.{CanTakePlaceOf, IsCutoffFor, IsFullFor}
use Rattle.step_cutoffs.specs.Laws.{AreHeldBy, CutoffExists, CutoffIsOfTraits, MoreTraitsWiden, OneCutoff}
use Rattle.step_cutoffs.specs.declared.cutoff.Cutoff.{Cutoff}
use Rattle.step_cutoffs.specs.declared.cutoff.Cutoff.TheVariants.{Nobody, UpTo, Anybody}
use Rattle.step_cutoffs.proofs.Alike.{no_wider, one_cutoff_for, same_cutoff, within_more}
use Rattle.step_cutoffs.proofs.Newcomers.{newcomer}

module _ (kept : StepKept) (ok : IsStepKept kept) (person : Person) (new : IsNewTo kept.list kept.held person) where
  n : (number : ℕ) × IsHonoured kept.protections kept.held number
  n = honoured-exists kept.protections kept.held ok.ranked.distinct

  -- whether more protections are honoured with the person
  raised_or_not : IsRaise kept.protections kept.held person true ⊎ IsRaise kept.protections kept.held person false
  raised_or_not =
      let more = honoured-exists kept.protections (person ∷ kept.held) (new.distinct, ok.ranked.distinct) in
      let low = monotone kept.protections kept.held (person ∷ kept.held) n.0 more.0 (among_longer person kept.held kept.held (among_itself kept.held)) n.1 more.1 in
      let high = one_step kept.protections person kept.held (person ∷ kept.held) n.0 more.0 (among_itself (person ∷ kept.held)) n.1 more.1 in
      elim (cases_eq more.0 n.0) [
        | inl same ↦ inr (λ k mine. subst (IsHonoured kept.protections (person ∷ kept.held)) (same ∙ honoured-one kept.protections kept.held n.0 k n.1 mine) more.1)
        | inr apart ↦ inl (λ k mine.
            let one = honoured-one kept.protections kept.held n.0 k n.1 mine in
            subst (IsHonoured kept.protections (person ∷ kept.held)) (omega (arith, low, high, apart, one)) more.1)
      ]

  -- whether the person can replace one of those held
  replaces_or_not : (out : Person) → CanTakePlaceOf kept person out ⊎ (CanTakePlaceOf kept person out → ⊥)
  replaces_or_not out =
      let rest = without out.id kept.held in
      let apart = all_without (λ (p : Person). person.id ≢ p.id) out.id kept.held new.distinct in
      let m = honoured-exists kept.protections (person ∷ rest) (apart, distinct_without out.id kept.held ok.ranked.distinct) in
      elim (cases_eq m.0 n.0) [
        | inl same ↦ inl (λ k mine. subst (IsHonoured kept.protections (person ∷ rest)) (same ∙ honoured-one kept.protections kept.held n.0 k n.1 mine) m.1)
        | inr other ↦ inr (λ can. other (honoured-one kept.protections (person ∷ rest) m.0 n.0 m.1 (can n.0 n.1)))
      ]

  -- the last of some people whom the person can replace
  record IsLast (people : List Person) (worst : Person) : Type 0 where
    pub there : IsAmong worst people
    pub can : CanTakePlaceOf kept person worst
    pub none : (other : Person) → IsAmong other people → CanTakePlaceOf kept person other → IsBetter kept.list worst other → ⊥

  last_or_none : (people : List Person) → Pairwise (IsBetter kept.list) people
      → ((worst : Person) × IsLast people worst) ⊎ ((other : Person) → IsAmong other people → CanTakePlaceOf kept person other → ⊥)
  last_or_none [] order = inr (λ other here can. here)
  last_or_none (first ∷ people) order = elim (last_or_none people order.1) [
    | inl last ↦ inl (
      last.0,
      record {
        there = inr last.1.there;
        can = last.1.can;
        none = λ other here can worse. elim here [
          | inl same ↦ not_both_better kept.list first last.0 (all_among (IsBetter kept.list first) people last.0 order.0 last.1.there) (subst (IsBetter kept.list last.0) same worse)
          | inr later ↦ last.1.none other later can worse
        ];
      },
    )
    | inr none ↦ elim (replaces_or_not first) [
      | inl can ↦ inl (
        first,
        record {
          there = inl refl;
          can = can;
          none = λ other here its worse. elim here [
            | inl same ↦ not_ahead (number_in kept.list first) (subst (IsBetter kept.list first) same worse)
            | inr later ↦ none other later its
          ];
        },
      )
      | inr cannot ↦ inr (λ other here can. elim here [
        | inl same ↦ cannot (subst (CanTakePlaceOf kept person) same can)
        | inr later ↦ none other later can
      ])
    ]
  ]

  full_cutoff : IsFullFor kept person → (cutoff : Cutoff) × IsCutoffFor kept person cutoff
  full_cutoff full = elim (last_or_none kept.held ok.ranked.in_order) [
    | inl last ↦
        let number = some_value (number_in kept.list last.0) (all_among _ kept.held last.0 ok.ranked.placed last.1.there) in
        (UpTo number.0, (full, last.0, last.1.there, last.1.can, number.1, last.1.none))
    | inr none ↦ (Nobody, (full, none))
  ]

  pub cutoff_for : (cutoff : Cutoff) × IsCutoffFor kept person cutoff
  cutoff_for = elim (cases_lt (length kept.held) kept.seats) [
    | inl less ↦ (Anybody, inl less)
    | inr most ↦ elim raised_or_not [
      | inl raise ↦ (Anybody, inr raise)
      | inr no_more ↦ full_cutoff (record { full = (let few = ok.few in omega (arith, most, few)); no_more = no_more })
    ]
  ]

pub cutoff_is_of_traits : CutoffIsOfTraits
cutoff_is_of_traits kept person cutoff ok new cut = λ other new' same. same_cutoff kept ok person other new new' (sym same) cutoff cut

pub cutoff_exists : CutoffExists
cutoff_exists kept traits ok small =
    let first = newcomer kept.list kept.held traits ok.list small in
    let found = cutoff_for kept ok first.0 first.1 in
    (found.0, (λ person new same. same_cutoff kept ok first.0 person first.1 new (first.2 ∙ sym same) found.0 found.1))

pub one_cutoff : OneCutoff
one_cutoff kept traits first second ok small cut cut' =
    let one = newcomer kept.list kept.held traits ok.list small in
    one_cutoff_for kept ok one.0 one.1 first second (cut one.0 one.1 one.2) (cut' one.0 one.1 one.2)

pub more_traits_widen : MoreTraitsWiden
more_traits_widen kept traits more cutoff wider ok small small' held cut cut' =
    let one = newcomer kept.list kept.held traits ok.list small in
    let other = newcomer kept.list kept.held more ok.list small' in
    let holds : AreHeldBy one.0.traits other.0.traits =
    subst (AreHeldBy one.0.traits) (sym other.2) (subst (λ those. AreHeldBy those more) (sym one.2) held) in
    let most = no_wider kept ok one.0 other.0 one.1 other.1 holds cutoff wider (cut one.0 one.1 one.2) (cut' other.0 other.1 other.2) in
    (most, (λ place within. within_more cutoff wider place most within))
