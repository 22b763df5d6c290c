-- One offer: the states show the choices from all who tried, before and after it.
use Rattle.std.proofs.Common.{◌≡◌, ◌≢◌, ◌<◌, ◌+◌, inl, inr, ℕ, List, [], ◌∷◌, Some, length, slice_set, refl, sym, ap, ◌∙◌, subst, length-set}
use Rattle.std.specs.Prelude.{slice_get, IsSome}
use Rattle.std.specs.List.{AllByRecursion}
use Rattle.std.proofs.lemmas.Bool.Decides.{eqb_tells}
use Rattle.office_base.specs.Lists.{IsAmong, IsSublist, Pairwise}
use Rattle.office_base.specs.Merit.{IsNewTo}
use Rattle.office_base.specs.Person.{IsTraitSet, number_in}
use Rattle.office_base.specs.declared.person.ListId.{ListId}
use Rattle.office_base.specs.declared.person.Person.{Person}
use Rattle.office_base.specs.declared.step.StepKind.{StepKind}
use Rattle.office_base.proofs.Lists.{get_set_other, all_among}
use Rattle.placements.proofs.Ranks.{any_among, any_all, among_sublist}
use Rattle.allocations.specs.Course.{IsUnderway, IsWith as IsWithOne, MayTry, tried}
use Rattle.allocations.specs.Fair.{IsMarket}
use Rattle.allocations.specs.Market.{Seeker}
use Rattle.allocations.specs.Rule.{Admits, ChoosesWell, Refuses, Rule}
use Rattle.allocations.proofs.Course.{tried_may, tried_with, get_set_same}
use Rattle.allocations.proofs.Settled.{other_programmes}
use Rattle.open_then_category.specs.State.{ProgrammeKept, admissions_of}
use Rattle.programme_lists.specs.Chosen.{ChoosesFrom, IsAdmitted, IsRefused, everybody}
use Rattle.programme_lists.specs.Programme.{Admissions, admitted_by}
use Rattle.kept_seats.proofs.Kept.{widens}
use Rattle.rounds.specs.Rule.{MayApplyIn, steps_of}
use Rattle.seat_matrix.specs.Matrix.{AreSeats, SeatTable, list_in, seats_in}
use Rattle.apply_engine.specs.Engine.{AllShow, AreLawful, Show}

-- ---- what a state shows is what the rule says

pub shown_admits : (version : ℕ) (table : SeatTable) (p : ℕ) (people : List Person) (admissions : Admissions) (person : Person) → ChoosesFrom version (seats_in table p) people admissions
    → IsAdmitted admissions person → Admits (steps_of version table) p people person
shown_admits version table p people admissions person choice admitted = (admitted.0, (admissions, choice, admitted.1))

pub rule_shows : (version : ℕ) (table : SeatTable) (p : ℕ) (people : List Person) (admissions : Admissions) (person : Person) (kind : StepKind) → AreLawful → AreSeats table
    → p < length table.programmes → MayApplyIn table p people → ChoosesFrom version (seats_in table p) people admissions → steps_of version table p people person kind
    → IsAmong person (admitted_by admissions kind)
rule_shows version table p people admissions person kind laws seats below may choice rule =
    let one = laws.one version (seats_in table p) people rule.0 admissions (seats.sound p below) may rule.1 choice in
    subst (λ (a : Admissions). IsAmong person (admitted_by a kind)) one rule.2

pub refused_shows : (version : ℕ) (table : SeatTable) (p : ℕ) (people : List Person) (admissions : Admissions) (person : Person) → AreLawful → AreSeats table
    → p < length table.programmes → MayApplyIn table p people → ChoosesFrom version (seats_in table p) people admissions → IsRefused admissions person
    → Refuses (steps_of version table) p people person
refused_shows version table p people admissions person laws seats below may choice refused = λ kind rule.
    refused kind (rule_shows version table p people admissions person kind laws seats below may choice rule)

-- ---- one offer

-- two of some people who can be ranked have other numbers
numbers_apart : (list : ListId) (people : List Person) (a b : Person) → Pairwise (λ (x y : Person). number_in list x ≢ number_in list y) people → IsAmong a people → IsAmong b people
    → a.id ≢ b.id → number_in list a ≢ number_in list b
numbers_apart list [] a b apart in_a in_b other = absurd in_a
numbers_apart list (x ∷ people) a b apart in_a in_b other = elim in_a [
  | inl here ↦ elim in_b [
    | inl here' ↦ absurd (other (ap (λ (z : Person). z.id) here ∙ ap (λ (z : Person). z.id) (sym here')))
    | inr later ↦
        let far = any_all (λ other. b ≡ other) (λ other. number_in list x ≢ number_in list other) people later apart.0 in
        λ e. far.2 (ap (λ (z : Person). number_in list z) (sym here) ∙ e ∙ ap (λ (z : Person). number_in list z) far.1)
  ]
  | inr later ↦ elim in_b [
    | inl here ↦
        let far = any_all (λ other. a ≡ other) (λ other. number_in list x ≢ number_in list other) people later apart.0 in
        λ e. far.2 (ap (λ (z : Person). number_in list z) (sym here) ∙ sym e ∙ ap (λ (z : Person). number_in list z) far.1)
    | inr later' ↦ numbers_apart list people a b apart.1 later later' other
  ]
]

pub ids_apart : (people : List Person) (a b : Person) → Pairwise (λ (x y : Person). x.id ≢ y.id) people → IsAmong a people → IsAmong b people → (a ≡ b → ⊥) → a.id ≢ b.id
ids_apart [] a b apart in_a in_b other = absurd in_a
ids_apart (x ∷ people) a b apart in_a in_b other = elim in_a [
  | inl here ↦ elim in_b [
    | inl here' ↦ absurd (other (here ∙ sym here'))
    | inr later ↦
        let far = any_all (λ other. b ≡ other) (λ (other : Person). x.id ≢ other.id) people later apart.0 in
        λ e. far.2 (ap (λ (z : Person). z.id) (sym here) ∙ e ∙ ap (λ (z : Person). z.id) far.1)
  ]
  | inr later ↦ elim in_b [
    | inl here ↦
        let far = any_all (λ other. a ≡ other) (λ (other : Person). x.id ≢ other.id) people later apart.0 in
        λ e. far.2 (ap (λ (z : Person). z.id) (sym here) ∙ sym e ∙ ap (λ (z : Person). z.id) far.1)
    | inr later' ↦ ids_apart people a b apart.1 later later' other
  ]
]

pub all_of : {X : Type 0} (P : X → Type 0) (xs : List X) → ((x : X) → IsAmong x xs → P x) → AllByRecursion P xs
all_of P [] h = tt
all_of P (x ∷ xs) h = (h x (inl refl), all_of P xs (λ y among. h y (inr among)))

-- the people after the offer, and the choice from them
pub record Facts (version : ℕ) (table : SeatTable) (seekers : List Seeker) (next : List ℕ) (i p n : ℕ) (s : Seeker) : Type 0 where
  pub with_one : IsWithOne s.person (tried p seekers next) (tried p seekers (slice_set next i (n + 1)))
  pub may : MayApplyIn table p (tried p seekers next)
  pub may_after : MayApplyIn table p (tried p seekers (slice_set next i (n + 1)))

pub facts : (rule : Rule) (version : ℕ) (table : SeatTable) (seekers : List Seeker) (next : List ℕ) (i p n : ℕ) (s : Seeker) → ChoosesWell rule (MayApplyIn table)
    → IsMarket (MayApplyIn table) (length table.programmes) seekers → IsUnderway rule (length table.programmes) seekers next
    → IsUnderway rule (length table.programmes) seekers (slice_set next i (n + 1)) → MayTry rule (length table.programmes) seekers next i p n s
    → Facts version table seekers next i p n s
facts rule version table seekers next i p n s well market before after try = record {
  with_one = tried_with (MayApplyIn table) (length table.programmes) p i n seekers next s market try.there try.at try.place;
  may = tried_may rule (MayApplyIn table) (length table.programmes) p seekers next market well try.below before.full before.within;
  may_after = tried_may rule (MayApplyIn table) (length table.programmes) p seekers (slice_set next i (n + 1)) market well try.below after.full after.within;
}

-- a person who is held tried the programme before
pub held_tried : (version : ℕ) (table : SeatTable) (p : ℕ) (people : List Person) (admissions : Admissions) (other : Person) → AreLawful → AreSeats table → p < length table.programmes
    → MayApplyIn table p people → ChoosesFrom version (seats_in table p) people admissions → IsAmong other (everybody admissions) → IsAmong other people
held_tried version table p people admissions other laws seats below may choice among =
    let once = laws.once version (seats_in table p) people admissions (seats.sound p below) may choice in
    any_among (λ x. other ≡ x) (everybody admissions) people once.1 among

-- The seeker is new to those whom the programme holds.
pub new_to_held : (version : ℕ) (table : SeatTable) (seekers : List Seeker) (next : List ℕ) (i p n : ℕ) (s : Seeker) (admissions : Admissions) → AreLawful → AreSeats table
    → p < length table.programmes → Facts version table seekers next i p n s → ChoosesFrom version (seats_in table p) (tried p seekers next) admissions
    → IsNewTo (list_in table p) (everybody admissions) s.person
new_to_held version table seekers next i p n s admissions laws seats below f choice =
    let after = tried p seekers (slice_set next i (n + 1)) in
    let apart : (other : Person) → IsAmong other (everybody admissions) → s.person.id ≢ other.id = λ other among.
    let before = held_tried version table p _ admissions other laws seats below f.may choice among in
    ids_apart after s.person other f.may_after.distinct f.with_one.there (widens other _ _ f.with_one.within before)
    (λ e. f.with_one.fresh (subst (λ z. IsAmong z (tried p seekers next)) (sym e) before)) in
    record {
      traits = all_among (λ (x : Person). IsTraitSet x.traits) after s.person f.may_after.traits f.with_one.there;
      placed = all_among (λ x. IsSome (number_in (list_in table p) x)) after s.person f.may_after.placed f.with_one.there;
      distinct = all_of _ _ apart;
      numbers = all_of _ _ (λ other among.
          let before = held_tried version table p _ admissions other laws seats below f.may choice among in
          numbers_apart (list_in table p) after s.person other f.may_after.numbers f.with_one.there (widens other _ _ f.with_one.within before) (apart other among));
    }

-- The choice from those held with the seeker is the choice from all who tried.
pub goes_on_choice : (version : ℕ) (table : SeatTable) (seekers : List Seeker) (next : List ℕ) (i p n : ℕ) (s : Seeker) (before after : Admissions) → AreLawful → AreSeats table
    → p < length table.programmes → Facts version table seekers next i p n s → ChoosesFrom version (seats_in table p) (tried p seekers next) before
    → ChoosesFrom version (seats_in table p) (s.person ∷ everybody before) after
    → ChoosesFrom version (seats_in table p) (tried p seekers (slice_set next i (n + 1))) after
goes_on_choice version table seekers next i p n s before after laws seats below f choice next_choice =
    laws.resumes version (seats_in table p) (tried p seekers next) (tried p seekers (slice_set next i (n + 1))) s.person before after (seats.sound p below) f.may.distinct f.may_after
    (record {
      part = λ other among. widens other _ _ f.with_one.within among;
      here = f.with_one.there;
      nobody_else = f.with_one.only;
    })
    f.with_one.fresh choice next_choice

-- All states show the choices from those who tried, after the state of one programme took the offer.
pub all_show : (rule : Rule) (version : ℕ) (table : SeatTable) (seekers : List Seeker) (next : List ℕ) (states : List ProgrammeKept) (i p n : ℕ) (s : Seeker) (old new : ProgrammeKept)
    → AllShow version table seekers next states → MayTry rule (length table.programmes) seekers next i p n s → slice_get states p ≡ Some old
    → Show version table seekers (slice_set next i (n + 1)) p new → AllShow version table seekers (slice_set next i (n + 1)) (slice_set states p new)
all_show rule version table seekers next states i p n s old new shows try at shown = record {
  full = length-set states p new ∙ shows.full;
  each = λ q state here. elim (eqb_tells q p) [
    | inl h ↦
        let mine : slice_get (slice_set states p new) q ≡ Some new = subst (λ k. slice_get (slice_set states p new) k ≡ Some new) (sym h.1) (get_set_same states p new old at) in
        let same : new ≡ state = cc in
        subst (λ z. Show version table seekers (slice_set next i (n + 1)) q z) same (subst (λ k. Show version table seekers (slice_set next i (n + 1)) k new) (sym h.1) shown)
    | inr h ↦
        let his : slice_get states q ≡ Some state = sym (get_set_other states p q new h.1) ∙ here in
        let before = shows.each q state his in
        record {
          version_is = before.version_is;
          seats_are = before.seats_are;
          choice = subst (λ people. ChoosesFrom version (seats_in table q) people (admissions_of state))
              (sym (other_programmes rule (length table.programmes) p i n q seekers next s try h.1)) before.choice;
        }
  ];
}
