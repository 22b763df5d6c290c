-- With fewer people and more seats whoever was admitted is, and cutoffs only widen.
use Rattle.std.proofs.Common.{◌≡◌, ◌≢◌, ◌∙◌, ◌+◌, inl, inr, ℕ, List, [], ◌∷◌, Option, Some, None, map, arith, refl, sym, subst}
use Rattle.std.specs.List.{AllByRecursion}
use Rattle.office_base.specs.Lists.{IsAmong}
use Rattle.office_base.specs.Merit.{IsNewTo, with_person}
use Rattle.office_base.specs.Person.{number_in}
use Rattle.office_base.specs.StepChoice.{AreRanked, IsStep, IsStepChoice}
use Rattle.office_base.specs.declared.person.ListId.{ListId}
use Rattle.office_base.specs.declared.person.Person.{Person}
use Rattle.office_base.specs.declared.person.TraitSet.{TraitSet}
use Rattle.office_base.specs.declared.step.Step.{Step}
use Rattle.placements.specs.Ranks.{AreAmong}
use Rattle.placements.proofs.Ranks.{all_among, among_again, among_sublist, ranked_sublist, widen}
use Rattle.merit_choice.specs.Laws.{ChoiceExists, HasMorePeople, MoreSeats, RefusedStaysRefused}
use Rattle.merit_choice.specs.State.{IsStepKept}
use Rattle.merit_choice.proofs.InMerit.{among_with, ranked_with, with_among}
use Rattle.merit_choice.proofs.Needed.{decides, nobody_of}
use Rattle.step_cutoffs.specs.Cutoff.{IsCutoff, IsWithin}
use Rattle.step_cutoffs.specs.Laws.{AdmittedStay, CutoffIsOfTraits, CutoffsDecide, EasedIsWider, IsEased, IsJoinedBy, kept_of}
use Rattle.step_cutoffs.specs.declared.cutoff.Cutoff.{Cutoff}
use Rattle.step_cutoffs.proofs.Alike.{within_more}
use Rattle.step_cutoffs.proofs.Newcomers.{newcomer_at}
use Rattle.step_cutoffs.proofs.Spread.{choice_spread, cutoff_spread, eased_spread, no_wider_by, number_spread, spread, spread_cutoff, spread_kept, spread_number, spread_step}

pub admitted_stay : ChoiceExists → RefusedStaysRefused → MoreSeats → AdmittedStay
admitted_stay exists refused more step later chosen others person eased first second here there =
    let ranked : AreRanked step.list later.people = subst (λ (l : ListId). AreRanked l later.people) eased.list eased.later_is_step.people in
    let fewer : Step = record { list = step.list; seats = step.seats; protections = step.protections; people = later.people } in
    let fewer_ok : IsStep fewer = record { list = eased.is_step.list; people = ranked; protections = eased.is_step.protections } in
    let choice = exists fewer fewer_ok in
    let both : HasMorePeople fewer step = record { is_step = fewer_ok; more_is_step = eased.is_step; list = refl; seats = refl; protections = refl; people = eased.people } in
    let still : IsAmong person choice.0 = elim (decides person choice.0 later.people ranked.distinct (among_sublist choice.0 later.people choice.1.may.people) there) [
      | inl taken ↦ taken
      | inr apart ↦ absurd (refused fewer step choice.0 chosen person both choice.1 first there (nobody_of person choice.0 apart) here)
    ] in
    more fewer later choice.0 others person
    (record { is_step = fewer_ok; more_is_step = eased.later_is_step; list = eased.list; seats = eased.seats; protections = eased.protections; people = refl }) choice.1 second still

-- a step with a newcomer
abbrev joined_by : Step → Person → Step
joined_by step person = record { list = step.list; seats = step.seats; protections = step.protections; people = with_person step.list person step.people }

joined_ok : (step : Step) (person : Person) → IsStep step → IsNewTo step.list step.people person → IsStep (joined_by step person)
joined_ok step person ok new = record { list = ok.list; people = ranked_with step.list person step.people ok.people new; protections = ok.protections }

joins : (step : Step) (person : Person) → IsStep step → IsNewTo step.list step.people person → IsJoinedBy step (joined_by step person) person
joins step person ok new =
    let with_them = among_with step.list person step.people in
    record {
      both = record { is_step = ok; more_is_step = joined_ok step person ok new; list = refl; seats = refl; protections = refl; people = with_them.1 };
      there = with_them.0;
      nobody_else = λ other here. elim (widen other (with_person step.list person step.people) (person ∷ step.people) (with_among step.list person step.people) here) [
        | inl same ↦ inr same
        | inr was ↦ inl was
      ];
    }

-- a newcomer within the cutoff is within the later one
still_within : ChoiceExists → AdmittedStay → CutoffsDecide → (step later : Step) (chosen others : List Person) (person : Person) (cutoff wider : Cutoff) → IsEased step later → IsStepChoice step chosen
    → IsStepChoice later others → IsNewTo step.list step.people person → IsCutoff (kept_of step chosen) person.traits cutoff → IsCutoff (kept_of later others) person.traits wider
    → IsWithin cutoff (number_in step.list person) → IsWithin wider (number_in step.list person)
still_within exists stay decide step later chosen others person cutoff wider eased first second new cut cut' within =
    let part : IsNewTo step.list later.people person = record {
      traits = new.traits;
      placed = new.placed;
      distinct = all_among _ later.people step.people eased.people new.distinct;
      numbers = all_among _ later.people step.people eased.people new.numbers;
    } in
    let new' : IsNewTo later.list later.people person = subst (λ (l : ListId). IsNewTo l later.people person) (sym eased.list) part in
    let one = exists (joined_by step person) (joined_ok step person eased.is_step new) in
    let two = exists (joined_by later person) (joined_ok later person eased.later_is_step new') in
    let joined = joins step person eased.is_step new in
    let joined' = joins later person eased.later_is_step new' in
    let taken = (decide step (joined_by step person) chosen one.0 person cutoff joined first one.1 cut).1 within in
    let into = among_with step.list person step.people in
    let people : AreAmong (joined_by later person).people (joined_by step person).people =
    among_again (joined_by later person).people (person ∷ later.people) (joined_by step person).people (with_among later.list person later.people)
    (into.0, among_again later.people step.people (joined_by step person).people eased.people into.1) in
    let wide : IsEased (joined_by step person) (joined_by later person) = record {
      is_step = joined.both.more_is_step;
      later_is_step = joined'.both.more_is_step;
      list = eased.list;
      protections = eased.protections;
      seats = eased.seats;
      people = people;
    } in
    let taken' = stay (joined_by step person) (joined_by later person) one.0 two.0 person wide one.1 two.1 taken joined'.there in
    subst (λ (l : ListId). IsWithin wider (number_in l person)) eased.list
    ((decide later (joined_by later person) others two.0 person wider joined' second two.1 cut').0 taken')

-- no spread number is even
even_free : (list : ListId) (k : ℕ) (people : List Person) → AllByRecursion (λ other. Some (k + k) ≢ number_in list other) (map spread people)
even_free list k [] = tt
even_free list k (person ∷ people) = ((λ same. odd (number_in list person) (same ∙ number_spread list person)), even_free list k people)
  where
    odd : (n : Option ℕ) → Some (k + k) ≡ spread_number n → ⊥
    odd None e = cc
    odd (Some n) e = (let f : k + k ≡ n + n + 1 = cc (e) in omega (arith, f))

-- With spread numbers there is a newcomer at each even place, and the places between those held tell the cutoffs apart.
pub eased_is_wider : ChoiceExists → AdmittedStay → CutoffsDecide → CutoffIsOfTraits → EasedIsWider
eased_is_wider exists stay decide alone step later chosen others traits cutoff wider eased first second small cut cut' =
    let ok = kept_by_choice step chosen eased.is_step first in
    let ok' = kept_by_choice later others eased.later_is_step second in
    let wide = cutoff_spread alone (kept_of step chosen) traits cutoff ok small cut in
    let wide' = cutoff_spread alone (kept_of later others) traits wider ok' small cut' in
    let most = no_wider_by cutoff wider (λ k within.
    (let one = newcomer_at step.list (map spread step.people) traits (k + k) eased.is_step.list small (even_free step.list k step.people) in
    subst (IsWithin (spread_cutoff wider)) one.3
    (still_within exists stay decide (spread_step step) (spread_step later) (map spread chosen) (map spread others) one.0 (spread_cutoff cutoff) (spread_cutoff wider) (eased_spread step later eased)
    (choice_spread step chosen first) (choice_spread later others second) one.1 (subst (λ (set : TraitSet). IsCutoff (spread_kept (kept_of step chosen)) set (spread_cutoff cutoff)) (sym one.2) wide)
    (subst (λ (set : TraitSet). IsCutoff (spread_kept (kept_of later others)) set (spread_cutoff wider)) (sym one.2) wide') (subst (IsWithin (spread_cutoff cutoff)) (sym one.3) within)))) in
    (most, (λ place within. within_more cutoff wider place most within))
  where
    kept_by_choice : (step : Step) (chosen : List Person) → IsStep step → IsStepChoice step chosen → IsStepKept (kept_of step chosen)
    kept_by_choice step chosen ok choice = record {
      list = ok.list;
      ranked = ranked_sublist step.list chosen step.people ok.people choice.may.people;
      few = choice.may.seats;
      protections = ok.protections;
    }
