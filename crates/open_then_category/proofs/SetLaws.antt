-- The laws of the choice of a programme from people in any order.
use Rattle.std.proofs.Common.{◌≡◌, ◌⊎◌, ℕ, List, ◌∷◌, refl, sym, subst, inl, inr}
use Rattle.office_base.specs.Lists.{IsAmong}
use Rattle.office_base.specs.Merit.{in_merit}
use Rattle.office_base.specs.declared.person.ListId.{ListId}
use Rattle.office_base.specs.declared.person.Person.{Person}
use Rattle.office_base.specs.declared.step.StepKind.{StepKind}
use Rattle.placements.specs.Ranks.{AreAmong, AreDistinct}
use Rattle.placements.proofs.Ranks.{among_again, among_sublist, any_among, pairwise_sublist, are_among, widen}
use Rattle.seat_matrix.specs.Seats.{AreProgrammeSeats, HaveMoreSeats}
use Rattle.seat_matrix.specs.declared.seats.ProgrammeSeats.{ProgrammeSeats}
use Rattle.seat_matrix.specs.declared.seats.Seatings.{Seatings}
use Rattle.programme_lists.specs.Chosen.{AdmitsUnder, AreApplicants, ChoosesFrom, IsAdmitted, IsRefused, everybody}
use Rattle.programme_lists.specs.Programme.{Admissions, admitted_by}
use Rattle.open_then_category.specs.Laws.{AdmittedOnce, ChoosesFromMore, ChosenWell, EachRefusedAllRefused, GrowsWithSeats, LeavingOutTheRefused, MoreSeatsKeepAll, NoFewerAdmitted, OneProgrammeChoice, OneStep, ProgrammeChoiceExists, RefusedBefore, RefusedFromMore, Resumes, SlotsAreTraits, UnfilledFalls}
use Rattle.open_then_category.proofs.Decide.{is_among_or_not}
use Rattle.open_then_category.proofs.Grows.{ranked_grows}
use Rattle.open_then_category.proofs.Once.{all_apart, from_everybody, in_everybody, ranked_once, ranked_one_step, ranked_slots}
use Rattle.open_then_category.proofs.ProgrammeLaws as ranked
use Rattle.open_then_category.specs.StepLaws.{AreLawful}
use Rattle.open_then_category.proofs.RankedWords.{RankedFromMore}

-- some step admits the person, or none does
admitted_or_refused : (admissions : Admissions) (person : Person) → IsAdmitted admissions person ⊎ IsRefused admissions person
admitted_or_refused admissions person = elim (is_among_or_not person (everybody admissions)) [
  | inl here ↦ inl (from_everybody admissions person here)
  | inr gone ↦ inr (λ kind here. gone (any_among (λ one. person ≡ one) (admitted_by admissions kind) (everybody admissions) (in_everybody admissions kind) here))
]

module _ (laws : AreLawful) where
  -- people by merit are the people
  in_order : (list : ListId) (people : List Person) (person : Person) → AreApplicants list people → IsAmong person people → IsAmong person (in_merit list people)
  in_order list people person may here = widen person people (in_merit list people) (laws.in_merit_ranks list people may).1 here

  out_of_order : (list : ListId) (people : List Person) (person : Person) → AreApplicants list people → IsAmong person (in_merit list people) → IsAmong person people
  out_of_order list people person may here = widen person (in_merit list people) people (laws.in_merit_ranks list people may).2 here

  -- some of the applicants may apply
  some_may : (list : ListId) (some all : List Person) → AreDistinct some → AreApplicants list all → AreAmong some all → AreApplicants list some
  some_may list some all distinct may part = laws.part_can_be_ranked list some all distinct may part

  -- the choices from some people and from more, in merit order
  ordered : (version : ℕ) (seats : ProgrammeSeats) (some all : List Person) (before after : Admissions) → ChoosesFromMore version seats some all before after
      → RankedFromMore version seats (in_merit seats.list some) (in_merit seats.list all) before after
  ordered version seats some all before after h = record {
    are_seats = h.are_seats;
    ranked = (laws.in_merit_ranks seats.list all h.may).0;
    part = laws.part_in_merit seats.list some all h.distinct h.may h.part;
    choice = h.choice;
    more_choice = h.more_choice;
  }

  pub refused_from_more : RefusedFromMore
  refused_from_more version seats some all before after person h here refused =
      ranked.refused_from_more laws version seats (in_merit seats.list some) (in_merit seats.list all) before after person (ordered version seats some all before after h)
      (in_order seats.list some person (some_may seats.list some all h.distinct h.may h.part) here) refused

  pub unfilled_falls : UnfilledFalls
  unfilled_falls version seats some all before after h =
      ranked.unfilled_falls laws version seats (in_merit seats.list some) (in_merit seats.list all) before after (ordered version seats some all before after h)

  pub no_fewer_admitted : NoFewerAdmitted
  no_fewer_admitted version seats some all before after h =
      ranked.no_fewer_admitted laws version seats (in_merit seats.list some) (in_merit seats.list all) before after (ordered version seats some all before after h)

  pub leaving_out_the_refused : LeavingOutTheRefused
  leaving_out_the_refused version seats some all before after h refused =
      ranked.leaving_out_the_refused laws version seats (in_merit seats.list some) (in_merit seats.list all) before after (ordered version seats some all before after h)
      (λ person here gone. refused person (out_of_order seats.list all person h.may here)
      (λ there. gone (in_order seats.list some person (some_may seats.list some all h.distinct h.may h.part) there)))

  pub one_programme_choice : OneProgrammeChoice
  one_programme_choice version seats people first second ok may one other =
      ranked.one_programme_choice laws version seats (in_merit seats.list people) first second ok (laws.in_merit_ranks seats.list people may).0 one other

  pub programme_choice_exists : ProgrammeChoiceExists
  programme_choice_exists version seats people ok may = ranked.programme_choice_exists laws version seats (in_merit seats.list people) ok (laws.in_merit_ranks seats.list people may).0

  pub each_refused_all_refused : EachRefusedAllRefused
  each_refused_all_refused version seats kept all before after h alone =
      let refused = λ (person : Person) (here : IsAmong person all) (gone : IsAmong person kept → ⊥).
      let a = alone person here gone in
      refused_from_more version seats a.people all a.admissions after person
      (record { are_seats = h.are_seats; distinct = a.distinct; may = h.may; part = a.within; choice = a.choice; more_choice = h.more_choice }) a.there a.refused in
      (refused, leaving_out_the_refused version seats kept all before after h refused)

  -- everybody is admitted once
  pub admitted_once : AdmittedOnce
  admitted_once version seats people admissions ok may choice =
      let ranks = laws.in_merit_ranks seats.list people may in
      let sound = ranked_once version seats (in_merit seats.list people) admissions ranks.0.distinct choice in
      (sound.distinct, among_again (everybody admissions) (in_merit seats.list people) people sound.within ranks.2)

  pub one_step : OneStep
  one_step version seats people admissions person kind other ok may choice here there = ranked_one_step version seats (in_merit seats.list people) admissions person kind other choice here there

  pub slots_are_traits : SlotsAreTraits
  slots_are_traits version seats people programme ok may shown = ranked_slots version seats (in_merit seats.list people) programme (laws.in_merit_ranks seats.list people may).0 shown

  -- more seats keep everybody
  grown : (version : ℕ) (list : ListId) (steps : Seatings) (more : ProgrammeSeats) (people : List Person) (before after : Admissions) (person : Person) → more.list ≡ list
      → AreProgrammeSeats (record { list = list; steps = steps }) → AreProgrammeSeats (record { list = list; steps = more.steps })
      → HaveMoreSeats (record { list = list; steps = steps }) (record { list = list; steps = more.steps }) → AreApplicants list people
      → ChoosesFrom version (record { list = list; steps = steps }) people before → ChoosesFrom version more people after → IsAdmitted before person → IsAdmitted after person
  grown version list steps more people before after person same ok more_ok grow may one two admitted =
      let again : ChoosesFrom version (record { list = list; steps = more.steps }) people after = subst (λ (l : ListId). ChoosesFrom version (record { list = l; steps = more.steps }) people after) same two in
      ranked_grows laws version list steps more.steps (in_merit list people) before after person ok more_ok grow (laws.in_merit_ranks list people may).0 one again admitted

  pub more_seats_keep_all : MoreSeatsKeepAll
  more_seats_keep_all version seats more people before after person ok more_ok grow may one two admitted =
      grown version seats.list seats.steps more people before after person grow.list ok (record { list = ok.list; steps = more_ok.steps })
      (record { list = refl; protections = grow.protections; seats = grow.seats }) may one two admitted

  pub refused_before : RefusedBefore
  refused_before version seats earlier small all before some after first second gone =
      leaving_out_the_refused version seats small all some after second (λ person here out.
      let there = gone person here out in
      refused_from_more version seats earlier all before after person first there.0 there.1)

  pub resumes : Resumes
  resumes version seats some all person before after ok distinct may joined fresh one two =
      let part = are_among some all joined.part in
      let once = admitted_once version seats some before ok (some_may seats.list some all distinct may part) one in
      let within = among_again (everybody before) some all once.1 part in
      let small_part : AreAmong (person ∷ everybody before) all = (joined.here, within) in
      let small_distinct : AreDistinct (person ∷ everybody before) = (
        all_apart all person (everybody before) may.distinct joined.here within (λ here. fresh (widen person (everybody before) some once.1 here)),
        once.0,
      ) in
      let whole = programme_choice_exists version seats all ok may in
      let same : after ≡ whole.0 = refused_before version seats some (person ∷ everybody before) all before after whole.0
      (record { are_seats = ok; distinct = distinct; may = may; part = part; choice = one; more_choice = whole.1 })
      (record { are_seats = ok; distinct = small_distinct; may = may; part = small_part; choice = two; more_choice = whole.1 })
      (λ other here out. (
        elim (joined.nobody_else other here) [ inl found ↦ found | inr is ↦ absurd (out (inl is)) ],
        λ kind there. out (inr (widen other (admitted_by before kind) (everybody before) (in_everybody before kind) there)),
      )) in
      subst (ChoosesFrom version seats all) (sym same) whole.1

  -- who is admitted is admitted by the choice
  pub admitted_by_choice : (version : ℕ) (seats : ProgrammeSeats) (people : List Person) (admissions : Admissions) (person : Person) (kind : StepKind) → AreProgrammeSeats seats → AreApplicants seats.list people
      → ChoosesFrom version seats people admissions → AdmitsUnder version seats people person kind → IsAmong person (admitted_by admissions kind)
  admitted_by_choice version seats people admissions person kind ok may choice admits =
      subst (λ (a : Admissions). IsAmong person (admitted_by a kind)) (one_programme_choice version seats people admits.0 admissions ok may admits.1 choice) admits.2

  pub chosen_well : ChosenWell
  chosen_well version seats sound =
      let refuses = λ (p : ℕ) (people : List Person) (admissions : Admissions) (person : Person) (may : AreApplicants (seats p).list people) (choice : ChoosesFrom version (seats p) people admissions)
      (refused : (kind : StepKind) → AdmitsUnder version (seats p) people person kind → ⊥).
      let out : IsRefused admissions person = λ kind here. refused kind (admissions, choice, here) in out in
      record {
        part = λ p some all may sub. some_may (seats p).list some all (pairwise_sublist _ some all sub may.distinct) may (among_sublist some all sub);
        decided = λ p people person may.
            let choice = programme_choice_exists version (seats p) people (sound p) may in
            elim (admitted_or_refused choice.0 person) [
              | inl admitted ↦ inl (admitted.0, (choice.0, choice.1, admitted.1))
              | inr refused ↦ inr (λ kind admits. refused kind (admitted_by_choice version (seats p) people choice.0 person kind (sound p) may choice.1 admits))
            ];
        among = λ p people person kind may admits.
            widen person (everybody admits.0) people (admitted_once version (seats p) people admits.0 (sound p) may admits.1).1
            (widen person (admitted_by admits.0 kind) (everybody admits.0) (in_everybody admits.0 kind) admits.2);
        one_step = λ p people person kind other may admits more.
            one_step version (seats p) people more.0 person kind other (sound p) may more.1 (admitted_by_choice version (seats p) people more.0 person kind (sound p) may more.1 admits) more.2;
        fewer = λ p some all person may sub here admitted.
            let few = some_may (seats p).list some all (pairwise_sublist _ some all sub may.distinct) may (among_sublist some all sub) in
            let choice = programme_choice_exists version (seats p) some (sound p) few in
            elim (admitted_or_refused choice.0 person) [
              | inl found ↦ (found.0, (choice.0, choice.1, found.1))
              | inr refused ↦ absurd (refused_from_more version (seats p) some all choice.0 admitted.1.0 person
                  (record { are_seats = sound p; distinct = few.distinct; may = may; part = among_sublist some all sub; choice = choice.1; more_choice = admitted.1.1 }) here refused admitted.0 admitted.1.2)
            ];
        without = λ p some all may sub gone person kind.
            let few = some_may (seats p).list some all (pairwise_sublist _ some all sub may.distinct) may (among_sublist some all sub) in
            let choice = programme_choice_exists version (seats p) some (sound p) few in
            let whole = programme_choice_exists version (seats p) all (sound p) may in
            let same : choice.0 ≡ whole.0 = leaving_out_the_refused version (seats p) some all choice.0 whole.0
            (record { are_seats = sound p; distinct = few.distinct; may = may; part = among_sublist some all sub; choice = choice.1; more_choice = whole.1 })
            (λ other here out. refuses p all whole.0 other may whole.1 (gone other here out)) in (
              λ admits. (whole.0, whole.1, subst (λ (a : Admissions). IsAmong person (admitted_by a kind)) same (admitted_by_choice version (seats p) some choice.0 person kind (sound p) few choice.1 admits)),
              λ admits. (choice.0, choice.1, subst (λ (a : Admissions). IsAmong person (admitted_by a kind)) (sym same) (admitted_by_choice version (seats p) all whole.0 person kind (sound p) may whole.1 admits)),
            );
        together = λ p some all may sub alone person here gone kind admits.
            let a = alone person here gone in
            let few = some_may (seats p).list a.people all (pairwise_sublist _ a.people all a.within may.distinct) may (among_sublist a.people all a.within) in
            let choice = programme_choice_exists version (seats p) a.people (sound p) few in
            refused_from_more version (seats p) a.people all choice.0 admits.0 person
            (record { are_seats = sound p; distinct = few.distinct; may = may; part = among_sublist a.people all a.within; choice = choice.1; more_choice = admits.1 })
            a.there (refuses p a.people choice.0 person few choice.1 a.refused) kind admits.2;
      }

  pub grows_with_seats : GrowsWithSeats
  grows_with_seats version seats more sound more_sound grow = λ p people person may admitted.
      let again = subst (λ (list : ListId). AreApplicants list people) (sym (grow p).list) may in
      let choice = programme_choice_exists version (more p) people (more_sound p) again in
      let found = more_seats_keep_all version (seats p) (more p) people admitted.1.0 choice.0 person (sound p) (more_sound p) (grow p) may admitted.1.1 choice.1 (admitted.0, admitted.1.2) in
      (found.0, (choice.0, choice.1, found.1))
