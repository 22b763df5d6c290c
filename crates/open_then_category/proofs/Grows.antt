-- More seats keep everybody who was admitted, perhaps under another step.
use Rattle.std.proofs.Common.{◌≡◌, ◌≤◌, ◌-◌, ℕ, Bool, true, false, cond, List, take, length, refl, sym, subst, inl, inr, min, arith}
use Rattle.std.specs.List.{filter}
use Rattle.office_base.specs.CategorySteps.{category_steps, gives_up}
use Rattle.office_base.specs.Lists.{IsAmong, IsSublist}
use Rattle.office_base.specs.Person.{IsList, is_common}
use Rattle.office_base.specs.StepChoice.{AreRanked, IsStepChoice}
use Rattle.office_base.specs.declared.category_steps.CategoryStep.{CategoryStep}
use Rattle.office_base.specs.declared.person.ListId.{ListId}
use Rattle.office_base.specs.declared.person.Person.{Person}
use Rattle.office_base.specs.declared.step.StepKind.{StepKind}
use Rattle.office_base.specs.declared.step.StepKind.TheVariants.{Open, Dereserved}
use Rattle.placements.proofs.Sublists.{IsSublist-same, length-sublist}
use Rattle.placements.specs.Ranks.{AreAmong, AreDistinct}
use Rattle.placements.proofs.Ranks.{among_sublist, among_itself, ranked_sublist, widen}
use Rattle.placements.proofs.Filters.{filter_mono, filter-sublist, among_filter_from}
use Rattle.seat_matrix.specs.Seats.{AreProgrammeSeats, HaveMoreSeats, IsSeated, of_step}
use Rattle.seat_matrix.specs.declared.seats.ProgrammeSeats.{ProgrammeSeats}
use Rattle.seat_matrix.specs.declared.seats.Seating.{Seating}
use Rattle.seat_matrix.specs.declared.seats.Seatings.{Seatings}
use Rattle.programme_lists.specs.Chosen.{IsAdmitted, everybody}
use Rattle.programme_lists.specs.Programme.{Admissions, is_of, left_over, people_of, step_with, unfilled, IsProgrammeChoice}
use Rattle.programme_lists.proofs.Table.{IsRow}
use Rattle.programme_lists.proofs.Taken.{among_without_from}
use Rattle.open_then_category.proofs.Decide.{is_among_or_not}
use Rattle.open_then_category.proofs.Lists.{among_best, without_mono}
use Rattle.open_then_category.proofs.Once.{from_everybody, in_everybody}
use Rattle.open_then_category.proofs.ProgrammeLaws.{Stage, all_among, among_left, chosen_among, chosen_passes, filtered_step, given, is_left, last_among, last_sublist, stage_refused}
use Rattle.open_then_category.proofs.Rows.{each_kind, each_step, left_by_mono, open_choice, rest_of, row_choice, steps_of, sum_rises}
use Rattle.open_then_category.specs.StepLaws.{AreLawful}

-- one step chooses by a test from some people, and with no fewer seats from fewer people
pub record Growing (list : ListId) (seats more : Seating) (test : Person → Bool) (people fewer chosen others : List Person) : Type 0 where
  pub is_list : IsList list
  pub are_seats : IsSeated seats
  pub are_more : IsSeated more
  pub room : seats.seats ≤ more.seats
  pub protections : more.protections ≡ seats.protections
  pub ranked : AreRanked list people
  pub part : IsSublist fewer people
  pub choice : IsStepChoice (step_with list seats (filter test people)) chosen
  pub more_choice : IsStepChoice (step_with list more (filter test fewer)) others

-- with no fewer seats and no more people no fewer seats are left
left_grows : (q more n fewer chosen others : ℕ) → q ≤ more → fewer ≤ n → chosen ≡ min q n → others ≡ min more fewer → q - chosen ≤ more - others
left_grows q more n fewer chosen others room part one two = omega arith

-- what a row gives up rises with the seats that are left to it
given_rises : (b : Bool) (few most : ℕ) → few ≤ most → cond b few 0 ≤ cond b most 0
given_rises true few most e = omega arith
given_rises false few most e = omega arith

module _ (laws : AreLawful) where
  -- who was chosen stays chosen
  growing_keeps : (list : ListId) (seats more : Seating) (test : Person → Bool) (people fewer chosen others : List Person) → Growing list seats more test people fewer chosen others
      → (person : Person) → IsAmong person fewer → IsAmong person chosen → IsAmong person others
  growing_keeps list seats more test people fewer chosen others g person here there =
      let fewer_ranked = ranked_sublist list fewer people g.ranked g.part in
      let mid = laws.choice_exists (step_with list seats (filter test fewer)) (filtered_step list seats test fewer g.is_list g.are_seats fewer_ranked) in
      let stage : Stage list seats test fewer people mid.0 chosen = record {
        is_list = g.is_list;
        are_seats = g.are_seats;
        ranked = g.ranked;
        part = g.part;
        choice = mid.1;
        more_choice = g.choice;
      } in
      let stays : IsAmong person mid.0 = elim (is_among_or_not person mid.0) [
        | inl found ↦ found
        | inr gone ↦ absurd (stage_refused laws list seats test fewer people mid.0 chosen stage person here gone there)
      ] in
      laws.more_seats (step_with list seats (filter test fewer)) (step_with list more (filter test fewer)) mid.0 others person
      (record {
        is_step = filtered_step list seats test fewer g.is_list g.are_seats fewer_ranked;
        more_is_step = filtered_step list more test fewer g.is_list g.are_more fewer_ranked;
        list = refl;
        seats = g.room;
        protections = g.protections;
        people = refl;
      }) mid.1 g.more_choice stays

  -- and no fewer seats are left
  growing_leaves : (list : ListId) (seats more : Seating) (test : Person → Bool) (people fewer chosen others : List Person) → Growing list seats more test people fewer chosen others
      → seats.seats - length chosen ≤ more.seats - length others
  growing_leaves list seats more test people fewer chosen others g =
      let fewer_ranked = ranked_sublist list fewer people g.ranked g.part in
      let sub = length-sublist (filter test fewer) (filter test people) (filter_mono test test fewer people g.part (λ x here holds. holds)) in
      left_grows seats.seats more.seats (length (filter test people)) (length (filter test fewer)) (length chosen) (length others) g.room sub
      (laws.choice_size (step_with list seats (filter test people)) chosen (filtered_step list seats test people g.is_list g.are_seats g.ranked) g.choice)
      (laws.choice_size (step_with list more (filter test fewer)) others (filtered_step list more test fewer g.is_list g.are_more fewer_ranked) g.more_choice)

  -- More seats keep everybody.
  pub ranked_grows : (version : ℕ) (list : ListId) (steps more : Seatings) (people : List Person) (before after : Admissions) (person : Person)
      → AreProgrammeSeats (record { list = list; steps = steps }) → AreProgrammeSeats (record { list = list; steps = more })
      → HaveMoreSeats (record { list = list; steps = steps }) (record { list = list; steps = more }) → AreRanked list people
      → IsProgrammeChoice version (record { list = list; steps = steps }) people before → IsProgrammeChoice version (record { list = list; steps = more }) people after
      → IsAdmitted before person → IsAdmitted after person
  ranked_grows version list steps more people before after person ok more_ok grow ranked one two admitted =
      let seats : ProgrammeSeats = record { list = list; steps = steps } in
      let raised : ProgrammeSeats = record { list = list; steps = more } in
      let opened : Growing list (of_step steps Open) (of_step more Open) (is_common list) people people (before Open) (after Open) = record {
        is_list = ok.list;
        are_seats = ok.steps Open;
        are_more = more_ok.steps Open;
        room = grow.seats Open;
        protections = grow.protections Open;
        ranked = ranked;
        part = IsSublist-same people;
        choice = open_choice version seats people before one;
        more_choice = open_choice version raised people after two;
      } in
      let within = all_among version seats people before one in
      let more_within = all_among version raised people after two in
      let old = rest_of people before in
      let new = rest_of people after in
      let old_ranked = ranked_sublist list old people ranked (filter-sublist _ people) in
      let open_keeps = growing_keeps list (of_step steps Open) (of_step more Open) (is_common list) people people (before Open) (after Open) opened in
      -- those who are left with more seats were left before
      let rest : IsSublist new old = without_mono people people people (after Open) (before Open) ranked.distinct (IsSublist-same people) (among_itself people) (within Open refl)
      (λ other here gone there. gone (open_keeps other here there)) in
      let growing = λ (row : CategoryStep) (found : IsRow row).
      let g : Growing list (of_step steps row.step) (of_step more row.step) (is_of row.category) old new (before row.step) (after row.step) = record {
        is_list = ok.list;
        are_seats = ok.steps row.step;
        are_more = more_ok.steps row.step;
        room = grow.seats row.step;
        protections = grow.protections row.step;
        ranked = old_ranked;
        part = rest;
        choice = row_choice version seats people before one row found;
        more_choice = row_choice version raised people after two row found;
      } in g in
      let row_keeps = λ (row : CategoryStep) (found : IsRow row).
      let keeps : (other : Person) → IsAmong other new → IsAmong other (before row.step) → IsAmong other (after row.step) =
      growing_keeps list (of_step steps row.step) (of_step more row.step) (is_of row.category) old new (before row.step) (after row.step) (growing row found) in keeps in
      let left : IsSublist (left_over people after) (left_over people before) = left_by_mono (steps_of category_steps) old new old after before old_ranked.distinct rest (among_itself old)
      (each_step (λ kind. AreAmong (before kind) old) category_steps
      (λ row found. chosen_among list (of_step steps row.step) (is_of row.category) old (before row.step) (row_choice version seats people before one row found)))
      (each_step (λ kind. (other : Person) → IsAmong other new → (IsAmong other (after kind) → ⊥) → IsAmong other (before kind) → ⊥) category_steps
      (λ row found other here gone there. gone (row_keeps row found other here there))) in
      let rises : unfilled version seats before ≤ unfilled version raised after =
      sum_rises category_steps (λ row. given version (of_step steps row.step).seats (length (before row.step)) row) (λ row. given version (of_step more row.step).seats (length (after row.step)) row)
      (λ row found. given_rises (gives_up row version) ((of_step steps row.step).seats - length (before row.step)) ((of_step more row.step).seats - length (after row.step))
      (growing_leaves list (of_step steps row.step) (of_step more row.step) (is_of row.category) old new (before row.step) (after row.step) (growing row found))) in
      let again = λ (kind : StepKind) (there : IsAmong person (after kind)). let found : IsAdmitted after person = (kind, there) in found in
      let of_category = λ (row : CategoryStep) (found : IsRow row) (there : IsAmong person (before row.step)).
      let kept : IsAdmitted after person = elim (is_among_or_not person (after Open)) [
        | inl taken ↦ again Open taken
        | inr free ↦ again row.step (row_keeps row found person
            (among_without_from people people (after Open) person ranked.distinct (among_itself people) (more_within Open refl)
            (widen person old people (among_sublist old people (filter-sublist _ people))
            (chosen_passes list (of_step steps row.step) (is_of row.category) old (before row.step) person (row_choice version seats people before one row found) there).0) free) there)
      ] in kept in
      let of_last = λ (there : IsAmong person (before Dereserved)).
      let kept : IsAdmitted after person = elim (is_among_or_not person (everybody after)) [
        | inl found ↦ from_everybody after person found
        | inr refused ↦
            let whole = people_of list people before Dereserved in
            let less = people_of list people after Dereserved in
            let best : IsAmong person (take (unfilled version seats before) whole) = subst (IsAmong person) one.dereserved there in
            let passes = last_among version seats people before person one there in
            let free : (kind : StepKind) → IsAmong person (after kind) → ⊥ = λ kind here. refused (widen person (after kind) (everybody after) (in_everybody after kind) here) in
            let found : IsAmong person less = among_filter_from (is_common list) person (left_over people after)
            (among_left person people after ranked.distinct more_within (record { here = (is_left person people before passes.0).here; free = λ kind own. free kind })) passes.1 in
            let distinct : AreDistinct whole = (ranked_sublist list whole people ranked (last_sublist list people before)).distinct in
            let sub : IsSublist less whole = filter_mono (is_common list) (is_common list) (left_over people after) (left_over people before) left (λ x here holds. holds) in
            again Dereserved (subst (IsAmong person) (sym two.dereserved)
            (among_best person (unfilled version seats before) (unfilled version raised after) less whole distinct sub rises found best))
      ] in kept in
      each_kind (λ kind. IsAmong person (before kind) → IsAdmitted after person)
      (λ there. again Open (open_keeps person
      (chosen_passes list (of_step steps Open) (is_common list) people (before Open) person (open_choice version seats people before one) there).0 there))
      of_category of_last admitted.0 admitted.1
