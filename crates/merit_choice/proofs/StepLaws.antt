-- The laws of the choice of a step.
use Rattle.std.proofs.Common.{◌≡◌, ◌≢◌, ◌≤◌, ◌-◌, ℕ, Bool, List, [], ◌∷◌, length, refl, sym, ap, ◌∙◌, subst, inl, inr, arith}
use Rattle.office_base.specs.Lists.{IsSublist, Pairwise}
use Rattle.office_base.specs.Person.{number_in}
use Rattle.office_base.specs.Placement.{IsHonoured}
use Rattle.office_base.specs.StepChoice.{AreRanked, IsStep, MayAdmit, IsNoWorse, IsStepChoice}
use Rattle.office_base.specs.declared.person.ListId.{ListId}
use Rattle.office_base.specs.declared.person.Person.{Person}
use Rattle.office_base.specs.declared.step.Step.{Step}
use Rattle.office_base.specs.declared.step.Protections.{Protections}
use Rattle.placements.proofs.Sublists.{length-sublist, sublist_again}
use Rattle.placements.proofs.Greatest.{honoured-exists, honoured-one}
use Rattle.placements.proofs.Ranks.{pairwise_sublist, any_among, monotone, among_sublist}
use Rattle.placements.proofs.Merit.{not_both_ahead}
use Rattle.merit_choice.specs.Laws.{IsAmong, HasMorePeople, OneChoice, ChoiceExists, ChoiceSize, RefusedStaysRefused, NoFewer, LeavingOutRefused, MoreSeats, HonoursAsAll}
use Rattle.merit_choice.specs.Marks.{marked, kept, filled_up, AreRaises}
use Rattle.merit_choice.proofs.InMerit.{ranked_part}
use Rattle.merit_choice.proofs.Members.{kept_covered, kept_among_fewer, decides_among, sublist_of_some}
use Rattle.merit_choice.proofs.Marks.{AreFewer, sublist-kept, filled_up-fewer, filled_up_more}
use Rattle.merit_choice.proofs.Raises.{new-from_nobody, raises-exist, raises_fewer, honoured_marked, honoured_nobody}
use Rattle.merit_choice.proofs.Filled.{best_with, best_with-is_choice, honoured_best_with, length-best_with}

-- ---- one choice

-- two lists, neither worse than the other at any place, are one
no_worse_both_ways : (list : ListId) (first second : List Person) → IsNoWorse list first second → IsNoWorse list second first → first ≡ second
no_worse_both_ways list [] [] there back = refl
no_worse_both_ways list [] (other ∷ others) there back = absurd there
no_worse_both_ways list (person ∷ people) [] there back = absurd back
no_worse_both_ways list (person ∷ people) (other ∷ others) there back =
    let rest : people ≡ others = no_worse_both_ways list people others there.1 back.1 in
    let same : person ≡ other = elim there.0 [
      | inl e ↦ e
      | inr better ↦ elim back.0 [
        | inl e ↦ sym e
        | inr worse ↦ absurd (not_both_ahead (number_in list person) (number_in list other) better worse)
      ]
    ] in
    cc

-- a set of the step's people honours some number
honoured_set : (step : Step) (set : List Person) → IsStep step → MayAdmit step set → (n : ℕ) × IsHonoured step.protections set n
honoured_set step set ok may = honoured-exists step.protections set (pairwise_sublist (λ (a : Person) (b : Person). a.id ≢ b.id) set step.people may.people ok.people.distinct)

pub one_choice : OneChoice
one_choice step first second ok one other =
    let m = honoured_set step first ok one.may in
    let n = honoured_set step second ok other.may in
    let low = other.most first m.0 n.0 one.may m.1 n.1 in
    let high = one.most second n.0 m.0 other.may n.1 m.1 in
    let e : n.0 ≡ m.0 = omega arith in
    let same : IsHonoured step.protections second m.0 = subst (λ (k : ℕ). IsHonoured step.protections second k) e n.1 in
    no_worse_both_ways step.list first second (one.best second m.0 other.may same m.1) (other.best first m.0 one.may m.1 same)

-- ---- the choice is there

-- the marks of those who raise the number are there
raises_of : (step : Step) → IsStep step → (marks : List Bool) × AreRaises step.protections [] step.people marks
raises_of step ok = raises-exist step.protections step.people [] (new-from_nobody step.people ok.people.distinct)

pub choice_exists : ChoiceExists
choice_exists step ok = let marks = raises_of step ok in (best_with step.seats step.people marks.0, best_with-is_choice step marks.0 ok marks.1)

-- the choice by marks
chosen_by : (step : Step) (chosen : List Person) → IsStep step → IsStepChoice step chosen
    → (marks : List Bool) × AreRaises step.protections [] step.people marks × (chosen ≡ best_with step.seats step.people marks)
chosen_by step chosen ok choice =
    let marks = raises_of step ok in
    (marks.0, marks.1, one_choice step chosen (best_with step.seats step.people marks.0) ok choice (best_with-is_choice step marks.0 ok marks.1))

-- the chosen honour as many as all people
pub honours_as_all : HonoursAsAll
honours_as_all step chosen m n ok choice all mine =
    let told = chosen_by step chosen ok choice in
    let ours : IsHonoured step.protections chosen (marked told.0) =
    subst (λ (those : List Person). IsHonoured step.protections those (marked told.0)) (sym told.2) (honoured_best_with step told.0 ok told.1) in
    honoured-one step.protections step.people m (marked told.0) all (honoured_marked step.protections step.people told.0 told.1)
    ∙ honoured-one step.protections chosen (marked told.0) n ours mine

pub choice_size : ChoiceSize
choice_size step chosen ok choice =
    let told = chosen_by step chosen ok choice in
    ap length told.2 ∙ length-best_with step told.0 ok told.1

-- ---- more people

-- in merit order the people are a part of the more
part_of : (step more : Step) → HasMorePeople step more → IsSublist step.people more.people
part_of step more both =
    ranked_part step.list step.people more.people both.is_step.people (subst (λ (list : ListId). AreRanked list more.people) both.list both.more_is_step.people) both.people

-- the marks of the more people raise the number no fewer times
more_marked : (protections : Protections) (some all : List Person) (marks others : List Bool) → IsSublist some all
    → AreRaises protections [] some marks → AreRaises protections [] all others → marked marks ≤ marked others
more_marked protections some all marks others sub raises more =
    monotone protections some all (marked marks) (marked others) (among_sublist some all sub) (honoured_marked protections some marks raises) (honoured_marked protections all others more)

-- who is one of some people, and chosen from more on no more seats, is chosen from the some
chosen_from_some : (protections : Protections) (seats : ℕ) (some all : List Person) (marks others : List Bool) (person : Person) → Pairwise (λ a b. a.id ≢ b.id) all → IsSublist some all
    → AreRaises protections [] some marks → AreRaises protections [] all others
    → IsAmong person some → IsAmong person (best_with seats all others) → IsAmong person (best_with seats some marks)
chosen_from_some protections seats some all marks others person distinct sub raises more here there =
    let part = sublist-kept some all sub in
    let free = seats - marked marks in
    let less = seats - marked others in
    let count = more_marked protections some all marks others sub raises more in
    let own : AreRaises protections [] (kept all part.0) marks = subst (λ (people : List Person). AreRaises protections [] people marks) part.2 raises in
    let fewer : AreFewer part.0 others marks =
    raises_fewer protections [] [] all part.0 others marks 0 0 (new-from_nobody all distinct) tt (honoured_nobody protections) (honoured_nobody protections) part.1 more own in
    let still : AreFewer part.0 (filled_up others less) (filled_up marks free) = filled_up-fewer part.0 others marks less free (omega arith) fewer in
    let found : IsAmong person (kept (kept all part.0) (filled_up marks free)) =
    kept_among_fewer person all part.0 (filled_up others less) (filled_up marks free) distinct still (subst (IsAmong person) part.2 here) there in
    subst (λ (people : List Person). IsAmong person (kept people (filled_up marks free))) (sym part.2) found

pub refused_stays_refused : RefusedStaysRefused
refused_stays_refused step more chosen others person both one other here refused there =
    let mine = chosen_by step chosen both.is_step one in
    let theirs = chosen_by more others both.more_is_step other in
    let more_raises : AreRaises step.protections [] more.people theirs.0 =
    subst (λ (protections : Protections). AreRaises protections [] more.people theirs.0) both.protections theirs.1 in
    let among : IsAmong person (best_with step.seats more.people theirs.0) =
    subst (λ (seats : ℕ). IsAmong person (best_with seats more.people theirs.0)) both.seats (subst (IsAmong person) theirs.2 there) in
    refused (subst (IsAmong person) (sym mine.2)
    (chosen_from_some step.protections step.seats step.people more.people mine.0 theirs.0 person both.more_is_step.people.distinct (part_of step more both) mine.1 more_raises here among))

pub no_fewer : NoFewer
no_fewer step more chosen others both one other =
    let mine = choice_size step chosen both.is_step one in
    let theirs = choice_size more others both.more_is_step other in
    let people = length-sublist step.people more.people (part_of step more both) in
    let seats = both.seats in
    omega arith

-- ---- some people left out

-- the choice from more people is that from some of them, if it is among those
choice_of_some : (step more : Step) (others : List Person) → HasMorePeople step more → IsStepChoice more others → IsSublist others step.people → IsStepChoice step others
choice_of_some step more others both choice sub =
    let wide = λ (set : List Person) (may : MayAdmit step set). let m : MayAdmit more set =
    record { people = sublist_again set step.people more.people may.people (part_of step more both); seats = omega (arith, may.seats, both.seats) } in m in
    let seats = choice.may.seats in
    let same = both.seats in
    record {
      may = record { people = sub; seats = omega arith };
      most = λ set m n may theirs ours. choice.most set m n (wide set may)
          (subst (λ (protections : Protections). IsHonoured protections set m) (sym both.protections) theirs)
          (subst (λ (protections : Protections). IsHonoured protections others n) (sym both.protections) ours);
      best = λ set m may theirs ours. subst (λ (list : ListId). IsNoWorse list others set) both.list (choice.best set m (wide set may)
          (subst (λ (protections : Protections). IsHonoured protections set m) (sym both.protections) theirs)
          (subst (λ (protections : Protections). IsHonoured protections others m) (sym both.protections) ours));
    }

pub leaving_out_refused : LeavingOutRefused
leaving_out_refused step more chosen others both one other refused =
    let distinct = both.more_is_step.people.distinct in
    let within = λ (person : Person) (there : IsAmong person others).
    let in_more : IsAmong person more.people = any_among (λ one. person ≡ one) others more.people (among_sublist others more.people other.may.people) there in
    let found : IsAmong person step.people = elim (decides_among more.people step.people person distinct (part_of step more both) in_more) [
      | inl here ↦ here
      | inr nowhere ↦ absurd (refused person in_more nowhere there)
    ] in
    found in
    let sub = sublist_of_some others step.people more.people distinct other.may.people (part_of step more both) within in
    one_choice step chosen others both.is_step one (choice_of_some step more others both other sub)

-- ---- more seats

pub more_seats : MoreSeats
more_seats step more chosen others person both one other here =
    let mine = chosen_by step chosen both.is_step one in
    let people : more.people ≡ step.people = both.people in
    let raises : AreRaises more.protections [] more.people mine.0 =
    subst (λ (protections : Protections). AreRaises protections [] more.people mine.0) (sym both.protections)
    (subst (λ (people : List Person). AreRaises step.protections [] people mine.0) (sym both.people) mine.1) in
    let theirs : others ≡ best_with more.seats more.people mine.0 =
    one_choice more others (best_with more.seats more.people mine.0) both.more_is_step other (best_with-is_choice more mine.0 both.more_is_step raises) in
    let seats = both.seats in
    let found : IsAmong person (kept step.people (filled_up mine.0 (more.seats - marked mine.0))) =
    kept_covered person step.people (filled_up mine.0 (step.seats - marked mine.0)) (filled_up mine.0 (more.seats - marked mine.0))
    (filled_up_more mine.0 (step.seats - marked mine.0) (more.seats - marked mine.0) (omega arith)) (subst (IsAmong person) mine.2 here) in
    subst (IsAmong person) (sym theirs) (subst (λ (people : List Person). IsAmong person (best_with more.seats people mine.0)) (sym people) found)
