-- In version 2 a programme admits whom it admits in another version, so it hurts nobody.
use Rattle.std.proofs.Common.{◌≡◌, ◌≤◌, ◌-◌, inl, inr, ℕ, zero, suc, Bool, true, false, List, [], ◌∷◌, Some, length, take, arith, refl, sym, ap, ◌∙◌, subst, not, ◌==◌, ◌||◌, if◌then◌else◌}
use Rattle.std.specs.List.{list_all}
use Rattle.std.specs.Option.{option_and_then}
use Rattle.std.proofs.lemmas.Bool.{and_parts, false≢true}
use Rattle.std.proofs.lemmas.List.Sums.{sum-map}
use Rattle.office_base.specs.CategorySteps.{category_steps, gives_away, gives_up}
use Rattle.office_base.specs.Lists.{IsAmong}
use Rattle.office_base.specs.StepChoice.{IsStepChoice}
use Rattle.office_base.specs.declared.category_steps.CategoryStep.{CategoryStep}
use Rattle.office_base.specs.declared.category_steps.GivesUp.{GivesUp}
use Rattle.office_base.specs.declared.category_steps.GivesUp.TheVariants.{Never, InVersion, Always}
use Rattle.office_base.specs.declared.person.Person.{Person}
use Rattle.office_base.specs.declared.seat.SeatKind.TheVariants.{Kept, Under}
use Rattle.office_base.specs.declared.step.StepKind.{StepKind}
use Rattle.office_base.specs.declared.step.StepKind.TheVariants.{Dereserved}
use Rattle.office_base.specs.Merit.{in_merit}
use Rattle.office_base.proofs.People.{at_person-get}
use Rattle.allocations.specs.Compared.{SomeLeave}
use Rattle.allocations.specs.Market.{Seeker, rank_of}
use Rattle.allocations.specs.Rule.{Grows}
use Rattle.allocations.proofs.Eased.{hurts_nobody}
use Rattle.allocations.proofs.Those.{value_at}
use Rattle.programme_lists.specs.Programme.{Admissions, IsProgrammeChoice, people_of, step_of, unfilled}
use Rattle.seat_matrix.specs.Matrix.{SeatTable, seats_in}
use Rattle.seat_matrix.specs.Seats.{is_dereserved, seats_of}
use Rattle.seat_matrix.specs.Unfilled.{left_unfilled}
use Rattle.seat_matrix.specs.declared.seats.ProgrammeSeats.{ProgrammeSeats}
use Rattle.kept_seats.proofs.Orders.{nobody_leaves}
use Rattle.rounds.specs.Rule.{MayApplyIn, ProgrammesChooseWell, nobody, rule_of}
use Rattle.office_moves.specs.Facts.{SeasonFacts}
use Rattle.office_moves.specs.State.{seat_of}
use Rattle.office_moves.proofs.Sums.{rows_less}
use Rattle.special_round.specs.Remaining.{ever_given, may_be_taken}
use Rattle.published_rounds.specs.Published.{market_then, matrix_then, wanted_then}
use Rattle.published_rounds.proofs.Places.{AreOrderly, order_of, in_round, place_among}
use Rattle.published_rounds.proofs.FairThen.{fair_over}
use Rattle.published_rounds.specs.RuleLaws.{VersionTwoHurtsNobody, VersionTwoWouldHurtNobody}

-- ---- one programme

-- one of the first few is one of the first more
take_more : (n m : ℕ) (people : List Person) (x : Person) → n ≤ m → IsAmong x (take n people) → IsAmong x (take m people)
take_more (suc n) zero people x within here = absurd (omega (arith, within))
take_more (suc n) (suc m) (y ∷ people) x within here = elim here [ inl is ↦ inl is | inr later ↦ inr (take_more n m people x (omega (arith, within)) later) ]
take_more n m people x within here = absurd here

-- a category that gives its empty seats away in some version does so in version 2
abbrev as_in_two : CategoryStep → Bool
as_in_two row = not (may_be_taken row) || gives_up row 2

all_pass : (rows : List CategoryStep) → list_all as_in_two rows ≡ true → (row : CategoryStep) → IsAmong row rows → as_in_two row ≡ true
all_pass [] e row there = absurd there
all_pass (first ∷ rows) e row there =
    let parts = and_parts (as_in_two first) (list_all as_in_two rows) e in
    elim there [ inl same ↦ subst (λ r. as_in_two r ≡ true) (sym same) parts.0 | inr later ↦ all_pass rows parts.1 row later ]

more_of : (version n : ℕ) (given : GivesUp) → (not (ever_given given) || gives_away given 2) ≡ true → (if gives_away given version then n else 0) ≤ (if gives_away given 2 then n else 0)
more_of version n Never e = omega arith
more_of version n (InVersion only) e = subst (λ b. (if version == only then n else 0) ≤ (if b then n else 0)) (sym e) (most (version == only))
  where
    most : (b : Bool) → (if b then n else 0) ≤ n
    most true = omega arith
    most false = omega arith
more_of version n Always e = omega arith

-- version 2 leaves no fewer seats to the de-reserved step
left_more : (version : ℕ) (seats held : StepKind → ℕ) → left_unfilled version seats held ≤ left_unfilled 2 seats held
left_more version seats held =
    let first : CategoryStep → ℕ = λ row. if gives_up row version then seats row.step - held row.step else 0 in
    let second : CategoryStep → ℕ = λ row. if gives_up row 2 then seats row.step - held row.step else 0 in
    let less = rows_less first second category_steps (λ row there. more_of version (seats row.step - held row.step) row.gives_up (all_pass category_steps refl row there)) in
    omega (arith, sum-map first category_steps, sum-map second category_steps, less)

module _ (version : ℕ) (seats : ProgrammeSeats) (applicants : List Person) (admissions : Admissions) (choice : IsProgrammeChoice version seats applicants admissions) where
  -- the same steps, and more seats for the last
  abbrev wider : StepKind → List Person
  wider Dereserved = take (unfilled 2 seats admissions) (people_of seats.list applicants admissions Dereserved)
  wider kind = admissions kind

  still_chosen : (kind : StepKind) → is_dereserved kind ≡ false → IsStepChoice (step_of seats applicants wider kind) (wider kind)
  still_chosen Dereserved own = absurd (cc)
  still_chosen kind own = choice.own kind own

  wider_choice : IsProgrammeChoice 2 seats applicants wider
  wider_choice = record { own = still_chosen; dereserved = refl }

  still_admitted : (x : Person) (kind : StepKind) → IsAmong x (admissions kind) → IsAmong x (wider kind)
  still_admitted x Dereserved here =
      take_more (unfilled version seats admissions) (unfilled 2 seats admissions) (people_of seats.list applicants admissions Dereserved) x
      (left_more version (λ kind. (seats_of seats kind).seats) (λ kind. length (admissions kind))) (subst (λ l. IsAmong x l) choice.dereserved here)
  still_admitted x kind here = here

admits_still : (version : ℕ) (table : SeatTable) → Grows (rule_of version nobody table) (rule_of 2 nobody table) (MayApplyIn table)
admits_still version table p people x may (Kept, keeps) = absurd (false≢true keeps.guaranteed_there)
admits_still version table p people x may (Under kind, a) =
    let seats = seats_in table p in
    let applicants = in_merit seats.list people in
    (Under kind, (wider version seats applicants a.0 a.1, wider_choice version seats applicants a.0 a.1, still_admitted version seats applicants a.0 a.1 x kind a.2))

-- ---- rounds

pub version_two_hurts_nobody : ProgrammesChooseWell → VersionTwoHurtsNobody
version_two_hurts_nobody well version table seekers seats others i s seat other ok here fair best there has has' =
    hurts_nobody (rule_of version nobody table) (rule_of 2 nobody table) (MayApplyIn table) (well version nobody table ok) (well 2 nobody table ok) (admits_still version table) (length table.programmes) i
    seekers seekers seats others s s seat other here (nobody_leaves seekers) fair best there there refl has has'

pub version_two_would_hurt_nobody : AreOrderly → VersionTwoHurtsNobody → (facts : SeasonFacts) → VersionTwoWouldHurtNobody facts
version_two_would_hurt_nobody orderly hurts facts entries state window number round other person published again among =
    let order = order_of orderly facts entries state window round published in
    let table = matrix_then facts state window in
    let seekers = market_then facts state window in
    let over = fair_over facts state window round published.sound order published.there in
    let at = place_among facts.people person among in
    let mine = in_round facts state window at.0 round person published.sound order published.there at.1 in
    let x = value_at seekers other.seats at.0 mine.s again.best.fair.allocation.full mine.there in
    let his : seat_of facts (Some other) person.id.0 ≡ x.0 = ap (λ o. option_and_then (λ s. s) o) (at_person-get facts.people other.seats at.0 person published.sound.ranks.rising at.1 ∙ x.1) in
    let result : rank_of mine.s.list x.0 ≤ rank_of mine.s.list mine.seat =
    hurts facts.version table seekers round.seats other.seats at.0 mine.s mine.seat x.0 over.are_seats over.market over.fair again.best mine.there mine.has x.1 in
    subst (λ o. rank_of (wanted_then facts state window person.id.0) o ≤ rank_of (wanted_then facts state window person.id.0) (seat_of facts (Some round) person.id.0)) (sym his)
    (subst (λ o. rank_of (wanted_then facts state window person.id.0) x.0 ≤ rank_of (wanted_then facts state window person.id.0) o) (sym mine.seat_is)
    (subst (λ l. rank_of l x.0 ≤ rank_of l mine.seat) mine.list_is result))
