-- From more people a programme admits no fewer, by the lists of those who are admitted.
use Rattle.std.proofs.Common.{◌≡◌, ◌≢◌, ◌≤◌, ℕ, List, [], ◌∷◌, map, length, refl, sym, arith, length-append}
use Rattle.std.specs.Prelude.{sum}
use Rattle.std.specs.List.{AllByRecursion}
use Rattle.office_base.specs.CategorySteps.{all_steps}
use Rattle.office_base.specs.declared.person.Person.{Person}
use Rattle.office_base.specs.declared.step.StepKind.{StepKind}
use Rattle.placements.specs.Ranks.{AreAmong, AreDistinct, without}
use Rattle.placements.proofs.Ranks.{among_sublist, any_at, are_among, pairwise_sublist, widen}
use Rattle.placements.proofs.Without.{among_without, length_without}
use Rattle.allocations.specs.Rule.{AreAdmitted}
use Rattle.seat_matrix.specs.Seats.{AreProgrammeSeats}
use Rattle.seat_matrix.specs.declared.seats.ProgrammeSeats.{ProgrammeSeats}
use Rattle.programme_lists.specs.Chosen.{AdmitsUnder, AreApplicants, ChoosesFrom, all_by, everybody}
use Rattle.programme_lists.specs.Programme.{Admissions, admitted_by}
use Rattle.open_then_category.specs.Laws.{NoFewerFromMore, admitted_in_all}
use Rattle.open_then_category.specs.StepLaws.{AreLawful}
use Rattle.open_then_category.proofs.Once.{from_everybody, in_everybody}
use Rattle.open_then_category.proofs.Rows.{sum-cons}
use Rattle.open_then_category.proofs.SetLaws.{admitted_by_choice, admitted_once, chosen_well, no_fewer_admitted, programme_choice_exists}

-- distinct persons who are all among others are no more than those
no_more : (some all : List Person) → AreDistinct some → AreAmong some all → length some ≤ length all
no_more [] all distinct among = omega arith
no_more (person ∷ some) all distinct among =
    let size = length_without person.id all (any_at (λ (member : Person). member.id ≡ person.id) person all among.0 refl) in
    let rest = no_more some (without person.id all) distinct.1 (left some among.1 distinct.0) in
    omega (arith, size, rest)
  where
    left : (others : List Person) → AreAmong others all → AllByRecursion (λ other. person.id ≢ other.id) others → AreAmong others (without person.id all)
    left [] among apart = tt
    left (other ∷ others) among apart = (among_without person.id other all among.0 (λ e. apart.0 (sym e)), left others among.1 apart.1)

length_everybody : (admissions : Admissions) → length (everybody admissions) ≡ admitted_in_all admissions
length_everybody admissions = by all_steps
  where
    by : (kinds : List StepKind) → length (all_by kinds admissions) ≡ sum (map (λ kind. length (admissions kind)) kinds)
    by [] = refl
    by (kind ∷ kinds) =
        let later = by kinds in
        let size = length-append (admissions kind) (all_by kinds admissions) in
        let parts = sum-cons (length (admissions kind)) (map (λ other. length (admissions other)) kinds) in
        omega (arith, later, size, parts)

module _ (laws : AreLawful) (version : ℕ) (seats : ProgrammeSeats) (sound : AreProgrammeSeats seats) where
  -- those whom the programme admits are everybody whom its choice admits
  as_many : (p : ℕ) (people admitted : List Person) (admissions : Admissions) → AreApplicants seats.list people → ChoosesFrom version seats people admissions
      → AreAdmitted (λ q. AdmitsUnder version seats) p people admitted → length admitted ≡ admitted_in_all admissions
  as_many p people admitted admissions may choice are =
      let once = admitted_once laws version seats people admissions sound may choice in
      let distinct : AreDistinct admitted = pairwise_sublist _ admitted people are.part may.distinct in
      let there = among_sublist admitted people are.part in
      let first = no_more admitted (everybody admissions) distinct (are_among admitted (everybody admissions) (λ person here.
      let admits = (are.each person (widen person admitted people there here)).0 here in
      widen person (admitted_by admissions admits.0) (everybody admissions) (in_everybody admissions admits.0)
      (admitted_by_choice laws version seats people admissions person admits.0 sound may choice admits.1))) in
      let second = no_more (everybody admissions) admitted once.0 (are_among (everybody admissions) admitted (λ person here.
      let found = from_everybody admissions person here in
      (are.each person (widen person (everybody admissions) people once.1 here)).1 (found.0, (admissions, choice, found.1)))) in
      let size = length_everybody admissions in
      omega (arith, first, second, size)

pub no_fewer_from_more : AreLawful → NoFewerFromMore
no_fewer_from_more laws version seats sound = λ p some all before after may sub first second.
    let few = (chosen_well laws version seats sound).part p some all may sub in
    let choice = programme_choice_exists laws version (seats p) some (sound p) few in
    let whole = programme_choice_exists laws version (seats p) all (sound p) may in
    let less = no_fewer_admitted laws version (seats p) some all choice.0 whole.0
    (record { are_seats = sound p; distinct = few.distinct; may = may; part = among_sublist some all sub; choice = choice.1; more_choice = whole.1 }) in
    let one = as_many laws version (seats p) (sound p) p some before choice.0 few choice.1 (record { part = first.part; each = first.each }) in
    let two = as_many laws version (seats p) (sound p) p all after whole.0 may whole.1 (record { part = second.part; each = second.each }) in
    omega (arith, less, one, two)
