-- Lists that show the choice of a programme break no clause.
use Rattle.std.proofs.Common.{◌≡◌, ◌≢◌, ◌≤◌, ◌+◌, ◌-◌, ℕ, zero, suc, Bool, true, false, List, [], ◌∷◌, Some, length, refl, sym, ap, ◌∙◌, subst, arith, if◌then◌else◌}
use Rattle.std.specs.Prelude.{min, slice_get, slice_index_or}
use Rattle.std.specs.List.{AllByRecursion, AllZip}
use Rattle.std.proofs.lemmas.List.{length-take}
use Rattle.std.proofs.lemmas.List.Sums.{sum-map}
use Rattle.office_base.proofs.Lists.{all_from, at_among}
use Rattle.office_base.proofs.StepNumbers.{kind_at}
use Rattle.office_base.specs.CategorySteps.{all_steps, category_steps, gives_up}
use Rattle.office_base.specs.Lists.{IsAmong, Pairwise}
use Rattle.office_base.specs.Merit.{in_merit}
use Rattle.office_base.specs.Person.{IsBetter}
use Rattle.office_base.specs.Placement.{IsHonoured, IsPlacement}
use Rattle.office_base.specs.StepChoice.{AreRanked}
use Rattle.office_base.specs.StepNumbers.{step_number}
use Rattle.office_base.specs.declared.category_steps.CategoryStep.{CategoryStep}
use Rattle.office_base.specs.declared.person.Person.{Person}
use Rattle.office_base.specs.declared.step.StepKind.{StepKind}
use Rattle.office_base.specs.declared.step.StepKind.TheVariants.{Dereserved}
use Rattle.placements.specs.Ranks.{AreAmong, AreDistinct, without as without_one}
use Rattle.placements.proofs.Greatest.{honoured-exists}
use Rattle.placements.proofs.Ranks.{among_sublist, one_person, ranked_sublist, widen}
use Rattle.placements.proofs.Without.{distinct_without, without_among}
use Rattle.seat_matrix.specs.Seats.{AreProgrammeSeats, seats_of}
use Rattle.seat_matrix.specs.Unfilled.{left_unfilled}
use Rattle.seat_matrix.specs.declared.seats.ProgrammeSeats.{ProgrammeSeats}
use Rattle.programme_lists.specs.Chosen.{AreApplicants, ShowsFrom}
use Rattle.programme_lists.specs.Listing.{ShowsStep}
use Rattle.programme_lists.specs.Programme.{Admissions, IsProgrammeChoice, admitted_by, people_of, unfilled}
use Rattle.programme_lists.specs.declared.programme.Programme.{Programme}
use Rattle.programme_lists.specs.declared.programme.StepList.{StepList}
use Rattle.programme_lists.proofs.Table.{row_facts}
use Rattle.merit_choice.specs.InMerit.{InMeritRanks}
use Rattle.merit_choice.specs.Laws.{ChoiceSize}
use Rattle.programme_lists.proofs.Parts.{people_part}
use Rattle.round_laws.proofs.Everybody.{own_filled}
use Rattle.office_moves.proofs.Sums.{rows_plus, rows_same}
use Rattle.axiom_laws.specs.Laws.{AxiomsAreTheRule, MeetsThemAtEachStep}
use Rattle.list_audit.specs.Clauses.{HasSeats, IsSound, audited, list_of_step, named_by, no_list, shared}
use Rattle.axiom_laws.specs.Exchanges.{Overtakes}

-- ---- the list of a step

shown_at : (P : StepKind → StepList → Type 0) (kinds : List StepKind) (lists : List StepList) → AllZip P kinds lists → (j : ℕ) (kind : StepKind) → slice_get kinds j ≡ Some kind
    → P kind (slice_index_or lists j no_list)
shown_at P [] lists zip j kind at = absurd (cc)
shown_at P (first ∷ kinds) [] zip j kind at = absurd zip
shown_at P (first ∷ kinds) (list ∷ lists) zip zero kind at = subst (λ k. P k list) (let same : first ≡ kind = cc in same) zip.0
shown_at P (first ∷ kinds) (list ∷ lists) zip (suc j) kind at = shown_at P kinds lists zip.1 j kind at

-- ---- a step

-- the seats that categories left empty and those that they filled are all their seats
shared_seats : (version : ℕ) (seats held : StepKind → ℕ) → ((row : CategoryStep) → IsAmong row category_steps → held row.step ≤ seats row.step) → left_unfilled version seats held + shared version held ≡ shared version seats
shared_seats version seats held few =
    let left : CategoryStep → ℕ = λ row. if gives_up row version then seats row.step - held row.step else 0 in
    let filled : CategoryStep → ℕ = λ row. if gives_up row version then held row.step else 0 in
    let all : CategoryStep → ℕ = λ row. if gives_up row version then seats row.step else 0 in
    let same = rows_same (λ row. left row + filled row) all category_steps (λ row there. by (gives_up row version) (seats row.step) (held row.step) (few row there)) in
    omega (arith, same, rows_plus left filled category_steps, sum-map left category_steps, sum-map filled category_steps, sum-map all category_steps)
  where
    by : (b : Bool) (s h : ℕ) → h ≤ s → (if b then s - h else 0) + (if b then h else 0) ≡ (if b then s else 0)
    by true s h few = omega (arith, few)
    by false s h few = refl

module _ (size : ChoiceSize) (ranks : InMeritRanks) (axioms : AxiomsAreTheRule) (version : ℕ) (seats : ProgrammeSeats) (people : List Person) (programme : Programme) (ok : AreProgrammeSeats seats)
    (may : AreApplicants seats.list people) (shows : ShowsFrom version seats people programme) where
  abbrev applicants : List Person
  applicants = in_merit seats.list people

  abbrev admissions : Admissions
  admissions = shows.0

  choice : IsProgrammeChoice version seats applicants admissions
  choice = shows.1

  meets : MeetsThemAtEachStep version seats applicants admissions
  meets = (axioms version seats people admissions ok may).0 shows.1

  pub its : (kind : StepKind) → ShowsStep version seats applicants admissions kind (list_of_step programme kind)
  its kind = shown_at (ShowsStep version seats applicants admissions) all_steps programme.steps shows.2 (step_number kind) kind (kind_at kind)

  -- the lists name the admissions
  named : named_by programme ≡ admissions
  named = λ i kind. (its kind).persons i

  abbrev people_at : StepKind → List Person
  people_at kind = people_of seats.list applicants admissions kind

  ranked : (kind : StepKind) → AreRanked seats.list (people_at kind)
  ranked kind = ranked_sublist seats.list (people_at kind) applicants (ranks seats.list people may).0 (people_part seats.list applicants admissions kind)

  same_people : (kind : StepKind) → people_of seats.list applicants (named_by programme) kind ≡ people_at kind
  same_people kind = ap (λ (a : Admissions). people_of seats.list applicants a kind) named

  has_seats : (kind : StepKind) → HasSeats version seats (named_by programme) kind (list_of_step programme kind).seats
  has_seats Dereserved = subst (λ (a : Admissions). HasSeats version seats a Dereserved (list_of_step programme Dereserved).seats) (sym named)
      (subst (λ (n : ℕ). HasSeats version seats admissions Dereserved n) (sym (its Dereserved).of_seats)
      (shared_seats version (λ kind. (seats_of seats kind).seats) (λ kind. length (admissions kind)) (λ row there. subst (λ n. length (admissions row.step) ≤ n) (own_filled version seats admissions row.step (row_facts row there).own) (meets.within row.step).seats)))
  has_seats kind = (its kind).of_seats

  -- as many are admitted as there are seats or people
  right_size : (kind : StepKind) → length (admitted_by admissions kind) ≡ min (list_of_step programme kind).seats (length (people_at kind))
  right_size kind = by kind
    where
      own : (kind : StepKind) (n : ℕ) → (list_of_step programme kind).seats ≡ n → length (admitted_by admissions kind) ≡ min n (length (people_at kind))
          → length (admitted_by admissions kind) ≡ min (list_of_step programme kind).seats (length (people_at kind))
      own kind n e h = h ∙ ap (λ (m : ℕ). min m (length (people_at kind))) (sym e)

      by : (kind : StepKind) → length (admitted_by admissions kind) ≡ min (list_of_step programme kind).seats (length (people_at kind))
      by Dereserved = own Dereserved (unfilled version seats admissions) (its Dereserved).of_seats
          (ap (λ (l : List Person). length l) choice.dereserved ∙ length-take (unfilled version seats admissions) (people_at Dereserved))
      by kind = own kind _ (its kind).of_seats (size _ (admissions kind) (record { list = ok.list; people = ranked kind; protections = (ok.steps kind).protections }) (choice.own kind refl))

  -- a person who is not admitted, in the place of one who is, stays distinct from the others
  distinct_with : (kind : StepKind) (person worse : Person) → IsAmong person (people_at kind) → (IsAmong person (admitted_by admissions kind) → ⊥)
      → AreDistinct (person ∷ without_one worse.id (admitted_by admissions kind))
  distinct_with kind person worse there out =
      let within = (meets.within kind).people in
      let among = among_sublist (admitted_by admissions kind) (people_at kind) within in
      let order = ranked_sublist seats.list (admitted_by admissions kind) (people_at kind) (ranked kind) within in (
        all_from (λ (other : Person). person.id ≢ other.id) (without_one worse.id (admitted_by admissions kind)) (λ i other at e.
            let here = widen other (without_one worse.id (admitted_by admissions kind)) (admitted_by admissions kind) (without_among worse.id (admitted_by admissions kind)) (at_among _ i other at) in
            let same = one_person (people_at kind) (ranked kind).distinct person other there (widen other (admitted_by admissions kind) (people_at kind) among here) e in
            out (subst (λ (p : Person). IsAmong p (admitted_by admissions kind)) (sym same) here)),
        distinct_without worse.id (admitted_by admissions kind) order.distinct,
      )

  nobody : (kind : StepKind) (person worse : Person) → Overtakes seats.list (seats_of seats kind).protections (people_at kind) (admitted_by admissions kind) person worse → ⊥
  nobody kind person worse over =
      let within = (meets.within kind).people in
      let order = ranked_sublist seats.list (admitted_by admissions kind) (people_at kind) (ranked kind) within in
      let m = honoured-exists (seats_of seats kind).protections (person ∷ without_one worse.id (admitted_by admissions kind)) (distinct_with kind person worse over.stands over.unlisted) in
      let n = honoured-exists (seats_of seats kind).protections (admitted_by admissions kind) order.distinct in
      let less = (meets.axioms kind).no_justified_envy person worse m.0 n.0 over.stands over.unlisted over.there over.better m.1 n.1 in
      let more = over.as_much n.0 m.0 n.1 m.1 in
      omega (arith, less, more)

  -- No clause is broken in any step.
  pub sound_step : (kind : StepKind) → IsSound (audited version seats people programme kind)
  sound_step kind =
      let show = its kind in
      let persons = show.persons in
      let within = (meets.within kind).people in
      let order = ranked_sublist seats.list (admitted_by admissions kind) (people_at kind) (ranked kind) within in
      let pairs = (list_of_step programme kind).cert.pairs in
      let honoured : IsHonoured (seats_of seats kind).protections (admitted_by admissions kind) (length pairs) =
      record { reached = (pairs, show.certificate.placement, refl); most = show.certificate.longest } in
      let all = honoured-exists (seats_of seats kind).protections (people_at kind) (ranked kind).distinct in
      let as_all : all.0 ≡ length pairs = (meets.axioms kind).as_all all.0 (length pairs) all.1 honoured in
      let those : (list_of_step programme kind).admitted ≡ admitted_by admissions kind = persons in
      let whole = subst (λ (l : List Person). IsHonoured (seats_of seats kind).protections l (length pairs)) (sym (same_people kind))
      (subst (λ (n : ℕ). IsHonoured (seats_of seats kind).protections (people_at kind) n) as_all all.1) in
      record {
        numbers = record { seats = has_seats kind; candidates = show.candidates ∙ ap (λ (l : List Person). length l) (sym (same_people kind)) };
        candidates = record {
          people = subst (λ (l : List Person). AllByRecursion (λ (person : Person). IsAmong person (people_of seats.list applicants (named_by programme) kind)) l) (sym those)
              (subst (λ (l : List Person). AreAmong (admitted_by admissions kind) l) (sym (same_people kind)) (among_sublist (admitted_by admissions kind) (people_at kind) within));
          in_order = subst (λ (l : List Person). Pairwise (IsBetter seats.list) l) (sym those) order.in_order;
        };
        size = ap (λ (l : List Person). length l) those ∙ (right_size kind ∙ ap (λ (l : List Person). min (list_of_step programme kind).seats (length l)) (sym (same_people kind)));
        certified = record {
          placement = subst (λ (l : List Person). IsPlacement (seats_of seats kind).protections l pairs) (sym those) show.certificate.placement;
          most = whole;
        };
        best = λ person over.
            nobody kind person over.0
            (subst (λ (l : List Person). Overtakes seats.list (seats_of seats kind).protections l (admitted_by admissions kind) person over.0) (same_people kind)
            (subst (λ (l : List Person). Overtakes seats.list (seats_of seats kind).protections (people_of seats.list applicants (named_by programme) kind) l person over.0) those over.1));
      }

  -- No list names a person twice.
  pub named_once : AllByRecursion (λ (list : StepList). Pairwise (λ (a b : Person). a.id ≢ b.id) list.admitted) programme.steps
  named_once = each_list all_steps programme.steps shows.2
    where
      each_list : (kinds : List StepKind) (lists : List StepList) → AllZip (ShowsStep version seats applicants admissions) kinds lists
          → AllByRecursion (λ (list : StepList). Pairwise (λ (a b : Person). a.id ≢ b.id) list.admitted) lists
      each_list [] [] zip = tt
      each_list [] (list ∷ lists) zip = absurd zip
      each_list (kind ∷ kinds) [] zip = absurd zip
      each_list (kind ∷ kinds) (list ∷ lists) zip = (
        subst (λ (l : List Person). Pairwise (λ (a b : Person). a.id ≢ b.id) l) (sym zip.0.persons)
            (ranked_sublist seats.list (admitted_by admissions kind) (people_at kind) (ranked kind) (meets.within kind).people).distinct,
        each_list kinds lists zip.1,
      )
