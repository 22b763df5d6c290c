-- Those who hold seats of a step, counted, and whom the steps of a programme admit.
use Rattle.std.proofs.Common.{◌≡◌, ◌≤◌, ◌-◌, ℕ, suc, Bool, true, false, List, [], ◌∷◌, Option, Some, None, length, arith, refl, sym, ap, subst, cond, ◌==◌, if◌then◌else◌}
use Rattle.std.specs.List.{filter}
use Rattle.std.proofs.lemmas.Bool.{and_parts, eqb-true}
use Rattle.std.proofs.lemmas.List.{length-take}
use Rattle.std.proofs.lemmas.List.Sums.{sum-map}
use Rattle.office_base.proofs.SeatKinds.{one_seat_kind}
use Rattle.office_base.specs.CategorySteps.{category_steps, gives_up}
use Rattle.office_base.specs.Lists.{IsSublist}
use Rattle.office_base.specs.Merit.{in_merit}
use Rattle.office_base.specs.SeatKinds.{seat_kind_number}
use Rattle.office_base.specs.StepNumbers.{step_number}
use Rattle.office_base.specs.declared.seat.Seat.{Seat}
use Rattle.office_base.specs.declared.category_steps.CategoryStep.{CategoryStep}
use Rattle.office_base.specs.declared.person.Person.{Person}
use Rattle.office_base.specs.declared.seat.SeatKind.TheVariants.{Under}
use Rattle.office_base.specs.declared.step.StepKind.{StepKind}
use Rattle.office_base.specs.declared.step.StepKind.TheVariants.{Dereserved}
use Rattle.placements.proofs.Sublists.{IsSublist-take, sublist_again}
use Rattle.allocations.specs.Market.{Seeker, is_of, seat_at, those}
use Rattle.allocations.proofs.Places.{seat_same}
use Rattle.programme_lists.specs.Chosen.{ChoosesFrom}
use Rattle.programme_lists.specs.Programme.{Admissions, admitted_by, people_of, unfilled}
use Rattle.seat_matrix.specs.Matrix.{SeatTable, list_in, seats_in}
use Rattle.seat_matrix.specs.Unfilled.{left_unfilled}
use Rattle.programme_lists.proofs.Parts.{people_part}
use Rattle.office_moves.proofs.Sums.{rows_less}
use Rattle.published_rounds.specs.Published.{is_seat_under}

-- ---- counting

length_if : {X : Type 0} (b : Bool) (p : Person) (x : X) (ps : List Person) (xs : List X) → length ps ≡ length xs → length (if b then p ∷ ps else ps) ≡ length (cond b (x ∷ xs) xs)
length_if true p x ps xs same = ap suc same
length_if false p x ps xs same = same

-- those who hold seats that pass a test are as many as such seats
pub as_many : (f : Option Seat → Bool) (seekers : List Seeker) (seats : List (Option Seat)) → length seats ≡ length seekers → length (those (λ s seat. f seat) seekers seats) ≡ length (filter f seats)
as_many f [] [] full = refl
as_many f (s ∷ seekers) (seat ∷ seats) full = length_if (f seat) s.person seat _ _ (as_many f seekers seats (omega (arith, full)))
as_many f seekers seats full = absurd (omega (arith, full))

-- a seat of a step of a programme is one of it
pub under_is : (prog : ℕ) (step : StepKind) (seat : Option Seat) → is_seat_under prog step seat ≡ true → seat ≡ Some (seat_at prog (Under step))
under_is prog step None e = absurd (cc)
under_is prog step (Some seat) e =
    let parts = and_parts (seat.prog.0 == prog) (seat_kind_number seat.step == step_number step) e in
    ap Some (seat_same seat (seat_at prog (Under step)) (eqb-true _ _ parts.0) (one_seat_kind seat.step (Under step) (eqb-true _ _ parts.1)))

pub under_of : (prog : ℕ) (step : StepKind) (seat : Option Seat) → is_seat_under prog step seat ≡ true → is_of prog seat ≡ true
under_of prog step None e = absurd (cc)
under_of prog step (Some seat) e = (and_parts (seat.prog.0 == prog) (seat_kind_number seat.step == step_number step) e).0

-- ---- whom a programme admits

pub last_seats : (version : ℕ) (table : SeatTable) (prog : ℕ) (people : List Person) (admissions : Admissions) → ChoosesFrom version (seats_in table prog) people admissions
    → length (admissions Dereserved) ≤ unfilled version (seats_in table prog) admissions
last_seats version table prog people admissions choice =
    let same = ap (λ (l : List Person). length l) choice.dereserved in
    let few = length-take (unfilled version (seats_in table prog) admissions) (people_of (list_in table prog) (in_merit (list_in table prog) people) admissions Dereserved) in
    omega (arith, same, few)

-- each step admits some of the applicants, by merit
pub in_order : (version : ℕ) (table : SeatTable) (prog : ℕ) (people : List Person) (admissions : Admissions) (step : StepKind) → ChoosesFrom version (seats_in table prog) people admissions
    → IsSublist (admitted_by admissions step) (in_merit (list_in table prog) people)
in_order version table prog people admissions Dereserved choice =
    subst (λ l. IsSublist l (in_merit (list_in table prog) people)) (sym choice.dereserved)
    (sublist_again _ _ _ (IsSublist-take (unfilled version (seats_in table prog) admissions) _) (people_part (list_in table prog) (in_merit (list_in table prog) people) admissions Dereserved))
in_order version table prog people admissions kind choice =
    sublist_again _ _ _ (choice.own kind refl).may.people (people_part (list_in table prog) (in_merit (list_in table prog) people) admissions kind)

-- fewer admitted leave no fewer empty
pub left_falls : (version : ℕ) (seats held more : StepKind → ℕ) → ((kind : StepKind) → held kind ≤ more kind) → left_unfilled version seats more ≤ left_unfilled version seats held
left_falls version seats held more less =
    let first : CategoryStep → ℕ = λ row. if gives_up row version then seats row.step - more row.step else 0 in
    let second : CategoryStep → ℕ = λ row. if gives_up row version then seats row.step - held row.step else 0 in
    let falls = rows_less first second category_steps (λ row there. by (gives_up row version) (seats row.step) (held row.step) (more row.step) (less row.step)) in
    omega (arith, sum-map first category_steps, sum-map second category_steps, falls)
  where
    by : (b : Bool) (s h m : ℕ) → h ≤ m → (if b then s - m else 0) ≤ (if b then s - h else 0)
    by true s h m less = omega (arith, less)
    by false s h m less = omega arith
