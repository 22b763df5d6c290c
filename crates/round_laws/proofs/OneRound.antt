-- A round is one: so are its seats, and the lists that a programme shows of one choice.
use Rattle.std.proofs.Common.{◌≡◌, ◌<◌, ℕ, suc, List, [], ◌∷◌, Some, length, arith, refl, sym, ap, ◌∙◌, subst}
use Rattle.std.specs.Prelude.{slice_get}
use Rattle.std.specs.List.{AllZip}
use Rattle.std.proofs.lemmas.Option.{slice_get_within}
use Rattle.office_base.specs.CategorySteps.{all_steps}
use Rattle.office_base.specs.Merit.{in_merit}
use Rattle.office_base.specs.declared.person.Person.{Person}
use Rattle.office_base.specs.declared.step.Protections.{Protections}
use Rattle.office_base.specs.declared.step.StepKind.{StepKind}
use Rattle.placements.specs.Ranks.{AreDistinct}
use Rattle.slot_cert.specs.Laws.{OneCertificate}
use Rattle.seat_matrix.specs.Matrix.{seats_in}
use Rattle.seat_matrix.specs.Seats.{AreProgrammeSeats, seats_of}
use Rattle.seat_matrix.specs.declared.seats.ProgrammeSeats.{ProgrammeSeats}
use Rattle.programme_lists.specs.Chosen.{AreApplicants, ShowsFrom}
use Rattle.programme_lists.specs.Listing.{Shows, ShowsStep, ShowsSteps, seats_filled}
use Rattle.programme_lists.specs.Programme.{admitted_by, people_of}
use Rattle.programme_lists.specs.declared.programme.Programme.{Programme}
use Rattle.programme_lists.specs.declared.programme.StepList.{StepList}
use Rattle.open_then_category.specs.Laws.{AdmittedOnce, OneProgrammeChoice}
use Rattle.allocations.specs.Market.{applicants}
use Rattle.allocations.proofs.Claims.{applicants_may, one_best}
use Rattle.rounds.specs.Rule.{MayApplyIn, ProgrammesChooseWell, rule_of, seekers_of}
use Rattle.rounds.proofs.Entrants.{market}
use Rattle.round_laws.specs.Laws.{OneRound}
use Rattle.round_laws.proofs.Everybody.{step_distinct}

-- the laws on which it rests
pub record ChooseOnce : Type 0 where
  pub well : ProgrammesChooseWell
  pub one : OneProgrammeChoice
  pub once : AdmittedOnce
  pub certificate : OneCertificate

-- ---- lists

one_along : {X Y : Type 0} (R : X → Y → Type 0) → ((x : X) (y z : Y) → R x y → R x z → y ≡ z) → (xs : List X) (ys zs : List Y) → AllZip R xs ys → AllZip R xs zs → ys ≡ zs
one_along R one [] [] [] first second = refl
one_along R one [] [] (z ∷ zs) first second = absurd second
one_along R one [] (y ∷ ys) zs first second = absurd first
one_along R one (x ∷ xs) [] zs first second = absurd first
one_along R one (x ∷ xs) (y ∷ ys) [] first second = absurd second
one_along R one (x ∷ xs) (y ∷ ys) (z ∷ zs) first second =
    ap (λ h. h ∷ ys) (one x y z first.0 second.0) ∙ ap (λ rest. z ∷ rest) (one_along R one xs ys zs first.1 second.1)

pub same_places : {X : Type 0} (xs ys : List X) → length xs ≡ length ys → ((i : ℕ) (x y : X) → slice_get xs i ≡ Some x → slice_get ys i ≡ Some y → x ≡ y) → xs ≡ ys
same_places [] [] full same = refl
same_places [] (y ∷ ys) full same = absurd (omega (arith, full))
same_places (x ∷ xs) [] full same = absurd (omega (arith, full))
same_places (x ∷ xs) (y ∷ ys) full same =
    ap (λ h. h ∷ xs) (same 0 x y refl refl) ∙ ap (λ rest. y ∷ rest) (same_places xs ys (omega (arith, full)) (λ i. same (suc i)))

-- ---- programmes

one_list : (kind : StepKind) (seats : ℕ) (protections : Protections) (people admitted : List Person) (a b : StepList) → OneCertificate → AreDistinct admitted
    → Shows kind seats protections people admitted a → Shows kind seats protections people admitted b → a ≡ b
one_list kind seats protections people admitted a b certificate distinct first second =
    let kinds : a.kind ≡ b.kind = first.of_kind ∙ sym second.of_kind in
    let counts : a.seats ≡ b.seats = first.of_seats ∙ sym second.of_seats in
    let candidates : a.candidates ≡ b.candidates = first.candidates ∙ sym second.candidates in
    let persons : a.admitted ≡ b.admitted = first.persons ∙ sym second.persons in
    let pairs : a.cert.pairs ≡ b.cert.pairs = certificate protections admitted a.cert.pairs b.cert.pairs distinct first.certificate second.certificate in
    λ i. record { kind = kinds i; seats = counts i; candidates = candidates i; admitted = persons i; cert = record { pairs = pairs i } }

one_programme : (version : ℕ) (seats : ProgrammeSeats) (people : List Person) (a b : Programme) → ChooseOnce → AreProgrammeSeats seats → AreApplicants seats.list people
    → ShowsFrom version seats people a → ShowsFrom version seats people b → a ≡ b
one_programme version seats people a b laws sound may first second =
    let same : second.0 ≡ first.0 = laws.one version seats people second.0 first.0 sound may second.1 first.1 in
    let distinct = (laws.once version seats people first.0 sound may first.1).0 in
    let again = subst (λ admissions. ShowsSteps version seats (in_merit seats.list people) admissions b) same second.2 in
    let steps : a.steps ≡ b.steps = one_along (ShowsStep version seats (in_merit seats.list people) first.0)
    (λ kind x y. one_list kind (seats_filled version seats first.0 kind) (seats_of seats kind).protections (people_of seats.list (in_merit seats.list people) first.0 kind)
    (admitted_by first.0 kind) x y laws.certificate (step_distinct first.0 kind distinct)) all_steps a.steps b.steps first.2 again in
    λ i. record { steps = steps i }

-- ---- rounds

pub one_round : ChooseOnce → OneRound
one_round laws version number guaranteed table people lists seeks a b seats entrants first second =
    let rule = rule_of version guaranteed table in
    let seekers = seekers_of table people lists seeks in
    let may_seek = market table people lists seeks seats entrants in
    let well = laws.well version guaranteed table seats in
    let numbers : a.number ≡ b.number = first.number ∙ sym second.number in
    let sought : a.seeks ≡ b.seeks = first.sought ∙ sym second.sought in
    let seated : a.seats ≡ b.seats = one_best rule (MayApplyIn table) (length table.programmes) seekers a.seats b.seats may_seek well first.best second.best in
    let programmes : a.programmes ≡ b.programmes =
    same_places a.programmes b.programmes (first.count ∙ sym second.count) (λ p x y at at'.
    let below = slice_get_within a.programmes p x at in
    let less : p < length table.programmes = omega (arith, below, first.count) in
    let may = applicants_may rule (MayApplyIn table) (length table.programmes) p seekers a.seats may_seek well less first.best.fair.allocation.full in
    let shown : ShowsFrom version (seats_in table p) (applicants p seekers a.seats) y =
    subst (λ s. ShowsFrom version (seats_in table p) (applicants p seekers s) y) (sym seated) (second.shown p y at') in
    one_programme version (seats_in table p) (applicants p seekers a.seats) x y laws (seats.sound p less) may (first.shown p x at) shown) in
    λ i. record { number = numbers i; seeks = sought i; seats = seated i; programmes = programmes i }
