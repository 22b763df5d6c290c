-- What holds of the steps of a programme, row by row of their table.
use Rattle.std.proofs.Common.{◌≡◌, ◌≢◌, ◌⊎◌, false, List, [], ◌∷◌, Some, inl, inr, refl, sym, subst}
use Rattle.std.specs.List.{AllByRecursion, filter}
use Rattle.office_base.specs.CategorySteps.{category_steps, row_of}
use Rattle.office_base.specs.Lists.{IsAmong, Pairwise}
use Rattle.office_base.specs.declared.category_steps.CategoryStep.{CategoryStep}
use Rattle.office_base.specs.declared.person.Category.TheVariants.{Gen}
use Rattle.office_base.specs.declared.person.ListId.{ListId}
use Rattle.office_base.specs.declared.person.Person.{Person}
use Rattle.office_base.specs.declared.step.StepKind.{StepKind}
use Rattle.office_base.specs.declared.step.StepKind.TheVariants.{Open, Ews as EwsStep, Obc as ObcStep, Sc as ScStep, St as StStep, Dereserved}
use Rattle.seat_matrix.specs.Seats.{is_dereserved}
use Rattle.programme_lists.specs.Programme.{Admissions, is_of, people_of, without}

-- the row is one of the table
abbrev pub IsRow : CategoryStep → Type 0
IsRow row = IsAmong row category_steps

-- what holds of each row of a list holds of one of them
pub of_row : (P : CategoryStep → Type 0) (rows : List CategoryStep) (row : CategoryStep) → AllByRecursion P rows → IsAmong row rows → P row
of_row P [] row all here = absurd here
of_row P (one ∷ rows) row all here = elim here [ inl same ↦ subst P (sym same) all.0 | inr later ↦ of_row P rows row all.1 later ]

-- What holds of each row.
pub record AreRowFacts (row : CategoryStep) : Type 0 where
  pub found : row_of row.step ≡ Some row
  pub own : is_dereserved row.step ≡ false
  pub not_open : row.step ≢ Open
  pub not_general : row.category ≢ Gen
  pub people : (list : ListId) (applicants : List Person) (admissions : Admissions) → people_of list applicants admissions row.step ≡ filter (is_of row.category) (without applicants (admissions Open))

pub row_facts : (row : CategoryStep) → IsRow row → AreRowFacts row
row_facts row here =
    of_row AreRowFacts category_steps row (
      record { found = refl; own = refl; not_open = λ e. cc e; not_general = λ e. cc e; people = λ list applicants admissions. refl },
      (
        record { found = refl; own = refl; not_open = λ e. cc e; not_general = λ e. cc e; people = λ list applicants admissions. refl },
        (
          record { found = refl; own = refl; not_open = λ e. cc e; not_general = λ e. cc e; people = λ list applicants admissions. refl },
          (
            record { found = refl; own = refl; not_open = λ e. cc e; not_general = λ e. cc e; people = λ list applicants admissions. refl },
            tt,
          ),
        ),
      ),
    ) here

-- two rows have different categories and different steps
pub rows_apart : Pairwise (λ one other. (one.category ≢ other.category) × (one.step ≢ other.step)) category_steps
rows_apart = (
  ((λ e. cc e, λ e. cc e), ((λ e. cc e, λ e. cc e), ((λ e. cc e, λ e. cc e), tt))),
  (
    ((λ e. cc e, λ e. cc e), ((λ e. cc e, λ e. cc e), tt)),
    (
      ((λ e. cc e, λ e. cc e), tt),
      (tt, tt),
    ),
  ),
)

-- A step is the open one, that of a row, or the de-reserved one.
abbrev pub StepView : StepKind → Type 0
StepView kind = (kind ≡ Open) ⊎ (((row : CategoryStep) × IsRow row × (kind ≡ row.step)) ⊎ (kind ≡ Dereserved))

pub view : (kind : StepKind) → StepView kind
view Open = inl refl
view EwsStep = inr (inl (_, inl refl, refl))
view ObcStep = inr (inl (_, inr (inl refl), refl))
view ScStep = inr (inl (_, inr (inr (inl refl)), refl))
view StStep = inr (inl (_, inr (inr (inr (inl refl))), refl))
view Dereserved = inr (inr refl)

-- a step with seats of its own is the open one or that of a row
pub own_view : (kind : StepKind) → is_dereserved kind ≡ false → (kind ≡ Open) ⊎ ((row : CategoryStep) × IsRow row × (kind ≡ row.step))
own_view kind own = elim (view kind) [
  | inl first ↦ inl first
  | inr other ↦ elim other [ inl row ↦ inr row | inr last ↦ absurd (let e : is_dereserved Dereserved ≡ false = subst (λ k. is_dereserved k ≡ false) last own in cc e) ]
]
