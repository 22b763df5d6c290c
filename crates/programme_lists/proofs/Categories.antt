-- Whether two categories are one.
use Rattle.std.proofs.Common.{◌≡◌, true, refl}
use Rattle.std.proofs.lemmas.Bool.{eq-eqb, eqb-true}
use Rattle.office_base.specs.declared.person.Category.{Category}
use Rattle.office_base.proofs.StepNumbers.{one_category}
use Rattle.office_base.specs.CategorySteps.{category_number}
use Rattle.programme_lists.specs.Programme.{is_same}

-- each category is the same as itself
pub same_itself : (category : Category) → is_same category category ≡ true
same_itself category = eq-eqb (category_number category) (category_number category) refl

-- categories that are the same are one
pub same_category : (category other : Category) → is_same category other ≡ true → category ≡ other
same_category category other holds = one_category category other (eqb-true (category_number category) (category_number other) holds)
