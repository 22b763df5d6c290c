-- Whom the categories left, one after another.
use Rattle.std.proofs.Common.{◌≡◌, ◌≢◌, ◌<◌, ◌+◌, ℕ, zero, suc, Some, List, [], ◌∷◌, length, get_or, take, add-one, refl, sym, ap, ◌∙◌, subst, inl, inr}
use Rattle.std.specs.Prelude.{map, slice_get}
use Rattle.std.specs.List.{AllByRecursion, filter}
use Rattle.office_base.specs.CategorySteps.{category_steps}
use Rattle.office_base.specs.Lists.{IsAmong, IsSublist, Pairwise}
use Rattle.office_base.specs.StepChoice.{AreRanked}
use Rattle.office_base.specs.declared.category_steps.CategoryStep.{CategoryStep}
use Rattle.office_base.specs.declared.person.ListId.{ListId}
use Rattle.office_base.specs.declared.person.Person.{Person}
use Rattle.office_base.specs.declared.step.StepKind.{StepKind}
use Rattle.office_base.proofs.Lists.{all_among, at_among}
use Rattle.placements.specs.Ranks.{AreDistinct}
use Rattle.placements.proofs.Ranks.{ranked_sublist}
use Rattle.programme_lists.specs.Programme.{Admissions, is_of, left_by, without}
use Rattle.programme_lists.proofs.Table.{IsRow, rows_apart}
use Rattle.programme_lists.proofs.Walk.{members_among, members_sublist, of_one_category, still_there}
use Rattle.list_audit.proofs.Rows.{row_at}
use Rattle.programme_lists.proofs.Parts.{left_part}

-- the steps of these rows
abbrev pub steps_of : List CategoryStep → List StepKind
steps_of rows = map (λ row. row.step) rows

-- what holds of one after another holds of a later one with each before it
before_at : {X : Type 0} (R : X → X → Type 0) (xs : List X) (n : ℕ) (x : X) → Pairwise R xs → slice_get xs n ≡ Some x → AllByRecursion (λ one. R one x) (take n xs)
before_at R [] zero x each at = tt
before_at R [] (suc n) x each at = tt
before_at R (y ∷ xs) zero x each at = tt
before_at R (y ∷ xs) (suc n) x each at = (all_among (R y) xs x each.0 (at_among xs n x at), before_at R xs n x each.1 at)

module _ (rest : List Person) (named : Admissions) (distinct : AreDistinct rest) (members : (row : CategoryStep) → IsRow row → IsSublist (named row.step) (filter (is_of row.category) rest)) where
  -- members of a category are still there after those of others are taken
  still_left : (rows : List CategoryStep) (row : CategoryStep) (people : List Person) → ((one : CategoryStep) → IsAmong one rows → IsRow one) → IsRow row
      → AllByRecursion (λ one. (one.category ≢ row.category) × (one.step ≢ row.step)) rows → IsSublist (named row.step) people → IsSublist (named row.step) (left_by (steps_of rows) people named)
  still_left [] row people among here apart sub = sub
  still_left (one ∷ rows) row people among here apart sub =
      let there : IsRow one = among one (inl refl) in
      let kept : IsSublist (named row.step) (without people (named one.step)) =
      still_there rest people (named row.step) (named one.step) distinct (members_among row.category (named row.step) rest (members row here))
      (members_among one.category (named one.step) rest (members one there)) sub
      (λ x. of_one_category row.category one.category (named row.step) (named one.step) rest rest x (λ e. apart.0.0 (sym e)) (members row here) (members one there)) in
      still_left rows row (without people (named one.step)) (λ other in_rows. among other (inr in_rows)) here apart.1 kept

  -- those whom the step at this place names are still there after the steps before
  taken_at : (items : List CategoryStep) (index : ℕ) (d : CategoryStep) → items ≡ category_steps → index < length items
      → IsSublist (named (get_or items index d).step) (left_by (steps_of (take index category_steps)) rest named)
  taken_at items index d same less =
      let row = get_or items index d in
      let at = row_at items index d same less in
      let here = at_among category_steps index row at in
      still_left (take index category_steps) row rest (λ one. among_taken index category_steps one) here
      (before_at (λ one other. (one.category ≢ other.category) × (one.step ≢ other.step)) category_steps index row rows_apart at) (members_sublist row.category (named row.step) rest (members row here))
    where
      among_taken : {X : Type 0} (n : ℕ) (xs : List X) (x : X) → IsAmong x (take n xs) → IsAmong x xs
      among_taken zero xs x here = absurd here
      among_taken (suc n) [] x here = absurd here
      among_taken (suc n) (y ∷ xs) x here = elim here [ inl first ↦ inl first | inr later ↦ inr (among_taken n xs x later) ]

  pub taken_from : (items : List CategoryStep) (index : ℕ) (d : CategoryStep) (some left : List Person) → items ≡ category_steps → index < length items → some ≡ named (get_or items index d).step
      → left ≡ left_by (steps_of (take index category_steps)) rest named → IsSublist some left
  taken_from items index d some left same less of made =
      subst (IsSublist some) (sym made) (subst (λ (those : List Person). IsSublist those (left_by (steps_of (take index category_steps)) rest named)) (sym of) (taken_at items index d same less))

pub left_ranked : (list : ListId) (kinds : List StepKind) (people : List Person) (named : Admissions) → AreRanked list people → AreRanked list (left_by kinds people named)
left_ranked list kinds people named ranked = ranked_sublist list (left_by kinds people named) people ranked (left_part kinds people named)

-- the step at this place takes its persons after the steps before
pub left_next : (items : List CategoryStep) (index : ℕ) (d : CategoryStep) (rest : List Person) (named : Admissions) → items ≡ category_steps → index < length items
    → left_by (steps_of (take (index + 1) category_steps)) rest named ≡ without (left_by (steps_of (take index category_steps)) rest named) (named (get_or items index d).step)
left_next items index d rest named same less =
    ap (λ n. left_by (steps_of (take n category_steps)) rest named) (add-one index) ∙ by category_steps index rest (row_at items index d same less)
  where
    row : CategoryStep
    row = get_or items index d

    by : (rows : List CategoryStep) (n : ℕ) (people : List Person) → slice_get rows n ≡ Some row
        → left_by (steps_of (take (suc n) rows)) people named ≡ without (left_by (steps_of (take n rows)) people named) (named row.step)
    by [] n people at = absurd (cc)
    by (one ∷ rows) zero people at = let same : one ≡ row = cc in ap (λ (r : CategoryStep). without people (named r.step)) same
    by (one ∷ rows) (suc n) people at = by rows n (without people (named one.step)) at
