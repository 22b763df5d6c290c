-- Marks alone: how many are set, which cover which, and which are ahead of which.
use Rattle.std.proofs.Common.{◌≡◌, ◌≤◌, ◌+◌, ℕ, zero, suc, min, Bool, true, false, List, [], ◌∷◌, length, refl, ap, ◌∙◌, inl, inr, arith}
use Rattle.office_base.specs.Lists.{IsSublist}
use Rattle.placements.proofs.Sublists.{IsSublist-nil}
use Rattle.merit_choice.specs.Marks.{marked, kept, filled_up}

-- ---- the marks of a sublist

-- those whose mark is set are a sublist
pub kept-sublist : {X : Type 0} (xs : List X) (marks : List Bool) → IsSublist (kept xs marks) xs
kept-sublist [] marks = refl
kept-sublist (x ∷ xs) [] = inl (IsSublist-nil xs)
kept-sublist (x ∷ xs) (true ∷ marks) = inr (kept xs marks, refl, kept-sublist xs marks)
kept-sublist (x ∷ xs) (false ∷ marks) = inl (kept-sublist xs marks)

-- a sublist is those of some marks
pub sublist-kept : {X : Type 0} (xs ys : List X) → IsSublist xs ys → (marks : List Bool) × (length marks ≡ length ys) × (xs ≡ kept ys marks)
sublist-kept xs [] sub = ([], refl, sub)
sublist-kept xs (y ∷ ys) sub = elim sub [
  | inl later ↦ let rest = sublist-kept xs ys later in (false ∷ rest.0, ap suc rest.1, rest.2)
  | inr now ↦
      let rest = sublist-kept now.0 ys now.2 in
      (true ∷ rest.0, ap suc rest.1, now.1 ∙ ap (λ (zs : List _). y ∷ zs) rest.2)
]

-- as many as there are marks set
pub length-kept : {X : Type 0} (xs : List X) (marks : List Bool) → length marks ≡ length xs → length (kept xs marks) ≡ marked marks
length-kept [] [] same = refl
length-kept [] (mark ∷ marks) same = absurd (omega arith)
length-kept (x ∷ xs) [] same = absurd (omega arith)
length-kept (x ∷ xs) (true ∷ marks) same = ap suc (length-kept xs marks (omega arith))
length-kept (x ∷ xs) (false ∷ marks) same = length-kept xs marks (omega arith)

-- no more marks are set than there are
pub marked-le-length : (marks : List Bool) → marked marks ≤ length marks
marked-le-length [] = omega arith
marked-le-length (true ∷ marks) = omega (arith, marked-le-length marks)
marked-le-length (false ∷ marks) = omega (arith, marked-le-length marks)

-- ---- the marks filled up

-- there are as many marks as before
pub length-filled_up : (marks : List Bool) (free : ℕ) → length (filled_up marks free) ≡ length marks
length-filled_up [] free = refl
length-filled_up (true ∷ marks) free = ap suc (length-filled_up marks free)
length-filled_up (false ∷ marks) zero = ap suc (length-filled_up marks zero)
length-filled_up (false ∷ marks) (suc free) = ap suc (length-filled_up marks free)

-- and so many more are set, as long as there are marks
pub marked-filled_up : (marks : List Bool) (free : ℕ) → marked (filled_up marks free) ≡ min (length marks) (marked marks + free)
marked-filled_up [] free = omega arith
marked-filled_up (true ∷ marks) free = omega (arith, marked-filled_up marks free)
marked-filled_up (false ∷ marks) zero = omega (arith, marked-filled_up marks zero, marked-le-length marks)
marked-filled_up (false ∷ marks) (suc free) = omega (arith, marked-filled_up marks free)

-- ---- marks that cover others

-- each mark set in the first is set in the second
abbrev pub Covers : List Bool → List Bool → Type 0
Covers [] [] = Unit {0}
Covers [] (other ∷ others) = ⊥
Covers (mark ∷ marks) [] = ⊥
Covers (mark ∷ marks) (other ∷ others) = (mark ≡ true → other ≡ true) × Covers marks others

-- the marks filled up cover the marks
pub filled_up-covers : (marks : List Bool) (free : ℕ) → Covers marks (filled_up marks free)
filled_up-covers [] free = tt
filled_up-covers (true ∷ marks) free = ((λ e. e), filled_up-covers marks free)
filled_up-covers (false ∷ marks) zero = ((λ e. e), filled_up-covers marks zero)
filled_up-covers (false ∷ marks) (suc free) = ((λ e. refl), filled_up-covers marks free)

-- marks filled up more cover those filled up less
pub filled_up_more : (marks : List Bool) (free more : ℕ) → free ≤ more → Covers (filled_up marks free) (filled_up marks more)
filled_up_more [] free more le = tt
filled_up_more (true ∷ marks) free more le = ((λ e. e), filled_up_more marks free more le)
filled_up_more (false ∷ marks) zero zero le = ((λ e. e), filled_up_more marks zero zero le)
filled_up_more (false ∷ marks) zero (suc more) le = ((λ e. refl), filled_up_more marks zero more (omega arith))
filled_up_more (false ∷ marks) (suc free) zero le = absurd (omega arith)
filled_up_more (false ∷ marks) (suc free) (suc more) le = ((λ e. e), filled_up_more marks free more (omega arith))

-- ---- marks of some, and of more

-- The first marks say which of more are some. Where a mark of the some is not set, neither is the one of the more.
abbrev pub AreFewer : List Bool → List Bool → List Bool → Type 0
AreFewer [] [] [] = Unit {0}
AreFewer [] [] (mark ∷ marks) = ⊥
AreFewer [] (other ∷ others) marks = ⊥
AreFewer (among ∷ some) [] marks = ⊥
AreFewer (false ∷ some) (other ∷ others) marks = AreFewer some others marks
AreFewer (true ∷ some) (other ∷ others) [] = ⊥
AreFewer (true ∷ some) (other ∷ others) (mark ∷ marks) = (other ≡ true → mark ≡ true) × AreFewer some others marks

-- this stays so where the marks of the more are not filled up more
pub filled_up-fewer : (some others marks : List Bool) (less free : ℕ) → less ≤ free → AreFewer some others marks → AreFewer some (filled_up others less) (filled_up marks free)
filled_up-fewer [] [] [] less free le fewer = tt
filled_up-fewer [] [] (mark ∷ marks) less free le fewer = absurd fewer
filled_up-fewer [] (other ∷ others) marks less free le fewer = absurd fewer
filled_up-fewer (among ∷ some) [] marks less free le fewer = absurd fewer
filled_up-fewer (false ∷ some) (true ∷ others) marks less free le fewer = filled_up-fewer some others marks less free le fewer
filled_up-fewer (false ∷ some) (false ∷ others) marks zero free le fewer = filled_up-fewer some others marks zero free le fewer
filled_up-fewer (false ∷ some) (false ∷ others) marks (suc less) free le fewer = filled_up-fewer some others marks less free (omega arith) fewer
filled_up-fewer (true ∷ some) (other ∷ others) [] less free le fewer = absurd fewer
filled_up-fewer (true ∷ some) (true ∷ others) (true ∷ marks) less free le fewer = ((λ e. e), filled_up-fewer some others marks less free le fewer.1)
filled_up-fewer (true ∷ some) (true ∷ others) (false ∷ marks) less free le fewer = absurd (let e : false ≡ true = fewer.0 refl in cc)
filled_up-fewer (true ∷ some) (false ∷ others) (true ∷ marks) zero free le fewer = ((λ e. refl), filled_up-fewer some others marks zero free le fewer.1)
filled_up-fewer (true ∷ some) (false ∷ others) (true ∷ marks) (suc less) free le fewer = ((λ e. refl), filled_up-fewer some others marks less free (omega arith) fewer.1)
filled_up-fewer (true ∷ some) (false ∷ others) (false ∷ marks) zero zero le fewer = ((λ e. e), filled_up-fewer some others marks zero zero le fewer.1)
filled_up-fewer (true ∷ some) (false ∷ others) (false ∷ marks) zero (suc free) le fewer = ((λ e. refl), filled_up-fewer some others marks zero free (omega arith) fewer.1)
filled_up-fewer (true ∷ some) (false ∷ others) (false ∷ marks) (suc less) zero le fewer = absurd (omega arith)
filled_up-fewer (true ∷ some) (false ∷ others) (false ∷ marks) (suc less) (suc free) le fewer = ((λ e. e), filled_up-fewer some others marks less free (omega arith) fewer.1)

-- ---- marks that lead

-- Down the marks as many of the first as of the second are set at every place, with a lead of so many from before.
abbrev pub Leads : List Bool → List Bool → ℕ → Type 0
Leads [] [] lead = Unit {0}
Leads [] (other ∷ others) lead = ⊥
Leads (mark ∷ marks) [] lead = ⊥
Leads (true ∷ marks) (true ∷ others) lead = Leads marks others lead
Leads (true ∷ marks) (false ∷ others) lead = Leads marks others (suc lead)
Leads (false ∷ marks) (true ∷ others) lead = (less : ℕ) × (lead ≡ suc less) × Leads marks others less
Leads (false ∷ marks) (false ∷ others) lead = Leads marks others lead

-- At every place, as many of the others as of the marks are set from there on.
abbrev pub AreNoFewerLater : List Bool → List Bool → Type 0
AreNoFewerLater [] [] = Unit {0}
AreNoFewerLater [] (other ∷ others) = ⊥
AreNoFewerLater (mark ∷ marks) [] = ⊥
AreNoFewerLater (mark ∷ marks) (other ∷ others) = (marked (mark ∷ marks) ≤ marked (other ∷ others)) × AreNoFewerLater marks others

-- from the first place on
pub no_fewer_later : (marks others : List Bool) → AreNoFewerLater marks others → marked marks ≤ marked others
no_fewer_later [] [] later = omega arith
no_fewer_later [] (other ∷ others) later = absurd later
no_fewer_later (mark ∷ marks) [] later = absurd later
no_fewer_later (mark ∷ marks) (other ∷ others) later = later.0

-- Marks filled up lead all others that have as many from every place on and are no more in all.
pub filled_up-leads : (marks others : List Bool) (free lead : ℕ) → AreNoFewerLater marks others → marked others ≤ lead + free + marked marks → Leads (filled_up marks free) others lead
filled_up-leads [] [] free lead later count = tt
filled_up-leads [] (other ∷ others) free lead later count = absurd later
filled_up-leads (mark ∷ marks) [] free lead later count = absurd later
filled_up-leads (true ∷ marks) (true ∷ others) free lead later count = filled_up-leads marks others free lead later.1 (omega arith)
filled_up-leads (true ∷ marks) (false ∷ others) free lead later count = filled_up-leads marks others free (suc lead) later.1 (omega arith)
filled_up-leads (false ∷ marks) (true ∷ others) zero zero later count = absurd (omega (arith, no_fewer_later marks others later.1))
filled_up-leads (false ∷ marks) (true ∷ others) zero (suc lead) later count = (lead, refl, filled_up-leads marks others zero lead later.1 (omega arith))
filled_up-leads (false ∷ marks) (true ∷ others) (suc free) lead later count = filled_up-leads marks others free lead later.1 (omega arith)
filled_up-leads (false ∷ marks) (false ∷ others) zero lead later count = filled_up-leads marks others zero lead later.1 (omega arith)
filled_up-leads (false ∷ marks) (false ∷ others) (suc free) lead later count = filled_up-leads marks others free (suc lead) later.1 (omega arith)
