-- One walk over people and over those of them who are taken.
use Rattle.std.proofs.Common.{◌≡◌, ◌≢◌, ◌||◌, Bool, true, false, not, cond, List, [], ◌∷◌, eqb, refl, sym, ap, ◌∙◌, subst, inl, inr}
use Rattle.std.proofs.lemmas.Bool.{cond-true, cond-false, cond_both, eq-eqb, ne_eqb, or_left, or_parts, not_from_true, not_from_false, false_from_ne_true}
use Rattle.std.specs.List.{filter, AllByRecursion}
use Rattle.office_base.specs.Lists.{IsAmong, IsSublist}
use Rattle.office_base.specs.declared.person.Category.{Category}
use Rattle.office_base.specs.StepChoice.{AreRanked}
use Rattle.office_base.specs.declared.person.ListId.{ListId}
use Rattle.office_base.specs.declared.person.Person.{Person}
use Rattle.placements.proofs.Sublists.{IsSublist-nil, sublist_again}
use Rattle.placements.specs.Ranks.{AreAmong, AreDistinct}
use Rattle.placements.proofs.Convert.{same_cand}
use Rattle.placements.proofs.Ranks.{any_all, any_among, among_again, among_sublist, ranked_sublist}
use Rattle.placements.proofs.Filters.{filter-sublist, among_filter}
use Rattle.programme_lists.specs.Programme.{is_taken, is_of, without}
pub use Rattle.programme_lists.proofs.Categories.{same_category}
use Rattle.programme_lists.proofs.Taken.{taken_number, taken_among}

-- the people who are left when those taken are in the order of the people
abbrev pub minus : List Person → List Person → List Person
minus [] taken = []
minus (person ∷ people) [] = person ∷ minus people []
minus (person ∷ people) (other ∷ taken) = cond (eqb other.id.0 person.id.0) (minus people taken) (person ∷ minus people (other ∷ taken))

-- two filters that agree on the elements pass the same
filter_agree : (p q : Person → Bool) (xs : List Person) → ((x : Person) → IsAmong x xs → p x ≡ q x) → filter p xs ≡ filter q xs
filter_agree p q [] agree = refl
filter_agree p q (x ∷ xs) agree =
    let here : p x ≡ q x = agree x (inl refl) in
    let rest : filter p xs ≡ filter q xs = filter_agree p q xs (λ y there. agree y (inr there)) in
    ap (λ (b : Bool). cond b (x ∷ filter p xs) (filter p xs)) here ∙ ap (λ (ys : List Person). cond (q x) (x ∷ ys) ys) rest

-- nobody of some later people has the number of one before them
later_number : (person other : Person) (people : List Person) → AllByRecursion (λ one. person.id ≢ one.id) people → IsAmong other people → eqb person.id.0 other.id.0 ≡ false
later_number person other people apart here =
    let found = any_all (λ one. other ≡ one) (λ one. person.id ≢ one.id) people here apart in
    ne_eqb person.id.0 other.id.0 (λ e. found.2 (same_cand person.id other.id e ∙ ap (λ (p : Person). p.id) found.1))

-- who is apart from all people is none of some of them
pub not_taken : (person : Person) (people taken : List Person) → AllByRecursion (λ one. person.id ≢ one.id) people → IsSublist taken people → is_taken taken person ≡ false
not_taken person people taken apart sub = false_from_ne_true (is_taken taken person) (λ holds.
    let one = any_among (λ other. person.id ≡ other.id) taken people (among_sublist taken people sub) (taken_number person taken holds) in
    let found = any_all (λ other. person.id ≡ other.id) (λ other. person.id ≢ other.id) people one apart in
    found.2 found.1)

pub minus_is_without : (people taken : List Person) → AreDistinct people → IsSublist taken people → minus people taken ≡ without people taken
minus_is_without [] taken distinct sub = refl
minus_is_without (person ∷ people) [] distinct sub = ap (λ (zs : List Person). person ∷ zs) (minus_is_without people [] distinct.1 (IsSublist-nil people))
minus_is_without (person ∷ people) (other ∷ taken) distinct sub = elim sub [
  | inl later ↦
      let free = not_taken person people (other ∷ taken) distinct.0 later in
      let parts = or_parts (eqb other.id.0 person.id.0) (is_taken taken person) free in
      cond-false (eqb other.id.0 person.id.0) (minus people taken) (person ∷ minus people (other ∷ taken)) parts.0
      ∙ ap (λ (zs : List Person). person ∷ zs) (minus_is_without people (other ∷ taken) distinct.1 later)
      ∙ sym (cond-true (not (is_taken (other ∷ taken) person)) (person ∷ without people (other ∷ taken)) (without people (other ∷ taken)) (not_from_false (is_taken (other ∷ taken) person) free))
  | inr now ↦
      let same : other ≡ person = cc (now.1) in
      let rest : taken ≡ now.0 = cc (now.1) in
      let here : eqb other.id.0 person.id.0 ≡ true = eq-eqb other.id.0 person.id.0 (ap (λ (p : Person). p.id.0) same) in
      let holds : is_taken (other ∷ taken) person ≡ true = or_left (eqb other.id.0 person.id.0) (is_taken taken person) here in
      cond-true (eqb other.id.0 person.id.0) (minus people taken) (person ∷ minus people (other ∷ taken)) here
      ∙ minus_is_without people taken distinct.1 (subst (λ (zs : List Person). IsSublist zs people) (sym rest) now.2)
      ∙ filter_agree (λ x. not (is_taken taken x)) (λ x. not (is_taken (other ∷ taken) x)) people (λ x there.
      let differs : eqb other.id.0 x.id.0 ≡ false = subst (λ (p : Person). eqb p.id.0 x.id.0 ≡ false) (sym same) (later_number person x people distinct.0 there) in
      ap (λ (b : Bool). not (b || is_taken taken x)) (sym differs))
      ∙ sym (cond-false (not (is_taken (other ∷ taken) person)) (person ∷ without people (other ∷ taken)) (without people (other ∷ taken)) (not_from_true (is_taken (other ∷ taken) person) holds))
]

-- ---- who is taken by one step is there for no other

-- a sublist whose elements pass a filter is a sublist of what it passes
sublist_passes : (p : Person → Bool) (xs ys : List Person) → IsSublist xs ys → ((x : Person) → IsAmong x xs → p x ≡ true) → IsSublist xs (filter p ys)
sublist_passes p xs [] sub holds = sub
sublist_passes p xs (y ∷ ys) sub holds = elim sub [
  | inl later ↦ cond_both (p y) (y ∷ filter p ys) (filter p ys) (λ (zs : List Person). IsSublist xs zs) (λ _. inl (sublist_passes p xs ys later holds)) (λ _. sublist_passes p xs ys later holds)
  | inr now ↦
      let passed : p y ≡ true = holds y (subst (IsAmong y) (sym now.1) (inl refl)) in
      let rest = sublist_passes p now.0 ys now.2 (λ x here. holds x (subst (IsAmong x) (sym now.1) (inr here))) in
      subst (λ (zs : List Person). IsSublist xs zs) (sym (cond-true (p y) (y ∷ filter p ys) (filter p ys) passed)) (inr (now.0, now.1, rest))
]

-- persons none of whom is one of those taken are still there
pub still_there : (all people some taken : List Person) → AreDistinct all → AreAmong some all → AreAmong taken all → IsSublist some people
    → ((x : Person) → IsAmong x some → IsAmong x taken → ⊥) → IsSublist some (without people taken)
still_there all people some taken distinct within taken_within sub apart =
    sublist_passes (λ person. not (is_taken taken person)) some people sub (λ x here.
    not_from_false (is_taken taken x) (false_from_ne_true (is_taken taken x) (λ holds.
    apart x here (taken_among all taken x distinct taken_within (any_among (λ one. x ≡ one) some all within here) holds))))

-- nobody is among the members of two categories
pub of_one_category : (a b : Category) (some others people more : List Person) (person : Person) → (a ≡ b → ⊥) → IsSublist some (filter (is_of a) people)
    → IsSublist others (filter (is_of b) more) → IsAmong person some → IsAmong person others → ⊥
of_one_category a b some others people more person differ sub other_sub here there =
    let one = among_filter (is_of a) person people (any_among (λ x. person ≡ x) some (filter (is_of a) people) (among_sublist some (filter (is_of a) people) sub) here) in
    let two = among_filter (is_of b) person more (any_among (λ x. person ≡ x) others (filter (is_of b) more) (among_sublist others (filter (is_of b) more) other_sub) there) in
    differ (same_category a person.category one.1 ∙ sym (same_category b person.category two.1))

-- members of the people are among them
pub members_among : (category : Category) (some people : List Person) → IsSublist some (filter (is_of category) people) → AreAmong some people
members_among category some people sub =
    among_again some (filter (is_of category) people) people (among_sublist some (filter (is_of category) people) sub)
    (among_sublist (filter (is_of category) people) people (filter-sublist (is_of category) people))

-- members of the people are a sublist of them
pub members_sublist : (category : Category) (some people : List Person) → IsSublist some (filter (is_of category) people) → IsSublist some people
members_sublist category some people sub = sublist_again some (filter (is_of category) people) people sub (filter-sublist (is_of category) people)

-- whom a step left of ranked people are ranked
pub ranked_without : (list : ListId) (people taken : List Person) → AreRanked list people → AreRanked list (without people taken)
ranked_without list people taken ranked = ranked_sublist list (without people taken) people ranked (filter-sublist _ people)
