-- With guarantees, too, a programme admits no fewer from more people.
use Rattle.std.proofs.Common.{◌≡◌, ◌≢◌, ◌≤◌, ◌+◌, ◌⊎◌, inl, inr, ℕ, suc, List, [], ◌∷◌, length, arith, refl, sym, ap, ◌∙◌, subst}
use Rattle.std.specs.List.{AllByRecursion}
use Rattle.office_base.specs.Lists.{IsAmong, IsSublist}
use Rattle.office_base.specs.declared.person.Person.{Person}
use Rattle.placements.specs.Ranks.{AreDistinct}
use Rattle.placements.proofs.Ranks.{pairwise_sublist}
use Rattle.placements.proofs.Sublists.{sublist_again}
use Rattle.allocations.specs.Rule.{Admits, AdmitsNoFewer, AreAdmitted, ChoosesWell}
use Rattle.kept_seats.specs.Kept.{Guarantees, IsKept, StepRule, with_kept}
use Rattle.kept_seats.proofs.Kept as kept

-- ---- distinct people, each of whom is one of others, are no more than these

-- the others without the person
record Rest (x : Person) (ys : List Person) : Type 0 where
  pub rest : List Person
  pub size : length ys ≡ suc (length rest)
  pub there : (z : Person) → IsAmong z ys → (z ≡ x → ⊥) → IsAmong z rest

rest_of : (x : Person) (ys : List Person) → IsAmong x ys → Rest x ys
rest_of x [] among = absurd among
rest_of x (y ∷ ys) among = elim among [
  | inl same ↦ record {
    rest = ys;
    size = refl;
    there = λ z there apart. elim there [ inl here ↦ absurd (apart (here ∙ sym same)) | inr later ↦ later ];
  }
  | inr later ↦
      let less = rest_of x ys later in
      record {
        rest = y ∷ less.rest;
        size = ap suc less.size;
        there = λ z there apart. elim there [ inl here ↦ inl here | inr after ↦ inr (less.there z after apart) ];
      }
]

apart_all : (x z : Person) (xs : List Person) → AllByRecursion (λ (b : Person). x.id ≢ b.id) xs → IsAmong z xs → z ≡ x → ⊥
apart_all x z [] all among same = among
apart_all x z (y ∷ xs) all among same = elim among [
  | inl here ↦ all.0 (ap (λ (a : Person). a.id) (sym same ∙ here))
  | inr later ↦ apart_all x z xs all.1 later same
]

pub no_more : (xs ys : List Person) → AreDistinct xs → ((x : Person) → IsAmong x xs → IsAmong x ys) → length xs ≤ length ys
no_more [] ys distinct each = omega arith
no_more (x ∷ xs) ys distinct each =
    let less = rest_of x ys (each x (inl refl)) in
    let rest = no_more xs less.rest distinct.1 (λ z there. less.there z (each z (inr there)) (apart_all x z xs distinct.0 there)) in
    let size = less.size in
    omega (arith, rest, size)

-- ---- some people, split by what holds of each

record Split (C : Person → Type 0) (xs : List Person) : Type 0 where
  pub yes : List Person
  pub no : List Person
  pub yes_part : IsSublist yes xs
  pub no_part : IsSublist no xs
  pub yes_each : (x : Person) → IsAmong x yes → C x
  pub no_each : (x : Person) → IsAmong x no → C x → ⊥
  pub yes_all : (x : Person) → IsAmong x xs → C x → IsAmong x yes
  pub no_all : (x : Person) → IsAmong x xs → (C x → ⊥) → IsAmong x no
  pub size : length xs ≡ length yes + length no

split : (C : Person → Type 0) (xs : List Person) → ((x : Person) → IsAmong x xs → C x ⊎ (C x → ⊥)) → Split C xs
split C [] decide = record {
  yes = [];
  no = [];
  yes_part = refl;
  no_part = refl;
  yes_each = λ x there. absurd there;
  no_each = λ x there. absurd there;
  yes_all = λ x there holds. absurd there;
  no_all = λ x there fails. absurd there;
  size = refl;
}
split C (y ∷ xs) decide =
    let rest = split C xs (λ x there. decide x (inr there)) in
    elim (decide y (inl refl)) [
      | inl holds ↦ record {
        yes = y ∷ rest.yes;
        no = rest.no;
        yes_part = inr (rest.yes, refl, rest.yes_part);
        no_part = inl rest.no_part;
        yes_each = λ x there. elim there [ inl same ↦ subst C (sym same) holds | inr later ↦ rest.yes_each x later ];
        no_each = rest.no_each;
        yes_all = λ x there c. elim there [ inl same ↦ inl same | inr later ↦ inr (rest.yes_all x later c) ];
        no_all = λ x there fails. elim there [ inl same ↦ absurd (fails (subst C (sym same) holds)) | inr later ↦ rest.no_all x later fails ];
        size = (let e = rest.size in omega (arith, e));
      }
      | inr fails ↦ record {
        yes = rest.yes;
        no = y ∷ rest.no;
        yes_part = inl rest.yes_part;
        no_part = inr (rest.no, refl, rest.no_part);
        yes_each = rest.yes_each;
        no_each = λ x there c. elim there [ inl same ↦ fails (subst C same c) | inr later ↦ rest.no_each x later c ];
        yes_all = λ x there c. elim there [ inl same ↦ absurd (fails (subst C same c)) | inr later ↦ rest.yes_all x later c ];
        no_all = λ x there other. elim there [ inl same ↦ inl same | inr later ↦ inr (rest.no_all x later other) ];
        size = (let e = rest.size in omega (arith, e));
      }
    ]

-- ---- the chosen and the kept

module _ (guaranteed : Guarantees) (rule : StepRule) (MayApply : ℕ → List Person → Type 0) (well : ChoosesWell rule MayApply)
    (apart : (p : ℕ) (people : List Person) → MayApply p people → AreDistinct people) (no_fewer : AdmitsNoFewer rule MayApply) where
  -- those admitted are the chosen and the kept
  parts : (p : ℕ) (people admitted : List Person) → MayApply p people → AreAdmitted (with_kept guaranteed rule) p people admitted → Split (λ x. Admits rule p people x) admitted
  parts p people admitted may are = split (λ x. Admits rule p people x) admitted (λ x there. elim (well.decided p people x may) [
    | inl picked ↦ inl picked
    | inr out ↦ inr (λ picked. out picked.0 picked.1)
  ])

  are_chosen : (p : ℕ) (people admitted : List Person) (may : MayApply p people) (are : AreAdmitted (with_kept guaranteed rule) p people admitted)
      → AreAdmitted rule p people (parts p people admitted may are).yes
  are_chosen p people admitted may are =
      let two = parts p people admitted may are in
      record {
        part = sublist_again two.yes admitted people two.yes_part are.part;
        each = λ x among. (
          λ there. two.yes_each x there,
          λ picked. two.yes_all x ((are.each x among).1 (kept.chosen guaranteed rule p people x picked)) picked,
        );
      }

  pub admit_no_fewer : AdmitsNoFewer (with_kept guaranteed rule) MayApply
  admit_no_fewer p some all before after may sub are are' =
      let few = well.part p some all may sub in
      let first = parts p some before few are in
      let second = parts p all after may are' in
      let picked = no_fewer p some all first.yes second.yes may sub (are_chosen p some before few are) (are_chosen p all after may are') in
      let distinct = pairwise_sublist (λ (a b : Person). a.id ≢ b.id) first.no some (sublist_again first.no before some first.no_part are.part) (apart p some few) in
      let beside = no_more first.no second.no distinct (λ x there.
      let among = kept.widens x first.no some (sublist_again first.no before some first.no_part are.part) there in
      let before_there = kept.widens x first.no before first.no_part there in
      let admitted = (are.each x among).0 before_there in
      let out : Admits rule p some x → ⊥ = first.no_each x there in
      let among' = kept.widens x some all sub among in
      let out' : Admits rule p all x → ⊥ = λ picks. out (well.fewer p some all x may sub among picks) in
      let keeps : IsKept rule guaranteed p some x = elim (kept.view guaranteed rule p some x admitted.0 admitted.1) [ inl picks ↦ absurd (out (picks.0, picks.2)) | inr keeps ↦ keeps.1 ] in
      let again = kept.kept guaranteed rule p all x (record {
        guaranteed_there = keeps.guaranteed_there;
        applies = among';
        not_chosen = λ kind picks. out' (kind, picks);
      }) in
      second.no_all x ((are'.each x among').1 again) out') in
      let one = first.size in
      let two = second.size in
      omega (arith, one, two, picked, beside)
