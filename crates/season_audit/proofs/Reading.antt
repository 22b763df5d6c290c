-- The texts that a cut takes.
use Rattle.std.proofs.Common.{◌≡◌, ◌≢◌, ◌+◌, inl, inr, ℕ, zero, suc, List, [], ◌∷◌, Some, length, map, take, drop, get_or, arith, refl, sym, ap, ◌∙◌}
use Rattle.std.specs.Prelude.{◌-◌, min, slice_get}
use Rattle.std.specs.List.{AllByRecursion}
use Rattle.std.proofs.lemmas.Bool.{cases_lt}
use Rattle.std.proofs.lemmas.List.{drop_all, length-drop, take_all}
use Rattle.office_base.proofs.Lists.{all-get}
use Rattle.office_base.specs.Lists.{Pairwise}
use Rattle.office_base.specs.StepNumbers.{step_number}
use Rattle.office_base.specs.declared.person.Person.{Person}
use Rattle.list_audit.specs.Clauses.{no_list}
use Rattle.programme_lists.specs.declared.programme.Programme.{Programme}
use Rattle.programme_lists.specs.declared.programme.StepList.{StepList}
use Rattle.list_texts.specs.declared.lists.ListRead.{ListRead}
use Rattle.dossier_file.specs.Kept.{NamesOnce}
use Rattle.season_audit.specs.Audit.{NameOnce}

-- ---- lists

map_take : {X Y : Type 0} (f : X → Y) (n : ℕ) (xs : List X) → map f (take n xs) ≡ take n (map f xs)
map_take f zero xs = refl
map_take f (suc n) [] = refl
map_take {X} {Y} f (suc n) (x ∷ xs) = ap (λ (z : List Y). f x ∷ z) (map_take f n xs)

map_drop : {X Y : Type 0} (f : X → Y) (n : ℕ) (xs : List X) → map f (drop n xs) ≡ drop n (map f xs)
map_drop f zero xs = refl
map_drop f (suc n) [] = refl
map_drop f (suc n) (x ∷ xs) = map_drop f n xs

same_part : {X : Type 0} (xs : List X) (n count from to : ℕ) → from ≡ min n (length xs) → to ≡ min (from + count) (length xs) → take (to - from) (drop from xs) ≡ take count (drop n xs)
same_part {X} xs n count from to first last = elim (cases_lt n (length xs)) [
  | inl less ↦
      let here : from ≡ n = omega (arith, first, less) in
      let size = length-drop n xs in
      ap (λ (k : ℕ). take (to - from) (drop k xs)) here ∙ elim (cases_lt (n + count) (length xs)) [
        | inl fits ↦ ap (λ (k : ℕ). take k (drop n xs)) (let e : to - from ≡ count = omega (arith, here, last, fits) in e)
        | inr over ↦
            take_all (to - from) (drop n xs) (omega (arith, here, last, over, size)) ∙ sym (take_all count (drop n xs) (omega (arith, over, size)))
      ]
  | inr past ↦
      let here : from ≡ length xs = omega (arith, first, past) in
      let one : drop from xs ≡ [] = drop_all from xs (omega (arith, here)) in
      let two : drop n xs ≡ [] = drop_all n xs past in
      ap (take (to - from)) one ∙ (none_left (to - from) ∙ (sym (none_left count) ∙ ap (take count) (sym two)))
]
  where
    none_left : (k : ℕ) → take {A = X} k [] ≡ []
    none_left zero = refl
    none_left (suc k) = refl

pub part_told : (lists : List ListRead) (n count from to : ℕ) → from ≡ min n (length lists) → to ≡ min (from + count) (length lists)
    → map (λ (read : ListRead). read.programme) (take (to - from) (drop from lists)) ≡ take count (drop n (map (λ (read : ListRead). read.programme) lists))
part_told lists n count from to first last =
    let f : ListRead → Programme = λ read. read.programme in
    ap (map f) (same_part lists n count from to first last) ∙ (map_take f count (drop n lists) ∙ ap (take count) (map_drop f n lists))

get_taken : {X : Type 0} (n : ℕ) (xs : List X) (p : ℕ) (x : X) → slice_get (take n xs) p ≡ Some x → slice_get xs p ≡ Some x
get_taken zero xs p x e = absurd (cc)
get_taken (suc n) [] p x e = absurd (cc)
get_taken (suc n) (y ∷ xs) zero x e = e
get_taken (suc n) (y ∷ xs) (suc p) x e = get_taken n xs p x e

get_dropped : {X : Type 0} (n : ℕ) (xs : List X) (p : ℕ) → slice_get (drop n xs) p ≡ slice_get xs (n + p)
get_dropped zero xs p = ap (slice_get xs) (let e : p ≡ 0 + p = omega arith in e)
get_dropped (suc n) [] p = refl
get_dropped (suc n) (y ∷ xs) p = get_dropped n xs p ∙ ap (slice_get (y ∷ xs)) (let e : suc (n + p) ≡ suc n + p = omega arith in e)

all_or : {X : Type 0} (P : X → Type 0) (xs : List X) (k : ℕ) (d : X) → AllByRecursion P xs → P d → P (get_or xs k d)
all_or P [] k d all h = h
all_or P (x ∷ xs) zero d all h = all.0
all_or P (x ∷ xs) (suc k) d all h = all_or P xs k d all.1 h

pub part_once : (lists : List ListRead) (from n : ℕ) → NamesOnce lists → NameOnce (take n (drop from lists))
part_once lists from n once p read kind there =
    let at = sym (get_dropped from lists p) ∙ get_taken n (drop from lists) p read there in
    let steps = all-get (λ (r : ListRead). AllByRecursion (λ (list : StepList). Pairwise (λ (a b : Person). a.id ≢ b.id) list.admitted) r.programme.steps) lists (from + p) read once at in
    all_or (λ (list : StepList). Pairwise (λ (a b : Person). a.id ≢ b.id) list.admitted) read.programme.steps (step_number kind) no_list steps tt
