-- Lists by their ranges in one vector, with one more at the end of the vector.
use Rattle.std.proofs.Common.{◌≡◌, ◌-◌, ◌++◌, ◌∷◌, [], ℕ, zero, suc, List, length, take, drop, refl, ap, ◌∙◌, arith, length-append}
use Rattle.std.specs.Prelude.{replicate, slice_set}
use Rattle.std.proofs.Math.Seq.{drop-append_seam, take-length}
use Rattle.std.proofs.lemmas.List.{drop-append-le, length-drop, take-append-le}
use Rattle.choice_lists.specs.Flat.{AreWithin, IsWithin, lists_of, part}

-- a range that lies within shows the same items when more follow
part-more : {T : Type 0} (items more : List T) (range : ℕ × ℕ) → IsWithin items range → part (items ++ more) range ≡ part items range
part-more {T} items more range within =
    ap (λ (l : List T). take (range.1 - range.0) l) (drop-append-le range.0 items more (omega (arith, within.0, within.1)))
    ∙ take-append-le (range.1 - range.0) (drop range.0 items) more (omega (arith, within.0, within.1, length-drop range.0 items))

pub lists-more : {T : Type 0} (items more : List T) (ranges : List (ℕ × ℕ)) → AreWithin items ranges → lists_of (items ++ more) ranges ≡ lists_of items ranges
lists-more items more [] within = refl
lists-more {T} items more (range ∷ ranges) within =
    ap (λ (l : List T). l ∷ lists_of (items ++ more) ranges) (part-more items more range within.0)
    ∙ ap (λ (ls : List (List T)). part items range ∷ ls) (lists-more items more ranges within.1)

-- the items at the end, from where the others ended
pub part-last : {T : Type 0} (items more : List T) → part (items ++ more) (length items, length (items ++ more)) ≡ more
part-last {T} items more =
    let count : length (items ++ more) - length items ≡ length more = omega (arith, length-append items more) in
    ap (λ (l : List T). take (length (items ++ more) - length items) l) (drop-append_seam items more)
    ∙ ap (λ (n : ℕ). take n more) count
    ∙ take-length more

-- lists with one changed
lists-set : {T : Type 0} (items : List T) (ranges : List (ℕ × ℕ)) (n : ℕ) (range : ℕ × ℕ) → lists_of items (slice_set ranges n range) ≡ slice_set (lists_of items ranges) n (part items range)
lists-set items [] n range = refl
lists-set items (r ∷ ranges) zero range = refl
lists-set {T} items (r ∷ ranges) (suc n) range = ap (λ (ls : List (List T)). part items r ∷ ls) (lists-set items ranges n range)

-- lists with one more
lists-push : {T : Type 0} (items : List T) (ranges : List (ℕ × ℕ)) (range : ℕ × ℕ) → lists_of items (ranges ++ range ∷ []) ≡ lists_of items ranges ++ part items range ∷ []
lists-push items [] range = refl
lists-push {T} items (r ∷ ranges) range = ap (λ (ls : List (List T)). part items r ∷ ls) (lists-push items ranges range)

-- A list put in place of another one.
pub set_lists : {T : Type 0} (items more : List T) (ranges : List (ℕ × ℕ)) (n : ℕ) → AreWithin items ranges
    → lists_of (items ++ more) (slice_set ranges n (length items, length (items ++ more))) ≡ slice_set (lists_of items ranges) n more
set_lists {T} items more ranges n within =
    lists-set (items ++ more) ranges n _
    ∙ ap (λ (ls : List (List T)). slice_set ls n (part (items ++ more) (length items, length (items ++ more)))) (lists-more items more ranges within)
    ∙ ap (λ (l : List T). slice_set (lists_of items ranges) n l) (part-last items more)

-- One more list.
pub push_lists : {T : Type 0} (items more : List T) (ranges : List (ℕ × ℕ)) → AreWithin items ranges
    → lists_of (items ++ more) (ranges ++ (length items, length (items ++ more)) ∷ []) ≡ lists_of items ranges ++ more ∷ []
push_lists {T} items more ranges within =
    lists-push (items ++ more) ranges _
    ∙ ap (λ (ls : List (List T)). ls ++ part (items ++ more) (length items, length (items ++ more)) ∷ []) (lists-more items more ranges within)
    ∙ ap (λ (l : List T). lists_of items ranges ++ l ∷ []) (part-last items more)

-- no items, in any number of lists
pub empty_lists : {T : Type 0} (count : ℕ) → lists_of {T = T} [] (replicate count (0, 0)) ≡ replicate count []
empty_lists zero = refl
empty_lists {T} (suc n) = ap (λ (ls : List (List T)). [] ∷ ls) (empty_lists n)

-- what the calls on the two vectors make of the lists
pub set_made : {T : Type 0} (items more all : List T) (ranges changed : List (ℕ × ℕ)) (lists : List (List T)) (n start end : ℕ) → AreWithin items ranges → all ≡ items ++ more
    → start ≡ length items → end ≡ length all → changed ≡ slice_set ranges n (start, end) → lists_of items ranges ≡ lists → lists_of all changed ≡ slice_set lists n more
set_made {T} items more all ranges changed lists n start end within e f g h same =
    let last : end ≡ length (items ++ more) = g ∙ ap (λ (l : List T). length l) e in
    ap (λ (l : List T). lists_of l changed) e ∙ ap (lists_of (items ++ more)) h
    ∙ ap (λ (k : ℕ). lists_of (items ++ more) (slice_set ranges n (k, end))) f
    ∙ ap (λ (k : ℕ). lists_of (items ++ more) (slice_set ranges n (length items, k))) last
    ∙ set_lists items more ranges n within ∙ ap (λ (ls : List (List T)). slice_set ls n more) same

pub push_made : {T : Type 0} (items more all : List T) (ranges changed : List (ℕ × ℕ)) (lists : List (List T)) (start end : ℕ) → AreWithin items ranges → all ≡ items ++ more
    → start ≡ length items → end ≡ length all → changed ≡ ranges ++ (start, end) ∷ [] → lists_of items ranges ≡ lists → lists_of all changed ≡ lists ++ more ∷ []
push_made {T} items more all ranges changed lists start end within e f g h same =
    let last : end ≡ length (items ++ more) = g ∙ ap (λ (l : List T). length l) e in
    ap (λ (l : List T). lists_of l changed) e ∙ ap (lists_of (items ++ more)) h
    ∙ ap (λ (k : ℕ). lists_of (items ++ more) (ranges ++ (k, end) ∷ [])) f
    ∙ ap (λ (k : ℕ). lists_of (items ++ more) (ranges ++ (length items, k) ∷ [])) last
    ∙ push_lists items more ranges within ∙ ap (λ (ls : List (List T)). ls ++ more ∷ []) same
