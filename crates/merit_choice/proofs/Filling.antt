-- The marks filled up, place by place.
use Rattle.std.proofs.Common.{◌≡◌, ◌<◌, ◌+◌, ℕ, zero, suc, Bool, true, false, List, [], ◌∷◌, ◌++◌, length, get_or, drop, add-one, append_assoc, sym, ap, ap₂, ◌∙◌, subst, arith}
use Rattle.std.proofs.Math.Seq.{drop-cons}
use Rattle.office_base.specs.declared.person.Person.{Person}
use Rattle.merit_choice.specs.Marks.{kept, filled_up}

-- those kept from a place on, by the person and the mark there
kept_at : (people : List Person) (marks : List Bool) (at free : ℕ) (other : Person) (mark : Bool) → at < length people → at < length marks → get_or marks at false ≡ mark
    → kept (drop at people) (filled_up (drop at marks) free) ≡ kept (get_or people at other ∷ drop (at + 1) people) (filled_up (mark ∷ drop (at + 1) marks) free)
kept_at people marks at free other mark inside within same =
    let person : drop at people ≡ get_or people at other ∷ drop (at + 1) people = rw add-one (drop-cons people at other inside) in
    let first : drop at marks ≡ get_or marks at false ∷ drop (at + 1) marks = rw add-one (drop-cons marks at false within) in
    ap₂ (λ (those : List Person) (set : List Bool). kept those (filled_up set free)) person (first ∙ ap (λ (m : Bool). m ∷ drop (at + 1) marks) same)

-- one more at the end of the admitted
one_admitted : (admitted rest : List Person) (person : Person) (whole : List Person) → admitted ++ person ∷ rest ≡ whole → (admitted ++ person ∷ []) ++ rest ≡ whole
one_admitted admitted rest person whole so_far = append_assoc admitted (person ∷ []) rest ∙ so_far

-- who is needed is admitted
pub needed_at : (people : List Person) (marks : List Bool) (at free : ℕ) (other : Person) (admitted whole : List Person) → at < length people → at < length marks → get_or marks at false ≡ true
    → admitted ++ kept (drop at people) (filled_up (drop at marks) free) ≡ whole
    → (admitted ++ get_or people at other ∷ []) ++ kept (drop (at + 1) people) (filled_up (drop (at + 1) marks) free) ≡ whole
needed_at people marks at free other admitted whole inside within same so_far =
    one_admitted admitted (kept (drop (at + 1) people) (filled_up (drop (at + 1) marks) free)) (get_or people at other) whole
    (ap (λ (rest : List Person). admitted ++ rest) (sym (kept_at people marks at free other true inside within same)) ∙ so_far)

-- so is who is not, where a seat is free
pub free_at : (people : List Person) (marks : List Bool) (at free less : ℕ) (other : Person) (admitted whole : List Person) → at < length people → at < length marks → get_or marks at false ≡ false
    → free ≡ suc less → admitted ++ kept (drop at people) (filled_up (drop at marks) free) ≡ whole
    → (admitted ++ get_or people at other ∷ []) ++ kept (drop (at + 1) people) (filled_up (drop (at + 1) marks) less) ≡ whole
free_at people marks at free less other admitted whole inside within same more so_far =
    let now = subst (λ (n : ℕ). admitted ++ kept (drop at people) (filled_up (drop at marks) n) ≡ whole) more so_far in
    one_admitted admitted (kept (drop (at + 1) people) (filled_up (drop (at + 1) marks) less)) (get_or people at other) whole
    (ap (λ (rest : List Person). admitted ++ rest) (sym (kept_at people marks at (suc less) other false inside within same)) ∙ now)

-- and else nobody
pub full_at : (people : List Person) (marks : List Bool) (at free : ℕ) (admitted whole : List Person) → at < length people → at < length marks → get_or marks at false ≡ false
    → free ≡ zero → admitted ++ kept (drop at people) (filled_up (drop at marks) free) ≡ whole
    → admitted ++ kept (drop (at + 1) people) (filled_up (drop (at + 1) marks) free) ≡ whole
full_at [] marks at free admitted whole inside within same none so_far = absurd (omega arith)
full_at (person ∷ people) marks at free admitted whole inside within same none so_far =
    let all : List Person = person ∷ people in
    let now = subst (λ (n : ℕ). admitted ++ kept (drop at all) (filled_up (drop at marks) n) ≡ whole) none so_far in
    subst (λ (n : ℕ). admitted ++ kept (drop (at + 1) all) (filled_up (drop (at + 1) marks) n) ≡ whole) (sym none)
    (ap (λ (rest : List Person). admitted ++ rest) (sym (kept_at all marks at zero person false inside within same)) ∙ now)

-- the same, by other names
pub renamed : (people : List Person) (marks : List Bool) (free n : ℕ) (admitted those whole : List Person) → those ≡ admitted → n ≡ free
    → admitted ++ kept people (filled_up marks free) ≡ whole → those ++ kept people (filled_up marks n) ≡ whole
renamed people marks free n admitted those whole same left so_far = ap₂ (λ (list : List Person) (k : ℕ). list ++ kept people (filled_up marks k)) same left ∙ so_far
