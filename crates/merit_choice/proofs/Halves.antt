-- The place of a new person among people in merit order, found by halves.
use Rattle.std.proofs.Common.{◌≡◌, ◌≤◌, ◌<◌, ◌-◌, ℕ, zero, suc, true, List, ◌∷◌, ◌++◌, length, take, drop, get_or, refl, sym, ap, ◌∙◌, subst, arith}
use Rattle.std.specs.List.{insert}
use Rattle.std.proofs.Math.Seq.{drop-cons}
use Rattle.std.proofs.lemmas.List.{append-nil, drop_all, take_all, take-append-drop}
use Rattle.office_base.specs.Lists.{Pairwise}
use Rattle.office_base.specs.Person.{IsBetter}
use Rattle.office_base.specs.declared.person.ListId.{ListId}
use Rattle.office_base.specs.declared.person.Person.{Person}
use Rattle.merit_choice.specs.InMerit.{is_better, with_person}
use Rattle.merit_choice.proofs.Places.{IsBefore, place_here, with_before}

-- the person comes before anyone who is worse
pub before_worse : (list : ListId) (person other : Person) (people : List Person) (at : ℕ) → at < length people → is_better list person (get_or people at other) ≡ true → IsBefore list person people at
before_worse list person other people at inside worse =
    let rest : drop at people ≡ get_or people at other ∷ drop (suc at) people = drop-cons people at other inside in
    ap (λ (back : List Person). with_person list person (take at people) ++ back) rest
    ∙ sym (with_before list person (get_or people at other) (take at people) (drop (suc at) people) worse)
    ∙ ap (λ (back : List Person). with_person list person (take at people ++ back)) (sym rest)
    ∙ ap (with_person list person) (take-append-drop at people)

-- nobody is after the last place
pub before_end : (list : ListId) (person : Person) (people : List Person) (at : ℕ) → at ≡ length people → IsBefore list person people at
before_end list person people at end =
    ap (λ (back : List Person). with_person list person (take at people) ++ back) (drop_all at people (omega arith))
    ∙ append-nil (with_person list person (take at people))
    ∙ ap (with_person list person) (take_all at people (omega arith))

-- the first place before which nobody is worse
pub place_met : (list : ListId) (person other : Person) (people : List Person) (at : ℕ) → Pairwise (IsBetter list) people → at ≤ length people
    → (0 < at → IsBetter list (get_or people (at - 1) other) person) → IsBefore list person people at → insert people at person ≡ with_person list person people
place_met list person other people zero order inside better so_far = so_far
place_met list person other people (suc at) order inside better so_far =
    let last : suc at - 1 ≡ at = omega arith in
    place_here list person other people (suc at) at order refl inside (subst (λ (k : ℕ). IsBetter list (get_or people k other) person) last (better (omega arith))) so_far
