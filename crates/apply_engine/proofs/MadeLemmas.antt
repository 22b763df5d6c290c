-- The effective lists one by one, and seats given one by one.
use Rattle.std.proofs.Common.{◌≡◌, ◌<◌, ◌+◌, ◌⊎◌, inl, inr, ℕ, zero, suc, List, [], ◌∷◌, ◌++◌, Option, Some, None, length, drop, take, slice_set, arith, refl, sym, ap, ◌∙◌, subst, add-one, append_assoc, length-set, get_or}
use Rattle.std.specs.Prelude.{slice_get, option_map}
use Rattle.std.proofs.lemmas.Bool.Decides.{eqb_tells}
use Rattle.std.proofs.lemmas.Option.{slice_get-get_or, slice_get_within}
use Rattle.office_base.specs.Lists.{IsAmong, Pairwise}
use Rattle.office_base.specs.declared.seat.Seat.{Seat}
use Rattle.office_base.specs.declared.person.Person.{Person}
use Rattle.office_base.specs.declared.person.ProgId.{ProgId}
use Rattle.office_base.proofs.Lists.{there_is, get_set_other}
use Rattle.allocations.proofs.Course.{get_set_same}
use Rattle.choice_lists.specs.Choices.{Lists}
use Rattle.rank_lists.specs.Register.{row_of}
use Rattle.seat_matrix.specs.Matrix.{SeatTable}
use Rattle.seeks.specs.Seek.{seek_leaves}
use Rattle.seeks.specs.declared.seek.Seek.{Seek}
use Rattle.apply_engine.specs.Engine.{lists_in}
use Rattle.apply_engine.specs.Made.{AreOf, IsPut, leaves_along}
use Rattle.round_laws.proofs.People.{one_row, row_at}

-- the list at a place of the register
pub list_at_row : (lists : Lists) (i : ℕ) → slice_get (lists_in lists) i ≡ option_map (λ (held : ℕ × List ProgId). held.1) (slice_get lists i)
list_at_row [] i = refl
list_at_row (held ∷ lists) zero = refl
list_at_row (held ∷ lists) (suc i) = list_at_row lists i

next_suc : (table : SeatTable) (lists : List (List ProgId)) (seeks : List Seek) (i : ℕ) (list : List ProgId) (seek : Seek) → slice_get lists i ≡ Some list → slice_get seeks i ≡ Some seek
    → leaves_along table (drop i lists) (drop i seeks) ≡ seek_leaves table seek list ∷ leaves_along table (drop (suc i) lists) (drop (suc i) seeks)
next_suc table [] seeks i list seek at at' = absurd (cc)
next_suc table (l ∷ lists) [] i list seek at at' = absurd (cc)
next_suc table (l ∷ lists) (s ∷ seeks) zero list seek at at' =
    let first : l ≡ list = cc in
    let second : s ≡ seek = cc in
    ap (λ z. seek_leaves table s z ∷ leaves_along table lists seeks) first ∙ ap (λ z. seek_leaves table z list ∷ leaves_along table lists seeks) second
next_suc table (l ∷ lists) (s ∷ seeks) (suc i) list seek at at' = next_suc table lists seeks i list seek at at'

-- what the seeks from a place on leave begins with what the one there leaves
pub leaves_next : (table : SeatTable) (lists : List (List ProgId)) (seeks : List Seek) (i : ℕ) (list : List ProgId) (seek : Seek) → slice_get lists i ≡ Some list → slice_get seeks i ≡ Some seek
    → leaves_along table (drop i lists) (drop i seeks) ≡ seek_leaves table seek list ∷ leaves_along table (drop (i + 1) lists) (drop (i + 1) seeks)
leaves_next table lists seeks i list seek at at' =
    subst (λ k. leaves_along table (drop i lists) (drop i seeks) ≡ seek_leaves table seek list ∷ leaves_along table (drop k lists) (drop k seeks)) (sym (add-one i))
    (next_suc table lists seeks i list seek at at')

-- one more is done, and the rest is one shorter
pub one_more : {X : Type 0} (done new rest before whole : List X) (x : X) → new ≡ done ++ x ∷ [] → before ≡ x ∷ rest → done ++ before ≡ whole → new ++ rest ≡ whole
one_more done new rest before whole x made next all = ap (λ z. z ++ rest) made ∙ (append_assoc done (x ∷ []) rest ∙ (ap (λ z. done ++ z) (sym next) ∙ all))

-- ---- seats

among_end : {X : Type 0} (y x : X) (xs : List X) → IsAmong y (xs ++ x ∷ []) → IsAmong y xs ⊎ (y ≡ x)
among_end y x [] h = elim h [ inl e ↦ inr e | inr later ↦ absurd later ]
among_end y x (z ∷ xs) h = elim h [ inl e ↦ inl (inl e) | inr later ↦ elim (among_end y x xs later) [ inl a ↦ inl (inr a) | inr e ↦ inr e ] ]

among_before : {X : Type 0} (y x : X) (xs : List X) → IsAmong y xs → IsAmong y (xs ++ x ∷ [])
among_before y x [] h = absurd h
among_before y x (z ∷ xs) h = elim h [ inl e ↦ inl e | inr later ↦ inr (among_before y x xs later) ]

among_last : {X : Type 0} (x : X) (xs : List X) → IsAmong x (xs ++ x ∷ [])
among_last x [] = inl refl
among_last x (z ∷ xs) = inr (among_last x xs)

-- one person more is given the seat
pub put_more : (people : List Person) (seat : Seat) (some : List Person) (old seats : List (Option Seat)) (at : ℕ) (person : Person) → Pairwise (λ (a b : Person). a.id.0 < b.id.0) people
    → length old ≡ length people → slice_get people at ≡ Some person → IsPut people seat some old seats → IsPut people seat (some ++ person ∷ []) old (slice_set seats at (Some seat))
put_more people seat some old seats at person rising full there put =
    let less : at < length seats = (let short = slice_get_within people at person there in omega (arith, short, full, put.full)) in
    let before = there_is seats at less in
    record {
      full = length-set seats at (Some seat) ∙ put.full;
      here = λ i other there' among. elim (eqb_tells i at) [
        | inl h ↦ subst (λ k. slice_get (slice_set seats at (Some seat)) k ≡ Some (Some seat)) (sym h.1) (get_set_same seats at (Some seat) before.0 before.1)
        | inr h ↦ elim (among_end other person some among) [
          | inl among' ↦ get_set_other seats at i (Some seat) h.1 ∙ put.here i other there' among'
          | inr same ↦ absurd (h.1 (one_row people i at person person rising (subst (λ z. slice_get people i ≡ Some z) same there') there refl))
        ]
      ];
      elsewhere = λ i other there' apart. elim (eqb_tells i at) [
        | inl h ↦ absurd (
            let there'' : slice_get people at ≡ Some other = subst (λ k. slice_get people k ≡ Some other) h.1 there' in
            let same : person ≡ other = cc in
            apart (subst (λ z. IsAmong z (some ++ person ∷ [])) same (among_last person some)))
        | inr h ↦ get_set_other seats at i (Some seat) h.1 ∙ put.elsewhere i other there' (λ among. apart (among_before other person some among))
      ];
    }

take_next : {X : Type 0} (xs : List X) (i : ℕ) (x : X) → slice_get xs i ≡ Some x → take (i + 1) xs ≡ take i xs ++ x ∷ []
take_next [] i x at = absurd (cc)
take_next (y ∷ xs) zero x at = ap (λ z. z ∷ []) (let same : y ≡ x = cc in same)
take_next (y ∷ xs) (suc i) x at = ap (λ k. take k (y ∷ xs)) (add-one (suc i)) ∙ (ap (λ z. y ∷ z) (ap (λ k. take k xs) (sym (add-one i)) ∙ take_next xs i x at))

-- the person at a place of those admitted, and the row of that person
pub record Admitted (people admitted : List Person) (i at : ℕ) (person : Person) : Type 0 where
  pub there : slice_get people at ≡ Some person
  pub more : take (i + 1) admitted ≡ take i admitted ++ person ∷ []

is_among : {X : Type 0} (xs : List X) (i : ℕ) (x : X) → slice_get xs i ≡ Some x → IsAmong x xs
is_among [] i x at = absurd (cc)
is_among (y ∷ xs) zero x at = inl (let same : y ≡ x = cc in sym same)
is_among (y ∷ xs) (suc i) x at = inr (is_among xs i x at)

pub has_row : (people admitted : List Person) (i : ℕ) (d : Person) → AreOf people admitted → Pairwise (λ (a b : Person). a.id.0 < b.id.0) people → i < length admitted
    → (at : ℕ) × (row_of (get_or admitted i d).id.0 people ≡ Some at) × (slice_get people at ≡ Some (get_or admitted i d)) × (slice_get admitted i ≡ Some (get_or admitted i d))
has_row people admitted i d are rising less =
    let there = slice_get-get_or admitted i d less in
    let found = are (get_or admitted i d) (is_among admitted i (get_or admitted i d) there) in
    (found.0, row_at people found.0 (get_or admitted i d) rising found.1, found.1, there)

pub admitted_at : (people admitted : List Person) (i at : ℕ) (d : Person) → AreOf people admitted → Pairwise (λ (a b : Person). a.id.0 < b.id.0) people → i < length admitted
    → Some at ≡ row_of (get_or admitted i d).id.0 people → Admitted people admitted i at (get_or admitted i d)
admitted_at people admitted i at d are rising less row =
    let found = has_row people admitted i d are rising less in
    let same : found.0 ≡ at = (let e = found.1 in cc) in
    record {
      there = subst (λ k. slice_get people k ≡ Some (get_or admitted i d)) same found.2;
      more = take_next admitted i (get_or admitted i d) found.3;
    }

pub no_row : (people admitted : List Person) (i : ℕ) (d : Person) → AreOf people admitted → Pairwise (λ (a b : Person). a.id.0 < b.id.0) people → i < length admitted
    → None ≡ row_of (get_or admitted i d).id.0 people → ⊥
no_row people admitted i d are rising less row = let found = has_row people admitted i d are rising less in let e = found.1 in cc
