-- The seats that rows give, with a row more.
use Rattle.std.proofs.Common.{◌≡◌, ◌<◌, inl, inr, ℕ, zero, suc, Bool, true, false, List, [], ◌∷◌, ◌++◌, Option, Some, None, length, get_or, slice_set, arith, refl, sym, ap, ◌∙◌, ◌==◌, if◌then◌else◌}
use Rattle.std.specs.Option.{option_or}
use Rattle.std.specs.Prelude.{option_map, replicate, slice_get}
use Rattle.std.proofs.lemmas.Bool.{cases_Bool, cond-false, cond-true, eq-eqb, eqb-true}
use Rattle.std.proofs.lemmas.Option.{get_or_from_slice_get, slice_get-map}
use Rattle.office_base.specs.declared.seat.Seat.{Seat}
use Rattle.office_base.specs.declared.person.Person.{Person}
use Rattle.kept_rows.specs.declared.rows.AllotRow.{AllotRow}
use Rattle.rank_lists.specs.Register.{row_of}
use Rattle.rank_lists.proofs.Known.{row_cases, none_when}
pub use Rattle.rank_lists.proofs.Known.{known}
use Rattle.audit_rules.specs.Papers.{seat_told, seats_told}
use Rattle.audit_rules.proofs.RegisterLists.{AreRising, same_map, set_along}

-- ---- the place of an id

-- the person of the id is there
pub stands : (id : ℕ) (people : List Person) (at : ℕ) → row_of id people ≡ Some at → (person : Person) × (slice_get people at ≡ Some person) × (person.id.0 ≡ id)
stands id [] at e = absurd (cc)
stands id (p ∷ people) at e = elim (row_cases (id == p.id.0) (row_of id people) at e) [
  | inl h ↦ (p, rw h.1 refl, sym (eqb-true id p.id.0 h.0))
  | inr h ↦ let rest = stands id people h.0 h.2 in (rest.0, rw h.3 rest.1, rest.2)
]

-- or nobody has it
pub nobody : (id : ℕ) (people : List Person) → row_of id people ≡ None → (i : ℕ) (person : Person) → slice_get people i ≡ Some person → (person.id.0 ≡ id → ⊥)
nobody id [] e i person there same = absurd (cc)
nobody id (p ∷ people) e zero person there same =
    let parts = none_when (id == p.id.0) (row_of id people) e in
    let first : p ≡ person = cc in
    let own = eq-eqb id p.id.0 (sym same ∙ ap (λ (z : Person). z.id.0) (sym first)) in
    absurd (let wrong = parts.0 in cc)
nobody id (p ∷ people) e (suc i) person there same = nobody id people (none_when (id == p.id.0) (row_of id people) e).1 i person there same

-- ---- a row more

told_if : (b : Bool) (seat : Seat) (rest other : Option Seat) → (if b then Some seat else option_or rest other) ≡ option_or (if b then Some seat else rest) other
told_if true seat rest other = refl
told_if false seat rest other = refl

abbrev seat_in : AllotRow → Seat
seat_in row = record { prog = row.prog; step = row.step }

told_append : (rows : List AllotRow) (row : AllotRow) (id : ℕ) → seat_told (rows ++ row ∷ []) id ≡ option_or (seat_told rows id) (seat_told (row ∷ []) id)
told_append [] row id = refl
told_append (first ∷ rows) row id =
    ap (λ (z : Option Seat). if first.cand.0 == id then Some (seat_in first) else z) (told_append rows row id) ∙ told_if (first.cand.0 == id) (seat_in first) (seat_told rows id) (seat_told (row ∷ []) id)

told_own : (row : AllotRow) (id : ℕ) → row.cand.0 ≡ id → seat_told (row ∷ []) id ≡ Some (seat_in row)
told_own row id e = cond-true (row.cand.0 == id) (Some (seat_in row)) None (eq-eqb row.cand.0 id e)

told_none : (row : AllotRow) (id : ℕ) → (id ≡ row.cand.0 → ⊥) → seat_told (row ∷ []) id ≡ None
told_none row id other = elim (cases_Bool (row.cand.0 == id)) [ inl e ↦ absurd (other (sym (eqb-true row.cand.0 id e))) | inr e ↦ cond-false (row.cand.0 == id) (Some (seat_in row)) None e ]

none_more : (o : Option Seat) → option_or o None ≡ o
none_more None = refl
none_more (Some seat) = refl

told_other : (rows : List AllotRow) (row : AllotRow) (id : ℕ) → (id ≡ row.cand.0 → ⊥) → seat_told (rows ++ row ∷ []) id ≡ seat_told rows id
told_other rows row id other = told_append rows row id ∙ (ap (option_or (seat_told rows id)) (told_none row id other) ∙ none_more (seat_told rows id))

-- a row of nobody gives no seat
pub told_unknown : (rows : List AllotRow) (row : AllotRow) (people : List Person) → row_of row.cand.0 people ≡ None → seats_told rows people ≡ seats_told (rows ++ row ∷ []) people
told_unknown rows row people none =
    same_map (λ (p : Person). seat_told rows p.id.0) (λ (p : Person). seat_told (rows ++ row ∷ []) p.id.0) people
    (λ i p there. told_other rows row p.id.0 (nobody row.cand.0 people none i p there))

-- one of somebody gives a seat, where there is none
pub told_put : (rows : List AllotRow) (row : AllotRow) (people : List Person) (at : ℕ) (d : Option Seat) → AreRising people → row_of row.cand.0 people ≡ Some at → at < length people
    → slice_set (seats_told rows people) at (option_or (get_or (seats_told rows people) at d) (Some (record { prog = row.prog; step = row.step }))) ≡ seats_told (rows ++ row ∷ []) people
told_put rows row people at d rising place less =
    let who = stands row.cand.0 people at place in
    let here : slice_get (seats_told rows people) at ≡ Some (seat_told rows who.0.id.0) =
    slice_get-map (λ (p : Person). seat_told rows p.id.0) people at ∙ ap (λ (o : Option Person). option_map (λ (p : Person). seat_told rows p.id.0) o) who.1 in
    let mine : get_or (seats_told rows people) at d ≡ seat_told rows who.0.id.0 = get_or_from_slice_get (seats_told rows people) at (seat_told rows who.0.id.0) d here in
    let new : option_or (get_or (seats_told rows people) at d) (Some (seat_in row)) ≡ seat_told (rows ++ row ∷ []) who.0.id.0 =
    ap (λ (z : Option Seat). option_or z (Some (seat_in row))) mine
    ∙ (ap (option_or (seat_told rows who.0.id.0)) (sym (told_own row who.0.id.0 (sym who.2))) ∙ sym (told_append rows row who.0.id.0)) in
    ap (slice_set (seats_told rows people) at) new
    ∙ set_along (λ (p : Person). seat_told rows p.id.0) (λ (p : Person). seat_told (rows ++ row ∷ []) p.id.0) people at who.0 rising who.1
    (λ p other. told_other rows row p.id.0 (λ same. other (same ∙ sym who.2)))

-- before any row nobody has a seat
pub none_along : (n : ℕ) (people : List Person) → n ≡ length people → replicate n None ≡ seats_told [] people
none_along zero [] e = refl
none_along zero (p ∷ people) e = absurd (omega (arith, e))
none_along (suc n) [] e = absurd (omega (arith, e))
none_along (suc n) (p ∷ people) e = ap (λ (z : List (Option Seat)). None ∷ z) (none_along n people (omega (arith, e)))
