-- Places in a list: what is there, who applies, and where a seat is.
use Rattle.std.proofs.Common.{◌≡◌, ◌<◌, ◌≤◌, ◌+◌, inl, inr, ℕ, Bool, true, false, List, [], ◌∷◌, Option, Some, None, length, arith, refl, sym, ap, ◌∙◌, subst, nat_lt, ◌==◌, if◌then◌else◌, add-one}
use Rattle.std.specs.Prelude.{slice_get, nat_le}
use Rattle.std.proofs.lemmas.Bool.{and_from, and_parts, eq-eqb, eqb-true, le-leb, leb-true, lt-ltb, ltb-true}
use Rattle.std.proofs.lemmas.Bool.Decides.{eqb_tells}
use Rattle.office_base.specs.declared.person.ProgId.{ProgId}
use Rattle.office_base.specs.declared.seat.Seat.{Seat}
use Rattle.office_base.specs.declared.seat.SeatKind.{SeatKind}
use Rattle.allocations.specs.Market.{place_of, rank_of, seat_at, wants, applies, is_of}
use Rattle.allocations.specs.Fair.{IsOwn}

-- two tests that pass for the same reasons are one
pub same_tests : (a b : Bool) → (a ≡ true → b ≡ true) → (b ≡ true → a ≡ true) → a ≡ b
same_tests true true f g = refl
same_tests true false f g = sym (f refl)
same_tests false true f g = g refl
same_tests false false f g = refl

place_cons : (b : Bool) (q : ProgId) (p k : ℕ) (qs : List ProgId) → (b ≡ true → q.0 ≡ p) → (k < length qs → (r : ProgId) × (slice_get qs k ≡ Some r) × (r.0 ≡ p))
    → (if b then 0 else k + 1) < length (q ∷ qs) → (r : ProgId) × (slice_get (q ∷ qs) (if b then 0 else k + 1) ≡ Some r) × (r.0 ≡ p)
place_cons true q p k qs here later less = (q, refl, here refl)
place_cons false q p k qs here later less =
    let found = later (omega arith) in
    let P : ℕ → Type 0 = λ n. slice_get (q ∷ qs) n ≡ Some found.0 in
    (found.0, subst P (sym (add-one k)) found.1, found.2)

-- the programme is at its place
pub place_read : (list : List ProgId) (p : ℕ) → place_of list p < length list → (q : ProgId) × (slice_get list (place_of list p) ≡ Some q) × (q.0 ≡ p)
place_read [] p less = absurd (omega arith)
place_read (q ∷ qs) p less = place_cons (q.0 == p) q p (place_of qs p) qs (eqb-true q.0 p) (place_read qs p) less

-- two programmes at one place are one
pub one_place : (list : List ProgId) (p r : ℕ) → place_of list p < length list → place_of list p ≡ place_of list r → p ≡ r
one_place list p r less same =
    let mine = place_read list p less in
    let less' : place_of list r < length list = omega (arith, same, less) in
    let his = place_read list r less' in
    let here : slice_get list (place_of list p) ≡ Some his.0 = subst (λ n. slice_get list n ≡ Some his.0) (sym same) his.1 in
    let found : mine.0 ≡ his.0 = (let e = mine.1 in cc) in
    sym mine.2 ∙ (ap (λ (q : ProgId). q.0) found ∙ his.2)

pub applies_true : (p : ℕ) (list : List ProgId) (seat : Option Seat) → place_of list p < length list → place_of list p ≤ rank_of list seat → applies p list seat ≡ true
applies_true p list seat less within = and_from _ _ (lt-ltb _ _ less) (le-leb _ _ within)

pub record Applies (p : ℕ) (list : List ProgId) (seat : Option Seat) : Type 0 where
  pub wants : place_of list p < length list
  pub within : place_of list p ≤ rank_of list seat

pub applies_means : (p : ℕ) (list : List ProgId) (seat : Option Seat) → applies p list seat ≡ true → Applies p list seat
applies_means p list seat e =
    let parts = and_parts (nat_lt (place_of list p) (length list)) (nat_le (place_of list p) (rank_of list seat)) e in
    record { wants = ltb-true _ _ parts.0; within = leb-true _ _ parts.1 }

-- a seat of the seeker's own list is in it
pub rank_within : (list : List ProgId) (seat : Option Seat) → IsOwn list seat → rank_of list seat ≤ length list
rank_within list None own = omega arith
rank_within list (Some seat) own = omega (arith, own)

-- a person who holds a seat of a programme applies to it
pub holder_applies : (p : ℕ) (list : List ProgId) (seat : Option Seat) → IsOwn list seat → is_of p seat ≡ true → applies p list seat ≡ true
holder_applies p list None own holds = absurd (cc)
holder_applies p list (Some seat) own holds =
    let same : seat.prog.0 ≡ p = eqb-true _ _ holds in
    let less : place_of list p < length list = subst (λ n. place_of list n < length list) same own in
    let place : place_of list seat.prog.0 ≡ place_of list p = ap (λ n. place_of list n) same in
    applies_true p list (Some seat) less (omega (arith, place))

-- a person who applies and holds no seat of the programme wants it more than their seat
pub applies_before : (p : ℕ) (list : List ProgId) (seat : Option Seat) → Applies p list seat → is_of p seat ≡ false → place_of list p < rank_of list seat
applies_before p list None applies holds = applies.wants
applies_before p list (Some seat) applies holds =
    elim (eqb_tells (place_of list p) (place_of list seat.prog.0)) [
      | inl h ↦ absurd (
          let same = one_place list p seat.prog.0 applies.wants h.1 in
          let yes = eq-eqb seat.prog.0 p (sym same) in
          let no : seat.prog.0 == p ≡ false = holds in
          cc)
      | inr h ↦ (let within : place_of list p ≤ place_of list seat.prog.0 = applies.within in
          let apart = h.1 in
          omega (arith, within, apart))
    ]

-- the programme and the step of a seat decide it
pub seat_same : (x y : Seat) → x.prog.0 ≡ y.prog.0 → x.step ≡ y.step → x ≡ y
seat_same x y prog step = ap (λ p. seat_at p x.step) prog ∙ ap (λ k. seat_at y.prog.0 k) step

-- the seat of a programme is of it
pub of_seat_at : (p : ℕ) (kind : SeatKind) → is_of p (Some (seat_at p kind)) ≡ true
of_seat_at p kind = eq-eqb p p refl

pub of_seat : (p : ℕ) (seat : Option Seat) (kind : SeatKind) → seat ≡ Some (seat_at p kind) → is_of p seat ≡ true
of_seat p seat kind e = rw e (of_seat_at p kind)

-- a seat that is of a programme, with its step
pub seat_of : (p : ℕ) (seat : Option Seat) → is_of p seat ≡ true → (kind : SeatKind) × (seat ≡ Some (seat_at p kind))
seat_of p None e = absurd (cc)
seat_of p (Some seat) e = (seat.step, ap Some (seat_same seat (seat_at p seat.step) (eqb-true _ _ e) refl))
