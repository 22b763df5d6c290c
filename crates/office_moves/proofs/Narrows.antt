-- What a candidate seeks next, the candidate applied for under the last seek.
use Rattle.std.proofs.Common.{◌≡◌, ◌≢◌, ◌<◌, ◌≤◌, ◌+◌, ◌⊎◌, inl, inr, ℕ, zero, suc, Bool, true, false, List, [], ◌∷◌, Option, Some, None, length, arith, refl, sym, ap, ◌∙◌, subst, ◌==◌, if◌then◌else◌}
use Rattle.std.specs.Prelude.{slice_get, nat_le, bytes_eq}
use Rattle.std.proofs.lemmas.Bool.{and_from, and_parts, cases_Bool, eq-eqb, eqb-true, le-leb, leb-true}
use Rattle.std.proofs.lemmas.Slice.Eq.{bytes_eq-Decides}
use Rattle.office_base.proofs.Lists.{all-get}
use Rattle.office_base.specs.Lists.{Pairwise}
use Rattle.office_base.specs.declared.seat.Seat.{Seat}
use Rattle.office_base.specs.declared.person.ProgId.{ProgId}
use Rattle.allocations.specs.Market.{applies, place_of}
use Rattle.allocations.proofs.Places.{applies_true}
use Rattle.seat_matrix.specs.Matrix.{SeatTable}
use Rattle.seat_matrix.specs.declared.entry.Home.{Home}
use Rattle.seeks.specs.Seek.{are_together, is_beside, is_left, left_from, seek_leaves}
use Rattle.seeks.specs.declared.seek.Seek.{Seek}
use Rattle.seeks.specs.declared.seek.Seek.TheVariants.{Whole, UpTo, Within, Only}
use Rattle.rounds.proofs.Entrants.{place_at}
use Rattle.office_base.specs.declared.choice.Choice.{Choice}
use Rattle.office_base.specs.declared.choice.Choice.TheVariants.{Freeze as ToFreeze, Float as ToFloat, Slide as ToSlide, Withdraw as ToWithdraw}
use Rattle.round_options.specs.Options.{holds, may_follow, seek_after, standing_of}
use Rattle.round_options.specs.declared.standing.Standing.{Standing}
use Rattle.round_options.specs.declared.standing.Standing.TheVariants.{Waiting, Offered, Freeze, Float, Slide, Withdrawn, NoShow}

-- ---- places

place_here : (q : ProgId) (qs : List ProgId) (p : ℕ) → q.0 == p ≡ true → place_of (q ∷ qs) p ≡ 0
place_here q qs p e = here (q.0 == p) (place_of qs p + 1) e
  where
    here : (b : Bool) (n : ℕ) → b ≡ true → (if b then 0 else n) ≡ 0
    here true n e = refl
    here false n e = absurd (cc)

place_later : (q : ProgId) (qs : List ProgId) (p : ℕ) → q.0 == p ≡ false → place_of (q ∷ qs) p ≡ place_of qs p + 1
place_later q qs p e = later (q.0 == p) (place_of qs p + 1) e
  where
    later : (b : Bool) (n : ℕ) → b ≡ false → (if b then 0 else n) ≡ n
    later true n e = absurd (cc)
    later false n e = refl

-- ---- a list with those of its programmes that pass a test of their places

abbrev kept : (ℕ → ProgId → Bool) → ℕ → List ProgId → List ProgId
kept f n [] = []
kept f n (q ∷ qs) = if f n q then q ∷ kept f (n + 1) qs else kept f (n + 1) qs

kept_with : (f : ℕ → ProgId → Bool) (n : ℕ) (q : ProgId) (qs : List ProgId) → f n q ≡ true → kept f n (q ∷ qs) ≡ q ∷ kept f (n + 1) qs
kept_with f n q qs e = with_it (f n q) (kept f (n + 1) qs) e
  where
    with_it : (b : Bool) (rest : List ProgId) → b ≡ true → (if b then q ∷ rest else rest) ≡ q ∷ rest
    with_it true rest e = refl
    with_it false rest e = absurd (cc)

kept_without : (f : ℕ → ProgId → Bool) (n : ℕ) (q : ProgId) (qs : List ProgId) → f n q ≡ false → kept f n (q ∷ qs) ≡ kept f (n + 1) qs
kept_without f n q qs e = without_it (f n q) (kept f (n + 1) qs) e
  where
    without_it : (b : Bool) (rest : List ProgId) → b ≡ false → (if b then q ∷ rest else rest) ≡ rest
    without_it true rest e = absurd (cc)
    without_it false rest e = refl

-- the programme is in the list, at a place where it passes
record Passes (f : ℕ → ProgId → Bool) (n : ℕ) (list : List ProgId) (p : ℕ) : Type 0 where
  place : ℕ
  prog : ProgId
  there : slice_get list place ≡ Some prog
  is : prog.0 ≡ p
  passed : f (n + place) prog ≡ true

passes_later : (f : ℕ → ProgId → Bool) (n : ℕ) (q : ProgId) (qs : List ProgId) (p : ℕ) → Passes f (n + 1) qs p → Passes f n (q ∷ qs) p
passes_later f n q qs p passes = record {
  place = suc passes.place;
  prog = passes.prog;
  there = passes.there;
  is = passes.is;
  passed = (let same : n + 1 + passes.place ≡ n + suc passes.place = omega arith in subst (λ k. f k passes.prog ≡ true) same passes.passed);
}

kept_passes : (f : ℕ → ProgId → Bool) (n : ℕ) (list : List ProgId) (p : ℕ) → place_of (kept f n list) p < length (kept f n list) → Passes f n list p
kept_passes f n [] p less = absurd (omega arith)
kept_passes f n (q ∷ qs) p less = elim (cases_Bool (f n q)) [
  | inl passed ↦
      let same = kept_with f n q qs passed in
      let less' : place_of (q ∷ kept f (n + 1) qs) p < length (q ∷ kept f (n + 1) qs) = subst (λ l. place_of l p < length l) same less in
      elim (cases_Bool (q.0 == p)) [
        | inl here ↦ record { place = 0; prog = q; there = refl; is = eqb-true q.0 p here; passed = (let none : n ≡ n + 0 = omega arith in subst (λ k. f k q ≡ true) none passed) }
        | inr other ↦ let next = place_later q (kept f (n + 1) qs) p other in passes_later f n q qs p (kept_passes f (n + 1) qs p (omega (arith, less', next)))
      ]
  | inr failed ↦ passes_later f n q qs p (kept_passes f (n + 1) qs p (subst (λ l. place_of l p < length l) (kept_without f n q qs failed) less))
]

in_longer : (q : ProgId) (qs : List ProgId) (p : ℕ) → place_of qs p < length qs → place_of (q ∷ qs) p < length (q ∷ qs)
in_longer q qs p less = elim (cases_Bool (q.0 == p)) [
  | inl here ↦ let first = place_here q qs p here in omega (arith, first)
  | inr other ↦ let next = place_later q qs p other in omega (arith, next, less)
]

passes_kept : (f : ℕ → ProgId → Bool) (n : ℕ) (list : List ProgId) (p k : ℕ) (prog : ProgId) → slice_get list k ≡ Some prog → prog.0 ≡ p → f (n + k) prog ≡ true
    → place_of (kept f n list) p < length (kept f n list)
passes_kept f n [] p k prog there is passed = absurd (cc)
passes_kept f n (q ∷ qs) p zero prog there is passed =
    let same : q ≡ prog = cc in
    let none : n + 0 ≡ n = omega arith in
    let passed' : f n q ≡ true = subst (λ z. f n z ≡ true) (sym same) (subst (λ k. f k prog ≡ true) none passed) in
    let here : q.0 == p ≡ true = eq-eqb q.0 p (ap (λ (z : ProgId). z.0) same ∙ is) in
    let first = place_here q (kept f (n + 1) qs) p here in
    subst (λ l. place_of l p < length l) (sym (kept_with f n q qs passed')) (omega (arith, first))
passes_kept f n (q ∷ qs) p (suc k) prog there is passed =
    let same : n + suc k ≡ n + 1 + k = omega arith in
    let rest = passes_kept f (n + 1) qs p k prog there is (subst (λ z. f z prog ≡ true) same passed) in
    elim (cases_Bool (f n q)) [
      | inl passing ↦ subst (λ l. place_of l p < length l) (sym (kept_with f n q qs passing)) (in_longer q (kept f (n + 1) qs) p rest)
      | inr failing ↦ subst (λ l. place_of l p < length l) (sym (kept_without f n q qs failing)) rest
    ]

-- the order of the list stays
kept_order : (f : ℕ → ProgId → Bool) (n : ℕ) (list : List ProgId) (p r : ℕ) → Pairwise (λ (a b : ProgId). a.0 ≢ b.0) list → place_of (kept f n list) p < length (kept f n list)
    → place_of list p ≤ place_of list r → place_of (kept f n list) p ≤ place_of (kept f n list) r
kept_order f n [] p r distinct less before = omega arith
kept_order f n (q ∷ qs) p r distinct less before = elim (cases_Bool (f n q)) [
  | inl passed ↦
      let same = kept_with f n q qs passed in
      let less' : place_of (q ∷ kept f (n + 1) qs) p < length (q ∷ kept f (n + 1) qs) = subst (λ l. place_of l p < length l) same less in
      let goal : place_of (q ∷ kept f (n + 1) qs) p ≤ place_of (q ∷ kept f (n + 1) qs) r = elim (cases_Bool (q.0 == p)) [
        | inl here ↦ let first = place_here q (kept f (n + 1) qs) p here in omega (arith, first)
        | inr other ↦ elim (cases_Bool (q.0 == r)) [
          | inl there ↦ let first = place_here q qs r there in let next = place_later q qs p other in absurd (omega (arith, before, first, next))
          | inr apart ↦
              let one = place_later q qs p other in
              let two = place_later q qs r apart in
              let three = place_later q (kept f (n + 1) qs) p other in
              let four = place_later q (kept f (n + 1) qs) r apart in
              let rest = kept_order f (n + 1) qs p r distinct.1 (omega (arith, less', three)) (omega (arith, before, one, two)) in
              omega (arith, rest, three, four)
        ]
      ] in
      subst (λ l. place_of l p ≤ place_of l r) (sym same) goal
  | inr failed ↦
      let same = kept_without f n q qs failed in
      let less' : place_of (kept f (n + 1) qs) p < length (kept f (n + 1) qs) = subst (λ l. place_of l p < length l) same less in
      let found = kept_passes f (n + 1) qs p less' in
      let other : q.0 ≢ found.prog.0 = all-get (λ (b : ProgId). q.0 ≢ b.0) qs found.place found.prog distinct.0 found.there in
      let not_here : q.0 == p ≡ false = elim (cases_Bool (q.0 == p)) [ inl e ↦ absurd (other (eqb-true q.0 p e ∙ sym found.is)) | inr e ↦ e ] in
      let one = place_later q qs p not_here in
      let goal : place_of (kept f (n + 1) qs) p ≤ place_of (kept f (n + 1) qs) r = elim (cases_Bool (q.0 == r)) [
        | inl there ↦ let first = place_here q qs r there in absurd (omega (arith, before, first, one))
        | inr apart ↦ let two = place_later q qs r apart in kept_order f (n + 1) qs p r distinct.1 less' (omega (arith, before, one, two))
      ] in
      subst (λ l. place_of l p ≤ place_of l r) (sym same) goal
]

-- ---- what a seek leaves

left_kept : (table : SeatTable) (seek : Seek) (progs : List ProgId) (n : ℕ) (rest : List ProgId) → left_from table seek progs n rest ≡ kept (is_left table seek progs) n rest
left_kept table seek progs n [] = refl
left_kept table seek progs n (q ∷ rest) =
    ap (λ (l : List ProgId). if is_left table seek progs n q then q ∷ l else l) (left_kept table seek progs (n + 1) rest)

leaves_kept : (table : SeatTable) (seek : Seek) (progs : List ProgId) → seek_leaves table seek progs ≡ kept (is_left table seek progs) 0 progs
leaves_kept table seek progs = left_kept table seek progs 0 progs

-- a programme that a seek leaves, with its place in the whole list
pub record IsLeft (table : SeatTable) (seek : Seek) (progs : List ProgId) (p : ℕ) : Type 0 where
  pub place : ℕ
  pub prog : ProgId
  pub there : slice_get progs place ≡ Some prog
  pub is : prog.0 ≡ p
  pub left : is_left table seek progs place prog ≡ true

pub left_there : (table : SeatTable) (seek : Seek) (progs : List ProgId) (p : ℕ) → place_of (seek_leaves table seek progs) p < length (seek_leaves table seek progs) → IsLeft table seek progs p
left_there table seek progs p less =
    let passes = kept_passes (is_left table seek progs) 0 progs p (subst (λ l. place_of l p < length l) (leaves_kept table seek progs) less) in
    let none : 0 + passes.place ≡ passes.place = omega arith in
    record { place = passes.place; prog = passes.prog; there = passes.there; is = passes.is; left = subst (λ k. is_left table seek progs k passes.prog ≡ true) none passes.passed }

pub there_left : (table : SeatTable) (seek : Seek) (progs : List ProgId) (p k : ℕ) (prog : ProgId) → slice_get progs k ≡ Some prog → prog.0 ≡ p → is_left table seek progs k prog ≡ true
    → place_of (seek_leaves table seek progs) p < length (seek_leaves table seek progs)
there_left table seek progs p k prog there is left =
    let none : k ≡ 0 + k = omega arith in
    subst (λ l. place_of l p < length l) (sym (leaves_kept table seek progs))
    (passes_kept (is_left table seek progs) 0 progs p k prog there is (subst (λ z. is_left table seek progs z prog ≡ true) none left))

pub left_order : (table : SeatTable) (seek : Seek) (progs : List ProgId) (p r : ℕ) → Pairwise (λ (a b : ProgId). a.0 ≢ b.0) progs
    → place_of (seek_leaves table seek progs) p < length (seek_leaves table seek progs) → place_of progs p ≤ place_of progs r
    → place_of (seek_leaves table seek progs) p ≤ place_of (seek_leaves table seek progs) r
left_order table seek progs p r distinct less before =
    let same = leaves_kept table seek progs in
    subst (λ l. place_of l p ≤ place_of l r) (sym same) (kept_order (is_left table seek progs) 0 progs p r distinct (subst (λ l. place_of l p < length l) same less) before)

-- ---- what a later seek leaves was applied for under the last one

-- whatever the later seek leaves, the last one leaves too, and it is at the seat or before it
abbrev pub Narrower : SeatTable → Seek → Seek → List ProgId → ℕ → Type 0
Narrower table last next progs k = (j : ℕ) (prog : ProgId) → slice_get progs j ≡ Some prog → is_left table next progs j prog ≡ true → (is_left table last progs j prog ≡ true) × (j ≤ k)

-- the seat is at this place of the list, where the last seek left it
pub record IsSeatAt (table : SeatTable) (last : Seek) (progs : List ProgId) (seat : Seat) (k : ℕ) : Type 0 where
  pub there : slice_get progs k ≡ Some seat.prog
  pub left : is_left table last progs k seat.prog ≡ true

only_narrows : (table : SeatTable) (last : Seek) (progs : List ProgId) (seat : Seat) (k : ℕ) → IsSeatAt table last progs seat k → Narrower table last (Only k) progs k
only_narrows table last progs seat k seated j prog there left =
    let same : j ≡ k = eqb-true j k left in
    let there' : slice_get progs k ≡ Some prog = subst (λ n. slice_get progs n ≡ Some prog) same there in
    let held = seated.there in
    let one : prog ≡ seat.prog = cc in
    (subst (λ q. is_left table last progs j q ≡ true) (sym one) (subst (λ n. is_left table last progs n seat.prog ≡ true) (sym same) seated.left), omega (arith, same))

whole_narrows : (table : SeatTable) (progs : List ProgId) (k : ℕ) → Narrower table Whole (UpTo k) progs k
whole_narrows table progs k j prog there left = (refl, leb-true j k left)

whole_within : (table : SeatTable) (progs : List ProgId) (k : ℕ) → Narrower table Whole (Within k) progs k
whole_within table progs k j prog there left = (refl, leb-true j k (and_parts (nat_le j k) _ left).0)

upto_narrows : (table : SeatTable) (progs : List ProgId) (seat : Seat) (last k : ℕ) → IsSeatAt table (UpTo last) progs seat k → Narrower table (UpTo last) (UpTo k) progs k
upto_narrows table progs seat last k seated j prog there left =
    let before = leb-true k last seated.left in
    let here = leb-true j k left in
    (le-leb j last (omega (arith, before, here)), here)

upto_within : (table : SeatTable) (progs : List ProgId) (seat : Seat) (last k : ℕ) → IsSeatAt table (UpTo last) progs seat k → Narrower table (UpTo last) (Within k) progs k
upto_within table progs seat last k seated j prog there left =
    let before = leb-true k last seated.left in
    let here = leb-true j k (and_parts (nat_le j k) _ left).0 in
    (le-leb j last (omega (arith, before, here)), here)

-- two that stand together with a third stand together
together : (a b c : Option (List ℕ × Home)) → are_together a b ≡ true → are_together b c ≡ true → are_together a c ≡ true
together None b c first second = absurd (cc)
together (Some a) None c first second = absurd (cc)
together (Some a) (Some b) None first second = absurd (cc)
together (Some a) (Some b) (Some c) first second =
    let one = (bytes_eq-Decides a.1.institute b.1.institute).0 first in
    subst (λ (z : List ℕ). bytes_eq z c.1.institute ≡ true) (sym one) second

beside : (table : SeatTable) (first : Option ProgId) (held prog : ProgId) → is_beside table first held ≡ true → is_beside table (Some held) prog ≡ true → is_beside table first prog ≡ true
beside table None held prog first second = absurd (cc)
beside table (Some other) held prog first second = together (slice_get table.programmes other.0) (slice_get table.programmes held.0) (slice_get table.programmes prog.0) first second

within_narrows : (table : SeatTable) (progs : List ProgId) (seat : Seat) (last k : ℕ) → IsSeatAt table (Within last) progs seat k → Narrower table (Within last) (Within k) progs k
within_narrows table progs seat last k seated j prog there left =
    let held = and_parts (nat_le k last) (is_beside table (slice_get progs last) seat.prog) seated.left in
    let mine = and_parts (nat_le j k) (is_beside table (slice_get progs k) prog) left in
    let before = leb-true k last held.0 in
    let here = leb-true j k mine.0 in
    let at_seat : is_beside table (Some seat.prog) prog ≡ true = subst (λ o. is_beside table o prog ≡ true) seated.there mine.1 in
    (and_from (nat_le j last) (is_beside table (slice_get progs last) prog) (le-leb j last (omega (arith, before, here))) (beside table (slice_get progs last) seat.prog prog held.1 at_seat), here)

-- how the last seek fits the standing that the last cut left, for one who has a seat
abbrev pub FitsLast : Standing → Seek → Type 0
FitsLast Waiting last = last ≡ Whole
FitsLast Offered last = last ≡ Whole
FitsLast Freeze last = (n : ℕ) × (last ≡ Only n)
FitsLast Float last = (n : ℕ) × (last ≡ UpTo n)
FitsLast Slide last = (n : ℕ) × (last ≡ Within n)
FitsLast Withdrawn last = Unit {0}
FitsLast NoShow last = Unit {0}

-- the standing is the one that was left, or an answer that may follow it
abbrev pub Follows : Standing → Standing → Type 0
Follows left standing = (standing ≡ left) ⊎ ((choice : Choice) × (may_follow left choice ≡ true) × (standing ≡ standing_of choice))

-- the last seek of a candidate who floats was of the whole list or up to a place
float_from : (left : Standing) (last : Seek) → FitsLast left last → Follows left Float → (last ≡ Whole) ⊎ ((n : ℕ) × (last ≡ UpTo n))
float_from Waiting last fits (inl e) = absurd (cc)
float_from Waiting last fits (inr (ToFreeze, e, f)) = absurd (cc)
float_from Waiting last fits (inr (ToFloat, e, f)) = absurd (cc)
float_from Waiting last fits (inr (ToSlide, e, f)) = absurd (cc)
float_from Waiting last fits (inr (ToWithdraw, e, f)) = absurd (cc)
float_from Offered last fits follows = inl fits
float_from Freeze last fits (inl e) = absurd (cc)
float_from Freeze last fits (inr (ToFreeze, e, f)) = absurd (cc)
float_from Freeze last fits (inr (ToFloat, e, f)) = absurd (cc)
float_from Freeze last fits (inr (ToSlide, e, f)) = absurd (cc)
float_from Freeze last fits (inr (ToWithdraw, e, f)) = absurd (cc)
float_from Float last fits follows = inr fits
float_from Slide last fits (inl e) = absurd (cc)
float_from Slide last fits (inr (ToFreeze, e, f)) = absurd (cc)
float_from Slide last fits (inr (ToFloat, e, f)) = absurd (cc)
float_from Slide last fits (inr (ToSlide, e, f)) = absurd (cc)
float_from Slide last fits (inr (ToWithdraw, e, f)) = absurd (cc)
float_from Withdrawn last fits (inl e) = absurd (cc)
float_from Withdrawn last fits (inr c) = absurd (let e = c.1 in cc)
float_from NoShow last fits (inl e) = absurd (cc)
float_from NoShow last fits (inr c) = absurd (let e = c.1 in cc)

-- the last seek of a candidate who slides was of the whole list, up to a place, or within an institute
slide_from : (left : Standing) (last : Seek) → FitsLast left last → Follows left Slide → (last ≡ Whole) ⊎ (((n : ℕ) × (last ≡ UpTo n)) ⊎ ((n : ℕ) × (last ≡ Within n)))
slide_from Waiting last fits follows = inl fits
slide_from Offered last fits follows = inl fits
slide_from Freeze last fits (inl e) = absurd (cc)
slide_from Freeze last fits (inr (ToFreeze, e, f)) = absurd (cc)
slide_from Freeze last fits (inr (ToFloat, e, f)) = absurd (cc)
slide_from Freeze last fits (inr (ToSlide, e, f)) = absurd (cc)
slide_from Freeze last fits (inr (ToWithdraw, e, f)) = absurd (cc)
slide_from Float last fits follows = inr (inl fits)
slide_from Slide last fits follows = inr (inr fits)
slide_from Withdrawn last fits (inl e) = absurd (cc)
slide_from Withdrawn last fits (inr c) = absurd (let e = c.1 in cc)
slide_from NoShow last fits (inl e) = absurd (cc)
slide_from NoShow last fits (inr c) = absurd (let e = c.1 in cc)

-- a candidate who keeps a seat seeks nothing that they had not applied for
pub holder_narrows : (table : SeatTable) (progs : List ProgId) (last : Seek) (left standing : Standing) (seat : Seat) (k : ℕ) → FitsLast left last → Follows left standing
    → holds standing ≡ true → IsSeatAt table last progs seat k → Narrower table last (seek_after standing (Some k)) progs k
holder_narrows table progs last left Waiting seat k fits follows keeps seated = absurd (cc)
holder_narrows table progs last left Offered seat k fits follows keeps seated = absurd (cc)
holder_narrows table progs last left Freeze seat k fits follows keeps seated = only_narrows table last progs seat k seated
holder_narrows table progs last left Float seat k fits follows keeps seated = elim (float_from left last fits follows) [
  | inl whole ↦ subst (λ q. Narrower table q (UpTo k) progs k) (sym whole) (whole_narrows table progs k)
  | inr upto ↦ subst (λ q. Narrower table q (UpTo k) progs k) (sym upto.1)
      (upto_narrows table progs seat upto.0 k (subst (λ q. IsSeatAt table q progs seat k) upto.1 seated))
]
holder_narrows table progs last left Slide seat k fits follows keeps seated = elim (slide_from left last fits follows) [
  | inl whole ↦ subst (λ q. Narrower table q (Within k) progs k) (sym whole) (whole_within table progs k)
  | inr other ↦ elim other [
    | inl upto ↦ subst (λ q. Narrower table q (Within k) progs k) (sym upto.1)
        (upto_within table progs seat upto.0 k (subst (λ q. IsSeatAt table q progs seat k) upto.1 seated))
    | inr within ↦ subst (λ q. Narrower table q (Within k) progs k) (sym within.1)
        (within_narrows table progs seat within.0 k (subst (λ q. IsSeatAt table q progs seat k) within.1 seated))
  ]
]
holder_narrows table progs last left Withdrawn seat k fits follows keeps seated = absurd (cc)
holder_narrows table progs last left NoShow seat k fits follows keeps seated = absurd (cc)

-- and applied for all of it under the last seek
pub narrows_applies : (table : SeatTable) (progs : List ProgId) (last next : Seek) (seat : Seat) (k p : ℕ) → Pairwise (λ (a b : ProgId). a.0 ≢ b.0) progs → IsSeatAt table last progs seat k
    → Narrower table last next progs k → place_of (seek_leaves table next progs) p < length (seek_leaves table next progs)
    → applies p (seek_leaves table last progs) (Some seat) ≡ true
narrows_applies table progs last next seat k p distinct seated narrower wanted =
    let found = left_there table next progs p wanted in
    let old = narrower found.place found.prog found.there found.left in
    let here = there_left table last progs p found.place found.prog found.there found.is old.0 in
    let mine : place_of progs p ≡ found.place = subst (λ n. place_of progs n ≡ found.place) found.is (place_at progs found.place found.prog distinct found.there) in
    let held : place_of progs seat.prog.0 ≡ k = place_at progs k seat.prog distinct seated.there in
    let before = old.1 in
    applies_true p (seek_leaves table last progs) (Some seat) here (left_order table last progs p seat.prog.0 distinct here (omega (arith, mine, held, before)))
