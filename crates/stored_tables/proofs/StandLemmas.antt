-- What a row that a query shows represents, if the row of the table is read as a record.
use Rattle.std.proofs.Common.{◌≡◌, ◌<◌, ◌≤◌, ◌^◌, ◌==◌, inl, inr, ℕ, pos, negsuc, List, [], ◌∷◌, map, nat_lt, Option, Some, None, option_map, option_and_then, refl, sym, ap, subst, ◌∙◌, arith}
use Rattle.std.specs.List.{AllZip}
use Rattle.std.proofs.lemmas.Bool.{cases_Bool, ltb-true, eqb-true}
use Rattle.sqlite.specs.declared.types.Value.{Value}
use Rattle.sqlite.specs.declared.types.Value.TheVariants.{Null, Int, Real, Text, Blob}
use Rattle.sqlite.specs.Order.{Row, column}
use Rattle.sqlite.specs.Tree.{rowid}
use Rattle.office_base.specs.CategorySteps.{step_of_number}
use Rattle.office_base.specs.SeatKinds.{seat_kind_number, seat_kind_of_number}
use Rattle.office_base.specs.StepNumbers.{step_number}
use Rattle.office_base.specs.declared.choice.Choice.{Choice}
use Rattle.office_base.specs.declared.choice.Choice.TheVariants.{Freeze, Float, Slide, Withdraw}
use Rattle.office_base.specs.declared.seat.SeatKind.{SeatKind}
use Rattle.office_base.specs.declared.step.StepKind.{StepKind}
use Rattle.office_base.proofs.SeatKinds.{one_seat_kind, seat_kind_number_at}
use Rattle.office_base.proofs.StepNumbers.{number_at, one_number}
use Rattle.kept_rows.specs.declared.rows.AnswerRow.{AnswerRow}
use Rattle.kept_rows.specs.declared.rows.AllotRow.{AllotRow}
use Rattle.kept_rows.specs.declared.rows.RaiseRow.{RaiseRow}
use Rattle.stored_tables.specs.Numbers.{choice_number, choice_of}
use Rattle.stored_tables.specs.Rows.{number_in, choice_in, seat_kind_in, step_in, bytes_in, answer_of, raise_of, allot_of, part_of, rows_from}
use Rattle.stored_tables.specs.Columns.{IsAnswerRow, IsRaiseRow, IsAllotRow, IsPartRow}
use Rattle.stored_tables.proofs.RowLemmas.{begins}

-- ---- values

some_value : {A : Type 0} {a b : A} → ◌≡◌ {A = Option A} (Some a) (Some b) → a ≡ b
some_value e = cc

pub then_some : {A B : Type 0} (o : Option A) (f : A → Option B) (b : B) → option_and_then f o ≡ Some b → (a : A) × (o ≡ Some a) × (f a ≡ Some b)
then_some None f b h = absurd (let e = h in cc)
then_some (Some a) f b h = (a, refl, h)

pub map_some : {A B : Type 0} (o : Option A) (f : A → B) (b : B) → option_map f o ≡ Some b → (a : A) × (o ≡ Some a) × (f a ≡ b)
map_some None f b h = absurd (let e = h in cc)
map_some (Some a) f b h = (a, refl, some_value h)

pub number_is : (bits : ℕ) (v : Value) (n : ℕ) → number_in bits v ≡ Some n → (n < 2 ^ bits) × (v ≡ Int (pos n))
number_is bits Null n h = absurd (let e = h in cc)
number_is bits (Int (negsuc m)) n h = absurd (let e = h in cc)
number_is bits (Real x) n h = absurd (let e = h in cc)
number_is bits (Text t) n h = absurd (let e = h in cc)
number_is bits (Blob b) n h = absurd (let e = h in cc)
number_is bits (Int (pos m)) n h = elim (cases_Bool (nat_lt m (2 ^ bits))) [
  | inl low ↦ (let same : m ≡ n = some_value (rw low at h) in rw (sym same) (ltb-true m (2 ^ bits) low, refl))
  | inr high ↦ absurd (let e = rw high at h in cc)
]

choice_from : (first choice : Choice) (n : ℕ) → ◌≡◌ {A = Option Choice} (Some first) (Some choice) → n ≡ choice_number first → choice_number choice ≡ n
choice_from first choice n same is = ap choice_number (sym (some_value same)) ∙ sym is

choice_back : (n : ℕ) (choice : Choice) → choice_of n ≡ Some choice → choice_number choice ≡ n
choice_back n choice h = elim (cases_Bool (n == 0)) [
  | inl e0 ↦ choice_from Freeze choice n (rw e0 at h) (eqb-true n 0 e0)
  | inr e0 ↦ elim (cases_Bool (n == 1)) [
    | inl e1 ↦ choice_from Float choice n (rw (e0, e1) at h) (eqb-true n 1 e1)
    | inr e1 ↦ elim (cases_Bool (n == 2)) [
      | inl e2 ↦ choice_from Slide choice n (rw (e0, e1, e2) at h) (eqb-true n 2 e2)
      | inr e2 ↦ elim (cases_Bool (n == 3)) [
        | inl e3 ↦ choice_from Withdraw choice n (rw (e0, e1, e2, e3) at h) (eqb-true n 3 e3)
        | inr e3 ↦ absurd (let f = rw (e0, e1, e2, e3) at h in cc)
      ]
    ]
  ]
]

choice_is : (v : Value) (choice : Choice) → choice_in v ≡ Some choice → v ≡ Int (pos (choice_number choice))
choice_is v choice h =
    let p = then_some (number_in 32 v) choice_of choice h in
    (number_is 32 v p.0 p.1).1 ∙ ap (λ (n : ℕ). Int (pos n)) (sym (choice_back p.0 choice p.2))

step_is : (v : Value) (step : StepKind) → step_in v ≡ Some step → v ≡ Int (pos (step_number step))
step_is v step h =
    let p = then_some (number_in 32 v) step_of_number step h in
    (number_is 32 v p.0 p.1).1 ∙ ap (λ (n : ℕ). Int (pos n)) (sym (number_at p.0 step p.2))

seat_kind_is : (v : Value) (kind : SeatKind) → seat_kind_in v ≡ Some kind → v ≡ Int (pos (seat_kind_number kind))
seat_kind_is v kind h =
    let p = then_some (number_in 32 v) seat_kind_of_number kind h in
    (number_is 32 v p.0 p.1).1 ∙ ap (λ (n : ℕ). Int (pos n)) (sym (seat_kind_number_at p.0 kind p.2))

bytes_is : (v : Value) (bytes : List ℕ) → bytes_in v ≡ Some bytes → v ≡ Blob bytes
bytes_is Null bytes h = absurd (let e = h in cc)
bytes_is (Int n) bytes h = absurd (let e = h in cc)
bytes_is (Real x) bytes h = absurd (let e = h in cc)
bytes_is (Text t) bytes h = absurd (let e = h in cc)
bytes_is (Blob b) bytes h = ap Blob (some_value h)

-- ---- rows, as the queries show them

abbrev pub answer_shown : Row → Row
answer_shown row = column row 0 ∷ column row 2 ∷ column row 3 ∷ column row 4 ∷ column row 5 ∷ []

abbrev pub allot_shown : Row → Row
allot_shown row = column row 1 ∷ column row 2 ∷ column row 3 ∷ column row 4 ∷ []

abbrev pub part_shown : Row → Row
part_shown row = column row 0 ∷ column row 2 ∷ []

pub answer_stands : (row : Row) (a : AnswerRow) (n : ℕ) → answer_of row ≡ Some a → rowid row ≡ Int (pos n) → 0 < n → IsAnswerRow (answer_shown row) a
answer_stands row a n is id low =
    let w = then_some (number_in 16 (column row 2)) _ a is in
    let c = then_some (number_in 32 (column row 3)) _ a w.2 in
    let t = then_some (number_in 16 (column row 4)) _ a c.2 in
    let h = map_some (choice_in (column row 5)) _ a t.2 in
    let window = number_is 16 (column row 2) w.0 w.1 in
    let cand = number_is 32 (column row 3) c.0 c.1 in
    let turn = number_is 16 (column row 4) t.0 t.1 in
    subst (IsAnswerRow (answer_shown row)) h.2 (record { seq = (n, low, id); window = window; cand = cand; turn = turn; choice = choice_is (column row 5) h.0 h.1 })

pub raise_stands : (row : Row) (a : RaiseRow) (n : ℕ) → raise_of row ≡ Some a → rowid row ≡ Int (pos n) → 0 < n → IsRaiseRow (answer_shown row) a
raise_stands row a n is id low =
    let w = then_some (number_in 16 (column row 2)) _ a is in
    let p = then_some (number_in 16 (column row 3)) _ a w.2 in
    let s = then_some (step_in (column row 4)) _ a p.2 in
    let m = map_some (number_in 16 (column row 5)) _ a s.2 in
    let window = number_is 16 (column row 2) w.0 w.1 in
    let prog = number_is 16 (column row 3) p.0 p.1 in
    let seats = number_is 16 (column row 5) m.0 m.1 in
    subst (IsRaiseRow (answer_shown row)) m.2 (record { seq = (n, low, id); window = window; prog = prog; step = step_is (column row 4) s.0 s.1; seats = seats })

pub allot_stands : (row : Row) (a : AllotRow) → allot_of row ≡ Some a → IsAllotRow (allot_shown row) a
allot_stands row a is =
    let r = then_some (number_in 16 (column row 1)) _ a is in
    let c = then_some (number_in 32 (column row 2)) _ a r.2 in
    let p = then_some (number_in 16 (column row 3)) _ a c.2 in
    let s = map_some (seat_kind_in (column row 4)) _ a p.2 in
    let round = number_is 16 (column row 1) r.0 r.1 in
    let cand = number_is 32 (column row 2) c.0 c.1 in
    let prog = number_is 16 (column row 3) p.0 p.1 in
    subst (IsAllotRow (allot_shown row)) s.2 (record { round = round; cand = cand; prog = prog; step = seat_kind_is (column row 4) s.0 s.1 })

pub part_stands : (row : Row) (bytes : List ℕ) (n : ℕ) → part_of row ≡ Some bytes → rowid row ≡ Int (pos n) → IsPartRow (part_shown row) bytes
part_stands row bytes n is id = record { part = (n, id); bytes = bytes_is (column row 2) bytes is }

-- each row of a table that is read represents its record
pub stand_from : {R : Type 0} (of : Row → Option R) (Stands : Row → R → Type 0) (shown : Row → Row) (low : ℕ) → ((row : Row) (r : R) (n : ℕ) → of row ≡ Some r → rowid row ≡ Int (pos n) → low ≤ n → Stands (shown row) r)
    → (rows : List Row) (least : ℕ) (all : List R) → low ≤ least → rows_from of least rows ≡ Some all → AllZip Stands (map shown rows) all
stand_from {R} of Stands shown low one [] least all above told = (let none : [] ≡ all = some_value told in subst (AllZip Stands []) none tt)
stand_from {R} of Stands shown low one (row ∷ rows) least all above told =
    let b = begins of least row rows all told in
    let first = one row b.first b.n b.is b.id (omega (arith, b.low, above)) in
    let more = stand_from of Stands shown low one rows _ b.more (let next = b.after_is in omega (arith, next, b.low, above)) b.rest in
    subst (AllZip Stands (map shown (row ∷ rows))) (sym b.whole) (first, more)

-- ---- a row represents one record alone

pub same_number : {m n : ℕ} → Int (pos m) ≡ Int (pos n) → m ≡ n
same_number e = cc

number_once : (v : Value) (m n : ℕ) → v ≡ Int (pos m) → v ≡ Int (pos n) → m ≡ n
number_once v m n one two = same_number (sym one ∙ two)

choice_once : (v : Value) (a b : Choice) → v ≡ Int (pos (choice_number a)) → v ≡ Int (pos (choice_number b)) → a ≡ b
choice_once v a b one two = some_value (sym (of_number a) ∙ (ap choice_of (number_once v _ _ one two) ∙ of_number b))
  where
    of_number : (choice : Choice) → choice_of (choice_number choice) ≡ Some choice
    of_number Freeze = refl
    of_number Float = refl
    of_number Slide = refl
    of_number Withdraw = refl

step_once : (v : Value) (a b : StepKind) → v ≡ Int (pos (step_number a)) → v ≡ Int (pos (step_number b)) → a ≡ b
step_once v a b one two = one_number a b (number_once v _ _ one two)

seat_kind_once : (v : Value) (a b : SeatKind) → v ≡ Int (pos (seat_kind_number a)) → v ≡ Int (pos (seat_kind_number b)) → a ≡ b
seat_kind_once v a b one two = one_seat_kind a b (number_once v _ _ one two)

pub one_answer : (row : Row) (a b : AnswerRow) → IsAnswerRow row a → IsAnswerRow row b → a ≡ b
one_answer row a b p q =
    let w = number_once _ a.window b.window p.window.1 q.window.1 in
    let c = number_once _ a.cand.0 b.cand.0 p.cand.1 q.cand.1 in
    let t = number_once _ a.turn b.turn p.turn.1 q.turn.1 in
    let h = choice_once _ a.choice b.choice p.choice q.choice in
    λ i. record { window = w i; cand = record { 0 = c i }; turn = t i; choice = h i }

pub one_raise : (row : Row) (a b : RaiseRow) → IsRaiseRow row a → IsRaiseRow row b → a ≡ b
one_raise row a b p q =
    let w = number_once _ a.window b.window p.window.1 q.window.1 in
    let g = number_once _ a.prog.0 b.prog.0 p.prog.1 q.prog.1 in
    let s = step_once _ a.step b.step p.step q.step in
    let n = number_once _ a.seats b.seats p.seats.1 q.seats.1 in
    λ i. record { window = w i; prog = record { 0 = g i }; step = s i; seats = n i }

pub one_allot : (row : Row) (a b : AllotRow) → IsAllotRow row a → IsAllotRow row b → a ≡ b
one_allot row a b p q =
    let r = number_once _ a.round b.round p.round.1 q.round.1 in
    let c = number_once _ a.cand.0 b.cand.0 p.cand.1 q.cand.1 in
    let g = number_once _ a.prog.0 b.prog.0 p.prog.1 q.prog.1 in
    let s = seat_kind_once _ a.step b.step p.step q.step in
    λ i. record { round = r i; cand = record { 0 = c i }; prog = record { 0 = g i }; step = s i }

same_bytes : {a b : List ℕ} → ◌≡◌ {A = Value} (Blob a) (Blob b) → a ≡ b
same_bytes e = cc

pub one_part : (row : Row) (a b : List ℕ) → IsPartRow row a → IsPartRow row b → a ≡ b
one_part row a b p q = same_bytes (sym p.bytes ∙ q.bytes)

pub one_list : {R : Type 0} (Stands : Row → R → Type 0) → ((row : Row) (a b : R) → Stands row a → Stands row b → a ≡ b) → (rows : List Row) (one two : List R) → AllZip Stands rows one → AllZip Stands rows two → one ≡ two
one_list Stands once [] [] [] p q = refl
one_list Stands once [] [] (b ∷ bs) p q = absurd q
one_list Stands once [] (a ∷ ones) bs p q = absurd p
one_list Stands once (row ∷ rows) [] bs p q = absurd p
one_list Stands once (row ∷ rows) (a ∷ ones) [] p q = absurd q
one_list Stands once (row ∷ rows) (a ∷ ones) (b ∷ bs) p q = let first = once row a b p.0 q.0 in let more = one_list Stands once rows ones bs p.1 q.1 in λ i. first i ∷ more i
