-- What a read of a record does to the records left.
use Rattle.std.proofs.Common.{◌≡◌, ◌≤◌, ◌<◌, ◌-◌, ◌+◌, ℕ, zero, suc, Bool, true, false, cond, List, [], ◌∷◌, Option, Some, None, length, refl, sym, ap, ◌∙◌, add-one, arith}
use Rattle.std.specs.Bool.{MatchBool}
use Rattle.std.proofs.lemmas.Option.{cond_some}
use Rattle.csv.specs.Machine.{Read, ends_at_end, field_after, fields_after, is_end, next_record, step}
use Rattle.csv.specs.Reading.{ReadRecord, Reached, default_config, has_failed, reader_state, records_from, records_next, source_of, strip_bom}
use Rattle.csv.specs.declared.parser.Config.{Config}
use Rattle.csv.specs.declared.parser.State.{State}
use Rattle.csv.specs.declared.parser.State.TheVariants as st
use Rattle.csv.specs.declared.reader.Reader.{Reader}
use Rattle.csv.proofs.ReadFacts.{rows-end, rows-more}
use Rattle.section_rows.specs.Rows.{Row, rows_among, rows_of}
use Rattle.section_rows.specs.Reading.{IsPlain, records_at, records_left}
use denote.Ref.{Bor}

-- at the end of the text nothing is left after a record
ended : (cfg : Config) (s : State) (fields : List (List ℕ)) (field : List ℕ) (q : Read) → next_record cfg s fields field [] ≡ Some q → (q.1 ≡ st.StartRecord) × (q.2 ≡ [])
unfolding next_record
ended cfg s fields field q e =
    let same = (cond_some (ends_at_end s) _ q e).1 in
    (sym (ap (λ (r : Read). r.1) same), sym (ap (λ (r : Read). r.2) same))

-- a record takes one byte at least, where there is one
shorter : (cfg : Config) (s : State) (fields : List (List ℕ)) (field xs : List ℕ) (q : Read) → next_record cfg s fields field xs ≡ Some q → length q.2 ≤ length xs - 1
unfolding next_record
shorter cfg s fields field [] q e = let none = ap (λ (l : List ℕ). length l) (ended cfg s fields field q e).1 in omega (arith, none)
shorter cfg s fields field (c ∷ rest) q e = by (is_end (step cfg s c).1) refl e (shorter cfg (step cfg s c).0 _ _ rest q)
  where
    by : (b : Bool) → is_end (step cfg s c).1 ≡ b
        → next_record cfg s fields field (c ∷ rest) ≡ Some q
        → (next_record cfg (step cfg s c).0 (fields_after (step cfg s c).1 fields field) (field_after (step cfg s c).1 c field) rest ≡ Some q → length q.2 ≤ length rest - 1)
        → length q.2 ≤ length (c ∷ rest) - 1
    by true t h more = let same : (rest ≡ q.2) = cc (rw t at h) in omega (arith, ap (λ (l : List ℕ). length l) same)
    by false t h more = omega (arith, more (rw t at h))

-- the start of a record at the end of the text has no records
pub none_left : (n : ℕ) → records_from default_config n st.StartRecord [] ≡ []
unfolding records_from next_record
none_left zero = refl
none_left (suc n) = refl

-- both numbers of steps give the records of shorter bytes
abbrev AreSame : ℕ → ℕ → Type 0
AreSame n m = (t : State) (ys : List ℕ) → length ys < n → length ys < m → records_from default_config n t ys ≡ records_from default_config m t ys

-- Enough steps are enough, however many.
steps : (n m : ℕ) (s : State) (xs : List ℕ) → length xs < n → length xs < m → records_from default_config n s xs ≡ records_from default_config m s xs
unfolding records_from
steps zero m s xs h k = absurd (omega arith)
steps (suc n) zero s xs h k = absurd (omega arith)
steps (suc n) (suc m) s xs h k = by (next_record default_config s [] [] xs) refl (λ t ys. steps n m t ys)
  where
    rest : AreSame n m → (p : Read) → next_record default_config s [] [] xs ≡ Some p → (ys : List ℕ) → xs ≡ ys → records_from default_config n p.1 p.2 ≡ records_from default_config m p.1 p.2
    rest more p e [] same =
        let q = ended default_config s [] [] p (rw same at e) in
        rw (q.0, q.1) (none_left n ∙ sym (none_left m))
    rest more p e (c ∷ ys) same =
        let less = shorter default_config s [] [] xs p e in
        let size = ap (λ (l : List ℕ). length l) same in
        more p.1 p.2 (omega arith) (omega arith)

    by : (o : Option Read) → next_record default_config s [] [] xs ≡ o → AreSame n m → records_next (records_from default_config n) o ≡ records_next (records_from default_config m) o
    by None e more = refl
    by (Some p) e more = ap (λ (l : List Row). p.0 ∷ l) (rest more p e xs refl)

-- The next record, and then those after it.
pub records-more : (s : State) (xs : List ℕ) (p : Read) → next_record default_config s [] [] xs ≡ Some p → records_at s xs ≡ p.0 ∷ records_at p.1 p.2
unfolding records_from
records-more s [] p e =
    let q = ended default_config s [] [] p e in
    rw (add-one, e) (ap (λ (l : List Row). p.0 ∷ l) (rw (q.0, q.1) (none_left 0 ∙ sym (none_left 1))))
records-more s (c ∷ xs) p e =
    let less = shorter default_config s [] [] (c ∷ xs) p e in
    rw (add-one (length (c ∷ xs)), e) (ap (λ (l : List Row). p.0 ∷ l) (steps (suc (length xs)) (length p.2 + 1) p.1 p.2 (omega arith) (omega arith)))

-- No record, and none after it.
pub records-none : (s : State) (xs : List ℕ) → next_record default_config s [] [] xs ≡ None → records_at s xs ≡ []
unfolding records_from
records-none s xs e = rw (add-one, e) refl

-- where the bytes after a read are known, it read the first of the records left
abbrev Bytes : Bor (List ℕ) → Option (List ℕ)
Bytes s = Some s.now

reached : (a b : Reader (Bor (List ℕ))) (fields : Row) (xs z : List ℕ) → source_of Bytes a ≡ Some xs → source_of Bytes b ≡ Some z
    → Reached default_config a.state xs (fields ∷ []) b.state z → records_left a ≡ fields ∷ records_left b
unfolding Reached
reached a b fields xs z before after h =
    let more = records-more a.state xs h.0 h.1 in
    rw (before, after) (rw (← h.3.0, ← h.3.1, h.2) more)

known_by : (b : Bool) (x y : List ℕ) → (z : List ℕ) × (cond b (Some x) (Some y) ≡ Some z)
known_by true x y = (x, refl)
known_by false x y = (y, refl)

-- the bytes of a reader that has not failed are known
known : (a : Reader (Bor (List ℕ))) → has_failed a ≡ false → (bytes : List ℕ) × (source_of Bytes a ≡ Some bytes)
known a e = rw e (known_by _ _ _)

-- A read that found a record read the first of those left.
pub left-more : (a b : Reader (Bor (List ℕ))) (fields : Row) → IsPlain a → ReadRecord Bytes a b true fields → records_left a ≡ fields ∷ records_left b
unfolding Reached
left-more a b fields plain r =
    let (xs, e) = known a plain.fresh in
    let m = rows-more Bytes a b fields default_config a.state xs xs [] plain.config e (refl, refl) r in
    reached a b fields xs m.0 e m.1 m.2

-- A read that found none left none.
pub left-none : (a b : Reader (Bor (List ℕ))) (fields : Row) → IsPlain a → ReadRecord Bytes a b false fields → records_left a ≡ []
left-none a b fields plain r =
    let (xs, e) = known a plain.fresh in
    let none = rows-end Bytes a b fields default_config xs plain.config e r in
    rw e (records-none a.state xs none)

-- A reader that has failed has none left.
pub left-failed : (a : Reader (Bor (List ℕ))) → has_failed a ≡ true → records_left a ≡ []
left-failed a e = rw e refl

-- What a plain reader's read says of the records left.
pub read-tells : (a b : Reader (Bor (List ℕ))) (more : Bool) (fields : Row) → IsPlain a → ReadRecord Bytes a b more fields
    → MatchBool more (records_left a ≡ fields ∷ records_left b) (records_left a ≡ [])
read-tells a b true fields plain r = left-more a b fields plain r
read-tells a b false fields plain r = left-none a b fields plain r

-- A reader that has failed reports that none is left.
pub failed-tells : (a b : Reader (Bor (List ℕ))) (more : Bool) (fields : Row) → has_failed a ≡ true → more ≡ false
    → MatchBool more (records_left a ≡ fields ∷ records_left b) (records_left a ≡ [])
failed-tells a b true fields e f = cc f
failed-tells a b false fields e f = left-failed a e

-- A reader at the start of a body has all its rows left.
pub at-start : (a : Reader (Bor (List ℕ))) (body : List ℕ) → reader_state a ≡ st.StartRecord → source_of Bytes a ≡ Some (strip_bom body) → rows_among (records_left a) ≡ rows_of body
unfolding rows_of
at-start a body e f = rw (e, f) refl
