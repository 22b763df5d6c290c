-- The first lines of bytes, and of bytes one after another.
use Rattle.std.proofs.Common.{length, eq-eqb, ◌≢◌, ◌≡◌, ◌≤◌, ◌<◌, ◌+◌, ◌-◌, ◌⊎◌, ℕ, zero, suc, Bool, true, false, cond, List, [], ◌∷◌, ◌++◌, refl, sym, ap, ◌∙◌, inl, inr, arith, ◌==◌, if◌then◌else◌}
use Rattle.std.proofs.lemmas.Bool.{cases_Bool, cond-true, cond-false, eqb-true, false≢true, ne_eqb}
use Rattle.text_readers.specs.Reading.{HasNo, first_lines, lines_after, lines_in}
use Rattle.text_readers.proofs.LineLemmas.{first_lines-none}

-- of two ways to cut bytes in two, one cuts later
pub two_fronts : {X : Type 0} (a b c d : List X) → a ++ b ≡ c ++ d → ((m : List X) × (c ≡ a ++ m) × (b ≡ m ++ d)) ⊎ ((m : List X) × (a ≡ c ++ m) × (d ≡ m ++ b))
two_fronts [] b c d e = inl (c, refl, e)
two_fronts (x ∷ a) b [] d e = inr (x ∷ a, refl, sym e)
two_fronts {X} (x ∷ a) b (y ∷ c) d e =
    let head : x ≡ y = cc in
    let tail : a ++ b ≡ c ++ d = cc in
    elim (two_fronts a b c d tail) [
      | inl h ↦ inl (h.0, ap (λ (z : List X). y ∷ z) h.1 ∙ ap (λ (z : X). z ∷ (a ++ h.0)) (sym head), h.2)
      | inr h ↦ inr (h.0, ap (λ (z : List X). x ∷ z) h.1 ∙ ap (λ (z : X). z ∷ (c ++ h.0)) head, h.2)
    ]

pub nothing_left : {X : Type 0} (a b : List X) → a ++ b ≡ [] → a ≡ []
nothing_left [] b e = refl
nothing_left (x ∷ a) b e = absurd (cc)

-- how many lines are to be taken after a byte
abbrev next : ℕ → ℕ → ℕ
next byte n = if byte == 10 then n - 1 else n

pub one_taken : (n byte : ℕ) (bytes : List ℕ) → 1 ≤ n → first_lines n (byte ∷ bytes) ≡ byte ∷ first_lines (next byte n) bytes
one_taken n byte bytes some = cond-false (n == 0) [] (byte ∷ first_lines (next byte n) bytes) (ne_eqb n 0 (λ z. omega (arith, z, some)))

-- the first lines are a front
pub are_front : (n : ℕ) (bytes : List ℕ) → (tail : List ℕ) × (bytes ≡ first_lines n bytes ++ tail)
are_front n [] = ([], refl)
are_front zero (byte ∷ bytes) = (byte ∷ bytes, refl)
are_front (suc n) (byte ∷ bytes) =
    let rest = are_front (next byte (suc n)) bytes in
    (rest.0, ap (λ (z : List ℕ). byte ∷ z) rest.1 ∙ ap (λ (z : List ℕ). z ++ rest.0) (sym (one_taken (suc n) byte bytes (omega arith))))

-- a line begun is a line
begun_some : (bytes : List ℕ) → 1 ≤ lines_after true bytes
begun_some [] = omega arith
begun_some (byte ∷ bytes) = elim (cases_Bool (byte == 10)) [
  | inl e ↦ (let f = cond-true (byte == 10) (1 + lines_after false bytes) (lines_after true bytes) e in omega (arith, f))
  | inr e ↦ (let f = cond-false (byte == 10) (1 + lines_after false bytes) (lines_after true bytes) e in let g = begun_some bytes in omega (arith, f, g))
]

-- the lines of bytes, by their first
at_break : (begun : Bool) (byte : ℕ) (bytes : List ℕ) → (byte == 10) ≡ true → lines_after begun (byte ∷ bytes) ≡ 1 + lines_after false bytes
at_break begun byte bytes e = cond-true (byte == 10) (1 + lines_after false bytes) (lines_after true bytes) e

at_other : (begun : Bool) (byte : ℕ) (bytes : List ℕ) → (byte == 10) ≡ false → lines_after begun (byte ∷ bytes) ≡ lines_after true bytes
at_other begun byte bytes e = cond-false (byte == 10) (1 + lines_after false bytes) (lines_after true bytes) e

next_break : (byte n : ℕ) → (byte == 10) ≡ true → next byte n ≡ n - 1
next_break byte n e = cond-true (byte == 10) (n - 1) n e

next_other : (byte n : ℕ) → (byte == 10) ≡ false → next byte n ≡ n
next_other byte n e = cond-false (byte == 10) (n - 1) n e

-- fewer lines than the piece has are those of the piece alone
pub short_same : (n : ℕ) (begun : Bool) (piece rest : List ℕ) → n < lines_after begun piece → first_lines n (piece ++ rest) ≡ first_lines n piece
short_same zero begun piece rest less = first_lines-none (piece ++ rest) ∙ sym (first_lines-none piece)
short_same (suc n) true [] rest less = absurd (omega (arith, less))
short_same (suc n) false [] rest less = absurd (omega (arith, less))
short_same (suc n) begun (byte ∷ piece) rest less = one_taken (suc n) byte (piece ++ rest) (omega arith) ∙ (ap (λ (z : List ℕ). byte ∷ z) (elim (cases_Bool (byte == 10)) [
  | inl e ↦
      let here = at_break begun byte piece e in
      let to : next byte (suc n) ≡ n = next_break byte (suc n) e ∙ omega arith in
      ap (λ (k : ℕ). first_lines k (piece ++ rest)) to ∙ short_same n false piece rest (omega (arith, less, here)) ∙ ap (λ (k : ℕ). first_lines k piece) (sym to)
  | inr e ↦
      let here = at_other begun byte piece e in
      let to : next byte (suc n) ≡ suc n = next_other byte (suc n) e in
      ap (λ (k : ℕ). first_lines k (piece ++ rest)) to ∙ short_same (suc n) true piece rest (omega (arith, less, here)) ∙ ap (λ (k : ℕ). first_lines k piece) (sym to)
]) ∙ sym (one_taken (suc n) byte piece (omega arith)))

-- all its lines are the piece
pub all_taken : (begun : Bool) (piece : List ℕ) → first_lines (lines_after begun piece) piece ≡ piece
all_taken begun [] = refl
all_taken begun (byte ∷ piece) = elim (cases_Bool (byte == 10)) [
  | inl e ↦
      let here = at_break begun byte piece e in
      ap (λ (k : ℕ). first_lines k (byte ∷ piece)) here
      ∙ (one_taken (1 + lines_after false piece) byte piece (omega arith)
      ∙ ap (λ (z : List ℕ). byte ∷ z) (ap (λ (k : ℕ). first_lines k piece) (next_break byte (1 + lines_after false piece) e ∙ omega arith) ∙ all_taken false piece))
  | inr e ↦
      let here = at_other begun byte piece e in
      ap (λ (k : ℕ). first_lines k (byte ∷ piece)) here
      ∙ (one_taken (lines_after true piece) byte piece (begun_some piece)
      ∙ ap (λ (z : List ℕ). byte ∷ z) (ap (λ (k : ℕ). first_lines k piece) (next_other byte (lines_after true piece) e) ∙ all_taken true piece))
]

-- of a piece that ends with a line and what follows, its lines and some more are the piece and the first lines of what follows
pub ended_then : (begun : Bool) (line rest : List ℕ) (j : ℕ) → first_lines (lines_after begun (line ++ 10 ∷ []) + j) ((line ++ 10 ∷ []) ++ rest) ≡ (line ++ 10 ∷ []) ++ first_lines j rest
ended_then begun [] rest j = one_taken (1 + j) 10 rest (omega arith) ∙ ap (λ (k : ℕ). 10 ∷ first_lines k rest) (omega arith)
ended_then begun (byte ∷ line) rest j = elim (cases_Bool (byte == 10)) [
  | inl e ↦
      let here = at_break begun byte (line ++ 10 ∷ []) e in
      ap (λ (k : ℕ). first_lines (k + j) (byte ∷ ((line ++ 10 ∷ []) ++ rest))) here
      ∙ (one_taken ((1 + lines_after false (line ++ 10 ∷ [])) + j) byte ((line ++ 10 ∷ []) ++ rest) (omega arith)
      ∙ ap (λ (z : List ℕ). byte ∷ z)
      (ap (λ (k : ℕ). first_lines k ((line ++ 10 ∷ []) ++ rest)) (next_break byte ((1 + lines_after false (line ++ 10 ∷ [])) + j) e ∙ omega arith) ∙ ended_then false line rest j))
  | inr e ↦
      let here = at_other begun byte (line ++ 10 ∷ []) e in
      let some = begun_some (line ++ 10 ∷ []) in
      ap (λ (k : ℕ). first_lines (k + j) (byte ∷ ((line ++ 10 ∷ []) ++ rest))) here
      ∙ (one_taken (lines_after true (line ++ 10 ∷ []) + j) byte ((line ++ 10 ∷ []) ++ rest) (omega (arith, some))
      ∙ ap (λ (z : List ℕ). byte ∷ z)
      (ap (λ (k : ℕ). first_lines k ((line ++ 10 ∷ []) ++ rest)) (next_other byte (lines_after true (line ++ 10 ∷ []) + j) e) ∙ ended_then true line rest j))
]

-- and there are so many lines
pub ended_lines : (begun : Bool) (line rest : List ℕ) → lines_after begun ((line ++ 10 ∷ []) ++ rest) ≡ lines_after begun (line ++ 10 ∷ []) + lines_in rest
ended_lines begun [] rest = refl
ended_lines begun (byte ∷ line) rest = elim (cases_Bool (byte == 10)) [
  | inl e ↦ (
      let here = at_break begun byte ((line ++ 10 ∷ []) ++ rest) e in let own = at_break begun byte (line ++ 10 ∷ []) e in let more = ended_lines false line rest in omega (arith, here, own, more))
  | inr e ↦ (
      let here = at_other begun byte ((line ++ 10 ∷ []) ++ rest) e in let own = at_other begun byte (line ++ 10 ∷ []) e in let more = ended_lines true line rest in omega (arith, here, own, more))
]

-- a line without its end is taken whole
pub some_line : (n : ℕ) (line tail : List ℕ) → 1 ≤ n → HasNo 10 line → first_lines n (line ++ tail) ≡ line ++ first_lines n tail
some_line n [] tail some none = refl
some_line n (byte ∷ line) tail some none =
    one_taken n byte (line ++ tail) some ∙ ap (λ (z : List ℕ). byte ∷ z) (ap (λ (k : ℕ). first_lines k (line ++ tail)) (next_other byte n (ne_eqb byte 10 none.0)) ∙ some_line n line tail some none.1)

-- and with its end
pub whole_line : (n : ℕ) (line tail : List ℕ) → 1 ≤ n → HasNo 10 line → first_lines n (line ++ 10 ∷ tail) ≡ line ++ 10 ∷ first_lines (n - 1) tail
whole_line n line tail some none = some_line n line (10 ∷ tail) some none ∙ ap (λ (z : List ℕ). line ++ z) (one_taken n 10 tail some)

-- a beginning without an LF is one line, or none
pub one_line : (bytes : List ℕ) → HasNo 10 bytes → bytes ≢ [] → lines_in bytes ≡ 1
one_line [] none some = absurd (some refl)
one_line (byte ∷ bytes) none some = at_other false byte bytes (ne_eqb byte 10 none.0) ∙ begun bytes none.1
  where
    begun : (rest : List ℕ) → HasNo 10 rest → lines_after true rest ≡ 1
    begun [] clear = refl
    begun (b ∷ rest) clear = at_other true b rest (ne_eqb b 10 clear.0) ∙ begun rest clear.1

-- What the first line of bytes is: all of them, or a line with its end.
pub record IsFirst (bytes : List ℕ) : Type 0 where
  pub line : List ℕ
  pub tail : List ℕ
  pub clear : HasNo 10 line
  pub whole : bytes ≡ line ++ 10 ∷ tail
  pub taken : first_lines 1 bytes ≡ line ++ 10 ∷ []

pub first_line : (bytes : List ℕ) → (first_lines 1 bytes ≡ bytes) ⊎ IsFirst bytes
first_line [] = inl refl
first_line (byte ∷ bytes) = elim (cases_Bool (byte == 10)) [
  | inl e ↦
      let same : byte ≡ 10 = eqb-true byte 10 e in
      inr (record {
        line = [];
        tail = bytes;
        clear = tt;
        whole = ap (λ (z : ℕ). z ∷ bytes) same;
        taken = one_taken 1 byte bytes (omega arith) ∙ (ap (λ (k : ℕ). byte ∷ first_lines k bytes) (next_break byte 1 e) ∙ (ap (λ (z : List ℕ). byte ∷ z) (first_lines-none bytes) ∙ ap (λ (z : ℕ). z ∷ []) same));
      })
  | inr e ↦
      let to : first_lines 1 (byte ∷ bytes) ≡ byte ∷ first_lines 1 bytes = one_taken 1 byte bytes (omega arith) ∙ ap (λ (k : ℕ). byte ∷ first_lines k bytes) (next_other byte 1 e) in
      elim (first_line bytes) [
        | inl all ↦ inl (to ∙ ap (λ (z : List ℕ). byte ∷ z) all)
        | inr is ↦ inr (record {
          line = byte ∷ is.line;
          tail = is.tail;
          clear = ((λ same. false≢true (sym e ∙ eq-eqb byte 10 same)), is.clear);
          whole = ap (λ (z : List ℕ). byte ∷ z) is.whole;
          taken = to ∙ ap (λ (z : List ℕ). byte ∷ z) is.taken;
        })
      ]
]

-- lines are not fewer than 1 where there is a byte
pub some_lines : (bytes : List ℕ) → bytes ≢ [] → 1 ≤ lines_in bytes
some_lines [] some = absurd (some refl)
some_lines (byte ∷ bytes) some = elim (cases_Bool (byte == 10)) [
  | inl e ↦ (let here = at_break false byte bytes e in omega (arith, here))
  | inr e ↦ (let here = at_other false byte bytes e in let more = begun_some bytes in omega (arith, here, more))
]

-- fewer lines are the beginning of more
pub first_fewer : (n m : ℕ) (bytes : List ℕ) → n ≤ m → (more : List ℕ) × (first_lines m bytes ≡ first_lines n bytes ++ more)
first_fewer n m [] fewer = ([], refl)
first_fewer zero m (byte ∷ bytes) fewer = (first_lines m (byte ∷ bytes), refl)
first_fewer (suc n) m (byte ∷ bytes) fewer =
    let rest = first_fewer (next byte (suc n)) (next byte m) bytes (below (byte == 10)) in (
      rest.0,
      one_taken m byte bytes (omega (arith, fewer)) ∙ (ap (λ (z : List ℕ). byte ∷ z) rest.1 ∙ ap (λ (z : List ℕ). z ++ rest.0) (sym (one_taken (suc n) byte bytes (omega arith)))),
    )
  where
    below : (b : Bool) → cond b (suc n - 1) (suc n) ≤ cond b (m - 1) m
    below true = omega (arith, fewer)
    below false = fewer

-- there are no more lines than bytes
lines_few : (begun : Bool) (bytes : List ℕ) → lines_after begun bytes ≤ length bytes + cond begun 1 0
lines_few true [] = omega arith
lines_few false [] = omega arith
lines_few begun (byte ∷ bytes) = elim (cases_Bool (byte == 10)) [
  | inl e ↦ (let here = at_break begun byte bytes e in let more = lines_few false bytes in omega (arith, here, more))
  | inr e ↦ (let here = at_other begun byte bytes e in let more = lines_few true bytes in omega (arith, here, more))
]

pub lines_short : (bytes : List ℕ) → lines_in bytes ≤ length bytes
lines_short bytes = (let few = lines_few false bytes in omega (arith, few))

-- a line and what follows it
pub line_more : (line rest : List ℕ) → HasNo 10 line → lines_in (line ++ 10 ∷ rest) ≡ 1 + lines_in rest
line_more line rest none = go false line none
  where
    go : (begun : Bool) (line : List ℕ) → HasNo 10 line → lines_after begun (line ++ 10 ∷ rest) ≡ 1 + lines_in rest
    go begun [] none = refl
    go begun (byte ∷ line) none = at_other begun byte (line ++ 10 ∷ rest) (ne_eqb byte 10 none.0) ∙ go true line none.1
