-- No line of what is written begins a section.
use Rattle.std.proofs.Common.{◌≡◌, ◌+◌, ℕ, Bool, true, false, List, [], ◌∷◌, ◌++◌, length, map, refl, ap, ◌==◌, if◌then◌else◌, append_assoc, length-append, arith}
use Rattle.std.specs.List.{AllByRecursion}
use Rattle.section_rows.specs.Rows.{Row}
use Rattle.season_file.specs.Bundle.{body_len}
use Rattle.season_file.specs.Replaced.{IsWhole}
use Rattle.quota_units.specs.Quoted.{doubled, fields_text, in_quotes, no_lf, row_text, rows_text, spaced, spaced_row}

-- inside a line: the bytes have no LF
abbrev Inside : List ℕ → Type 0
Inside xs = AllByRecursion (λ byte. (byte == 10) ≡ false) xs

inside-run : (xs rest : List ℕ) → Inside xs → body_len false (xs ++ rest) ≡ length xs + body_len false rest
inside-run [] rest all = omega arith
inside-run (x ∷ xs) rest all = rw (all.0) (omega (arith, inside-run xs rest all.1))

inside-append : (xs ys : List ℕ) → Inside xs → Inside ys → Inside (xs ++ ys)
inside-append [] ys a b = b
inside-append (x ∷ xs) ys a b = (a.0, inside-append xs ys a.1 b)

inside-spaced : (f : List ℕ) → Inside (spaced f)
inside-spaced [] = tt
inside-spaced (b ∷ f) = (by (b == 10) refl, inside-spaced f)
  where
    by : (t : Bool) → (b == 10) ≡ t → (no_lf b == 10) ≡ false
    by true e = rw e refl
    by false e = rw e e

inside-doubled : (f : List ℕ) → Inside f → Inside (doubled f)
inside-doubled [] all = tt
inside-doubled (b ∷ f) all = by (b == 34) (inside-doubled f all.1)
  where
    by : (t : Bool) → Inside (doubled f) → Inside (if t then 34 ∷ b ∷ doubled f else b ∷ doubled f)
    by true more = (refl, (all.0, more))
    by false more = (all.0, more)

inside-quotes : (f : List ℕ) → Inside (in_quotes (spaced f))
inside-quotes f = (refl, inside-append (doubled (spaced f)) (34 ∷ []) (inside-doubled (spaced f) (inside-spaced f)) (refl, tt))

-- the further fields of a row, and its end
further-run : (row : Row) (rest : List ℕ) → body_len false (fields_text false (spaced_row row) ++ rest) ≡ length (fields_text false (spaced_row row)) + body_len true rest
further-run [] rest = omega arith
further-run (f ∷ row) rest =
    let piece : List ℕ = 44 ∷ in_quotes (spaced f) in
    let more : List ℕ = fields_text false (spaced_row row) in
    let run = inside-run piece (more ++ rest) (refl, inside-quotes f) in
    let next = further-run row rest in
    let split : body_len false ((piece ++ more) ++ rest) ≡ body_len false (piece ++ (more ++ rest)) = ap (λ (l : List ℕ). body_len false l) (append_assoc piece more rest) in
    omega (arith, split, run, next, length-append piece more)

row-run : (row : Row) (rest : List ℕ) → body_len true (row_text (spaced_row row) ++ rest) ≡ length (row_text (spaced_row row)) + body_len true rest
row-run [] rest = omega arith
row-run (f ∷ row) rest =
    let piece : List ℕ = doubled (spaced f) ++ 34 ∷ [] in
    let more : List ℕ = fields_text false (spaced_row row) in
    let inside = (inside-quotes f).1 in
    let run = inside-run piece (more ++ rest) inside in
    let next = further-run row rest in
    let split : body_len false ((piece ++ more) ++ rest) ≡ body_len false (piece ++ (more ++ rest)) = ap (λ (l : List ℕ). body_len false l) (append_assoc piece more rest) in
    omega (arith, split, run, next, length-append piece more)

pub rows-whole : (rows : List Row) → IsWhole (rows_text (map spaced_row rows))
rows-whole [] rest = omega arith
rows-whole (row ∷ rows) rest =
    let text : List ℕ = row_text (spaced_row row) in
    let more : List ℕ = rows_text (map spaced_row rows) in
    let run = row-run row (more ++ rest) in
    let next = rows-whole rows rest in
    let split : body_len true ((text ++ more) ++ rest) ≡ body_len true (text ++ (more ++ rest)) = ap (λ (l : List ℕ). body_len true l) (append_assoc text more rest) in
    omega (arith, split, run, next, length-append text more)
