-- A bundle is cut at the lines that begin with `[`.
use Rattle.std.proofs.Common.{◌≡◌, ◌≤◌, ◌⊎◌, ◌+◌, inl, inr, ℕ, suc, Bool, true, false, cond, ◌&&◌, eqb, List, [], ◌∷◌, ◌++◌, length, take, drop, Ok, refl, sym, ap, subst, ◌∙◌, arith, append_assoc, add-one}
use Rattle.std.proofs.lemmas.List.{take-append-drop}
use Rattle.std.proofs.lemmas.Slice.Eq.{bytes_eq-Decides}
use Rattle.std.specs.List.{AllByRecursion}
use Rattle.std.specs.Prelude.{codes}
use Rattle.office_text.specs.Lines.{split_at_each, drop_cr, onto_first, skip_mark, trimmed}
use Rattle.section_rows.proofs.StepsLemmas.{after_ok, needs_ok}
use Rattle.season_file.specs.Bundle.{Parts, after_line, body_len, bundle_of, closed, last_section, line_len, section, sections, skip_empty, title, version_of, with_line}
use Rattle.season_file.specs.Titles.{HasNoTitle, IsCutAtTitles, IsTitled, begins_title}
use Rattle.season_file.specs.declared.fault.SeasonFault.TheVariants.{BadFirstLine}
use Rattle.season_file.proofs.SplitLemmas.{IsNext, from_choices, from_matrix, from_register, from_season, last_ok, mark_split, section_begins, section_ok, skip_split, title-begins, version_ok, with_last, with_line_ok}

-- the pieces from the first or from the second on
abbrev pieces_from : Bool → List (List ℕ) → List (List ℕ)
pieces_from true pieces = pieces
pieces_from false [] = []
pieces_from false (piece ∷ pieces) = pieces

abbrev NoTitles : Bool → List (List ℕ) → Type 0
NoTitles begins pieces = AllByRecursion (λ line. begins_title line ≡ false) (pieces_from begins pieces)

-- a byte before pieces of which the further ones are no titles
onto : (begins : Bool) (x : ℕ) (pieces : List (List ℕ)) → (begins ≡ true → eqb x 91 ≡ false) → NoTitles false pieces → NoTitles begins (onto_first x pieces)
onto true x [] other all = (other refl, tt)
onto false x [] other all = tt
onto true x (piece ∷ pieces) other all = (other refl, all)
onto false x (piece ∷ pieces) other all = all

opened : (begins : Bool) (pieces : List (List ℕ)) → NoTitles true pieces → NoTitles begins ([] ∷ pieces)
opened true pieces all = (refl, all)
opened false pieces all = all

-- No line of a body begins with `[`.
no_titles : (begins : Bool) (bytes : List ℕ) → NoTitles begins (split_at_each 10 (take (body_len begins bytes) bytes))
no_titles true [] = (refl, tt)
no_titles false [] = tt
no_titles begins (x ∷ bytes) = by (λ b. no_titles b bytes) (begins && eqb x 91) refl
  where
    none : (begins : Bool) → NoTitles begins (split_at_each 10 [])
    none true = (refl, tt)
    none false = tt

    shut : (begins : Bool) → (begins && eqb x 91) ≡ false → begins ≡ true → eqb x 91 ≡ false
    shut true e is = e
    shut false e is = absurd cc

    more : ((b : Bool) → NoTitles b (split_at_each 10 (take (body_len b bytes) bytes))) → (begins && eqb x 91) ≡ false → (lf : Bool) → eqb x 10 ≡ lf
        → NoTitles begins (cond lf ([] ∷ split_at_each 10 (take (body_len lf bytes) bytes)) (onto_first x (split_at_each 10 (take (body_len lf bytes) bytes))))
    more next test true is = opened begins (split_at_each 10 (take (body_len true bytes) bytes)) (next true)
    more next test false is = onto begins x (split_at_each 10 (take (body_len false bytes) bytes)) (shut begins test) (next false)

    by : ((b : Bool) → NoTitles b (split_at_each 10 (take (body_len b bytes) bytes))) → (test : Bool) → (begins && eqb x 91) ≡ test → NoTitles begins (split_at_each 10 (take (cond test 0 (suc (body_len (eqb x 10) bytes))) (x ∷ bytes)))
    by next true is = none begins
    by next false is = more next is (eqb x 10) refl

-- The first line, with its end, has the title of the text, and an LF at its end alone.
abbrev IsFirst : List ℕ → Type 0
IsFirst bytes = (take (line_len (take (suc (line_len bytes)) bytes)) (take (suc (line_len bytes)) bytes) ≡ take (line_len bytes) bytes)
    × (length (take (suc (line_len bytes)) bytes) ≤ suc (line_len (take (suc (line_len bytes)) bytes)))

is_first : (bytes : List ℕ) → IsFirst bytes
is_first [] = (refl, omega arith)
is_first (x ∷ bytes) = by (is_first bytes) (eqb x 10) refl
  where
    by : IsFirst bytes → (lf : Bool) → eqb x 10 ≡ lf → (take (line_len (take (suc (cond lf 0 (suc (line_len bytes)))) (x ∷ bytes))) (take (suc (cond lf 0 (suc (line_len bytes)))) (x ∷ bytes)) ≡ take (cond lf 0 (suc (line_len bytes))) (x ∷ bytes))
        × (length (take (suc (cond lf 0 (suc (line_len bytes)))) (x ∷ bytes)) ≤ suc (line_len (take (suc (cond lf 0 (suc (line_len bytes)))) (x ∷ bytes))))
    by next true is = rw is (refl, omega arith)
    by next false is = rw is (ap (λ (bytes : List ℕ). x ∷ bytes) next.0, omega (arith, next.1))

-- A section is a title line, a body and a rest.
titled : (name text : List ℕ) (cut : List ℕ × List ℕ) → section name text ≡ Ok cut → IsNext cut.1 → IsTitled name text cut.0 cut.1
titled name text cut e next =
    let (same, pair) = section_ok name text cut e in
    let n : line_len text + 1 ≡ suc (line_len text) = add-one (line_len text) in
    let is : title text ≡ name = (bytes_eq-Decides (title text) name).0 same in
    let first = is_first text in
    let body : take (body_len true (after_line text)) (after_line text) ≡ cut.0 = ap (λ (c : List ℕ × List ℕ). c.0) pair in
    let rest : drop (body_len true (after_line text)) (after_line text) ≡ cut.1 = ap (λ (c : List ℕ × List ℕ). c.1) pair in
    let left : after_line text ≡ cut.0 ++ cut.1 = sym (take-append-drop (body_len true (after_line text)) (after_line text)) ∙ ap (λ (b : List ℕ). b ++ drop (body_len true (after_line text)) (after_line text)) body ∙ ap (λ (b : List ℕ). cut.0 ++ b) rest in
    record {
      line = take (suc (line_len text)) text;
      whole = sym (take-append-drop (line_len text + 1) text) ∙ ap (λ (k : ℕ). take k text ++ after_line text) n ∙ ap (λ (b : List ℕ). take (suc (line_len text)) text ++ b) left;
      titled = ap (λ (b : List ℕ). trimmed (drop_cr b)) first.0 ∙ is;
      one_line = omega (arith, first.1);
      inside = subst HasNoTitle body (no_titles true (after_line text));
      next = next;
    }

-- what follows the choices
requests_titled : (requests : Bool) (rest last : List ℕ) → last_section requests rest ≡ Ok last → (rest ≡ []) ⊎ ((body : List ℕ) × IsTitled (codes "[requests]") rest body [])
requests_titled requests [] last e = inl refl
requests_titled true (byte ∷ bytes) last e =
    let (cut, found, shut) = after_ok (section (codes "[requests]") (byte ∷ bytes)) (λ cut. closed cut.1 (byte ∷ bytes)) last e in
    let none = closed_none cut.1 (byte ∷ bytes) last shut in
    inr (cut.0, subst (λ (rest : List ℕ). IsTitled (codes "[requests]") (byte ∷ bytes) cut.0 rest) none (titled (codes "[requests]") (byte ∷ bytes) cut found (inl none)))
  where
    closed_none : (rest value last : List ℕ) → closed rest value ≡ Ok last → rest ≡ []
    closed_none [] value last e = refl
    closed_none (byte ∷ rest) value last e = absurd cc
requests_titled false (byte ∷ bytes) last e = absurd cc

-- A bundle is cut at its titles.
pub cut_at_titles : (requests : Bool) (bytes : List ℕ) (parts : Parts) → bundle_of requests bytes ≡ Ok parts → IsCutAtTitles bytes parts
cut_at_titles requests bytes parts e =
    let text : List ℕ = skip_mark bytes in
    let (version, known, h) = needs_ok (version_of (title text)) BadFirstLine (λ version. with_line text (sections requests version (skip_empty (after_line text)))) parts e in
    let (season, e1, h1) = after_ok (section (codes "[season]") (skip_empty (after_line text))) (from_season requests version) parts (with_line_ok text (sections requests version (skip_empty (after_line text))) parts h) in
    let (register, e2, h2) = after_ok (section (codes "[register]") season.1) (from_register requests version season.0) parts h1 in
    let (matrix, e3, h3) = after_ok (section (codes "[matrix]") register.1) (from_matrix requests version season.0 register.0) parts h2 in
    let (choices, e4, h4) = after_ok (section (codes "[choices]") matrix.1) (from_choices requests version season.0 register.0 matrix.0) parts h3 in
    let (last, e5, h5) = after_ok (last_section requests choices.1) (with_last version season.0 register.0 matrix.0 choices.0) parts h4 in
    let (same, next) = last_ok requests choices.1 last e5 in
    let made : record { version = version; season = season.0; register = register.0; matrix = matrix.0; choices = choices.0; requests = choices.1 } ≡ parts = cc (h5, same) in
    let (o, begins) = title-begins 111 text (version_ok (title text) version known).1 in
    let (mark, marked, same_mark) = mark_split bytes o begins in
    let b1 = section_begins (codes "[season]") (skip_empty (after_line text)) season (drop 1 (codes "[season]"), refl) e1 in
    let (gap, skipped, same_gap) = skip_split (after_line text) b1.0 b1.1 in
    let shape : bytes ≡ (mark ++ (take (line_len text + 1) text ++ gap)) ++ skip_empty (after_line text) =
    marked ∙ ap (λ (b : List ℕ). mark ++ b) (sym begins ∙ sym (take-append-drop (line_len text + 1) text) ∙ ap (λ (b : List ℕ). take (line_len text + 1) text ++ b) (skipped ∙ ap (λ (b : List ℕ). gap ++ b) (sym b1.1)))
    ∙ grouped mark (take (line_len text + 1) text) gap (skip_empty (after_line text)) in
    subst (λ (p : Parts). IsCutAtTitles bytes p) made (record {
      head = mark ++ (take (line_len text + 1) text ++ gap);
      first = skip_empty (after_line text);
      second = season.1;
      third = register.1;
      fourth = matrix.1;
      whole = shape;
      season = titled (codes "[season]") (skip_empty (after_line text)) season e1 (inr (section_begins (codes "[register]") season.1 register (drop 1 (codes "[register]"), refl) e2));
      register = titled (codes "[register]") season.1 register e2 (inr (section_begins (codes "[matrix]") register.1 matrix (drop 1 (codes "[matrix]"), refl) e3));
      matrix = titled (codes "[matrix]") register.1 matrix e3 (inr (section_begins (codes "[choices]") matrix.1 choices (drop 1 (codes "[choices]"), refl) e4));
      choices = titled (codes "[choices]") matrix.1 choices e4 next;
      requests = requests_titled requests choices.1 last e5;
    })
  where
    grouped : (mark line gap rest : List ℕ) → mark ++ (line ++ (gap ++ rest)) ≡ (mark ++ (line ++ gap)) ++ rest
    grouped mark line gap rest = simp append_assoc
