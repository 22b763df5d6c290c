-- Where the first line of a name begins.
use Rattle.std.proofs.Common.{◌≡◌, ◌≢◌, ◌<◌, ◌≤◌, ◌+◌, ◌-◌, inl, inr, ℕ, zero, suc, Bool, true, false, ◌&&◌, cond, eqb, List, [], ◌∷◌, length, take, drop, get_or, sym, ap, subst, ◌∙◌, arith, eq-eqb}
use Rattle.std.proofs.lemmas.Bool.{cases_eq, cases_lt, cond-true, cond-false, ne_eqb}
use Rattle.std.proofs.lemmas.List.{get_or-drop, length-drop}
use Rattle.season_file.specs.Bundle.{after_line, line_len, title}
use Rattle.office_text.specs.Lines.{skip_mark}
use Rattle.std.specs.Prelude.{codes}
use Rattle.dossier_file.specs.Split.{BeginsLine, HasNoSection, IsSplit, IsTitledAt}

-- no line before this place has the name
abbrev pub NoTitle : List ℕ → List ℕ → ℕ → Type 0
NoTitle name text at = (k : ℕ) → k < at → BeginsLine text k → title (drop k text) ≢ name

-- the first line has no LF
line_len_none : (bytes : List ℕ) (k : ℕ) → k < line_len bytes → get_or bytes k 0 ≡ 10 → ⊥
line_len_none [] k below e = omega (arith, below)
line_len_none (b ∷ bytes) zero below e = (let none = cond-true (eqb b 10) 0 (suc (line_len bytes)) (eq-eqb b 10 e) in omega (arith, none, below))
line_len_none (b ∷ bytes) (suc k) below e = elim (cases_eq b 10) [
  | inl lf ↦ (let none = cond-true (eqb b 10) 0 (suc (line_len bytes)) (eq-eqb b 10 lf) in omega (arith, none, below))
  | inr other ↦ (let some = cond-false (eqb b 10) 0 (suc (line_len bytes)) (ne_eqb b 10 other) in line_len_none bytes k (omega (arith, some, below)) e)
]

-- and ends with one
line_len_end : (bytes : List ℕ) → line_len bytes < length bytes → get_or bytes (line_len bytes) 0 ≡ 10
line_len_end [] within = absurd (omega (arith, within))
line_len_end (b ∷ bytes) within = elim (cases_eq b 10) [
  | inl lf ↦ (let none = cond-true (eqb b 10) 0 (suc (line_len bytes)) (eq-eqb b 10 lf) in ap (λ (n : ℕ). get_or (b ∷ bytes) n 0) none ∙ lf)
  | inr other ↦ (
      let some = cond-false (eqb b 10) 0 (suc (line_len bytes)) (ne_eqb b 10 other) in
      ap (λ (n : ℕ). get_or (b ∷ bytes) n 0) some ∙ line_len_end bytes (omega (arith, some, within)))
]

module _ (name text : List ℕ) (at end : ℕ) (is : line_len (drop at text) ≡ end) where
  -- no line begins inside a line
  inner : (k : ℕ) → at < k → k ≤ at + end → BeginsLine text k → ⊥
  inner k after within begins = elim begins [
    | inl none ↦ omega (arith, none, after)
    | inr lf ↦
        let j = k - 1 - at in
        let e : get_or (drop at text) j 0 ≡ get_or text (at + j) 0 = get_or-drop at text j 0 in
        let back : at + (k - 1 - at) ≡ k - 1 = omega (arith, after) in
        line_len_none (drop at text) (k - 1 - at) (omega (arith, after, within, is)) (e ∙ (ap (λ (n : ℕ). get_or text n 0) back ∙ lf))
  ]

  module _ (none : NoTitle name text at) (other : title (drop at text) ≢ name) where
    -- the next line
    pub title_more : NoTitle name text (at + (end + 1))
    title_more k below begins titled = elim (cases_lt k at) [
      | inl before ↦ none k before begins titled
      | inr not ↦ elim (cases_eq k at) [
        | inl here ↦ other (ap (λ (n : ℕ). title (drop n text)) (sym here) ∙ titled)
        | inr later ↦ inner k (omega (arith, not, later)) (omega (arith, below)) begins
      ]
    ]

    -- there is no further line
    pub title_last : end ≡ length (drop at text) → at ≤ length text → (k : ℕ) → IsTitledAt name text k → ⊥
    title_last whole within k t = elim (cases_lt k at) [
      | inl before ↦ none k before t.begins t.titled
      | inr not ↦ elim (cases_eq k at) [
        | inl here ↦ other (ap (λ (n : ℕ). title (drop n text)) (sym here) ∙ t.titled)
        | inr later ↦ (
            let long = length-drop at text in
            let below = t.within in
            inner k (omega (arith, not, later)) (omega (arith, whole, long, below)) t.begins)
      ]
    ]

  pub begins_more : end < length (drop at text) → BeginsLine text (at + (end + 1))
  begins_more less =
      let e : get_or (drop at text) end 0 ≡ get_or text (at + end) 0 = get_or-drop at text end 0 in
      let lf : get_or (drop at text) end 0 ≡ 10 = ap (λ (n : ℕ). get_or (drop at text) n 0) (sym is) ∙ line_len_end (drop at text) (omega (arith, is, less)) in
      inr (ap (λ (n : ℕ). get_or text n 0) (omega arith) ∙ (sym e ∙ lf))

-- there is no line left
pub title_end : (name text : List ℕ) (at : ℕ) → NoTitle name text at → drop at text ≡ [] → (k : ℕ) → IsTitledAt name text k → ⊥
title_end name text at none empty k t =
    let long = length-drop at text in
    let gone = ap length empty in
    let below = t.within in
    none k (omega (arith, long, gone, below)) t.begins t.titled

-- a name is that of one first line
pub one_title : (name text : List ℕ) (a b : ℕ) → IsTitledAt name text a → IsTitledAt name text b → a ≡ b
one_title name text a b is its = elim (cases_lt a b) [
  | inl less ↦ absurd (its.first a less is.begins is.titled)
  | inr not ↦ elim (cases_lt b a) [
    | inl less ↦ absurd (is.first b less its.begins its.titled)
    | inr same ↦ omega (arith, not, same)
  ]
]

-- no line `[published]` after it
pub no_second : (bytes : List ℕ) (first : ℕ) → IsTitledAt (codes "[requests]") (skip_mark bytes) first → ((at : ℕ) → IsTitledAt (codes "[published]") (after_line (drop first (skip_mark bytes))) at → ⊥) → HasNoSection bytes
no_second bytes first t none bundle requests published cut =
    let same = one_title (codes "[requests]") (skip_mark bytes) cut.first first cut.requests_line t in
    none cut.second (subst (λ (n : ℕ). IsTitledAt (codes "[published]") (after_line (drop n (skip_mark bytes))) cut.second) same cut.published_line)

-- What two cuts of the same bytes are.
pub record AreSameSplit (bundle requests published other more rest : List ℕ) : Type 0 where
  pub bundles : bundle ≡ other
  pub scripts : requests ≡ more
  pub papers : published ≡ rest

-- bytes are cut in one way
pub one_split : (bytes bundle requests published other more rest : List ℕ) → IsSplit bytes bundle requests published → IsSplit bytes other more rest → AreSameSplit bundle requests published other more rest
one_split bytes bundle requests published other more rest a b =
    let text = skip_mark bytes in
    let first : a.first ≡ b.first = one_title (codes "[requests]") text a.first b.first a.requests_line b.requests_line in
    let second : a.second ≡ b.second = one_title (codes "[published]") (after_line (drop b.first text)) a.second b.second
    (subst (λ (n : ℕ). IsTitledAt (codes "[published]") (after_line (drop n text)) a.second) first a.published_line) b.published_line in
    record {
      bundles = a.is_bundle ∙ (ap (λ (n : ℕ). take (length bytes - length text + n) bytes) first ∙ sym b.is_bundle);
      scripts = a.is_requests ∙ (ap (λ (n : ℕ). take a.second (after_line (drop n text))) first ∙ (ap (λ (n : ℕ). take n (after_line (drop b.first text))) second ∙ sym b.is_requests));
      papers = a.is_published ∙ (ap (λ (n : ℕ). after_line (drop a.second (after_line (drop n text)))) first ∙ (ap (λ (n : ℕ). after_line (drop n (after_line (drop b.first text)))) second ∙ sym b.is_published));
    }

-- a cut as it is made
pub split_made : (bytes text rest tail last published : List ℕ) (first second : ℕ) → text ≡ skip_mark bytes → tail ≡ drop first text → rest ≡ after_line tail → last ≡ drop second rest → published ≡ after_line last
    → IsTitledAt (codes "[requests]") text first → IsTitledAt (codes "[published]") rest second → IsSplit bytes (take (length bytes - length text + first) bytes) (take second rest) published
split_made bytes text rest tail last published first second mark from line to end one two =
    let whole : rest ≡ after_line (drop first (skip_mark bytes)) = line ∙ (ap (λ (z : List ℕ). after_line z) from ∙ ap (λ (z : List ℕ). after_line (drop first z)) mark) in
    record {
      first = first;
      second = second;
      requests_line = subst (λ (z : List ℕ). IsTitledAt (codes "[requests]") z first) mark one;
      published_line = subst (λ (z : List ℕ). IsTitledAt (codes "[published]") z second) whole two;
      is_bundle = ap (λ (z : List ℕ). take (length bytes - length z + first) bytes) mark;
      is_requests = ap (λ (z : List ℕ). take second z) whole;
      is_published = end ∙ (ap (λ (z : List ℕ). after_line z) to ∙ ap (λ (z : List ℕ). after_line (drop second z)) whole);
    }

-- no line `[published]`, as it is found
pub none_made : (bytes text rest tail : List ℕ) (first : ℕ) → text ≡ skip_mark bytes → tail ≡ drop first text → rest ≡ after_line tail → IsTitledAt (codes "[requests]") text first
    → ((at : ℕ) → IsTitledAt (codes "[published]") rest at → ⊥) → HasNoSection bytes
none_made bytes text rest tail first mark from line one none =
    let whole : rest ≡ after_line (drop first (skip_mark bytes)) = line ∙ (ap (λ (z : List ℕ). after_line z) from ∙ ap (λ (z : List ℕ). after_line (drop first z)) mark) in
    no_second bytes first (subst (λ (z : List ℕ). IsTitledAt (codes "[requests]") z first) mark one) (λ at t. none at (subst (λ (z : List ℕ). IsTitledAt (codes "[published]") z at) (sym whole) t))

-- the bytes after a byte order mark are no more
mark_short : (bytes : List ℕ) → length (skip_mark bytes) ≤ length bytes
mark_short [] = omega arith
mark_short (a ∷ []) = omega arith
mark_short (a ∷ b ∷ []) = omega arith
mark_short (a ∷ b ∷ c ∷ bytes) = by (eqb a 239 && eqb b 187 && eqb c 191)
  where
    by : (t : Bool) → length (cond t bytes (a ∷ b ∷ c ∷ bytes)) ≤ length (a ∷ b ∷ c ∷ bytes)
    by true = omega arith
    by false = omega arith

-- the published texts are no longer than all bytes
pub published_short : (bytes bundle requests published : List ℕ) → IsSplit bytes bundle requests published → length published ≤ length bytes
published_short bytes bundle requests published cut =
    let text = skip_mark bytes in
    let rest = after_line (drop cut.first text) in
    let end = ap (λ (z : List ℕ). length z) cut.is_published in
    let a = length-drop (line_len (drop cut.second rest) + 1) (drop cut.second rest) in
    let b = length-drop cut.second rest in
    let c = length-drop (line_len (drop cut.first text) + 1) (drop cut.first text) in
    let d = length-drop cut.first text in
    let e = mark_short bytes in
    omega (arith, end, a, b, c, d, e)
