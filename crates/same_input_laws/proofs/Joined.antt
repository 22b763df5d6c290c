-- A bundle, requests and texts that are put together are cut into these again.
use Rattle.std.proofs.Common.{◌≡◌, ◌<◌, ◌≤◌, ◌+◌, ◌-◌, ◌++◌, inl, inr, ℕ, zero, suc, Bool, true, false, List, [], ◌∷◌, length, take, drop, get_or, arith, refl, sym, ap, ◌∙◌, subst, ◌==◌, if◌then◌else◌}
use Rattle.std.specs.Prelude.{◌&&◌, codes}
use Rattle.std.proofs.lemmas.List.{length-append}
use Rattle.office_text.specs.Lines.{drop_cr, skip_mark, trimmed}
use Rattle.season_file.specs.Bundle.{after_line, line_len, title}
use Rattle.dossier_file.specs.Split.{BeginsLine, IsTitledAt}
use Rattle.same_input_laws.specs.Joined.{AreWholeLines, HaveNoLine, JoinedAreCut}

-- ---- fronts

rest_of : (xs ys : List ℕ) → drop (length xs) (xs ++ ys) ≡ ys
rest_of [] ys = refl
rest_of (x ∷ xs) ys = rest_of xs ys

front_of : (xs ys : List ℕ) → take (length xs) (xs ++ ys) ≡ xs
front_of [] ys = refl
front_of (x ∷ xs) ys = ap (λ (l : List ℕ). x ∷ l) (front_of xs ys)

front_at : (xs ys : List ℕ) (i : ℕ) → i < length xs → get_or (xs ++ ys) i 0 ≡ get_or xs i 0
front_at [] ys i less = absurd (omega (arith, less))
front_at (x ∷ xs) ys zero less = refl
front_at (x ∷ xs) ys (suc i) less = front_at xs ys i (omega (arith, less))

last_break : (front ys : List ℕ) → get_or ((front ++ 10 ∷ []) ++ ys) (length front) 0 ≡ 10
last_break [] ys = refl
last_break (x ∷ front) ys = last_break front ys

-- the first of whole lines is not changed by what follows them
first_line : (front ys : List ℕ) → take (line_len ((front ++ 10 ∷ []) ++ ys)) ((front ++ 10 ∷ []) ++ ys) ≡ take (line_len (front ++ 10 ∷ [])) (front ++ 10 ∷ [])
first_line [] ys = refl
first_line (b ∷ front) ys = by (b == 10) (first_line front ys)
  where
    by : (t : Bool) → take (line_len ((front ++ 10 ∷ []) ++ ys)) ((front ++ 10 ∷ []) ++ ys) ≡ take (line_len (front ++ 10 ∷ [])) (front ++ 10 ∷ [])
        → take (if t then 0 else suc (line_len ((front ++ 10 ∷ []) ++ ys))) (b ∷ ((front ++ 10 ∷ []) ++ ys)) ≡ take (if t then 0 else suc (line_len (front ++ 10 ∷ []))) (b ∷ (front ++ 10 ∷ []))
    by true rest = refl
    by false rest = ap (λ (l : List ℕ). b ∷ l) rest

title_stays : (front ys : List ℕ) (at : ℕ) → at ≤ length front → title (drop at ((front ++ 10 ∷ []) ++ ys)) ≡ title (drop at (front ++ 10 ∷ []))
title_stays front ys zero less = ap (λ (l : List ℕ). trimmed (drop_cr l)) (first_line front ys)
title_stays [] ys (suc at) less = absurd (omega (arith, less))
title_stays (b ∷ front) ys (suc at) less = title_stays front ys at (omega (arith, less))

-- ---- the line behind whole lines

begins_there : (xs ys : List ℕ) → AreWholeLines xs → BeginsLine (xs ++ ys) (length xs)
begins_there xs ys (inl none) = inl (ap (λ (l : List ℕ). length l) none)
begins_there xs ys (inr some) =
    let size : length xs - 1 ≡ length some.0 = (let e = ap (λ (l : List ℕ). length l) some.1 in let sum = length-append some.0 (10 ∷ []) in omega (arith, e, sum)) in
    inr (ap (λ (n : ℕ). get_or (xs ++ ys) n 0) size ∙ (ap (λ (l : List ℕ). get_or (l ++ ys) (length some.0) 0) some.1 ∙ last_break some.0 ys))

begins_before : (xs ys : List ℕ) (at : ℕ) → at < length xs → BeginsLine (xs ++ ys) at → BeginsLine xs at
begins_before xs ys at less (inl none) = inl none
begins_before xs ys at less (inr after) = inr (sym (front_at xs ys (at - 1) (omega (arith, less))) ∙ after)

titled_there : (name xs ys : List ℕ) → AreWholeLines xs → HaveNoLine name xs → 0 < length ys → title ys ≡ name → IsTitledAt name (xs ++ ys) (length xs)
titled_there name xs ys lines none some named = record {
  within = (let sum = length-append xs ys in omega (arith, sum, some));
  begins = begins_there xs ys lines;
  titled = ap (λ (l : List ℕ). title l) (rest_of xs ys) ∙ named;
  first = λ k less begins e. elim lines [
    | inl empty ↦ (let size = ap (λ (l : List ℕ). length l) empty in omega (arith, size, less))
    | inr front ↦
        let size : length xs ≡ length front.0 + 1 = ap (λ (l : List ℕ). length l) front.1 ∙ length-append front.0 (10 ∷ []) in
        let stays = title_stays front.0 ys k (omega (arith, less, size)) in
        let same : title (drop k (xs ++ ys)) ≡ title (drop k xs) =
        subst (λ (l : List ℕ). title (drop k (l ++ ys)) ≡ title (drop k l)) (sym front.1) stays in
        none k less (begins_before xs ys k less begins) (sym same ∙ e)
  ];
}

-- ---- a mark at the beginning

record IsMarked (front ys : List ℕ) : Type 0 where
  rest : skip_mark ((front ++ 10 ∷ []) ++ ys) ≡ skip_mark (front ++ 10 ∷ []) ++ ys
  lines : AreWholeLines (skip_mark (front ++ 10 ∷ []))
  fewer : length (skip_mark (front ++ 10 ∷ [])) ≤ length (front ++ 10 ∷ [])

marked : (front ys : List ℕ) → 3 ≤ length (front ++ 10 ∷ []) → IsMarked front ys
marked [] ys some = absurd (omega (arith, some))
marked (a ∷ []) ys some = absurd (omega (arith, some))
marked (a ∷ b ∷ []) ys some = (let m = by (a == 239 && b == 187 && 10 == 191) in record { rest = m.0; lines = m.1; fewer = m.2 })
  where
    by : (t : Bool) → ((if t then ys else a ∷ b ∷ 10 ∷ ys) ≡ (if t then [] else a ∷ b ∷ 10 ∷ []) ++ ys) × AreWholeLines (if t then [] else a ∷ b ∷ 10 ∷ []) × (length (if t then [] else a ∷ b ∷ 10 ∷ []) ≤ 3)
    by true = (refl, inl refl, omega arith)
    by false = (refl, inr (a ∷ b ∷ [], refl), omega arith)
marked (a ∷ b ∷ c ∷ front) ys some = (let m = by (a == 239 && b == 187 && c == 191) in record { rest = m.0; lines = m.1; fewer = m.2 })
  where
    by : (t : Bool) → ((if t then (front ++ 10 ∷ []) ++ ys else a ∷ b ∷ c ∷ ((front ++ 10 ∷ []) ++ ys)) ≡ (if t then front ++ 10 ∷ [] else a ∷ b ∷ c ∷ (front ++ 10 ∷ [])) ++ ys)
        × AreWholeLines (if t then front ++ 10 ∷ [] else a ∷ b ∷ c ∷ (front ++ 10 ∷ []))
        × (length (if t then front ++ 10 ∷ [] else a ∷ b ∷ c ∷ (front ++ 10 ∷ [])) ≤ length (a ∷ b ∷ c ∷ (front ++ 10 ∷ [])))
    by true = (refl, inr (front, refl), omega arith)
    by false = (refl, inr (a ∷ b ∷ c ∷ front, refl), omega arith)

-- ---- all together

pub joined_are_cut : JoinedAreCut
joined_are_cut bundle requests texts can =
    let tail : List ℕ = codes "[published]\n" ++ texts in
    let middle : List ℕ = requests ++ tail in
    let rest : List ℕ = codes "[requests]\n" ++ middle in
    let bytes : List ℕ = bundle ++ rest in
    let mark = marked can.front rest (subst (λ (l : List ℕ). 3 ≤ length l) can.bundle_lines can.some) in
    let text : skip_mark bytes ≡ skip_mark bundle ++ rest = subst (λ (l : List ℕ). skip_mark (l ++ rest) ≡ skip_mark l ++ rest) (sym can.bundle_lines) mark.rest in
    let lines : AreWholeLines (skip_mark bundle) = subst (λ (l : List ℕ). AreWholeLines (skip_mark l)) (sym can.bundle_lines) mark.lines in
    let fewer : length (skip_mark bundle) ≤ length bundle = subst (λ (l : List ℕ). length (skip_mark l) ≤ length l) (sym can.bundle_lines) mark.fewer in
    let past : drop (length (skip_mark bundle)) (skip_mark bytes) ≡ rest = ap (λ (l : List ℕ). drop (length (skip_mark bundle)) l) text ∙ rest_of (skip_mark bundle) rest in
    let after : after_line (drop (length (skip_mark bundle)) (skip_mark bytes)) ≡ middle = ap (λ (l : List ℕ). after_line l) past in
    let whole = length-append bundle rest in
    let size : length (skip_mark bytes) ≡ length (skip_mark bundle) + length rest = ap (λ (l : List ℕ). length l) text ∙ length-append (skip_mark bundle) rest in
    let count : length bytes - length (skip_mark bytes) + length (skip_mark bundle) ≡ length bundle = omega (arith, whole, size, fewer) in
    record {
      first = length (skip_mark bundle);
      second = length requests;
      requests_line = subst (λ (l : List ℕ). IsTitledAt (codes "[requests]") l (length (skip_mark bundle))) (sym text)
          (titled_there (codes "[requests]") (skip_mark bundle) rest lines can.no_requests (omega arith) refl);
      published_line = subst (λ (l : List ℕ). IsTitledAt (codes "[published]") l (length requests)) (sym after)
          (titled_there (codes "[published]") requests tail can.request_lines can.no_published (omega arith) refl);
      is_bundle = sym (ap (λ (n : ℕ). take n bytes) count ∙ front_of bundle rest);
      is_requests = sym (ap (λ (l : List ℕ). take (length requests) l) after ∙ front_of requests tail);
      is_published = sym (ap (λ (l : List ℕ). after_line (drop (length requests) l)) after ∙ ap (λ (l : List ℕ). after_line l) (rest_of requests tail));
    }
