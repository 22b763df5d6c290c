-- Another body may take the place of the choices.
use Rattle.std.proofs.Common.{◌≡◌, inl, inr, ℕ, Bool, true, cond, List, [], ◌∷◌, ◌++◌, length, take, drop, Option, Some, Result, Ok, Err, refl, sym, ap, subst, ◌∙◌, append_assoc, add-one, arith}
use Rattle.std.proofs.Math.Seq.{drop-append_seam, take-append_seam}
use Rattle.std.proofs.lemmas.List.{append-nil, take-append-drop}
use Rattle.std.specs.Prelude.{bytes_eq, codes}
use Rattle.office_text.specs.Lines.{drop_cr, skip_mark, trimmed}
use Rattle.section_rows.specs.Steps.{after, needs}
use Rattle.section_rows.proofs.StepsLemmas.{after_ok, needs_ok}
use Rattle.season_file.specs.Bundle.{Parts, after_line, body_and_rest, body_len, bundle_of, last_section, line_len, section, sections, skip_empty, text_of, title, version_of, with_line}
use Rattle.season_file.specs.Replaced.{IsReplaceable, IsWhole, with_choices}
use Rattle.season_file.specs.declared.fault.SeasonFault.TheVariants.{BadFirstLine}
use Rattle.season_file.proofs.SplitLemmas.{Begins, IsNext, after-split, from_choices, from_matrix, from_register, from_season, last_ok, line_split, mark_split, section_begins, section_ok, section_split, skip_split, title-begins, title-split, version_ok, with_line_ok}

-- ---- one section

-- a pair as a result, by its parts
abbrev ok_pair : List ℕ × List ℕ → Result (List ℕ × List ℕ) (List ℕ)
ok_pair pair = Ok pair

next-none : (rest : List ℕ) → IsNext rest → body_len true rest ≡ 0
next-none rest (inl none) = ap (body_len true) none
next-none rest (inr more) = ap (body_len true) more.1

-- a whole body and what follows it
whole-cut : (body rest : List ℕ) → IsWhole body → IsNext rest → body_and_rest (body ++ rest) ≡ (body, rest)
whole-cut body rest whole next =
    let n : body_len true (body ++ rest) ≡ length body = omega (arith, whole rest, next-none rest next) in
    let t : take (body_len true (body ++ rest)) (body ++ rest) ≡ body = ap (λ (k : ℕ). take k (body ++ rest)) n ∙ take-append_seam body rest in
    let d : drop (body_len true (body ++ rest)) (body ++ rest) ≡ rest = ap (λ (k : ℕ). drop k (body ++ rest)) n ∙ drop-append_seam body rest in
    cc (t, d)

-- a section may have another whole body, where it has one
record IsOpen (name text body rest : List ℕ) : Type 0 where
  front : List ℕ
  whole : text ≡ front ++ (body ++ rest)
  same : (other : List ℕ) → IsWhole other → (body ≡ [] → other ≡ []) → section name (front ++ (other ++ rest)) ≡ Ok (other, rest)

named : (name bytes left other rest : List ℕ) → bytes_eq (title bytes) name ≡ true → after_line bytes ≡ left → body_and_rest left ≡ (other, rest) → section name bytes ≡ Ok (other, rest)
named name bytes left other rest titled e cut =
    ap (λ (b : Bool). cond b (ok_pair (body_and_rest (after_line bytes))) (Err bytes)) titled ∙ ap (λ (l : List ℕ). ok_pair (body_and_rest l)) e ∙ ap ok_pair cut

open_split : (name text body rest : List ℕ) → section name text ≡ Ok (body, rest) → IsNext rest → IsOpen name text body rest
open_split name text body rest e next = by (after_line text) refl
  where
    are : (bytes_eq (title text) name ≡ true) × (body_and_rest (after_line text) ≡ (body, rest))
    are = section_ok name text (body, rest) e

    parts : take (body_len true (after_line text)) (after_line text) ≡ body
    parts = ap (λ (c : List ℕ × List ℕ). c.0) are.1

    others : drop (body_len true (after_line text)) (after_line text) ≡ rest
    others = ap (λ (c : List ℕ × List ℕ). c.1) are.1

    by : (left : List ℕ) → after_line text ≡ left → IsOpen name text body rest
    by [] is =
        let b : body ≡ [] = sym parts ∙ ap (λ (l : List ℕ). take (body_len true l) l) is in
        let r : rest ≡ [] = sym others ∙ ap (λ (l : List ℕ). drop (body_len true l) l) is in
        record {
          front = text;
          whole = sym (ap (λ (l : List ℕ). text ++ (l ++ rest)) b ∙ ap (λ (l : List ℕ). text ++ l) r ∙ append-nil text);
          same = λ other whole none.
              let o : other ≡ [] = none b in
              let t : text ++ (other ++ rest) ≡ text = ap (λ (l : List ℕ). text ++ (l ++ rest)) o ∙ ap (λ (l : List ℕ). text ++ l) r ∙ append-nil text in
              ap (section name) t ∙ e ∙ ap (λ (l : List ℕ). ok_pair (l, rest)) (b ∙ sym o);
        }
    by (x ∷ more) is =
        let (line, split) = line_split text x more (ap (λ (n : ℕ). drop n text) (sym (add-one (line_len text))) ∙ is) in
        let left : x ∷ more ≡ body ++ rest =
        sym is ∙ sym (take-append-drop (body_len true (after_line text)) (after_line text)) ∙ ap (λ (b : List ℕ). b ++ drop (body_len true (after_line text)) (after_line text)) parts
        ∙ ap (λ (b : List ℕ). body ++ b) others in
        let head : title text ≡ trimmed (drop_cr line) = ap title split.whole ∙ title-split text line (x ∷ more) (x ∷ more) split in
        record {
          front = line ++ 10 ∷ [];
          whole = split.whole ∙ ap (λ (b : List ℕ). line ++ 10 ∷ b) left ∙ sym (append_assoc line (10 ∷ []) (body ++ rest));
          same = λ other whole none.
              subst (λ (b : List ℕ). section name b ≡ Ok (other, rest)) (sym (append_assoc line (10 ∷ []) (other ++ rest)))
              (named name (line ++ 10 ∷ (other ++ rest)) (other ++ rest) other rest
              (ap (λ (b : List ℕ). bytes_eq b name) (title-split text line (x ∷ more) (other ++ rest) split ∙ sym head) ∙ are.0) (after-split text line (x ∷ more) (other ++ rest) split)
              (whole-cut other rest whole next));
        }

-- ---- all sections

composed : (version : ℕ) (t1 t2 t3 t4 t5 : List ℕ) (season register matrix choices last : List ℕ) → section (codes "[season]") t1 ≡ Ok (season, t2) → section (codes "[register]") t2 ≡ Ok (register, t3)
    → section (codes "[matrix]") t3 ≡ Ok (matrix, t4) → section (codes "[choices]") t4 ≡ Ok (choices, t5) → last_section true t5 ≡ Ok last
    → sections true version t1 ≡ Ok (record { version = version; season = season; register = register; matrix = matrix; choices = choices; requests = last })
composed version t1 t2 t3 t4 t5 season register matrix choices last e1 e2 e3 e4 e5 =
    ap (λ (r : Result (List ℕ × List ℕ) (List ℕ)). after r (from_season true version)) e1
    ∙ ap (λ (r : Result (List ℕ × List ℕ) (List ℕ)). after r (from_register true version season)) e2
    ∙ ap (λ (r : Result (List ℕ × List ℕ) (List ℕ)). after r (from_matrix true version season register)) e3
    ∙ ap (λ (r : Result (List ℕ × List ℕ) (List ℕ)). after r (from_choices true version season register matrix)) e4
    ∙ ap (λ (r : Result (List ℕ) (List ℕ)). after r (λ last. Ok (record { version = version; season = season; register = register; matrix = matrix; choices = choices; requests = last }))) e5

-- sections after which the choices may have another body
record AreOpen (version : ℕ) (text : List ℕ) (parts : Parts) : Type 0 where
  front : List ℕ
  whole : text ≡ front ++ (parts.choices ++ parts.requests)
  text_begins : Begins 91 text
  same : (body : List ℕ) → IsWhole body → (parts.choices ≡ [] → body ≡ [])
      → Begins 91 (front ++ (body ++ parts.requests)) × (sections true version (front ++ (body ++ parts.requests)) ≡ Ok (with_choices parts body))

-- the sections of a text, each with its name
record AreNamed (t1 t2 t3 t4 t5 season register matrix choices : List ℕ) : Type 0 where
  first : section (codes "[season]") t1 ≡ Ok (season, t2)
  second : section (codes "[register]") t2 ≡ Ok (register, t3)
  third : section (codes "[matrix]") t3 ≡ Ok (matrix, t4)
  fourth : section (codes "[choices]") t4 ≡ Ok (choices, t5)
  fifth : last_section true t5 ≡ Ok t5
  next : IsNext t5

open_sections : (version : ℕ) (t1 t2 t3 t4 t5 season register matrix choices : List ℕ) → AreNamed t1 t2 t3 t4 t5 season register matrix choices
    → AreOpen version t1 (record { version = version; season = season; register = register; matrix = matrix; choices = choices; requests = t5 })
open_sections version t1 t2 t3 t4 t5 season register matrix choices are =
    let b1 = section_begins (codes "[season]") t1 (season, t2) (drop 1 (codes "[season]"), refl) are.first in
    let b2 = section_begins (codes "[register]") t2 (register, t3) (drop 1 (codes "[register]"), refl) are.second in
    let b3 = section_begins (codes "[matrix]") t3 (matrix, t4) (drop 1 (codes "[matrix]"), refl) are.third in
    let b4 = section_begins (codes "[choices]") t4 (choices, t5) (drop 1 (codes "[choices]"), refl) are.fourth in
    let (f1, s1) = section_split (codes "[season]") t1 (season, t2) b2.0 are.first b2.1 in
    let (f2, s2) = section_split (codes "[register]") t2 (register, t3) b3.0 are.second b3.1 in
    let (f3, s3) = section_split (codes "[matrix]") t3 (matrix, t4) b4.0 are.third b4.1 in
    let s4 = open_split (codes "[choices]") t4 choices t5 are.fourth are.next in
    let w3 : t3 ≡ (f3 ++ s4.front) ++ (choices ++ t5) = s3.whole ∙ ap (λ (b : List ℕ). f3 ++ b) s4.whole ∙ sym (append_assoc f3 s4.front (choices ++ t5)) in
    let w2 : t2 ≡ (f2 ++ (f3 ++ s4.front)) ++ (choices ++ t5) = s2.whole ∙ ap (λ (b : List ℕ). f2 ++ b) w3 ∙ sym (append_assoc f2 (f3 ++ s4.front) (choices ++ t5)) in
    record {
      front = f1 ++ (f2 ++ (f3 ++ s4.front));
      whole = s1.whole ∙ ap (λ (b : List ℕ). f1 ++ b) w2 ∙ sym (append_assoc f1 (f2 ++ (f3 ++ s4.front)) (choices ++ t5));
      text_begins = b1;
      same = λ body whole none. by f1 f2 f3 s4.front body s1.same s2.same s3.same (s4.same body whole none);
    }
  where
    grouped : (f1 f2 f3 f4 body : List ℕ) → (f1 ++ (f2 ++ (f3 ++ f4))) ++ (body ++ t5) ≡ f1 ++ (f2 ++ (f3 ++ (f4 ++ (body ++ t5))))
    grouped f1 f2 f3 f4 body = simp append_assoc

    by : (f1 f2 f3 f4 body : List ℕ) → ((other : List ℕ) → IsNext other → section (codes "[season]") (f1 ++ other) ≡ Ok (season, other))
        → ((other : List ℕ) → IsNext other → section (codes "[register]") (f2 ++ other) ≡ Ok (register, other))
        → ((other : List ℕ) → IsNext other → section (codes "[matrix]") (f3 ++ other) ≡ Ok (matrix, other)) → section (codes "[choices]") (f4 ++ (body ++ t5)) ≡ Ok (body, t5)
        → Begins 91 ((f1 ++ (f2 ++ (f3 ++ f4))) ++ (body ++ t5))
        × (sections true version ((f1 ++ (f2 ++ (f3 ++ f4))) ++ (body ++ t5))
        ≡ Ok (record { version = version; season = season; register = register; matrix = matrix; choices = body; requests = t5 }))
    by f1 f2 f3 f4 body s1 s2 s3 n4 =
        let u4 : List ℕ = f4 ++ (body ++ t5) in
        let c4 = section_begins (codes "[choices]") u4 (body, t5) (drop 1 (codes "[choices]"), refl) n4 in
        let n3 = s3 u4 (inr c4) in
        let c3 = section_begins (codes "[matrix]") (f3 ++ u4) (matrix, u4) (drop 1 (codes "[matrix]"), refl) n3 in
        let n2 = s2 (f3 ++ u4) (inr c3) in
        let c2 = section_begins (codes "[register]") (f2 ++ (f3 ++ u4)) (register, f3 ++ u4) (drop 1 (codes "[register]"), refl) n2 in
        let n1 = s1 (f2 ++ (f3 ++ u4)) (inr c2) in
        let c1 = section_begins (codes "[season]") (f1 ++ (f2 ++ (f3 ++ u4))) (season, f2 ++ (f3 ++ u4)) (drop 1 (codes "[season]"), refl) n1 in
        let same : f1 ++ (f2 ++ (f3 ++ u4)) ≡ (f1 ++ (f2 ++ (f3 ++ f4))) ++ (body ++ t5) = sym (grouped f1 f2 f3 f4 body) in
        subst (λ (t : List ℕ). Begins 91 t × (sections true version t ≡ Ok (record { version = version; season = season; register = register; matrix = matrix; choices = body; requests = t5 }))) same
        (c1, composed version (f1 ++ (f2 ++ (f3 ++ u4))) (f2 ++ (f3 ++ u4)) (f3 ++ u4) u4 t5 season register matrix body t5 n1 n2 n3 n4 are.fifth)

sections_open : (version : ℕ) (text : List ℕ) (parts : Parts) → sections true version text ≡ Ok parts → AreOpen version text parts
sections_open version text parts e =
    let (season, e1, h1) = after_ok (section (codes "[season]") text) (from_season true version) parts e in
    let (register, e2, h2) = after_ok (section (codes "[register]") season.1) (from_register true version season.0) parts h1 in
    let (matrix, e3, h3) = after_ok (section (codes "[matrix]") register.1) (from_matrix true version season.0 register.0) parts h2 in
    let (choices, e4, h4) = after_ok (section (codes "[choices]") matrix.1) (from_choices true version season.0 register.0 matrix.0) parts h3 in
    let (last, e5, h5) = after_ok (last_section true choices.1) (λ last. Ok (record { version = version; season = season.0; register = register.0; matrix = matrix.0; choices = choices.0; requests = last })) parts h4 in
    let (same, next) = last_ok true choices.1 last e5 in
    let made : record { version = version; season = season.0; register = register.0; matrix = matrix.0; choices = choices.0; requests = choices.1 } ≡ parts = cc (h5, same) in
    subst (λ (p : Parts). AreOpen version text p) made
    (open_sections version text season.1 register.1 matrix.1 choices.1 season.0 register.0 matrix.0 choices.0
    (record { first = e1; second = e2; third = e3; fourth = e4; fifth = subst (λ (l : List ℕ). last_section true choices.1 ≡ Ok l) same e5; next = next }))

-- ---- the whole bundle

texts : (version : ℕ) (text rest : List ℕ) (parts : Parts) → version_of (title text) ≡ Some version → skip_empty (after_line text) ≡ rest → sections true version rest ≡ Ok parts → text_of true text ≡ Ok parts
texts version text rest parts e1 e2 e3 =
    ap (λ (o : Option ℕ). needs o BadFirstLine (λ version. with_line text (sections true version (skip_empty (after_line text))))) e1
    ∙ ap (λ (bytes : List ℕ). with_line text (sections true version bytes)) e2
    ∙ ap (λ (r : Result Parts (List ℕ)). with_line text r) e3

-- what comes before the sections: another text of sections may follow it
record IsHead (bytes : List ℕ) (version : ℕ) (rest : List ℕ) : Type 0 where
  front : List ℕ
  whole : bytes ≡ front ++ rest
  same : (other : List ℕ) (parts : Parts) → Begins 91 other → sections true version other ≡ Ok parts → bundle_of true (front ++ other) ≡ Ok parts

head_open : (bytes : List ℕ) (version : ℕ) → version_of (title (skip_mark bytes)) ≡ Some version → Begins 91 (skip_empty (after_line (skip_mark bytes)))
    → IsHead bytes version (skip_empty (after_line (skip_mark bytes)))
head_open bytes version titled starts =
    let text : List ℕ = skip_mark bytes in
    let (known, head) = version_ok (title text) version titled in
    let (o, begins) = title-begins 111 text head in
    let (mark, marked, same_mark) = mark_split bytes o begins in
    let (gap, skipped, same_gap) = skip_split (after_line text) starts.0 starts.1 in
    let filled = subst (λ (b : List ℕ). (first : ℕ) × Begins first b) (sym skipped) (filled_by gap starts.0) in
    let first : ℕ = filled.0 in
    let more : List ℕ = filled.1.0 in
    let (line, split) = line_split text first more (ap (λ (n : ℕ). drop n text) (sym (add-one (line_len text))) ∙ filled.1.1) in
    let old_title : title text ≡ trimmed (drop_cr line) = ap title split.whole ∙ title-split text line (first ∷ more) (first ∷ more) split in
    record {
      front = mark ++ (line ++ 10 ∷ gap);
      whole = marked ∙ ap (λ (b : List ℕ). mark ++ b) (sym begins ∙ split.whole ∙ ap (λ (b : List ℕ). line ++ 10 ∷ b) (sym filled.1.1 ∙ skipped ∙ ap (λ (b : List ℕ). gap ++ b) (sym starts.1)))
          ∙ regroup mark line gap (skip_empty (after_line text));
      same = λ other parts fits cut.
          let new : List ℕ = line ++ 10 ∷ (gap ++ other) in
          let same_title : title new ≡ title text = title-split text line (first ∷ more) (gap ++ other) split ∙ sym old_title in
          let new_begins : Begins 111 new = title-begins 111 new (head.0, same_title ∙ head.1) in
          let new_rest : skip_empty (after_line new) ≡ other = ap skip_empty (after-split text line (first ∷ more) (gap ++ other) split) ∙ same_gap other fits in
          ap (bundle_of true) (sym (regroup mark line gap other)) ∙ ap (λ (b : List ℕ). text_of true b) (same_mark new new_begins) ∙ texts version new other parts (ap version_of same_title ∙ titled) new_rest cut;
    }
  where
    filled_by : (gap rest : List ℕ) → (first : ℕ) × Begins first (gap ++ 91 ∷ rest)
    filled_by [] rest = (91, (rest, refl))
    filled_by (x ∷ gap) rest = (x, (gap ++ 91 ∷ rest, refl))

    regroup : (mark line gap other : List ℕ) → mark ++ (line ++ 10 ∷ (gap ++ other)) ≡ (mark ++ (line ++ 10 ∷ gap)) ++ other
    regroup mark line gap other = simp append_assoc

-- The choices of a bundle may be replaced.
pub replaceable : (bytes : List ℕ) (parts : Parts) → bundle_of true bytes ≡ Ok parts → IsReplaceable bytes parts
replaceable bytes parts e =
    let text : List ℕ = skip_mark bytes in
    let (version, titled, h) = needs_ok (version_of (title text)) BadFirstLine (λ version. with_line text (sections true version (skip_empty (after_line text)))) parts e in
    let cut = with_line_ok text (sections true version (skip_empty (after_line text))) parts h in
    let are = sections_open version (skip_empty (after_line text)) parts cut in
    let head = head_open bytes version titled are.text_begins in
    record {
      front = head.front ++ are.front;
      whole = head.whole ∙ ap (λ (b : List ℕ). head.front ++ b) are.whole ∙ sym (append_assoc head.front are.front (parts.choices ++ parts.requests));
      same = λ body whole none.
          let (starts, again) = are.same body whole none in
          ap (bundle_of true) (append_assoc head.front are.front (body ++ parts.requests)) ∙ head.same (are.front ++ (body ++ parts.requests)) (with_choices parts body) starts again;
    }
