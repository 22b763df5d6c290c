-- What comes before the section of the requests is cut as the whole bundle is.
use Rattle.std.proofs.Common.{◌≡◌, ◌+◌, ◌⊎◌, inl, inr, ℕ, zero, suc, Bool, true, false, cond, ◌&&◌, eqb, List, [], ◌∷◌, ◌++◌, length, take, drop, Option, Some, None, Result, Ok, Err, refl, sym, ap, subst, ◌∙◌, append_assoc, add-one}
use Rattle.std.proofs.Math.Seq.{take-append_seam}
use Rattle.std.proofs.lemmas.Bool.{and_parts, eqb-true}
use Rattle.std.proofs.lemmas.List.{append-nil}
use Rattle.std.proofs.lemmas.Slice.Eq.{bytes_eq-Decides}
use Rattle.std.specs.Prelude.{bytes_eq, codes}
use Rattle.office_base.specs.Version.{IsVersion}
use Rattle.office_text.specs.Lines.{drop_cr, skip_mark, trimmed, unless_last}
use Rattle.section_rows.specs.Steps.{after, needs}
use Rattle.section_rows.proofs.StepsLemmas.{after_ok, needs_ok}
use Rattle.season_file.specs.Bundle.{Parts, after_line, body_and_rest, body_len, bundle_of, closed, last_section, line_len, section, sections, skip_empty, text_of, title, version_of, with_line}
use Rattle.season_file.specs.declared.fault.SeasonFault.TheVariants.{BadFirstLine}

-- the bytes begin with this one
abbrev pub Begins : ℕ → List ℕ → Type 0
Begins byte bytes = (more : List ℕ) × (bytes ≡ byte ∷ more)

-- nothing, or what begins with `[`
abbrev pub IsNext : List ℕ → Type 0
IsNext bytes = (bytes ≡ []) ⊎ Begins 91 bytes

-- A trimmed line begins as the line does.
trimmed-begins : (x : ℕ) (line : List ℕ) → Begins x (trimmed line) → Begins x line
trimmed-begins x [] b = absurd (let e : [] ≡ x ∷ b.0 = b.1 in cc)
trimmed-begins x (a ∷ line) b = by (trimmed line) b
  where
    alone : (last : Bool) → Begins x (cond last [] (a ∷ [])) → Begins x (a ∷ line)
    alone true b = absurd (let e : [] ≡ x ∷ b.0 = b.1 in cc)
    alone false b = (line, let e : a ∷ [] ≡ x ∷ b.0 = b.1 in cc)

    by : (rest : List ℕ) → Begins x (unless_last 44 a rest) → Begins x (a ∷ line)
    by [] b = alone (eqb a 44) b
    by (next ∷ rest) b = (line, let e : a ∷ next ∷ rest ≡ x ∷ b.0 = b.1 in cc)

drop_cr-begins : (x : ℕ) (line : List ℕ) → Begins x (drop_cr line) → Begins x line
drop_cr-begins x [] b = absurd (let e : [] ≡ x ∷ b.0 = b.1 in cc)
drop_cr-begins x (a ∷ []) b = by (eqb a 13) b
  where
    by : (last : Bool) → Begins x (cond last [] (a ∷ [])) → Begins x (a ∷ [])
    by true b = absurd (let e : [] ≡ x ∷ b.0 = b.1 in cc)
    by false b = b
drop_cr-begins x (a ∷ next ∷ line) b = (next ∷ line, let e : a ∷ drop_cr (next ∷ line) ≡ x ∷ b.0 = b.1 in cc)

take-begins : (x n : ℕ) (bytes : List ℕ) → Begins x (take n bytes) → Begins x bytes
take-begins x zero bytes b = absurd (let e : [] ≡ x ∷ b.0 = b.1 in cc)
take-begins x (suc n) [] b = absurd (let e : [] ≡ x ∷ b.0 = b.1 in cc)
take-begins x (suc n) (a ∷ bytes) b = (bytes, let e : a ∷ take n bytes ≡ x ∷ b.0 = b.1 in cc)

-- A text begins as its title does.
pub title-begins : (x : ℕ) (text : List ℕ) → Begins x (title text) → Begins x text
title-begins x text b = take-begins x (line_len text) text (drop_cr-begins x (take (line_len text) text) (trimmed-begins x (drop_cr (take (line_len text) text)) b))

-- a line that something follows ends with LF, whatever follows
pub record IsSplit (text line rest : List ℕ) : Type 0 where
  pub whole : text ≡ line ++ 10 ∷ rest
  pub same : (other : List ℕ) → line_len (line ++ 10 ∷ other) ≡ length line

pub line_split : (text : List ℕ) (x : ℕ) (rest : List ℕ) → drop (suc (line_len text)) text ≡ x ∷ rest → (line : List ℕ) × IsSplit text line (x ∷ rest)
line_split [] x rest e = absurd cc
line_split (a ∷ text) x rest e = by (λ h. line_split text x rest h) (eqb a 10) refl e
  where
    by : (drop (suc (line_len text)) text ≡ x ∷ rest → (line : List ℕ) × IsSplit text line (x ∷ rest))
        → (b : Bool) → eqb a 10 ≡ b → drop (suc (cond b 0 (suc (line_len text)))) (a ∷ text) ≡ x ∷ rest → (line : List ℕ) × IsSplit (a ∷ text) line (x ∷ rest)
    by next true same h = ([], record { whole = let is : a ≡ 10 = eqb-true a 10 same in cc (is, h); same = λ other. refl })
    by next false same h =
        let (line, split) = next h in (
          a ∷ line,
          record {
            whole = ap (λ (bytes : List ℕ). a ∷ bytes) split.whole;
            same = λ other. rw same (ap suc (split.same other));
          },
        )

-- the title of such a line, and what follows it
pub title-split : (text line rest other : List ℕ) → IsSplit text line rest → title (line ++ 10 ∷ other) ≡ trimmed (drop_cr line)
title-split text line rest other split = ap (λ (n : ℕ). trimmed (drop_cr (take n (line ++ 10 ∷ other)))) (split.same other) ∙ ap (λ (bytes : List ℕ). trimmed (drop_cr bytes)) (take-append_seam line (10 ∷ other))

drop-after : (line other : List ℕ) → drop (suc (length line)) (line ++ 10 ∷ other) ≡ other
drop-after [] other = refl
drop-after (a ∷ line) other = drop-after line other

pub after-split : (text line rest other : List ℕ) → IsSplit text line rest → after_line (line ++ 10 ∷ other) ≡ other
after-split text line rest other split =
    ap (λ (n : ℕ). drop (n + 1) (line ++ 10 ∷ other)) (split.same other) ∙ ap (λ (n : ℕ). drop n (line ++ 10 ∷ other)) (add-one (length line)) ∙ drop-after line other

-- A body that a section line follows is the same before another one, and before nothing.
abbrev Cuts : Bool → List ℕ → List ℕ → List ℕ → Type 0
Cuts begins bytes body rest = (take (body_len begins bytes) bytes ≡ body) × (drop (body_len begins bytes) bytes ≡ rest)

abbrev IsBody : Bool → List ℕ → List ℕ → List ℕ → Type 0
IsBody begins bytes body rest = (bytes ≡ body ++ rest) × (take (body_len begins bytes) bytes ≡ body) × ((other : List ℕ) → IsNext other → Cuts begins (body ++ other) body other)

body_split : (begins : Bool) (bytes rest : List ℕ) → drop (body_len begins bytes) bytes ≡ 91 ∷ rest → (body : List ℕ) × IsBody begins bytes body (91 ∷ rest)
body_split begins [] rest e = absurd cc
body_split begins (x ∷ bytes) rest e = by (λ h. body_split (eqb x 10) bytes rest h) (begins && eqb x 91) refl e
  where
    open_other : begins ≡ true → (other : List ℕ) → IsNext other → Cuts begins other [] other
    open_other is other (inl none) = subst (λ (bytes : List ℕ). Cuts begins bytes [] bytes) (sym none) (refl, refl)
    open_other is other (inr next) = subst (λ (bytes : List ℕ). Cuts begins bytes [] bytes) (sym next.1) (rw is (refl, refl))

    more : (test : Bool) → (begins && eqb x 91) ≡ test → test ≡ false → (body other : List ℕ) → Cuts (eqb x 10) (body ++ other) body other → Cuts begins (x ∷ (body ++ other)) (x ∷ body) other
    more test is shut body other cut = rw (is ∙ shut) (ap (λ (bytes : List ℕ). x ∷ bytes) cut.0, cut.1)

    by : (drop (body_len (eqb x 10) bytes) bytes ≡ 91 ∷ rest → (body : List ℕ) × IsBody (eqb x 10) bytes body (91 ∷ rest))
        → (test : Bool) → (begins && eqb x 91) ≡ test → drop (cond test 0 (suc (body_len (eqb x 10) bytes))) (x ∷ bytes) ≡ 91 ∷ rest → (body : List ℕ) × IsBody begins (x ∷ bytes) body (91 ∷ rest)
    by next true is h = ([], (h, (rw is refl), λ other fits. open_other ((and_parts begins (eqb x 91) is).0) other fits))
    by next false is h =
        let (body, found) = next h in
        (x ∷ body, (ap (λ (bytes : List ℕ). x ∷ bytes) found.0, (rw is (ap (λ (bytes : List ℕ). x ∷ bytes) found.1)), λ other fits. more false is refl body other (found.2 other fits)))

-- A section that another one follows is the same before another one, and before nothing.
pub record IsSection (name text body rest : List ℕ) (front : List ℕ) : Type 0 where
  pub whole : text ≡ front ++ rest
  pub same : (other : List ℕ) → IsNext other → section name (front ++ other) ≡ Ok (body, other)

pub section_ok : (name text : List ℕ) (cut : List ℕ × List ℕ) → section name text ≡ Ok cut → (bytes_eq (title text) name ≡ true) × (body_and_rest (after_line text) ≡ cut)
section_ok name text cut e = by (bytes_eq (title text) name) refl e
  where
    by : (b : Bool) → bytes_eq (title text) name ≡ b → cond b (Ok (body_and_rest (after_line text))) (Err text) ≡ Ok cut → (bytes_eq (title text) name ≡ true) × (body_and_rest (after_line text) ≡ cut)
    by true is h = (is, cc h)
    by false is h = absurd cc

-- a pair as a result, by its parts
abbrev ok_pair : List ℕ × List ℕ → Result (List ℕ × List ℕ) (List ℕ)
ok_pair pair = Ok pair

ok_parts : (left body other : List ℕ) → Cuts true left body other → ok_pair (body_and_rest left) ≡ ok_pair (body, other)
ok_parts left body other cuts = cc (cuts.0, cuts.1)

-- what something is left of is not empty
drop-filled : (n : ℕ) (bytes : List ℕ) (x : ℕ) (rest : List ℕ) → drop n bytes ≡ x ∷ rest → (first : ℕ) × Begins first bytes
drop-filled n (first ∷ bytes) x rest e = (first, (bytes, refl))
drop-filled zero [] x rest e = absurd cc
drop-filled (suc n) [] x rest e = absurd cc

pub section_split : (name text : List ℕ) (cut : List ℕ × List ℕ) (rest : List ℕ) → section name text ≡ Ok cut → cut.1 ≡ 91 ∷ rest → (front : List ℕ) × IsSection name text cut.0 cut.1 front
section_split name text cut rest e next =
    let (titled, pair) = section_ok name text cut e in
    let taken : take (body_len true (after_line text)) (after_line text) ≡ cut.0 = ap (λ (c : List ℕ × List ℕ). c.0) pair in
    let left : drop (body_len true (after_line text)) (after_line text) ≡ 91 ∷ rest = ap (λ (c : List ℕ × List ℕ). c.1) pair ∙ next in
    let found = drop-filled (body_len true (after_line text)) (after_line text) 91 rest left in
    let first : ℕ = found.0 in
    let more : List ℕ = found.1.0 in
    let filled : after_line text ≡ first ∷ more = found.1.1 in
    let (line, split) = line_split text first more (ap (λ (n : ℕ). drop n text) (sym (add-one (line_len text))) ∙ filled) in
    let found_body = body_split true (after_line text) rest left in
    let inner : List ℕ = found_body.0 in
    let whole = found_body.1.0 in
    let same_body = found_body.1.1 in
    let same = found_body.1.2 in
    let is : inner ≡ cut.0 = sym same_body ∙ taken in
    let there : first ∷ more ≡ cut.0 ++ cut.1 = sym filled ∙ whole ∙ ap (λ (bytes : List ℕ). bytes ++ 91 ∷ rest) is ∙ ap (λ (bytes : List ℕ). cut.0 ++ bytes) (sym next) in
    let head : title text ≡ trimmed (drop_cr line) = ap title split.whole ∙ title-split text line (first ∷ more) (first ∷ more) split in (
      line ++ 10 ∷ cut.0,
      record {
        whole = split.whole ∙ ap (λ (bytes : List ℕ). line ++ 10 ∷ bytes) there ∙ sym (append_assoc line (10 ∷ cut.0) cut.1);
        same = λ other fits.
            let cuts = subst (λ (bytes : List ℕ). Cuts true (bytes ++ other) bytes other) is (same other fits) in
            subst (λ (bytes : List ℕ). section name bytes ≡ Ok (cut.0, other)) (sym (append_assoc line (10 ∷ cut.0) other))
            (joined (line ++ 10 ∷ (cut.0 ++ other)) (ap (λ (bytes : List ℕ). bytes_eq bytes name) (title-split text line (first ∷ more) (cut.0 ++ other) split ∙ sym head) ∙ titled)
            (cut.0 ++ other) (after-split text line (first ∷ more) (cut.0 ++ other) split) other cuts);
      },
    )
  where
    joined : (bytes : List ℕ) → bytes_eq (title bytes) name ≡ true → (left : List ℕ) → after_line bytes ≡ left → (other : List ℕ) → Cuts true left cut.0 other → section name bytes ≡ Ok (cut.0, other)
    joined bytes titled left e other cuts =
        ap (λ (b : Bool). cond b (ok_pair (body_and_rest (after_line bytes))) (Err bytes)) titled ∙ ap (λ (l : List ℕ). ok_pair (body_and_rest l)) e ∙ ok_parts left cut.0 other cuts

-- A section begins with `[`.
pub section_begins : (name text : List ℕ) (cut : List ℕ × List ℕ) → Begins 91 name → section name text ≡ Ok cut → Begins 91 text
section_begins name text cut named e =
    let titled : title text ≡ name = (bytes_eq-Decides (title text) name).0 (section_ok name text cut e).0 in
    title-begins 91 text (named.0, titled ∙ named.1)

-- The empty lines before `[` are the same before other bytes that begin with it.
skip-bracket : (more : List ℕ) → skip_empty (91 ∷ more) ≡ 91 ∷ more
skip-bracket [] = refl
skip-bracket (b ∷ more) = refl

skip-open : (other : List ℕ) → Begins 91 other → skip_empty other ≡ other
skip-open other begins = subst (λ (bytes : List ℕ). skip_empty bytes ≡ bytes) (sym begins.1) (skip-bracket begins.0)

skip-lf : (a : ℕ) (bytes : List ℕ) → eqb a 10 ≡ true → skip_empty (a ∷ bytes) ≡ skip_empty bytes
skip-lf a [] is = rw is refl
skip-lf a (b ∷ bytes) is = rw is refl

abbrev pub IsSkipped : List ℕ → List ℕ → Type 0
IsSkipped bytes rest = (front : List ℕ) × (bytes ≡ front ++ rest) × ((other : List ℕ) → Begins 91 other → skip_empty (front ++ other) ≡ other)

pub skip_split : (bytes rest : List ℕ) → skip_empty bytes ≡ 91 ∷ rest → IsSkipped bytes (91 ∷ rest)
skip_split [] rest e = absurd cc
skip_split (a ∷ []) rest e = by (eqb a 10) (eqb a 13) e
  where
    by : (lf cr : Bool) → cond lf [] (cond cr [] (a ∷ [])) ≡ 91 ∷ rest → IsSkipped (a ∷ []) (91 ∷ rest)
    by true cr h = absurd cc
    by false true h = absurd cc
    by false false h = ([], h, skip-open)
skip_split (a ∷ b ∷ bytes) rest e = by (λ h. skip_split (b ∷ bytes) rest h) (λ h. skip_split bytes rest h) (eqb a 10) refl (eqb a 13 && eqb b 10) refl e
  where
    by : (skip_empty (b ∷ bytes) ≡ 91 ∷ rest → IsSkipped (b ∷ bytes) (91 ∷ rest)) → (skip_empty bytes ≡ 91 ∷ rest → IsSkipped bytes (91 ∷ rest))
        → (lf : Bool) → eqb a 10 ≡ lf → (crlf : Bool) → (eqb a 13 && eqb b 10) ≡ crlf → cond lf (skip_empty (b ∷ bytes)) (cond crlf (skip_empty bytes) (a ∷ b ∷ bytes)) ≡ 91 ∷ rest
        → IsSkipped (a ∷ b ∷ bytes) (91 ∷ rest)
    by next far true is crlf both h =
        let (front, whole, same) = next h in
        (a ∷ front, ap (λ (bytes : List ℕ). a ∷ bytes) whole, λ other begins. skip-lf a (front ++ other) is ∙ same other begins)
    by next far false is true both h =
        let (front, whole, same) = far h in
        (a ∷ b ∷ front, ap (λ (bytes : List ℕ). a ∷ b ∷ bytes) whole, λ other begins. rw (is, both) (same other begins))
    by next far false is false both h = ([], h, skip-open)

-- A mark is the same before other bytes that begin with `o`.
mark-open : (other : List ℕ) → Begins 111 other → skip_mark other ≡ other
mark-open other begins = subst (λ (bytes : List ℕ). skip_mark bytes ≡ bytes) (sym begins.1) (by begins.0)
  where
    by : (more : List ℕ) → skip_mark (111 ∷ more) ≡ 111 ∷ more
    by [] = refl
    by (b ∷ []) = refl
    by (b ∷ c ∷ more) = refl

abbrev pub IsMarked : List ℕ → List ℕ → Type 0
IsMarked bytes rest = (front : List ℕ) × (bytes ≡ front ++ rest) × ((other : List ℕ) → Begins 111 other → skip_mark (front ++ other) ≡ other)

pub mark_split : (bytes rest : List ℕ) → skip_mark bytes ≡ 111 ∷ rest → IsMarked bytes (111 ∷ rest)
mark_split [] rest e = absurd cc
mark_split (a ∷ []) rest e = ([], e, mark-open)
mark_split (a ∷ b ∷ []) rest e = ([], e, mark-open)
mark_split (a ∷ b ∷ c ∷ bytes) rest e = by (eqb a 239 && eqb b 187 && eqb c 191) refl e
  where
    by : (test : Bool) → (eqb a 239 && eqb b 187 && eqb c 191) ≡ test → cond test bytes (a ∷ b ∷ c ∷ bytes) ≡ 111 ∷ rest → IsMarked (a ∷ b ∷ c ∷ bytes) (111 ∷ rest)
    by true is h = (a ∷ b ∷ c ∷ [], ap (λ (bytes : List ℕ). a ∷ b ∷ c ∷ bytes) h, λ other begins. rw is refl)
    by false is h = ([], h, mark-open)

-- what a first line gives is a version, and the line begins with `o`
pub version_ok : (line : List ℕ) (version : ℕ) → version_of line ≡ Some version → IsVersion version × Begins 111 line
version_ok line version e = by (bytes_eq line (codes "office bundle 1")) refl (bytes_eq line (codes "office bundle 2")) refl e
  where
    one : List ℕ
    one = codes "office bundle 1"

    by : (first : Bool) → bytes_eq line (codes "office bundle 1") ≡ first → (second : Bool) → bytes_eq line (codes "office bundle 2") ≡ second
        → cond first (Some 1) (cond second (Some 2) None) ≡ Some version → IsVersion version × Begins 111 line
    by true is second there h = (inl (cc h), (drop 1 (codes "office bundle 1"), (bytes_eq-Decides line (codes "office bundle 1")).0 is))
    by false is true there h = (inr (cc h), (drop 1 (codes "office bundle 2"), (bytes_eq-Decides line (codes "office bundle 2")).0 there))
    by false is false there h = absurd cc

-- what may follow the choices is what follows them, and it begins with `[`
pub closed_ok : (rest value last : List ℕ) → closed rest value ≡ Ok last → last ≡ value
closed_ok [] value last e = cc e
closed_ok (byte ∷ rest) value last e = absurd cc

pub last_ok : (requests : Bool) (rest last : List ℕ) → last_section requests rest ≡ Ok last → (last ≡ rest) × IsNext rest
last_ok requests [] last e = (cc e, inl refl)
last_ok true (byte ∷ bytes) last e =
    let (cut, found, shut) = after_ok (section (codes "[requests]") (byte ∷ bytes)) (λ cut. closed cut.1 (byte ∷ bytes)) last e in
    (closed_ok cut.1 (byte ∷ bytes) last shut, inr (section_begins (codes "[requests]") (byte ∷ bytes) cut (drop 1 (codes "[requests]"), refl) found))
last_ok false (byte ∷ bytes) last e = absurd cc

-- the sections, one after another
abbrev pub with_last : ℕ → List ℕ → List ℕ → List ℕ → List ℕ → List ℕ → Result Parts (List ℕ)
with_last version season register matrix choices last = Ok (record { version = version; season = season; register = register; matrix = matrix; choices = choices; requests = last })

abbrev pub from_choices : Bool → ℕ → List ℕ → List ℕ → List ℕ → List ℕ × List ℕ → Result Parts (List ℕ)
from_choices requests version season register matrix choices = after (last_section requests choices.1) (with_last version season register matrix choices.0)

abbrev pub from_matrix : Bool → ℕ → List ℕ → List ℕ → List ℕ × List ℕ → Result Parts (List ℕ)
from_matrix requests version season register matrix = after (section (codes "[choices]") matrix.1) (from_choices requests version season register matrix.0)

abbrev pub from_register : Bool → ℕ → List ℕ → List ℕ × List ℕ → Result Parts (List ℕ)
from_register requests version season register = after (section (codes "[matrix]") register.1) (from_matrix requests version season register.0)

abbrev pub from_season : Bool → ℕ → List ℕ × List ℕ → Result Parts (List ℕ)
from_season requests version season = after (section (codes "[register]") season.1) (from_register requests version season.0)

-- the same parts without requests
abbrev pub without_requests : Parts → Parts
without_requests parts = record { version = parts.version; season = parts.season; register = parts.register; matrix = parts.matrix; choices = parts.choices; requests = [] }

-- a text that is cut so, before the section of the requests
pub record AreSections (version : ℕ) (text : List ℕ) (parts : Parts) : Type 0 where
  pub front : List ℕ
  pub whole : text ≡ front ++ parts.requests
  pub begins : Begins 91 front
  pub text_begins : Begins 91 text
  pub known : parts.version ≡ version
  pub again : sections false version front ≡ Ok (without_requests parts)
  pub next : IsNext parts.requests

-- sections that are each cut as before
composed : (version : ℕ) (t1 t2 t3 t4 : List ℕ) (season register matrix choices : List ℕ) → section (codes "[season]") t1 ≡ Ok (season, t2) → section (codes "[register]") t2 ≡ Ok (register, t3)
    → section (codes "[matrix]") t3 ≡ Ok (matrix, t4) → section (codes "[choices]") t4 ≡ Ok (choices, [])
    → sections false version t1 ≡ Ok (record { version = version; season = season; register = register; matrix = matrix; choices = choices; requests = [] })
composed version t1 t2 t3 t4 season register matrix choices e1 e2 e3 e4 =
    ap (λ (r : Result (List ℕ × List ℕ) (List ℕ)). after r (from_season false version)) e1
    ∙ ap (λ (r : Result (List ℕ × List ℕ) (List ℕ)). after r (from_register false version season)) e2
    ∙ ap (λ (r : Result (List ℕ × List ℕ) (List ℕ)). after r (from_matrix false version season register)) e3
    ∙ ap (λ (r : Result (List ℕ × List ℕ) (List ℕ)). after r (from_choices false version season register matrix)) e4

sections_ok : (requests : Bool) (version : ℕ) (text : List ℕ) (parts : Parts) → sections requests version text ≡ Ok parts → AreSections version text parts
sections_ok requests version text parts e =
    let (season, e1, h1) = after_ok (section (codes "[season]") text) (from_season requests version) parts e in
    let (register, e2, h2) = after_ok (section (codes "[register]") season.1) (from_register requests version season.0) parts h1 in
    let (matrix, e3, h3) = after_ok (section (codes "[matrix]") register.1) (from_matrix requests version season.0 register.0) parts h2 in
    let (choices, e4, h4) = after_ok (section (codes "[choices]") matrix.1) (from_choices requests version season.0 register.0 matrix.0) parts h3 in
    let (last, e5, h5) = after_ok (last_section requests choices.1) (with_last version season.0 register.0 matrix.0 choices.0) parts h4 in
    let (same, next) = last_ok requests choices.1 last e5 in
    let made : record { version = version; season = season.0; register = register.0; matrix = matrix.0; choices = choices.0; requests = last } ≡ parts = cc h5 in
    let b1 = section_begins (codes "[season]") text season (drop 1 (codes "[season]"), refl) e1 in
    let b2 = section_begins (codes "[register]") season.1 register (drop 1 (codes "[register]"), refl) e2 in
    let b3 = section_begins (codes "[matrix]") register.1 matrix (drop 1 (codes "[matrix]"), refl) e3 in
    let b4 = section_begins (codes "[choices]") matrix.1 choices (drop 1 (codes "[choices]"), refl) e4 in
    subst (λ (p : Parts). AreSections version text p) made
    (by season register matrix choices last same e1 e2 e3 e4 b1 b2 b3 b4 next)
  where
    by : (season register matrix choices : List ℕ × List ℕ) (last : List ℕ) → last ≡ choices.1 → section (codes "[season]") text ≡ Ok season → section (codes "[register]") season.1 ≡ Ok register
        → section (codes "[matrix]") register.1 ≡ Ok matrix → section (codes "[choices]") matrix.1 ≡ Ok choices → Begins 91 text → Begins 91 season.1 → Begins 91 register.1 → Begins 91 matrix.1 → IsNext choices.1
        → AreSections version text (record { version = version; season = season.0; register = register.0; matrix = matrix.0; choices = choices.0; requests = last })
    by season register matrix choices last same e1 e2 e3 e4 b1 b2 b3 b4 (inl none) = record {
      front = text;
      whole = sym (ap (λ (bytes : List ℕ). text ++ bytes) (same ∙ none) ∙ append-nil text);
      begins = b1;
      text_begins = b1;
      known = refl;
      again = composed version text season.1 register.1 matrix.1 season.0 register.0 matrix.0 choices.0 e1 e2 e3 (e4 ∙ ap (λ (bytes : List ℕ). Ok (choices.0, bytes)) none);
      next = inl (same ∙ none);
    }
    by season register matrix choices last same e1 e2 e3 e4 b1 b2 b3 b4 (inr more) =
        let (f1, s1) = section_split (codes "[season]") text season b2.0 e1 b2.1 in
        let (f2, s2) = section_split (codes "[register]") season.1 register b3.0 e2 b3.1 in
        let (f3, s3) = section_split (codes "[matrix]") register.1 matrix b4.0 e3 b4.1 in
        let (f4, s4) = section_split (codes "[choices]") matrix.1 choices more.0 e4 more.1 in
        let n4 = s4.same [] (inl refl) in
        let c4 = section_begins (codes "[choices]") (f4 ++ []) (choices.0, []) (drop 1 (codes "[choices]"), refl) n4 in
        let n3 = s3.same (f4 ++ []) (inr c4) in
        let c3 = section_begins (codes "[matrix]") (f3 ++ (f4 ++ [])) (matrix.0, f4 ++ []) (drop 1 (codes "[matrix]"), refl) n3 in
        let n2 = s2.same (f3 ++ (f4 ++ [])) (inr c3) in
        let c2 = section_begins (codes "[register]") (f2 ++ (f3 ++ (f4 ++ []))) (register.0, f3 ++ (f4 ++ [])) (drop 1 (codes "[register]"), refl) n2 in
        let n1 = s1.same (f2 ++ (f3 ++ (f4 ++ []))) (inr c2) in
        let c1 = section_begins (codes "[season]") (f1 ++ (f2 ++ (f3 ++ (f4 ++ [])))) (season.0, f2 ++ (f3 ++ (f4 ++ []))) (drop 1 (codes "[season]"), refl) n1 in
        let w4 : matrix.1 ≡ (f4 ++ []) ++ last = s4.whole ∙ ap (λ (bytes : List ℕ). f4 ++ bytes) (sym same) ∙ ap (λ (bytes : List ℕ). bytes ++ last) (sym (append-nil f4)) in
        let w3 : register.1 ≡ (f3 ++ (f4 ++ [])) ++ last = s3.whole ∙ ap (λ (bytes : List ℕ). f3 ++ bytes) w4 ∙ sym (append_assoc f3 (f4 ++ []) last) in
        let w2 : season.1 ≡ (f2 ++ (f3 ++ (f4 ++ []))) ++ last = s2.whole ∙ ap (λ (bytes : List ℕ). f2 ++ bytes) w3 ∙ sym (append_assoc f2 (f3 ++ (f4 ++ [])) last) in
        record {
          front = f1 ++ (f2 ++ (f3 ++ (f4 ++ [])));
          whole = s1.whole ∙ ap (λ (bytes : List ℕ). f1 ++ bytes) w2 ∙ sym (append_assoc f1 (f2 ++ (f3 ++ (f4 ++ []))) last);
          begins = c1;
          text_begins = b1;
          known = refl;
          again = composed version (f1 ++ (f2 ++ (f3 ++ (f4 ++ [])))) (f2 ++ (f3 ++ (f4 ++ []))) (f3 ++ (f4 ++ [])) (f4 ++ []) season.0 register.0 matrix.0 choices.0 n1 n2 n3 n4;
          next = inr (more.0, same ∙ more.1);
        }

pub with_line_ok : (text : List ℕ) (r : Result Parts (List ℕ)) (parts : Parts) → with_line text r ≡ Ok parts → r ≡ Ok parts
with_line_ok text (Ok made) parts e = cc e
with_line_ok text (Err rest) parts e = absurd cc

-- What comes before the requests is cut into the same parts, without requests.
pub record IsAgain (bytes : List ℕ) (parts : Parts) : Type 0 where
  pub front : List ℕ
  pub whole : bytes ≡ front ++ parts.requests
  pub again : bundle_of false front ≡ Ok (without_requests parts)
  pub next : IsNext parts.requests
  pub version : IsVersion parts.version

texts : (version : ℕ) (text rest : List ℕ) (parts : Parts) → version_of (title text) ≡ Some version → skip_empty (after_line text) ≡ rest → sections false version rest ≡ Ok parts → text_of false text ≡ Ok parts
texts version text rest parts e1 e2 e3 =
    ap (λ (o : Option ℕ). needs o BadFirstLine (λ version. with_line text (sections false version (skip_empty (after_line text))))) e1
    ∙ ap (λ (bytes : List ℕ). with_line text (sections false version bytes)) e2
    ∙ ap (λ (r : Result Parts (List ℕ)). with_line text r) e3

pub cut_again : (requests : Bool) (bytes : List ℕ) (parts : Parts) → bundle_of requests bytes ≡ Ok parts → IsAgain bytes parts
cut_again requests bytes parts e =
    let text : List ℕ = skip_mark bytes in
    let (version, titled, h) = needs_ok (version_of (title text)) BadFirstLine (λ version. with_line text (sections requests version (skip_empty (after_line text)))) parts e in
    let cut = with_line_ok text (sections requests version (skip_empty (after_line text))) parts h in
    let are = sections_ok requests version (skip_empty (after_line text)) parts cut in
    let (known, head) = version_ok (title text) version titled in
    let (o, begins) = title-begins 111 text head in
    let (mark, marked, same_mark) = mark_split bytes o begins in
    let (gap, skipped, same_gap) = skip_split (after_line text) are.text_begins.0 are.text_begins.1 in
    let filled = subst (λ (b : List ℕ). (first : ℕ) × Begins first b) (sym skipped) (filled_by gap are.text_begins.0) in
    let first : ℕ = filled.0 in
    let more : List ℕ = filled.1.0 in
    let (line, split) = line_split text first more (ap (λ (n : ℕ). drop n text) (sym (add-one (line_len text))) ∙ filled.1.1) in
    let new : List ℕ = line ++ 10 ∷ (gap ++ are.front) in
    let old_title : title text ≡ trimmed (drop_cr line) = ap title split.whole ∙ title-split text line (first ∷ more) (first ∷ more) split in
    let same_title : title new ≡ title text = title-split text line (first ∷ more) (gap ++ are.front) split ∙ sym old_title in
    let new_titled : version_of (title new) ≡ Some version = ap version_of same_title ∙ titled in
    let new_begins : Begins 111 new = title-begins 111 new (head.0, same_title ∙ head.1) in
    let new_rest : skip_empty (after_line new) ≡ are.front = ap skip_empty (after-split text line (first ∷ more) (gap ++ are.front) split) ∙ same_gap are.front are.begins in
    record {
      front = mark ++ new;
      whole = marked ∙ ap (λ (b : List ℕ). mark ++ b) (sym begins ∙ split.whole ∙ ap (λ (b : List ℕ). line ++ 10 ∷ b) (sym filled.1.1 ∙ skipped ∙ ap (λ (b : List ℕ). gap ++ b) (sym are.text_begins.1 ∙ are.whole)))
          ∙ regroup mark line gap are.front parts.requests;
      again = ap (λ (b : List ℕ). text_of false b) (same_mark new new_begins) ∙ texts version new are.front (without_requests parts) new_titled new_rest are.again;
      next = are.next;
      version = subst (λ (v : ℕ). IsVersion v) (sym are.known) known;
    }
  where
    filled_by : (gap rest : List ℕ) → (first : ℕ) × Begins first (gap ++ 91 ∷ rest)
    filled_by [] rest = (91, (rest, refl))
    filled_by (x ∷ gap) rest = (x, (gap ++ 91 ∷ rest, refl))

    regroup : (mark line gap front last : List ℕ) → mark ++ (line ++ 10 ∷ (gap ++ (front ++ last))) ≡ (mark ++ (line ++ 10 ∷ (gap ++ front))) ++ last
    regroup mark line gap front last = simp append_assoc

-- what is cut without requests has none
none_last : (rest last : List ℕ) → last_section false rest ≡ Ok last → last ≡ []
none_last [] last e = cc e
none_last (byte ∷ bytes) last e = absurd cc

no_sections : (version : ℕ) (text : List ℕ) (parts : Parts) → sections false version text ≡ Ok parts → parts.requests ≡ []
no_sections version text parts e =
    let (season, e1, h1) = after_ok (section (codes "[season]") text) (from_season false version) parts e in
    let (register, e2, h2) = after_ok (section (codes "[register]") season.1) (from_register false version season.0) parts h1 in
    let (matrix, e3, h3) = after_ok (section (codes "[matrix]") register.1) (from_matrix false version season.0 register.0) parts h2 in
    let (choices, e4, h4) = after_ok (section (codes "[choices]") matrix.1) (from_choices false version season.0 register.0 matrix.0) parts h3 in
    let (last, e5, h5) = after_ok (last_section false choices.1) (with_last version season.0 register.0 matrix.0 choices.0) parts h4 in
    let made : record { version = version; season = season.0; register = register.0; matrix = matrix.0; choices = choices.0; requests = last } ≡ parts = cc h5 in
    ap (λ (p : Parts). p.requests) (sym made) ∙ none_last choices.1 last e5

pub no_requests : (bytes : List ℕ) (parts : Parts) → bundle_of false bytes ≡ Ok parts → parts.requests ≡ []
no_requests bytes parts e =
    let text : List ℕ = skip_mark bytes in
    let (version, titled, h) = needs_ok (version_of (title text)) BadFirstLine (λ version. with_line text (sections false version (skip_empty (after_line text)))) parts e in
    no_sections version (skip_empty (after_line text)) parts (with_line_ok text (sections false version (skip_empty (after_line text))) parts h)
