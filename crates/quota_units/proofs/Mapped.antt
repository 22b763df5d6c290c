-- Mapped rows are rows.
use Rattle.std.proofs.Common.{◌≡◌, ◌+◌, ℕ, List, [], ◌∷◌, ◌++◌, Option, Some, None, Ok, refl, sym, ap, subst, ◌∙◌, if◌then◌else◌}
use Rattle.std.specs.Prelude.{bytes_eq}
use Rattle.section_rows.specs.Rows.{Row, before, without_empty_end}
use Rattle.section_rows.specs.Steps.{after}
use Rattle.section_rows.proofs.StepsLemmas.{after_ok, needs_ok, unless_ok}
use Rattle.quota_units.proofs.ReadBack.{AreRows, IsRow}
use Rattle.quota_units.specs.Homes.{Homes, home_at}
use Rattle.quota_units.specs.Mapping.{by_home, home_end, is_unit, mapped_field, mapped_fields, mapped_from, mapped_row, mapped_rows, other_end, unit_of}
use Rattle.quota_units.specs.declared.fault.UnitFault.TheVariants.{DirectUnit, NoState}

-- the second field is not empty where the first is not
abbrev pub Fills : List ℕ → List ℕ → Type 0
Fills field other = (byte : ℕ) (more : List ℕ) → field ≡ byte ∷ more → (first : ℕ) × (rest : List ℕ) × (other ≡ first ∷ rest)

abbrev FillAll : Row → Row → Type 0
FillAll [] [] = Unit {0}
FillAll [] (other ∷ others) = ⊥
FillAll (field ∷ fields) [] = ⊥
FillAll (field ∷ fields) (other ∷ others) = Fills field other × FillAll fields others

-- A row whose last field is not empty, with fields that are filled as its own are.
ends-filled : (field : List ℕ) (fields : Row) (other : List ℕ) (others : Row) → without_empty_end (field ∷ fields) ≡ field ∷ fields → Fills field other → FillAll fields others
    → without_empty_end (other ∷ others) ≡ other ∷ others
ends-filled field [] other [] e here rest = by field e here
  where
    filled : (o : List ℕ) (first : ℕ) (more : List ℕ) → o ≡ first ∷ more → before o [] ≡ o ∷ []
    filled o first more is = subst (λ (l : List ℕ). before l [] ≡ l ∷ []) (sym is) refl

    by : (f : List ℕ) → before f [] ≡ f ∷ [] → Fills f other → before other [] ≡ other ∷ []
    by [] e here = absurd (cc)
    by (b ∷ f) e here = let (first, more, is) = here b f refl in filled other first more is
ends-filled field [] other (o ∷ others) e here rest = absurd rest
ends-filled field (f ∷ fields) other [] e here rest = absurd rest
ends-filled field (f ∷ fields) other (o ∷ others) e here rest =
    let inner : without_empty_end (f ∷ fields) ≡ f ∷ fields = behind field (without_empty_end (f ∷ fields)) (f ∷ fields) f fields refl e in
    let next = ends-filled f fields o others inner rest.0 rest.1 in
    ap (before other) next ∙ some other o others
  where
    some : (x y : List ℕ) (r : Row) → before x (y ∷ r) ≡ x ∷ y ∷ r
    some [] y r = refl
    some (b ∷ x) y r = refl

    behind : (x : List ℕ) (w all : Row) (y : List ℕ) (r : Row) → all ≡ y ∷ r → before x w ≡ x ∷ all → w ≡ all
    behind [] [] all y r is e = absurd (cc)
    behind (b ∷ x) [] all y r is e = absurd (let none : all ≡ [] = cc in let both : [] ≡ y ∷ r = sym none ∙ is in cc)
    behind [] (z ∷ w) all y r is e = cc
    behind (b ∷ x) (z ∷ w) all y r is e = cc

-- a mapped field is filled as its field is
append-fills : (field more : List ℕ) → Fills field (field ++ more)
append-fills field more byte rest is = (byte, rest ++ more, ap (λ (l : List ℕ). l ++ more) is)

home-fills : (states : Homes) (candidate : List ℕ) (number : ℕ) (field other : List ℕ) (home : Option (List ℕ)) → by_home states candidate number field home ≡ Ok other → Fills field other
home-fills states candidate number field other None e = let same : field ≡ other = cc in subst (λ (l : List ℕ). Fills field l) same (λ byte more is. (byte, more, is))
home-fills states candidate number field other (Some home) e =
    let (state, found, made) = needs_ok (home_at candidate states) (NoState number) (λ state. Ok (unit_of field home state)) other e in
    let same : unit_of field home state ≡ other = cc in
    subst (λ (l : List ℕ). Fills field l) same (append-fills field (if bytes_eq state home then home_end else other_end))

fields-fill : (units states : Homes) (candidate : List ℕ) (number : ℕ) (fields others : Row) → mapped_fields units states candidate number fields ≡ Ok others → FillAll fields others
fields-fill units states candidate number [] others e = let none : [] ≡ others = cc in subst (FillAll []) none tt
fields-fill units states candidate number (field ∷ fields) others e =
    let (mapped, here, next) = after_ok (mapped_field units states candidate number field) (λ mapped. after (mapped_fields units states candidate number fields) (λ more. Ok (mapped ∷ more))) others e in
    let (more, rest, made) = after_ok (mapped_fields units states candidate number fields) (λ more. Ok (mapped ∷ more)) others next in
    let (wrong, home) = unless_ok (is_unit units field) (DirectUnit number) (by_home states candidate number field (home_at field units)) mapped here in
    let same : mapped ∷ more ≡ others = cc in
    subst (FillAll (field ∷ fields)) same (home-fills states candidate number field mapped (home_at field units) home, fields-fill units states candidate number fields more rest)

row-is : (units states : Homes) (number : ℕ) (row mapped : Row) → IsRow row → mapped_row units states number row ≡ Ok mapped → IsRow mapped
row-is units states number row mapped is e =
    let made = subst (λ (r : Row). mapped_row units states number r ≡ Ok mapped) is.filled e in
    let (more, rest, same) = after_ok (mapped_fields units states is.first number is.more) (λ more. Ok (is.first ∷ more)) mapped made in
    let shape : is.first ∷ more ≡ mapped = cc in
    subst IsRow shape (record {
      first = is.first;
      more = more;
      filled = refl;
      ends = ends-filled is.first is.more is.first more (subst (λ (r : Row). without_empty_end r ≡ r) is.filled is.ends) (λ byte rest is. (byte, rest, is)) (fields-fill units states is.first number is.more more rest);
    })

from-are : (units states : Homes) (number : ℕ) (rows mapped : List Row) → AreRows rows → mapped_from units states number rows ≡ Ok mapped → AreRows mapped
from-are units states number [] mapped all e = let none : [] ≡ mapped = cc in subst AreRows none tt
from-are units states number (row ∷ rows) mapped all e =
    let (first, here, next) = after_ok (mapped_row units states number row) (λ first. after (mapped_from units states (number + 1) rows) (λ more. Ok (first ∷ more))) mapped e in
    let (more, rest, made) = after_ok (mapped_from units states (number + 1) rows) (λ more. Ok (first ∷ more)) mapped next in
    let same : first ∷ more ≡ mapped = cc in
    subst AreRows same (row-is units states number row first all.0 here, from-are units states (number + 1) rows more all.1 rest)

-- Mapped rows are rows.
pub mapped-are : (units states : Homes) (rows mapped : List Row) → AreRows rows → mapped_rows units states rows ≡ Ok mapped → AreRows mapped
mapped-are units states [] mapped all e = let none : [] ≡ mapped = cc in subst AreRows none tt
mapped-are units states (header ∷ rows) mapped all e =
    let (more, rest, made) = after_ok (mapped_from units states 2 rows) (λ more. Ok (header ∷ more)) mapped e in
    let same : header ∷ more ≡ mapped = cc in
    subst AreRows same (all.0, from-are units states 2 rows more all.1 rest)

-- no rows are mapped to none
pub none-mapped : (units states : Homes) (rows mapped : List Row) → rows ≡ [] → mapped_rows units states rows ≡ Ok mapped → mapped ≡ []
none-mapped units states rows mapped none e = let made : mapped_rows units states [] ≡ Ok mapped = subst (λ (r : List Row). mapped_rows units states r ≡ Ok mapped) none e in cc
