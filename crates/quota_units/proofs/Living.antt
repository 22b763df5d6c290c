-- A candidate with a field of a unit in a mapped row lives in a state that the unit is for.
use Rattle.std.proofs.Common.{◌≡◌, ◌+◌, ◌-◌, ℕ, Bool, true, false, List, [], ◌∷◌, ◌++◌, Option, Some, None, Ok, length, take, drop, refl, sym, ap, subst, ◌∙◌, if◌then◌else◌, length-append, arith}
use Rattle.std.specs.Prelude.{◌||◌, bytes_eq, is_some}
use Rattle.std.specs.Option.{option_and_then}
use Rattle.std.specs.List.{AllByRecursion}
use Rattle.std.proofs.lemmas.Slice.Eq.{bytes_eq-Decides}
use Rattle.section_rows.specs.Rows.{Row}
use Rattle.section_rows.specs.Steps.{after}
use Rattle.section_rows.proofs.StepsLemmas.{after_ok, needs_ok, unless_ok}
use Rattle.quota_units.specs.Homes.{Homes, home_at}
use Rattle.quota_units.specs.Living.{AreRight, IsRight}
use Rattle.quota_units.specs.Mapping.{base_of, by_home, home_end, is_unit, mapped_field, mapped_fields, mapped_from, mapped_row, other_end, unit_of}
use Rattle.quota_units.specs.declared.fault.UnitFault.TheVariants.{DirectUnit, NoState}

-- ---- texts

-- texts that are equal with ends of one length are equal, and so are the ends
ends-apart : (x y a b : List ℕ) → length a ≡ length b → x ++ a ≡ y ++ b → (x ≡ y) × (a ≡ b)
ends-apart [] [] a b n e = (refl, e)
ends-apart [] (w ∷ y) a b n e = absurd (let m : length a ≡ length (w ∷ (y ++ b)) = ap (λ (l : List ℕ). length l) e in omega (arith, n, m, length-append y b))
ends-apart (z ∷ x) [] a b n e = absurd (let m : length (z ∷ (x ++ a)) ≡ length b = ap (λ (l : List ℕ). length l) e in omega (arith, n, m, length-append x a))
ends-apart (z ∷ x) (w ∷ y) a b n e =
    let (same, ends) = ends-apart x y a b n (tails z w (x ++ a) (y ++ b) e) in
    (heads z w (x ++ a) (y ++ b) e ∙ ap (λ (l : List ℕ). w ∷ l) same, ends)
  where
    tails : (p q : ℕ) (u v : List ℕ) → p ∷ u ≡ q ∷ v → u ≡ v
    tails p q u v e = cc

    heads : (p q : ℕ) (u v : List ℕ) → p ∷ u ≡ q ∷ v → p ∷ x ≡ q ∷ x
    heads p q u v e = let h : p ≡ q = cc in ap (λ (k : ℕ). k ∷ x) h

take-all : (body last : List ℕ) → take (length body) (body ++ last) ≡ body
take-all [] last = refl
take-all (x ∷ body) last = ap (λ (l : List ℕ). x ∷ l) (take-all body last)

drop-all : (body last : List ℕ) → drop (length body) (body ++ last) ≡ last
drop-all [] last = refl
drop-all (x ∷ body) last = drop-all body last

abbrev base_if : List ℕ → List ℕ → Option (List ℕ)
base_if base end = if bytes_eq end home_end || bytes_eq end other_end then Some base else None

base-known : (base end : List ℕ) → length end ≡ 3 → base_of (base ++ end) ≡ base_if base end
base-known base end three =
    let n : length (base ++ end) - 3 ≡ length base = omega (arith, three, length-append base end) in
    ap (λ (k : ℕ). base_if (take k (base ++ end)) (drop k (base ++ end))) n ∙ ap (base_if (take (length base) (base ++ end))) (drop-all base end) ∙ ap (λ (l : List ℕ). base_if l end) (take-all base end)

-- what ends so after a divided code is a unit
unit-known : (units : Homes) (base end state : List ℕ) → length end ≡ 3 → base_if base end ≡ Some base → home_at base units ≡ Some state → is_unit units (base ++ end) ≡ true
unit-known units base end state three ends known =
    ap (λ (o : Option (List ℕ)). is_some (option_and_then (λ b. home_at b units) o)) (base-known base end three ∙ ends) ∙ ap (λ (o : Option (List ℕ)). is_some o) known

-- ---- fields

not_both : (b : Bool) → b ≡ true → b ≡ false → ⊥
not_both b t f = cc

one_some : (o : Option (List ℕ)) (x y : List ℕ) → o ≡ Some x → o ≡ Some y → x ≡ y
one_some o x y e f = cc

no-unit : (units states : Homes) (candidate text : List ℕ) → is_unit units text ≡ false → IsRight units states candidate text
no-unit units states candidate text none = record {
  home = λ base state known is. absurd (not_both (is_unit units text) (ap (is_unit units) is ∙ unit-known units base home_end state refl refl known) none);
  other = λ base state known is. absurd (not_both (is_unit units text) (ap (is_unit units) is ∙ unit-known units base other_end state refl refl known) none);
}

ends-differ : (code base : List ℕ) → code ++ home_end ≡ base ++ other_end → ⊥
ends-differ code base e =
    let ends = (ends-apart code base home_end other_end refl e).1 in
    not_both (bytes_eq home_end other_end) (sym (ap (bytes_eq home_end) ends)) refl

mapped-right : (units states : Homes) (candidate code home state : List ℕ) → home_at code units ≡ Some home → home_at candidate states ≡ Some state → IsRight units states candidate (unit_of code home state)
mapped-right units states candidate code home state divided lives = by (bytes_eq state home) refl
  where
    by : (same : Bool) → bytes_eq state home ≡ same → IsRight units states candidate (code ++ (if same then home_end else other_end))
    by true same = record {
      home = λ base wanted known is.
          let is_base = (ends-apart code base home_end home_end refl is).0 in
          let is_home = one_some (home_at base units) home wanted (subst (λ (l : List ℕ). home_at l units ≡ Some home) is_base divided) known in
          lives ∙ ap (λ (l : List ℕ). Some l) ((bytes_eq-Decides state home).0 same ∙ is_home);
      other = λ base wanted known is. absurd (ends-differ code base is);
    }
    by false same = record {
      home = λ base wanted known is. absurd (ends-differ base code (sym is));
      other = λ base wanted known is.
          let is_base = (ends-apart code base other_end other_end refl is).0 in
          let is_home = one_some (home_at base units) home wanted (subst (λ (l : List ℕ). home_at l units ≡ Some home) is_base divided) known in
          (state, lives, λ own. not_both (bytes_eq state home) ((bytes_eq-Decides state home).1 (own ∙ sym is_home)) same);
    }

field-right : (units states : Homes) (candidate : List ℕ) (number : ℕ) (text mapped : List ℕ) → mapped_field units states candidate number text ≡ Ok mapped → IsRight units states candidate mapped
field-right units states candidate number text mapped e =
    let (direct, home) = unless_ok (is_unit units text) (DirectUnit number) (by_home states candidate number text (home_at text units)) mapped e in
    by (home_at text units) refl direct home
  where
    by : (o : Option (List ℕ)) → home_at text units ≡ o → is_unit units text ≡ false → by_home states candidate number text o ≡ Ok mapped → IsRight units states candidate mapped
    by None found direct home = let same : text ≡ mapped = cc in subst (λ (l : List ℕ). IsRight units states candidate l) same (no-unit units states candidate text direct)
    by (Some own) found direct home =
        let (state, lives, made) = needs_ok (home_at candidate states) (NoState number) (λ state. Ok (unit_of text own state)) mapped home in
        let same : unit_of text own state ≡ mapped = cc in
        subst (λ (l : List ℕ). IsRight units states candidate l) same (mapped-right units states candidate text own state found lives)

-- ---- rows

fields-right : (units states : Homes) (candidate : List ℕ) (number : ℕ) (texts mapped : Row) → mapped_fields units states candidate number texts ≡ Ok mapped → AllByRecursion (IsRight units states candidate) mapped
fields-right units states candidate number [] mapped e = let none : [] ≡ mapped = cc in subst (AllByRecursion (IsRight units states candidate)) none tt
fields-right units states candidate number (text ∷ texts) mapped e =
    let (first, here, next) = after_ok (mapped_field units states candidate number text) (λ first. after (mapped_fields units states candidate number texts) (λ more. Ok (first ∷ more))) mapped e in
    let (more, rest, made) = after_ok (mapped_fields units states candidate number texts) (λ more. Ok (first ∷ more)) mapped next in
    let same : first ∷ more ≡ mapped = cc in
    subst (AllByRecursion (IsRight units states candidate)) same (field-right units states candidate number text first here, fields-right units states candidate number texts more rest)

row-right : (units states : Homes) (number : ℕ) (row mapped : Row) → mapped_row units states number row ≡ Ok mapped → AreRight units states mapped
row-right units states number [] mapped e = let none : [] ≡ mapped = cc in subst (AreRight units states) none tt
row-right units states number (candidate ∷ texts) mapped e =
    let (more, rest, made) = after_ok (mapped_fields units states candidate number texts) (λ more. Ok (candidate ∷ more)) mapped e in
    let same : candidate ∷ more ≡ mapped = cc in
    subst (AreRight units states) same (fields-right units states candidate number texts more rest)

-- Every row of a candidate in mapped rows.
pub from-right : (units states : Homes) (number : ℕ) (rows mapped : List Row) → mapped_from units states number rows ≡ Ok mapped → AllByRecursion (AreRight units states) mapped
from-right units states number [] mapped e = let none : [] ≡ mapped = cc in subst (AllByRecursion (AreRight units states)) none tt
from-right units states number (row ∷ rows) mapped e =
    let (first, here, next) = after_ok (mapped_row units states number row) (λ first. after (mapped_from units states (number + 1) rows) (λ more. Ok (first ∷ more))) mapped e in
    let (more, rest, made) = after_ok (mapped_from units states (number + 1) rows) (λ more. Ok (first ∷ more)) mapped next in
    let same : first ∷ more ≡ mapped = cc in
    subst (AllByRecursion (AreRight units states)) same (row-right units states number row first here, from-right units states (number + 1) rows more rest)
