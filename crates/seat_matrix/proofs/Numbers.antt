-- The codes and homes that the maps of a builder have, and the numbers of programmes by their codes.
use Rattle.std.proofs.Common.{◌≡◌, ◌<◌, ◌≤◌, ◌+◌, ℕ, zero, suc, Bool, true, false, cond, List, [], ◌∷◌, ◌++◌, Option, Some, None, length, map, take, add-one, refl, sym, ap, subst, ◌∙◌, arith}
use Rattle.std.specs.Prelude.{◌||◌, bytes_eq, is_some, option_map, position, slice_get}
use Rattle.std.specs.Bool.{one_answer}
use Rattle.std.specs.BTreeMap as tree
use Rattle.std.specs.BTreeMap.{BTreeMap, is_at}
use Rattle.std.specs.Cmp.Lexicographic.{slice_cmp}
use Rattle.std.specs.List.{list_any, position_from}
use Rattle.std.specs.List.Sorted.{IsStrictlySortedBy}
use Rattle.std.specs.Map.{keys_of, lookup}
use Rattle.std.specs.Ordering.{is_eq, nat_cmp}
use Rattle.std.proofs.lemmas.Bool.{false_from_ne_true}
use Rattle.std.proofs.lemmas.Iterator.Adapters.{position_from-zero}
use Rattle.std.proofs.lemmas.Option.{slice_get_within}
use Rattle.std.proofs.lemmas.Map.Text.{is_eq-slice_cmp}
use Rattle.std.proofs.lemmas.Slice.Eq.{bytes_eq-Decides}
use Rattle.indexmap.specs.IndexMap.{insert_entry}
use Rattle.office_base.specs.declared.person.ProgId.{ProgId}
use Rattle.section_rows.specs.Steps.{or_else}
use Rattle.section_rows.proofs.StepsLemmas.{flip}
use Rattle.seat_matrix.specs.Builder.{AreNumbers, Keeps}
use Rattle.seat_matrix.specs.Matrix.{IsKeptMatrix, IsMatrix, codes_in, codes_of, find_home, home_at, seatings_in, with_code}
use Rattle.seat_matrix.specs.declared.builder.MatrixBuilder.{MatrixBuilder}
use Rattle.seat_matrix.specs.declared.entry.Entry.{Entry}
use Rattle.seat_matrix.specs.declared.entry.Home.{Home}
use Rattle.seat_matrix.specs.declared.seats.Seatings.{Seatings}
use Rattle.seat_matrix.proofs.Codes.{Distinct, code_apart, codes-distinct}
use Rattle.seat_matrix.proofs.SeatsLemmas.{matrix_sound}

-- programmes with their homes
abbrev Homes : Type 0
Homes = List (List ℕ × Home)

-- a key is found where one of the keys is it
pub lookup-any : {K X : Type 0} (test : K → Bool) (es : List (K × X)) → is_some (lookup test es) ≡ list_any test (keys_of es)
lookup-any test [] = refl
lookup-any {K} {X} test (e ∷ es) = by (test e.0) (lookup-any test es)
  where
    by : (b : Bool) → is_some (lookup test es) ≡ list_any test (keys_of es) → is_some (cond b (Some e.1) (lookup test es)) ≡ (b || list_any test (keys_of es))
    by true h = refl
    by false h = h

-- a new key goes behind the others
insert_new : (es : Homes) (code : List ℕ) (home : Home) → list_any (bytes_eq code) (keys_of es) ≡ false → keys_of (insert_entry bytes_eq es code home) ≡ keys_of es ++ code ∷ []
insert_new [] code home e = refl
insert_new (held ∷ es) code home e = by (bytes_eq code held.0) e (insert_new es code home)
  where
    by : (b : Bool) → (b || list_any (bytes_eq code) (keys_of es)) ≡ false → (list_any (bytes_eq code) (keys_of es) ≡ false → keys_of (insert_entry bytes_eq es code home) ≡ keys_of es ++ code ∷ [])
        → keys_of (cond b ((held.0, home) ∷ es) (held ∷ insert_entry bytes_eq es code home)) ≡ held.0 ∷ (keys_of es ++ code ∷ [])
    by true h more = cc h
    by false h more = ap (λ (l : List (List ℕ)). held.0 ∷ l) (more h)

-- The codes after one that is new, and after one that is known.
pub settle-new : (es new : Homes) (code : List ℕ) (home : Home) → is_some (lookup (bytes_eq code) es) ≡ false → new ≡ insert_entry bytes_eq es code home → keys_of new ≡ with_code (keys_of es) code
settle-new es new code home none e =
    let absent = sym (lookup-any (bytes_eq code) es) ∙ none in
    rw (e, absent) (insert_new es code home absent)

pub settle-old : (es : Homes) (code : List ℕ) → is_some (lookup (bytes_eq code) es) ≡ true → keys_of es ≡ with_code (keys_of es) code
settle-old es code some = rw (sym (lookup-any (bytes_eq code) es) ∙ some) refl

-- a home is found as the map finds it
find-home : (q : List ℕ) (es : Homes) → find_home q es ≡ lookup (bytes_eq q) es
find-home q [] = refl
find-home q (e ∷ es) = ap (λ (o : Option Home). cond (bytes_eq q e.0) (Some e.1) o) (find-home q es)

keys-map : (es : Homes) → codes_in es ≡ keys_of es
keys-map [] = refl
keys-map (e ∷ es) = ap (λ (l : List (List ℕ)). e.0 ∷ l) (keys-map es)

-- a place is found where one of the codes is it
any_from : (t : List ℕ → Bool) (i : ℕ) (codes : List (List ℕ)) → is_some (position_from t i codes) ≡ list_any t codes
any_from t i [] = refl
any_from t i (c ∷ codes) = by (t c) (any_from t (i + 1) codes)
  where
    by : (b : Bool) → is_some (position_from t (i + 1) codes) ≡ list_any t codes → is_some (cond b (Some i) (position_from t (i + 1) codes)) ≡ (b || list_any t codes)
    by true h = refl
    by false h = h

-- a place behind one more code
from_push : (t : List ℕ → Bool) (i : ℕ) (codes : List (List ℕ)) (c : List ℕ) → position_from t i (codes ++ c ∷ []) ≡ or_else (position_from t i codes) (cond (t c) (Some (i + length codes)) None)
from_push t i [] c = ap (λ (n : ℕ). cond (t c) (Some n) None) (omega arith)
from_push t i (first ∷ codes) c =
    ap (λ (o : Option ℕ). cond (t first) (Some i) o) (from_push t (i + 1) codes c ∙ ap (λ (n : ℕ). or_else (position_from t (i + 1) codes) (cond (t c) (Some n) None)) (omega arith))
    ∙ by (t first) (position_from t (i + 1) codes) (cond (t c) (Some (i + length (first ∷ codes))) None)
  where
    by : (b : Bool) (o next : Option ℕ) → cond b (Some i) (or_else o next) ≡ or_else (cond b (Some i) o) next
    by true o next = refl
    by false o next = refl

from_zero : (code : List ℕ) (codes : List (List ℕ)) → position (bytes_eq code) codes ≡ position_from (bytes_eq code) 0 codes
from_zero code codes = position_from-zero (bytes_eq code) codes

-- a text is compared to a code from either side
turned : (a b : List ℕ) → bytes_eq a b ≡ bytes_eq b a
turned a b = one_answer (bytes_eq a b) (bytes_eq b a) (bytes_eq-Decides a b) (flip _ (bytes_eq-Decides b a))

-- The numbers with one more.
number_more : (code q : List ℕ) (codes : List (List ℕ)) → list_any (bytes_eq code) codes ≡ false
    → cond (is_eq (slice_cmp nat_cmp code q)) (Some (length codes)) (position (bytes_eq q) codes) ≡ position (bytes_eq q) (codes ++ code ∷ [])
number_more code q codes fresh =
    ap (λ (b : Bool). cond b (Some (length codes)) (position (bytes_eq q) codes)) (is_eq-slice_cmp code q ∙ turned code q)
    ∙ by (bytes_eq q code) refl
    ∙ sym (from_zero q (codes ++ code ∷ []) ∙ from_push (bytes_eq q) 0 codes code)
  where
    absent : (o : Option ℕ) → is_some o ≡ false → None ≡ o
    absent None e = refl
    absent (Some n) e = cc e

    kept : (o : Option ℕ) → o ≡ or_else o None
    kept None = refl
    kept (Some n) = refl

    by : (b : Bool) → bytes_eq q code ≡ b
        → cond b (Some (length codes)) (position (bytes_eq q) codes) ≡ or_else (position_from (bytes_eq q) 0 codes) (cond (bytes_eq q code) (Some (0 + length codes)) None)
    by true f =
        let same : q ≡ code = (bytes_eq-Decides q code).0 f in
        let none : is_some (position_from (bytes_eq q) 0 codes) ≡ false = any_from (bytes_eq q) 0 codes ∙ ap (λ (c : List ℕ). list_any (bytes_eq c) codes) same ∙ fresh in
        let long : length codes ≡ 0 + length codes = omega arith in
        ap (λ (n : ℕ). Some n) long
        ∙ ap (λ (b : Bool). or_else None (cond b (Some (0 + length codes)) None)) (sym f)
        ∙ ap (λ (o : Option ℕ). or_else o (cond (bytes_eq q code) (Some (0 + length codes)) None)) (absent _ none)
    by false f = from_zero q codes ∙ kept _ ∙ ap (λ (b : Bool). or_else (position_from (bytes_eq q) 0 codes) (cond b (Some (0 + length codes)) None)) (sym f)

-- a value that is put in by a test, seen through a function
map_cond : (b : Bool) (prog : ProgId) (o : Option ProgId) → option_map (λ prog. prog.0) (cond b (Some prog) o) ≡ cond b (Some prog.0) (option_map (λ prog. prog.0) o)
map_cond true prog o = refl
map_cond false prog o = refl

-- the codes of the first programmes, and the next one
codes_more : (programmes : Homes) (i : ℕ) (held : List ℕ × Home) → slice_get programmes i ≡ Some held → codes_in (take (suc i) programmes) ≡ codes_in (take i programmes) ++ held.0 ∷ []
codes_more [] i held e = cc e
codes_more (first ∷ programmes) zero held e = let same : first ≡ held = cc e in ap (λ (h : List ℕ × Home). h.0 ∷ []) same
codes_more (first ∷ programmes) (suc i) held e = ap (λ (l : List (List ℕ)). first.0 ∷ l) (codes_more programmes i held e)

codes_long : (programmes : Homes) (i : ℕ) → i < length programmes → length (codes_in (take i programmes)) ≡ i
codes_long [] i less = absurd (omega (arith, less))
codes_long (first ∷ programmes) zero less = refl
codes_long (first ∷ programmes) (suc i) less = ap (λ (n : ℕ). suc n) (codes_long programmes i (omega (arith, less)))

-- no earlier programme has the code of this one
fresh : (programmes : Homes) (i : ℕ) (held : List ℕ × Home) → Distinct (codes_in programmes) → slice_get programmes i ≡ Some held → list_any (bytes_eq held.0) (codes_in (take i programmes)) ≡ false
fresh [] i held distinct e = cc e
fresh (first ∷ programmes) zero held distinct e = refl
fresh (first ∷ programmes) (suc i) held distinct e =
    let other : bytes_eq held.0 first.0 ≡ false = false_from_ne_true _ (λ same. code_apart first.0 programmes i held distinct.0 e (sym ((bytes_eq-Decides held.0 first.0).0 same))) in
    rw other (fresh programmes i held distinct.1 e)

-- The numbers of the first programmes, and of one more.
pub numbers_more : (programmes : Homes) (i : ℕ) (held : List ℕ × Home) (numbers more : BTreeMap (List ℕ) ProgId) (prog : ProgId) → Distinct (codes_in programmes) → slice_get programmes i ≡ Some held → prog.0 ≡ i
    → ((q : List ℕ) → tree.get (slice_cmp nat_cmp) more q ≡ cond (is_eq (slice_cmp nat_cmp held.0 q)) (Some prog) (tree.get (slice_cmp nat_cmp) numbers q))
    → AreNumbers (take i programmes) numbers → AreNumbers (take (i + 1) programmes) more
numbers_more programmes i held numbers more prog distinct e number put kept = λ q.
    let codes = codes_in (take i programmes) in
    let long : prog.0 ≡ length codes = number ∙ sym (codes_long programmes i (slice_get_within programmes i held e)) in
    ap (λ (o : Option ProgId). option_map (λ prog. prog.0) o) (put q)
    ∙ map_cond (is_eq (slice_cmp nat_cmp held.0 q)) prog (tree.get (slice_cmp nat_cmp) numbers q)
    ∙ ap (λ (n : ℕ). cond (is_eq (slice_cmp nat_cmp held.0 q)) (Some n) (option_map (λ prog. prog.0) (tree.get (slice_cmp nat_cmp) numbers q))) long
    ∙ ap (λ (o : Option ℕ). cond (is_eq (slice_cmp nat_cmp held.0 q)) (Some (length codes)) o) (kept q)
    ∙ number_more held.0 q codes (fresh programmes i held distinct e)
    ∙ ap (λ (l : List (List ℕ)). position (bytes_eq q) l) (sym (codes_more programmes i held e))
    ∙ ap (λ (n : ℕ). position (bytes_eq q) (codes_in (take n programmes))) (sym (add-one i))

-- what is made of each programme is made of each code
made_of_codes : {X : Type 0} (f : List ℕ → X) (programmes : Homes) → map (λ held. f held.0) programmes ≡ map f (codes_in programmes)
made_of_codes f [] = refl
made_of_codes f (held ∷ programmes) = ap (λ xs. f held.0 ∷ xs) (made_of_codes f programmes)

module _ (entries : List Entry) (table : MatrixBuilder) (keeps : Keeps entries table) where
  -- a home is known exactly where the code is among the codes
  pub home_known : (code : List ℕ) → is_some (home_at code entries) ≡ list_any (bytes_eq code) (codes_of entries)
  home_known code =
      ap (λ (o : Option Home). is_some o) (sym (keeps.homes code)) ∙ lookup-any (bytes_eq code) table.programmes.entries ∙ ap (λ (l : List (List ℕ)). list_any (bytes_eq code) l) keeps.programmes

  pub kept_codes : codes_in table.programmes.entries ≡ codes_of entries
  kept_codes = keys-map table.programmes.entries ∙ keeps.programmes

  -- no code is listed twice
  pub kept_apart : (programmes : Homes) → programmes ≡ table.programmes.entries → Distinct (codes_in programmes)
  kept_apart programmes those = subst Distinct (sym (ap (λ (l : Homes). codes_in l) those ∙ kept_codes)) (codes-distinct [] entries tt)

  -- the seats of all programmes are those of all codes
  pub all_seats_made : (steps : List Seatings) (programmes : Homes) → programmes ≡ table.programmes.entries → steps ≡ map (λ held. seatings_in entries held.0) programmes → steps ≡ map (seatings_in entries) (codes_of entries)
  all_seats_made steps programmes those made =
      made ∙ made_of_codes (seatings_in entries) programmes ∙ ap (λ (l : List (List ℕ)). map (seatings_in entries) l) (ap (λ (l : Homes). codes_in l) those ∙ kept_codes)

  -- What a builder makes is the matrix of its entries.
  pub made : (programmes : Homes) (steps : List Seatings) → programmes ≡ table.programmes.entries → steps ≡ map (seatings_in entries) (codes_of entries) → IsMatrix entries (record { programmes = programmes; steps = steps })
  made programmes steps those same = record {
    programmes = ap (λ (l : Homes). codes_in l) those ∙ kept_codes;
    homes = λ code. ap (λ (l : Homes). find_home code l) those ∙ find-home code table.programmes.entries ∙ keeps.homes code;
    steps = same;
  }

  pub made_kept : (programmes : Homes) (steps : List Seatings) (numbers : BTreeMap (List ℕ) ProgId) (pairs : List (List ℕ × ProgId)) → programmes ≡ table.programmes.entries → steps ≡ map (seatings_in entries) (codes_of entries)
      → AreNumbers programmes numbers → pairs ≡ numbers.entries → tree.IsOrdered (slice_cmp nat_cmp) numbers → IsKeptMatrix pairs (record { programmes = programmes; steps = steps })
  made_kept programmes steps numbers pairs those same are pairs_are ordered = record {
    sound = matrix_sound entries (record { programmes = programmes; steps = steps }) keeps.sound (made programmes steps those same);
    sorted = subst (λ (l : List (List ℕ × ProgId)). IsStrictlySortedBy (slice_cmp nat_cmp) (keys_of l)) (sym pairs_are) ordered;
    numbers = λ code. ap (λ (l : List (List ℕ × ProgId)). option_map (λ prog. prog.0) (lookup (is_at (slice_cmp nat_cmp code)) l)) pairs_are ∙ are code;
  }
