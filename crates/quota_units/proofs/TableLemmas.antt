-- What one more row adds to a table of home states, and that its keys are codes.
use Rattle.std.proofs.Common.{◌≡◌, ◌<◌, ◌≤◌, ◌+◌, ◌^◌, ℕ, Bool, true, false, cond, List, [], ◌∷◌, ◌++◌, Option, Some, None, length, refl, sym, ap, subst, ◌∙◌, length-append, arith, IsSome}
use Rattle.std.specs.Prelude.{◌==◌, ◌&&◌, bytes_eq, is_some, nat_le, nat_lt, not, if◌then◌else◌}
use Rattle.std.specs.Bool.{one_answer}
use Rattle.std.specs.Char.{is_ascii_digit}
use Rattle.std.specs.Cmp.Lexicographic.{slice_cmp}
use Rattle.std.specs.Fmt.{decimal}
use Rattle.std.specs.List.{list_all}
use Rattle.std.specs.Map.{lookup}
use Rattle.std.specs.Ordering.{is_eq, nat_cmp}
use Rattle.std.proofs.lemmas.Bool.{and_parts, leb-true}
use Rattle.std.proofs.lemmas.Fmt.{decimal_nonempty, length-decimal-le}
use Rattle.std.proofs.lemmas.Map.Text.{is_eq-slice_cmp}
use Rattle.std.proofs.lemmas.Slice.Eq.{bytes_eq-Decides}
use Rattle.office_base.specs.Codes.{is_code, is_code_byte}
use Rattle.office_base.specs.Limits.{last_id}
use Rattle.office_text.specs.Number.{AreInverse, are_digits, is_number, number_of, value_of}
use Rattle.section_rows.specs.Rows.{Row, field}
use Rattle.section_rows.proofs.StepsLemmas.{flip, step}
use Rattle.section_rows.specs.Steps.{needs}
use Rattle.quota_units.specs.Homes.{AreCoded, Homes, home_at, homes_from, is_candidate, is_key, is_state, new_home}
use Rattle.quota_units.specs.declared.keys.Keys.{Keys}
use Rattle.quota_units.specs.declared.keys.Keys.TheVariants.{Units, States}

-- The state of a key is found by comparing.
pub find-home : (key : List ℕ) (homes : Homes) → home_at key homes ≡ lookup (λ k. is_eq (slice_cmp nat_cmp key k)) homes
find-home key [] = refl
find-home key (home ∷ homes) =
    ap (λ (b : Bool). cond b (Some home.1) (home_at key homes)) (sym (is_eq-slice_cmp key home.0))
    ∙ ap (λ (o : Option (List ℕ)). cond (is_eq (slice_cmp nat_cmp key home.0)) (Some home.1) o) (find-home key homes)

-- The states by key, with one more.
pub home-step : (homes : Homes) (home : List ℕ × List ℕ) → home_at home.0 homes ≡ None → (q : List ℕ)
    → cond (is_eq (slice_cmp nat_cmp home.0 q)) (Some home.1) (home_at q homes) ≡ home_at q (homes ++ home ∷ [])
home-step homes home none q =
    let same : is_eq (slice_cmp nat_cmp home.0 q) ≡ bytes_eq home.0 q = is_eq-slice_cmp home.0 q in
    step (λ h. bytes_eq q h.0) (λ h. h.1) homes home (is_eq (slice_cmp nat_cmp home.0 q))
    (same ∙ one_answer _ _ (bytes_eq-Decides home.0 q) (flip _ (bytes_eq-Decides q home.0)))
    (λ h. subst (λ (k : List ℕ). home_at k homes ≡ None) ((bytes_eq-Decides home.0 q).0 (sym same ∙ h)) none)

-- The keys stay codes with one more.
pub coded-step : (old new : Homes) (key state : List ℕ) → AreCoded old → is_code key ≡ true
    → ((q : List ℕ) → home_at q new ≡ cond (is_eq (slice_cmp nat_cmp key q)) (Some state) (home_at q old)) → AreCoded new
coded-step old new key state coded spelled updates q some = by (is_eq (slice_cmp nat_cmp key q)) refl (subst IsSome (updates q) some)
  where
    by : (b : Bool) → is_eq (slice_cmp nat_cmp key q) ≡ b → IsSome (cond b (Some state) (home_at q old)) → is_code q ≡ true
    by true is h = subst (λ (k : List ℕ). is_code k ≡ true) ((bytes_eq-Decides key q).0 (sym (is_eq-slice_cmp key q) ∙ is)) spelled
    by false is h = coded q h

-- ---- a candidate's number is a code

digit-code : (b : ℕ) → is_ascii_digit b ≡ true → is_code_byte b ≡ true
digit-code b e = grind (arith, e)

digits-code : (text : List ℕ) → are_digits text ≡ true → list_all is_code_byte text ≡ true
digits-code [] e = refl
digits-code (b ∷ text) e =
    let (first, more) = and_parts (is_ascii_digit b) (are_digits text) e in rw (digit-code b first, digits-code text more) refl

number-digits : (text : List ℕ) → is_number text ≡ true → are_digits text ≡ true
number-digits [] e = cc e
number-digits (b ∷ []) e = rw e refl
number-digits (b ∷ next ∷ text) e = grind (arith, e)

-- The number of a candidate is a code.
pub candidate-code : AreInverse → (text : List ℕ) → is_candidate text ≡ true → is_code text ≡ true
candidate-code inverse text e = by (is_number text && nat_le 1 (value_of text) && nat_le (value_of text) last_id) refl e
  where
    by : (b : Bool) → (is_number text && nat_le 1 (value_of text) && nat_le (value_of text) last_id) ≡ b → is_some (cond b (Some (value_of text)) None) ≡ true → is_code text ≡ true
    by false is h = cc h
    by true is h =
        let (first, below) = and_parts (is_number text && nat_le 1 (value_of text)) (nat_le (value_of text) last_id) is in
        let (spelled, above) = and_parts (is_number text) (nat_le 1 (value_of text)) first in
        let high : value_of text ≤ last_id = leb-true (value_of text) last_id below in
        let wide : value_of text < 2 ^ 64 = omega (arith, high) in
        let short : value_of text < 10 ^ 9 = omega (arith, high) in
        let is_of : number_of text ≡ Some (value_of text) = ap (λ (b : Bool). cond b (Some (value_of text)) None) spelled in
        let same : text ≡ decimal (value_of text) = inverse.written_back text (value_of text) wide is_of in
        let long : length (decimal (value_of text)) ≤ 9 = length-decimal-le 9 (value_of text) (omega arith) short wide in
        let some : 0 < length (decimal (value_of text)) = decimal_nonempty (value_of text) wide in
        let n : length text ≡ length (decimal (value_of text)) = ap length same in
        made (omega (arith, n, some)) (omega (arith, n, long)) (digits-code text (number-digits text spelled))
      where
        made : 1 ≤ length text → length text ≤ 16 → list_all is_code_byte text ≡ true → is_code text ≡ true
        made some few bytes = grind (arith, some, few, bytes)

-- One more is counted, where it is new.
pub count-step : (old : Option (List ℕ)) (m n : ℕ) (homes : Homes) (home : List ℕ × List ℕ) → old ≡ None → n ≡ m + (if is_some old then 0 else 1) → m ≡ length homes → n ≡ length (homes ++ home ∷ [])
count-step None m n homes home e f g = omega (arith, f, g, length-append homes (home ∷ []))
count-step (Some p) m n homes home e f g = cc e

-- A key is a code.
pub key-code : AreInverse → (keys : Keys) (text : List ℕ) → is_key keys text ≡ true → is_code text ≡ true
key-code inverse Units text e = (and_parts (is_code text) (nat_le (length text) 13) e).0
key-code inverse States text e = candidate-code inverse text e

pub no-code : AreInverse → (keys : Keys) (text : List ℕ) → is_key keys text ≡ true → is_code text ≡ false → ⊥
no-code inverse keys text is not = let f : true ≡ false = sym (key-code inverse keys text is) ∙ not in cc

-- ---- the rows of a table

-- a new key is none of those before
pub home-fresh : (is_key : List ℕ → Bool) (most : ℕ) (homes : Homes) (row : Row) (home : List ℕ × List ℕ) → Some home ≡ new_home is_key most homes row → home_at home.0 homes ≡ None
home-fresh is_key most homes row home e = by (length row == 2) (nat_lt (length homes) most) (is_key (field row 0)) (is_state (field row 1)) (home_at (field row 0) homes) refl e
  where
    by : (a b c d : Bool) (o : Option (List ℕ)) → home_at (field row 0) homes ≡ o → Some home ≡ cond (a && (b && (c && (d && not (is_some o))))) (Some (field row 0, field row 1)) None → home_at home.0 homes ≡ None
    by true true true true None f h = let same : home ≡ (field row 0, field row 1) = cc h in ap (λ (x : List ℕ × List ℕ). home_at x.0 homes) same ∙ f
    by true true true true (Some s) f h = cc h
    by true true true false o f h = cc h
    by true true false d o f h = cc h
    by true false c d o f h = cc h
    by false b c d o f h = cc h

-- A row more is read.
pub homes-step : (is_key : List ℕ → Bool) (most : ℕ) (homes : Homes) (number next : ℕ) (left rows : List Row) (row : Row) (home : List ℕ × List ℕ) → left ≡ row ∷ rows → Some home ≡ new_home is_key most homes row
    → next ≡ number + 1 → homes_from is_key most homes number left ≡ homes_from is_key most (homes ++ home ∷ []) next rows
homes-step is_key most homes number next left rows row home e found n =
    ap (homes_from is_key most homes number) e
    ∙ ap (λ (o : Option (List ℕ × List ℕ)). needs o number (λ h. homes_from is_key most (homes ++ h ∷ []) (number + 1) rows)) (sym found)
    ∙ ap (λ (k : ℕ). homes_from is_key most (homes ++ home ∷ []) k rows) (sym n)
