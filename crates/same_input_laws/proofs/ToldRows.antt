-- Rows of people in their order are those of the seats that they tell.
use Rattle.std.proofs.Common.{◌≡◌, ◌<◌, inl, inr, ℕ, Bool, true, false, List, [], ◌∷◌, ◌++◌, Option, Some, None, map, refl, sym, ap, ◌∙◌, subst, if◌then◌else◌, arith}
use Rattle.std.specs.List.{AllByRecursion}
use Rattle.std.proofs.lemmas.Bool.{eq-eqb, ne_eqb}
use Rattle.office_base.specs.Lists.{IsSublist, Pairwise}
use Rattle.office_base.specs.declared.seat.Seat.{Seat}
use Rattle.office_base.specs.declared.person.CandId.{CandId}
use Rattle.office_base.specs.declared.person.Person.{Person}
use Rattle.kept_rows.specs.declared.rows.AllotRow.{AllotRow}
use Rattle.publish.specs.Laws.{row_of, rows_of}
use Rattle.audit_rules.specs.Papers.{seat_told, seats_told}

abbrev cands : List AllotRow → List ℕ
cands rows = map (λ (row : AllotRow). row.cand.0) rows

abbrev ids : List Person → List ℕ
ids people = map (λ (person : Person). person.id.0) people

-- nobody before the people has a row
abbrev After : ℕ → List Person → Type 0
After id people = AllByRecursion (λ (p : Person). id < p.id.0) people

none_told : (id : ℕ) (people : List Person) (rows : List AllotRow) → After id people → IsSublist (cands rows) (ids people) → seat_told rows id ≡ None
none_told id people [] after among = refl
none_told id [] (row ∷ rows) after among = absurd (let e = among in cc)
none_told id (person ∷ people) (row ∷ rows) after (inl later) = none_told id people (row ∷ rows) after.1 later
none_told id (person ∷ people) (row ∷ rows) after (inr here) =
    let same : row.cand.0 ≡ person.id.0 = (let e = here.1 in cc) in
    let rest : cands rows ≡ here.0 = (let e = here.1 in cc) in
    let less = after.0 in
    ap (λ (b : Bool). if b then Some (let s : Seat = record { prog = row.prog; step = row.step } in s) else seat_told rows id) (ne_eqb row.cand.0 id (λ e. omega (arith, e, same, less)))
    ∙ none_told id people rows after.1 (subst (λ (l : List ℕ). IsSublist l (ids people)) (sym rest) here.2)

-- a row of somebody before the people tells none of them a seat
passed : (row : AllotRow) (rows : List AllotRow) (people : List Person) → After row.cand.0 people → seats_told (row ∷ rows) people ≡ seats_told rows people
passed row rows [] after = refl
passed row rows (person ∷ people) after =
    let less = after.0 in
    let here : seat_told (row ∷ rows) person.id.0 ≡ seat_told rows person.id.0 =
    ap (λ (b : Bool). if b then Some (let s : Seat = record { prog = row.prog; step = row.step } in s) else seat_told rows person.id.0) (ne_eqb row.cand.0 person.id.0 (λ e. omega (arith, e, less))) in
    ap (λ (o : Option Seat). o ∷ seats_told (row ∷ rows) people) here ∙ ap (λ (l : List (Option Seat)). seat_told rows person.id.0 ∷ l) (passed row rows people after.1)

abbrev Numbered : ℕ → List AllotRow → Type 0
Numbered number rows = AllByRecursion (λ (row : AllotRow). row.round ≡ number) rows

-- the rows of the seats that rows tell are these rows
pub rows_back : (number : ℕ) (people : List Person) (rows : List AllotRow) → Pairwise (λ (a b : Person). a.id.0 < b.id.0) people → IsSublist (cands rows) (ids people) → Numbered number rows
    → rows_of number people (seats_told rows people) ≡ rows
rows_back number [] [] rising among numbered = refl
rows_back number [] (row ∷ rows) rising among numbered = absurd (let e = among in cc)
rows_back number (person ∷ people) rows rising (inl later) numbered =
    ap (λ (o : Option Seat). row_of number person.id o ++ rows_of number people (seats_told rows people)) (none_told person.id.0 people rows rising.0 later) ∙ rows_back number people rows rising.1 later numbered
rows_back number (person ∷ people) [] rising (inr here) numbered = absurd (let e = here.1 in cc)
rows_back number (person ∷ people) (row ∷ rows) rising (inr here) numbered =
    let same : row.cand.0 ≡ person.id.0 = (let e = here.1 in cc) in
    let rest : cands rows ≡ here.0 = (let e = here.1 in cc) in
    let after : After row.cand.0 people = subst (λ (n : ℕ). After n people) (sym same) rising.0 in
    let told : seat_told (row ∷ rows) person.id.0 ≡ Some (let s : Seat = record { prog = row.prog; step = row.step } in s) =
    ap (λ (b : Bool). if b then Some (let s : Seat = record { prog = row.prog; step = row.step } in s) else seat_told rows person.id.0) (eq-eqb row.cand.0 person.id.0 same) in
    let mine : record { round = number; cand = person.id; prog = row.prog; step = row.step } ≡ row = λ i. record { round = sym numbered.0 i; cand = record { 0 = sym same i }; prog = row.prog; step = row.step } in
    ap (λ (o : Option Seat). row_of number person.id o ++ rows_of number people (seats_told (row ∷ rows) people)) told
    ∙ (ap (λ (l : List (Option Seat)). record { round = number; cand = person.id; prog = row.prog; step = row.step } ∷ rows_of number people l) (passed row rows people after)
    ∙ (ap (λ (r : AllotRow). r ∷ rows_of number people (seats_told rows people)) mine
    ∙ ap (λ (l : List AllotRow). row ∷ l) (rows_back number people rows rising.1 (subst (λ (l : List ℕ). IsSublist l (ids people)) (sym rest) here.2) numbered.1)))
