-- Requests that were read, and those that are left.
use Rattle.std.proofs.Common.{◌≡◌, ◌+◌, ℕ, List, [], ◌∷◌, ◌++◌, Option, Some, None, Result, Ok, Err, refl, ap, sym, ◌∙◌, append_assoc}
use Rattle.std.proofs.lemmas.List.{append-nil}
use Rattle.office_asks.specs.declared.ask.Request.{Request}
use Rattle.section_rows.specs.Rows.{Row, RowsAhead}
use Rattle.section_rows.specs.Steps.{after, needs}
use Rattle.request_rows.specs.Requests.{IsPut, request_of, script_from, script_of}

-- the requests that were read before those of some rows
abbrev pub joined : List Request → Result (List Request) ℕ → Result (List Request) ℕ
joined read left = after left (λ more. Ok (read ++ more))

-- nothing is read at the beginning
joined-nil : (left : Result (List Request) ℕ) → joined [] left ≡ left
joined-nil (Ok more) = refl
joined-nil (Err number) = refl

-- one request more is read, and one row less is left
joined-more : (read : List Request) (request : Request) (left : Result (List Request) ℕ) → joined read (after left (λ requests. Ok (request ∷ requests))) ≡ joined (read ++ request ∷ []) left
joined-more read request (Ok more) = ap (λ (requests : List Request). Ok requests) (sym (append_assoc read (request ∷ []) more))
joined-more read request (Err number) = refl

joined-next : (read : List Request) (number : ℕ) (row : Row) (rows : List Row) (request : Request) → request_of row ≡ Some request
    → joined read (script_from number (row ∷ rows)) ≡ joined (read ++ request ∷ []) (script_from (number + 1) rows)
joined-next read number row rows request e =
    ap (λ (o : Option Request). joined read (needs o number (λ request. after (script_from (number + 1) rows) (λ requests. Ok (request ∷ requests))))) e
    ∙ joined-more read request (script_from (number + 1) rows)

joined-none : (read : List Request) (number : ℕ) (row : Row) (rows : List Row) → request_of row ≡ None → joined read (script_from number (row ∷ rows)) ≡ Err number
joined-none read number row rows e = ap (λ (o : Option Request). joined read (needs o number (λ request. after (script_from (number + 1) rows) (λ requests. Ok (request ∷ requests))))) e

-- Before the first row nothing is read.
pub read-none : (script : List Request) (told : RowsAhead) (rows : List Row) → script ≡ [] → told ≡ record { row = []; left = rows } → script_of rows ≡ joined script (script_from 1 told.left)
read-none script told rows empty begun =
    let left : told.left ≡ rows = ap (λ (t : RowsAhead). t.left) begun in
    rw (empty, left) (sym (joined-nil (script_of rows)))

-- A row that is a request is read.
pub read-more : (all : Result (List Request) ℕ) (read new : List Request) (number next : ℕ) (rows : List Row) (row : Row) (left : List Row)
    → all ≡ joined read (script_from number rows) → rows ≡ row ∷ left → IsPut read row new → next ≡ number + 1 → all ≡ joined new (script_from next left)
read-more all read new number next rows row left e split put count =
    let (request, here, same) = put in
    rw (same, count) (e ∙ ap (λ (rows : List Row). joined read (script_from number rows)) split ∙ joined-next read number row left request here)

-- A row that is no request is the first one.
pub read-fault : (all : Result (List Request) ℕ) (read : List Request) (number : ℕ) (rows : List Row) (row : Row) (left : List Row)
    → all ≡ joined read (script_from number rows) → rows ≡ row ∷ left → request_of row ≡ None → all ≡ Err number
read-fault all read number rows row left e split none = e ∙ ap (λ (rows : List Row). joined read (script_from number rows)) split ∙ joined-none read number row left none

-- Where no row is left, all are read.
pub read-all : (all : Result (List Request) ℕ) (read : List Request) (number : ℕ) (rows : List Row) → all ≡ joined read (script_from number rows) → rows ≡ [] → all ≡ Ok read
read-all all read number rows e none =
    e ∙ ap (λ (rows : List Row). joined read (script_from number rows)) none ∙ ap (λ (requests : List Request). Ok requests) (append-nil read)
