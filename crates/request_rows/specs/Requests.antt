-- Which request a row is, and which requests a script has.
use Rattle.std.specs.Prelude.{◌≡◌, ◌+◌, ℕ, Bool, ◌==◌, ◌&&◌, List, [], ◌∷◌, ◌++◌, Option, Some, None, Result, Ok, Err, length, bytes_eq, codes, if◌then◌else◌}
use Rattle.std.specs.Option.{option_and_then, option_map}
use Rattle.office_base.specs.Limits.{last_id, last_turn, last_window, most_step_seats}
use Rattle.office_asks.specs.declared.ask.Ask.{Ask}
use Rattle.office_asks.specs.declared.ask.Ask.TheVariants.{Answer, Cut, Seat, Why, List as ListOf, Round, Choices, Cutoffs, Register, Answers, State, Raise}
use Rattle.office_asks.specs.declared.ask.By.{By}
use Rattle.office_asks.specs.declared.ask.By.TheVariants.{Clerk, Candidate, Nobody}
use Rattle.office_asks.specs.declared.ask.Request.{Request}
use Rattle.office_base.specs.declared.person.CandId.{CandId}
use Rattle.office_text.specs.Names.{choice_of, code_of, step_of}
use Rattle.office_text.specs.Number.{number_within}
use Rattle.section_rows.specs.Rows.{Row, field}
use Rattle.section_rows.specs.Steps.{after, needs}
use Rattle.request_rows.specs.declared.script.ScriptFault.{ScriptFault}
use Rattle.request_rows.specs.declared.script.ScriptFault.TheVariants.{BadRequest, OutOfMemory}

-- the candidate's number that a text spells
abbrev pub candidate_of : List ℕ → Option CandId
candidate_of text = option_map (λ id. record { 0 = id }) (number_within 1 last_id text)

-- who asks
abbrev pub by_of : List ℕ → Option By
by_of text =
    if bytes_eq text (codes "clerk") then Some Clerk
    else if bytes_eq text (codes "nobody") then Some Nobody
    else option_map (λ id. Candidate id) (candidate_of text)

-- the number of a window or of a round
abbrev pub window_of : List ℕ → Option ℕ
window_of text = number_within 0 last_window text

-- the number of a turn
abbrev pub turn_of : List ℕ → Option ℕ
turn_of text = number_within 1 last_turn text

-- the new number of seats of a step
abbrev pub seats_of : List ℕ → Option ℕ
seats_of text = number_within 1 most_step_seats text

-- what the fields after the first two ask, by the kind of the request
abbrev pub answer_of : Row → Option Ask
answer_of row =
    option_and_then (λ cand. option_and_then (λ window. option_and_then (λ turn. option_and_then (λ choice. Some (Answer cand window turn choice))
    (choice_of (field row 5))) (turn_of (field row 4))) (window_of (field row 3))) (candidate_of (field row 2))

abbrev pub cut_of : Row → Option Ask
cut_of row = option_and_then (λ window. Some (Cut window)) (window_of (field row 2))

abbrev pub seat_of : Row → Option Ask
seat_of row = option_and_then (λ cand. Some (Seat cand)) (candidate_of (field row 2))

abbrev pub why_of : Row → Option Ask
why_of row = option_and_then (λ cand. option_and_then (λ prog. Some (Why cand prog)) (code_of (field row 3))) (candidate_of (field row 2))

abbrev pub list_of : Row → Option Ask
list_of row = option_and_then (λ round. option_and_then (λ prog. Some (ListOf round prog)) (code_of (field row 3))) (window_of (field row 2))

abbrev pub round_of : Row → Option Ask
round_of row = option_and_then (λ round. Some (Round round)) (window_of (field row 2))

abbrev pub choices_of : Row → Option Ask
choices_of row = option_and_then (λ cand. Some (Choices cand)) (candidate_of (field row 2))

abbrev pub cutoffs_of : Row → Option Ask
cutoffs_of row = option_and_then (λ round. option_and_then (λ prog. Some (Cutoffs round prog)) (code_of (field row 3))) (window_of (field row 2))

abbrev pub register_of : Row → Option Ask
register_of row = option_and_then (λ cand. Some (Register cand)) (candidate_of (field row 2))

abbrev pub answers_of : Row → Option Ask
answers_of row = option_and_then (λ cand. Some (Answers cand)) (candidate_of (field row 2))

abbrev pub raise_of : Row → Option Ask
raise_of row =
    option_and_then (λ window. option_and_then (λ prog. option_and_then (λ step. option_and_then (λ seats. Some (Raise window prog step seats))
    (seats_of (field row 5))) (step_of (field row 4))) (code_of (field row 3))) (window_of (field row 2))

-- the row has this first field, and so many fields
abbrev pub is_kind : List ℕ → ℕ → Row → Bool
is_kind name count row = (length row == count) && bytes_eq (field row 0) name

-- what a row asks, by its first field and the number of its fields
abbrev pub ask_of : Row → Option Ask
ask_of row =
    if is_kind (codes "answer") 6 row then answer_of row
    else if is_kind (codes "cut") 3 row then cut_of row
    else if is_kind (codes "seat") 3 row then seat_of row
    else if is_kind (codes "why") 4 row then why_of row
    else if is_kind (codes "list") 4 row then list_of row
    else if is_kind (codes "round") 3 row then round_of row
    else if is_kind (codes "choices") 3 row then choices_of row
    else if is_kind (codes "cutoffs") 4 row then cutoffs_of row
    else if is_kind (codes "register") 3 row then register_of row
    else if is_kind (codes "answers") 3 row then answers_of row
    else if is_kind (codes "state") 2 row then Some State
    else if is_kind (codes "raise") 6 row then raise_of row
    else None

-- the request that a row is: its second field says who asks
abbrev pub request_of : Row → Option Request
request_of row = option_and_then (λ by. option_and_then (λ ask. Some (record { by = by; ask = ask })) (ask_of row)) (by_of (field row 1))

-- the requests of rows of which the first has this number, or the number of the first row that is none
abbrev pub script_from : ℕ → List Row → Result (List Request) ℕ
script_from number [] = Ok []
script_from number (row ∷ rows) = needs (request_of row) number (λ request. after (script_from (number + 1) rows) (λ requests. Ok (request ∷ requests)))

-- the requests of all rows, which are counted from 1
abbrev pub script_of : List Row → Result (List Request) ℕ
script_of rows = script_from 1 rows

-- the first row that is no request; `OutOfMemory` says nothing of the rows
abbrev pub IsScriptFault : List Row → ScriptFault → Type 0
IsScriptFault rows (BadRequest row) = script_of rows ≡ Err row
IsScriptFault rows OutOfMemory = Unit {0}

-- the row's request comes after those before it
abbrev pub IsPut : List Request → Row → List Request → Type 0
IsPut before row after = (request : Request) × (request_of row ≡ Some request) × (after ≡ before ++ request ∷ [])
