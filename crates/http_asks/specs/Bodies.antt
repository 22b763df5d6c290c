-- What the bodies of requests ask.
use Rattle.std.specs.Prelude.{ℕ, ◌&&◌, List, Option, Some, None, nat_le, codes, if◌then◌else◌}
use Rattle.std.specs.Option.{option_and_then, option_map}
use Rattle.std.specs.Str.{is_utf8}
use Rattle.serde_json.specs.Data.{Data}
use Rattle.serde_json.specs.Find.{get, as_number, as_str, as_u64}
use Rattle.serde_json.specs.Read.{read}
use Rattle.office_base.specs.Limits.{last_id, last_turn, last_window, most_step_seats}
use Rattle.office_asks.specs.declared.ask.Ask.{Ask}
use Rattle.office_asks.specs.declared.ask.Ask.TheVariants.{Answer, Cut, Raise}
use Rattle.office_base.specs.declared.choice.Choice.{Choice}
use Rattle.office_base.specs.declared.person.CandId.{CandId}
use Rattle.office_base.specs.declared.step.StepKind.{StepKind}
use Rattle.office_text.specs.Names.{choice_of, code_of, step_of}
use Rattle.http_asks.specs.declared.pages.Page.{Page}
use Rattle.http_asks.specs.declared.pages.Page.TheVariants.{Answers, Cuts, Raises, Reads}

-- the value that a body is, as `serde_json` reads it; none if it is no text of JSON
abbrev pub data_of : List ℕ → Option Data
data_of body = if is_utf8 body then read body else None

-- the number, if it lies from low to high
abbrev pub within : ℕ → ℕ → ℕ → Option ℕ
within low high n = if nat_le low n && nat_le n high then Some n else None

-- the whole number of that key, if it lies from low to high; a number with a point or an exponent is none
abbrev pub number_in : List ℕ → ℕ → ℕ → Data → Option ℕ
number_in key low high value = option_and_then (λ n. within low high n) (option_and_then as_u64 (option_and_then as_number (get key value)))

-- the text of that key
abbrev pub text_in : List ℕ → Data → Option (List ℕ)
text_in key value = option_and_then as_str (get key value)

-- the candidate, the window, the turn, the choice, the programme, the step and its seats that a value has
abbrev pub candidate_in : Data → Option CandId
candidate_in value = option_map (λ id. record { 0 = id }) (number_in (codes "cand") 1 last_id value)

abbrev pub window_in : Data → Option ℕ
window_in value = number_in (codes "window") 0 last_window value

abbrev pub turn_in : Data → Option ℕ
turn_in value = number_in (codes "turn") 1 last_turn value

abbrev pub choice_in : Data → Option Choice
choice_in value = option_and_then (λ text. choice_of text) (text_in (codes "choice") value)

abbrev pub code_in : Data → Option (List ℕ)
code_in value = option_and_then (λ text. code_of text) (text_in (codes "programme") value)

abbrev pub step_in : Data → Option StepKind
step_in value = option_and_then (λ text. step_of text) (text_in (codes "step") value)

abbrev pub seats_in : Data → Option ℕ
seats_in value = number_in (codes "seats") 1 most_step_seats value

-- what the value of an answer, of a cut and of a raise asks
abbrev pub answer_in : Data → Option Ask
answer_in value =
    option_and_then (λ cand. option_and_then (λ window. option_and_then (λ turn. option_and_then (λ choice. Some (Answer cand window turn choice))
    (choice_in value)) (turn_in value)) (window_in value)) (candidate_in value)

abbrev pub cut_in : Data → Option Ask
cut_in value = option_and_then (λ window. Some (Cut window)) (window_in value)

abbrev pub raise_in : Data → Option Ask
raise_in value =
    option_and_then (λ window. option_and_then (λ prog. option_and_then (λ step. option_and_then (λ seats. Some (Raise window prog step seats))
    (seats_in value)) (step_in value)) (code_in value)) (window_in value)

-- what a page asks with the value of a body
abbrev pub ask_in : Page → Data → Option Ask
ask_in Answers value = answer_in value
ask_in Cuts value = cut_in value
ask_in Raises value = raise_in value
ask_in (Reads ask) value = Some ask

-- what a page asks with a body; one that is read asks the same with any
abbrev pub ask_of : Page → List ℕ → Option Ask
ask_of Answers body = option_and_then (λ value. ask_in Answers value) (data_of body)
ask_of Cuts body = option_and_then (λ value. ask_in Cuts value) (data_of body)
ask_of Raises body = option_and_then (λ value. ask_in Raises value) (data_of body)
ask_of (Reads ask) body = Some ask
