-- The bytes of a reply over HTTP.
use Rattle.std.specs.Prelude.{ℕ, Bool, true, false, List, [], ◌∷◌, ◌++◌, Option, Some, None, codes, decimal, length, unwrap_or}
use Rattle.http.specs.StatusCode.{code_digits}
use Rattle.http_wire.specs.Statuses.{phrase}
use Rattle.http_wire.specs.declared.faults.Fault.{Fault}
use Rattle.http_wire.specs.declared.faults.Fault.TheVariants.{Keeper, Memory}

-- the text as a line, which CR LF ends
abbrev pub line : List ℕ → List ℕ
line text = text ++ 13 ∷ 10 ∷ []

unfoldable pub status_line : ℕ → List ℕ
status_line status = line (codes "HTTP/1.1 " ++ code_digits status ++ codes " " ++ phrase status)

-- the type of the body, if there is one
unfoldable pub type_line : Option ℕ → List ℕ
type_line None = []
type_line (Some len) = line (codes "Content-Type: application/json")

-- the length of the body, 0 if there is none
unfoldable pub length_line : ℕ → List ℕ
length_line len = line (codes "Content-Length: " ++ decimal len)

-- the method that the path has
unfoldable pub allow_line : Option (List ℕ) → List ℕ
allow_line None = []
allow_line (Some method) = line (codes "Allow: " ++ method)

-- that the connection closes
unfoldable pub close_line : Bool → List ℕ
close_line true = line (codes "Connection: close")
close_line false = []

-- The head of a reply: its status, the length of its body if it has one, the method that is allowed if it tells one, and whether the connection
-- closes after it. An empty line ends it.
unfoldable pub reply_head : ℕ → Option ℕ → Option (List ℕ) → Bool → List ℕ
reply_head status len allow close =
    status_line status ++ type_line len ++ length_line (unwrap_or len 0) ++ allow_line allow ++ close_line close ++ line []

-- a whole reply: its head, and its body if it has one
abbrev pub reply_text : ℕ → Option (List ℕ) → Option (List ℕ) → Bool → List ℕ
reply_text status None allow close = reply_head status None allow close
reply_text status (Some body) allow close = reply_head status (Some (length body)) allow close ++ body

-- a text in quotes
abbrev pub quoted : List ℕ → List ℕ
quoted text = 34 ∷ text ++ 34 ∷ []

-- the object with the one key `fault`
abbrev pub fault_object : List ℕ → List ℕ
fault_object name = codes "{" ++ quoted (codes "fault") ++ codes ":" ++ quoted name ++ codes "}"

-- the body that tells a fault
abbrev pub fault_body : Fault → List ℕ
fault_body Keeper = fault_object (codes "keeper")
fault_body Memory = fault_object (codes "memory")
