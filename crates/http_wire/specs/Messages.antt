-- What bytes begin with: a whole message, what is refused at once, or the beginning of a message.
use Rattle.std.specs.Prelude.{◌≡◌, ◌<◌, ◌≤◌, ◌+◌, ◌⊎◌, ℕ, List, ◌++◌, length, take, drop, map, None, Some, Ok, Err}
use Rattle.http_wire.specs.Limits.{most_head_bytes}
use Rattle.httparse.specs.Grammar.{RequestHead, ReadsRequest}
use Rattle.httparse.specs.Spans.{name_and_value}
use Rattle.http_wire.specs.Fields.{Pair, body_len}
use Rattle.http_wire.specs.HeadEnds.{head_len}

-- A message: what its head asks for, its version 1.minor, its fields in their order, and its body.
pub record Message : Type 0 where
  pub method : List ℕ
  pub target : List ℕ
  pub minor : ℕ
  pub fields : List Pair
  pub body : List ℕ

-- the names of a head's fields, with their values without the blanks around them
abbrev pub pairs : RequestHead → List Pair
pairs head = map name_and_value head.fields

-- the message of a head and a body
abbrev pub message_of : RequestHead → List ℕ → Message
message_of head body = record { method = head.method; target = head.target; minor = head.minor; fields = pairs head; body = body }

-- The bytes are read as that head: they begin with it by the grammar of `httparse`, and it has at most 64 fields.
pub record Reads (bytes : List ℕ) (head : RequestHead) : Type 0 where
  pub rest : List ℕ
  pub reads : ReadsRequest bytes head rest
  pub few : length head.fields ≤ 64

-- the head of a message ends after so many bytes, of the 8,192 that it may have
abbrev pub HeadEnds : List ℕ → ℕ → Type 0
HeadEnds bytes end = head_len (take most_head_bytes bytes) ≡ Some end

-- the bytes begin with that head, of so many bytes, and a body of so many bytes follows it
pub record Begins (bytes : List ℕ) (end : ℕ) (head : RequestHead) (body : ℕ) : Type 0 where
  pub ends : HeadEnds bytes end
  pub reads : Reads (take end bytes) head
  pub framed : body_len head.method (pairs head) ≡ Ok body

-- the first so many bytes are that message
pub record IsWhole (bytes : List ℕ) (message : Message) (len : ℕ) : Type 0 where
  pub end : ℕ
  pub head : RequestHead
  pub body : ℕ
  pub begins : Begins bytes end head body
  pub come : end + body ≤ length bytes
  pub told : message ≡ message_of head (take body (drop end bytes))
  pub len_is : len ≡ end + body

-- 8,192 bytes came, and no head ended within them
abbrev pub IsTooLong : List ℕ → Type 0
IsTooLong bytes = (most_head_bytes ≤ length bytes) × (head_len (take most_head_bytes bytes) ≡ None)

-- a head ended, and it is none by the grammar, or it has more than 64 fields
abbrev pub IsNoHead : List ℕ → Type 0
IsNoHead bytes = (end : ℕ) × HeadEnds bytes end × ((head : RequestHead) → Reads (take end bytes) head → ⊥)

-- a head came, and with this status it is refused for what it says of its body
abbrev pub IsUnframed : List ℕ → ℕ → Type 0
IsUnframed bytes status = (end : ℕ) × (head : RequestHead) × HeadEnds bytes end × Reads (take end bytes) head × (body_len head.method (pairs head) ≡ Err status)

-- a head ended, and with this status it is refused
abbrev pub IsRefusedHead : List ℕ → ℕ → Type 0
IsRefusedHead bytes status = ((status ≡ 400) × IsNoHead bytes) ⊎ IsUnframed bytes status

-- the bytes are refused with this status, whatever follows
abbrev pub IsRefused : List ℕ → ℕ → Type 0
IsRefused bytes status = ((status ≡ 431) × IsTooLong bytes) ⊎ IsRefusedHead bytes status

-- no head has ended yet, and one still can
abbrev pub HasNoHeadYet : List ℕ → Type 0
HasNoHeadYet bytes = (length bytes < most_head_bytes) × (head_len bytes ≡ None)

-- the head came, and its body has not come whole
abbrev pub LacksBody : List ℕ → Type 0
LacksBody bytes = (end : ℕ) × (head : RequestHead) × (body : ℕ) × Begins bytes end head body × (length bytes < end + body)

-- more bytes are wanted: none came, or a message has begun
abbrev pub IsUnfinished : List ℕ → Type 0
IsUnfinished bytes = HasNoHeadYet bytes ⊎ LacksBody bytes

-- a message has begun and is not whole
abbrev pub IsTorn : List ℕ → Type 0
IsTorn bytes = (0 < length bytes) × IsUnfinished bytes

-- What bytes come to.
pub data Answer : Type 0 where
  whole : (message : Message) (len : ℕ) → Answer
  refused : (status : ℕ) → Answer
  unfinished : Answer

-- the bytes come to this
abbrev pub ComesTo : List ℕ → Answer → Type 0
ComesTo bytes (whole message len) = IsWhole bytes message len
ComesTo bytes (refused status) = IsRefused bytes status
ComesTo bytes unfinished = IsUnfinished bytes

-- the bytes come to this, and stay so whatever follows, unless more is wanted
abbrev pub Stays : List ℕ → Answer → Type 0
Stays bytes (whole message len) = (more : List ℕ) → IsWhole (bytes ++ more) message len
Stays bytes (refused status) = (more : List ℕ) → IsRefused (bytes ++ more) status
Stays bytes unfinished = IsUnfinished bytes
