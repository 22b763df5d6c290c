-- The verdict on a message: something that it asks, or a status that refuses it.
use Rattle.std.specs.Prelude.{ℕ, ◌&&◌, Bool, false, List, Option, Some, None, length, nat_lt, bytes_eq, codes, if◌then◌else◌}
use Rattle.office_asks.specs.declared.ask.Ask.{Ask}
use Rattle.http_wire.specs.Fields.{Pair, first_value}
use Rattle.http_wire.specs.Messages.{Message}
use Rattle.http_wire.specs.Methods.{method_name}
use Rattle.http_asks.specs.Bodies.{ask_of}
use Rattle.http_asks.specs.Pages.{method_of, page_of, takes_body}
use Rattle.http_asks.specs.declared.pages.Page.{Page}

-- The verdict on a message: a status, with the method that its path has if this is another,
-- or what it asks and with which token.
pub data Verdict : Type 0 where
  refuses : (status : ℕ) (allow : Option (List ℕ)) → Verdict
  asks : (token : Option (List ℕ)) (ask : Ask) → Verdict

-- the token that fields have: the value of the first of that name
abbrev pub token_in : List Pair → Option (List ℕ)
token_in fields = first_value (codes "x-office-token") fields

-- the token of a message
abbrev pub token_of : Message → Option (List ℕ)
token_of message = token_in message.fields

-- what is asked with that token; 400 if the body is not what the page needs
abbrev pub verdict_asked : Option (List ℕ) → Option Ask → Verdict
verdict_asked token None = refuses 400 None
verdict_asked token (Some ask) = asks token ask

-- the message has the method of the page
abbrev pub has_method : Page → Message → Bool
has_method page message = bytes_eq message.method (method_name (method_of page))

-- the verdict on a message to that page: 405 with the page's method if it has another
abbrev pub verdict_at : Option Page → Message → Verdict
verdict_at None message = refuses 404 None
verdict_at (Some page) message =
    if has_method page message then verdict_asked (token_of message) (ask_of page message.body) else refuses 405 (Some (method_name (method_of page)))

-- the verdict on a message: 404 if its target names no page
abbrev pub verdict_of : Message → Verdict
verdict_of message = verdict_at (page_of message.target) message

-- the page reads that body, which is not empty
abbrev pub needs_memory : Page → List ℕ → Bool
needs_memory page body = takes_body page && nat_lt 0 (length body)

-- the body of a message to that page is read
abbrev pub reads_body_at : Option Page → Message → Bool
reads_body_at None message = false
reads_body_at (Some page) message = has_method page message && needs_memory page message.body

-- the verdict on a message depends on its body, which is not empty: only then may memory run out
abbrev pub reads_body : Message → Bool
reads_body message = reads_body_at (page_of message.target) message
