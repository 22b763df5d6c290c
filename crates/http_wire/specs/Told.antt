-- What the values of the code represent.
use Rattle.std.specs.Prelude.{◌≡◌, List, map}
use Rattle.httparse.specs.Grammar.{RequestHead}
use Rattle.httparse.specs.Spans.{header_bytes}
use Rattle.http_wire.specs.Fields.{Pair}
use Rattle.http_wire.specs.Messages.{Message, pairs, Answer, whole, refused, unfinished}
use Rattle.http_wire.specs.declared.fields.Fields.{Fields}
use Rattle.http_wire.specs.declared.message.Head.{Head}
use Rattle.http_wire.specs.declared.message.Arrived.{Arrived}
use Rattle.http_wire.specs.declared.message.Arrived.TheVariants.{More, Refused, Whole}
use Rattle.http_wire.specs.declared.message.HeldMessage.{HeldMessage}

-- the names and values of fields
abbrev pub told_fields : Fields → List Pair
told_fields fields = map (header_bytes fields.head.now) fields.spans.now

-- what was read is that head
pub record IsHeadOf (read : Head) (head : RequestHead) : Type 0 where
  pub method : read.method.now ≡ head.method
  pub target : read.target.now ≡ head.target
  pub minor : read.minor ≡ head.minor
  pub fields : told_fields read.fields ≡ pairs head

-- the message in the held bytes
abbrev pub told_message : HeldMessage → Message
told_message held = record { method = held.method.now; target = held.target.now; minor = held.minor; fields = told_fields held.fields; body = held.body.now }

-- what the call answered
abbrev pub told : Arrived → Answer
told More = unfinished
told (Refused status) = refused status
told (Whole held) = whole (told_message held) held.len
