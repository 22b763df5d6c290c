-- What the values of the code mean.
use Rattle.std.specs.Prelude.{option_map}
use Rattle.http_wire.specs.Messages.{Message}
use Rattle.http_wire.specs.Methods.{method_name}
use Rattle.http_asks.specs.Verdicts.{Verdict, refuses, asks, token_of}
use Rattle.http_asks.specs.declared.judging.Judged.{Judged}
use Rattle.http_asks.specs.declared.judging.Judged.TheVariants.{Refused, Asked}

-- what the call answered for a message: what is asked is asked with its token
abbrev pub told : Message → Judged → Verdict
told message (Refused status allow) = refuses status (option_map method_name allow)
told message (Asked ask) = asks (token_of message) ask
