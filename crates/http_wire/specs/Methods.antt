-- The names of methods.
use Rattle.std.specs.Prelude.{ℕ, List, codes}
use Rattle.http_wire.specs.declared.methods.Method.{Method}
use Rattle.http_wire.specs.declared.methods.Method.TheVariants.{Get, Post}

-- the name of a method
abbrev pub method_name : Method → List ℕ
method_name Get = codes "GET"
method_name Post = codes "POST"
