-- The doors that the words of a command name.
use Rattle.std.specs.Prelude.{ℕ, ◌*◌, List, [], Option, Some, None, replicate}
use Rattle.command_words.specs.declared.words.Service.{Service}

-- one door for each worker, each with as many connections to come as a worker takes; none if no office is served
abbrev pub doors_named : Option Service → List ℕ
doors_named (Some service) = replicate service.workers service.conns
doors_named None = []

-- how many connections these take in all
abbrev pub connections_named : Option Service → ℕ
connections_named (Some service) = service.workers * service.conns
connections_named None = 0
