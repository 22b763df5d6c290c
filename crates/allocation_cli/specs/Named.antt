-- What the words of the program name.
use Rattle.std.specs.Prelude.{◌≡◌, ◌⊎◌, ◌+◌, ℕ, List, Option, None, option_and_then, sum}
use Rattle.command_words.specs.Words.{Spell, SpellNothing, file_of, service_of, store_of}
use Rattle.command_words.specs.declared.words.Command.{Command}
use Rattle.command_words.specs.declared.words.Service.{Service}
use Rattle.office_commands.specs.Named.{connections_named, doors_named}
use Rattle.office_commands.specs.Program.{Serves}

-- the name of the file in which a command keeps its records, if it keeps them in a file
abbrev pub file_named : Command → Option (List ℕ)
file_named command = option_and_then file_of (store_of command)

-- the words spell a command, and these are its file and its service; or they spell none, and there is neither
abbrev pub AreNamed : List (List ℕ) → Option (List ℕ) → Option Service → Type 0
AreNamed words file service = ((command : Command) × Spell words command × (file ≡ file_named command) × (service ≡ service_of command))
    ⊎ (SpellNothing words × (file ≡ None) × (service ≡ None))

-- if the words spell a command, the doors have as many connections to come as its words say
abbrev pub AreDoorsFor : List (List ℕ) → List ℕ → Type 0
AreDoorsFor words coming = (command : Command) → Spell words command → coming ≡ doors_named (service_of command)

-- if the words have an office served, as many connections as they name were taken in all
abbrev pub HaveTaken : List (List ℕ) → List ℕ → List ℕ → Type 0
HaveTaken words coming still_coming = (command : Command) → Spell words command → Serves command → sum coming ≡ connections_named (service_of command) + sum still_coming
