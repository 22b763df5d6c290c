-- The words that spell a command.
use Rattle.std.specs.Prelude.{◌≡◌, ◌≢◌, ◌<◌, ◌≤◌, ◌^◌, ℕ, true, List, [], ◌∷◌, Option, Some, None, codes}
use Rattle.std.specs.Fmt.{decimal}
use Rattle.office_base.specs.Limits.{most_connections, most_doors, most_generated}
use Rattle.command_words.specs.Parts.{is_plain}
use Rattle.command_words.specs.declared.words.Command.{Command}
use Rattle.command_words.specs.declared.words.Command.TheVariants.{Step, Check, Run, Resume, Units, Special, SpecialLists, Serve, Audit, AuditBest, Generate}
use Rattle.command_words.specs.declared.words.OutKind.{OutKind}
use Rattle.command_words.specs.declared.words.OutKind.TheVariants as out_kind
use Rattle.command_words.specs.declared.words.Service.{Service}
use Rattle.command_words.specs.declared.words.Start.{Start}
use Rattle.command_words.specs.declared.words.Start.TheVariants.{New, Kept}
use Rattle.command_words.specs.declared.words.Store.{Store}
use Rattle.command_words.specs.declared.words.Store.TheVariants.{Memory, File}

-- the word for where the records are kept
abbrev pub word_of : Store → List ℕ
word_of Memory = codes "memory"
word_of (File name) = name

-- the name of a file is a word that is not empty and does not begin with `-`, and is not the word for memory
abbrev pub IsNamed : Store → Type 0
IsNamed Memory = Unit {0}
IsNamed (File name) = (is_plain name ≡ true) × (name ≢ codes "memory")

-- the word for what is written of a generated season
abbrev pub word_out : OutKind → List ℕ
word_out out_kind.Text = codes "text"
word_out out_kind.Run = codes "run"

-- the word for how a served office begins
abbrev pub word_start : Start → List ℕ
word_start New = codes "new"
word_start Kept = codes "kept"

-- where a command keeps its records, if it keeps any
abbrev pub store_of : Command → Option Store
store_of Step = None
store_of Check = None
store_of (Run store) = Some store
store_of (Resume store) = Some store
store_of (Units store) = Some store
store_of (Special store) = Some store
store_of (SpecialLists store) = Some store
store_of (Serve conns workers start port store) = Some store
store_of Audit = None
store_of AuditBest = None
store_of (Generate n seed out) = None

-- how a command has an office served, if it serves one
abbrev pub service_of : Command → Option Service
service_of Step = None
service_of Check = None
service_of (Run store) = None
service_of (Resume store) = None
service_of (Units store) = None
service_of (Special store) = None
service_of (SpecialLists store) = None
service_of (Serve conns workers start port store) = Some (record { conns = conns; workers = workers; start = start; port = port })
service_of Audit = None
service_of AuditBest = None
service_of (Generate n seed out) = None

-- the name of the file that a store is, if it is one
abbrev pub file_of : Store → Option (List ℕ)
file_of Memory = None
file_of (File name) = Some name

-- the words of a command
abbrev pub words_of : Command → List (List ℕ)
words_of Step = codes "step" ∷ []
words_of Check = codes "check" ∷ []
words_of (Run store) = codes "run" ∷ word_of store ∷ []
words_of (Resume store) = codes "resume" ∷ word_of store ∷ []
words_of (Units store) = codes "units" ∷ word_of store ∷ []
words_of (Special store) = codes "special" ∷ word_of store ∷ []
words_of (SpecialLists store) = codes "special" ∷ codes "lists" ∷ word_of store ∷ []
words_of (Serve conns workers start port store) = codes "serve" ∷ decimal conns ∷ decimal workers ∷ word_start start ∷ decimal port ∷ word_of store ∷ []
words_of Audit = codes "audit" ∷ []
words_of AuditBest = codes "audit" ∷ codes "best" ∷ []
words_of (Generate n seed out) = codes "generate" ∷ decimal n ∷ decimal seed ∷ word_out out ∷ []

-- the numbers of a command are in their ranges, and its file has a name
abbrev pub IsInRange : Command → Type 0
IsInRange Step = Unit {0}
IsInRange Check = Unit {0}
IsInRange (Run store) = IsNamed store
IsInRange (Resume store) = IsNamed store
IsInRange (Units store) = IsNamed store
IsInRange (Special store) = IsNamed store
IsInRange (SpecialLists store) = IsNamed store
IsInRange (Serve conns workers start port store) = ((1 ≤ conns) × (conns ≤ most_connections)) × ((1 ≤ workers) × (workers ≤ most_doors)) × ((1 ≤ port) × (port < 2 ^ 16)) × IsNamed store
IsInRange Audit = Unit {0}
IsInRange AuditBest = Unit {0}
IsInRange (Generate n seed out) = (1 ≤ n) × (n ≤ most_generated) × (seed < 2 ^ 32)

-- the words after `serve`, without the store, are those of this service, whose numbers are in their ranges
pub record AreServiceWords (service : Service) (conns workers start port : List ℕ) : Type 0 where
  pub conns_are : conns ≡ decimal service.conns
  pub conns_range : (1 ≤ service.conns) × (service.conns ≤ most_connections)
  pub workers_are : workers ≡ decimal service.workers
  pub workers_range : (1 ≤ service.workers) × (service.workers ≤ most_doors)
  pub start_is : start ≡ word_start service.start
  pub port_is : port ≡ decimal service.port
  pub port_range : (1 ≤ service.port) × (service.port < 2 ^ 16)

-- the words spell the command
abbrev pub Spell : List (List ℕ) → Command → Type 0
Spell words command = (words ≡ words_of command) × IsInRange command

-- the words spell no command
abbrev pub SpellNothing : List (List ℕ) → Type 0
SpellNothing words = (command : Command) → Spell words command → ⊥
