-- The doors that the words name.
use Rattle.std.proofs.Common.{◌≡◌, ◌≤◌, ◌∙◌, inl, inr, ℕ, List, Option, length, map, ap, sym, arith}
use Rattle.std.specs.List.{AllByRecursion}
use Rattle.std.proofs.lemmas.List.{length-map, length-replicate}
use Rattle.command_words.specs.Words.{IsInRange, Spell, service_of}
use Rattle.command_words.specs.declared.words.Command.{Command}
use Rattle.command_words.specs.declared.words.Command.TheVariants.{Serve}
use Rattle.command_words.specs.declared.words.Service.{Service}
use Rattle.system_edge.specs.Counts.{DoorCounts}
use Rattle.office_commands.specs.Named.{doors_named}
use Rattle.allocation_cli.specs.Named.{AreDoorsFor, AreNamed}
use Rattle.allocation_cli.proofs.Rows.{none_suit, row_suits}

-- the doors of a command in its ranges are few, and each has few connections to come
command_suits : {L : Type 0} (command : Command) (doors : List (DoorCounts L)) → IsInRange command → map (λ door. door.left) doors ≡ doors_named (service_of command)
    → (length doors ≤ 64) × AllByRecursion (λ door. door.left ≤ 100000) doors
command_suits (Serve conns workers start port store) doors range are =
    let count = sym (length-map doors (λ door. door.left)) ∙ ap (λ (row : List ℕ). length row) are ∙ length-replicate workers conns in
    (omega (arith, count, range.1.1), row_suits workers conns doors are range.0.1)
command_suits other doors range are = none_suit doors are

-- So are the doors of the service that words name,
pub doors_suit : {L : Type 0} (words : List (List ℕ)) (file : Option (List ℕ)) (service : Option Service) (doors : List (DoorCounts L)) → AreNamed words file service
    → map (λ door. door.left) doors ≡ doors_named service → (length doors ≤ 64) × AllByRecursion (λ door. door.left ≤ 100000) doors
doors_suit words file service doors (inl (command, spelled, at, is)) are = command_suits command doors spelled.1 (are ∙ ap doors_named is)
doors_suit words file service doors (inr (nothing, at, none)) are = none_suit doors (are ∙ ap doors_named none)

-- and they are the doors for these words.
pub doors_for : ((words : List (List ℕ)) (command other : Command) → Spell words command → Spell words other → command ≡ other) → (words : List (List ℕ)) (file : Option (List ℕ)) (service : Option Service)
    (coming : List ℕ) → AreNamed words file service → coming ≡ doors_named service → AreDoorsFor words coming
doors_for one words file service coming (inl (command, spelled, at, is)) are other spells = are ∙ ap doors_named (is ∙ ap service_of (one words command other spelled spells))
doors_for one words file service coming (inr (nothing, at, none)) are other spells = absurd (nothing other spells)
