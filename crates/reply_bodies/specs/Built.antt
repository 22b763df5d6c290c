-- Which bodies are built as objects first.
use Rattle.office_moves.specs.declared.moves.Reply.{Reply}
use Rattle.office_moves.specs.declared.moves.Reply.TheVariants.{Noted, SeatIs, StateIs}

-- the object of the reply is built before its text
abbrev pub IsBuilt : Reply → Type 0
IsBuilt (Noted cand window turn choice) = ⊥
IsBuilt (SeatIs cand round standing seat) = ⊥
IsBuilt (StateIs now rounds published) = ⊥
IsBuilt _ = Unit {0}
