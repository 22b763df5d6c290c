-- Workers who hold a pass to a desk.
use Rattle.std.specs.Prelude.{◌*◌, ℕ, Bool}
use Rattle.office_base.specs.Limits.{most_connections}
use Rattle.office_base.specs.declared.booked.Booked.{Ghosts}
use Rattle.office_desk.specs.declared.keeps.Keeps.{Ghosts as Kept}
use Rattle.http_sessions.specs.Limits.{most_messages}
use Rattle.office_http.specs.declared.hands.DeskWorker.{DeskWorker}
use Rattle.office_http.specs.Knowing.{known_of}
use Rattle.door_crews.specs.Workers.{Worker}

-- turns of a worker: two for each message of each connection of its door
abbrev pub most_turns : ℕ
most_turns = 2 * (most_messages * most_connections)

abbrev pub worker_of : {V I : Type 0} {k : Kept V I} {g : Ghosts V I} → DeskWorker V I k g → Worker I
worker_of hand = record { knows = known_of hand.pass; failed = hand.failed }
