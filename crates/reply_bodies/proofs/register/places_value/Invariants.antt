use Rattle.std.proofs.Common.{◌≡◌, map, take}
use Rattle.serde_json.specs.View.{view}
use Rattle.reply_bodies.specs.Bodies.{place_data}
use Rattle.reply_bodies.proofs.register.places_value.Given as goal

abbrev pub invariant-loop-place : goal.invariant-loop-place
invariant-loop-place l = map view l.values.items ≡ map place_data (take l.place-index l.places)
