use Rattle.std.proofs.Common.{◌≡◌, ◌<◌, drop, length, map, take}
use Rattle.std.specs.List.{AllByRecursion}
use Rattle.serde_json.specs.View.{view}
use Rattle.reply_bodies.specs.Bodies.{code}
use Rattle.reply_bodies.proofs.choices.codes_value.Given as goal

abbrev pub invariant-loop-prog : goal.invariant-loop-prog
invariant-loop-prog l = record {
  so_far : map view l.codes.items ≡ map (λ prog. code l.matrix prog.0) (take l.prog-index l.progs);
  programmes : AllByRecursion (λ prog. prog.0 < length l.matrix.programmes) (drop l.prog-index l.progs);
}
