use Rattle.std.proofs.Common.{ℕ, Option, Some, None, arith, ap, sym, subst, ◌∙◌}
use Rattle.std.specs.Prelude.{IsSome, option_map}
use Rattle.round_options.specs.Options.{seek_after}
use Rattle.cut_arrays.proofs.PlaceLemmas.{seated_there, seeks_more, seeks_whole}
use Rattle.cut_arrays.proofs.seeking.seeks_after.Goals as goal

mapped_some : {X Y : Type 0} (f : X → Y) (o : Option X) → IsSome o → IsSome (option_map f o)
mapped_some f None is = is
mapped_some f (Some x) is = is

pub next_seek-requires : goal.next_seek-requires
next_seek-requires c = λ keeps.
    subst (λ (place : Option ℕ). IsSome place) (sym c.seat_place-place.ensures) (mapped_some _ c.round_seat-seat.result (
    seated_there _ _ _ _ _ _ _ c.requires.seated (omega (arith, c.loop-at-test.true, c.requires.left)) c.stand-standing.ensures c.round_seat-seat.ensures keeps
    ))

pub loop-at-preserved : goal.loop-at-preserved
loop-at-preserved c =
    seeks_more _ _ _ _ _ _ _ _ _ _ _ _ _ _ c.loop-at-test.true c.requires.left c.stand-standing.ensures c.round_seat-seat.ensures c.list_near.ensures.list
    (c.next_seek.ensures ∙ ap (seek_after c.stand-standing.result) c.seat_place-place.ensures) c.loop-at.invariant
    c.in_ok-push.ensures.items

pub returns : goal.returns
returns c = c.from_vec.ensures ∙ seeks_whole _ _ _ _ _ c.loop-at.at _ (omega (arith, c.loop-at-test.false)) c.requires.left c.requires.table c.requires.seats c.loop-at.invariant
