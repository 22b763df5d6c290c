-- A run continues with one request at its end, and a prefix of a run is a run.
use Rattle.std.proofs.Common.{[], ◌∷◌, ◌++◌, refl, sym, ap, subst, ◌∙◌, append_assoc, append-nil}
use Rattle.office_moves.specs.Facts.{SeasonFacts}
use Rattle.office_moves.specs.State.{State}
use Rattle.office_moves.specs.Moves.{IsMove}
use Rattle.season_commands.specs.Laws.{GoesOn, PrefixIsARun}
use Rattle.shown_replies.specs.Shown.{reply_bytes}

pub goes_on : (facts : SeasonFacts) → GoesOn facts
goes_on facts old mid new [] request reply output before moves =
    let P : State → Type 0 = λ s. IsMove facts s request reply new in
    (reply, new, [], subst P before.1 moves, ap (λ z. z ++ reply_bytes facts new reply) before.0 ∙ sym (append-nil (reply_bytes facts new reply)), (refl, refl))
goes_on facts old mid new (r ∷ requests) request reply output before moves = (
  before.0,
  before.1,
  before.2 ++ reply_bytes facts new reply,
  before.3,
  ap (λ z. z ++ reply_bytes facts new reply) before.4 ∙ append_assoc (reply_bytes facts before.1 before.0) before.2 (reply_bytes facts new reply),
  goes_on facts before.1 mid new requests request reply before.2 before.5 moves,
)

pub prefix_is_a_run : (facts : SeasonFacts) → PrefixIsARun facts
prefix_is_a_run facts old new [] more output run = record { mid = old; some = []; rest = output; before = (refl, refl); after = run; whole = refl }
prefix_is_a_run facts old new (r ∷ requests) more output run =
    let split = prefix_is_a_run facts run.1 new requests more run.2 run.5 in
    record {
      mid = split.mid;
      some = reply_bytes facts run.1 run.0 ++ split.some;
      rest = split.rest;
      before = (run.0, run.1, split.some, run.3, refl, split.before);
      after = split.after;
      whole = run.4 ∙ (ap (λ z. reply_bytes facts run.1 run.0 ++ z) split.whole ∙ sym (append_assoc (reply_bytes facts run.1 run.0) split.some split.rest));
    }
