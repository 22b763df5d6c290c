use Rattle.std.proofs.Common.{rules}
use Rattle.round_cut.proofs.Blaming.{blames_after, blames_as}
use Rattle.replays.proofs.Resumed.{loaded_told, stand_loaded}
use Rattle.round_cut.proofs.Standing.{told_on}
use Rattle.replays.proofs.resume.resume_or_season.Goals as goal

pub returns-in-Err-take_room-clause-err : goal.returns-in-Err-take_room-clause-err
returns-in-Err-take_room-clause-err g c =
    told_on (g.K.Keeper.seen c.args.keeper).tables (g.K.Keeper.seen c.load_records.new.keeper).tables (g.K.Keeper.seen c.take_room.new.keeper).tables c.load_records.ensures.told c.take_room.ensures.told

pub returns-clause-ok : goal.returns-clause-ok
returns-clause-ok g c =
    let seen = g.K.Keeper.seen in
    let book = c.in-Ok-replay_records.ensures in
    let told = c.take_room.ensures.told in
    let loaded = loaded_told (seen c.load_records.new.keeper).tables (seen c.take_room.new.keeper).tables c.in-Ok.records told c.in-Ok.ensures.loaded in
    let room = blames_as _ ⊥ _ _ (λ same. absurd (cc (c.in_default.is, same))) (λ none. absurd none) c.take_room.ensures.blamed in
    rw c.over.ensures (record {
      resumed = (c.in-Ok.records, loaded, book.led);
      entries = (c.in-Ok.records, loaded, book.entries);
      counted = search rules;
      history = search rules;
      word = search rules;
      still = search rules;
      stands = stand_loaded _ _ (seen c.take_room.new.keeper).tables c.in-Ok.records loaded book.stands;
      told = told_on (seen c.args.keeper).tables (seen c.load_records.new.keeper).tables (seen c.take_room.new.keeper).tables c.load_records.ensures.told told;
      blamed = blames_after _ ⊥ _ _ _ (λ same. absurd (cc (c.in-Ok.is, same))) c.load_records.ensures.blamed room;
      spare = search rules;
    })
