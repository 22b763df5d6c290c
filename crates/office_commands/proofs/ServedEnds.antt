-- How an office ends that stood at its doors.
use Rattle.std.proofs.Common.{◌≡◌, ◌≢◌, ◌⊎◌, ◌∙◌, inl, inr, ℕ, Bool, true, false, List, Option, Result, Ok, Err, length, refl, sym, subst, ⊎_elim}
use Rattle.std.specs.Prelude.{IfOk, IsOk, IsErr, take}
use Rattle.office_base.specs.FaultLines.{memory_line}
use Rattle.office_base.specs.Outside.{Appends}
use Rattle.kept_rows.specs.Tables.{Tables}
use Rattle.office_moves.specs.Facts.{IsSound, SeasonFacts}
use Rattle.office_moves.specs.History.{IsHistory, Reaches}
use Rattle.office_moves.specs.Promise.{KeepsItsWord}
use Rattle.office_moves.specs.Stands.{Stand}
use Rattle.office_moves.specs.State.{State, opening}
use Rattle.office_moves.specs.declared.moves.Entry.{Entry}
use Rattle.history_laws.specs.Course.{IsCourse}
use Rattle.round_cut.specs.Office.{OfficeView}
use Rattle.command_answers.specs.Writes.{IsTextOut, Writes}
use Rattle.command_answers.specs.declared.status.Status.{Status}
use Rattle.command_answers.specs.declared.status.Status.TheVariants.{Ok as Done, WriteFault, KeeperFault, OutOfMemory, DoorFault}
use Rattle.http_wire.specs.declared.faults.Fault.{Fault}
use Rattle.http_wire.specs.declared.faults.Fault.TheVariants.{Keeper, Memory}
use Rattle.keeper_mem.specs.Keeper.{KeeperView}
use Rattle.command_answers.proofs.Ended.{told_is_written}
use Rattle.door_crews.specs.Ending.{AllEnded, SomeRose}
use Rattle.door_crews.specs.Served.{DoorLooks}
use Rattle.office_http.specs.Keeping.{MayWait, StandAfter}
use Rattle.office_http.specs.Serving.{DoorsServed, Serves}
use Rattle.office_commands.specs.Doors.{Doors, HaveEnded, doors_of}
use Rattle.office_commands.specs.Ending.{end_status, told_status, told_text}
use Rattle.office_commands.specs.Serve.{EndsServed, IsEndText, IsLastText, IsLostText, IsOfficeAfter, IsServedText, served_text}

-- An office keeps its word at the end of its history.
pub office_after : (facts : SeasonFacts) (history : List Entry) (tables : Tables) (state : State) → IsSound facts → IsHistory facts history state → Stand facts state tables
    → ((facts : SeasonFacts) (entries : List Entry) (state : State) → IsSound facts → Reaches facts opening entries state → IsCourse facts state)
    → ((facts : SeasonFacts) (state : State) → IsSound facts → IsCourse facts state → KeepsItsWord facts state) → IsOfficeAfter facts history tables state
office_after facts history tables state sound leads stands course word = record {
  leads = leads;
  promise = word facts state sound (course facts history state sound leads.reached);
  stands = stands;
}

-- the text of the end goes with its status
text_of_end : (facts : SeasonFacts) (history : List Entry) (tables : Tables) (state : State) (failed : Bool) {E : Type 0} (text : Result (List ℕ) E) → IsOfficeAfter facts history tables state
    → IfOk text (λ made. made ≡ served_text facts state (length history) failed) → IsEndText facts history tables failed (told_status failed text) (told_text text)
text_of_end facts history tables state failed (Ok text) after made = (state, after, inl (refl, made))
text_of_end facts history tables state failed (Err none) after made = (state, after, inr (refl, refl))

-- It was written how far an office is.
pub end_is_told : (facts : SeasonFacts) (history : List Entry) (tables : Tables) (state : State) (failed : Bool) {E : Type 0} (text : Result (List ℕ) E) (written now : Option (List ℕ)) (broke : Type 0) (result : Status)
    → IsOfficeAfter facts history tables state → IfOk text (λ made. made ≡ served_text facts state (length history) failed) → IsTextOut (told_status failed text) (told_text text) written now broke result
    → (output : List ℕ) × Appends output written now × Writes (IsEndText facts history tables failed) result output
end_is_told facts history tables state failed text written now broke result after made told =
    told_is_written (IsEndText facts history tables failed) (told_status failed text) result (told_text text) written now broke (text_of_end facts history tables state failed text after made) told

-- what is written of one text is written of another
writes_more : (Is Was : Status → List ℕ → Type 0) (status : Status) (output : List ℕ) → ((status : Status) (text : List ℕ) → Is status text → Was status text) → Writes Is status output → Writes Was status output
writes_more Is Was status output more (inl whole) = inl (more status output whole)
writes_more Is Was status output more (inr cut) = inr (cut.0, (cut.1.0, cut.1.1, cut.1.2, more cut.1.0 cut.1.1 cut.1.3, cut.1.4))

-- An office was served, and what waited at the end was kept or was not.
pub served_ends : (settled : Result (Unit {0}) Fault) (facts other : SeasonFacts) (held history : List Entry) (tables : Tables) (doors : Doors) (failed : Bool) (written now : Option (List ℕ)) (result : Status)
    → other ≡ facts → (IsOk settled → doors.served facts held history failed) → (IsErr settled → doors.lost facts held history failed)
    → (output : List ℕ) × Appends output written now × Writes (IsLastText settled other history tables failed) result output
    → (output : List ℕ) × Appends output written now × EndsServed facts held tables doors result output
served_ends (Ok done) facts other held history tables doors failed written now result same served lost end = (
  end.0,
  end.1,
  writes_more (IsEndText facts history tables failed) (IsServedText facts held tables doors) result end.0 (λ status text is. inl (history, failed, served refl, is))
      (subst (λ (f : SeasonFacts). Writes (IsEndText f history tables failed) result end.0) same end.2),
)
served_ends (Err fault) facts other held history tables doors failed written now result same served lost end = (
  end.0,
  end.1,
  writes_more (IsLostText fault) (IsServedText facts held tables doors) result end.0 (λ status text is. inr (inr (history, failed, fault, lost refl, is))) end.2,
)

-- It was written why what waited could not be kept.
pub lost_is_told : (settled : Result (Unit {0}) Fault) (fault : Fault) (facts : SeasonFacts) (history : List Entry) (tables : Tables) (failed : Bool) (written now : Option (List ℕ)) (status : Status)
    → settled ≡ Err fault → (output : List ℕ) × Appends output written now × Writes (IsLostText fault) status output
    → (output : List ℕ) × Appends output written now × Writes (IsLastText settled facts history tables failed) status output
lost_is_told settled fault facts history tables failed written now status is told =
    subst (λ (s : Result (Unit {0}) Fault). (output : List ℕ) × Appends output written now × Writes (IsLastText s facts history tables failed) status output) (sym is) told

-- No office was served, because memory ran out.
pub spared_ends : (facts : SeasonFacts) (held : List Entry) (tables : Tables) (doors : Doors) (state : State) (written now : Option (List ℕ)) (broke : Type 0) (result : Status)
    → IsHistory facts held state → Stand facts state tables → doors.spared → IsTextOut OutOfMemory memory_line written now broke result
    → (output : List ℕ) × Appends output written now × EndsServed facts held tables doors result output
spared_ends facts held tables doors state written now broke result leads stands spared told =
    told_is_written (IsServedText facts held tables doors) OutOfMemory result memory_line written now broke (inr (inl ((state, leads, stands), spared, refl, refl))) told

-- ---- the doors

-- a door failed, or none did and all came to their end
pub have_ended : {D L : Type 0} (of : DoorLooks D L) (failed : Bool) (doors doors' : List D) → (failed ≡ true → SomeRose of.faults doors doors')
    → (failed ≡ false → AllEnded of.faults of.to_come doors doors') → HaveEnded of failed doors doors'
have_ended of true doors doors' rose ended = rose refl
have_ended of false doors doors' rose ended = ended refl

-- what served the doors, by the keeper that is returned
module _ {K D L : Type 0} (seen : K → KeeperView) (of : DoorLooks D L) (before after : OfficeView K) (failed : Bool) (settled : Result (Unit {0}) Fault) (doors doors' : List D) (keeper : K) (same : keeper ≡ after.keeper)
    (serves : Serves seen of before after failed settled doors doors') where
  by_keeper : (kept : ℕ) → DoorsServed before.season (seen before.keeper).holds_room (MayWait seen) kept of before.entries (seen before.keeper).faults doors doors' after.entries (seen after.keeper).faults
      → DoorsServed before.season (seen before.keeper).holds_room (MayWait seen) kept of before.entries (seen before.keeper).faults doors doors' after.entries (seen keeper).faults
  by_keeper kept served =
      subst (λ k. DoorsServed before.season (seen before.keeper).holds_room (MayWait seen) kept of before.entries (seen before.keeper).faults doors doors' after.entries (seen k).faults) (sym same) served

  pub all_served : IsOk settled
      → (doors_of of (seen before.keeper).holds_room (MayWait seen) (seen before.keeper).faults (seen keeper).faults (seen keeper).kept doors doors').served before.season before.entries after.entries failed
  all_served ok = (
    subst (λ n. DoorsServed before.season (seen before.keeper).holds_room (MayWait seen) n of before.entries (seen before.keeper).faults doors doors' after.entries (seen keeper).faults) (serves.whole ok).0
        (by_keeper serves.kept serves.served),
    have_ended of failed doors doors' serves.failed serves.done,
    subst (λ (f : SeasonFacts). StandAfter f after.entries (seen keeper).kept) serves.season (subst (λ k. StandAfter after.season after.entries (seen k).kept) (sym same) (serves.whole ok).1),
  )

  pub part_served : IsErr settled
      → (doors_of of (seen before.keeper).holds_room (MayWait seen) (seen before.keeper).faults (seen keeper).faults (seen keeper).kept doors doors').lost before.season before.entries after.entries failed
  part_served err = (
    serves.kept,
    by_keeper serves.kept serves.served,
    have_ended of failed doors doors' serves.failed serves.done,
    serves.waited err,
    ⊎_elim (λ stands. inl (subst (λ (f : SeasonFacts). StandAfter f (take serves.kept after.entries) (seen keeper).kept) serves.season
        (subst (λ k. StandAfter after.season (take serves.kept after.entries) (seen k).kept) (sym same) stands)))
        (λ none. inr none.0) serves.tables.tables,
  )

-- What the status of a served office reports of its doors and of its keeper.
pub record TellsDoors (settled : Result (Unit {0}) Fault) (failed : Bool) (result : Status) : Type 0 where
  pub own : (result ≡ Done) ⊎ ((result ≡ WriteFault) ⊎ ((result ≡ OutOfMemory) ⊎ ((result ≡ DoorFault) ⊎ (result ≡ KeeperFault))))
  pub broke : result ≡ DoorFault → failed ≡ true
  pub whole : result ≡ Done → failed ≡ false
  pub held : result ≢ DoorFault → result ≢ WriteFault → result ≢ OutOfMemory → result ≢ KeeperFault → failed ≡ false
  pub lost : result ≡ KeeperFault → settled ≡ Err Keeper

pub tells_doors : (settled : Result (Unit {0}) Fault) (failed : Bool) (result : Status) → (result ≡ end_status settled failed) ⊎ ((result ≡ OutOfMemory) ⊎ (result ≡ WriteFault)) → TellsDoors settled failed result
tells_doors (Ok done) true result (inl same) = record {
  own = inr (inr (inr (inl same)));
  broke = λ is. refl;
  whole = λ is. let wrong : Done ≡ DoorFault = sym is ∙ same in absurd (cc wrong);
  held = λ broke wrote short kept. absurd (broke same);
  lost = λ is. let wrong : KeeperFault ≡ DoorFault = sym is ∙ same in absurd (cc wrong);
}
tells_doors (Ok done) false result (inl same) = record {
  own = inl same;
  broke = λ is. let wrong : DoorFault ≡ Done = sym is ∙ same in absurd (cc wrong);
  whole = λ is. refl;
  held = λ broke wrote short kept. refl;
  lost = λ is. let wrong : KeeperFault ≡ Done = sym is ∙ same in absurd (cc wrong);
}
tells_doors (Err Keeper) failed result (inl same) = record {
  own = inr (inr (inr (inr same)));
  broke = λ is. let wrong : DoorFault ≡ KeeperFault = sym is ∙ same in absurd (cc wrong);
  whole = λ is. let wrong : Done ≡ KeeperFault = sym is ∙ same in absurd (cc wrong);
  held = λ broke wrote short kept. absurd (kept same);
  lost = λ is. refl;
}
tells_doors (Err Memory) failed result (inl same) = record {
  own = inr (inr (inl same));
  broke = λ is. let wrong : DoorFault ≡ OutOfMemory = sym is ∙ same in absurd (cc wrong);
  whole = λ is. let wrong : Done ≡ OutOfMemory = sym is ∙ same in absurd (cc wrong);
  held = λ broke wrote short kept. absurd (short same);
  lost = λ is. let wrong : KeeperFault ≡ OutOfMemory = sym is ∙ same in absurd (cc wrong);
}
tells_doors settled failed result (inr (inl same)) = record {
  own = inr (inr (inl same));
  broke = λ is. let wrong : DoorFault ≡ OutOfMemory = sym is ∙ same in absurd (cc wrong);
  whole = λ is. let wrong : Done ≡ OutOfMemory = sym is ∙ same in absurd (cc wrong);
  held = λ broke wrote short kept. absurd (short same);
  lost = λ is. let wrong : KeeperFault ≡ OutOfMemory = sym is ∙ same in absurd (cc wrong);
}
tells_doors settled failed result (inr (inr same)) = record {
  own = inr (inl same);
  broke = λ is. let wrong : DoorFault ≡ WriteFault = sym is ∙ same in absurd (cc wrong);
  whole = λ is. let wrong : Done ≡ WriteFault = sym is ∙ same in absurd (cc wrong);
  held = λ broke wrote short kept. absurd (wrote same);
  lost = λ is. let wrong : KeeperFault ≡ WriteFault = sym is ∙ same in absurd (cc wrong);
}

-- If neither the sink, the keeper nor a door failed, an office is served, or memory ran out.
pub ends_well : (settled : Result (Unit {0}) Fault) (failed : Bool) (result : Status) (wrote lost rose : Type 0) → (result ≡ end_status settled failed) ⊎ ((result ≡ OutOfMemory) ⊎ (result ≡ WriteFault))
    → (result ≡ WriteFault → wrote) → (settled ≡ Err Keeper → lost) → (failed ≡ true → rose) → (wrote → ⊥) → (lost → ⊥) → (rose → ⊥) → (result ≡ Done) ⊎ (result ≡ OutOfMemory)
ends_well (Ok done) true result wrote lost rose (inl same) broke kept failed sink keeper doors = absurd (doors (failed refl))
ends_well (Ok done) false result wrote lost rose (inl same) broke kept failed sink keeper doors = inl same
ends_well (Err Keeper) failing result wrote lost rose (inl same) broke kept failed sink keeper doors = absurd (keeper (kept refl))
ends_well (Err Memory) failing result wrote lost rose (inl same) broke kept failed sink keeper doors = inr same
ends_well settled failing result wrote lost rose (inr (inl short)) broke kept failed sink keeper doors = inr short
ends_well settled failing result wrote lost rose (inr (inr cut)) broke kept failed sink keeper doors = absurd (sink (broke cut))

-- What holds of doors over the keeper of the office holds over the given keeper.
-- The given keeper has as many faults and holds room in the same way.
pub handed_in : {D L : Type 0} (of : DoorLooks D L) (waits : Type 0) (room held_room : Bool) (before held_before after : ℕ) (kept : Tables) (doors doors' : List D) (facts : SeasonFacts) (held : List Entry) (tables : Tables) (written now : Option (List ℕ)) (result : Status)
    → held_room ≡ room → held_before ≡ before → (output : List ℕ) × Appends output written now × EndsServed facts held tables (doors_of of held_room waits held_before after kept doors doors') result output
    → (output : List ℕ) × Appends output written now × EndsServed facts held tables (doors_of of room waits before after kept doors doors') result output
handed_in of waits room held_room before held_before after kept doors doors' facts held tables written now result rooms counts end =
    subst (λ (r : Bool). (output : List ℕ) × Appends output written now × EndsServed facts held tables (doors_of of r waits before after kept doors doors') result output) rooms
    (subst (λ (n : ℕ). (output : List ℕ) × Appends output written now × EndsServed facts held tables (doors_of of held_room waits n after kept doors doors') result output) counts end)

-- The tables represent the same office.
pub stands_at : {K : Type 0} (one other : OfficeView K) (tables : Tables) → one ≡ other → Stand one.season one.state tables → Stand other.season other.state tables
stands_at {K} one other tables same stands = subst (λ (o : OfficeView K). Stand o.season o.state tables) same stands
