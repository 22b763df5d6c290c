-- Why calls that follow one another did not complete.
use Rattle.std.proofs.Common.{◌≡◌, ◌≢◌, ◌+◌, ◌<◌, ◌≤◌, ◌^◌, ◌∙◌, inl, inr, ap, append_assoc, ℕ, get_or, drop, map, length, false, List, [], ◌∷◌, ◌++◌, Result, Ok, Err, IsTrue, IfErr, sym, subst, refl, arith, OnOk, append-nil}
use Rattle.std.proofs.lemmas.Bool.{cases_Bool}
use Rattle.std.proofs.lemmas.List.{drop_more}
use Rattle.std.specs.List.{concat}
use Rattle.sqlite.specs.Store.{Ghosts}
use Rattle.sqlite.specs.Order.{Row}
use Rattle.sqlite.specs.State.{HasCleanDisk, ExecutesInside, Shown}
use Rattle.sqlite.specs.Held.{Held, state}
use Rattle.sqlite.specs.declared.error.Error.{Error}
use Rattle.sqlite.specs.declared.error.Error.TheVariants.{SqliteFailure}
use Rattle.sqlite.specs.declared.error.ErrorCode.TheVariants.{TransactionState}
use Rattle.keeper_sqlite.specs.Halts.{WantsMemory}
use Rattle.keeper_sqlite.specs.Commits.{CommitsNothing}
use Rattle.keeper_sqlite.specs.Kept.{Call, DidAll, part_text, part_values, part_calls, text_calls, season_calls, unanswered_calls, any_row_queries, opening_text, opening_values, PutsText}
use Rattle.keeper_sqlite.specs.Kept.Call.{Runs, Places, Asks, Readies}
use Rattle.keeper_sqlite.specs.Stops.{IsRefusal, RefusesToRun, RefusesToTell, StopsIn, StopsText, LosesRows}
use Rattle.keeper_sqlite.specs.declared.halt.Halt.{Halt}
use Rattle.keeper_sqlite.specs.declared.halt.Halt.TheVariants.{Unfit}
use Rattle.std.specs.Borrow.{MutBor}
use Rattle.keeper_sqlite.specs.Inside.{Acts, Performs}
use Rattle.keeper_sqlite.proofs.CallLemmas.{did_then}
use Rattle.keeper_sqlite.proofs.CommitLemmas.{was_clean}

same_error : {e f : Error} → {T : Type 0} → ◌≡◌ {A = Result T Error} (Err e) (Err f) → e ≡ f
same_error h = cc

-- A statement that gave an error.
pub refused_inside : {S : Type 0} (g : Ghosts S) (text : List ℕ) (values : Row) (old new : Held S) (done : Result ℕ Error) (e : Error) → done ≡ Err e
    → ((state g old).in_transaction ≡ false → (done ≡ Err (SqliteFailure TransactionState)) × (new ≡ old))
    → (HasCleanDisk (state g new) → IsTrue (state g old).in_transaction → ExecutesInside 0 text values (state g old) (state g new) done)
    → HasCleanDisk (state g new) → RefusesToRun g text values e old new
refused_inside g text values old new done e is ended runs clean = elim (cases_Bool (state g old).in_transaction) [
  | inl holds ↦ inl (subst (λ (r : Result ℕ Error). ExecutesInside 0 text values (state g old) (state g new) r) is (runs clean holds))
  | inr fails ↦ inr (fails, same_error (sym is ∙ (ended fails).0), (ended fails).1)
]

module _ {S : Type 0} (g : Ghosts S) where
  -- if these calls stop, so do these with more after them
  pub stops_more : (one two : List Call) (halt : Halt) (old new : Held S) → StopsIn g one halt old new → StopsIn g (one ++ two) halt old new
  stops_more [] two halt old new s = absurd s
  stops_more (call ∷ one) two halt old new (inl s) = inl s
  stops_more (call ∷ one) two halt old new (inr s) = inr (s.0, s.1, stops_more one two halt s.0 new s.2)

  -- and these with more before them, which were made
  pub stops_then : (one two : List Call) (halt : Halt) (old mid new : Held S) → DidAll g one old mid → StopsIn g two halt mid new → StopsIn g (one ++ two) halt old new
  stops_then [] two halt old mid new did s = subst (λ (h : Held S). StopsIn g two halt h new) (sym did) s
  stops_then (call ∷ one) two halt old mid new did s = inr (did.0, did.1, stops_then one two halt did.0 mid new did.2 s)

  -- calls that were made, and then these
  pub performs_then : (one two : List Call) (old mid new : MutBor (Held S)) (r : Result (Unit {0}) Halt) → CommitsNothing (state g mid.now) (state g new.now) → (HasCleanDisk (state g mid.now) → DidAll g one old.now mid.now)
      → Performs g two mid new r → Performs g (one ++ two) old new r
  performs_then one two old mid new (Ok none) nothing did acts =
      record { done = λ clean. did_then g one two old.now mid.now new.now (did (was_clean nothing clean)) (acts.done clean); lost = λ _. tt }
  performs_then one two old mid new (Err halt) nothing did acts =
      record { done = λ _. tt; lost = λ clean. stops_then one two halt old.now mid.now new.now (did (was_clean nothing clean)) (acts.lost clean) }

  -- a statement that was made ready, and then its calls
  pub ready_then : (text got : List ℕ) (calls : List ℕ → List Call) (old mid new : MutBor (Held S)) (r : Result (Unit {0}) Halt) → CommitsNothing (state g mid.now) (state g new.now)
      → (HasCleanDisk (state g mid.now) → (got ≡ text) × DidAll g (Readies text ∷ []) old.now mid.now) → Performs g (calls got) mid new r → Performs g (Readies text ∷ calls text) old new r
  ready_then text got calls old mid new r nothing ready acts =
      performs_then (Readies text ∷ []) (calls text) old mid new r nothing (λ was. (ready was).1) (record {
        done = λ clean. subst (λ (t : List ℕ). OnOk r (DidAll g (calls t) mid.now new.now)) (ready (was_clean nothing clean)).0 (acts.done clean);
        lost = λ clean. subst (λ (t : List ℕ). IfErr r (λ halt. StopsIn g (calls t) halt mid.now new.now)) (ready (was_clean nothing clean)).0 (acts.lost clean);
      })

  -- it changed another number of rows than one
  pub lost_place : (text : List ℕ) (values : Row) (old new : Held S) (done : Result ℕ Error) (count : ℕ) → done ≡ Ok count → count ≢ 1
      → ((state g old).in_transaction ≡ false → (done ≡ Err (SqliteFailure TransactionState)) × (new ≡ old))
      → (HasCleanDisk (state g new) → IsTrue (state g old).in_transaction → ExecutesInside 0 text values (state g old) (state g new) done) → HasCleanDisk (state g new) → StopsIn g (Places text values ∷ []) Unfit old new
  lost_place text values old new (Err e) count is other ended runs clean = absurd (let f = is in cc)
  lost_place text values old new (Ok n) count is other ended runs clean =
      let inside : IsTrue (state g old).in_transaction = elim (cases_Bool (state g old).in_transaction) [
        | inl holds ↦ holds
        | inr fails ↦ absurd (let e = (ended fails).0 in cc)
      ] in
      let same : n ≡ count = (let e = is in cc) in
      inl (inr (refl, n, (λ one. other (sym same ∙ one)), (runs clean inside).0))

  -- a query that was refused, or returned rows when none was expected
  pub lost_told : (text : List ℕ) (rows : List Row) (old new : Held S) → rows ≢ [] → DidAll g (Asks text rows ∷ []) old new → StopsIn g (Asks text [] ∷ []) Unfit old new
  lost_told text rows old new some did = inl (inr (refl, rows, some, subst (λ (h : Held S). Shown text [] (state g old) (state g h) rows) did.2 did.1))

  -- rows that were returned, and were not read
  pub rows_lost : {T : Type 0} (text : List ℕ) (Amiss : List Row → Type 0) (rows seen : List Row) (old new : Held S) (ended : Result T Halt) → seen ≡ rows → (HasCleanDisk (state g new) → DidAll g (Asks text rows ∷ []) old new)
      → IfErr ended (λ halt. ¬ WantsMemory halt → Amiss seen) → HasCleanDisk (state g new) → IfErr ended (λ halt. LosesRows g text Amiss halt old new)
  rows_lost text Amiss rows seen old new (Ok value) is asked err clean = tt
  rows_lost text Amiss rows seen old new (Err halt) is asked err clean = inr (rows, asked clean, λ enough. subst (λ (r : List Row). Amiss r) is (err enough))

  -- ---- the calls for a list

  -- if the calls that are left stop, all do
  abbrev pub LeavesStop : List Call → List Call → Held S → Held S → Type 0
  LeavesStop all left old mid = HasCleanDisk (state g mid) → (halt : Halt) (last : Held S) → StopsIn g left halt mid last → StopsIn g all halt old last

  pub stop_fewer : (all left : List Call) (call : Call) (old mid next : Held S) → CommitsNothing (state g mid) (state g next) → LeavesStop all (call ∷ left) old mid → (HasCleanDisk (state g next) → DidAll g (call ∷ []) mid next)
      → LeavesStop all left old next
  stop_fewer all left call old mid next nothing leaves made clean halt last s =
      let was = was_clean nothing clean in
      leaves was halt last (stops_then (call ∷ []) left halt mid next last (made clean) s)

  one_left : {A : Type 0} (f : A → Call) (all : List A) (i : ℕ) (d : A) (old mid : Held S) → i < length all → LeavesStop (map f all) (map f (drop i all)) old mid → LeavesStop (map f all) (f (get_or all i d) ∷ map f (drop (i + 1) all)) old mid
  one_left {A} f all i d old mid within = subst (λ (left : List A). LeavesStop (map f all) (map f left) old mid) (drop_more all i d within)

  pub one_stop : {A : Type 0} (f : A → Call) (all : List A) (i : ℕ) (d : A) (old mid next : Held S) → i < length all → CommitsNothing (state g mid) (state g next) → LeavesStop (map f all) (map f (drop i all)) old mid
      → (HasCleanDisk (state g next) → DidAll g (f (get_or all i d) ∷ []) mid next) → LeavesStop (map f all) (map f (drop (i + 1) all)) old next
  one_stop f all i d old mid next within nothing leaves made = stop_fewer (map f all) (map f (drop (i + 1) all)) (f (get_or all i d)) old mid next nothing (one_left f all i d old mid within leaves) made

  pub one_lost : {A : Type 0} (f : A → Call) (all : List A) (i : ℕ) (d : A) (halt : Halt) (old mid new : Held S) → i < length all → CommitsNothing (state g mid) (state g new) → LeavesStop (map f all) (map f (drop i all)) old mid
      → HasCleanDisk (state g new) → StopsIn g (f (get_or all i d) ∷ []) halt mid new → StopsIn g (map f all) halt old new
  one_lost f all i d halt old mid new within nothing leaves clean s =
      let was = was_clean nothing clean in
      one_left f all i d old mid within leaves was halt new (stops_more (f (get_or all i d) ∷ []) (map f (drop (i + 1) all)) halt mid new s)

  -- ---- parts

  abbrev pub LeavesStopText : List ℕ → List ℕ → ℕ → List ℕ → Held S → Held S → Type 0
  LeavesStopText insert text number rest old mid =
      HasCleanDisk (state g mid) → (halt : Halt) (last : Held S) → StopsText g (part_calls insert number) number rest halt mid last → StopsText g (part_calls insert 0) 0 text halt old last

  joined_more : (rest part after : List ℕ) (parts : List (List ℕ)) (left : List ℕ) → rest ≡ part ++ after → concat parts ++ left ≡ after → concat (part ∷ parts) ++ left ≡ rest
  joined_more rest part after parts left cut joined = append_assoc part (concat parts) left ∙ (ap (λ (l : List ℕ). part ++ l) joined ∙ sym cut)

  pub part_stop : (insert text rest part after : List ℕ) (number next : ℕ) (old mid new : Held S) → rest ≡ part ++ after → length part ≤ 65536 → next ≡ number + 1
      → CommitsNothing (state g mid) (state g new) → LeavesStopText insert text number rest old mid → (HasCleanDisk (state g new) → DidAll g (Runs insert (part_values number part) ∷ []) mid new)
      → LeavesStopText insert text next after old new
  part_stop insert text rest part after number next old mid new cut short is nothing leaves made clean halt last s =
      let was = was_clean nothing clean in
      leaves was halt last (record {
        parts = part ∷ s.parts;
        rest = s.rest;
        joined = joined_more rest part after s.parts s.rest cut s.joined;
        short = (short, s.short);
        stops = elim s.stops [
          | inl stop ↦ inl (stops_then (Runs insert (part_values number part) ∷ []) (part_calls insert (number + 1) s.parts) halt mid new last (made clean) (subst (λ (n : ℕ). StopsIn g (part_calls insert n s.parts) halt new last) is stop))
          | inr many ↦ inr (many.0, (let m = many.1 in omega (arith, m, is)))
        ];
      })

  pub part_lost : (insert text rest part after : List ℕ) (number : ℕ) (halt : Halt) (old mid new : Held S) → rest ≡ part ++ after → length part ≤ 65536 → CommitsNothing (state g mid) (state g new)
      → LeavesStopText insert text number rest old mid → HasCleanDisk (state g new) → StopsIn g (Runs insert (part_values number part) ∷ []) halt mid new → StopsText g (part_calls insert 0) 0 text halt old new
  part_lost insert text rest part after number halt old mid new cut short nothing leaves clean s =
      let was = was_clean nothing clean in
      leaves was halt new (record { parts = part ∷ []; rest = after; joined = joined_more rest part after [] after cut refl; short = (short, tt); stops = inl s })

  pub parts_many : (insert text rest part after : List ℕ) (number : ℕ) (halt : Halt) (old mid new : Held S) → rest ≡ part ++ after → length part ≤ 65536 → CommitsNothing (state g mid) (state g new)
      → LeavesStopText insert text number rest old mid → HasCleanDisk (state g new) → (halt ≡ Unfit) × (number + 1 ≡ 2 ^ 32) → StopsText g (part_calls insert 0) 0 text halt old new
  parts_many insert text rest part after number halt old mid new cut short nothing leaves clean many =
      let was = was_clean nothing clean in
      leaves was halt new (record { parts = part ∷ []; rest = after; joined = joined_more rest part after [] after cut refl; short = (short, tt); stops = inr many })

  -- the statement for the parts was not made ready
  pub text_unready : (text : List ℕ) (halt : Halt) (old new : Held S) → StopsIn g (Readies part_text ∷ []) halt old new → StopsText g text_calls 0 text halt old new
  text_unready text halt old new s =
      record { parts = []; rest = text; joined = refl; short = tt; stops = inl (stops_more (Readies part_text ∷ []) (part_calls part_text 0 []) halt old new s) }

  -- it was made ready, and then the parts
  pub text_acts : (got text : List ℕ) (old mid new : MutBor (Held S)) (r : Result (Unit {0}) Halt) → CommitsNothing (state g mid.now) (state g new.now)
      → (HasCleanDisk (state g mid.now) → (got ≡ part_text) × DidAll g (Readies part_text ∷ []) old.now mid.now) → Acts g (λ _. PutsText g (part_calls got 0) text) (StopsText g (part_calls got 0) 0 text) mid new r
      → Acts g (λ _. PutsText g text_calls text) (StopsText g text_calls 0 text) old new r
  text_acts got text old mid new (Ok none) nothing ready acts = record {
    done = λ clean.
        let first = ready (was_clean nothing clean) in
        let put : PutsText g (part_calls part_text 0) text mid.now new.now = subst (λ (t : List ℕ). PutsText g (part_calls t 0) text mid.now new.now) first.0 (acts.done clean) in
        record { parts = put.parts; joined = put.joined; short = put.short; done = did_then g (Readies part_text ∷ []) (part_calls part_text 0 put.parts) old.now mid.now new.now first.1 put.done };
    lost = λ _. tt;
  }
  text_acts got text old mid new (Err halt) nothing ready acts = record {
    done = λ _. tt;
    lost = λ clean.
        let first = ready (was_clean nothing clean) in
        let s = acts.lost clean in
        record {
          parts = s.parts;
          rest = s.rest;
          joined = s.joined;
          short = s.short;
          stops = elim s.stops [
            | inl stop ↦ inl (stops_then (Readies part_text ∷ []) (part_calls part_text 0 s.parts) halt old.now mid.now new.now first.1
                (subst (λ (t : List ℕ). StopsIn g (part_calls t 0 s.parts) halt mid.now new.now) first.0 stop))
            | inr many ↦ inr many
          ];
        };
  }

  -- ---- a season: the test of the tables, the parts and the row of the phase

  abbrev opening : List Call
  opening = Places opening_text opening_values ∷ []

  pub season_unasked : (text : List ℕ) (halt : Halt) (old new : Held S) → StopsIn g (unanswered_calls any_row_queries) halt old new → StopsText g season_calls 0 text halt old new
  season_unasked text halt old new s = record { parts = []; rest = text; joined = refl; short = tt; stops = inl (stops_more (unanswered_calls any_row_queries) (text_calls [] ++ opening) halt old new s) }

  pub season_stops : (text : List ℕ) (halt : Halt) (old mid new : Held S) → CommitsNothing (state g mid) (state g new) → (HasCleanDisk (state g mid) → DidAll g (unanswered_calls any_row_queries) old mid)
      → HasCleanDisk (state g new) → StopsText g text_calls 0 text halt mid new → StopsText g season_calls 0 text halt old new
  season_stops text halt old mid new nothing asked clean s = record {
    parts = s.parts;
    rest = s.rest;
    joined = s.joined;
    short = s.short;
    stops = elim s.stops [
      | inl stop ↦ inl (stops_then (unanswered_calls any_row_queries) (text_calls s.parts ++ opening) halt old mid new (asked (was_clean nothing clean)) (stops_more (text_calls s.parts) opening halt mid new stop))
      | inr many ↦ inr many
    ];
  }

  pub season_acts : (text : List ℕ) (old one two new : MutBor (Held S)) (r : Result (Unit {0}) Halt) → CommitsNothing (state g one.now) (state g two.now) → CommitsNothing (state g two.now) (state g new.now)
      → (HasCleanDisk (state g one.now) → DidAll g (unanswered_calls any_row_queries) old.now one.now) → (HasCleanDisk (state g two.now) → PutsText g text_calls text one.now two.now) → Performs g opening two new r
      → Acts g (λ _. PutsText g season_calls text) (StopsText g season_calls 0 text) old new r
  season_acts text old one two new (Ok none) first next asked put acts = record {
    done = λ clean.
        let was = was_clean next clean in
        let it = put was in
        record {
          parts = it.parts;
          joined = it.joined;
          short = it.short;
          done = did_then g (unanswered_calls any_row_queries) (text_calls it.parts ++ opening) old.now one.now new.now (asked (was_clean first was))
              (did_then g (text_calls it.parts) opening one.now two.now new.now it.done (acts.done clean));
        };
    lost = λ _. tt;
  }
  season_acts text old one two new (Err halt) first next asked put acts = record {
    done = λ _. tt;
    lost = λ clean.
        let was = was_clean next clean in
        let it = put was in
        record {
          parts = it.parts;
          rest = [];
          joined = append-nil (concat it.parts) ∙ it.joined;
          short = it.short;
          stops = inl (stops_then (unanswered_calls any_row_queries) (text_calls it.parts ++ opening) halt old.now one.now new.now (asked (was_clean first was))
              (stops_then (text_calls it.parts) opening halt one.now two.now new.now it.done (acts.lost clean)));
        };
  }
