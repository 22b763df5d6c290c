-- Why a call on the database did not complete, and why several calls together did not.
use Rattle.std.specs.Prelude.{◌≡◌, ◌≢◌, ◌+◌, ◌^◌, ◌≤◌, ◌⊎◌, IsTrue, ℕ, true, false, List, [], ◌∷◌, ◌++◌, length, Option, None, Some, Ok, Err}
use Rattle.std.specs.List.{AllByRecursion, AllZip, concat}
use Rattle.sqlite.specs.Store.{Ghosts}
use Rattle.sqlite.specs.Order.{Row}
use Rattle.sqlite.specs.State.{Executes, ExecutesInside, IsNotRun, Shown, FailsToQuery, IsTooLate}
use Rattle.sqlite.specs.Steps.{FailsToCommit}
use Rattle.sqlite.specs.declared.error.Error.{Error}
use Rattle.sqlite.specs.declared.error.Error.TheVariants.{SqliteFailure}
use Rattle.sqlite.specs.declared.error.ErrorCode.TheVariants.{TransactionState}
use Rattle.sqlite.specs.Held.{Held, state}
use Rattle.kept_rows.specs.declared.rows.AnswerRow.{AnswerRow}
use Rattle.kept_rows.specs.declared.rows.AllotRow.{AllotRow}
use Rattle.kept_rows.specs.declared.rows.RaiseRow.{RaiseRow}
use Rattle.keeper_mem.specs.declared.keeper.KeepFault.{KeepFault}
use Rattle.keeper_sqlite.specs.Columns.{IsPartRow, IsAnswerRow, IsRaiseRow, IsAllotRow, TellsPhase, TellsKey}
use Rattle.keeper_sqlite.specs.Rising.{rise_after_key}
use Rattle.keeper_sqlite.specs.Halts.{WantsMemory, keep_fault}
use Rattle.keeper_sqlite.specs.declared.rising.Key.{Key}
use Rattle.keeper_sqlite.specs.declared.halt.Halt.{Halt}
use Rattle.keeper_sqlite.specs.declared.halt.Halt.TheVariants.{Refused, InTransaction, Unfit}
use Rattle.keeper_sqlite.specs.declared.transactions.Change.{Change}
use Rattle.keeper_sqlite.specs.declared.transactions.Change.TheVariants.{Answer, Raise, Rows, Tables, Season, Cut}
use Rattle.keeper_sqlite.specs.Kept.{Call, Did, DidAll, TellsText, TellsRecords, TellsPhaseOf, ToldPhase, AreAbove, Looks, answer_text, answer_values, raise_text, raise_values, phase_query, key_query, text_query, answers_query, raises_query, allots_query, plain_calls, table_texts, put_calls, seat_calls, season_calls}
use Rattle.keeper_sqlite.specs.Kept.Call.{Runs, Places, Asks, Readies}

-- the database gave this error, and it is reported
abbrev pub IsRefusal : (Error → Type 0) → Halt → Type 0
IsRefusal Refuses halt = (error : Error) × (halt ≡ Refused error) × Refuses error

-- the fault that a keeper reports of a transaction that was rolled back, and why it was
abbrev pub FailsBy : (Halt → Type 0) → KeepFault → Type 0
FailsBy Why fault = (halt : Halt) × (fault ≡ keep_fault halt) × Why halt

-- somebody else is in a transaction
abbrev pub IsBusy : {S : Type 0} → Halt → Held S → Type 0
IsBusy halt old = (halt ≡ InTransaction) × IsTrue old.in_transaction

module _ {S : Type 0} (g : Ghosts S) where
  -- a statement of this text with these values gave this error, or the transaction had ended before
  abbrev pub RefusesToRun : List ℕ → Row → Error → Held S → Held S → Type 0
  RefusesToRun text values error old new =
      ExecutesInside 0 text values (state g old) (state g new) (Err error) ⊎ ((old.in_transaction ≡ false) × (error ≡ SqliteFailure TransactionState) × (new ≡ old))

  -- a query of this text, without values, gave this error
  abbrev pub RefusesToTell : List ℕ → Error → Held S → Held S → Type 0
  RefusesToTell text error old new = FailsToQuery text [] (state g old) (state g new) error ⊎ IsTooLate text [] (state g old) (state g new) error

  -- This call did not complete: the database refused it, it had to change one row and changed another number, or it
  -- returned rows other than these.
  abbrev pub Stops : Call → Halt → Held S → Held S → Type 0
  Stops (Runs text values) halt old new = IsRefusal (λ error. RefusesToRun text values error old new) halt
  Stops (Places text values) halt old new =
      IsRefusal (λ error. RefusesToRun text values error old new) halt ⊎ ((halt ≡ Unfit) × (count : ℕ) × (count ≢ 1) × Executes text values (state g old) (state g new) (Ok count))
  Stops (Asks text rows) halt old new =
      IsRefusal (λ error. RefusesToTell text error old new) halt ⊎ ((halt ≡ Unfit) × (told : List Row) × (told ≢ rows) × Shown text [] (state g old) (state g new) told)
  Stops (Readies text) halt old new = IsRefusal (λ error. (values : Row) → IsNotRun (state g old) (state g new) text values error) halt

  -- one of these calls did not complete, after those before it were made
  abbrev pub StopsIn : List Call → Halt → Held S → Held S → Type 0
  StopsIn [] halt old new = ⊥
  StopsIn (call ∷ calls) halt old new = Stops call halt old new ⊎ ((mid : Held S) × Did g call old mid × StopsIn calls halt mid new)

  -- The text was cut into parts of at most 65,536 bytes up to some point,
  -- and one of the calls for these did not complete;
  -- or they are as many as numbers of 32 bits can count, from this one on.
  pub record StopsText (calls : List (List ℕ) → List Call) (number : ℕ) (text : List ℕ) (halt : Halt) (old new : Held S) : Type 0 where
    pub parts : List (List ℕ)
    pub rest : List ℕ
    pub joined : concat parts ++ rest ≡ text
    pub short : AllByRecursion (λ part. length part ≤ 65536) parts
    pub stops : StopsIn (calls parts) halt old new ⊎ ((halt ≡ Unfit) × (number + length parts ≡ 2 ^ 32))

  -- the query was refused, or it returned rows for which this holds, unless memory ran out to read them
  abbrev pub LosesRows : List ℕ → (List Row → Type 0) → Halt → Held S → Held S → Type 0
  LosesRows text Amiss halt old new =
      IsRefusal (λ error. RefusesToTell text error old new) halt ⊎ ((rows : List Row) × DidAll g (Asks text rows ∷ []) old new × (¬ WantsMemory halt → Amiss rows))

  -- no phase was shown
  abbrev pub LosesPhase : Halt → Held S → Held S → Type 0
  LosesPhase = LosesRows phase_query (λ rows. (found : Option ℕ) → ¬ TellsPhase rows found)

  -- no last key was shown
  abbrev pub LosesKey : Halt → Held S → Held S → Type 0
  LosesKey = LosesRows key_query (λ rows. (found : Option Key) → ¬ TellsKey rows found)

  -- no records of this kind were shown
  abbrev pub LosesRecords : {R : Type 0} → (Row → R → Type 0) → List ℕ → Halt → Held S → Held S → Type 0
  LosesRecords {R} stands_in text = LosesRows text (λ rows. (held : List R) → ¬ AllZip stands_in rows held)

  -- ---- why a change was not made

  -- no number of cuts was shown, or there is no season
  abbrev pub LosesMade : Halt → Held S → Held S → Type 0
  LosesMade halt old new = LosesPhase halt old new ⊎ ((halt ≡ Unfit) × TellsPhaseOf g None old new)

  -- these rows do not rise above the last key that was returned
  pub record AreBelow (rows : List AllotRow) (old new : Held S) : Type 0 where
    pub told : List Row
    pub last : Option Key
    pub is : TellsKey told last
    pub falls : rise_after_key last rows ≡ false
    pub asked : DidAll g (Asks key_query told ∷ []) old new

  abbrev pub LosesOrder : List AllotRow → Halt → Held S → Held S → Type 0
  LosesOrder rows halt old new = LosesKey halt old new ⊎ ((halt ≡ Unfit) × AreBelow rows old new)

  -- no number of cuts comes after these, or one of the calls for the seats did not complete
  abbrev pub LosesSeats : ℕ → List AllotRow → Halt → Held S → Held S → Type 0
  LosesSeats made rows halt old new = ((halt ≡ Unfit) × (made ≡ 65535) × (new ≡ old)) ⊎ StopsIn (seat_calls made rows) halt old new

  -- the phase, the order or the seats: the first of them that failed
  abbrev pub LosesCut : List AllotRow → Halt → Held S → Held S → Type 0
  LosesCut rows halt old new =
      LosesMade halt old new
      ⊎ ((made : ℕ) × (asked : Held S) × ToldPhase g made old asked × (LosesOrder rows halt asked new ⊎ ((tested : Held S) × AreAbove g rows asked tested × LosesSeats made rows halt tested new)))

  -- why what a change runs did not complete
  abbrev pub Breaks : Change → Halt → Held S → Held S → Type 0
  Breaks (Answer row) = StopsIn (Runs answer_text (answer_values row) ∷ [])
  Breaks (Raise row) = StopsIn (Runs raise_text (raise_values row) ∷ [])
  Breaks (Rows rows) = StopsIn (put_calls rows.now)
  Breaks Tables = StopsIn (plain_calls table_texts)
  Breaks (Cut rows) = LosesCut rows.now
  Breaks (Season text) = StopsText season_calls 0 text.now

  -- Somebody else is in a transaction; or one began, this did not complete in it, and it was rolled back;
  -- or it was done, and the database refused the commit.
  abbrev pub Loses : (Halt → Held S → Held S → Type 0) → (Held S → Held S → Type 0) → Halt → Held S → Held S → Type 0
  Loses Break Done halt old new =
      IsBusy halt old
      ⊎ (Looks g (Break halt) old new ⊎ IsRefusal (λ error. (last : Held S) × Done (record old { in_transaction = true }) last × FailsToCommit (state g last) (state g new) error) halt)

  -- ---- why nothing was loaded

  -- the text, the answers, the raises or the seats: the first of them that was not shown
  abbrev pub LosesTables : Halt → Held S → Held S → Type 0
  LosesTables halt old new =
      LosesRecords IsPartRow text_query halt old new
      ⊎ ((text : List ℕ) × (one : Held S) × TellsText g text old one
      × (LosesRecords IsAnswerRow answers_query halt one new
      ⊎ ((answers : List AnswerRow) × (two : Held S) × TellsRecords g IsAnswerRow answers_query answers one two
      × (LosesRecords IsRaiseRow raises_query halt two new
      ⊎ ((raises : List RaiseRow) × (three : Held S) × TellsRecords g IsRaiseRow raises_query raises two three × LosesRecords IsAllotRow allots_query halt three new)))))

  -- the phase was not shown, or it showed a season and one of its tables was not shown
  abbrev pub LosesKept : Halt → Held S → Held S → Type 0
  LosesKept halt old new = LosesPhase halt old new ⊎ ((cuts : ℕ) × (mid : Held S) × TellsPhaseOf g (Some cuts) old mid × LosesTables halt mid new)
