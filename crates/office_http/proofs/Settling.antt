-- What is kept of an office stays kept, and the last number of an office that is settled with each ask.
use Rattle.std.proofs.Common.{◌≡◌, ◌≤◌, ◌+◌, ◌⊎◌, ℕ, Bool, true, false, List, [], ◌∷◌, ◌++◌, length, take, take_all, length-append, Option, Some, None, Result, Ok, Err, inl, inr, refl, sym, ap, subst, ◌∙◌, arith, append-nil}
use Rattle.std.proofs.lemmas.List.{take-append-le}
use Rattle.std.specs.Prelude.{IsOk, IsErr}
use Rattle.office_base.specs.Outside.{Rose}
use Rattle.kept_rows.specs.Tables.{Tables, AreTold, IsTold}
use Rattle.kept_rows.proofs.Unchanged.{told_same}
use Rattle.keeper_mem.specs.Keeper.{KeeperView}
use Rattle.office_moves.specs.Facts.{SeasonFacts}
use Rattle.office_moves.specs.Stands.{Stand}
use Rattle.office_moves.specs.declared.moves.Entry.{Entry}
use Rattle.round_cut.specs.Office.{OfficeView}
use Rattle.round_cut.proofs.Standing.{stand_told, told_on, was_told}
use Rattle.office_http.specs.Keeping.{CountsKept, HasSettled, IsKept, IsWhole, MayWait, SettlesOffice, StandAfter}
use Rattle.office_http.specs.Asking.{AsksOffice, HasAnswered, IsAnswerOf, request_of}
use Rattle.office_http.specs.Bodies.{AreBodies}
use Rattle.office_http.specs.declared.bodies.Bodies.{Bodies}
use Rattle.office_moves.specs.Decided.{decided}
use Rattle.office_moves.specs.History.{grown, newly}
use Rattle.office_moves.specs.State.{State}
use Rattle.office_moves.specs.declared.moves.Act.{Act}
use Rattle.office_http.proofs.Numbers.{last_after}
use Rattle.office_asks.specs.declared.ask.Ask.{Ask}
use Rattle.office_asks.specs.declared.ask.Request.{Request}
use Rattle.office_moves.specs.Moves.{IsMove}
use Rattle.proceedings.specs.Proceeding.{last_of}
use Rattle.http_sessions.specs.declared.counter.Answered.{Answered}
use Rattle.http_wire.specs.declared.faults.Fault.{Fault}
use Rattle.http_wire.specs.declared.faults.Fault.TheVariants.{Keeper, Memory}

module _ {K : Type 0} (seen : K → KeeperView) where
  counted : (begun : Tables) (office : OfficeView K) (before : ℕ) (settled : Bool) (kept : ℕ) → CountsKept seen office before settled kept → before ≤ length office.entries
      → ((seen office.keeper).settled ≡ false → StandAfter office.season (take before office.entries) (seen office.keeper).kept ⊎ ((before ≡ 0) × AreTold begun (seen office.keeper).kept))
      → IsKept begun office.season office.entries kept (seen office.keeper)
  counted begun office before true kept counts within waits =
      let all = counts.all refl in
      record {
        within = (let is = all.0 in omega (arith, is));
        whole = λ nothing. all.0;
        tables = inl (subst (λ es. StandAfter office.season es (seen office.keeper).kept) (sym (ap (λ n. take n office.entries) all.0 ∙ take_all (length office.entries) office.entries (omega arith))) all.1);
      }
  counted begun office before false kept counts within waits =
      let same = counts.waits refl in
      record {
        within = omega (arith, same, within);
        whole = λ nothing. (let is = counts.is in absurd cc);
        tables = subst (λ n. StandAfter office.season (take n office.entries) (seen office.keeper).kept ⊎ ((n ≡ 0) × AreTold begun (seen office.keeper).kept)) (sym same) (waits (sym counts.is));
      }

  -- at the beginning
  pub kept_first : (begun : Tables) (office : OfficeView K) (settled : Bool) (kept : ℕ) → begun ≡ (seen office.keeper).kept → CountsKept seen office 0 settled kept
      → IsKept begun office.season office.entries kept (seen office.keeper)
  kept_first begun office settled kept same counts =
      counted begun office 0 settled kept counts (omega arith) (λ waits. inr (refl, subst (λ t. AreTold begun t) same (told_same begun)))

  -- after entries were added or not, and rows kept or not
  pub kept_later : (begun : Tables) (old new : OfficeView K) (before : ℕ) (settled : Bool) (kept : ℕ) (more : List Entry) → IsKept begun old.season old.entries before (seen old.keeper)
      → new.season ≡ old.season → new.entries ≡ old.entries ++ more → ((seen new.keeper).settled ≡ false → AreTold (seen old.keeper).kept (seen new.keeper).kept)
      → CountsKept seen new before settled kept → IsKept begun new.season new.entries kept (seen new.keeper)
  kept_later begun old new before settled kept more was season grows stays counts =
      let front : take before new.entries ≡ take before old.entries = ap (λ es. take before es) grows ∙ take-append-le before old.entries more was.within in
      counted begun new before settled kept counts longer (λ waits. go front (stays waits) was.tables)
    where
      longer : before ≤ length new.entries
      longer = let within = was.within in let sum = ap length grows ∙ length-append old.entries more in omega (arith, within, sum)

      go : take before new.entries ≡ take before old.entries → AreTold (seen old.keeper).kept (seen new.keeper).kept
          → StandAfter old.season (take before old.entries) (seen old.keeper).kept ⊎ ((before ≡ 0) × AreTold begun (seen old.keeper).kept)
          → StandAfter new.season (take before new.entries) (seen new.keeper).kept ⊎ ((before ≡ 0) × AreTold begun (seen new.keeper).kept)
      go front told (inl at) = inl (subst (λ f. StandAfter f (take before new.entries) (seen new.keeper).kept) (sym season)
          (subst (λ es. StandAfter old.season es (seen new.keeper).kept) (sym front) (at.0, at.1, stand_told old.season at.0 (seen old.keeper).kept (seen new.keeper).kept told at.2)))
      go front told (inr none) = inr (none.0, told_on begun (seen old.keeper).kept (seen new.keeper).kept none.1 told)

  more_kept : (begun : Tables) (old new : OfficeView K) (before : ℕ) (settled : Bool) (kept : ℕ) (more : List Entry) → IsKept begun old.season old.entries before (seen old.keeper)
      → new.entries ≡ old.entries ++ more → CountsKept seen new before settled kept → before ≤ kept
  more_kept begun old new before true kept more was grows counts =
      let within = was.within in let sum = ap length grows ∙ length-append old.entries more in let all = (counts.all refl).0 in omega (arith, within, sum, all)
  more_kept begun old new before false kept more was grows counts = let same = counts.waits refl in omega (arith, same)

  grows_by : (entries after : List Entry) (number : ℕ) (act : Option Act) → after ≡ grown entries number act → (more : List Entry) × (after ≡ entries ++ more)
  grows_by entries after number None e = ([], e ∙ sym (append-nil entries))
  grows_by entries after number (Some act) e = (record { number = number; act = act } ∷ [], e)

  asked_more : (number : ℕ) (token : Option (List ℕ)) (ask : Ask) (result : Result Answered Fault) (old new : OfficeView K) → AsksOffice seen number token ask result old new
      → (more : List Entry) × (new.entries ≡ old.entries ++ more)
  asked_more number token ask (Ok answered) old new asked = grows_by old.entries new.entries number (newly old.state.now (decided old.season old.state (request_of old.season token ask))) asked.entries
  asked_more number token ask (Err fault) old new asked = ([], asked.entries ∙ sym (append-nil old.entries))

  asked_season : (number : ℕ) (token : Option (List ℕ)) (ask : Ask) (result : Result Answered Fault) (old new : OfficeView K) → AsksOffice seen number token ask result old new → new.season ≡ old.season
  asked_season number token ask (Ok answered) old new asked = asked.season
  asked_season number token ask (Err fault) old new asked = asked.season

  asked_stays : (number : ℕ) (token : Option (List ℕ)) (ask : Ask) (result : Result Answered Fault) (old new : OfficeView K) → AsksOffice seen number token ask result old new
      → (seen new.keeper).settled ≡ false → AreTold (seen old.keeper).kept (seen new.keeper).kept
  asked_stays number token ask (Ok answered) old new asked = asked.stays
  asked_stays number token ask (Err fault) old new asked = asked.stays

  -- after an ask no fewer entries are kept, and they stay kept
  pub kept_asked : (begun : Tables) (number : ℕ) (token : Option (List ℕ)) (ask : Ask) (result : Result Answered Fault) (old new : OfficeView K) (before : ℕ) (settled : Bool) (kept : ℕ)
      → IsKept begun old.season old.entries before (seen old.keeper) → AsksOffice seen number token ask result old new → CountsKept seen new before settled kept
      → IsKept begun new.season new.entries kept (seen new.keeper) × (before ≤ kept)
  kept_asked begun number token ask result old new before settled kept was asked counts =
      let more = asked_more number token ask result old new asked in (
        kept_later begun old new before settled kept more.0 was (asked_season number token ask result old new asked) more.1 (asked_stays number token ask result old new asked) counts,
        more_kept begun old new before settled kept more.0 was more.1 counts,
      )

  -- what settling leaves, whatever came of it
  pub settled_so : (result : Result (Unit {0}) Fault) (old new : OfficeView K) → SettlesOffice seen result old new → (failed : Type 0) × HasSettled seen failed old new
  settled_so (Ok done) old new settled = (⊥, settled.0)
  settled_so (Err Keeper) old new settled = (Unit {0}, settled.0)
  settled_so (Err Memory) old new settled = (⊥, settled.0)

  -- after settling no fewer entries are kept, and they stay kept
  pub kept_settled : (begun : Tables) (result : Result (Unit {0}) Fault) (old new : OfficeView K) (before : ℕ) (settled : Bool) (kept : ℕ)
      → IsKept begun old.season old.entries before (seen old.keeper) → SettlesOffice seen result old new → CountsKept seen new before settled kept
      → IsKept begun new.season new.entries kept (seen new.keeper) × (before ≤ kept)
  kept_settled begun result old new before settled kept was settles counts =
      let one = (settled_so result old new settles).1 in
      let same = one.entries ∙ sym (append-nil old.entries) in (
        kept_later begun old new before settled kept [] was one.season same one.stays counts,
        more_kept begun old new before settled kept [] was same counts,
      )

  -- what was visible before, and which bodies were kept, after settling
  pub bodies_settled : (result : Result (Unit {0}) Fault) (old new : OfficeView K) (bodies : Bodies) → SettlesOffice seen result old new → AreBodies old.season old.state bodies → AreBodies new.season new.state bodies
  bodies_settled result old new bodies settles are =
      let one = (settled_so result old new settles).1 in
      subst (λ (f : SeasonFacts). AreBodies f new.state bodies) (sym one.season) (subst (λ (s : State). AreBodies old.season s bodies) (sym one.state) are)

  pub told_settled : (result : Result (Unit {0}) Fault) (old new : OfficeView K) → SettlesOffice seen result old new → IsTold (seen new.keeper).tables → IsTold (seen old.keeper).tables
  told_settled result old new settles told = was_told (seen old.keeper).tables (seen new.keeper).tables (settled_so result old new settles).1.told told

  -- all is kept once nothing waits
  pub all_kept : (result : Result (Unit {0}) Fault) (old new : OfficeView K) (before : ℕ) (settled : Bool) (kept : ℕ) → SettlesOffice seen result old new → CountsKept seen new before settled kept
      → IsOk result → IsWhole seen new kept
  all_kept (Ok done) old new before settled kept settles counts ok = counts.all (counts.is ∙ settles.1)
  all_kept (Err fault) old new before settled kept settles counts ok = absurd cc

  -- what could not be kept waited before
  pub waited_so : (result : Result (Unit {0}) Fault) (old new : OfficeView K) → SettlesOffice seen result old new → IsErr result → MayWait seen
  waited_so (Ok done) old new settles err = absurd cc
  waited_so (Err Keeper) old new settles err = (old.keeper, settles.1)
  waited_so (Err Memory) old new settles err = (old.keeper, settles.1)

  -- a fault of the keeper is told only if it failed
  pub blamed_so : (result : Result (Unit {0}) Fault) (old new : OfficeView K) (first : ℕ) → SettlesOffice seen result old new → first ≤ (seen old.keeper).faults → result ≡ Err Keeper
      → Rose first (seen new.keeper).faults
  blamed_so result old new first settles le is =
      let rose = (subst (λ r. SettlesOffice seen r old new) is settles).0.cause tt in
      omega (arith, rose, le)

  -- ---- an office that is settled with each ask

  -- what was answered stays answered once it is settled
  pub answered_settled : (number : ℕ) (request : Request) (answered : Answered) (old mid new : OfficeView K) → HasAnswered seen number request answered old mid → HasSettled seen ⊥ mid new
      → (seen new.keeper).settled ≡ true → HasAnswered seen number request answered old new
  answered_settled number request answered old mid new a h nothing =
      let stands : Stand mid.season mid.state (seen new.keeper).tables = stand_told mid.season mid.state (seen mid.keeper).tables (seen new.keeper).tables h.told a.stands in
      record {
        reply = a.reply;
        history = a.history;
        moves = subst (λ s. IsMove old.season old.state request a.reply s) (sym h.state) a.moves;
        entries = h.entries ∙ a.entries;
        season = h.season ∙ a.season;
        stands = subst (λ f. Stand f new.state (seen new.keeper).tables) (sym h.season) (subst (λ s. Stand mid.season s (seen new.keeper).tables) (sym h.state) stands);
        told_before = λ told. a.told_before (was_told (seen mid.keeper).tables (seen new.keeper).tables h.told told);
        answer = subst (λ s. IsAnswerOf old.season s a.reply answered) (sym h.state) a.answer;
        stays = λ waits. absurd cc;
        room = h.room ∙ a.room;
        steady = h.steady (λ none. none) ∙ a.steady;
      }

  -- an ask by its token and the number after the last one
  pub asked_then : (number last : ℕ) (token said : Option (List ℕ)) (ask : Ask) (answered : Answered) (old mid : OfficeView K) → number ≡ last → token ≡ said
      → AsksOffice seen (number + 1) said ask (Ok answered) old mid → AsksOffice seen (last + 1) token ask (Ok answered) old mid
  asked_then number last token said ask answered old mid same spelt asked =
      subst (λ n. AsksOffice seen (n + 1) token ask (Ok answered) old mid) same (subst (λ t. AsksOffice seen (number + 1) t ask (Ok answered) old mid) (sym spelt) asked)

  -- an ask under the next number raises the last number by one at most, and settling does not
  pub last_then : (number : ℕ) (token : Option (List ℕ)) (ask : Ask) (answered : Answered) (result : Result (Unit {0}) Fault) (old mid new : OfficeView K) → AsksOffice seen number token ask (Ok answered) old mid
      → SettlesOffice seen result mid new → number ≡ last_of old.entries + 1 → last_of new.entries ≤ last_of old.entries + 1
  last_then number token ask answered result old mid new asked settles next =
      subst (λ es. last_of es ≤ last_of old.entries + 1) (sym (settled_so result mid new settles).1.entries) (last_after seen number token ask (Ok answered) old mid asked next)
