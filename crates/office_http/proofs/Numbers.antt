-- The last number of entries.
use Rattle.std.proofs.Common.{◌≡◌, ◌≤◌, ◌+◌, ℕ, List, [], ◌∷◌, ◌++◌, Option, Some, None, Result, Ok, Err, map, refl, sym, ap, subst, arith}
use Rattle.office_base.specs.Numbered.{last_from}
use Rattle.office_asks.specs.declared.ask.Ask.{Ask}
use Rattle.keeper_mem.specs.Keeper.{KeeperView}
use Rattle.office_moves.specs.Decided.{decided}
use Rattle.office_moves.specs.History.{grown, newly}
use Rattle.office_moves.specs.declared.moves.Act.{Act}
use Rattle.office_moves.specs.declared.moves.Entry.{Entry}
use Rattle.proceedings.specs.Proceeding.{last_of}
use Rattle.round_cut.specs.Office.{OfficeView}
use Rattle.http_wire.specs.declared.faults.Fault.{Fault}
use Rattle.http_sessions.specs.declared.counter.Answered.{Answered}
use Rattle.office_http.specs.Asking.{AsksOffice, request_of}

last_from_more : (before : ℕ) (entries : List Entry) (entry : Entry) → last_from before (map (λ e. e.number) (entries ++ entry ∷ [])) ≡ entry.number
last_from_more before [] entry = refl
last_from_more before (e ∷ entries) entry = last_from_more e.number entries entry

-- an act that is put at the end has the last number
last_of_grown : (entries : List Entry) (number : ℕ) (act : Option Act) → number ≡ last_of entries + 1 → last_of (grown entries number act) ≤ last_of entries + 1
last_of_grown entries number None e = omega arith
last_of_grown entries number (Some act) e =
    let last = last_from_more 0 entries (record { number = number; act = act }) in
    omega (arith, last, e)

module _ {K : Type 0} (seen : K → KeeperView) where
  -- an ask under the next number raises the last number by one at most
  pub last_after : (number : ℕ) (token : Option (List ℕ)) (ask : Ask) (result : Result Answered Fault) (old new : OfficeView K) → AsksOffice seen number token ask result old new
      → number ≡ last_of old.entries + 1 → last_of new.entries ≤ last_of old.entries + 1
  last_after number token ask (Ok answered) old new asked next =
      subst (λ entries. last_of entries ≤ last_of old.entries + 1) (sym asked.entries)
      (last_of_grown old.entries number (newly old.state.now (decided old.season old.state (request_of old.season token ask))) next)
  last_after number token ask (Err fault) old new asked next =
      let same = ap last_of asked.entries in
      omega (arith, same)
