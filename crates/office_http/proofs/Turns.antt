-- What a turn in which an ask was put to the office, or in which it was settled, leaves of the office, and of what the pass knows.
use Rattle.std.proofs.Common.{◌≡◌, ◌≤◌, ◌⊎◌, ℕ, Bool, true, false, List, [], ◌∷◌, ◌++◌, length, Option, Some, None, Result, Ok, Err, inl, inr, refl, sym, ap, subst, ◌∙◌, arith, append-nil, length-append}
use Rattle.office_desk.specs.Own.{AppendsAtMost, Begins}
use Rattle.door_crews.specs.Desk.{Known}
use Rattle.office_http.specs.Keeping.{CountsKept, HasSettled, KeepsStood, MayWait, StoodView}
use Rattle.office_http.specs.Knowing.{AsksInTurn, IsPut, PutsInTurn, SettlesInTurn}
use Rattle.http_sessions.specs.declared.counter.Answered.{Answered}
use Rattle.keeper_mem.specs.Keeper.{KeeperView}
use Rattle.office_http.specs.Asking.{AsksOffice, HasAnswered, HasNotAnswered, IsAnsweredAt, request_of}
use Rattle.office_base.specs.Outside.{Rose}
use Rattle.office_asks.specs.declared.ask.Ask.{Ask}
use Rattle.office_moves.specs.Facts.{SeasonFacts}
use Rattle.office_moves.specs.Decided.{decided}
use Rattle.office_moves.specs.History.{grown, newly}
use Rattle.office_moves.specs.declared.moves.Act.{Act}
use Rattle.office_moves.specs.declared.moves.Entry.{Entry}
use Rattle.round_cut.specs.Office.{OfficeView}
use Rattle.http_wire.specs.declared.faults.Fault.{Fault}
use Rattle.http_wire.specs.declared.faults.Fault.TheVariants.{Keeper, Memory}

-- ---- the office

-- the basis of an office at a desk
abbrev pub basis_of : {K : Type 0} → (K → KeeperView) → StoodView K → SeasonFacts × Bool
basis_of keeper_view stood = (stood.office.season, (keeper_view stood.office.keeper).holds_room)

appends_grown : (entries after : List Entry) (number : ℕ) (act : Option Act) → after ≡ grown entries number act → AppendsAtMost (λ e. e.number) number entries after
appends_grown entries after number None e = inl e
appends_grown entries after number (Some act) e = inr (record { number = number; act = act }, refl, e)

module _ {K : Type 0} (keeper_view : K → KeeperView) where
  -- what was left of an office at a desk may be put back
  abbrev GoesBack : ℕ → StoodView K → StoodView K → Type 0
  GoesBack number held put = (basis_of keeper_view put ≡ basis_of keeper_view held) × AppendsAtMost (λ e. e.number) number held.office.entries put.office.entries
      × ((keeper_view held.office.keeper).faults ≤ (keeper_view put.office.keeper).faults) × (held.kept ≤ put.kept)

  asked_leaves : (number : ℕ) (token : Option (List ℕ)) (ask : Ask) (result : Result Answered Fault) (held put : StoodView K)
      → AsksOffice keeper_view number token ask result held.office put.office → held.kept ≤ put.kept → GoesBack number held put
  asked_leaves number token ask (Ok answered) held put asked keeps = (
    (λ i. (asked.season i, asked.room i)),
    appends_grown held.office.entries put.office.entries number (newly held.office.state.now (decided held.office.season held.office.state (request_of held.office.season token ask))) asked.entries,
    (let same = asked.steady in omega (arith, same)),
    keeps,
  )
  asked_leaves number token ask (Err fault) held put asked keeps = ((λ i. (asked.season i, asked.room i)), inl asked.entries, asked.count, keeps)

  -- the same, by what the job was shown
  pub asked_puts_back : (number : ℕ) (token : Option (List ℕ)) (ask : Ask) (result : Result Answered Fault) (shown held put : StoodView K) → shown ≡ held
      → AsksOffice keeper_view number token ask result shown.office put.office → shown.kept ≤ put.kept → GoesBack number held put
  asked_puts_back number token ask result shown held put same asked keeps =
      subst (λ o. GoesBack number o put) same (asked_leaves number token ask result shown put asked keeps)

  settled_goes : (number : ℕ) (failed : Type 0) (held put : StoodView K) → HasSettled keeper_view failed held.office put.office → held.kept ≤ put.kept → GoesBack number held put
  settled_goes number failed held put settled keeps = ((λ i. (settled.season i, settled.room i)), inl settled.entries, settled.count, keeps)

  settled_leaves : (number needed : ℕ) (result : Result (Unit {0}) Fault) (held put : StoodView K) → KeepsStood keeper_view needed result held put → GoesBack number held put
  settled_leaves number needed (Ok done) held put settled = settled_goes number ⊥ held put settled.0 settled.1
  settled_leaves number needed (Err Keeper) held put settled = settled_goes number (Unit {0}) held put settled.0.0 settled.1
  settled_leaves number needed (Err Memory) held put settled = settled_goes number ⊥ held put settled.0.0 settled.1

  pub settled_puts_back : (number needed : ℕ) (result : Result (Unit {0}) Fault) (shown held put : StoodView K) → shown ≡ held → KeepsStood keeper_view needed result shown put → GoesBack number held put
  settled_puts_back number needed result shown held put same settled = subst (λ o. GoesBack number o put) same (settled_leaves number needed result shown put settled)

-- ---- the pass

not_longer : (xs ys : List Entry) (e : Entry) → ys ≡ xs → ys ≡ xs ++ e ∷ [] → ⊥
not_longer xs ys e same more =
    let lengths = ap length (sym same ∙ more) in
    let sum = length-append xs (e ∷ []) in
    omega (arith, lengths, sum)

-- a list begins the list that it is
ends_so : (xs ys : List Entry) → ys ≡ xs → Begins xs ys
ends_so xs ys same = ([], same ∙ sym (append-nil xs))

-- what a turn says of a pass, by what it knows before and after it
pub record HasTurned {K : Type 0} (keeper_view : K → KeeperView) (number : ℕ) (held left : StoodView K) (p p' : Known Entry) : Type 0 where
  pub begins : Begins p.seen held.office.entries
  pub counts : p.count ≤ (keeper_view held.office.keeper).faults
  pub shares : p'.shares ≡ p.shares
  pub seen : p'.seen ≡ left.office.entries
  pub own : ((left.office.entries ≡ held.office.entries) × (p'.own ≡ p.own))
      ⊎ ((e : Entry) × (e.number ≡ number) × (left.office.entries ≡ held.office.entries ++ e ∷ []) × (p'.own ≡ p.own ++ e ∷ []))
  pub found : p'.found ≡ (keeper_view held.office.keeper).faults
  pub count : p'.count ≡ (keeper_view left.office.keeper).faults
  pub keeps : p.kept ≤ held.kept
  pub keeps_on : held.kept ≤ left.kept
  pub kept : p'.kept ≡ left.kept

module _ {K : Type 0} (keeper_view : K → KeeperView) where
  -- no fewer entries are kept
  kept_on : (number : ℕ) (held left : StoodView K) (p p' : Known Entry) → HasTurned keeper_view number held left p p' → p.kept ≤ p'.kept
  kept_on number held left p p' turned = let before = turned.keeps in let then = turned.keeps_on in let after = turned.kept in omega (arith, before, then, after)

  answered_in_turn : (number : ℕ) (token : Option (List ℕ)) (ask : Ask) (answered : Answered) (settled : Bool) (held left : StoodView K) (p p' : Known Entry) → HasTurned keeper_view number held left p p'
      → HasAnswered keeper_view number (request_of held.office.season token ask) answered held.office left.office → CountsKept keeper_view left.office held.kept settled left.kept
      → IsPut held.office.season (MayWait keeper_view) p token ask answered settled p'
  answered_in_turn number token ask answered settled held left p p' turned asked counted = go turned.own
    where
      at : (added : List Entry) → left.office.entries ≡ held.office.entries ++ added → IsAnsweredAt held.office.season held.office.entries (request_of held.office.season token ask) answered added
      at added is = record {
        old = held.office.state;
        new = left.office.state;
        reply = asked.reply;
        history = asked.history;
        moves = asked.moves;
        number = number;
        grows = sym is ∙ asked.entries;
        answer = asked.answer;
      }

      with_added : (added : List Entry) → left.office.entries ≡ held.office.entries ++ added → p'.own ≡ p.own ++ added → IsPut held.office.season (MayWait keeper_view) p token ask answered settled p'
      with_added added is own = record {
        place = held.office.entries;
        added = added;
        begins = turned.begins;
        answers = at added is;
        seen = turned.seen ∙ is;
        own = own;
        all = λ nothing. turned.kept ∙ (counted.all nothing).0 ∙ ap length is;
        waiting = λ waits. (left.office.keeper, sym counted.is ∙ waits);
        keeps = kept_on number held left p p' turned;
        count = subst (λ n. p.count ≤ n) (sym (turned.count ∙ asked.steady)) turned.counts;
        found = turned.found ∙ sym asked.steady ∙ sym turned.count;
        shares = turned.shares;
      }

      go : ((left.office.entries ≡ held.office.entries) × (p'.own ≡ p.own))
          ⊎ ((e : Entry) × (e.number ≡ number) × (left.office.entries ≡ held.office.entries ++ e ∷ []) × (p'.own ≡ p.own ++ e ∷ []))
          → IsPut held.office.season (MayWait keeper_view) p token ask answered settled p'
      go (inl none) = with_added [] (none.0 ∙ sym (append-nil held.office.entries)) (none.1 ∙ sym (append-nil p.own))
      go (inr one) = with_added (one.0 ∷ []) one.2 one.3

  -- nothing of the pass's own was added
  own_stays : (number : ℕ) (held left : StoodView K) (p p' : Known Entry) → HasTurned keeper_view number held left p p' → left.office.entries ≡ held.office.entries → p'.own ≡ p.own
  own_stays number held left p p' turned same = go turned.own
    where
      go : ((left.office.entries ≡ held.office.entries) × (p'.own ≡ p.own))
          ⊎ ((e : Entry) × (e.number ≡ number) × (left.office.entries ≡ held.office.entries ++ e ∷ []) × (p'.own ≡ p.own ++ e ∷ [])) → p'.own ≡ p.own
      go (inl none) = none.1
      go (inr one) = absurd (not_longer held.office.entries left.office.entries one.0 same one.2)

  unanswered_in_turn : (number : ℕ) (token : Option (List ℕ)) (ask : Ask) (fault : Fault) (held left : StoodView K) (p p' : Known Entry) → HasTurned keeper_view number held left p p'
      → HasNotAnswered keeper_view (request_of held.office.season token ask) fault held.office left.office
      → AsksInTurn held.office.season (keeper_view held.office.keeper).holds_room (MayWait keeper_view) p token ask (Err fault) p'
  unanswered_in_turn number token ask Keeper held left p p' turned asked = (
    held.office.entries,
    [],
    turned.begins,
    inl (refl, asked.unanswered),
    ends_so (held.office.entries ++ []) p'.seen (turned.seen ∙ asked.entries ∙ sym (append-nil held.office.entries)),
    own_stays number held left p p' turned asked.entries ∙ sym (append-nil p.own),
    kept_on number held left p p' turned,
    subst (λ n. p.count ≤ n) (sym turned.found) turned.counts,
    subst (λ n. Rose n p'.count) (sym turned.found) (subst (λ n. Rose (keeper_view held.office.keeper).faults n) (sym turned.count) (asked.cause refl)),
    turned.shares,
  )
  unanswered_in_turn number token ask Memory held left p p' turned asked = (
    held.office.entries,
    [],
    turned.begins,
    inl (refl, asked.unanswered),
    ends_so (held.office.entries ++ []) p'.seen (turned.seen ∙ asked.entries ∙ sym (append-nil held.office.entries)),
    own_stays number held left p p' turned asked.entries ∙ sym (append-nil p.own),
    kept_on number held left p p' turned,
    subst (λ n. p.count ≤ n) (sym (turned.count ∙ asked.steady refl)) turned.counts,
    turned.found ∙ sym (asked.steady refl) ∙ sym turned.count,
    turned.shares,
  )

  asked_here : (number : ℕ) (token : Option (List ℕ)) (ask : Ask) (result : Result Answered Fault) (settled : Bool) (held left : StoodView K) (p p' : Known Entry) → HasTurned keeper_view number held left p p'
      → AsksOffice keeper_view number token ask result held.office left.office → CountsKept keeper_view left.office held.kept settled left.kept
      → PutsInTurn held.office.season (keeper_view held.office.keeper).holds_room (MayWait keeper_view) p token ask result settled p'
  asked_here number token ask (Ok answered) settled held left p p' turned asked counted = answered_in_turn number token ask answered settled held left p p' turned asked counted
  asked_here number token ask (Err fault) settled held left p p' turned asked counted = unanswered_in_turn number token ask fault held left p p' turned asked

  -- the same, by what the job was shown and what it left
  pub put_at_desk : (basis : SeasonFacts × Bool) (number : ℕ) (token said : Option (List ℕ)) (ask : Ask) (result : Result Answered Fault) (settled : Bool) (shown held left put : StoodView K) (p p' : Known Entry)
      → token ≡ said → shown ≡ held → left ≡ put → basis_of keeper_view held ≡ basis → HasTurned keeper_view number held put p p'
      → AsksOffice keeper_view number said ask result shown.office left.office → CountsKept keeper_view left.office shown.kept settled left.kept
      → PutsInTurn basis.0 basis.1 (MayWait keeper_view) p token ask result settled p'
  put_at_desk basis number token said ask result settled shown held left put p p' spelt shows leaves same turned asked counted =
      let one : AsksOffice keeper_view number token ask result shown.office left.office = subst (λ t. AsksOffice keeper_view number t ask result shown.office left.office) (sym spelt) asked in
      let two : AsksOffice keeper_view number token ask result held.office left.office = subst (λ (o : StoodView K). AsksOffice keeper_view number token ask result o.office left.office) shows one in
      let three : AsksOffice keeper_view number token ask result held.office put.office = subst (λ (o : StoodView K). AsksOffice keeper_view number token ask result held.office o.office) leaves two in
      let four : CountsKept keeper_view left.office held.kept settled left.kept = subst (λ (o : StoodView K). CountsKept keeper_view left.office o.kept settled left.kept) shows counted in
      let five : CountsKept keeper_view put.office held.kept settled put.kept = subst (λ (o : StoodView K). CountsKept keeper_view o.office held.kept settled o.kept) leaves four in
      subst (λ b. PutsInTurn b.0 b.1 (MayWait keeper_view) p token ask result settled p') same (asked_here number token ask result settled held put p p' turned three five)

  -- ---- a turn that settles

  later_seen : (number : ℕ) (held left : StoodView K) (p p' : Known Entry) → HasTurned keeper_view number held left p p' → left.office.entries ≡ held.office.entries → Begins p.seen p'.seen
  later_seen number held left p p' turned same = subst (λ es. Begins p.seen es) (sym (turned.seen ∙ same)) turned.begins

  counts_on : (number : ℕ) (held left : StoodView K) (p p' : Known Entry) → HasTurned keeper_view number held left p p' → (keeper_view left.office.keeper).faults ≡ (keeper_view held.office.keeper).faults
      → (p.count ≤ p'.count) × (p'.found ≡ p'.count)
  counts_on number held left p p' turned steady = (subst (λ n. p.count ≤ n) (sym (turned.count ∙ steady)) turned.counts, turned.found ∙ sym steady ∙ sym turned.count)

  -- whatever the pass had seen is kept if as many entries are, or all
  seen_kept : (number needed : ℕ) (held left : StoodView K) (p p' : Known Entry) → HasTurned keeper_view number held left p p' → left.office.entries ≡ held.office.entries → needed ≡ length p.seen
      → (needed ≤ left.kept) ⊎ (left.kept ≡ length left.office.entries) → length p.seen ≤ p'.kept
  seen_kept number needed held left p p' turned same is (inl within) = let after = turned.kept in omega (arith, within, is, after)
  seen_kept number needed held left p p' turned same is (inr all) =
      let after = turned.kept in
      let lengths = ap length same in
      let more = ap length turned.begins.1 in
      let sum = length-append p.seen turned.begins.0 in
      omega (arith, all, after, lengths, more, sum)

  settled_here : (number needed : ℕ) (result : Result (Unit {0}) Fault) (held left : StoodView K) (p p' : Known Entry) → HasTurned keeper_view number held left p p' → KeepsStood keeper_view needed result held left
      → needed ≡ length p.seen → SettlesInTurn p result p'
  settled_here number needed (Ok done) held left p p' turned settled is =
      let one = settled.0 in
      let counts = counts_on number held left p p' turned (one.steady (λ none. none)) in (
        later_seen number held left p p' turned one.entries,
        own_stays number held left p p' turned one.entries,
        kept_on number held left p p' turned,
        seen_kept number needed held left p p' turned one.entries is settled.2,
        counts.0,
        counts.1,
        turned.shares,
      )
  settled_here number needed (Err Keeper) held left p p' turned settled is =
      let one = settled.0.0 in (
        later_seen number held left p p' turned one.entries,
        own_stays number held left p p' turned one.entries,
        kept_on number held left p p' turned,
        subst (λ n. p.count ≤ n) (sym turned.found) turned.counts,
        subst (λ n. Rose n p'.count) (sym turned.found) (subst (λ n. Rose (keeper_view held.office.keeper).faults n) (sym turned.count) (one.cause tt)),
        turned.shares,
      )
  settled_here number needed (Err Memory) held left p p' turned settled is =
      let one = settled.0.0 in
      let counts = counts_on number held left p p' turned (one.steady (λ none. none)) in (
        later_seen number held left p p' turned one.entries,
        own_stays number held left p p' turned one.entries,
        kept_on number held left p p' turned,
        counts.0,
        counts.1,
        turned.shares,
      )

  pub settled_at_desk : (number needed : ℕ) (result : Result (Unit {0}) Fault) (shown held left put : StoodView K) (p p' : Known Entry)
      → shown ≡ held → left ≡ put → HasTurned keeper_view number held put p p' → KeepsStood keeper_view needed result shown left → needed ≡ length p.seen → SettlesInTurn p result p'
  settled_at_desk number needed result shown held left put p p' shows leaves turned settled is =
      settled_here number needed result held put p p' turned (subst (λ o. KeepsStood keeper_view needed result held o) leaves (subst (λ o. KeepsStood keeper_view needed result o left) shows settled)) is

-- ---- an ask, of one turn or of two

module _ (facts : SeasonFacts) (room : Bool) (waits : Type 0) where
  -- nothing waits after the first turn
  pub answered_at_once : (p p' : Known Entry) (token : Option (List ℕ)) (ask : Ask) (answered : Answered) (settled : Bool) → IsPut facts waits p token ask answered settled p' → settled ≡ true
      → AsksInTurn facts room waits p token ask (Ok answered) p'
  answered_at_once p p' token ask answered settled put nothing = (
    put.place,
    put.added,
    put.begins,
    put.answers,
    ends_so (put.place ++ put.added) p'.seen put.seen,
    put.own,
    (let all = put.all nothing in omega (arith, all)),
    put.keeps,
    put.count,
    put.found,
    put.shares,
  )

  -- the second turn kept all that the first one saw, and maybe more
  pub answered_then : (p q p' : Known Entry) (token : Option (List ℕ)) (ask : Ask) (answered : Answered) (settled : Bool) (done : Unit {0}) → IsPut facts waits p token ask answered settled q
      → SettlesInTurn q (Ok done) p' → AsksInTurn facts room waits p token ask (Ok answered) p'
  answered_then p q p' token ask answered settled done put then =
      let begins : Begins (put.place ++ put.added) p'.seen = subst (λ es. Begins es p'.seen) put.seen then.0 in (
        put.place,
        put.added,
        put.begins,
        put.answers,
        begins,
        then.1 ∙ put.own,
        subst (λ es. length es ≤ p'.kept) put.seen then.3,
        (let one = put.keeps in let two = then.2 in omega (arith, one, two)),
        (let one = put.count in let two = then.4 in omega (arith, one, two)),
        then.5,
        then.6 ∙ put.shares,
      )

  -- the second turn could not keep what the first one saw
  pub held_back : (p q p' : Known Entry) (token : Option (List ℕ)) (ask : Ask) (answered : Answered) (settled : Bool) (fault : Fault) → IsPut facts waits p token ask answered settled q
      → settled ≡ false → SettlesInTurn q (Err fault) p' → AsksInTurn facts room waits p token ask (Err fault) p'
  held_back p q p' token ask answered settled Keeper put waiting then = (
    put.place,
    put.added,
    put.begins,
    inr (put.waiting waiting, (answered, put.answers)),
    subst (λ es. Begins es p'.seen) put.seen then.0,
    then.1 ∙ put.own,
    (let one = put.keeps in let two = then.2 in omega (arith, one, two)),
    (let one = put.count in let two = then.3 in omega (arith, one, two)),
    then.4,
    then.5 ∙ put.shares,
  )
  held_back p q p' token ask answered settled Memory put waiting then = (
    put.place,
    put.added,
    put.begins,
    inr (put.waiting waiting, (answered, put.answers)),
    subst (λ es. Begins es p'.seen) put.seen then.0,
    then.1 ∙ put.own,
    (let one = put.keeps in let two = then.2 in omega (arith, one, two)),
    (let one = put.count in let two = then.3 in omega (arith, one, two)),
    then.4,
    then.5 ∙ put.shares,
  )
