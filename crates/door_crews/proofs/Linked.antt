-- What a counter at a desk did over the links of a door: they are served.
use Rattle.std.proofs.Common.{◌≡◌, ◌≤◌, ◌+◌, ◌⊎◌, ℕ, List, [], ◌∷◌, ◌++◌, Option, Result, Ok, Err, length, arith, refl, sym, ap, subst, ◌∙◌}
use Rattle.office_base.specs.Outside.{Rose}
use Rattle.office_asks.specs.declared.ask.Ask.{Ask}
use Rattle.office_desk.specs.Own.{Begins}
use Rattle.http_asks.specs.Verdicts.{Verdict, refuses, asks}
use Rattle.http_sessions.specs.Exchange.{Item, Outcome, Goes, Runs, IsAsked, wired, unread, heard}
use Rattle.http_sessions.specs.Doors.{AreHeld, HasVisited}
use Rattle.http_sessions.specs.declared.counter.Answered.{Answered}
use Rattle.http_wire.specs.declared.faults.Fault.{Fault}
use Rattle.http_wire.specs.declared.faults.Fault.TheVariants.{Keeper, Memory}
use Rattle.door_crews.specs.Counts.{RoseBy}
use Rattle.door_crews.specs.Desk.{Known, AsksDesk}
use Rattle.door_crews.specs.Served.{DoorLooks, IsPlaced, IsServing, AreServed, DoorServed}
use Rattle.door_crews.proofs.Later.{serving_later}
use Rattle.door_crews.proofs.Counting.{begins_self, begins_same, begins_trans, begins_front, nothing_more, more_twice, rose_none, rose_same, rose_once, rose_on}

-- what was asked, of a message that asks
asked_at : (verdict : Verdict) (P : Option (List ℕ) → Ask → Type 0) → IsAsked verdict P → (token : Option (List ℕ)) × (ask : Ask) × (verdict ≡ asks token ask) × P token ask
asked_at (refuses status allow) P a = absurd a
asked_at (asks token ask) P a = (token, ask, refl, a)

asked_so : (verdict : Verdict) (token : Option (List ℕ)) (ask : Ask) (P : Option (List ℕ) → Ask → Type 0) → verdict ≡ asks token ask → P token ask → IsAsked verdict P
asked_so verdict token ask P e p = subst (λ (v : Verdict). IsAsked v P) (sym e) p

module _ {I : Type 0} (Answers : List I → Option (List ℕ) → Ask → Answered → List I → Type 0) (Unanswers : List I → Option (List ℕ) → Ask → Fault → List I → Type 0)
    {C : Type 0} (R : C → Option (List ℕ) → Ask → Result Answered Fault → C → Type 0) (knows : C → Known I) (Keeps : C → Type 0)
    (asked : (c c' : C) (token : Option (List ℕ)) (ask : Ask) (r : Result Answered Fault) → Keeps c → R c token ask r c' → Keeps c' × AsksDesk Answers Unanswers (knows c) token ask r (knows c')) where
  -- what goes with whatever takes the counter from here to there
  record Moves (c c' : C) (added : List I) (n : ℕ) : Type 0 where
    keeps : Keeps c'
    seen : Begins (knows c).seen (knows c').seen
    own : (knows c').own ≡ (knows c).own ++ added
    rose : RoseBy n (knows c).count (knows c').count
    kept : (knows c).kept ≤ (knows c').kept
    shares : (knows c').shares ≡ (knows c).shares

  moves_not : (c c' : C) → Keeps c → c' ≡ c → Moves c c' [] 0
  moves_not c c' keeps same = record {
    keeps = subst Keeps (sym same) keeps;
    seen = begins_same (knows c).seen (knows c').seen (ap (λ (s : C). (knows s).seen) same);
    own = nothing_more (knows c).own (knows c').own (ap (λ (s : C). (knows s).own) same);
    rose = rose_same (knows c).count (knows c').count (ap (λ (s : C). (knows s).count) same);
    kept = (let as_many = ap (λ (s : C). (knows s).kept) same in omega (arith, as_many));
    shares = ap (λ (s : C). (knows s).shares) same;
  }

  moves_on : (c mid c' : C) (added more : List I) (n k : ℕ) → Moves c mid added n → Moves mid c' more k → Moves c c' (added ++ more) (n + k)
  moves_on c mid c' added more n k one two = record {
    keeps = two.keeps;
    seen = begins_trans (knows c).seen (knows mid).seen (knows c').seen one.seen two.seen;
    own = more_twice (knows c).own (knows mid).own (knows c').own added more one.own two.own;
    rose = rose_on n k (knows c).count (knows mid).count (knows c').count one.rose two.rose;
    kept = (let first = one.kept in let then = two.kept in omega (arith, first, then));
    shares = two.shares ∙ one.shares;
  }

  -- one message after the history A, with which begins what was seen
  record Goes_from (A : List I) (c c' : C) (item : Item) (outcome : Outcome) : Type 0 where
    added : List I
    n : ℕ
    behind : List I
    moves : Moves c c' added n
    placed : (kept : ℕ) → (knows c').kept ≤ kept → IsPlaced Answers Unanswers kept A item outcome added n behind
    begins : Begins behind (knows c').seen

  goes_from : (A : List I) (c c' : C) (item : Item) (outcome : Outcome) → Keeps c → Begins A (knows c).seen → Goes R c item outcome c' → Goes_from A c c' item outcome
  goes_from A c c' item wired keeps from g = record {
    added = [];
    n = 0;
    behind = A;
    moves = moves_not c c' keeps g.1;
    placed = λ kept later. (g.0, refl, refl, refl);
    begins = subst (λ (s : C). Begins A (knows s).seen) (sym g.1) from;
  }
  goes_from A c c' item unread keeps from g = record {
    added = [];
    n = 0;
    behind = A;
    moves = moves_not c c' keeps g.1;
    placed = λ kept later. (g.0, refl, refl, refl);
    begins = subst (λ (s : C). Begins A (knows s).seen) (sym g.1) from;
  }
  goes_from A c c' item (heard (Ok answered)) keeps from g =
      let at = asked_at item.verdict (λ token ask. R c token ask (Ok answered) c') g in
      let token = at.0 in
      let ask = at.1 in
      let told = asked c c' token ask (Ok answered) keeps at.3 in
      let did = told.1 in
      let place = did.0 in
      let added = did.1 in
      record {
        added = added;
        n = 0;
        behind = place ++ added;
        moves = record {
          keeps = told.0;
          seen = begins_trans (knows c).seen place (knows c').seen did.2 (begins_front place added (knows c').seen did.4);
          own = did.5;
          rose = rose_none (knows c).count (knows c').count did.8;
          kept = did.7;
          shares = did.10;
        };
        placed = λ kept later. (
          refl,
          (let few = did.6 in omega (arith, few, later)),
          asked_so item.verdict token ask
              (λ token ask. (place' : List I) × Begins A place' × Answers place' token ask answered added × (place ++ added ≡ place' ++ added)) at.2
              (place, begins_trans A (knows c).seen place from did.2, did.3, refl),
        );
        begins = did.4;
      }
  goes_from A c c' item (heard (Err Keeper)) keeps from g =
      let at = asked_at item.verdict (λ token ask. R c token ask (Err Keeper) c') g in
      let token = at.0 in
      let ask = at.1 in
      let told = asked c c' token ask (Err Keeper) keeps at.3 in
      let did = told.1 in
      let place = did.0 in
      let added = did.1 in
      record {
        added = added;
        n = 1;
        behind = place ++ added;
        moves = record {
          keeps = told.0;
          seen = begins_trans (knows c).seen place (knows c').seen did.2 (begins_front place added (knows c').seen did.4);
          own = did.5;
          rose = rose_once (knows c).count (knows c').found (knows c').count did.7 did.8;
          kept = did.6;
          shares = did.9;
        };
        placed = λ kept later. (
          refl,
          asked_so item.verdict token ask
              (λ token ask. (place' : List I) × Begins A place' × Unanswers place' token ask Keeper added × (place ++ added ≡ place' ++ added)) at.2
              (place, begins_trans A (knows c).seen place from did.2, did.3, refl),
        );
        begins = did.4;
      }
  goes_from A c c' item (heard (Err Memory)) keeps from g =
      let at = asked_at item.verdict (λ token ask. R c token ask (Err Memory) c') g in
      let token = at.0 in
      let ask = at.1 in
      let told = asked c c' token ask (Err Memory) keeps at.3 in
      let did = told.1 in
      let place = did.0 in
      let added = did.1 in
      record {
        added = added;
        n = 0;
        behind = place ++ added;
        moves = record {
          keeps = told.0;
          seen = begins_trans (knows c).seen place (knows c').seen did.2 (begins_front place added (knows c').seen did.4);
          own = did.5;
          rose = rose_none (knows c).count (knows c').count did.7;
          kept = did.6;
          shares = did.9;
        };
        placed = λ kept later. (
          refl,
          asked_so item.verdict token ask
              (λ token ask. (place' : List I) × Begins A place' × Unanswers place' token ask Memory added × (place ++ added ≡ place' ++ added)) at.2
              (place, begins_trans A (knows c).seen place from did.2, did.3, refl),
        );
        begins = did.4;
      }

  -- the messages of a link
  record Runs_from (A : List I) (c c' : C) (items : List Item) (outcomes : List Outcome) : Type 0 where
    entries : List I
    failures : ℕ
    moves : Moves c c' entries failures
    serving : IsServing Answers Unanswers (knows c').kept A items outcomes entries failures (knows c').seen

  runs_from : (A : List I) (c c' : C) (items : List Item) (outcomes : List Outcome) → Keeps c → Begins A (knows c).seen → Runs R c items outcomes c' → Runs_from A c c' items outcomes
  runs_from A c c' [] [] keeps from r = record {
    entries = [];
    failures = 0;
    moves = moves_not c c' keeps r;
    serving = (refl, refl, subst (λ (s : C). Begins A (knows s).seen) (sym r) from);
  }
  runs_from A c c' [] (outcome ∷ outcomes) keeps from r = absurd r
  runs_from A c c' (item ∷ items) [] keeps from r = absurd r
  runs_from A c c' (item ∷ items) (outcome ∷ outcomes) keeps from r =
      let mid = r.0 in
      let one = goes_from A c mid item outcome keeps from r.1 in
      let rest = runs_from one.behind mid c' items outcomes one.moves.keeps one.begins r.2 in
      record {
        entries = one.added ++ rest.entries;
        failures = one.n + rest.failures;
        moves = moves_on c mid c' one.added rest.entries one.n rest.failures one.moves rest.moves;
        serving = (one.added, one.n, one.behind, rest.entries, rest.failures, one.placed (knows c').kept rest.moves.kept, rest.serving, refl, refl);
      }

  module _ {D L : Type 0} (of : DoorLooks D L) where
    -- the links of a door, one after another
    record Held_from (c c' : C) (pairs : List (L × L)) : Type 0 where
      entries : List I
      failures : ℕ
      moves : Moves c c' entries failures
      served : AreServed Answers Unanswers (knows c').kept of (knows c).seen pairs entries failures (knows c').seen

    held_from : (c c' : C) (pairs : List (L × L)) → Keeps c → AreHeld R of.left of.written of.failures c pairs c' → Held_from c c' pairs
    held_from c c' [] keeps h = record {
      entries = [];
      failures = 0;
      moves = moves_not c c' keeps h;
      served = (refl, refl, ap (λ (s : C). (knows s).seen) h);
    }
    held_from c c' (pair ∷ pairs) keeps h =
        let mid = h.0 in
        let held = h.1 in
        let session = held.session in
        let one = runs_from (knows c).seen c mid session.items session.outcomes keeps (begins_self (knows c).seen) session.runs in
        let rest = held_from mid c' pairs one.moves.keeps h.2 in
        record {
          entries = one.entries ++ rest.entries;
          failures = one.failures + rest.failures;
          moves = moves_on c mid c' one.entries rest.entries one.failures rest.failures one.moves rest.moves;
          served = (
            one.entries,
            one.failures,
            (knows mid).seen,
            rest.entries,
            rest.failures,
            record {
              bytes = held.bytes;
              end = held.end;
              items = session.items;
              outcomes = session.outcomes;
              rest = session.rest;
              are = held.are;
              cuts = session.cuts;
              few = session.few;
              unclosed = session.unclosed;
              serving = serving_later Answers Unanswers (knows mid).kept (knows c').kept rest.moves.kept (knows c).seen session.items session.outcomes one.entries one.failures (knows mid).seen one.serving;
              told = session.told;
              cause = held.cause;
              steady = held.steady;
            },
            rest.served,
            refl,
            refl,
          );
        }

    -- A door whose connections a counter visited is served, from what was seen before to what has been seen then.
    pub record Visited (door door' : D) (c c' : C) : Type 0 where
      pub entries : List I
      pub failures : ℕ
      pub served : DoorServed Answers Unanswers (knows c').kept of door door' (knows c).seen entries failures (knows c').seen
      pub keeps : Keeps c'
      pub begins : Begins (knows c).seen (knows c').seen
      pub own : (knows c').own ≡ (knows c).own ++ entries
      pub rose : RoseBy failures (knows c).count (knows c').count
      pub kept : (knows c).kept ≤ (knows c').kept
      pub shares : (knows c').shares ≡ (knows c).shares

    pub visited_is_served : (door door' : D) (c c' : C) → Keeps c → HasVisited R of.left of.written of.failures c c' (of.told door) (of.told door')
        → of.out door' ≡ of.out door → (of.to_come door' ≡ 0) ⊎ Rose (of.faults door) (of.faults door') → Visited door door' c c'
    visited_is_served door door' c c' keeps v back ended =
        let held = held_from c c' v.links keeps v.held in
        record {
          entries = held.entries;
          failures = held.failures;
          served = record { links = v.links; passed = v.passed; served = held.served; back = back; ended = ended };
          keeps = held.moves.keeps;
          begins = held.moves.seen;
          own = held.moves.own;
          rose = held.moves.rose;
          kept = held.moves.kept;
          shares = held.moves.shares;
        }
