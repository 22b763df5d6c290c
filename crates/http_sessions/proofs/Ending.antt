-- How a session continues, and how it ends.
use Rattle.std.proofs.Common.{◌≡◌, ◌≢◌, ◌<◌, ◌≤◌, ◌+◌, ◌==◌, ◌⊎◌, if◌then◌else◌, inl, inr, ℕ, Bool, true, false, List, [], ◌∷◌, ◌++◌, Option, Some, None, Result, length, take, drop, arith, refl, sym, ap, subst, ◌∙◌, append_assoc, length-append}
use Rattle.std.proofs.lemmas.List.{append-nil, drop-append-le, take_at, drop_at, length-take}
use Rattle.std.proofs.Math.Seq.{take-add}
use Rattle.std.proofs.lemmas.Bool.Decides.{nat_tests}
use Rattle.std.specs.List.{list_any}
use Rattle.std.specs.Option.{unwrap_or}
use Rattle.office_base.specs.Outside.{Appends, AreLeft, IsAtEnd, Took}
use Rattle.office_base.proofs.Streams.{Appends-none, Took-none}
use Rattle.office_asks.specs.declared.ask.Ask.{Ask}
use Rattle.http_sessions.specs.Limits.{most_messages}
use Rattle.http_wire.specs.Messages.{IsTorn, IsUnfinished}
use Rattle.http_sessions.specs.Exchange.{Item, Outcome, IsItem, Cuts, Goes, Runs, reply_to, replies, is_last, open_before, closes_last, but_last}
use Rattle.http_sessions.specs.Sessions.{IsSession, IsEnd, IsTold, Talk, FailsReading, FailsWriting}
use Rattle.http_sessions.specs.Steps.{IsAnswered, IsReplied, IsCutOff, IsStill, IsStep, end_of}
use Rattle.http_sessions.specs.declared.counter.Answered.{Answered}
use Rattle.http_wire.specs.declared.faults.Fault.{Fault}
use Rattle.http_sessions.specs.declared.conversation.SessionEnd.{SessionEnd}
use Rattle.http_sessions.specs.declared.conversation.SessionEnd.TheVariants.{Ended as EndsOpen, Torn as EndsTorn, LimitReached, LinkFault}
use Rattle.http_sessions.specs.declared.messages.Step.{Step}
use Rattle.http_sessions.specs.declared.messages.Step.TheVariants.{Next, Last, Ended, Torn, Unread, Unwritten}
use Rattle.http_sessions.proofs.Talking.{took_on, appends_on, are_left, cuts_on, runs_on, as_many, replies_on, replies_before, open_on, any_on, closes_on, but_last_on, open_all}

item_within : (bytes : List ℕ) (item : Item) (len : ℕ) → IsItem bytes item len → len ≤ length bytes
item_within bytes item len (inl is) = let come = is.1.come in let e = is.1.len_is in omega (arith, come, e)
item_within bytes item len (inr is) = let e = is.3 in omega (arith, e)

-- a beginning and n bytes of what follows it
pub take-append-add : (xs ys : List ℕ) (n : ℕ) → take (length xs + n) (xs ++ ys) ≡ xs ++ take n ys
take-append-add xs ys n =
    take-add (length xs) n (xs ++ ys) ∙ (ap (λ (a : List ℕ). a ++ take n (drop (length xs) (xs ++ ys))) (take_at xs ys (length xs) refl) ∙ ap (λ (b : List ℕ). xs ++ take n b) (drop_at xs ys (length xs) refl))

module _ {C : Type 0} (R : C → Option (List ℕ) → Ask → Result Answered Fault → C → Type 0) where
  -- This many messages came and were answered, none of which closes, and later these bytes are held.
  pub record IsTalking (c0 c : C) (left0 left before after : Option (List ℕ)) (held : List ℕ) (done : ℕ) : Type 0 where
    pub got : List ℕ
    pub took : Took got left0 left
    pub items : List Item
    pub outcomes : List Outcome
    pub count : length items ≡ done
    pub cuts : (more : List ℕ) → Cuts (got ++ more) items (held ++ more)
    pub unclosed : list_any is_last items ≡ false
    pub runs : Runs R c0 items outcomes c
    pub written : Appends (replies 1 items outcomes) before after

  pub begins : (c : C) (left written : Option (List ℕ)) (held : List ℕ) → held ≡ [] → IsTalking c c left left written written held 0
  begins c left written held none = record {
    got = [];
    took = Took-none left;
    items = [];
    outcomes = [];
    count = refl;
    cuts = λ more. ap (λ (x : List ℕ). x ++ more) none;
    unclosed = refl;
    runs = refl;
    written = Appends-none written;
  }

  -- more bytes came behind those that were held
  more_cuts : (got more held : List ℕ) (items : List Item) → ((later : List ℕ) → Cuts (got ++ later) items (held ++ later)) → (later : List ℕ) → Cuts ((got ++ more) ++ later) items ((held ++ more) ++ later)
  more_cuts got more held items cuts later =
      subst (λ (b : List ℕ). Cuts b items ((held ++ more) ++ later)) (sym (append_assoc got more later))
      (subst (λ (b : List ℕ). Cuts (got ++ (more ++ later)) items b) (sym (append_assoc held more later)) (cuts (more ++ later)))

  -- the messages up to one more, of which the next bytes are visible
  cut_more : (got more held : List ℕ) (items : List Item) (item : Item) (len : ℕ) → ((later : List ℕ) → Cuts (got ++ later) items (held ++ later)) → ((later : List ℕ) → IsItem ((held ++ more) ++ later) item len)
      → (later : List ℕ) → Cuts ((got ++ more) ++ later) (items ++ item ∷ []) (drop len (held ++ more) ++ later)
  cut_more got more held items item len cuts is later =
      let within : len ≤ length (held ++ more) = subst (λ (b : List ℕ). len ≤ length b) (append-nil (held ++ more)) (item_within ((held ++ more) ++ []) item len (is [])) in
      subst (λ (b : List ℕ). Cuts ((got ++ more) ++ later) (items ++ item ∷ []) b) (drop-append-le len (held ++ more) later within)
      (cuts_on ((got ++ more) ++ later) items item ((held ++ more) ++ later) len (more_cuts got more held items cuts later) (is later))

  -- one message more is answered, and does not close
  pub goes_on : (c0 c c' : C) (left0 left left' before mid after : Option (List ℕ)) (held more kept : List ℕ) (done number : ℕ) → IsTalking c0 c left0 left before mid held done → Took more left left'
      → number ≡ done + 1 → IsReplied R c c' number (held ++ more) kept false mid after → IsTalking c0 c' left0 left' before after kept (done + 1)
  goes_on c0 c c' left0 left left' before mid after held more kept done number talk took at one =
      let long = as_many R c0 c talk.items talk.outcomes talk.runs in record {
        got = talk.got ++ more;
        took = took_on talk.got more left0 left left' talk.took took;
        items = talk.items ++ one.item ∷ [];
        outcomes = talk.outcomes ++ one.outcome ∷ [];
        count = (let e = talk.count in omega (arith, e, length-append talk.items (one.item ∷ [])));
        cuts = λ later. subst (λ (b : List ℕ). Cuts ((talk.got ++ more) ++ later) (talk.items ++ one.item ∷ []) (b ++ later)) (sym one.kept_is)
            (cut_more talk.got more held talk.items one.item one.answered.len talk.cuts one.answered.is later);
        unclosed = any_on talk.items one.item talk.unclosed one.last;
        runs = runs_on R c0 c c' talk.items talk.outcomes one.item one.outcome talk.runs one.answered.goes;
        written = subst (λ (x : List ℕ). Appends x before after) (sym (replies_on 1 number talk.items talk.outcomes one.item one.outcome long (let e = talk.count in omega (arith, e, at))))
            (appends_on (replies 1 talk.items talk.outcomes) (reply_to number one.item one.outcome) before mid after talk.written one.written);
      }

  abbrev talk_of : Option (List ℕ) → Option (List ℕ) → Option (List ℕ) → Option (List ℕ) → Talk
  talk_of left0 left before after = record { left_before = left0; left_after = left; written_before = before; written_after = after }

  -- the session is at its end, over the bytes that were left
  abbrev pub Ends : C → C → Option (List ℕ) → Option (List ℕ) → Option (List ℕ) → Option (List ℕ) → SessionEnd → Type 0
  Ends c0 c left0 left before after end = (bytes : List ℕ) × AreLeft bytes left0 × IsSession R c0 c bytes (talk_of left0 left before after) end

  -- this many messages are answered
  pub full : (c0 c : C) (left0 left before after : Option (List ℕ)) (held : List ℕ) (done : ℕ) → IsTalking c0 c left0 left before after held done → done ≡ most_messages → Ends c0 c left0 left before after LimitReached
  full c0 c left0 left before after held done talk all = (
    talk.got ++ unwrap_or left [],
    are_left talk.got left0 left talk.took,
    record {
      items = talk.items;
      outcomes = talk.outcomes;
      rest = held ++ unwrap_or left [];
      cuts = talk.cuts (unwrap_or left []);
      few = (let e = talk.count in omega (arith, e, all));
      unclosed = open_all talk.items talk.unclosed;
      runs = talk.runs;
      told = (talk.count ∙ all, talk.written);
    },
  )

  -- the bytes up to here are the messages, and later those that are held
  cuts_now : (got more held : List ℕ) (items : List Item) → ((later : List ℕ) → Cuts (got ++ later) items (held ++ later)) → Cuts (got ++ more) items (held ++ more)
  cuts_now got more held items cuts =
      subst (λ (b : List ℕ). Cuts b items (held ++ more)) (append-nil (got ++ more))
      (subst (λ (b : List ℕ). Cuts ((got ++ more) ++ []) items b) (append-nil (held ++ more)) (more_cuts got more held items cuts []))

  all_left : (taken : List ℕ) (before after : Option (List ℕ)) → Took taken before after → IsAtEnd after → AreLeft taken before
  all_left taken None after t at = tt
  all_left taken (Some left) after t at = sym (t.2 ∙ (ap (λ (x : List ℕ). taken ++ x) (subst IsAtEnd t.1 at) ∙ append-nil taken))

  -- the input ended between messages, or inside one
  ended : (c0 c c' : C) (left0 left left' before mid after : Option (List ℕ)) (held more : List ℕ) (done : ℕ) (end : SessionEnd) → IsTalking c0 c left0 left before mid held done → Took more left left'
      → done < most_messages → IsAtEnd left' → ((items : List Item) → length items < most_messages → list_any is_last items ≡ false → IsEnd end items (held ++ more))
      → ((bytes rest : List ℕ) (items : List Item) (outcomes : List Outcome) → IsEnd end items rest → Appends (replies 1 items outcomes) before after → IsTold end bytes (talk_of left0 left' before after) items outcomes rest)
      → IsStill R c c' mid after → Ends c0 c' left0 left' before after end
  ended c0 c c' left0 left left' before mid after held more done end talk took few at over tell still =
      let short : length talk.items < most_messages = (let e = talk.count in omega (arith, e, few)) in (
        talk.got ++ more,
        all_left (talk.got ++ more) left0 left' (took_on talk.got more left0 left left' talk.took took) at,
        record {
          items = talk.items;
          outcomes = talk.outcomes;
          rest = held ++ more;
          cuts = cuts_now talk.got more held talk.items talk.cuts;
          few = omega (arith, short);
          unclosed = open_all talk.items talk.unclosed;
          runs = subst (λ (s : C). Runs R c0 talk.items talk.outcomes s) (sym still.counter) talk.runs;
          told = tell (talk.got ++ more) (held ++ more) talk.items talk.outcomes (over talk.items short talk.unclosed)
              (subst (λ (w : Option (List ℕ)). Appends (replies 1 talk.items talk.outcomes) before w) (sym still.written) talk.written);
        },
      )

  -- one message more is answered, and whatever the link has left follows it
  record IsSaid (c0 c' : C) (left0 left' before mid : Option (List ℕ)) (item : Item) (outcome : Outcome) (number : ℕ) : Type 0 where
    bytes : List ℕ
    items : List Item
    outcomes : List Outcome
    rest : List ℕ
    are : AreLeft bytes left0
    cuts : Cuts bytes (items ++ item ∷ []) rest
    count : length (items ++ item ∷ []) ≡ number
    unclosed : list_any is_last items ≡ false
    runs : Runs R c0 (items ++ item ∷ []) (outcomes ++ outcome ∷ []) c'
    written : Appends (replies 1 items outcomes) before mid
    text : replies 1 (items ++ item ∷ []) (outcomes ++ outcome ∷ []) ≡ replies 1 items outcomes ++ reply_to number item outcome
    text_before : replies 1 (but_last (items ++ item ∷ [])) (outcomes ++ outcome ∷ []) ≡ replies 1 items outcomes

  said : (c0 c c' : C) (left0 left left' before mid : Option (List ℕ)) (held more : List ℕ) (done number : ℕ) (item : Item) (outcome : Outcome) → IsTalking c0 c left0 left before mid held done → Took more left left'
      → number ≡ done + 1 → IsAnswered R c c' (held ++ more) item outcome → IsSaid c0 c' left0 left' before mid item outcome number
  said c0 c c' left0 left left' before mid held more done number item outcome talk took at one =
      let long = as_many R c0 c talk.items talk.outcomes talk.runs in record {
        bytes = (talk.got ++ more) ++ unwrap_or left' [];
        items = talk.items;
        outcomes = talk.outcomes;
        rest = drop one.len (held ++ more) ++ unwrap_or left' [];
        are = are_left (talk.got ++ more) left0 left' (took_on talk.got more left0 left left' talk.took took);
        cuts = cut_more talk.got more held talk.items item one.len talk.cuts one.is (unwrap_or left' []);
        count = (let e = talk.count in omega (arith, e, at, length-append talk.items (item ∷ [])));
        unclosed = talk.unclosed;
        runs = runs_on R c0 c c' talk.items talk.outcomes item outcome talk.runs one.goes;
        written = talk.written;
        text = replies_on 1 number talk.items talk.outcomes item outcome long (let e = talk.count in omega (arith, e, at));
        text_before = ap (λ (is : List Item). replies 1 is (talk.outcomes ++ outcome ∷ [])) (but_last_on talk.items item) ∙ replies_before 1 talk.items talk.outcomes (outcome ∷ []) long;
      }

  at_limit : (done : ℕ) (items : List Item) (rest : List ℕ) (b : Bool) → (done == 99) ≡ b → length items ≡ done + 1 → done < most_messages → closes_last items ≡ true
      → IsEnd (if b then LimitReached else EndsOpen) items rest
  at_limit done items rest true e long few closes = grind (arith, nat_tests)
  at_limit done items rest false e long few closes = (grind (arith, nat_tests), inl closes)

  told_last : (done : ℕ) (bytes : List ℕ) (talk : Talk) (items : List Item) (outcomes : List Outcome) (rest : List ℕ) (b : Bool) → IsEnd (if b then LimitReached else EndsOpen) items rest
      → Appends (replies 1 items outcomes) talk.written_before talk.written_after → IsTold (if b then LimitReached else EndsOpen) bytes talk items outcomes rest
  told_last done bytes talk items outcomes rest true is written = (is, written)
  told_last done bytes talk items outcomes rest false is written = (is, written)

  last : (c0 c c' : C) (left0 left left' before mid after : Option (List ℕ)) (held more kept : List ℕ) (done number : ℕ) → IsTalking c0 c left0 left before mid held done → Took more left left'
      → number ≡ done + 1 → done < most_messages → IsReplied R c c' number (held ++ more) kept true mid after → Ends c0 c' left0 left' before after (end_of Last done)
  last c0 c c' left0 left left' before mid after held more kept done number talk took at few one =
      let s = said c0 c c' left0 left left' before mid held more done number one.item one.outcome talk took at one.answered in
      let long : length (s.items ++ one.item ∷ []) ≡ done + 1 = s.count ∙ at in (
        s.bytes,
        s.are,
        record {
          items = s.items ++ one.item ∷ [];
          outcomes = s.outcomes ++ one.outcome ∷ [];
          rest = s.rest;
          cuts = s.cuts;
          few = omega (arith, long, few);
          unclosed = open_on s.items one.item s.unclosed;
          runs = s.runs;
          told = told_last done s.bytes (talk_of left0 left' before after) (s.items ++ one.item ∷ []) (s.outcomes ++ one.outcome ∷ []) s.rest (done == 99)
              (at_limit done (s.items ++ one.item ∷ []) s.rest (done == 99) refl long few (closes_on s.items one.item ∙ one.last))
              (subst (λ (x : List ℕ). Appends x before after) (sym s.text) (appends_on (replies 1 s.items s.outcomes) (reply_to number one.item one.outcome) before mid after s.written one.written));
        },
      )

  unread : (c0 c c' : C) (left0 left left' before mid after : Option (List ℕ)) (held more : List ℕ) (done : ℕ) → IsTalking c0 c left0 left before mid held done → Took more left left'
      → done < most_messages → IsUnfinished (held ++ more) → IsStill R c c' mid after → Ends c0 c' left0 left' before after LinkFault
  unread c0 c c' left0 left left' before mid after held more done talk took few part still = (
    (talk.got ++ more) ++ unwrap_or left' [],
    are_left (talk.got ++ more) left0 left' (took_on talk.got more left0 left left' talk.took took),
    record {
      items = talk.items;
      outcomes = talk.outcomes;
      rest = (held ++ more) ++ unwrap_or left' [];
      cuts = more_cuts talk.got more held talk.items talk.cuts (unwrap_or left' []);
      few = (let e = talk.count in omega (arith, e, few));
      unclosed = open_all talk.items talk.unclosed;
      runs = subst (λ (s : C). Runs R c0 talk.items talk.outcomes s) (sym still.counter) talk.runs;
      told = inl (record {
        taken = talk.got ++ more;
        rest = held ++ more;
        took = took_on talk.got more left0 left left' talk.took took;
        cuts = cuts_now talk.got more held talk.items talk.cuts;
        unfinished = part;
        fewer = (let e = talk.count in omega (arith, e, few));
        unclosed = talk.unclosed;
        written = subst (λ (w : Option (List ℕ)). Appends (replies 1 talk.items talk.outcomes) before w) (sym still.written) talk.written;
      });
    },
  )

  unwritten : (c0 c c' : C) (left0 left left' before mid after : Option (List ℕ)) (held more : List ℕ) (done number : ℕ) → IsTalking c0 c left0 left before mid held done → Took more left left'
      → number ≡ done + 1 → done < most_messages → IsCutOff R c c' number (held ++ more) mid after → Ends c0 c' left0 left' before after LinkFault
  unwritten c0 c c' left0 left left' before mid after held more done number talk took at few one =
      let s = said c0 c c' left0 left left' before mid held more done number one.item one.outcome talk took at one.answered in
      let long : length (s.items ++ one.item ∷ []) ≡ done + 1 = s.count ∙ at in
      let first = replies 1 s.items s.outcomes in
      let fewer = one.fewer in (
        s.bytes,
        s.are,
        record {
          items = s.items ++ one.item ∷ [];
          outcomes = s.outcomes ++ one.outcome ∷ [];
          rest = s.rest;
          cuts = s.cuts;
          few = omega (arith, long, few);
          unclosed = open_on s.items one.item s.unclosed;
          runs = s.runs;
          told = inr (record {
            count = length first + one.count;
            more = (let e = ap length s.text_before in omega (arith, e));
            fewer = (let e = ap length s.text in omega (arith, e, fewer, length-append first (reply_to number one.item one.outcome)));
            written = subst (λ (x : List ℕ). Appends (take (length first + one.count) x) before after) (sym s.text)
                (subst (λ (x : List ℕ). Appends x before after) (sym (take-append-add first (reply_to number one.item one.outcome) one.count))
                (appends_on first (take one.count (reply_to number one.item one.outcome)) before mid after s.written one.written));
          });
        },
      )

  pub stops : (c0 c c' : C) (left0 left left' before mid after : Option (List ℕ)) (held more kept : List ℕ) (done number : ℕ) (step : Step) → IsTalking c0 c left0 left before mid held done → Took more left left'
      → number ≡ done + 1 → done < most_messages → step ≢ Next → IsStep R c c' number (held ++ more) kept (IsAtEnd left') mid after step → Ends c0 c' left0 left' before after (end_of step done)
  stops c0 c c' left0 left left' before mid after held more kept done number Next talk took at few not is = absurd (not refl)
  stops c0 c c' left0 left left' before mid after held more kept done number Last talk took at few not is = last c0 c c' left0 left left' before mid after held more kept done number talk took at few is
  stops c0 c c' left0 left left' before mid after held more kept done number Ended talk took at few not is =
      ended c0 c c' left0 left left' before mid after held more done EndsOpen talk took few is.0 (λ items short none. (short, inr (none, is.1))) (λ bytes rest items outcomes e w. (e, w)) is.2
  stops c0 c c' left0 left left' before mid after held more kept done number Torn talk took at few not is =
      ended c0 c c' left0 left left' before mid after held more done EndsTorn talk took few is.0 (λ items short none. (short, none, is.1)) (λ bytes rest items outcomes e w. (e, w)) is.2
  stops c0 c c' left0 left left' before mid after held more kept done number Unread talk took at few not is = unread c0 c c' left0 left left' before mid after held more done talk took few is.0 is.1
  stops c0 c c' left0 left left' before mid after held more kept done number Unwritten talk took at few not is = unwritten c0 c c' left0 left left' before mid after held more done number talk took at few is

not_faulty : (b : Bool) → (if b then LimitReached else EndsOpen) ≡ LinkFault → ⊥
not_faulty true e = cc
not_faulty false e = cc

pub neither : (A B : Type 0) → ¬ A → ¬ B → ¬ (A ⊎ B)
neither A B a b either = elim either [
  | inl h ↦ a h
  | inr h ↦ b h
]

-- a session ends with a fault of the link if and only if the step does
pub faulty : (step : Step) (done : ℕ) → end_of step done ≡ LinkFault → (step ≡ Unwritten) ⊎ (step ≡ Unread)
faulty Next done e = absurd (cc)
faulty Last done e = absurd (not_faulty _ e)
faulty Ended done e = absurd (cc)
faulty Torn done e = absurd (cc)
faulty Unread done e = inr refl
faulty Unwritten done e = inl refl

pub sound : (step : Step) (done : ℕ) → end_of step done ≢ LinkFault → ¬ ((step ≡ Unwritten) ⊎ (step ≡ Unread))
sound Next done safe = neither _ _ (λ e. cc) (λ e. cc)
sound Last done safe = neither _ _ (λ e. cc) (λ e. cc)
sound Ended done safe = neither _ _ (λ e. cc) (λ e. cc)
sound Torn done safe = neither _ _ (λ e. cc) (λ e. cc)
sound Unread done safe = absurd (safe refl)
sound Unwritten done safe = absurd (safe refl)
