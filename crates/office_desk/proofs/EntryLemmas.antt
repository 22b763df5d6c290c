-- Entries that are a pass's own.
use Rattle.std.proofs.Common.{◌≡◌, ◌+◌, ◌<◌, ◌≤◌, ℕ, List, [], ◌∷◌, ◌++◌, length, map, Bool, true, false, ◌||◌, nat_lt, inl, inr, ◌⊎◌, sym, refl, ap, ◌∙◌, subst, arith, append_assoc, append-nil, length-append}
use Rattle.std.specs.Prelude.{◌==◌, cond}
use Rattle.std.specs.List.{AllByRecursion, list_any}
use Rattle.std.proofs.lemmas.Bool.{cond-true, cond-false}
use Rattle.std.proofs.lemmas.Bool.Decides.{nat_tests}
use Rattle.std.proofs.lemmas.List.{nil_from_length}
use Rattle.std.proofs.lemmas.List.Elements.{filter-append}
use Rattle.std.proofs.lemmas.List.Folds.{list_any-append}
use mathlib.Core.Logic.{dite}
use native.Mathlib.Decide.{dec_le}
use Rattle.office_base.proofs.Lists.{all_weaker}
use Rattle.office_desk.specs.Totals.{times}
use Rattle.office_desk.specs.Own.{Begins, longer, AreMerged, AppendsAtMost, among, HasSeen}
use Rattle.office_desk.proofs.TicketLemmas.{is_ticket, no_ticket, times_append, times_past, times_here, times_else}

-- what holds of each element
module _ {X : Type 0} (P : X → Type 0) where
  pub all_from_map : {Y : Type 0} (f : Y → X) (ys : List Y) → AllByRecursion P (map f ys) → AllByRecursion (λ y. P (f y)) ys
  all_from_map f [] all = tt
  all_from_map f (y ∷ ys) all = (all.0, all_from_map f ys all.1)

module _ {I : Type 0} where
  -- of two prefixes of one list the shorter begins the longer
  pub prefix_split : (xs ys r q : List I) → xs ++ r ≡ ys ++ q → length xs ≤ length ys → (m : List I) × (ys ≡ xs ++ m) × (r ≡ m ++ q)
  prefix_split [] ys r q e le = (ys, refl, e)
  prefix_split (x ∷ xs) [] r q e le = absurd (omega (arith, le))
  prefix_split (x ∷ xs) (y ∷ ys) r q e le =
      let head : x ≡ y = cc in
      let tail : xs ++ r ≡ ys ++ q = cc in
      let back = prefix_split xs ys r q tail (omega (arith, le)) in
      (back.0, (λ i. sym head i ∷ back.1 i), back.2)

  pub append_none : (xs ys : List I) → xs ++ ys ≡ [] → (xs ≡ []) × (ys ≡ [])
  append_none [] ys e = (refl, e)
  append_none (x ∷ xs) ys e = absurd cc

  pub longer_second : (xs ys : List I) → length xs < length ys → longer xs ys ≡ ys
  longer_second xs ys lt = cond-true (nat_lt (length xs) (length ys)) ys xs (grind (arith, nat_tests))

  pub longer_first : (xs ys : List I) → length ys ≤ length xs → longer xs ys ≡ xs
  longer_first xs ys le = cond-false (nat_lt (length xs) (length ys)) ys xs (grind (arith, nat_tests))

module _ {I : Type 0} where
  -- a prefix that is as long as the list is the list
  pub prefix_whole : (xs ys rest : List I) → ys ≡ xs ++ rest → length ys ≤ length xs → xs ≡ ys
  prefix_whole xs ys rest e le =
      let sum : length ys ≡ length xs + length rest = ap length e ∙ length-append xs rest in
      let nothing : rest ≡ [] = nil_from_length rest (omega (arith, sum, le)) in
      sym (e ∙ ap (λ l. xs ++ l) nothing ∙ append-nil xs)

  pub longer_length : (xs ys : List I) → (length xs ≤ length (longer xs ys)) × (length ys ≤ length (longer xs ys))
  longer_length xs ys = dite (dec_le (length ys) (length xs))
      (λ le. let same = ap length (longer_first xs ys le) in (omega (arith, same), omega (arith, same, le)))
      (λ other. let same = ap length (longer_second xs ys (omega (arith, other))) in (omega (arith, same, other), omega (arith, same)))

module _ {I : Type 0} (number : I → ℕ) where
  abbrev own : List ℕ → I → Bool
  own tickets e = list_any (λ t. number e == t) tickets

  pub among_in : (ts : List ℕ) (e : I) (es : List I) → own ts e ≡ true → among number ts (e ∷ es) ≡ e ∷ among number ts es
  among_in ts e es is = cond-true (own ts e) (e ∷ among number ts es) (among number ts es) is

  pub among_out : (ts : List ℕ) (e : I) (es : List I) → own ts e ≡ false → among number ts (e ∷ es) ≡ among number ts es
  among_out ts e es is = cond-false (own ts e) (e ∷ among number ts es) (among number ts es) is

  pub among-append : (ts : List ℕ) (es fs : List I) → among number ts (es ++ fs) ≡ among number ts es ++ among number ts fs
  among-append ts es fs = filter-append (own ts) es fs

  -- nothing is own without a ticket
  pub among_no_tickets : (es : List I) → among number [] es ≡ []
  among_no_tickets [] = refl
  among_no_tickets (e ∷ es) = among_out [] e es refl ∙ among_no_tickets es

  pub among_none : (ts : List ℕ) (es : List I) → AllByRecursion (λ e. times (number e) ts ≡ 0) es → among number ts es ≡ []
  among_none ts [] all = refl
  among_none ts (e ∷ es) all = among_out ts e es (no_ticket (number e) ts all.0) ∙ among_none ts es all.1

  pub among_all : (ts : List ℕ) (es : List I) → AllByRecursion (λ e. 1 ≤ times (number e) ts) es → among number ts es ≡ es
  among_all ts [] all = refl
  among_all ts (e ∷ es) all = among_in ts e es (is_ticket (number e) ts all.0) ∙ ap (λ l. e ∷ l) (among_all ts es all.1)

  -- tickets that none of the entries has add nothing
  pub among_more : (ts us : List ℕ) (es : List I) → AllByRecursion (λ e. times (number e) us ≡ 0) es → among number (ts ++ us) es ≡ among number ts es
  among_more ts us [] all = refl
  among_more ts us (e ∷ es) all =
      let same : own (ts ++ us) e ≡ own ts e = list_any-append (λ t. number e == t) ts us ∙ ap (λ b. own ts e || b) (no_ticket (number e) us all.0) ∙ or_false (own ts e) in
      let back = among_more ts us es all.1 in
      λ i. cond (same i) (e ∷ back i) (back i)
    where
      or_false : (b : Bool) → (b || false) ≡ b
      or_false true = refl
      or_false false = refl

  own-append : (ts us : List ℕ) (e : I) (b c : Bool) → own ts e ≡ b → own us e ≡ c → own (ts ++ us) e ≡ (b || c)
  own-append ts us e b c is is' = list_any-append (λ t. number e == t) ts us ∙ (λ i. is i || is' i)

  neither : (ts us : List ℕ) (e : I) (es : List I) (b c : Bool) → own ts e ≡ b → own us e ≡ c → (among number ts es ≡ [] → among number us es ≡ [] → among number (ts ++ us) es ≡ [])
      → among number ts (e ∷ es) ≡ [] → among number us (e ∷ es) ≡ [] → among number (ts ++ us) (e ∷ es) ≡ []
  neither ts us e es true c is is' back none none' = let bad = sym (among_in ts e es is) ∙ none in absurd cc
  neither ts us e es false true is is' back none none' = let bad = sym (among_in us e es is') ∙ none' in absurd cc
  neither ts us e es false false is is' back none none' =
      among_out (ts ++ us) e es (own-append ts us e false false is is') ∙ back (sym (among_out ts e es is) ∙ none) (sym (among_out us e es is') ∙ none')

  -- entries that are own neither of the one nor of the other are not own of both
  pub among_both_none : (ts us : List ℕ) (es : List I) → among number ts es ≡ [] → among number us es ≡ [] → among number (ts ++ us) es ≡ []
  among_both_none ts us [] none none' = refl
  among_both_none ts us (e ∷ es) none none' = neither ts us e es (own ts e) (own us e) refl refl (among_both_none ts us es) none none'

  once : (n : ℕ) (ts us : List ℕ) → list_any (λ t. n == t) ts ≡ true → list_any (λ t. n == t) us ≡ true → times n ts + times n us ≤ 1 → ⊥
  once n ts us is is' le = dite (dec_le 1 (times n ts))
      (λ here. dite (dec_le 1 (times n us)) (λ there. omega (arith, here, there, le)) (λ none. let not_there = no_ticket n us (omega (arith, none)) in absurd cc))
      (λ none. let not_there = no_ticket n ts (omega (arith, none)) in absurd cc)

  merged_more : (ts us : List ℕ) (e : I) (es : List I) (b c : Bool) → own ts e ≡ b → own us e ≡ c → times (number e) ts + times (number e) us ≤ 1
      → AreMerged (among number ts es) (among number us es) (among number (ts ++ us) es)
      → AreMerged (among number ts (e ∷ es)) (among number us (e ∷ es)) (among number (ts ++ us) (e ∷ es))
  merged_more ts us e es true true is is' le back = absurd (once (number e) ts us is is' le)
  merged_more ts us e es true false is is' le back = rw (among_in (ts ++ us) e es (own-append ts us e true false is is'), among_in ts e es is, among_out us e es is')
      (inl (among number ts es, refl, back))
  merged_more ts us e es false true is is' le back = rw (among_in (ts ++ us) e es (own-append ts us e false true is is'), among_out ts e es is, among_in us e es is')
      (inr (among number us es, refl, back))
  merged_more ts us e es false false is is' le back = rw (among_out (ts ++ us) e es (own-append ts us e false false is is'), among_out ts e es is, among_out us e es is') back

  -- tickets that are apart: the entries of both are the entries of the one and the entries of the other
  pub merged : (ts us : List ℕ) → ((n : ℕ) → times n ts + times n us ≤ 1) → (es : List I) → AreMerged (among number ts es) (among number us es) (among number (ts ++ us) es)
  merged ts us apart [] = (refl, refl)
  merged ts us apart (e ∷ es) = merged_more ts us e es (own ts e) (own us e) refl refl (apart (number e)) (merged ts us apart es)

  -- Two prefixes of one history, each with all entries that are own there
  pub seen_extends : (ts : List ℕ) (seen more rest : List I) → among number ts (more ++ rest) ≡ [] → among number ts (seen ++ more) ≡ among number ts seen
  seen_extends ts seen more rest none =
      let nothing = (append_none (among number ts more) (among number ts rest) (sym (among-append ts more rest) ∙ none)).0 in
      among-append ts seen more ∙ ap (λ l. among number ts seen ++ l) nothing ∙ append-nil (among number ts seen)

  pub rest_none : (ts : List ℕ) (more rest : List I) → among number ts (more ++ rest) ≡ [] → among number ts rest ≡ []
  rest_none ts more rest none = (append_none (among number ts more) (among number ts rest) (sym (among-append ts more rest) ∙ none)).1

  -- what two views have seen, seen from the longer one
  pub record AreSeen (ts us : List ℕ) (seen seen' history : List I) : Type 0 where
    pub lists : (Begins seen seen' × (longer seen seen' ≡ seen')) ⊎ (Begins seen' seen × (longer seen seen' ≡ seen))
    pub all : HasSeen number (ts ++ us) (longer seen seen') history
    pub first : among number ts (longer seen seen') ≡ among number ts seen
    pub second : among number us (longer seen seen') ≡ among number us seen'

  seen_second : (ts us : List ℕ) (seen seen' history : List I) → HasSeen number ts seen history → HasSeen number us seen' history → length seen < length seen' → AreSeen ts us seen seen' history
  seen_second ts us seen seen' history h k lt =
      let r = h.0 in let q = k.0 in
      let m = prefix_split seen seen' r q (sym h.1 ∙ k.1) (omega (arith, lt)) in
      let is = longer_second seen seen' lt in
      let none : among number ts (m.0 ++ q) ≡ [] = ap (among number ts) (sym m.2) ∙ h.2 in
      record {
        lists = inl ((m.0, m.1), is);
        all = (q, k.1 ∙ ap (λ l. l ++ q) (sym is), among_both_none ts us q (rest_none ts m.0 q none) k.2);
        first = ap (among number ts) (is ∙ m.1) ∙ seen_extends ts seen m.0 q none;
        second = ap (among number us) is;
      }

  seen_first : (ts us : List ℕ) (seen seen' history : List I) → HasSeen number ts seen history → HasSeen number us seen' history → length seen' ≤ length seen → AreSeen ts us seen seen' history
  seen_first ts us seen seen' history h k le =
      let r = h.0 in let q = k.0 in
      let m = prefix_split seen' seen q r (sym k.1 ∙ h.1) le in
      let is = longer_first seen seen' le in
      let none : among number us (m.0 ++ r) ≡ [] = ap (among number us) (sym m.2) ∙ k.2 in
      record {
        lists = inr ((m.0, m.1), is);
        all = (r, h.1 ∙ ap (λ l. l ++ r) (sym is), among_both_none ts us r h.2 (rest_none us m.0 r none));
        first = ap (among number ts) is;
        second = ap (among number us) (is ∙ m.1) ∙ seen_extends us seen' m.0 r none;
      }

  pub both_seen : (ts us : List ℕ) (seen seen' history : List I) → HasSeen number ts seen history → HasSeen number us seen' history → AreSeen ts us seen seen' history
  both_seen ts us seen seen' history h k = dite (dec_le (length seen') (length seen)) (seen_first ts us seen seen' history h k)
      (λ other. seen_second ts us seen seen' history h k (omega (arith, other)))

  -- a turn appends nothing, or the entry of its ticket, which nobody else has
  pub seen_later : (ts : List ℕ) (seen history later : List I) (n : ℕ) → HasSeen number ts seen history → AllByRecursion (λ t. t < n) ts → AppendsAtMost number n history later → HasSeen number ts seen later
  seen_later ts seen history later n h past (inl same) = (h.0, same ∙ h.1, h.2)
  seen_later ts seen history later n h past (inr more) =
      let e = more.0 in
      let none : times (number e) ts ≡ 0 = times_past n (number e) ts past (omega (arith, more.1)) in (
        h.0 ++ e ∷ [],
        more.2 ∙ ap (λ l. l ++ e ∷ []) h.1 ∙ append_assoc seen h.0 (e ∷ []),
        among-append ts h.0 (e ∷ []) ∙ (λ i. h.2 i ++ among_none ts (e ∷ []) (none, tt) i),
      )

  none_at : (n : ℕ) (es : List I) → AllByRecursion (λ e. number e < n) es → AllByRecursion (λ e. times (number e) (n ∷ []) ≡ 0) es
  none_at n es below = all_weaker (λ e. number e < n) (λ e. times (number e) (n ∷ []) ≡ 0) (λ e lt. times_else (number e) n [] (λ same. absurd (omega (arith, same, lt)))) es below

  own_before : (ts : List ℕ) (seen history : List I) (n : ℕ) → HasSeen number ts seen history → AllByRecursion (λ e. number e < n) history
      → among number (ts ++ n ∷ []) history ≡ among number ts seen
  own_before ts seen history n h below =
      among_more ts (n ∷ []) history (none_at n history below)
      ∙ ap (among number ts) h.1 ∙ among-append ts seen h.0 ∙ ap (λ l. among number ts seen ++ l) h.2 ∙ append-nil (among number ts seen)

  -- a pass's own entries after a turn
  pub own_after : (ts : List ℕ) (seen history later : List I) (n : ℕ) → HasSeen number ts seen history → AllByRecursion (λ e. number e < n) history → AppendsAtMost number n history later
      → ((later ≡ history) × (among number (ts ++ n ∷ []) later ≡ among number ts seen))
      ⊎ ((e : I) × (number e ≡ n) × (later ≡ history ++ e ∷ []) × (among number (ts ++ n ∷ []) later ≡ among number ts seen ++ e ∷ []))
  own_after ts seen history later n h below (inl same) =
      inl (same, ap (among number (ts ++ n ∷ [])) same ∙ own_before ts seen history n h below)
  own_after ts seen history later n h below (inr more) =
      let e = more.0 in
      let here : 1 ≤ times (number e) (ts ++ n ∷ []) = (let one = times_append (number e) ts (n ∷ []) in
      let new : times (number e) (n ∷ []) ≡ 1 = subst (λ k. times (number e) (k ∷ []) ≡ 1) more.1 (times_here (number e) []) in omega (arith, one, new)) in
      inr (
        e,
        more.1,
        more.2,
        ap (among number (ts ++ n ∷ [])) more.2 ∙ among-append (ts ++ n ∷ []) history (e ∷ [])
            ∙ (λ i. own_before ts seen history n h below i ++ among_all (ts ++ n ∷ []) (e ∷ []) (here, tt) i),
      )
