-- A session from message to message.
use Rattle.std.proofs.Common.{◌≡◌, ◌≢◌, ◌<◌, ◌≤◌, ◌+◌, ◌⊎◌, inl, inr, ℕ, true, false, not, ◌&&◌, List, [], ◌∷◌, ◌++◌, Option, Some, None, Result, length, take, drop, arith, refl, sym, ap, subst, ◌∙◌, append_assoc, length-append}
use Rattle.std.proofs.lemmas.List.{append-nil}
use Rattle.std.specs.List.{list_any}
use Rattle.std.specs.Option.{unwrap_or}
use Rattle.std.proofs.lemmas.Bool.{or_parts}
use Rattle.office_base.specs.Outside.{Appends, AreLeft, Took}
use Rattle.office_asks.specs.declared.ask.Ask.{Ask}
use Rattle.http_wire.specs.Messages.{IsTorn, IsUnfinished}
use Rattle.http_sessions.specs.Exchange.{Item, Outcome, IsItem, Cuts, Goes, Runs, reply_to, replies, is_last, open_before, closes_last, but_last}
use Rattle.http_sessions.specs.Steps.{IsAnswered, IsReplied, IsCutOff, IsStill, IsStep}
use Rattle.http_sessions.specs.declared.counter.Answered.{Answered}
use Rattle.http_wire.specs.declared.faults.Fault.{Fault}

-- ---- bytes taken and written, one after another

pub took_on : (a b : List ℕ) (first mid last : Option (List ℕ)) → Took a first mid → Took b mid last → Took (a ++ b) first last
took_on a b None mid last t u = subst (λ (m : Option (List ℕ)). Took b m last) t u
took_on a b (Some left) mid last t u =
    let v : Took b (Some t.0) last = subst (λ (m : Option (List ℕ)). Took b m last) t.1 u in
    (v.0, v.1, t.2 ∙ (ap (λ (x : List ℕ). a ++ x) v.2 ∙ sym (append_assoc a b v.0)))

pub appends_on : (a b : List ℕ) (first mid last : Option (List ℕ)) → Appends a first mid → Appends b mid last → Appends (a ++ b) first last
appends_on a b None mid last t u = subst (λ (m : Option (List ℕ)). Appends b m last) t u
appends_on a b (Some bytes) mid last t u = subst (λ (m : Option (List ℕ)). Appends b m last) t u ∙ ap Some (append_assoc bytes a b)

-- what was taken and what is left, if it is visible, are what was left before
pub are_left : (taken : List ℕ) (before after : Option (List ℕ)) → Took taken before after → AreLeft (taken ++ unwrap_or after []) before
are_left taken None after t = tt
are_left taken (Some left) after t = ap (λ (m : Option (List ℕ)). taken ++ unwrap_or m []) t.1 ∙ sym t.2

-- ---- one message more

pub cuts_on : (bytes : List ℕ) (items : List Item) (item : Item) (rest : List ℕ) (len : ℕ) → Cuts bytes items rest → IsItem rest item len → Cuts bytes (items ++ item ∷ []) (drop len rest)
cuts_on bytes [] item rest len same is = (len, subst (λ (b : List ℕ). IsItem b item len) same is, ap (drop len) same)
cuts_on bytes (first ∷ items) item rest len c is = (c.0, c.1, cuts_on (drop c.0 bytes) items item rest len c.2 is)

module _ {C : Type 0} (R : C → Option (List ℕ) → Ask → Result Answered Fault → C → Type 0) where
  pub runs_on : (c mid c' : C) (items : List Item) (outcomes : List Outcome) (item : Item) (outcome : Outcome) → Runs R c items outcomes mid → Goes R mid item outcome c' → Runs R c (items ++ item ∷ []) (outcomes ++ outcome ∷ []) c'
  runs_on c mid c' [] [] item outcome same goes = (c', subst (λ (s : C). Goes R s item outcome c') same goes, refl)
  runs_on c mid c' [] (o ∷ os) item outcome r goes = absurd r
  runs_on c mid c' (i ∷ is) [] item outcome r goes = absurd r
  runs_on c mid c' (i ∷ is) (o ∷ os) item outcome r goes = (r.0, r.1, runs_on r.0 mid c' is os item outcome r.2 goes)

  pub as_many : (c c' : C) (items : List Item) (outcomes : List Outcome) → Runs R c items outcomes c' → length outcomes ≡ length items
  as_many c c' [] [] r = refl
  as_many c c' [] (o ∷ os) r = absurd r
  as_many c c' (i ∷ is) [] r = absurd r
  as_many c c' (i ∷ is) (o ∷ os) r = let e = as_many r.0 c' is os r.2 in omega (arith, e)

pub replies_on : (n k : ℕ) (items : List Item) (outcomes : List Outcome) (item : Item) (outcome : Outcome) → length outcomes ≡ length items → k ≡ n + length items
    → replies n (items ++ item ∷ []) (outcomes ++ outcome ∷ []) ≡ replies n items outcomes ++ reply_to k item outcome
replies_on n k [] [] item outcome e at = append-nil (reply_to n item outcome) ∙ ap (λ (j : ℕ). reply_to j item outcome) (omega (arith, at))
replies_on n k [] (o ∷ os) item outcome e at = absurd (omega (arith, e))
replies_on n k (i ∷ is) [] item outcome e at = absurd (omega (arith, e))
replies_on n k (i ∷ is) (o ∷ os) item outcome e at =
    ap (λ (x : List ℕ). reply_to n i o ++ x) (replies_on (n + 1) k is os item outcome (omega (arith, e)) (omega (arith, at)))
    ∙ sym (append_assoc (reply_to n i o) (replies (n + 1) is os) (reply_to k item outcome))

pub replies_before : (n : ℕ) (items : List Item) (outcomes more : List Outcome) → length outcomes ≡ length items → replies n items (outcomes ++ more) ≡ replies n items outcomes
replies_before n [] outcomes more e = refl
replies_before n (i ∷ is) [] more e = absurd (omega (arith, e))
replies_before n (i ∷ is) (o ∷ os) more e = ap (λ (x : List ℕ). reply_to n i o ++ x) (replies_before (n + 1) is os more (omega (arith, e)))

pub open_on : (items : List Item) (item : Item) → list_any is_last items ≡ false → open_before (items ++ item ∷ []) ≡ true
open_on [] item e = refl
open_on (i ∷ []) item e = let f = or_parts i.closes false e in rw f.0 refl
open_on (i ∷ j ∷ is) item e = let f = or_parts i.closes (list_any is_last (j ∷ is)) e in rw f.0 (open_on (j ∷ is) item f.1)

pub any_on : (items : List Item) (item : Item) → list_any is_last items ≡ false → item.closes ≡ false → list_any is_last (items ++ item ∷ []) ≡ false
any_on [] item e shut = rw shut refl
any_on (i ∷ is) item e shut = let f = or_parts i.closes (list_any is_last is) e in rw f.0 (any_on is item f.1 shut)

pub closes_on : (items : List Item) (item : Item) → closes_last (items ++ item ∷ []) ≡ item.closes
closes_on [] item = refl
closes_on (i ∷ []) item = refl
closes_on (i ∷ j ∷ is) item = closes_on (j ∷ is) item

pub but_last_on : (items : List Item) (item : Item) → but_last (items ++ item ∷ []) ≡ items
but_last_on [] item = refl
but_last_on (i ∷ []) item = refl
but_last_on (i ∷ j ∷ is) item = ap (λ (x : List Item). i ∷ x) (but_last_on (j ∷ is) item)

pub open_all : (items : List Item) → list_any is_last items ≡ false → open_before items ≡ true
open_all [] e = refl
open_all (i ∷ []) e = refl
open_all (i ∷ j ∷ is) e = let f = or_parts i.closes (list_any is_last (j ∷ is)) e in rw f.0 (open_all (j ∷ is) f.1)
