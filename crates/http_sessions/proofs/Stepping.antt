-- One message: what is visible of it.
use Rattle.std.proofs.Common.{◌≡◌, ◌<◌, ◌+◌, ℕ, Bool, true, false, List, [], ◌∷◌, ◌++◌, Option, Result, length, take, drop, arith, refl, sym, ap, subst, ◌∙◌}
use Rattle.std.proofs.lemmas.List.{append-nil, nil_from_length}
use Rattle.office_base.specs.Outside.{Appends}
use Rattle.office_asks.specs.declared.ask.Ask.{Ask}
use Rattle.http_wire.specs.Messages.{IsTorn, IsUnfinished}
use Rattle.http_sessions.specs.Exchange.{Item, Outcome, IsItem, Goes, reply_to}
use Rattle.http_sessions.specs.Steps.{IsSent, IsStep, IsStill, step_of}
use Rattle.http_sessions.specs.declared.counter.Answered.{Answered}
use Rattle.http_wire.specs.declared.faults.Fault.{Fault}
use Rattle.http_sessions.specs.declared.messages.Step.{Step}
use Rattle.http_sessions.specs.declared.messages.Step.TheVariants.{Next, Last, Ended, Torn, Unread, Unwritten}

module _ {C : Type 0} (R : C → Option (List ℕ) → Ask → Result Answered Fault → C → Type 0) where
  pub sent_step : (c c' : C) (number : ℕ) (held kept : List ℕ) (ended : Type 0) (before after : Option (List ℕ)) (step : Step) (text : List ℕ) (last : Bool) (len : ℕ) (item : Item) (outcome : Outcome)
      → ((more : List ℕ) → IsItem (held ++ more) item len) → last ≡ item.closes → Goes R c item outcome c' → text ≡ reply_to number item outcome → IsSent text last len held kept before after step
      → IsStep R c c' number held kept ended before after step
  sent_step c c' number held kept ended before after Next text last len item outcome is closes goes e sent = record {
    item = item;
    outcome = outcome;
    answered = record { len = len; is = is; goes = goes };
    last = sym closes ∙ sent.0;
    kept_is = sent.1;
    written = subst (λ (t : List ℕ). Appends t before after) e sent.2;
  }
  sent_step c c' number held kept ended before after Last text last len item outcome is closes goes e sent = record {
    item = item;
    outcome = outcome;
    answered = record { len = len; is = is; goes = goes };
    last = sym closes ∙ sent.0;
    kept_is = sent.1;
    written = subst (λ (t : List ℕ). Appends t before after) e sent.2;
  }
  sent_step c c' number held kept ended before after Ended text last len item outcome is closes goes e sent = absurd sent
  sent_step c c' number held kept ended before after Torn text last len item outcome is closes goes e sent = absurd sent
  sent_step c c' number held kept ended before after Unread text last len item outcome is closes goes e sent = absurd sent
  sent_step c c' number held kept ended before after Unwritten text last len item outcome is closes goes e sent = record {
    item = item;
    outcome = outcome;
    answered = record { len = len; is = is; goes = goes };
    count = sent.0;
    fewer = subst (λ (t : List ℕ). sent.0 < length t) e sent.1;
    written = subst (λ (t : List ℕ). Appends (take sent.0 t) before after) e sent.2;
  }

  -- the same from where the reads began
  pub from_begin : (c0 c c' : C) (number : ℕ) (begun got held kept : List ℕ) (ended : Type 0) (w0 w w' : Option (List ℕ)) (step : Step) → held ≡ begun ++ got → c ≡ c0 → w ≡ w0
      → IsStep R c c' number held kept ended w w' step → IsStep R c0 c' number (begun ++ got) kept ended w0 w' step
  from_begin c0 c c' number begun got held kept ended w0 w w' step h k e is =
      subst (λ (x : List ℕ). IsStep R c0 c' number x kept ended w0 w' step) h
      (subst (λ (x : C). IsStep R x c' number held kept ended w0 w' step) k (subst (λ (x : Option (List ℕ)). IsStep R c c' number held kept ended x w' step) e is))

  end_step : (c c' : C) (number : ℕ) (held kept : List ℕ) (ended : Type 0) (before after : Option (List ℕ)) → IsUnfinished held → ended → IsStill R c c' before after → IsStep R c c' number held kept ended before after (step_of held)
  end_step c c' number [] kept ended before after part over still = (over, refl, still)
  end_step c c' number (byte ∷ bytes) kept ended before after part over still = (over, (omega arith, part), still)

  -- nothing more came
  pub at_end_step : (c c' : C) (number : ℕ) (held none now kept : List ℕ) (ended : Type 0) (before after : Option (List ℕ)) (step : Step) → IsUnfinished held → length none ≡ 0 → now ≡ held ++ none → step ≡ step_of now
      → ended → IsStill R c c' before after → IsStep R c c' number now kept ended before after step
  at_end_step c c' number held none now kept ended before after step part short is e over still =
      let same : now ≡ held = is ∙ (ap (λ (x : List ℕ). held ++ x) (nil_from_length none short) ∙ append-nil held) in
      subst (λ (s : Step). IsStep R c c' number now kept ended before after s) (sym e)
      (end_step c c' number now kept ended before after (subst IsUnfinished (sym same) part) over still)
