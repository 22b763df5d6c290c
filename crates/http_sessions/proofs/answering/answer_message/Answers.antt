use Rattle.std.proofs.Common.{◌≡◌, ◌∙◌, ◌||◌, ◌==◌, ap, refl, subst, sym, None}
use Rattle.std.specs.Prelude.{option_map}
use Rattle.std.proofs.lemmas.List.{append-nil}
use Rattle.http_sessions.specs.Limits.{most_messages}
use Rattle.http_wire.specs.Fields.{closes}
use Rattle.http_wire.specs.Methods.{method_name}
use Rattle.http_wire.specs.Told.{told_fields, told_message}
use Rattle.http_wire.specs.Replies.{reply_text}
use Rattle.http_wire.specs.declared.faults.Fault.TheVariants.{Memory}
use Rattle.http_asks.specs.Told.{told}
use Rattle.http_asks.specs.Verdicts.{Verdict, verdict_of}
use Rattle.http_asks.specs.declared.judging.Judged.TheVariants.{Refused, Asked}
use Rattle.http_sessions.specs.Exchange.{reply_to, fault_text, refusal_text, answered_text, wired, unread, heard, IsRefusal, IsAsked}
use Rattle.http_sessions.proofs.Statuses.{verdict_status}
use Rattle.http_sessions.proofs.answering.answer_message.Goals as goal

pub refuse-requires : goal.refuse-requires
refuse-requires g c =
    let m = told_message c.args.message.now in
    verdict_status m c.in-Ok-Refused.status (option_map method_name c.in-Ok-Refused.allow) (ap (λ j. told m j) (sym c.in-Ok-Refused.field-0-is) ∙ c.in-Ok-Refused.ensures.exact)

pub returns-in-Err-clause-goes : goal.returns-in-Err-clause-goes
unfolding reply_to
returns-in-Err-clause-goes g c = (unread, (c.in-Err.ensures.memory, refl), append-nil _ ∙ (c.fail.ensures ∙ ap (λ b. fault_text b Memory) c.closes_after-close.ensures))

pub returns-in-Ok-Refused-clause-goes : goal.returns-in-Ok-Refused-clause-goes
unfolding reply_to
returns-in-Ok-Refused-clause-goes g c =
    let e : told (told_message c.args.message.now) (Refused c.in-Ok-Refused.status c.in-Ok-Refused.allow) ≡ verdict_of (told_message c.args.message.now) = ap (λ j. told (told_message c.args.message.now) j) (sym c.in-Ok-Refused.field-0-is) ∙ c.in-Ok-Refused.ensures.exact in
    let close = closes c.args.message.now.minor (told_fields c.args.message.now.fields) || c.args.at.message == most_messages in
    (wired, (subst IsRefusal e tt, refl), append-nil _ ∙ (c.refuse.ensures ∙ (ap (λ b. reply_text c.in-Ok-Refused.status None (option_map method_name c.in-Ok-Refused.allow) b) c.closes_after-close.ensures ∙ ap (λ v. refusal_text close v) e)))

pub returns-in-Ok-Asked-clause-goes : goal.returns-in-Ok-Asked-clause-goes
unfolding reply_to
returns-in-Ok-Asked-clause-goes g c =
    let e : told (told_message c.args.message.now) (Asked c.in-Ok-Asked.ask) ≡ verdict_of (told_message c.args.message.now) = ap (λ j. told (told_message c.args.message.now) j) (sym c.in-Ok-Asked.field-0-is) ∙ c.in-Ok-Asked.ensures.exact in
    let r = c.ask-answer.result in
    let after = c.ask-answer.new.self in (
      heard r,
      subst (λ v. IsAsked v (λ token ask. g.C.Counter.answers c.args.counter.now token ask r after)) e
          (subst (λ t. g.C.Counter.answers c.args.counter.now t c.in-Ok-Asked.ask r after) c.token.ensures c.ask-answer.ensures.answer),
      c.put_answer.ensures ∙ ap (λ b. answered_text b r) c.closes_after-close.ensures,
    )
