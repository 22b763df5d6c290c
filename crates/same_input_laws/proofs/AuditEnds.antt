-- An audit writes the same for the same bytes.
use Rattle.std.proofs.Common.{◌≡◌, inl, inr, ℕ, List, Some, refl, sym, ◌∙◌}
use Rattle.command_answers.specs.Status.{IsAnswered}
use Rattle.command_answers.specs.Writes.{Writes}
use Rattle.command_answers.specs.declared.status.Status.{Status}
use Rattle.command_answers.specs.declared.status.Status.TheVariants.{Ok as Done, BadInput, Broken as BrokenStatus}
use Rattle.command_answers.proofs.Answered.{by_answer}
use Rattle.same_input_laws.proofs.Written.{left_has, whole}
use Rattle.audit_command.specs.Audit.{AreDossier, HaveOneAudit, IsAuditText, IsBrokenOutput, IsDossierFaultLine, IsSoundOutput}
use Rattle.audit_command.specs.Best.{HaveOneBest, IsBestOutput, IsBestText, IsShortOutput}
use Rattle.same_input_laws.specs.AuditOutputs.{AuditsAreOne, BestAuditsAreOne}

-- ---- both

-- a text of one kind is written with status 0, one of another kind if something is broken, or else the line of a fault
data Ended (bytes : List ℕ) (Good Short : List ℕ → List ℕ → Type 0) (status : Status) (text : List ℕ) : Type 0 where
  Well : status ≡ Done → Good bytes text → Ended bytes Good Short status text
  Faulty : status ≡ BadInput → IsDossierFaultLine bytes text → Ended bytes Good Short status text
  Less : status ≡ BrokenStatus → Short bytes text → Ended bytes Good Short status text

-- what holds of texts of both kinds
record AreTexts (bytes : List ℕ) (Good Short : List ℕ → List ℕ → Type 0) : Type 0 where
  of_good : (text : List ℕ) → Good bytes text → AreDossier bytes
  of_short : (text : List ℕ) → Short bytes text → AreDossier bytes
  one_good : (text more : List ℕ) → Good bytes text → Good bytes more → text ≡ more
  one_short : (text more : List ℕ) → Short bytes text → Short bytes more → text ≡ more
  apart : (text more : List ℕ) → Good bytes text → Short bytes more → ⊥

-- they have one status and one output
one_end : (bytes : List ℕ) → HaveOneAudit bytes → (Good Short : List ℕ → List ℕ → Type 0) → AreTexts bytes Good Short → (status other : Status) (output again : List ℕ)
    → Ended bytes Good Short status output → Ended bytes Good Short other again → (status ≡ other) × (output ≡ again)
one_end bytes audit Good Short texts status other output again (Well e a) (Well f b) = (e ∙ sym f, texts.one_good output again a b)
one_end bytes audit Good Short texts status other output again (Well e a) (Faulty f b) = absurd (audit.apart (texts.of_good output a) (audit.of_fault again b))
one_end bytes audit Good Short texts status other output again (Well e a) (Less f b) = absurd (texts.apart output again a b)
one_end bytes audit Good Short texts status other output again (Faulty e a) (Well f b) = absurd (audit.apart (texts.of_good again b) (audit.of_fault output a))
one_end bytes audit Good Short texts status other output again (Faulty e a) (Faulty f b) = (e ∙ sym f, audit.one_line output again a b)
one_end bytes audit Good Short texts status other output again (Faulty e a) (Less f b) = absurd (audit.apart (texts.of_short again b) (audit.of_fault output a))
one_end bytes audit Good Short texts status other output again (Less e a) (Well f b) = absurd (texts.apart again output b a)
one_end bytes audit Good Short texts status other output again (Less e a) (Faulty f b) = absurd (audit.apart (texts.of_short output a) (audit.of_fault again b))
one_end bytes audit Good Short texts status other output again (Less e a) (Less f b) = (e ∙ sym f, texts.one_short output again a b)

-- ---- `audit`

audit_ended : (bytes : List ℕ) (status : Status) (text : List ℕ) → IsAnswered status → Writes (IsAuditText (Some bytes)) status text → Ended bytes IsSoundOutput IsBrokenOutput status text
audit_ended bytes status text answered writes =
    by_answer (λ s. IsAuditText (Some bytes) s text → Ended bytes IsSoundOutput IsBrokenOutput s text) (λ t. Well refl (left_has IsSoundOutput bytes text t)) (λ t. absurd t)
    (λ t. Faulty refl (left_has IsDossierFaultLine bytes text t)) (λ t. absurd t) (λ t. Less refl (left_has IsBrokenOutput bytes text t)) status answered
    (whole (IsAuditText (Some bytes)) status text answered writes)

pub audits_are_one : ((bytes : List ℕ) → HaveOneAudit bytes) → AuditsAreOne
audits_are_one audit bytes output again status other answered answered' first second =
    one_end bytes (audit bytes) IsSoundOutput IsBrokenOutput (record {
      of_good = λ text h. (audit bytes).of_input text (inl h);
      of_short = λ text h. (audit bytes).of_input text (inr h);
      one_good = λ text more h h'. (audit bytes).one_output text more (inl h) (inl h');
      one_short = λ text more h h'. (audit bytes).one_output text more (inr h) (inr h');
      apart = (audit bytes).one_kind;
    }) status other output again (audit_ended bytes status output answered first) (audit_ended bytes other again answered' second)

-- ---- `audit best`

short_dossier : (bytes text : List ℕ) → IsShortOutput bytes text → AreDossier bytes
short_dossier bytes text (inl broken) = (broken.0, broken.2.0)
short_dossier bytes text (inr not_best) = (not_best.2.0, not_best.2.1)

best_ended : (bytes : List ℕ) (status : Status) (text : List ℕ) → IsAnswered status → Writes (IsBestText (Some bytes)) status text → Ended bytes IsBestOutput IsShortOutput status text
best_ended bytes status text answered writes =
    by_answer (λ s. IsBestText (Some bytes) s text → Ended bytes IsBestOutput IsShortOutput s text) (λ t. Well refl (left_has IsBestOutput bytes text t)) (λ t. absurd t)
    (λ t. Faulty refl (left_has IsDossierFaultLine bytes text t)) (λ t. absurd t) (λ t. Less refl (left_has IsShortOutput bytes text t)) status answered
    (whole (IsBestText (Some bytes)) status text answered writes)

pub best_audits_are_one : ((bytes : List ℕ) → HaveOneAudit bytes) → ((bytes : List ℕ) → HaveOneBest bytes) → BestAuditsAreOne
best_audits_are_one audit best bytes output again status other answered answered' first second =
    one_end bytes (audit bytes) IsBestOutput IsShortOutput (record {
      of_good = λ text lines. (lines.0, lines.1);
      of_short = short_dossier bytes;
      one_good = (best bytes).one_best;
      one_short = (best bytes).one_short;
      apart = (best bytes).one_kind;
    }) status other output again (best_ended bytes status output answered first) (best_ended bytes other again answered' second)
