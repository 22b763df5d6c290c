-- What was written with an answered status, what bytes that were left have, and that bytes have one text.
use Rattle.std.proofs.Common.{◌≡◌, ◌⊎◌, inl, inr, ℕ, List, Some, refl, sym, ◌∙◌, subst}
use Rattle.command_answers.specs.Answers.{Answers, HasLeft, HaveOneAnswer}
use Rattle.command_answers.specs.Status.{IsAnswered}
use Rattle.command_answers.specs.Writes.{IsTextOf, Writes}
use Rattle.command_answers.specs.declared.status.Status.{Status}
use Rattle.command_answers.specs.declared.status.Status.TheVariants.{Ok as Done, BadInput}
use Rattle.command_answers.proofs.Answered.{by_answer}

-- what was written of an answer is its whole text
pub whole : (IsText : Status → List ℕ → Type 0) (status : Status) (output : List ℕ) → IsAnswered status → Writes IsText status output → IsText status output
whole IsText status output answered (inl text) = text
whole IsText status output answered (inr cut) = absurd (subst (λ (s : Status). IsAnswered s) cut.0 answered)

-- what bytes that are left have, they have themselves
pub left_has : (Has : List ℕ → List ℕ → Type 0) (bytes text : List ℕ) → HasLeft Has (Some bytes) text → Has bytes text
left_has Has bytes text left = subst (λ b. Has b text) left.1 left.2

-- an answer with one text is the output, or the line of a fault
pub text_cases : (answers : Answers) (bytes : List ℕ) (status : Status) (output : List ℕ) → IsAnswered status → Writes (IsTextOf answers (Some bytes)) status output
    → ((status ≡ Done) × answers.IsOutput bytes output) ⊎ ((status ≡ BadInput) × answers.IsFaultLine bytes output)
text_cases answers bytes status output answered writes =
    by_answer (λ s. IsTextOf answers (Some bytes) s output → ((s ≡ Done) × answers.IsOutput bytes output) ⊎ ((s ≡ BadInput) × answers.IsFaultLine bytes output))
    (λ text. inl (refl, left_has answers.IsOutput bytes output text)) (λ text. absurd text) (λ text. inr (refl, left_has answers.IsFaultLine bytes output text)) (λ text. absurd text)
    (λ text. absurd text) status answered (whole (IsTextOf answers (Some bytes)) status output answered writes)

-- bytes have one text, and one status
pub texts_are_one : (answers : Answers) (bytes : List ℕ) → HaveOneAnswer answers bytes → (status end : Status) (output again : List ℕ) → IsAnswered status → IsAnswered end
    → Writes (IsTextOf answers (Some bytes)) status output → Writes (IsTextOf answers (Some bytes)) end again → (status ≡ end) × (output ≡ again)
texts_are_one answers bytes one status end output again answered answered' first second =
    elim (text_cases answers bytes status output answered first) [
      | inl a ↦ elim (text_cases answers bytes end again answered' second) [
        | inl b ↦ (a.0 ∙ sym b.0, one.one_output output again a.1 b.1)
        | inr b ↦ absurd (one.apart (one.of_input output a.1) (one.of_fault again b.1))
      ]
      | inr a ↦ elim (text_cases answers bytes end again answered' second) [
        | inl b ↦ absurd (one.apart (one.of_input again b.1) (one.of_fault output a.1))
        | inr b ↦ (a.0 ∙ sym b.0, one.one_line output again a.1 b.1)
      ]
    ]

-- bytes without faults are not refused, where nothing is answered to them alone
pub not_refused : (answers : Answers) (bytes : List ℕ) → HaveOneAnswer answers bytes → ((output : List ℕ) → answers.IsOutput bytes output → ⊥) → (status : Status) (output : List ℕ) → IsAnswered status
    → Writes (IsTextOf answers (Some bytes)) status output → answers.IsInput bytes → ⊥
not_refused answers bytes one none status output answered writes input = elim (text_cases answers bytes status output answered writes) [
  | inl done ↦ none output done.1
  | inr bad ↦ one.apart input (one.of_fault output bad.1)
]
