-- How a command that answers with one text ends. It leaves the tables unchanged.
use Rattle.std.proofs.Common.{◌≡◌, ◌∙◌, inl, inr, ℕ, List, Option, Result, Ok, Err, refl, sym, arith}
use Rattle.std.specs.Prelude.{IfOk, IfErr, IsErrOf}
use Rattle.office_base.specs.Outside.{Appends, Rose}
use Rattle.kept_rows.specs.Tables.{Tables}
use Rattle.command_answers.specs.Answers.{Answers, HasLeft, IsFailureOf}
use Rattle.command_answers.specs.Writes.{IsTextOut, status_of, text_of}
use Rattle.office_commands.specs.Blames.{Blames}
use Rattle.command_answers.specs.declared.failure.Failure.{Failure}
use Rattle.command_answers.specs.declared.failure.Failure.TheVariants.{Read, Bad, NoMemory}
use Rattle.command_answers.specs.declared.status.Status.{Status}
use Rattle.command_answers.specs.declared.status.Status.TheVariants.{ReadFault, WriteFault, KeeperFault, DoorFault}
use Rattle.command_answers.proofs.Ended.{answer_is_written, no_door, no_keeper, no_write, read_alone, source_held}
use Rattle.office_commands.proofs.Blaming.{blames}
use Rattle.office_commands.specs.Program.{EndsText}

-- The text of an answer was written, and the tables are unchanged.
pub text_is_written : (answers : Answers) (left : Option (List ℕ)) (failed : Type 0) (answer : Result (List ℕ) Failure) (result : Status) (before after : Option (List ℕ)) (broke : Type 0) (tables : Tables)
    → IfOk answer (HasLeft answers.IsOutput left) → IfErr answer (IsFailureOf answers left failed) → IsTextOut (status_of answer) (text_of answer) before after broke result
    → (output : List ℕ) × Appends output before after × EndsText answers left tables tables result output
text_is_written answers left failed answer result before after broke tables made cause told =
    let (output, appends, writes) = answer_is_written answers left failed answer result before after broke made cause told in (output, appends, (writes, refl))

-- What was written of an answer blames the source and the sink if they failed, and no keeper and no door.
pub answer_blames : (serves : Type 0) (answers : Answers) (left : Option (List ℕ)) (source source_now sink sink_now keeper : ℕ) (doors : List ℕ) (answer : Result (List ℕ) Failure) (result : Status) (before after : Option (List ℕ))
    → IfErr answer (IsFailureOf answers left (Rose source source_now)) → ((IsErrOf answer Read → ⊥) → source_now ≡ source)
    → IsTextOut (status_of answer) (text_of answer) before after (Rose sink sink_now) result → ((result ≡ WriteFault → ⊥) → sink_now ≡ sink)
    → Blames serves result (record { source = source; sink = sink; keeper = keeper; doors = doors }) (record { source = source_now; sink = sink_now; keeper = keeper; doors = doors })
answer_blames serves answers left source source_now sink sink_now keeper doors answer result before after cause steady told held = blames serves source source_now sink sink_now keeper keeper doors result
    (λ is. elim told [
      | inl whole ↦ no_door answer (sym is ∙ whole.0)
      | inr cut ↦ let wrong : DoorFault ≡ WriteFault = sym is ∙ cut.0 in cc wrong
    ])
    (λ is. elim told [
      | inl whole ↦ read_alone answers left (Rose source source_now) answer cause (sym is ∙ whole.0)
      | inr cut ↦ let wrong : ReadFault ≡ WriteFault = sym is ∙ cut.0 in absurd (cc wrong)
    ])
    (λ is. elim told [ inl whole ↦ absurd (no_write answer (sym is ∙ whole.0)) | inr cut ↦ cut.1 ])
    (λ is. elim told [
      | inl whole ↦ absurd (no_keeper answer (sym is ∙ whole.0))
      | inr cut ↦ let wrong : KeeperFault ≡ WriteFault = sym is ∙ cut.0 in absurd (cc wrong)
    ])
    (λ read write. source_held answer result before after (Rose sink sink_now) (source_now ≡ source) steady told read write)
    held
    (λ failed write. refl)
    (omega arith)
