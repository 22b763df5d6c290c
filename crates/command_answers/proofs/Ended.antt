-- How a command that answers with one text ends.
use Rattle.std.proofs.Common.{◌≡◌, ◌<◌, ◌⊎◌, ◌∙◌, ◌++◌, inl, inr, ℕ, List, [], Option, Some, None, Result, Ok, Err, take, length, refl, sym, subst, ap, arith, length-append}
use Rattle.std.proofs.lemmas.List.{append-nil}
use Rattle.std.specs.Prelude.{IfOk, IfErr, IsErrOf}
use Rattle.office_base.specs.Outside.{Appends, AreLeft, IsAtEnd, Took, TookMore}
use Rattle.command_answers.specs.Answers.{Answers, HasLeft, HaveOneAnswer, IsFailureOf, IsInputFailure, Tells}
use Rattle.command_answers.specs.Writes.{IsTextOf, IsTextOut, Writes, status_of, text_of}
use Rattle.command_answers.specs.declared.failure.Failure.{Failure}
use Rattle.command_answers.specs.declared.failure.Failure.TheVariants.{Read, Bad, NoMemory}
use Rattle.command_answers.specs.declared.status.Status.{Status}
use Rattle.command_answers.specs.declared.status.Status.TheVariants.{Ok as Done, BadInput, ReadFault, WriteFault, KeeperFault, OutOfMemory, DoorFault}

-- The text of some status was written.
pub told_is_written : (IsText : Status → List ℕ → Type 0) (status result : Status) (text : List ℕ) (before after : Option (List ℕ)) (failed : Type 0)
    → IsText status text → IsTextOut status text before after failed result → (output : List ℕ) × Appends output before after × Writes IsText result output
told_is_written IsText status result text before after failed is told =
    elim told [
      | inl whole ↦ (text, whole.1, inl (subst (λ (s : Status). IsText s text) (sym whole.0) is))
      | inr cut ↦ (take cut.2.0 text, cut.2.1, inr (cut.0, (status, text, cut.2.0, is, refl)))
    ]

-- the text of an answer goes with its status
text_of_answer : (answers : Answers) (left : Option (List ℕ)) (failed : Type 0) (answer : Result (List ℕ) Failure) → IfOk answer (HasLeft answers.IsOutput left) → IfErr answer (IsFailureOf answers left failed)
    → IsTextOf answers left (status_of answer) (text_of answer)
text_of_answer answers left failed (Ok output) made cause = made
text_of_answer answers left failed (Err Read) made cause = refl
text_of_answer answers left failed (Err (Bad line)) made cause = cause
text_of_answer answers left failed (Err NoMemory) made cause = refl

-- What was written of an answer.
pub answer_is_written : (answers : Answers) (left : Option (List ℕ)) (failed : Type 0) (answer : Result (List ℕ) Failure) (result : Status) (before after : Option (List ℕ)) (broke : Type 0)
    → IfOk answer (HasLeft answers.IsOutput left) → IfErr answer (IsFailureOf answers left failed) → IsTextOut (status_of answer) (text_of answer) before after broke result
    → (output : List ℕ) × Appends output before after × Writes (IsTextOf answers left) result output
answer_is_written answers left failed answer result before after broke made cause told =
    told_is_written (IsTextOf answers left) (status_of answer) result (text_of answer) before after broke (text_of_answer answers left failed answer made cause) told

-- if the sink did not fail, the status is that of the text
pub status_is_told : (status result : Status) (text : List ℕ) (before after : Option (List ℕ)) (broke : Type 0) → IsTextOut status text before after broke result → (broke → ⊥) → result ≡ status
status_is_told status result text before after broke told held = elim told [ inl whole ↦ whole.0 | inr cut ↦ absurd (held cut.1) ]

-- visible bytes without faults have no fault's line, and visible bytes with a fault have no output
not_faulty : (answers : Answers) (left : Option (List ℕ)) (line : List ℕ) → ((bytes : List ℕ) → HaveOneAnswer answers bytes) → Tells answers.IsInput left → HasLeft answers.IsFaultLine left line → ⊥
not_faulty answers None line laws tells has = tells
not_faulty answers (Some bytes) line laws tells has = (laws bytes).apart tells (subst answers.IsFaulty has.1 ((laws has.0).of_fault line has.2))

not_input : (answers : Answers) (left : Option (List ℕ)) (output : List ℕ) → ((bytes : List ℕ) → HaveOneAnswer answers bytes) → Tells answers.IsFaulty left → HasLeft answers.IsOutput left output → ⊥
not_input answers None output laws tells made = tells
not_input answers (Some bytes) output laws tells made = (laws bytes).apart (subst answers.IsInput made.1 ((laws made.0).of_input output made.2)) tells

-- An input without faults is answered, if neither side failed and memory did not run out.
pub input_is_answered : (answers : Answers) (left : Option (List ℕ)) (failed : Type 0) (answer : Result (List ℕ) Failure) (result : Status) (before after : Option (List ℕ)) (broke : Type 0)
    → ((bytes : List ℕ) → HaveOneAnswer answers bytes) → IfErr answer (IsFailureOf answers left failed) → IsTextOut (status_of answer) (text_of answer) before after broke result
    → Tells answers.IsInput left → (failed → ⊥) → (broke → ⊥) → (result ≡ Done) ⊎ (result ≡ OutOfMemory)
input_is_answered answers left failed (Ok output) result before after broke laws cause told tells read wrote = inl (status_is_told Done result output before after broke told wrote)
input_is_answered answers left failed (Err Read) result before after broke laws cause told tells read wrote = absurd (read cause)
input_is_answered answers left failed (Err (Bad line)) result before after broke laws cause told tells read wrote = absurd (not_faulty answers left line laws tells cause)
input_is_answered answers left failed (Err NoMemory) result before after broke laws cause told tells read wrote = inr (status_is_told OutOfMemory result _ before after broke told wrote)

-- An input with a fault is refused, if neither side failed and memory did not run out.
pub fault_is_refused : (answers : Answers) (left : Option (List ℕ)) (failed : Type 0) (answer : Result (List ℕ) Failure) (result : Status) (before after : Option (List ℕ)) (broke : Type 0)
    → ((bytes : List ℕ) → HaveOneAnswer answers bytes) → IfOk answer (HasLeft answers.IsOutput left) → IfErr answer (IsFailureOf answers left failed)
    → IsTextOut (status_of answer) (text_of answer) before after broke result
    → Tells answers.IsFaulty left → (failed → ⊥) → (broke → ⊥) → (result ≡ BadInput) ⊎ (result ≡ OutOfMemory)
fault_is_refused answers left failed (Ok output) result before after broke laws made cause told tells read wrote = absurd (not_input answers left output laws tells made)
fault_is_refused answers left failed (Err Read) result before after broke laws made cause told tells read wrote = absurd (read cause)
fault_is_refused answers left failed (Err (Bad line)) result before after broke laws made cause told tells read wrote = inl (status_is_told BadInput result line before after broke told wrote)
fault_is_refused answers left failed (Err NoMemory) result before after broke laws made cause told tells read wrote = inr (status_is_told OutOfMemory result _ before after broke told wrote)

-- The status of an answer is no fault of the sink or the keeper, and a read fault only if the source failed.
pub read_alone : (answers : Answers) (left : Option (List ℕ)) (failed : Type 0) (answer : Result (List ℕ) Failure) → IfErr answer (IsFailureOf answers left failed) → ReadFault ≡ status_of answer → failed
read_alone answers left failed (Ok output) cause same = absurd (cc same)
read_alone answers left failed (Err Read) cause same = cause
read_alone answers left failed (Err (Bad line)) cause same = absurd (cc same)
read_alone answers left failed (Err NoMemory) cause same = absurd (cc same)

pub no_write : (answer : Result (List ℕ) Failure) → WriteFault ≡ status_of answer → ⊥
no_write (Ok output) same = cc same
no_write (Err Read) same = cc same
no_write (Err (Bad line)) same = cc same
no_write (Err NoMemory) same = cc same

pub no_keeper : (answer : Result (List ℕ) Failure) → KeeperFault ≡ status_of answer → ⊥
no_keeper (Ok output) same = cc same
no_keeper (Err Read) same = cc same
no_keeper (Err (Bad line)) same = cc same
no_keeper (Err NoMemory) same = cc same

-- A fault of a door is none of an answer's statuses.
pub no_door : (answer : Result (List ℕ) Failure) → DoorFault ≡ status_of answer → ⊥
no_door (Ok output) same = cc same
no_door (Err Read) same = cc same
no_door (Err (Bad line)) same = cc same
no_door (Err NoMemory) same = cc same

-- If the status reports no fault of either side, the source did not fail.
pub source_held : (answer : Result (List ℕ) Failure) (result : Status) (before after : Option (List ℕ)) (broke Held : Type 0) → ((IsErrOf answer Read → ⊥) → Held)
    → IsTextOut (status_of answer) (text_of answer) before after broke result → (result ≡ ReadFault → ⊥) → (result ≡ WriteFault → ⊥) → Held
source_held (Ok output) result before after broke Held steady told read wrote = steady (λ same. cc)
source_held (Err Read) result before after broke Held steady told read wrote = elim told [ inl whole ↦ absurd (read whole.0) | inr cut ↦ absurd (wrote cut.0) ]
source_held (Err (Bad line)) result before after broke Held steady told read wrote = steady (λ same. cc)
source_held (Err NoMemory) result before after broke Held steady told read wrote = steady (λ same. cc)

-- Bytes that were taken up to the end are those that were left.
pub all_left : (bytes : List ℕ) (left after : Option (List ℕ)) → Took bytes left after → IsAtEnd after → AreLeft bytes left
all_left bytes None after took end = tt
all_left bytes (Some left) None took end = absurd (cc took.1)
all_left bytes (Some left) (Some rest) took end =
    let none : took.0 ≡ [] = cc (took.1, end) in
    sym (took.2 ∙ ap (λ (l : List ℕ). bytes ++ l) none ∙ append-nil bytes)

-- Where more bytes than the limit were taken, some bytes above the limit were left.
pub long_left : (limit : ℕ) (left after : Option (List ℕ)) → TookMore limit left after → (bytes : List ℕ) × AreLeft bytes left × (limit < length bytes)
long_left limit None after more = (more.0, tt, more.1)
long_left limit (Some bytes) after more = (bytes, refl, omega (arith, more.1, ap length more.2.2, length-append more.0 more.2.0))

-- A failure to read bytes that were left is one of what was left.
pub left_failed : (answers : Answers) (bytes : List ℕ) (left : Option (List ℕ)) (failed : Type 0) (failure : Failure) → AreLeft bytes left → IsInputFailure answers bytes failure → IsFailureOf answers left failed failure
left_failed answers bytes left failed Read are told = absurd told
left_failed answers bytes left failed (Bad line) are told = (bytes, are, told)
left_failed answers bytes left failed NoMemory are told = tt
