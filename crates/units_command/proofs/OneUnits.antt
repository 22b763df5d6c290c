-- A bundle with units has one answer.
use Rattle.std.proofs.Common.{◌≡◌, ◌⊎◌, inl, inr, ℕ, true, List, Result, Ok, Err, refl, sym, ap, subst, ◌∙◌}
use Rattle.command_answers.specs.Answers.{HaveOneAnswer}
use Rattle.season_commands.specs.Check.{IsBundle, IsBundleFaultLine, IsFaultyBundle, bundle_answers}
use Rattle.section_rows.proofs.StageLemmas.{not_both, one_err, one_ok}
use Rattle.quota_units.specs.Input.{expansion}
use Rattle.quota_units.specs.declared.fault.UnitFault.{UnitFault}
use Rattle.units_command.specs.Texts.{unit_line}
use Rattle.units_command.specs.Units.{IsFaultyUnits, IsUnitsFaultLine, IsUnitsInput, units_answers}

pub one_units_answer : ((bytes : List ℕ) → HaveOneAnswer (bundle_answers true) bytes) → (bytes : List ℕ) → HaveOneAnswer units_answers bytes
one_units_answer laws bytes = record {
  some = some (expansion bytes) refl;
  apart = apart;
  of_input = λ output made. absurd made;
  of_fault = of_fault;
  one_output = λ output other a b. absurd a;
  one_line = one_line;
}
  where
    input : (text : List ℕ) → expansion bytes ≡ Ok text → IsBundle true text ⊎ IsFaultyBundle true text → IsUnitsInput bytes ⊎ IsFaultyUnits bytes
    input text e (inl is) = inl (text, e, is)
    input text e (inr has) = inr (inr (text, e, has))

    some : (r : Result (List ℕ) UnitFault) → expansion bytes ≡ r → IsUnitsInput bytes ⊎ IsFaultyUnits bytes
    some (Ok text) e = input text e (laws text).some
    some (Err fault) e = inr (inl (fault, e))

    apart : IsUnitsInput bytes → IsFaultyUnits bytes → ⊥
    apart is (inl has) = not_both (expansion bytes) is.0 has.0 is.1 has.1
    apart is (inr has) = (laws is.0).apart is.2 (subst (IsFaultyBundle true) (one_ok (expansion bytes) has.0 is.0 has.1 is.1) has.2)

    of_fault : (line : List ℕ) → IsUnitsFaultLine bytes line → IsFaultyUnits bytes
    of_fault line (inl has) = inl (has.0, has.1)
    of_fault line (inr has) = inr (has.0, has.1, (laws has.0).of_fault line has.2)

    one_line : (line other : List ℕ) → IsUnitsFaultLine bytes line → IsUnitsFaultLine bytes other → line ≡ other
    one_line line other (inl a) (inl b) = a.2 ∙ ap unit_line (one_err (expansion bytes) a.0 b.0 a.1 b.1) ∙ sym b.2
    one_line line other (inl a) (inr b) = absurd (not_both (expansion bytes) b.0 a.0 b.1 a.1)
    one_line line other (inr a) (inl b) = absurd (not_both (expansion bytes) a.0 b.0 a.1 b.1)
    one_line line other (inr a) (inr b) = (laws a.0).one_line line other a.2 (subst (λ (t : List ℕ). IsBundleFaultLine true t other) (one_ok (expansion bytes) b.0 a.0 b.1 a.1) b.2)
