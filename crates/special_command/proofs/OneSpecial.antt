-- Lists of a special round have one answer.
use Rattle.std.proofs.Common.{◌≡◌, ◌≢◌, ◌<◌, ◌≤◌, ◌⊎◌, inl, inr, ℕ, List, length, refl, sym, ap, ◌∙◌, arith, true, false, leb}
use Rattle.std.proofs.lemmas.Bool.Decides.{leb_tells}
use Rattle.office_base.specs.Limits.{most_bundle_bytes}
use Rattle.office_moves.specs.Facts.{SeasonFacts}
use Rattle.office_moves.specs.State.{State}
use Rattle.special_round.specs.Laws.{HaveOneAnswer}
use Rattle.special_round.specs.Season.{IsSpecialFault, MayBeHeld}
use Rattle.special_round.specs.declared.fault.SpecialFault.{SpecialFault}
use Rattle.special_round.specs.declared.fault.SpecialFault.TheVariants.{OutOfMemory}
use Rattle.special_command.specs.declared.lists.SpecialPapers.{SpecialPapers}
use Rattle.special_command.specs.Texts.{special_fault_line}
use Rattle.special_command.specs.Special.{AreFaultyLists, AreSpecialLists, HaveOneSpecial, IsListsFaultLine, IsSpecialOutput}

pub one_special : (facts : SeasonFacts) (state : State) (bytes : List ℕ) → HaveOneAnswer facts state bytes → HaveOneSpecial facts state bytes
one_special facts state bytes law = record {
  some = some (fits (leb_tells (length bytes) most_bundle_bytes));
  apart = apart;
  of_input = of_input;
  of_fault = of_fault;
  one_line = one_line;
}
  where
    fits : ((leb (length bytes) most_bundle_bytes ≡ true) × (length bytes ≤ most_bundle_bytes)) ⊎ ((leb (length bytes) most_bundle_bytes ≡ false) × (most_bundle_bytes < length bytes))
        → (length bytes ≤ most_bundle_bytes) ⊎ (most_bundle_bytes < length bytes)
    fits (inl short) = inl short.1
    fits (inr long) = inr long.1

    some : (length bytes ≤ most_bundle_bytes) ⊎ (most_bundle_bytes < length bytes) → AreSpecialLists facts state bytes ⊎ AreFaultyLists facts state bytes
    some (inl short) = elim law.some [ inl held ↦ inl (short, held) | inr has ↦ inr (inr (has.0, (short, has.1, has.2))) ]
    some (inr long) = inr (inl long)

    apart : AreSpecialLists facts state bytes → AreFaultyLists facts state bytes → ⊥
    apart is (inl long) = omega (arith, is.0, long)
    apart is (inr has) = has.1.2 (law.apart has.0 is.1 has.1.1)

    of_input : (papers : SpecialPapers) (output : List ℕ) → IsSpecialOutput papers facts state bytes output → AreSpecialLists facts state bytes
    of_input papers output made = let (short, more) = made in let (special, is, text) = more in let (rows, finals, over) = is in (short, law.held special.season (rows, finals, over.season))

    of_fault : (line : List ℕ) → IsListsFaultLine facts state bytes line → AreFaultyLists facts state bytes
    of_fault line (inl has) = inl has.0
    of_fault line (inr has) = inr (has.0, has.1)

    one_line : (line other : List ℕ) → IsListsFaultLine facts state bytes line → IsListsFaultLine facts state bytes other → line ≡ other
    one_line line other (inl a) (inl b) = a.1 ∙ sym b.1
    one_line line other (inl a) (inr b) = absurd (omega (arith, a.0, b.1.0))
    one_line line other (inr a) (inl b) = absurd (omega (arith, b.0, a.1.0))
    one_line line other (inr a) (inr b) = a.2 ∙ ap special_fault_line (law.one a.0 b.0 a.1.1 b.1.1 a.1.2 b.1.2) ∙ sym b.2
