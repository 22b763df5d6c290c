-- Visible seats rise.
use Rattle.std.proofs.Common.{◌≡◌, inl, inr, ℕ, cond, Bool, true, false, List, Option, Some, None, refl, sym, ap, ◌∙◌}
use Rattle.std.proofs.lemmas.Bool.{cases_Bool}
use Rattle.kept_rows.specs.declared.rows.AnswerRow.{AnswerRow}
use Rattle.kept_rows.specs.declared.rows.AllotRow.{AllotRow}
use Rattle.kept_rows.specs.declared.rows.RaiseRow.{RaiseRow}
use Rattle.kept_rows.specs.declared.rows.Kept.{Kept}
use Rattle.kept_rows.specs.Tables.{Untold, NoSeason, Records}
use Rattle.stored_tables.specs.Rising.{are_rising}
use Rattle.stored_tables.specs.Rows.{rows_from, allot_of, rising_alone, cuts_of, text_in, answers_in, raises_in, allots_in}
use Rattle.stored_tables.specs.Told.{records_of, are_bare, tables_with}
use Rattle.stored_tables.specs.Seats.{SeatsRiseLaw}
use Rattle.stored_tables.proofs.StandLemmas.{then_some}

alone_rise : (all some : List AllotRow) → rising_alone all ≡ Some some → are_rising some ≡ true
alone_rise all some h = elim (cases_Bool (are_rising all)) [
  | inl rise ↦ (let e : Some all ≡ Some some = (let f = h in rw rise at f) in let is : all ≡ some = (let f = e in cc) in ap are_rising (sym is) ∙ rise)
  | inr falls ↦ absurd (let e = rw falls at h in cc)
]

same_kept : {one two : Kept} → Records one ≡ Records two → one ≡ two
same_kept e = cc

with_seats : (n : ℕ) (t : Option (List ℕ)) (a : Option (List AnswerRow)) (r : Option (List RaiseRow)) (s : Option (List AllotRow)) (kept : Kept) → ((some : List AllotRow) → s ≡ Some some → are_rising some ≡ true) → records_of n t a r s ≡ Records kept
    → are_rising kept.allots ≡ true
with_seats n (Some t) (Some a) (Some r) (Some s) kept rise is = ap (λ (k : Kept). are_rising k.allots) (sym (same_kept is)) ∙ rise s refl
with_seats n (Some t) (Some a) (Some r) None kept rise is = absurd (let e = is in cc)
with_seats n (Some t) (Some a) None s kept rise is = absurd (let e = is in cc)
with_seats n (Some t) None r s kept rise is = absurd (let e = is in cc)
with_seats n None a r s kept rise is = absurd (let e = is in cc)

none_kept : (b : Bool) (kept : Kept) → cond b NoSeason Untold ≡ Records kept → ⊥
none_kept true kept is = let e = is in cc
none_kept false kept is = let e = is in cc

pub seats_rise : SeatsRiseLaw
seats_rise db kept = go (cuts_of (db 5))
  where
    go : (p : Option (Option ℕ)) → tables_with p db ≡ Records kept → are_rising kept.allots ≡ true
    go None is = absurd (let e = is in cc)
    go (Some None) is = absurd (none_kept (are_bare db) kept is)
    go (Some (Some n)) is =
        with_seats n (text_in db) (answers_in db) (raises_in db) (allots_in db) kept (λ some h. let p = then_some (rows_from allot_of 1 (db 3)) rising_alone some h in alone_rise p.0 some p.2) is
