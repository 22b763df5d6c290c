-- Two schemas with one code are one.
use Rattle.std.proofs.Common.{◌≡◌, inl, inr, ◌==◌, ◌&&◌, ◌||◌, ℕ, Bool, true, false, refl, ap, ap₂, true≢false, sym}
use Rattle.std.proofs.lemmas.Bool.{cases_Bool, eqb-true, eq-eqb, and_parts}
use base.Stored.{Gv, gnil, gnum, gcons}
use Rattle.sqlite_schema.specs.contracts.schema.Schema.{the_row}
use Rattle.stored_tables.specs.Layout.{stored}
use Rattle.stored_tables.specs.Layout.{same_code, same_schema, has_tables, LayoutLaw}

same_number : (m n : ℕ) → (m == n) ≡ true → m ≡ n
same_number m n h = eqb-true m n h

same_is : (a b : Gv) → same_code a b ≡ true → a ≡ b
same_is gnil gnil h = refl
same_is gnil (gnum n) h = absurd (true≢false (sym h))
same_is gnil (gcons c d) h = absurd (true≢false (sym h))
same_is (gnum m) gnil h = absurd (true≢false (sym h))
same_is (gnum m) (gnum n) h = ap gnum (same_number m n h)
same_is (gnum m) (gcons c d) h = absurd (true≢false (sym h))
same_is (gcons a b) gnil h = absurd (true≢false (sym h))
same_is (gcons a b) (gnum n) h = absurd (true≢false (sym h))
same_is (gcons a b) (gcons c d) h = let p = and_parts (same_code a c) (same_code b d) h in ap₂ gcons (same_is a c p.0) (same_is b d p.1)

same_itself : (a : Gv) → same_code a a ≡ true
same_itself gnil = refl
same_itself (gnum n) = eq-eqb n n refl
same_itself (gcons a b) = ap₂ ◌&&◌ (same_itself a) (same_itself b)

second : (a b : Bool) → b ≡ true → (a || b) ≡ true
second true b h = refl
second false b h = h

pub layout : LayoutLaw
layout = (
  (λ schema h. elim (cases_Bool (same_schema schema (stored true))) [
    | inl holds ↦ (true, the_row.coded.inj schema (stored true) (same_is _ _ holds))
    | inr fails ↦ (false, the_row.coded.inj schema (stored false) (same_is _ _ (rw fails at h)))
  ]),
  (λ strict. itself strict),
)
  where
    itself : (strict : Bool) → has_tables (stored strict) ≡ true
    itself true = ap (λ b. b || same_schema (stored true) (stored false)) (same_itself (the_row.coded.code (stored true)))
    itself false = second (same_schema (stored false) (stored true)) (same_schema (stored false) (stored false)) (same_itself (the_row.coded.code (stored false)))
