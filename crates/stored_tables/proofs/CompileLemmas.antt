-- Whatever the schema is, what a text compiles to is what its one statement is resolved to.
use Rattle.std.proofs.Common.{◌≡◌, ◌+◌, inl, inr, ℕ, List, Option, Ok, Err, refl, sym, ap, subst, ◌∙◌}
use Rattle.std.proofs.lemmas.Bool.{cases_Bool}
use Rattle.sqlite.specs.Schema.{Schema}
use Rattle.sqlite.specs.Command.{Command}
use Rattle.sqlite.specs.Compile.{compiled, first, planned, meaning, command, with_command, timed as stamped, small, returning}
use Rattle.sqlite.specs.Listing.{understood, reads_listing, if_select, listing_schema}
use Rattle.sqlite_resolve.specs.Lowering.{Checked, and_then}
use Rattle.sqlite_resolve.specs.declared.compiled.Compiled.{Compiled}
use Rattle.sqlite_resolve.specs.declared.error.CompileError.{CompileError}
use Rattle.sqlite_schema.specs.declared.command.Returning.{Returning}
use Rattle.sqlite_syntax.specs.declared.statement.Parsed.{Parsed}
use Rattle.stored_tables.proofs.PutLemmas.{same_value}

pub then_inv : {A B : Type 0} (x : Checked A) (f : A → Checked B) (b : B) → and_then x f ≡ Ok b → (a : A) × (x ≡ Ok a) × (f a ≡ Ok b)
then_inv (Ok a) f b h = (a, refl, h)
then_inv (Err e) f b h = absurd (let k = h in cc)

-- a text whose statement is of this kind, and which reads nothing of the catalog
pub record IsText (Kind : Checked Parsed → Type 0) (text : List ℕ) : Type 0 where
  pub kind : Kind (first text)
  pub unlisted : (e : CompileError) × (if_select (compiled listing_schema text) ≡ Err e)

module _ (Kind : Checked Parsed → Type 0) (P : Command → Type 0) (resolves : (p : Parsed) → Kind (Ok p) → (schema : Schema) (base : ℕ) (c : Command) → command schema p.formats base p.statement ≡ Ok c → P c) where
  compiles : (schema : Schema) (text : List ℕ) (c : Compiled) → Kind (first text) → compiled schema text ≡ Ok c → P c.command
  unfolding compiled planned meaning
  compiles schema text c kind h =
      let one = then_inv (first text) (λ p. and_then (planned schema p) (λ plan. Ok (with_command p plan))) c h in
      let formats = stamped schema one.0.formats one.0.statement in
      let base = small one.0.names + small formats in
      let two = then_inv (planned schema one.0) (λ plan. Ok (with_command one.0 plan)) c one.2 in
      let three = then_inv (meaning schema one.0 base) (λ found. Ok (formats, found)) two.0 two.1 in
      let four = then_inv (returning schema base one.0.statement) (λ shown. and_then (command schema one.0.formats base one.0.statement) (λ k. Ok (k, shown))) three.0 three.1 in
      let five = then_inv (command schema one.0.formats base one.0.statement) (λ k. Ok (k, four.0)) three.0 four.2 in
      let it = resolves one.0 (subst Kind one.1 kind) schema base five.0 five.1 in
      let same : five.0 ≡ c.command =
      ap (λ (k : Command × Option Returning). k.0) (same_value five.2) ∙ (ap (λ (k : List (List ℕ) × (Command × Option Returning)). k.1.0) (same_value three.2) ∙ ap (λ (k : Compiled). k.command) (same_value two.2)) in
      subst P same it

  pub understood_as : (text : List ℕ) → IsText Kind text → (schema : Schema) (c : Compiled) → understood schema text ≡ Ok c → P c.command
  unfolding understood
  understood_as text p schema c h = elim (cases_Bool (reads_listing schema text)) [
    | inl lists ↦ absurd (let e = sym p.unlisted.1 ∙ (rw lists at h) in cc)
    | inr bare ↦ compiles schema text c p.kind (rw bare at h)
  ]
