-- A programme that a code finds is one of the matrix, and the code is its own.
use Rattle.std.proofs.Common.{◌≡◌, ◌<◌, ℕ, zero, suc, List, [], ◌∷◌, Option, Some, None, length, map, arith, refl, sym, ap, ◌∙◌, get_or}
use Rattle.std.specs.Prelude.{option_map, position, slice_get, bytes_eq}
use Rattle.std.specs.Option.{unwrap_or}
use Rattle.std.proofs.lemmas.List.{length-map}
use Rattle.std.proofs.lemmas.List.Quantifiers.{position-Some}
use Rattle.std.proofs.lemmas.Slice.Eq.{bytes_eq-Decides}
use Rattle.office_base.specs.declared.person.ProgId.{ProgId}
use Rattle.seat_matrix.specs.declared.entry.Home.{Home}
use Rattle.office_moves.specs.Facts.{SeasonFacts, code_in, find_programme}

pub code_at : (programmes : List (List ℕ × Home)) (prog : ℕ) → unwrap_or (option_map (λ held. held.0) (slice_get programmes prog)) [] ≡ get_or (map (λ held. held.0) programmes) prog []
code_at [] prog = refl
code_at (held ∷ programmes) zero = refl
code_at (held ∷ programmes) (suc prog) = code_at programmes prog

pub found_number : (found : Option ℕ) (prog : ProgId) → option_map (λ n. record { 0 = n }) found ≡ Some prog → found ≡ Some prog.0
found_number None prog e = absurd (cc)
found_number (Some n) prog e = ap (option_map (λ (p : ProgId). p.0)) e

pub record IsFound (facts : SeasonFacts) (code : List ℕ) (prog : ProgId) : Type 0 where
  pub below : prog.0 < length facts.matrix.programmes
  pub own : code_in facts prog.0 ≡ code

pub was_found : (facts : SeasonFacts) (code : List ℕ) (prog : ProgId) → find_programme facts code ≡ Some prog → IsFound facts code prog
was_found facts code prog e =
    let number = found_number (position (bytes_eq code) (map (λ held. held.0) facts.matrix.programmes)) prog e in
    let there = position-Some (bytes_eq code) (map (λ (held : List ℕ × Home). held.0) facts.matrix.programmes) prog.0 [] number in
    record {
      below = (let less = there.0 in omega (arith, less, length-map facts.matrix.programmes (λ held. held.0)));
      own = code_at facts.matrix.programmes prog.0 ∙ sym ((bytes_eq-Decides code _).0 there.1);
    }
