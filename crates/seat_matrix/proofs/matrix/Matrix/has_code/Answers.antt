use Rattle.std.proofs.Common.{◌≡◌, List, ℕ, Some, sym, ap, ◌∙◌}
use Rattle.std.proofs.lemmas.Slice.Eq.{bytes_eq-Decides}
use Rattle.seat_matrix.specs.Matrix.{codes_in}
use Rattle.seat_matrix.proofs.Codes.{code_there, number_of}
use Rattle.seat_matrix.proofs.matrix.Matrix.has_code.Goals as goal

pub returns-clause-number : goal.returns-clause-number
returns-clause-number c = λ equal.
    let same : c.bytes.result.now ≡ c.args.text.now = (bytes_eq-Decides c.bytes.result.now c.args.text.now).0 (sym c.eq.ensures ∙ equal) in
    let code : c.code-code.result ≡ c.args.text.now = sym c.bytes.ensures.same ∙ same in
    number_of (codes_in c.args.self.now.programmes) c.args.prog.0 c.args.text.now c.count.ensures.seats.codes
    (code_there c.args.self.now.programmes c.args.prog.0 c.args.text.now (c.code-code.ensures ∙ ap (λ (l : List ℕ). Some l) code))
