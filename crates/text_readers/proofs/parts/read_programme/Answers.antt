use Rattle.std.proofs.Common.{◌≡◌, map, subst, sym}
use Rattle.std.proofs.lemmas.Option.{cond_some}
use Rattle.std.specs.List.{position}
use Rattle.std.specs.Option.{option_map}
use Rattle.std.specs.Prelude.{bytes_eq}
use Rattle.office_base.specs.Codes.{is_code}
use Rattle.text_readers.proofs.KnownLemmas.{found-programme, no-programme}
use Rattle.text_readers.proofs.parts.read_programme.Goals as goal

pub returns-in-Some-clause-some : goal.returns-in-Some-clause-some
returns-in-Some-clause-some c =
    let same = (cond_some (is_code c.args.text.now) c.args.text.now c.in-Some.code (sym c.in-Some.ensures)).1 in
    found-programme c.args.matrix.now c.args.text.now c.find.result
    (subst (λ code. option_map (λ prog. prog.0) c.find.result ≡ position (bytes_eq code) (map (λ held. held.0) c.args.matrix.now.programmes)) (sym same) c.find.ensures)

pub returns-in-Some-clause-none : goal.returns-in-Some-clause-none
returns-in-Some-clause-none c =
    let same = (cond_some (is_code c.args.text.now) c.args.text.now c.in-Some.code (sym c.in-Some.ensures)).1 in
    no-programme c.args.matrix.now c.args.text.now c.find.result
    (subst (λ code. option_map (λ prog. prog.0) c.find.result ≡ position (bytes_eq code) (map (λ held. held.0) c.args.matrix.now.programmes)) (sym same) c.find.ensures)
