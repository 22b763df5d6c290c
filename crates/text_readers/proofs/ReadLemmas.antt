-- How far a text was read: what completes it now, and what completed it at its beginning.
use Rattle.std.proofs.Common.{◌≡◌, inl, inr, ◌<◌, ◌≤◌, ◌+◌, ◌-◌, ℕ, true, false, eqb, List, [], ◌∷◌, ◌++◌, length, refl, sym, ap, subst, ◌∙◌, arith, append_assoc}
use Rattle.std.proofs.lemmas.Bool.{eqb-true}
use Rattle.std.proofs.lemmas.List.{append-nil}
use Rattle.text_readers.specs.Reading.{Begins, EndsWithLines, Grammar, HasNo, IsFaultLine, IsRefused, IsTextFault, Leads, first_lines, lines_in}
use Rattle.text_readers.specs.declared.fault.TextFault.{TextFault}
use Rattle.text_readers.specs.declared.fault.TextFault.TheVariants.{Line, OutOfMemory}
use Rattle.text_readers.proofs.LineLemmas.{IsLines, first_lines-line, first_lines-none, first_lines-piece, lines_after-line, lines_in-piece, more-lines, no-lines}

-- Some whole lines were read, and what completes the text after them is what completes it now. The next line has the number n.
pub record IsReadTo {Value : Type 0} (grammar now : Grammar Value) (text rest : List ℕ) (n : ℕ) : Type 0 where
  pub done : List ℕ
  pub count : ℕ
  pub number : n ≡ count + 1
  pub whole : text ≡ done ++ rest
  pub lines : IsLines count done
  pub back : (more : List ℕ) (value : Value) → now more value → grammar (done ++ more) value
  pub on : (more : List ℕ) (value : Value) → grammar (done ++ more) value → (other : Value) × now more other
  pub some : Begins now []

pub read-nothing : {Value : Type 0} (grammar : Grammar Value) (text : List ℕ) → Begins grammar [] → IsReadTo grammar grammar text text 1
read-nothing grammar text some = record {
  done = [];
  count = 0;
  number = refl;
  whole = refl;
  lines = no-lines;
  back = λ more value is. is;
  on = λ more value is. (value, is);
  some = some;
}

pub read-line : {Value : Type 0} (grammar now next : Grammar Value) (text rest : List ℕ) (n m : ℕ) (line later : List ℕ)
    → IsReadTo grammar now text rest n → HasNo 10 line → rest ≡ line ++ 10 ∷ later → Leads now next line → m ≡ n + 1 → IsReadTo grammar next text later m
read-line grammar now next text rest n m line later r none cut leads e =
    let same : (more : List ℕ) → (r.done ++ (line ++ 10 ∷ [])) ++ more ≡ r.done ++ (line ++ 10 ∷ more) =
    λ more. append_assoc r.done (line ++ 10 ∷ []) more ∙ ap (λ z. r.done ++ z) (append_assoc line (10 ∷ []) more) in
    record {
      done = r.done ++ (line ++ 10 ∷ []);
      count = r.count + 1;
      number = omega (arith, e, r.number);
      whole = r.whole ∙ ap (λ z. r.done ++ z) cut ∙ sym (same later);
      lines = more-lines r.count r.done line r.lines none;
      back = λ more value is. subst (λ z. grammar z value) (sym (same more)) (r.back (line ++ 10 ∷ more) value (leads.back more value is));
      on = λ more value is.
          let (other, there) = r.on (line ++ 10 ∷ more) value (subst (λ z. grammar z value) (same more) is) in
          leads.on more other there;
      some = leads.some;
    }

module _ {Value : Type 0} (grammar now : Grammar Value) (text rest : List ℕ) (n : ℕ) (r : IsReadTo grammar now text rest n) where
  -- what was read begins a text
  read-begins : Begins grammar (first_lines (n - 1) text)
  read-begins =
      let (more, value, is) = r.some in
      let same : first_lines (n - 1) text ≡ r.done =
      ap (first_lines (n - 1)) r.whole ∙ r.lines.firsts (n - 1) 0 rest (omega (arith, r.number)) ∙ ap (λ z. r.done ++ z) (first_lines-none rest) ∙ append-nil r.done in
      subst (Begins grammar) (sym same) (more, value, r.back more value is)

  -- what is left cannot complete it
  read-none : ((value : Value) → now rest value → ⊥) → (value : Value) → grammar text value → ⊥
  read-none none value is =
      let (other, there) = r.on rest value (subst (λ z. grammar z value) r.whole is) in
      none other there

  -- the line of this number is one that nothing begins with
  pub fault-line : (line later : List ℕ) → HasNo 10 line → rest ≡ line ++ 10 ∷ later → IsRefused now line → IsFaultLine grammar text n
  fault-line line later none cut refused =
      let many : n ≤ lines_in text =
      let e : lines_in text ≡ r.count + lines_in rest = ap lines_in r.whole ∙ r.lines.count rest in
      let one : lines_in rest ≡ 1 + lines_in later = ap lines_in cut ∙ lines_after-line line later false none in
      omega (arith, e, one, r.number) in
      let same : first_lines n text ≡ r.done ++ (line ++ 10 ∷ []) =
      ap (first_lines n) r.whole ∙ r.lines.firsts n 1 rest (omega (arith, r.number))
      ∙ ap (λ z. r.done ++ z) (ap (first_lines 1) cut ∙ first_lines-line line later 1 0 refl none ∙ ap (λ z. line ++ 10 ∷ z) (first_lines-none later)) in
      record {
        none = read-none (λ value is. refused later value (subst (λ z. now z value) cut is));
        some = omega (arith, r.number);
        before = read-begins;
        here = inl (
          many,
          λ begins.
              let (more, value, is) = begins in
              let moved : (first_lines n text) ++ more ≡ r.done ++ (line ++ 10 ∷ more) =
              ap (λ z. z ++ more) same ∙ append_assoc r.done (line ++ 10 ∷ []) more ∙ ap (λ z. r.done ++ z) (append_assoc line (10 ∷ []) more) in
              let (other, there) = r.on (line ++ 10 ∷ more) value (subst (λ z. grammar z value) moved is) in
              refused more other there,
        );
      }

  module _ (filled : 0 < length rest) (none : HasNo 10 rest) where
    piece-lines : lines_in text ≡ n
    piece-lines =
        let e : lines_in text ≡ r.count + lines_in rest = ap lines_in r.whole ∙ r.lines.count rest in
        omega (arith, e, lines_in-piece rest filled none, r.number)

    -- the last line has no end, and nothing begins with it
    pub fault-piece : (Begins now rest → ⊥) → IsFaultLine grammar text n
    fault-piece never =
        let same : first_lines n text ≡ r.done ++ rest =
        ap (first_lines n) r.whole ∙ r.lines.firsts n 1 rest (omega (arith, r.number)) ∙ ap (λ z. r.done ++ z) (first_lines-piece rest 1 (omega arith) none) in
        record {
          none = read-none (λ value is. never ([], value, subst (λ z. now z value) (sym (append-nil rest)) is));
          some = omega (arith, r.number);
          before = read-begins;
          here = inl (
            omega (arith, piece-lines),
            λ begins.
                let (more, value, is) = begins in
                let moved : (first_lines n text) ++ more ≡ r.done ++ (rest ++ more) = ap (λ z. z ++ more) same ∙ append_assoc r.done rest more in
                let (other, there) = r.on (rest ++ more) value (subst (λ z. grammar z value) moved is) in
                never (more, other, there),
          );
        }

    -- the last line has no end, and something begins with it
    pub fault-early : (m : ℕ) → m ≡ n + 1 → Begins now rest → EndsWithLines now rest → IsFaultLine grammar text m
    fault-early m e begins ends =
        let whole : first_lines (m - 1) text ≡ text =
        ap (first_lines (m - 1)) r.whole ∙ r.lines.firsts (m - 1) 1 rest (omega (arith, e, r.number)) ∙ ap (λ z. r.done ++ z) (first_lines-piece rest 1 (omega arith) none) ∙ sym r.whole in
        let (more, value, is) = begins in
        let all : Begins grammar text = (more, value, subst (λ z. grammar z value) (sym (ap (λ z. z ++ more) r.whole ∙ append_assoc r.done rest more)) (r.back (rest ++ more) value is)) in
        record {
          none = read-none ends;
          some = omega (arith, e);
          before = subst (Begins grammar) (sym whole) all;
          here = inr (omega (arith, e, piece-lines), all);
        }

  -- all lines were read, and the text is not complete
  pub fault-end : rest ≡ [] → ((value : Value) → now [] value → ⊥) → IsFaultLine grammar text n
  fault-end empty never =
      let same : text ≡ r.done = r.whole ∙ ap (λ z. r.done ++ z) empty ∙ append-nil r.done in
      let (more, value, is) = r.some in
      let all : Begins grammar text = (more, value, subst (λ z. grammar z value) (ap (λ z. z ++ more) (sym same)) (r.back more value is)) in
      let e : lines_in text ≡ r.count + lines_in rest = ap lines_in r.whole ∙ r.lines.count rest in
      let zero : lines_in rest ≡ 0 = ap lines_in empty in
      record {
        none = read-none (λ value is. never value (subst (λ z. now z value) empty is));
        some = omega (arith, r.number);
        before = read-begins;
        here = inr (omega (arith, e, zero, r.number), all);
      }

  -- all lines were read, and the text is complete
  pub read-whole : (value : Value) → rest ≡ [] → now [] value → grammar text value
  read-whole value empty is =
      subst (λ z. grammar z value) (sym (r.whole ∙ ap (λ z. r.done ++ z) empty)) (r.back [] value is)

pub no-bytes : (bytes : List ℕ) → eqb (length bytes) 0 ≡ true → bytes ≡ []
no-bytes [] e = refl
no-bytes (byte ∷ bytes) e = absurd (omega (arith, eqb-true (length (byte ∷ bytes)) 0 e))

-- two grammars with the same texts have the same faults
module _ {V W : Type 0} (first : Grammar V) (second : Grammar W) (on : (text : List ℕ) (v : V) → first text v → (w : W) × second text w) (back : (text : List ℕ) (w : W) → second text w → (v : V) × first text v) where
  begins-on : (bytes : List ℕ) → Begins first bytes → Begins second bytes
  begins-on bytes (more, v, is) = let (w, there) = on (bytes ++ more) v is in (more, w, there)

  begins-back : (bytes : List ℕ) → Begins second bytes → Begins first bytes
  begins-back bytes (more, w, is) = let (v, there) = back (bytes ++ more) w is in (more, v, there)

  line-on : (bytes : List ℕ) (n : ℕ) → IsFaultLine first bytes n → IsFaultLine second bytes n
  line-on bytes n fault = record {
    none = λ w is. let (v, there) = back bytes w is in fault.none v there;
    some = fault.some;
    before = begins-on (first_lines (n - 1) bytes) fault.before;
    here = elim fault.here [
      | inl (within, never) ↦ inl (within, λ begins. never (begins-back (first_lines n bytes) begins))
      | inr (end, begins) ↦ inr (end, begins-on bytes begins)
    ];
  }

  pub fault-on : (bytes : List ℕ) (fault : TextFault) → IsTextFault first bytes fault → IsTextFault second bytes fault
  fault-on bytes (Line n) is = line-on bytes n is
  fault-on bytes OutOfMemory is = tt
