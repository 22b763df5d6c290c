-- Bytes cut after their first ending line.
use Rattle.std.proofs.Common.{◌≡◌, ◌≢◌, ◌⊎◌, ℕ, List, [], ◌∷◌, ◌++◌, sym, ap, ◌∙◌, subst, inl, inr, arith, append-nil, append_assoc, length-append, length, take, drop, ◌-◌}
use Rattle.std.proofs.Math.Seq.{take-append_seam}
use Rattle.std.proofs.lemmas.List.{take-append-drop}
use Rattle.text_readers.specs.Reading.{Grammar, HasNo}
use Rattle.text_readers.proofs.PartsLemmas.{cut-one, has-one}
use Rattle.dossier_file.specs.Texts.{AreOthers, IsSplitAfter, IsEnded, IsEnding, IsLeast, IsUnending, joined}

-- each text has its ending line once, as its last
abbrev pub EndsOnce : {A : Type 0} → List ℕ → Grammar A → Type 0
EndsOnce {A} ending grammar = (text : List ℕ) (value : A) → grammar text value → IsEnding ending text

-- a line, its end, and what follows
pub line-first : (line rest tail : List ℕ) → ((line ++ 10 ∷ []) ++ rest) ++ tail ≡ line ++ 10 ∷ (rest ++ tail)
line-first line rest tail = append_assoc (line ++ 10 ∷ []) rest tail ∙ append_assoc line (10 ∷ []) (rest ++ tail)

module _ (ending : List ℕ) (clear : HasNo 10 ending) where
  -- the first ending line is at one place
  one_end : (ls ms : List (List ℕ)) (x y : List ℕ) → AreOthers ending ls → AreOthers ending ms → joined ls ++ (ending ++ 10 ∷ x) ≡ joined ms ++ (ending ++ 10 ∷ y) → x ≡ y
  one_end [] [] x y p q e = (cut-one 10 ending ending x y clear clear e).1
  one_end [] (m ∷ ms) x y p q e =
      absurd (q.0.1 (sym (cut-one 10 ending m x (joined ms ++ (ending ++ 10 ∷ y)) clear q.0.0 (e ∙ line-first m (joined ms) (ending ++ 10 ∷ y))).0))
  one_end (l ∷ ls) [] x y p q e =
      absurd (p.0.1 (cut-one 10 l ending (joined ls ++ (ending ++ 10 ∷ x)) y p.0.0 clear (sym (line-first l (joined ls) (ending ++ 10 ∷ x)) ∙ e)).0)
  one_end (l ∷ ls) (m ∷ ms) x y p q e =
      one_end ls ms x y p.1 q.1 (cut-one 10 l m (joined ls ++ (ending ++ 10 ∷ x)) (joined ms ++ (ending ++ 10 ∷ y)) p.0.0 q.0.0
      (sym (line-first l (joined ls) (ending ++ 10 ∷ x)) ∙ e ∙ line-first m (joined ms) (ending ++ 10 ∷ y))).1

  -- where there is no ending line there is none
  no_end : (ls ms : List (List ℕ)) (last y : List ℕ) → AreOthers ending ls → HasNo 10 last → AreOthers ending ms → joined ls ++ last ≡ joined ms ++ (ending ++ 10 ∷ y) → ⊥
  no_end [] [] last y p none q e = has-one 10 ending y (subst (HasNo 10) e none)
  no_end [] (m ∷ ms) last y p none q e = has-one 10 m (joined ms ++ (ending ++ 10 ∷ y)) (subst (HasNo 10) (e ∙ line-first m (joined ms) (ending ++ 10 ∷ y)) none)
  no_end (l ∷ ls) [] last y p none q e = p.0.1 (cut-one 10 l ending (joined ls ++ last) y p.0.0 clear (sym (line-first l (joined ls) last) ∙ e)).0
  no_end (l ∷ ls) (m ∷ ms) last y p none q e =
      no_end ls ms last y p.1 none q.1 (cut-one 10 l m (joined ls ++ last) (joined ms ++ (ending ++ 10 ∷ y)) p.0.0 q.0.0
      (sym (line-first l (joined ls) last) ∙ e ∙ line-first m (joined ms) (ending ++ 10 ∷ y))).1

  -- what follows a whole text that is an ending
  ended_more : (ms : List (List ℕ)) (tail : List ℕ) → (joined ms ++ (ending ++ 10 ∷ [])) ++ tail ≡ joined ms ++ (ending ++ 10 ∷ tail)
  ended_more ms tail = append_assoc (joined ms) (ending ++ 10 ∷ []) tail ∙ ap (λ (z : List ℕ). joined ms ++ z) (append_assoc ending (10 ∷ []) tail)

  module _ {A : Type 0} (grammar : Grammar A) (once : EndsOnce ending grammar) (piece : List ℕ) where
    -- no text that begins the piece is shorter
    pub least_of : IsEnding ending piece ⊎ IsUnending ending piece → IsLeast grammar piece
    least_of cut front tail value split text =
        let own = once front value text in
        let there : piece ≡ joined own.lines ++ (ending ++ 10 ∷ tail) = split ∙ ap (λ (z : List ℕ). z ++ tail) own.whole ∙ ended_more own.lines tail in
        elim cut [
          | inl is ↦ sym (one_end is.lines own.lines [] tail is.others own.others (sym is.whole ∙ there))
          | inr not ↦ absurd (no_end not.lines own.lines not.last tail not.others not.clear own.others (sym not.whole ∙ there))
        ]

    -- every text that begins with a piece that has the ending line ends there
    pub ended_of : IsEnding ending piece → IsEnded grammar piece
    ended_of is = record {
      line = joined is.lines ++ ending;
      whole = is.whole ∙ sym (append_assoc (joined is.lines) ending (10 ∷ []));
      no_longer = λ more value text.
          let own = once (piece ++ more) value text in
          one_end is.lines own.lines more [] is.others own.others (sym (ended_more is.lines more) ∙ ap (λ (z : List ℕ). z ++ more) (sym is.whole) ∙ own.whole);
    }

    -- a text has the ending line
    pub is_ended : (value : A) → IsEnding ending piece ⊎ IsUnending ending piece → grammar piece value → IsEnding ending piece
    is_ended value cut text = elim cut [ inl is ↦ is | inr not ↦ once piece value text ]

-- Whole lines were passed, none of which is the ending one, and the rest follows them.
pub record IsPassed (ending bytes rest : List ℕ) : Type 0 where
  pub lines : List (List ℕ)
  pub others : AreOthers ending lines
  pub whole : bytes ≡ joined lines ++ rest

joined_more : (lines : List (List ℕ)) (line : List ℕ) → joined (lines ++ line ∷ []) ≡ joined lines ++ (line ++ 10 ∷ [])
joined_more [] line = append-nil (line ++ 10 ∷ [])
joined_more (first ∷ lines) line = ap (λ (z : List ℕ). (first ++ 10 ∷ []) ++ z) (joined_more lines line) ∙ sym (append_assoc (first ++ 10 ∷ []) (joined lines) (line ++ 10 ∷ []))

others_more : (ending : List ℕ) (lines : List (List ℕ)) (line : List ℕ) → AreOthers ending lines → HasNo 10 line → line ≢ ending → AreOthers ending (lines ++ line ∷ [])
others_more ending [] line all clear other = ((clear, other), tt)
others_more ending (first ∷ lines) line all clear other = (all.0, others_more ending lines line all.1 clear other)

-- the bytes after a line that was passed or ends a text
line_split : (lines : List (List ℕ)) (bytes rest line later : List ℕ) → bytes ≡ joined lines ++ rest → rest ≡ line ++ 10 ∷ later → bytes ≡ (joined lines ++ (line ++ 10 ∷ [])) ++ later
line_split lines bytes rest line later whole split =
    whole ∙ (ap (λ (z : List ℕ). joined lines ++ z) (split ∙ sym (append_assoc line (10 ∷ []) later)) ∙ sym (append_assoc (joined lines) (line ++ 10 ∷ []) later))

pub passed_more : (ending bytes rest line later : List ℕ) → IsPassed ending bytes rest → rest ≡ line ++ 10 ∷ later → HasNo 10 line → line ≢ ending → IsPassed ending bytes later
passed_more ending bytes rest line later passed split clear other = record {
  lines = passed.lines ++ line ∷ [];
  others = others_more ending passed.lines line passed.others clear other;
  whole = line_split passed.lines bytes rest line later passed.whole split ∙ ap (λ (z : List ℕ). z ++ later) (sym (joined_more passed.lines line));
}

-- the ending line was met
pub split_met : (ending bytes rest line later piece last : List ℕ) (at : ℕ) → IsPassed ending bytes rest → rest ≡ line ++ 10 ∷ later → line ≡ ending → at ≡ length bytes - length later → piece ≡ take at bytes → last ≡ drop at bytes
    → IsSplitAfter ending bytes piece last
split_met ending bytes rest line later piece last at passed split same where_ front back =
    let front_of = joined passed.lines ++ (line ++ 10 ∷ []) in
    let whole = line_split passed.lines bytes rest line later passed.whole split in
    let long : at ≡ length front_of = (let sum = ap length whole ∙ length-append front_of later in omega (arith, where_, sum)) in
    let first : piece ≡ front_of = front ∙ (ap (λ (n : ℕ). take n bytes) long ∙ (ap (λ (z : List ℕ). take (length front_of) z) whole ∙ take-append_seam front_of later)) in
    record {
      whole = sym (take-append-drop at bytes) ∙ (ap (λ (z : List ℕ). z ++ drop at bytes) (sym front) ∙ ap (λ (z : List ℕ). piece ++ z) (sym back));
      cut = inl (record { lines = passed.lines; others = passed.others; whole = first ∙ ap (λ (z : List ℕ). joined passed.lines ++ (z ++ 10 ∷ [])) same });
    }

-- what follows a whole text is one
pub same_rest : (ending : List ℕ) → HasNo 10 ending → (front other rest more : List ℕ) → IsEnding ending front → IsEnding ending other → front ++ rest ≡ other ++ more → rest ≡ more
same_rest ending clear front other rest more is its e =
    one_end ending clear is.lines its.lines rest more is.others its.others
    (sym (ended_more ending clear is.lines rest) ∙ (ap (λ (z : List ℕ). z ++ rest) (sym is.whole) ∙ (e ∙ (ap (λ (z : List ℕ). z ++ more) its.whole ∙ ended_more ending clear its.lines more))))
