-- What the piece that is cut off the bytes gives.
use Rattle.std.proofs.Common.{◌≡◌, ◌⊎◌, ℕ, List, [], ◌∷◌, ◌++◌, refl, sym, ap, ◌∙◌, subst, inl, inr, append-nil, append_assoc}
use Rattle.text_readers.specs.Reading.{Begins, Grammar, HasNo, IsFaultLine, IsTextFault}
use Rattle.text_readers.specs.declared.fault.TextFault.{TextFault}
use Rattle.text_readers.specs.declared.fault.TextFault.TheVariants.{Line, OutOfMemory}
use Rattle.text_readers.proofs.PartsLemmas.{has-one}
use Rattle.dossier_file.specs.Papers.{OwnTexts}
use Rattle.dossier_file.specs.Texts.{IsSplitAfter, IsEnding, IsFaultFrom, IsNoHead, IsReadFrom, IsTextsFault, IsUnending, joined, line_past}
use Rattle.dossier_file.proofs.EndLemmas.{EndsOnce, ended_of, is_ended, least_of}
use Rattle.dossier_file.proofs.HeadLemmas.{IsHead, IsHeaded, apart_fault, inside_fault, inside_line, own_fault}
use Rattle.dossier_file.proofs.LineLemmas.{nothing_left, two_fronts}

-- a line without an LF and its end, up to an LF
last_lf : (l line more : List ℕ) → HasNo 10 l → l ++ 10 ∷ [] ≡ line ++ 10 ∷ more → more ≡ []
last_lf [] [] more clear e = (let rest : [] ≡ more = cc in sym rest)
last_lf [] (x ∷ line) more clear e = (let rest : [] ≡ line ++ 10 ∷ more = cc in absurd (gone line more (sym rest)))
  where
    gone : (a b : List ℕ) → a ++ 10 ∷ b ≡ [] → ⊥
    gone [] b e = cc
    gone (x ∷ a) b e = cc
last_lf (x ∷ l) [] more clear e = absurd (clear.0 cc)
last_lf (x ∷ l) (y ∷ line) more clear e = (let rest : l ++ 10 ∷ [] ≡ line ++ 10 ∷ more = cc in last_lf l line more clear.1 rest)

-- nothing of a head follows a whole line
head_ends : (head line more : List ℕ) → IsHead head → head ≡ (line ++ 10 ∷ []) ++ more → more ≡ []
head_ends head line more is e =
    let there : head ≡ line ++ 10 ∷ more = e ∙ append_assoc line (10 ∷ []) more in
    elim is [
      | inl clear ↦ absurd (has-one 10 line more (subst (HasNo 10) there clear))
      | inr ended ↦ last_lf ended.0 line more ended.2 (sym ended.1 ∙ there)
    ]

module _ {A : Type 0} (ending : List ℕ) (clear : HasNo 10 ending) (grammar : Grammar A) (once : EndsOnce ending grammar) (text piece rest : List ℕ) (cut : IsSplitAfter ending text piece rest) where
  shape : IsEnding ending piece ⊎ IsUnending ending piece
  shape = elim cut.cut [ inl is ↦ inl is | inr not ↦ inr not.0 ]

  -- the piece is a text
  pub taken : (value : A) → grammar piece value → IsReadFrom grammar text value rest
  taken value is = record {
    piece = piece;
    whole = cut.whole;
    is = is;
    least = least_of ending clear grammar once piece shape;
    ended = ended_of ending clear grammar once piece (is_ended ending clear grammar once piece value shape is);
  }

  -- the piece is none
  pub refused : (n : ℕ) → IsFaultLine grammar piece n → IsFaultFrom grammar text n
  refused n fault = record {
    piece = piece;
    rest = rest;
    whole = cut.whole;
    least = least_of ending clear grammar once piece shape;
    ended = elim cut.cut [ inl is ↦ inl (ended_of ending clear grammar once piece is) | inr not ↦ inr not.1 ];
    fault = fault;
  }

  pub refused_as : (fault : TextFault) → IsTextFault grammar piece fault → IsTextsFault grammar text fault
  refused_as (Line n) is = refused n is
  refused_as OutOfMemory is = tt

module _ {A : Type 0} (head ending : List ℕ) (clear : HasNo 10 ending) (grammar : Grammar A) (Own : A → Type 0) (once : EndsOnce ending grammar) (own : IsHeaded head grammar Own) (is_head : IsHead head) (some : Begins (OwnTexts grammar Own) []) where
  own_once : EndsOnce ending (OwnTexts grammar Own)
  own_once text value is = once text value is.0

  module _ (text piece rest tail : List ℕ) (cut : IsSplitAfter ending text piece rest) (begins : text ≡ head ++ tail) where
    -- the head is in the piece
    piece_headed : (more : List ℕ) × (piece ≡ head ++ more)
    piece_headed = elim (two_fronts piece rest head tail (sym cut.whole ∙ begins)) [
      | inl h ↦
          let none : h.0 ≡ [] = elim cut.cut [
            | inl is ↦ head_ends head (joined is.lines ++ ending) h.0 is_head (h.1 ∙ ap (λ (z : List ℕ). z ++ h.0) (is.whole ∙ sym (append_assoc (joined is.lines) ending (10 ∷ []))))
            | inr not ↦ nothing_left h.0 tail (sym h.2 ∙ not.1)
          ] in
          ([], sym (append-nil piece) ∙ ap (λ (z : List ℕ). piece ++ z) (sym none) ∙ sym h.1 ∙ sym (append-nil head))
      | inr h ↦ (h.0, h.1)
    ]

    -- the piece is a text
    pub own_taken : (value : A) → grammar piece value → IsReadFrom (OwnTexts grammar Own) text value rest
    own_taken value is =
        taken ending clear (OwnTexts grammar Own) own_once text piece rest cut value (is, own.back piece_headed.0 value (subst (λ (z : List ℕ). grammar z value) piece_headed.1 is))

    -- the piece is none
    own_refused : (n : ℕ) → IsFaultLine grammar piece n → IsFaultFrom (OwnTexts grammar Own) text n
    own_refused n fault =
        refused ending clear (OwnTexts grammar Own) own_once text piece rest cut n (subst (λ (z : List ℕ). IsFaultLine (OwnTexts grammar Own) z n) (sym piece_headed.1)
        (own_fault head grammar Own own is_head some piece_headed.0 n (subst (λ (z : List ℕ). IsFaultLine grammar z n) piece_headed.1 fault)))

    pub own_refused_as : (fault : TextFault) → IsTextFault grammar piece fault → IsTextsFault (OwnTexts grammar Own) text fault
    own_refused_as (Line n) is = own_refused n is
    own_refused_as OutOfMemory is = tt

  -- the bytes are a part of the head
  inside : (text more : List ℕ) (n : ℕ) → head ≡ text ++ more → n ≡ line_past text → ((tail : List ℕ) → text ≡ head ++ tail → ⊥) → IsFaultLine (OwnTexts grammar Own) text n
  inside text [] n split e apart = absurd (apart [] (sym (append-nil text) ∙ sym split ∙ sym (append-nil head)))
  inside [] (byte ∷ more) n split e apart = inside_fault head grammar Own own is_head some [] more byte n split e
  inside (b ∷ bytes) (byte ∷ more) n split e apart =
      subst (IsFaultLine (OwnTexts grammar Own) (b ∷ bytes)) (sym e) (inside_line head grammar Own own is_head some (b ∷ bytes) more byte split (λ (z : b ∷ bytes ≡ []). cc))

  -- the bytes have not the head
  pub headless : (text : List ℕ) (n : ℕ) → IsNoHead head text n → IsFaultFrom (OwnTexts grammar Own) text n
  headless text n lacks = record {
    piece = text;
    rest = [];
    whole = sym (append-nil text);
    least = λ front tail value e is.
        let s = own.starts front value is.0 is.1 in
        absurd (lacks.apart (s.0 ++ tail) (e ∙ ap (λ (z : List ℕ). z ++ tail) s.1 ∙ append_assoc head s.0 tail));
    ended = inr refl;
    fault = elim lacks.at [
      | inl h ↦ inside text h.0 n h.1 h.2 lacks.apart
      | inr h ↦ subst (IsFaultLine (OwnTexts grammar Own) text) (sym h.1) (apart_fault head grammar Own own is_head some text lacks.apart h.0)
    ];
  }
