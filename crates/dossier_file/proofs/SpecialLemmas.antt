-- Where the sections of a special round are cut off.
use Rattle.std.proofs.Common.{◌≡◌, ◌+◌, ◌-◌, ℕ, List, length, take, drop, refl, sym, ap, subst, ◌∙◌}
use Rattle.std.specs.Prelude.{codes}
use Rattle.season_file.specs.Bundle.{after_line}
use Rattle.dossier_file.specs.Split.{HasNoSection, IsSplit, IsTitledAt}
use Rattle.dossier_file.specs.Special.{HasNoSpecial, IsSpecialCut}
use Rattle.dossier_file.proofs.SplitLemmas.{one_split, one_title}

-- the cut as it is made
pub special_made : (bytes bundle requests texts tail rest last published : List ℕ) (first second : ℕ) → IsSplit bytes bundle requests texts → tail ≡ drop first texts → rest ≡ after_line tail
    → last ≡ drop second rest → published ≡ after_line last → IsTitledAt (codes "[lists]") texts first → IsTitledAt (codes "[special]") rest second
    → IsSpecialCut bytes (take (length bytes - length texts + first) bytes) (take second rest) published
special_made bytes bundle requests texts tail rest last published first second cut from line to end one two =
    let whole : rest ≡ after_line (drop first texts) = line ∙ ap (λ (z : List ℕ). after_line z) from in
    record {
      bundle = bundle;
      requests = requests;
      texts = texts;
      cut = cut;
      first = first;
      second = second;
      lists_line = one;
      special_line = subst (λ (z : List ℕ). IsTitledAt (codes "[special]") z second) whole two;
      is_front = refl;
      is_lists = ap (λ (z : List ℕ). take second z) whole;
      is_published = end ∙ (ap (λ (z : List ℕ). after_line z) to ∙ ap (λ (z : List ℕ). after_line (drop second z)) whole);
    }

-- no published texts
pub no_section : (bytes : List ℕ) → HasNoSection bytes → HasNoSpecial bytes
no_section bytes none front lists published cut = none cut.bundle cut.requests cut.texts cut.cut

-- no line `[lists]`
pub no_lists : (bytes bundle requests texts : List ℕ) → IsSplit bytes bundle requests texts → ((at : ℕ) → IsTitledAt (codes "[lists]") texts at → ⊥) → HasNoSpecial bytes
no_lists bytes bundle requests texts split none front lists published cut =
    let same = (one_split bytes cut.bundle cut.requests cut.texts bundle requests texts cut.cut split).papers in
    none cut.first (subst (λ (z : List ℕ). IsTitledAt (codes "[lists]") z cut.first) same cut.lists_line)

-- no line `[special]` after it
pub no_special : (bytes bundle requests texts tail rest : List ℕ) (first : ℕ) → IsSplit bytes bundle requests texts → tail ≡ drop first texts → rest ≡ after_line tail
    → IsTitledAt (codes "[lists]") texts first → ((at : ℕ) → IsTitledAt (codes "[special]") rest at → ⊥) → HasNoSpecial bytes
no_special bytes bundle requests texts tail rest first split from line one none front lists published cut =
    let same = (one_split bytes cut.bundle cut.requests cut.texts bundle requests texts cut.cut split).papers in
    let lists_there = subst (λ (z : List ℕ). IsTitledAt (codes "[lists]") z cut.first) same cut.lists_line in
    let at = one_title (codes "[lists]") texts cut.first first lists_there one in
    let whole : rest ≡ after_line (drop first texts) = line ∙ ap (λ (z : List ℕ). after_line z) from in
    let by_texts = subst (λ (z : List ℕ). IsTitledAt (codes "[special]") (after_line (drop cut.first z)) cut.second) same cut.special_line in
    let by_place = subst (λ (n : ℕ). IsTitledAt (codes "[special]") (after_line (drop n texts)) cut.second) at by_texts in
    none cut.second (subst (λ (z : List ℕ). IsTitledAt (codes "[special]") z cut.second) (sym whole) by_place)

-- What two cuts of the same bytes are.
pub record AreSameParts (front lists published other more rest : List ℕ) : Type 0 where
  pub fronts : front ≡ other
  pub lists_are : lists ≡ more
  pub texts : published ≡ rest

-- bytes are cut in one way
pub one_special_cut : (bytes front lists published other more rest : List ℕ) → IsSpecialCut bytes front lists published → IsSpecialCut bytes other more rest → AreSameParts front lists published other more rest
one_special_cut bytes front lists published other more rest a b =
    let same = (one_split bytes a.bundle a.requests a.texts b.bundle b.requests b.texts a.cut b.cut).papers in
    let first : a.first ≡ b.first = one_title (codes "[lists]") b.texts a.first b.first (subst (λ (z : List ℕ). IsTitledAt (codes "[lists]") z a.first) same a.lists_line) b.lists_line in
    let tail : drop a.first a.texts ≡ drop b.first b.texts = ap (λ (z : List ℕ). drop a.first z) same ∙ ap (λ (n : ℕ). drop n b.texts) first in
    let second : a.second ≡ b.second = one_title (codes "[special]") (after_line (drop b.first b.texts)) a.second b.second
    (subst (λ (z : List ℕ). IsTitledAt (codes "[special]") (after_line z) a.second) tail a.special_line) b.special_line in
    record {
      fronts = a.is_front ∙ (ap (λ (z : List ℕ). take (length bytes - length z + a.first) bytes) same ∙ (ap (λ (n : ℕ). take (length bytes - length b.texts + n) bytes) first ∙ sym b.is_front));
      lists_are = a.is_lists ∙ (ap (λ (z : List ℕ). take a.second (after_line z)) tail ∙ (ap (λ (n : ℕ). take n (after_line (drop b.first b.texts))) second ∙ sym b.is_lists));
      texts = a.is_published ∙ (ap (λ (z : List ℕ). after_line (drop a.second (after_line z))) tail ∙ (ap (λ (n : ℕ). after_line (drop n (after_line (drop b.first b.texts)))) second ∙ sym b.is_published));
    }
