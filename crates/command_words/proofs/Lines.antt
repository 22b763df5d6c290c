-- The words of a line, one after another.
use Rattle.std.proofs.Common.{◌≡◌, ◌∙◌, ◌<◌, ◌+◌, ◌&&◌, ◌++◌, ℕ, Bool, true, false, List, [], ◌∷◌, Some, drop, length, sym, ap, true≢false, append_assoc}
use Rattle.std.specs.Prelude.{slice_get}
use Rattle.std.specs.List.{list_all}
use Rattle.std.proofs.lemmas.List.{drop_more}
use Rattle.std.proofs.lemmas.Option.{get_or_from_slice_get, slice_get_within}
use Rattle.command_words.specs.Parts.{ArePlain, is_plain}

-- the words from the next one on
next_word : (words : List (List ℕ)) (at : ℕ) (word : List ℕ) → slice_get words at ≡ Some word → drop at words ≡ word ∷ drop (at + 1) words
next_word words at word there =
    let within : at < length words = slice_get_within words at word there in
    drop_more words at word within ∙ ap (λ (w : List ℕ). w ∷ drop (at + 1) words) (get_or_from_slice_get words at word word there)

-- what is done and what is left make the words, and the words are plain if those left are
pub record IsDone (words done : List (List ℕ)) (at : ℕ) : Type 0 where
  pub whole : done ++ drop at words ≡ words
  pub plain : list_all is_plain (drop at words) ≡ list_all is_plain words

-- One more word is done.
pub goes_on : (words done : List (List ℕ)) (at : ℕ) (word : List ℕ) → slice_get words at ≡ Some word → is_plain word ≡ true → IsDone words done at → IsDone words (done ++ word ∷ []) (at + 1)
goes_on words done at word there plain is =
    let next = next_word words at word there in
    let same : list_all is_plain (drop at words) ≡ list_all is_plain (drop (at + 1) words) = ap (list_all is_plain) next ∙ ap (λ (b : Bool). b && list_all is_plain (drop (at + 1) words)) plain in
    record {
      whole = append_assoc done (word ∷ []) (drop (at + 1) words) ∙ (ap (λ (rest : List (List ℕ)). done ++ rest) (sym next) ∙ is.whole);
      plain = sym same ∙ is.plain;
    }

-- A word that is not plain is among words that are not all plain.
pub not_plain : (words done : List (List ℕ)) (at : ℕ) (word : List ℕ) → slice_get words at ≡ Some word → is_plain word ≡ false → IsDone words done at → ArePlain words → ⊥
not_plain words done at word there flag is all =
    let next = next_word words at word there in
    let some : list_all is_plain (drop at words) ≡ false = ap (list_all is_plain) next ∙ ap (λ (b : Bool). b && list_all is_plain (drop (at + 1) words)) flag in
    true≢false (sym all ∙ (sym is.plain ∙ some))
