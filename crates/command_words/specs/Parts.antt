-- The words of a command line, as they are divided.
use Rattle.std.specs.Prelude.{◌≡◌, ◌==◌, ◌<◌, ◌≤◌, ℕ, Bool, true, false, not, List, [], ◌∷◌, codes, length, option_map, slice_get, IfSome}
use Rattle.std.specs.List.{list_all}
use Rattle.clap.specs.Simple.{on_top}
use Rattle.clap.specs.Walk.{Row, first_of}
use Rattle.clap.specs.Words.{App, new_app, new_rule, with_rule}
use Rattle.command_words.specs.declared.parts.Parts.{Parts}

-- the word is not empty, and does not begin with `-`
abbrev pub is_plain : List ℕ → Bool
is_plain [] = false
is_plain (byte ∷ bytes) = not (byte == 45)

abbrev pub ArePlain : List (List ℕ) → Type 0
ArePlain words = list_all is_plain words ≡ true

-- the words are up to six, and these are they in their places
pub record AreParts (words : List (List ℕ)) (parts : Parts) : Type 0 where
  pub some : 0 < length words
  pub few : length words ≤ 6
  pub command : option_map (λ s. s.now) parts.command ≡ slice_get words 0
  pub first : option_map (λ s. s.now) parts.first ≡ slice_get words 1
  pub second : option_map (λ s. s.now) parts.second ≡ slice_get words 2
  pub third : option_map (λ s. s.now) parts.third ≡ slice_get words 3
  pub fourth : option_map (λ s. s.now) parts.fourth ≡ slice_get words 4
  pub fifth : option_map (λ s. s.now) parts.fifth ≡ slice_get words 5

-- the same of what `clap` found
pub record AreRows (words : List (List ℕ)) (rows : List Row) : Type 0 where
  pub some : 0 < length words
  pub few : length words ≤ 6
  pub command : first_of (codes "command") rows ≡ slice_get words 0
  pub first : first_of (codes "first") rows ≡ slice_get words 1
  pub second : first_of (codes "second") rows ≡ slice_get words 2
  pub third : first_of (codes "third") rows ≡ slice_get words 3
  pub fourth : first_of (codes "fourth") rows ≡ slice_get words 4
  pub fifth : first_of (codes "fifth") rows ≡ slice_get words 5

-- a command, and up to two words after it
abbrev pub short_program : App
short_program = with_rule (with_rule (with_rule (on_top (λ s. record s { no_binary_name = true }) (new_app (codes "allocation_cli")))
    (record (new_rule (codes "command")) { required = true })) (new_rule (codes "first"))) (new_rule (codes "second"))

-- what `clap` reads: a command, and up to five words after it
abbrev pub program : App
program = with_rule (with_rule (with_rule short_program (new_rule (codes "third"))) (new_rule (codes "fourth"))) (new_rule (codes "fifth"))

-- those of the words in their places that may name a file are plain
pub record NamePlain (parts : Parts) : Type 0 where
  pub first : IfSome parts.first (λ word. is_plain word.now ≡ true)
  pub second : IfSome parts.second (λ word. is_plain word.now ≡ true)
  pub fifth : IfSome parts.fifth (λ word. is_plain word.now ≡ true)
