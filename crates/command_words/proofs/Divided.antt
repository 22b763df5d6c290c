-- What `clap` makes of plain words.
use Rattle.std.proofs.Common.{◌≡◌, ◌∙◌, ◌<◌, ◌⊎◌, inl, inr, refl, sym, ap, ap₂, true≢false, arith, ℕ, Bool, true, false, List, [], ◌∷◌, Option, None, length, is_some}
use Rattle.std.specs.Prelude.{◌==◌, fold, if◌then◌else◌}
use Rattle.std.specs.List.{list_all}
use Rattle.std.specs.Option.{option_map_or}
use Rattle.std.specs.Str.{bytes_eq}
use Rattle.clap.specs.Lexer.{long_of, short_of}
use Rattle.clap.specs.Kinds.{Kinds, or_else}
use Rattle.clap.specs.Faults.{bundle_fault, check_fault, defaults_fault, entered_fault, fault_of, flag_word_fault, is_simple_and_free, settle_fault, step_fault, turn_fault, walk_fault, word_fault}
use Rattle.clap.specs.Simple.{Shape, built, entered, is_simple, matches_of}
use Rattle.clap.specs.Walk.{Held, Row, Rule, Step, Text, Walk, after_step, arg_by_index, finished, idle, long_or_other, nothing_held, settled, short_or_plain, to_positional, trailing, value, walk, walk_from, walked, word_met}
use Rattle.clap.specs.declared.error.kind.ErrorKind.TheVariants as kind
use Rattle.clap.proofs.OnLiterals.{clap_on_literals}
use Rattle.std.proofs.lemmas.Bool.{and_parts, not-true}
use Rattle.command_words.specs.Parts.{ArePlain, AreRows, is_plain, program}

-- ---- a plain word is no flag

record IsNoFlag (word : Text) : Type 0 where
  pub dashes : bytes_eq word (45 ∷ 45 ∷ []) ≡ false
  pub long : long_of word ≡ None
  pub short : short_of word ≡ None

no_flag : (word : Text) → is_plain word ≡ true → IsNoFlag word
no_flag [] plain = absurd (true≢false (sym plain))
no_flag (byte ∷ bytes) plain =
    let other : (byte == 45) ≡ false = not-true (byte == 45) plain in
    record { dashes = rw other refl; long = rw other refl; short = rw other refl }

-- ---- a turn of the walk

abbrev rules : List Rule
rules = (built program).top.rules

abbrev shape : Shape
shape = (built program).top

-- between two words
abbrev between : Held → ℕ → Walk
between held position = record { held = held; waiting = idle; position = position; is_trailing = false; stopped = None }

-- after one more word
abbrev next : Held → ℕ → Text → Walk
next held position word = to_positional rules (arg_by_index rules position) word (between held position) held

met : (held : Held) (position : ℕ) (word : Text) → IsNoFlag word → word_met rules [] false idle position word held ≡ (held, value)
met held position word plain =
    ap (λ (b : Bool). if b then (held, trailing position) else long_or_other rules idle word (long_of word) held) plain.dashes
    ∙ (ap (λ (o : Option (Text × Option Text)). long_or_other rules idle word o held) plain.long
    ∙ ap (λ (o : Option Text). short_or_plain rules idle word o held) plain.short)

turn : (held : Held) (position : ℕ) (word : Text) → IsNoFlag word → walked rules [] (between held position) word ≡ next held position word
unfolding walked
turn held position word plain = ap (λ (m : Held × Step). after_step rules word (between held position) m.0 m.1) (met held position word plain)

no_fault : (held : Held) (word : Text) → IsNoFlag word → word_fault shape [] false idle word held ≡ []
no_fault held word plain =
    ap (λ (b : Bool). if b then [] else flag_word_fault rules false (long_of word) word held) plain.dashes
    ∙ (ap (λ (o : Option (Text × Option Text)). flag_word_fault rules false o word held) plain.long
    ∙ ap (λ (o : Option Text). option_map_or (λ flags. bundle_fault rules false flags held) o []) plain.short)

turn_fails : (held : Held) (position : ℕ) (word : Text) → IsNoFlag word → turn_fault shape [] (between held position) word ≡ step_fault shape position held value
turn_fails held position word plain =
    ap (λ (k : Kinds). or_else k (step_fault shape position (word_met rules [] false idle position word held).0 (word_met rules [] false idle position word held).1)) (no_fault held word plain)
    ∙ ap (λ (m : Held × Step). step_fault shape position m.0 m.1) (met held position word plain)

-- the words after one more
walk_on : (held : Held) (position : ℕ) (word : Text) (rest : List Text) → IsNoFlag word
    → fold (walked rules []) (between held position) (word ∷ rest) ≡ fold (walked rules []) (next held position word) rest
walk_on held position word rest plain = ap (λ (w : Walk). fold (walked rules []) w rest) (turn held position word plain)

fails_on : (held : Held) (position : ℕ) (word : Text) (rest : List Text) → IsNoFlag word
    → walk_fault shape [] (between held position) (word ∷ rest) ≡ or_else (step_fault shape position held value) (walk_fault shape [] (next held position word) rest)
unfolding walk_fault
fails_on held position word rest plain =
    ap₂ (λ (k : Kinds) (w : Walk). or_else k (walk_fault shape [] w rest)) (turn_fails held position word plain) (turn held position word plain)

-- ---- the walks over up to six words

abbrev one : Text → Walk
one w = next nothing_held 1 w

abbrev two : Text → Text → Walk
two w x = next (one w).held 2 x

abbrev three : Text → Text → Text → Walk
three w x y = next (two w x).held 3 y

abbrev four : Text → Text → Text → Text → Walk
four w x y z = next (three w x y).held 4 z

abbrev five : Text → Text → Text → Text → Text → Walk
five w x y z u = next (four w x y z).held 5 u

abbrev six : Text → Text → Text → Text → Text → Text → Walk
six w x y z u v = next (five w x y z u).held 6 v

-- ---- the end of a walk

-- the kinds of error at the end of a walk
abbrev ends : Walk → Kinds → Kinds
ends w k = or_else k (or_else (entered_fault (built program) w.stopped) (or_else (settle_fault rules false w.held)
    (or_else (defaults_fault (settled rules w.held).rows rules) (check_fault shape (finished rules w.held) (is_some (entered (built program) w.stopped))))))

fault_at_end : (words : List Text) (w : Walk) (k : Kinds) → walk rules [] nothing_held words ≡ w → walk_fault shape [] (walk_from nothing_held) words ≡ k → fault_of program words ≡ ends w k
fault_at_end words w k reaches fails = ap₂ (λ (v : Walk) (j : Kinds). ends v j) reaches fails

rows_at_end : (words : List Text) (w : Walk) → walk rules [] nothing_held words ≡ w → matches_of program words ≡ finished rules w.held
rows_at_end words w reaches = ap (λ (v : Walk). finished rules v.held) reaches

-- the words are divided
record IsDivided (words : List Text) : Type 0 where
  pub faultless : fault_of program words ≡ []
  pub rows : AreRows words (matches_of program words)

-- Rows that are these are divided as these.
pub as_rows : (words : List Text) (rows found : List Row) → found ≡ rows → AreRows words rows → AreRows words found
as_rows words rows found same are = rw same are

-- the rows of a walk's end
rows_are : (words : List Text) (w : Walk) → walk rules [] nothing_held words ≡ w → AreRows words (finished rules w.held) → AreRows words (matches_of program words)
rows_are words w reaches are = as_rows words _ _ (rows_at_end words w reaches) are

module _ (w : Text) (p : IsNoFlag w) where
  reaches_one : walk rules [] nothing_held (w ∷ []) ≡ one w
  reaches_one = walk_on nothing_held 1 w [] p

  passes_one : walk_fault shape [] (walk_from nothing_held) (w ∷ []) ≡ []
  unfolding clap_on_literals
  passes_one = fails_on nothing_held 1 w [] p

  divided_one : IsDivided (w ∷ [])
  unfolding clap_on_literals
  divided_one = record {
    faultless = fault_at_end (w ∷ []) (one w) [] reaches_one passes_one;
    rows = rows_are (w ∷ []) (one w) reaches_one (record { some = omega arith; few = omega arith; command = refl; first = refl; second = refl; third = refl; fourth = refl; fifth = refl });
  }

  module _ (x : Text) (q : IsNoFlag x) where
    reaches_two : walk rules [] nothing_held (w ∷ x ∷ []) ≡ two w x
    reaches_two = walk_on nothing_held 1 w (x ∷ []) p ∙ walk_on (one w).held 2 x [] q

    passes_two : walk_fault shape [] (walk_from nothing_held) (w ∷ x ∷ []) ≡ []
    unfolding clap_on_literals
    passes_two = fails_on nothing_held 1 w (x ∷ []) p ∙ fails_on (one w).held 2 x [] q

    divided_two : IsDivided (w ∷ x ∷ [])
    unfolding clap_on_literals
    divided_two = record {
      faultless = fault_at_end (w ∷ x ∷ []) (two w x) [] reaches_two passes_two;
      rows = rows_are (w ∷ x ∷ []) (two w x) reaches_two (record { some = omega arith; few = omega arith; command = refl; first = refl; second = refl; third = refl; fourth = refl; fifth = refl });
    }

    module _ (y : Text) (r : IsNoFlag y) where
      reaches_three : walk rules [] nothing_held (w ∷ x ∷ y ∷ []) ≡ three w x y
      reaches_three = walk_on nothing_held 1 w (x ∷ y ∷ []) p ∙ (walk_on (one w).held 2 x (y ∷ []) q ∙ walk_on (two w x).held 3 y [] r)

      passes_three : walk_fault shape [] (walk_from nothing_held) (w ∷ x ∷ y ∷ []) ≡ []
      unfolding clap_on_literals
      passes_three = fails_on nothing_held 1 w (x ∷ y ∷ []) p ∙ (fails_on (one w).held 2 x (y ∷ []) q ∙ fails_on (two w x).held 3 y [] r)

      divided_three : IsDivided (w ∷ x ∷ y ∷ [])
      unfolding clap_on_literals
      divided_three = record {
        faultless = fault_at_end (w ∷ x ∷ y ∷ []) (three w x y) [] reaches_three passes_three;
        rows = rows_are (w ∷ x ∷ y ∷ []) (three w x y) reaches_three (record { some = omega arith; few = omega arith; command = refl; first = refl; second = refl; third = refl; fourth = refl; fifth = refl });
      }

      module _ (z : Text) (t : IsNoFlag z) where
        -- four words, and more
        on_four : (rest : List Text) → walk rules [] nothing_held (w ∷ x ∷ y ∷ z ∷ rest) ≡ fold (walked rules []) (four w x y z) rest
        on_four rest = walk_on nothing_held 1 w (x ∷ y ∷ z ∷ rest) p
            ∙ (walk_on (one w).held 2 x (y ∷ z ∷ rest) q ∙ (walk_on (two w x).held 3 y (z ∷ rest) r ∙ walk_on (three w x y).held 4 z rest t))

        fails_four : (rest : List Text) → walk_fault shape [] (walk_from nothing_held) (w ∷ x ∷ y ∷ z ∷ rest) ≡ walk_fault shape [] (four w x y z) rest
        unfolding clap_on_literals
        fails_four rest = fails_on nothing_held 1 w (x ∷ y ∷ z ∷ rest) p
            ∙ (fails_on (one w).held 2 x (y ∷ z ∷ rest) q ∙ (fails_on (two w x).held 3 y (z ∷ rest) r ∙ fails_on (three w x y).held 4 z rest t))

        passes_four : walk_fault shape [] (walk_from nothing_held) (w ∷ x ∷ y ∷ z ∷ []) ≡ []
        unfolding clap_on_literals
        passes_four = fails_four []

        divided_four : IsDivided (w ∷ x ∷ y ∷ z ∷ [])
        unfolding clap_on_literals
        divided_four = record {
          faultless = fault_at_end (w ∷ x ∷ y ∷ z ∷ []) (four w x y z) [] (on_four []) passes_four;
          rows = rows_are (w ∷ x ∷ y ∷ z ∷ []) (four w x y z) (on_four []) (record { some = omega arith; few = omega arith; command = refl; first = refl; second = refl; third = refl; fourth = refl; fifth = refl });
        }

        module _ (u : Text) (s : IsNoFlag u) where
          reaches_five : walk rules [] nothing_held (w ∷ x ∷ y ∷ z ∷ u ∷ []) ≡ five w x y z u
          reaches_five = on_four (u ∷ []) ∙ walk_on (four w x y z).held 5 u [] s

          passes_five : walk_fault shape [] (walk_from nothing_held) (w ∷ x ∷ y ∷ z ∷ u ∷ []) ≡ []
          unfolding clap_on_literals
          passes_five = fails_four (u ∷ []) ∙ fails_on (four w x y z).held 5 u [] s

          divided_five : IsDivided (w ∷ x ∷ y ∷ z ∷ u ∷ [])
          unfolding clap_on_literals
          divided_five = record {
            faultless = fault_at_end (w ∷ x ∷ y ∷ z ∷ u ∷ []) (five w x y z u) [] reaches_five passes_five;
            rows = rows_are (w ∷ x ∷ y ∷ z ∷ u ∷ []) (five w x y z u) reaches_five
                (record { some = omega arith; few = omega arith; command = refl; first = refl; second = refl; third = refl; fourth = refl; fifth = refl });
          }

          module _ (v : Text) (o : IsNoFlag v) where
            -- six words, and more
            fails_six : (rest : List Text) → walk_fault shape [] (walk_from nothing_held) (w ∷ x ∷ y ∷ z ∷ u ∷ v ∷ rest) ≡ walk_fault shape [] (six w x y z u v) rest
            unfolding clap_on_literals
            fails_six rest = fails_four (u ∷ v ∷ rest) ∙ (fails_on (four w x y z).held 5 u (v ∷ rest) s ∙ fails_on (five w x y z u).held 6 v rest o)

            reaches_six : walk rules [] nothing_held (w ∷ x ∷ y ∷ z ∷ u ∷ v ∷ []) ≡ six w x y z u v
            reaches_six = on_four (u ∷ v ∷ []) ∙ (walk_on (four w x y z).held 5 u (v ∷ []) s ∙ walk_on (five w x y z u).held 6 v [] o)

            passes_six : walk_fault shape [] (walk_from nothing_held) (w ∷ x ∷ y ∷ z ∷ u ∷ v ∷ []) ≡ []
            unfolding clap_on_literals
            passes_six = fails_six []

            divided_six : IsDivided (w ∷ x ∷ y ∷ z ∷ u ∷ v ∷ [])
            unfolding clap_on_literals
            divided_six = record {
              faultless = fault_at_end (w ∷ x ∷ y ∷ z ∷ u ∷ v ∷ []) (six w x y z u v) [] reaches_six passes_six;
              rows = rows_are (w ∷ x ∷ y ∷ z ∷ u ∷ v ∷ []) (six w x y z u v) reaches_six
                  (record { some = omega arith; few = omega arith; command = refl; first = refl; second = refl; third = refl; fourth = refl; fifth = refl });
            }

            refuses_seven : (a : Text) (rest : List Text) → IsNoFlag a → walk_fault shape [] (walk_from nothing_held) (w ∷ x ∷ y ∷ z ∷ u ∷ v ∷ a ∷ rest) ≡ kind.UnknownArgument ∷ []
            unfolding clap_on_literals
            refuses_seven a rest b = fails_six (a ∷ rest) ∙ fails_on (six w x y z u v).held 7 a rest b

            divided_not : (a : Text) (rest : List Text) → IsNoFlag a → fault_of program (w ∷ x ∷ y ∷ z ∷ u ∷ v ∷ a ∷ rest) ≡ kind.UnknownArgument ∷ []
            divided_not a rest b = fault_at_end (w ∷ x ∷ y ∷ z ∷ u ∷ v ∷ a ∷ rest) _ _ refl (refuses_seven a rest b)

refuses_none : fault_of program [] ≡ kind.MissingRequiredArgument ∷ []
unfolding clap_on_literals
refuses_none = refl

-- ---- all together

abbrev Divides : List Text → Type 0
Divides words = (fault_of program words ≡ [] → AreRows words (matches_of program words)) × ((fault_of program words ≡ [] → ⊥) → (length words ≡ 0) ⊎ (6 < length words))

divides_well : (words : List Text) → IsDivided words → Divides words
divides_well words is = (λ none. is.rows, λ some. absurd (some is.faultless))

head_of : (w : Text) (words : List Text) → ArePlain (w ∷ words) → IsNoFlag w
head_of w words plain = no_flag w (and_parts (is_plain w) (list_all is_plain words) plain).0

rest_of : (w : Text) (words : List Text) → ArePlain (w ∷ words) → ArePlain words
rest_of w words plain = (and_parts (is_plain w) (list_all is_plain words) plain).1

-- Plain words are divided into their places if there are one to six of them, and otherwise refused.
pub divides : (words : List Text) → ArePlain words → Divides words
divides [] plain = (λ none. absurd (bad none), λ some. inl refl)
  where
    bad : fault_of program [] ≡ [] → ⊥
    bad none = let same : kind.MissingRequiredArgument ∷ [] ≡ [] = sym refuses_none ∙ none in cc
divides (w ∷ []) plain =
    divides_well (w ∷ []) (divided_one w (head_of w [] plain))
divides (w ∷ x ∷ []) plain =
    let p1 : ArePlain (x ∷ []) = rest_of w (x ∷ []) plain in
    divides_well (w ∷ x ∷ []) (divided_two w (head_of w (x ∷ []) plain) x (head_of x [] p1))
divides (w ∷ x ∷ y ∷ []) plain =
    let p1 : ArePlain (x ∷ y ∷ []) = rest_of w (x ∷ y ∷ []) plain in
    let p2 : ArePlain (y ∷ []) = rest_of x (y ∷ []) p1 in
    divides_well (w ∷ x ∷ y ∷ []) (divided_three w (head_of w (x ∷ y ∷ []) plain) x (head_of x (y ∷ []) p1) y (head_of y [] p2))
divides (w ∷ x ∷ y ∷ z ∷ []) plain =
    let p1 : ArePlain (x ∷ y ∷ z ∷ []) = rest_of w (x ∷ y ∷ z ∷ []) plain in
    let p2 : ArePlain (y ∷ z ∷ []) = rest_of x (y ∷ z ∷ []) p1 in
    let p3 : ArePlain (z ∷ []) = rest_of y (z ∷ []) p2 in
    divides_well (w ∷ x ∷ y ∷ z ∷ []) (divided_four w (head_of w (x ∷ y ∷ z ∷ []) plain) x (head_of x (y ∷ z ∷ []) p1) y (head_of y (z ∷ []) p2) z (head_of z [] p3))
divides (w ∷ x ∷ y ∷ z ∷ u ∷ []) plain =
    let p1 : ArePlain (x ∷ y ∷ z ∷ u ∷ []) = rest_of w (x ∷ y ∷ z ∷ u ∷ []) plain in
    let p2 : ArePlain (y ∷ z ∷ u ∷ []) = rest_of x (y ∷ z ∷ u ∷ []) p1 in
    let p3 : ArePlain (z ∷ u ∷ []) = rest_of y (z ∷ u ∷ []) p2 in
    let p4 : ArePlain (u ∷ []) = rest_of z (u ∷ []) p3 in
    divides_well (w ∷ x ∷ y ∷ z ∷ u ∷ []) (divided_five w (head_of w (x ∷ y ∷ z ∷ u ∷ []) plain) x (head_of x (y ∷ z ∷ u ∷ []) p1) y (head_of y (z ∷ u ∷ []) p2) z (head_of z (u ∷ []) p3) u (head_of u [] p4))
divides (w ∷ x ∷ y ∷ z ∷ u ∷ v ∷ []) plain =
    let p1 : ArePlain (x ∷ y ∷ z ∷ u ∷ v ∷ []) = rest_of w (x ∷ y ∷ z ∷ u ∷ v ∷ []) plain in
    let p2 : ArePlain (y ∷ z ∷ u ∷ v ∷ []) = rest_of x (y ∷ z ∷ u ∷ v ∷ []) p1 in
    let p3 : ArePlain (z ∷ u ∷ v ∷ []) = rest_of y (z ∷ u ∷ v ∷ []) p2 in
    let p4 : ArePlain (u ∷ v ∷ []) = rest_of z (u ∷ v ∷ []) p3 in
    let p5 : ArePlain (v ∷ []) = rest_of u (v ∷ []) p4 in
    divides_well (w ∷ x ∷ y ∷ z ∷ u ∷ v ∷ []) (divided_six w (head_of w (x ∷ y ∷ z ∷ u ∷ v ∷ []) plain) x (head_of x (y ∷ z ∷ u ∷ v ∷ []) p1) y (head_of y (z ∷ u ∷ v ∷ []) p2) z (head_of z (u ∷ v ∷ []) p3) u (head_of u (v ∷ []) p4) v (head_of v [] p5))
divides (w ∷ x ∷ y ∷ z ∷ u ∷ v ∷ a ∷ rest) plain =
    let p1 : ArePlain (x ∷ y ∷ z ∷ u ∷ v ∷ a ∷ rest) = rest_of w (x ∷ y ∷ z ∷ u ∷ v ∷ a ∷ rest) plain in
    let p2 : ArePlain (y ∷ z ∷ u ∷ v ∷ a ∷ rest) = rest_of x (y ∷ z ∷ u ∷ v ∷ a ∷ rest) p1 in
    let p3 : ArePlain (z ∷ u ∷ v ∷ a ∷ rest) = rest_of y (z ∷ u ∷ v ∷ a ∷ rest) p2 in
    let p4 : ArePlain (u ∷ v ∷ a ∷ rest) = rest_of z (u ∷ v ∷ a ∷ rest) p3 in
    let p5 : ArePlain (v ∷ a ∷ rest) = rest_of u (v ∷ a ∷ rest) p4 in
    let p6 : ArePlain (a ∷ rest) = rest_of v (a ∷ rest) p5 in
    let refuses : fault_of program (w ∷ x ∷ y ∷ z ∷ u ∷ v ∷ a ∷ rest) ≡ kind.UnknownArgument ∷ [] =
    divided_not w (head_of w (x ∷ y ∷ z ∷ u ∷ v ∷ a ∷ rest) plain) x (head_of x (y ∷ z ∷ u ∷ v ∷ a ∷ rest) p1) y (head_of y (z ∷ u ∷ v ∷ a ∷ rest) p2) z (head_of z (u ∷ v ∷ a ∷ rest) p3) u (head_of u (v ∷ a ∷ rest) p4) v (head_of v (a ∷ rest) p5) a rest (head_of a rest p6) in
    (λ none. let same : kind.UnknownArgument ∷ [] ≡ [] = sym refuses ∙ none in absurd cc, λ some. inr (omega arith))

pub is_simple_program : is_simple program ≡ true
unfolding clap_on_literals
is_simple_program = refl

pub is_free_program : is_simple_and_free program ≡ true
unfolding clap_on_literals
is_free_program = refl
