-- The texts of cutoffs, of entries and of answers are cut in one way, and each of their words is that of one value.
use Rattle.std.proofs.Common.{◌≡◌, ◌<◌, ◌^◌, ◌⊎◌, ℕ, zero, suc, Bool, true, false, ◌&&◌, not, eqb, List, [], ◌∷◌, ◌++◌, Option, Some, None, length, refl, sym, inl, inr, ap, ◌∙◌, arith, append_assoc, eq-eqb, subst, if◌then◌else◌}
use Rattle.std.proofs.lemmas.Bool.{and_parts, cases_eq, eqb-true, false≢true}
use Rattle.std.proofs.lemmas.Fmt.{decimal_injective, digits_decimal}
use Rattle.std.proofs.lemmas.Slice.Eq.{bytes_eq-Decides}
use Rattle.std.specs.Char.{is_ascii_digit}
use Rattle.std.specs.Fmt.{decimal}
use Rattle.std.specs.List.{AllByRecursion, flat_map, list_all}
use Rattle.std.specs.Prelude.{bytes_eq, codes}
use Rattle.kept_rows.specs.declared.rows.AnswerRow.{AnswerRow}
use Rattle.list_cutoffs.specs.declared.cutoffs.StepCutoff.{StepCutoff}
use Rattle.office_base.specs.Person.{IsTraitSet}
use Rattle.office_base.specs.declared.choice.Choice.{Choice}
use Rattle.office_base.specs.declared.choice.Choice.TheVariants.{Freeze, Float, Slide, Withdraw}
use Rattle.office_base.specs.declared.person.Category.{Category}
use Rattle.office_base.specs.declared.person.Category.TheVariants.{Gen, Ews, Obc, Sc, St}
use Rattle.office_base.specs.declared.person.Person.{Person}
use Rattle.office_base.specs.declared.person.Place.{Place}
use Rattle.office_base.specs.declared.person.Place.TheVariants.{Absent, Common, Relaxed}
use Rattle.office_base.specs.declared.person.TraitSet.{TraitSet}
use Rattle.office_base.specs.declared.step.StepKind.{StepKind}
use Rattle.office_base.proofs.StepNumbers.{each_step}
use Rattle.office_text.specs.Names.{category_name, choice_of, step_name}
use Rattle.office_text.specs.Traits.{traits_of}
use Rattle.office_text.proofs.NamesLemmas.{one_name}
use Rattle.office_text.proofs.NumberLemmas.{own}
use Rattle.published_texts.specs.Texts.{code_in}
use Rattle.reply_texts.specs.Replies.{answers_head, answers_text, choice_name, cutoff_line, cutoff_word, cutoffs_head, cutoffs_text, place_after, place_word, register_head, register_line, row_line, traits_word}
use Rattle.seat_matrix.specs.Matrix.{SeatTable}
use Rattle.step_cutoffs.specs.declared.cutoff.Cutoff.{Cutoff}
use Rattle.step_cutoffs.specs.declared.cutoff.Cutoff.TheVariants.{Nobody, UpTo, Anybody}
use Rattle.text_readers.specs.Reading.{HasNo}
use Rattle.text_readers.proofs.KnownLemmas.{code-clear, code-one, step-clear}
use Rattle.text_readers.proofs.NumberLemmas.{digits-clear}
use Rattle.text_readers.proofs.PartsLemmas.{cut-one, has-no-append, has-no-tested, has-one, heads, tails}
use Rattle.season_laws.specs.OneText.{AnswersAreOneText, CutoffsAreOneText, EntriesAreOneText, IsAnswerOf, IsLine, IsSmallCutoff, IsSmallPlace}

-- ---- fronts

-- what follows the same front is the same
behind : (front x y : List ℕ) → front ++ x ≡ front ++ y → x ≡ y
behind [] x y e = e
behind (b ∷ front) x y e = behind front x y (tails b b (front ++ x) (front ++ y) e)

some_one : {X : Type 0} (a b fallback : X) → Some a ≡ Some b → a ≡ b
some_one {X} a b fallback e = ap (λ (o : Option X). pick o) e
  where
    pick : Option X → X
    pick None = fallback
    pick (Some x) = x

-- parts one behind another, and then a text: from the left, and from the right
abbrev glued : List ℕ → List (List ℕ) → List ℕ
glued front [] = front
glued front (part ∷ parts) = glued (front ++ part) parts

abbrev spread : List (List ℕ) → List ℕ → List ℕ
spread [] x = x
spread (part ∷ parts) x = part ++ spread parts x

flat : (front : List ℕ) (parts : List (List ℕ)) (x : List ℕ) → glued front parts ++ x ≡ front ++ spread parts x
flat front [] x = refl
flat front (part ∷ parts) x = flat (front ++ part) parts x ∙ append_assoc front part (spread parts x)

-- ---- numbers

-- numbers before a byte that is no digit
number-one : (byte m n : ℕ) (x y : List ℕ) → is_ascii_digit byte ≡ false → m < 2 ^ 64 → n < 2 ^ 64 → decimal m ++ byte ∷ x ≡ decimal n ++ byte ∷ y → (m ≡ n) × (x ≡ y)
number-one byte m n x y other small fits e =
    let (same, rest) = cut-one byte (decimal m) (decimal n) x y (digits-clear byte m small other) (digits-clear byte n fits other) e in
    (decimal_injective m n small fits same, rest)

no-digits : (n : ℕ) (text : List ℕ) → n < 2 ^ 64 → list_all is_ascii_digit text ≡ false → decimal n ≡ text → ⊥
no-digits n text small other e = false≢true (sym other ∙ ap (λ z. list_all is_ascii_digit z) (sym e) ∙ digits_decimal own n small)

-- ---- words

choice-read : (choice : Choice) → choice_of (choice_name choice) ≡ Some choice
choice-read Freeze = refl
choice-read Float = refl
choice-read Slide = refl
choice-read Withdraw = refl

choice-one : (choice other : Choice) → choice_name choice ≡ choice_name other → choice ≡ other
choice-one choice other e = some_one choice other choice (sym (choice-read choice) ∙ ap choice_of e ∙ choice-read other)

-- a text of other bytes has not this one
clear-by : (byte : ℕ) (text : List ℕ) → list_all (λ b. not (eqb b byte)) text ≡ true → HasNo byte text
clear-by byte text all = has-no-tested (λ b. not (eqb b byte)) byte text (ap not (eq-eqb byte byte refl)) all

choice-clear : (choice : Choice) → HasNo 10 (choice_name choice)
choice-clear Freeze = clear-by 10 (codes "freeze") refl
choice-clear Float = clear-by 10 (codes "float") refl
choice-clear Slide = clear-by 10 (codes "slide") refl
choice-clear Withdraw = clear-by 10 (codes "withdraw") refl

abbrev category-read : List ℕ → Option Category
category-read text =
    if bytes_eq text (codes "GEN") then Some Gen
    else if bytes_eq text (codes "EWS") then Some Ews
    else if bytes_eq text (codes "OBC") then Some Obc
    else if bytes_eq text (codes "SC") then Some Sc
    else Some St

category-back : (category : Category) → category-read (category_name category) ≡ Some category
category-back Gen = refl
category-back Ews = refl
category-back Obc = refl
category-back Sc = refl
category-back St = refl

category-one : (category other : Category) → category_name category ≡ category_name other → category ≡ other
category-one category other e = some_one category other category (sym (category-back category) ∙ ap category-read e ∙ category-back other)

category-clear : (category : Category) → HasNo 32 (category_name category)
category-clear Gen = clear-by 32 (codes "GEN") refl
category-clear Ews = clear-by 32 (codes "EWS") refl
category-clear Obc = clear-by 32 (codes "OBC") refl
category-clear Sc = clear-by 32 (codes "SC") refl
category-clear St = clear-by 32 (codes "ST") refl

-- ---- sets of traits: each of the 64 is looked at

abbrev all-to : (ℕ → Bool) → ℕ → Bool
all-to test zero = true
all-to test (suc n) = test n && all-to test n

at-below : (test : ℕ → Bool) (k n : ℕ) → n < k → all-to test k ≡ true → test n ≡ true
at-below test zero n less all = absurd (omega (arith, less))
at-below test (suc k) n less all =
    let (here, below) = and_parts (test k) (all-to test k) all in
    elim (cases_eq n k) [
      | inl same ↦ ap test same ∙ here
      | inr other ↦ at-below test k n (omega (arith, less, other)) below
    ]

-- the set of this number
abbrev set : ℕ → TraitSet
set n = record { 0 = n }

abbrev is-it : ℕ → Option ℕ → Bool
is-it n None = false
is-it n (Some m) = eqb m n

it-is : (n : ℕ) (found : Option ℕ) → is-it n found ≡ true → found ≡ Some n
it-is n None e = absurd (false≢true e)
it-is n (Some m) e = ap (λ k. Some k) (eqb-true m n e)

traits-back : (traits : TraitSet) → IsTraitSet traits → traits_of (traits_word traits) ≡ Some traits.0
traits-back traits few = it-is traits.0 (traits_of (traits_word traits)) (at-below (λ n. is-it n (traits_of (traits_word (set n)))) 64 traits.0 few refl)

traits-one : (traits other : TraitSet) → IsTraitSet traits → IsTraitSet other → traits_word traits ≡ traits_word other → traits ≡ other
traits-one traits other few small e =
    ap set (some_one traits.0 other.0 0 (sym (traits-back traits few) ∙ ap traits_of e ∙ traits-back other small))

traits-clear : (traits : TraitSet) → IsTraitSet traits → HasNo 32 (traits_word traits) × HasNo 10 (traits_word traits)
traits-clear traits few = (
  clear-by 32 (traits_word traits) (at-below (λ n. list_all (λ b. not (eqb b 32)) (traits_word (set n))) 64 traits.0 few refl),
  clear-by 10 (traits_word traits) (at-below (λ n. list_all (λ b. not (eqb b 10)) (traits_word (set n))) 64 traits.0 few refl),
)

-- ---- cutoffs

cutoff-clear : (cutoff : Cutoff) → IsSmallCutoff cutoff → HasNo 10 (cutoff_word cutoff)
cutoff-clear Nobody small = clear-by 10 (codes "none") refl
cutoff-clear (UpTo last) small = digits-clear 10 last (omega (arith, small)) refl
cutoff-clear Anybody small = clear-by 10 (codes "any") refl

cutoff-one : (cutoff other : Cutoff) → IsSmallCutoff cutoff → IsSmallCutoff other → cutoff_word cutoff ≡ cutoff_word other → cutoff ≡ other
cutoff-one Nobody Nobody small fits e = refl
cutoff-one Nobody (UpTo last) small fits e = absurd (no-digits last (codes "none") (omega (arith, fits)) refl (sym e))
cutoff-one Nobody Anybody small fits e = absurd (false≢true (ap (λ z. bytes_eq z (codes "none")) (sym e)))
cutoff-one (UpTo last) Nobody small fits e = absurd (no-digits last (codes "none") (omega (arith, small)) refl e)
cutoff-one (UpTo last) (UpTo other) small fits e = ap UpTo (decimal_injective last other (omega (arith, small)) (omega (arith, fits)) e)
cutoff-one (UpTo last) Anybody small fits e = absurd (no-digits last (codes "any") (omega (arith, small)) refl e)
cutoff-one Anybody Nobody small fits e = absurd (false≢true (ap (λ z. bytes_eq z (codes "none")) e))
cutoff-one Anybody (UpTo last) small fits e = absurd (no-digits last (codes "any") (omega (arith, fits)) refl (sym e))
cutoff-one Anybody Anybody small fits e = refl

-- the line of a cutoff before a text
line-before : (line : StepCutoff) (x : List ℕ) → cutoff_line line ++ x ≡ step_name line.step ++ 32 ∷ (traits_word line.traits ++ 32 ∷ (cutoff_word line.cutoff ++ 10 ∷ x))
line-before line x = flat (step_name line.step) (codes " " ∷ traits_word line.traits ∷ codes " " ∷ cutoff_word line.cutoff ∷ codes "\n" ∷ []) x

abbrev line-of : StepKind → TraitSet → Cutoff → StepCutoff
line-of step traits cutoff = record { step = step; traits = traits; cutoff = cutoff }

line-one : (line other : StepCutoff) (x y : List ℕ) → IsLine line → IsLine other → cutoff_line line ++ x ≡ cutoff_line other ++ y → (line ≡ other) × (x ≡ y)
line-one line other x y is its e =
    let same_text = sym (line-before line x) ∙ e ∙ line-before other y in
    let (step, more) = cut-one 32 (step_name line.step) (step_name other.step) _ _ (step-clear 32 line.step refl) (step-clear 32 other.step refl) same_text in
    let (traits, last) = cut-one 32 (traits_word line.traits) (traits_word other.traits) _ _ (traits-clear line.traits is.traits).0 (traits-clear other.traits its.traits).0 more in
    let (cutoff, rest) = cut-one 10 (cutoff_word line.cutoff) (cutoff_word other.cutoff) x y (cutoff-clear line.cutoff is.cutoff) (cutoff-clear other.cutoff its.cutoff) last in (
      ap (λ s. line-of s line.traits line.cutoff) (one_name line.step other.step step)
          ∙ ap (λ t. line-of other.step t line.cutoff) (traits-one line.traits other.traits is.traits its.traits traits)
          ∙ ap (λ c. line-of other.step other.traits c) (cutoff-one line.cutoff other.cutoff is.cutoff its.cutoff cutoff),
      rest,
    )

abbrev ending : List ℕ
ending = codes "end cutoffs\n"

-- no line begins as the last one
step-not-end : (step : StepKind) → step_name step ≡ codes "end" → ⊥
step-not-end step e = false≢true (ap not (sym ((bytes_eq-Decides (step_name step) (codes "end")).1 e)) ∙ each_step (λ k. not (bytes_eq (step_name k) (codes "end"))) refl step)

line-not-end : (line : StepCutoff) (x : List ℕ) → cutoff_line line ++ x ≡ ending → ⊥
line-not-end line x e =
    step-not-end line.step (cut-one 32 (step_name line.step) (codes "end") _ _ (step-clear 32 line.step refl) (clear-by 32 (codes "end") refl) (sym (line-before line x) ∙ e)).0

lines-one : (lines others : List StepCutoff) → AllByRecursion IsLine lines → AllByRecursion IsLine others → flat_map cutoff_line lines ++ ending ≡ flat_map cutoff_line others ++ ending → lines ≡ others
lines-one [] [] are their e = refl
lines-one [] (other ∷ others) are their e = absurd (line-not-end other (flat_map cutoff_line others ++ ending) (sym (append_assoc (cutoff_line other) (flat_map cutoff_line others) ending) ∙ sym e))
lines-one (line ∷ lines) [] are their e = absurd (line-not-end line (flat_map cutoff_line lines ++ ending) (sym (append_assoc (cutoff_line line) (flat_map cutoff_line lines) ending) ∙ e))
lines-one (line ∷ lines) (other ∷ others) are their e =
    let (first, rest) = line-one line other (flat_map cutoff_line lines ++ ending) (flat_map cutoff_line others ++ ending) are.0 their.0
    (sym (append_assoc (cutoff_line line) (flat_map cutoff_line lines) ending) ∙ e ∙ append_assoc (cutoff_line other) (flat_map cutoff_line others) ending) in
    ap (λ z. z ∷ lines) first ∙ ap (λ z. other ∷ z) (lines-one lines others are.1 their.1 rest)

cutoffs-before : (table : SeatTable) (round prog : ℕ) (lines : List StepCutoff) → cutoffs_text table round prog lines
    ≡ codes "cutoffs " ++ (decimal round ++ 32 ∷ (code_in table prog ++ 10 ∷ (flat_map cutoff_line lines ++ ending)))
cutoffs-before table round prog lines =
    append_assoc (cutoffs_head table round prog) (flat_map cutoff_line lines) ending
    ∙ flat (codes "cutoffs ") (decimal round ∷ codes " " ∷ code_in table prog ∷ codes "\n" ∷ []) (flat_map cutoff_line lines ++ ending)

pub cutoffs-one : CutoffsAreOneText
cutoffs-one table round number prog other lines others codes-are small fits within below are their e =
    let x = flat_map cutoff_line lines ++ ending in
    let y = flat_map cutoff_line others ++ ending in
    let same_text = sym (cutoffs-before table round prog lines) ∙ e ∙ cutoffs-before table number other others in
    let (same, more) = number-one 32 round number (code_in table prog ++ 10 ∷ x) (code_in table other ++ 10 ∷ y) refl (omega (arith, small)) (omega (arith, fits)) (behind (codes "cutoffs ") _ _ same_text) in
    let (code, rest) = cut-one 10 (code_in table prog) (code_in table other) x y (code-clear 10 (code_in table prog) refl (codes-are.spelled prog within)) (code-clear 10 (code_in table other) refl (codes-are.spelled other below)) more in
    (same, code-one table codes-are.apart prog other within below code, lines-one lines others are their rest)

-- ---- entries

-- what may follow a word of an entry: the end of the line, or another word
abbrev IsBehind : List ℕ → Type 0
IsBehind x = (x ≡ 10 ∷ []) ⊎ ((more : List ℕ) × (x ≡ 32 ∷ more))

abbrev IsWord : List ℕ → Type 0
IsWord word = HasNo 32 word × HasNo 10 word

-- a word ends at the end of the line, and at the same place another one does not go on
mixed : (a b more : List ℕ) → HasNo 32 a → a ++ 10 ∷ [] ≡ b ++ 32 ∷ more → ⊥
mixed a b more none e = has-one 32 b more (subst (HasNo 32) e (has-no-append 32 a (10 ∷ []) none (clear-by 32 (10 ∷ []) refl)))

word-one : (a b x y : List ℕ) → IsWord a → IsWord b → IsBehind x → IsBehind y → a ++ x ≡ b ++ y → (a ≡ b) × (x ≡ y)
word-one a b x y left right (inl end) (inl last) e =
    let (same, rest) = cut-one 10 a b [] [] left.1 right.1 (ap (λ z. a ++ z) (sym end) ∙ e ∙ ap (λ z. b ++ z) last) in
    (same, end ∙ sym last)
word-one a b x y left right (inl end) (inr (more, goes)) e = absurd (mixed a b more left.0 (ap (λ z. a ++ z) (sym end) ∙ e ∙ ap (λ z. b ++ z) goes))
word-one a b x y left right (inr (more, goes)) (inl end) e = absurd (mixed b a more right.0 (ap (λ z. b ++ z) (sym end) ∙ sym e ∙ ap (λ z. a ++ z) goes))
word-one a b x y left right (inr (more, goes)) (inr (others, go)) e =
    let (same, rest) = cut-one 32 a b more others left.0 right.0 (ap (λ z. a ++ z) (sym goes) ∙ e ∙ ap (λ z. b ++ z) go) in
    (same, goes ∙ ap (λ z. 32 ∷ z) rest ∙ sym go)

place-clear : (place : Place) → IsSmallPlace place → IsWord (place_word place)
place-clear Absent small = (clear-by 32 (codes "-") refl, clear-by 10 (codes "-") refl)
place-clear (Common number) small = (digits-clear 32 number (omega (arith, small)) refl, digits-clear 10 number (omega (arith, small)) refl)
place-clear (Relaxed number) small = (
  has-no-append 32 (decimal number) (codes "R") (digits-clear 32 number (omega (arith, small)) refl) (clear-by 32 (codes "R") refl),
  has-no-append 10 (decimal number) (codes "R") (digits-clear 10 number (omega (arith, small)) refl) (clear-by 10 (codes "R") refl),
)

-- a relaxed place is spelled as no common one
relaxed-apart : (number other : ℕ) → number < 2 ^ 64 → decimal number ≡ decimal other ++ codes "R" → ⊥
relaxed-apart number other small e = has-one 82 (decimal other) [] (subst (HasNo 82) e (digits-clear 82 number small refl))

-- nor as none
relaxed-some : (number : ℕ) → number < 2 ^ 64 → codes "-" ≡ decimal number ++ codes "R" → ⊥
relaxed-some number small e = has-one 82 (decimal number) [] (subst (HasNo 82) e (clear-by 82 (codes "-") refl))

place-one : (place other : Place) → IsSmallPlace place → IsSmallPlace other → place_word place ≡ place_word other → place ≡ other
place-one Absent Absent small fits e = refl
place-one Absent (Common number) small fits e = absurd (no-digits number (codes "-") (omega (arith, fits)) refl (sym e))
place-one Absent (Relaxed number) small fits e = absurd (relaxed-some number (omega (arith, fits)) e)
place-one (Common number) Absent small fits e = absurd (no-digits number (codes "-") (omega (arith, small)) refl e)
place-one (Common number) (Common other) small fits e = ap Common (decimal_injective number other (omega (arith, small)) (omega (arith, fits)) e)
place-one (Common number) (Relaxed other) small fits e = absurd (relaxed-apart number other (omega (arith, small)) e)
place-one (Relaxed number) Absent small fits e = absurd (relaxed-some number (omega (arith, small)) (sym e))
place-one (Relaxed number) (Common other) small fits e = absurd (relaxed-apart other number (omega (arith, fits)) (sym e))
place-one (Relaxed number) (Relaxed other) small fits e =
    ap Relaxed (decimal_injective number other (omega (arith, small)) (omega (arith, fits))
    (cut-one 82 (decimal number) (decimal other) [] [] (digits-clear 82 number (omega (arith, small)) refl) (digits-clear 82 other (omega (arith, fits)) refl) e).0)

-- the places to the end of the line
abbrev places-text : List Place → List ℕ
places-text places = flat_map place_after places ++ 10 ∷ []

places-behind : (places : List Place) → IsBehind (places-text places)
places-behind [] = inl refl
places-behind (place ∷ places) = inr (_, refl)

place-before : (place : Place) (places : List Place) → places-text (place ∷ places) ≡ 32 ∷ (place_word place ++ places-text places)
place-before place places = ap (λ z. 32 ∷ z) (append_assoc (place_word place) (flat_map place_after places) (10 ∷ []))

places-one : (places others : List Place) → AllByRecursion IsSmallPlace places → AllByRecursion IsSmallPlace others → places-text places ≡ places-text others → places ≡ others
places-one [] [] are their e = refl
places-one [] (other ∷ others) are their e = absurd (omega (arith, heads 10 32 [] _ (e ∙ place-before other others)))
places-one (place ∷ places) [] are their e = absurd (omega (arith, heads 32 10 _ [] (sym (place-before place places) ∙ e)))
places-one (place ∷ places) (other ∷ others) are their e =
    let (same, rest) = word-one (place_word place) (place_word other) (places-text places) (places-text others) (place-clear place are.0) (place-clear other their.0) (places-behind places) (places-behind others)
    (tails 32 32 _ _ (sym (place-before place places) ∙ e ∙ place-before other others)) in
    ap (λ z. z ∷ places) (place-one place other are.0 their.0 same) ∙ ap (λ z. other ∷ z) (places-one places others are.1 their.1 rest)

entry-before : (person : Person) → register_line person
    ≡ codes "register " ++ (decimal person.id.0 ++ 32 ∷ (category_name person.category ++ 32 ∷ (traits_word person.traits ++ places-text person.places)))
entry-before person =
    append_assoc (register_head person) (flat_map place_after person.places) (codes "\n")
    ∙ flat (codes "register ") (decimal person.id.0 ∷ codes " " ∷ category_name person.category ∷ codes " " ∷ traits_word person.traits ∷ []) (places-text person.places)

abbrev person-of : ℕ → Category → TraitSet → List Place → Person
person-of id category traits places = record { id = record { 0 = id }; category = category; traits = traits; places = places }

pub entries-one : EntriesAreOneText
entries-one person other is its e =
    let same_text = behind (codes "register ") _ _ (sym (entry-before person) ∙ e ∙ entry-before other) in
    let (id, more) = number-one 32 person.id.0 other.id.0 _ _ refl (omega (arith, is.id)) (omega (arith, its.id)) same_text in
    let (category, rest) = cut-one 32 (category_name person.category) (category_name other.category) _ _ (category-clear person.category) (category-clear other.category) more in
    let (traits, places) = word-one (traits_word person.traits) (traits_word other.traits) (places-text person.places) (places-text other.places) (traits-clear person.traits is.traits)
    (traits-clear other.traits its.traits) (places-behind person.places) (places-behind other.places) rest in
    ap (λ z. person-of z person.category person.traits person.places) id
    ∙ ap (λ z. person-of other.id.0 z person.traits person.places) (category-one person.category other.category category)
    ∙ ap (λ z. person-of other.id.0 other.category z person.places) (traits-one person.traits other.traits is.traits its.traits traits)
    ∙ ap (λ z. person-of other.id.0 other.category other.traits z) (places-one person.places other.places is.places its.places places)

-- ---- answers

answer-before : (row : AnswerRow) (x : List ℕ) → row_line row ++ x
    ≡ codes "noted " ++ (decimal row.cand.0 ++ (codes " window " ++ (decimal row.window ++ (codes " turn " ++ (decimal row.turn ++ 32 ∷ (choice_name row.choice ++ 10 ∷ x))))))
answer-before row x =
    flat (codes "noted ") (decimal row.cand.0 ∷ codes " window " ∷ decimal row.window ∷ codes " turn " ∷ decimal row.turn ∷ codes " " ∷ choice_name row.choice ∷ codes "\n" ∷ []) x

abbrev answer-of : ℕ → ℕ → ℕ → Choice → AnswerRow
answer-of window cand turn choice = record { window = window; cand = record { 0 = cand }; turn = turn; choice = choice }

answer-one : (cand other : ℕ) (row its : AnswerRow) (x y : List ℕ) → cand < 2 ^ 32 → other < 2 ^ 32 → IsAnswerOf cand row → IsAnswerOf other its → row_line row ++ x ≡ row_line its ++ y → (row ≡ its) × (x ≡ y)
answer-one cand other row its x y small fits is are e =
    let same_text = behind (codes "noted ") _ _ (sym (answer-before row x) ∙ e ∙ answer-before its y) in
    let (id, one) = number-one 32 row.cand.0 its.cand.0 _ _ refl (omega (arith, small, is.own)) (omega (arith, fits, are.own)) same_text in
    let (window, two) = number-one 32 row.window its.window _ _ refl (omega (arith, is.window)) (omega (arith, are.window)) (behind (codes "window ") _ _ one) in
    let (turn, three) = number-one 32 row.turn its.turn _ _ refl (omega (arith, is.turn)) (omega (arith, are.turn)) (behind (codes "turn ") _ _ two) in
    let (choice, rest) = cut-one 10 (choice_name row.choice) (choice_name its.choice) x y (choice-clear row.choice) (choice-clear its.choice) three in (
      ap (λ z. answer-of z row.cand.0 row.turn row.choice) window ∙ ap (λ z. answer-of its.window z row.turn row.choice) id
          ∙ ap (λ z. answer-of its.window its.cand.0 z row.choice) turn ∙ ap (λ z. answer-of its.window its.cand.0 its.turn z) (choice-one row.choice its.choice choice),
      rest,
    )

abbrev last-line : List ℕ
last-line = codes "end answers\n"

answers-rest : (cand other : ℕ) (rows others : List AnswerRow) → cand < 2 ^ 32 → other < 2 ^ 32 → AllByRecursion (IsAnswerOf cand) rows → AllByRecursion (IsAnswerOf other) others
    → flat_map row_line rows ++ last-line ≡ flat_map row_line others ++ last-line → rows ≡ others
answers-rest cand other [] [] small fits are their e = refl
answers-rest cand other [] (its ∷ others) small fits are their e = absurd (omega (arith, heads 101 110 _ _ (e ∙ append_assoc (row_line its) (flat_map row_line others) last-line)))
answers-rest cand other (row ∷ rows) [] small fits are their e = absurd (omega (arith, heads 110 101 _ _ (sym (append_assoc (row_line row) (flat_map row_line rows) last-line) ∙ e)))
answers-rest cand other (row ∷ rows) (its ∷ others) small fits are their e =
    let (first, rest) = answer-one cand other row its (flat_map row_line rows ++ last-line) (flat_map row_line others ++ last-line) small fits are.0 their.0
    (sym (append_assoc (row_line row) (flat_map row_line rows) last-line) ∙ e ∙ append_assoc (row_line its) (flat_map row_line others) last-line) in
    ap (λ z. z ∷ rows) first ∙ ap (λ z. its ∷ z) (answers-rest cand other rows others small fits are.1 their.1 rest)

answers-before : (cand : ℕ) (rows : List AnswerRow) → answers_text cand rows
    ≡ codes "answers " ++ (decimal cand ++ (codes " noted " ++ (decimal (length rows) ++ 10 ∷ (flat_map row_line rows ++ last-line))))
answers-before cand rows =
    append_assoc (answers_head cand (length rows)) (flat_map row_line rows) last-line
    ∙ flat (codes "answers ") (decimal cand ∷ codes " noted " ∷ decimal (length rows) ∷ codes "\n" ∷ []) (flat_map row_line rows ++ last-line)

pub answers-one : AnswersAreOneText
answers-one cand other rows others small fits few less are their e =
    let x = flat_map row_line rows ++ last-line in
    let y = flat_map row_line others ++ last-line in
    let same_text = behind (codes "answers ") _ _ (sym (answers-before cand rows) ∙ e ∙ answers-before other others) in
    let (same, more) = number-one 32 cand other _ _ refl (omega (arith, small)) (omega (arith, fits)) same_text in
    (same, answers-rest cand other rows others small fits are their (number-one 10 (length rows) (length others) x y refl (omega (arith, few)) (omega (arith, less)) (behind (codes "noted ") _ _ more)).1)
