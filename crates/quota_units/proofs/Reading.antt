-- Reading the text is reading the bundle with every row of its choices mapped.
use Rattle.std.proofs.Common.{◌≡◌, ◌≤◌, ◌⊎◌, ◌-◌, inl, inr, ℕ, Bool, true, false, List, [], ◌++◌, Result, Ok, Err, length, map, take, refl, sym, ap, subst, ◌∙◌, if◌then◌else◌, length-append, arith}
use Rattle.std.specs.Str.{IsUtf8, is_utf8}
use Rattle.std.proofs.Math.Seq.{take-append_seam}
use Rattle.std.proofs.lemmas.Str.{IsUtf8-from_is_utf8, is_utf8-from_IsUtf8}
use Rattle.office_base.specs.Limits.{most_bundle_bytes}
use Rattle.office_asks.specs.declared.ask.Request.{Request}
use Rattle.csv.specs.Machine.{next_record}
use Rattle.csv.specs.Reading.{records_from, strip_bom}
use Rattle.section_rows.specs.Rows.{Row, rows_of}
use Rattle.section_rows.specs.declared.fault.TableFault.TheVariants.{Bad as BadRow, OutOfMemory as NoTableMemory}
use Rattle.section_rows.proofs.StepsLemmas.{after_ok}
use Rattle.request_rows.specs.Requests.{script_of}
use Rattle.choice_lists.specs.Choices as choice_grammar
use Rattle.season_file.specs.Bundle.{Parts, bundle_of}
use Rattle.season_file.specs.Laws.{HasFault}
use Rattle.season_file.specs.Replaced.{IsReplaceable, IsWhole, with_choices}
use Rattle.season_file.specs.Season.{BundleGives, IsSectionFault, IsText, SectionsGive, request_rows_of}
use Rattle.season_file.specs.declared.content.Content.{Content}
use Rattle.season_file.specs.declared.fault.SeasonFault.{SeasonFault}
use Rattle.season_file.specs.declared.fault.SeasonFault.TheVariants.{ReadFault, TooLong, BadFirstLine, Section, BadSeason, Register, Matrix, Choices, NotUtf8, BadRequest, OutOfMemory}
use Rattle.section_rows.proofs.StageLemmas.{not_both, one_ok}
use Rattle.quota_units.specs.Quoted.{rows_text, spaced_row}
use Rattle.quota_units.proofs.ReadBack.{read-are, rows-back, spaced-are}
use Rattle.quota_units.specs.Homes.{Homes}
use Rattle.quota_units.specs.Input.{expanded, with_units}
use Rattle.quota_units.specs.Mapping.{mapped_rows}
use Rattle.quota_units.specs.Reads.{HasMapped, HasMappedFault, MappedGives, ReadsMapped}
use Rattle.quota_units.specs.declared.fault.UnitFault.{UnitFault}
use Rattle.quota_units.proofs.Mapped.{mapped-are, none-mapped}
use Rattle.quota_units.proofs.Spaces.{first-spaced, read-spaced}

-- what the laws of rows and of bundles say
pub record AreLawful : Type 0 where
  pub replaceable : (bytes : List ℕ) (parts : Parts) → bundle_of true bytes ≡ Ok parts → IsReplaceable bytes parts
  pub whole : (rows : List Row) → IsWhole (rows_text (map spaced_row rows))

-- ---- a bundle that stays

stays-gives : (units states : Homes) (bundle : List ℕ) → ((content : Content) (script : List Request) → BundleGives true bundle content script → ⊥)
    → ((fault : SeasonFault) → HasFault true bundle fault → (fault ≡ TooLong) ⊎ HasMappedFault units states bundle fault) → (text : List ℕ) → bundle ≡ text → ReadsMapped units states bundle text
stays-gives units states bundle none fault text same =
    subst (λ (t : List ℕ). ReadsMapped units states bundle t) same (record { gives = λ content script h. absurd (none content script h); fault = fault })

-- bytes that are no text
no-text : (units states : Homes) (bundle : List ℕ) → (IsUtf8 bundle → ⊥) → (fault : SeasonFault) → HasFault true bundle fault → (fault ≡ TooLong) ⊎ HasMappedFault units states bundle fault
no-text units states bundle none TooLong h = inl refl
no-text units states bundle none NotUtf8 h = inr h
no-text units states bundle none BadFirstLine h = inr h
no-text units states bundle none (Section line) h = inr h
no-text units states bundle none (BadSeason row) h = absurd (none h.0.utf8)
no-text units states bundle none (Register fault) h = absurd (none h.0.utf8)
no-text units states bundle none (Matrix fault) h = absurd (none h.0.utf8)
no-text units states bundle none (Choices fault) h = absurd (none h.0.utf8)
no-text units states bundle none (BadRequest row) h = absurd (none h.0.utf8)
no-text units states bundle none ReadFault h = absurd (none h.0.utf8)
no-text units states bundle none OutOfMemory h = absurd h

-- bytes that are not cut
no-cut : (units states : Homes) (bundle : List ℕ) (wrong : SeasonFault) → bundle_of true bundle ≡ Err wrong → (fault : SeasonFault) → HasFault true bundle fault → (fault ≡ TooLong) ⊎ HasMappedFault units states bundle fault
no-cut units states bundle wrong e TooLong h = inl refl
no-cut units states bundle wrong e NotUtf8 h = inr h
no-cut units states bundle wrong e BadFirstLine h = inr h
no-cut units states bundle wrong e (Section line) h = inr h
no-cut units states bundle wrong e (BadSeason row) h = absurd (not_both (bundle_of true bundle) h.1.0 wrong h.1.1 e)
no-cut units states bundle wrong e (Register fault) h = absurd (not_both (bundle_of true bundle) h.1.0 wrong h.1.1 e)
no-cut units states bundle wrong e (Matrix fault) h = absurd (not_both (bundle_of true bundle) h.1.0 wrong h.1.1 e)
no-cut units states bundle wrong e (Choices fault) h = absurd (not_both (bundle_of true bundle) h.1.0 wrong h.1.1 e)
no-cut units states bundle wrong e (BadRequest row) h = absurd (not_both (bundle_of true bundle) h.1.0 wrong h.1.1 e)
no-cut units states bundle wrong e ReadFault h = absurd (not_both (bundle_of true bundle) h.1.0 wrong h.1.1 e)
no-cut units states bundle wrong e OutOfMemory h = absurd h

-- ---- a bundle whose rows are mapped

-- what the sections give with a written body, they give with a body of the rows themselves
sections-same : (parts : Parts) (written body : List ℕ) (rows : List Row) (content : Content) → rows_of written ≡ map spaced_row rows → rows_of body ≡ rows
    → SectionsGive (with_choices parts written) content → SectionsGive (with_choices parts body) content
sections-same parts written body rows content spelled same give = record {
  version = give.version;
  head = give.head;
  register = give.register;
  matrix = give.matrix;
  choices =
      subst (λ (r : List Row). choice_grammar.IsRead content.register content.matrix r content.choices) (sym same)
      (read-spaced content.register content.matrix rows content.choices (subst (λ (r : List Row). choice_grammar.IsRead content.register content.matrix r content.choices) spelled give.choices));
  sound = give.sound;
}

faults-same : (parts : Parts) (written body : List ℕ) (rows : List Row) (fault : SeasonFault) → rows_of written ≡ map spaced_row rows → rows_of body ≡ rows
    → IsSectionFault (with_choices parts written) fault → IsSectionFault (with_choices parts body) fault
faults-same parts written body rows (BadSeason row) spelled same (inl e) = inl e
faults-same parts written body rows (BadSeason row) spelled same (inr found) = inr (found.0, sections-same parts written body rows found.0 spelled same found.1, found.2, found.3)
faults-same parts written body rows (Register fault) spelled same found = found
faults-same parts written body rows (Matrix fault) spelled same found = found
faults-same parts written body rows (Choices (BadRow row kind)) spelled same found =
    let (head, ranks, seats, e, read, table, first) = found in (
      head,
      ranks,
      seats,
      e,
      read,
      table,
      subst (λ (r : List Row). choice_grammar.IsFault ranks seats r (BadRow row kind)) (sym same) (first-spaced ranks seats rows row kind (subst (λ (r : List Row). choice_grammar.IsFault ranks seats r (BadRow row kind)) spelled first)),
    )
faults-same parts written body rows (Choices NoTableMemory) spelled same found = absurd found
faults-same parts written body rows (BadRequest row) spelled same found = (found.0, sections-same parts written body rows found.0 spelled same found.1, found.2, found.3)
faults-same parts written body rows OutOfMemory spelled same found = tt
faults-same parts written body rows ReadFault spelled same found = absurd found
faults-same parts written body rows TooLong spelled same found = absurd found
faults-same parts written body rows NotUtf8 spelled same found = absurd found
faults-same parts written body rows BadFirstLine spelled same found = absurd found
faults-same parts written body rows (Section line) spelled same found = absurd found

-- what a text and its bundle are
record IsExpanded (units states : Homes) (bundle text : List ℕ) : Type 0 where
  parts : Parts
  cut : bundle_of true bundle ≡ Ok parts
  rows : List Row
  mapped : mapped_rows units states (rows_of parts.choices) ≡ Ok rows
  again : bundle_of true text ≡ Ok (with_choices parts (rows_text (map spaced_row rows)))

-- the front of a list by the lengths of what follows
front-of : (front a b : List ℕ) → take (length (front ++ (a ++ b)) - length b - length a) (front ++ (a ++ b)) ≡ front
front-of front a b =
    let n : length (front ++ (a ++ b)) - length b - length a ≡ length front = omega (arith, length-append front (a ++ b), length-append a b) in
    ap (λ (k : ℕ). take k (front ++ (a ++ b))) n ∙ take-append_seam front (a ++ b)

abbrev ok_text : List ℕ → Result (List ℕ) UnitFault
ok_text text = Ok text

no-rows : rows_of [] ≡ []
unfolding rows_of records_from next_record strip_bom
no-rows = refl

expanded-is : AreLawful → (units states : Homes) (bundle text : List ℕ) (parts : Parts) → bundle_of true bundle ≡ Ok parts → with_units units states bundle (Ok parts) ≡ Ok text → IsExpanded units states bundle text
expanded-is laws units states bundle text parts cut e =
    let (rows, mapped, made) = after_ok (mapped_rows units states (rows_of parts.choices))
    (λ rows. Ok (take (length bundle - length parts.requests - length parts.choices) bundle ++ (rows_text (map spaced_row rows) ++ parts.requests))) text e in
    let written : List ℕ = rows_text (map spaced_row rows) in
    let may = laws.replaceable bundle parts cut in
    let front : take (length bundle - length parts.requests - length parts.choices) bundle ≡ may.front =
    subst (λ (b : List ℕ). take (length b - length parts.requests - length parts.choices) b ≡ may.front) (sym may.whole) (front-of may.front parts.choices parts.requests) in
    let shape : may.front ++ (written ++ parts.requests) ≡ text = ap (λ (l : List ℕ). l ++ (written ++ parts.requests)) (sym front) ∙ given _ text made in
    let stays : parts.choices ≡ [] → written ≡ [] = λ none.
    ap (λ (r : List Row). rows_text (map spaced_row r)) (none-mapped units states (rows_of parts.choices) rows (ap rows_of none ∙ no-rows) mapped) in
    record {
      parts = parts;
      cut = cut;
      rows = rows;
      mapped = mapped;
      again = subst (λ (t : List ℕ). bundle_of true t ≡ Ok (with_choices parts written)) shape (may.same written (laws.whole rows) stays);
    }
  where
    given : (x y : List ℕ) → ok_text x ≡ ok_text y → x ≡ y
    given x y e = cc

-- the requests of a bundle are those
abbrev Asks : Parts → List Request → Type 0
Asks parts script = script_of (request_rows_of parts) ≡ Ok script

-- A text is read as its bundle with mapped rows.
record Spells (units states : Homes) (bundle text : List ℕ) (made : IsExpanded units states bundle text) : Type 0 where
  written : rows_of (rows_text (map spaced_row made.rows)) ≡ map spaced_row made.rows
  own : rows_of (rows_text made.rows) ≡ made.rows

spells : (units states : Homes) (bundle text : List ℕ) (made : IsExpanded units states bundle text) → Spells units states bundle text made
spells units states bundle text made =
    let rows_are = mapped-are units states (rows_of made.parts.choices) made.rows (read-are made.parts.choices) made.mapped in
    record { written = rows-back (map spaced_row made.rows) (spaced-are made.rows rows_are); own = rows-back made.rows rows_are }

has_mapped : (units states : Homes) (bundle text : List ℕ) (made : IsExpanded units states bundle text) → Spells units states bundle text made → HasMapped units states bundle
has_mapped units states bundle text made spelt = record { parts = made.parts; cut = made.cut; rows = made.rows; mapped = made.mapped; body = rows_text made.rows; spelled = spelt.own }

gives-mapped : (units states : Homes) (bundle text : List ℕ) (made : IsExpanded units states bundle text) → IsText bundle → (content : Content) (script : List Request) → BundleGives true text content script
    → MappedGives units states bundle content script
unfolding has_mapped
gives-mapped units states bundle text made is content script h =
    let spelt = spells units states bundle text made in
    let new : Parts = with_choices made.parts (rows_text (map spaced_row made.rows)) in
    let one : h.1.0 ≡ new = one_ok (bundle_of true text) h.1.0 new h.1.1 made.again in
    let give = subst (λ (p : Parts). SectionsGive p content) one h.1.2 in
    let asked = subst (λ (p : Parts). Asks p script) one h.1.3 in
    (is, (has_mapped units states bundle text made spelt, sections-same made.parts (rows_text (map spaced_row made.rows)) (rows_text made.rows) made.rows content spelt.written spelt.own give, asked), h.2)

inside : (units states : Homes) (bundle text : List ℕ) (made : IsExpanded units states bundle text) → IsText bundle → (fault : SeasonFault)
    → IsText text × ((parts : Parts) × (bundle_of true text ≡ Ok parts) × IsSectionFault parts fault) → IsText bundle × ((m : HasMapped units states bundle) × IsSectionFault (with_choices m.parts m.body) fault)
unfolding has_mapped
inside units states bundle text made is fault h =
    let spelt = spells units states bundle text made in
    let new : Parts = with_choices made.parts (rows_text (map spaced_row made.rows)) in
    let one : h.1.0 ≡ new = one_ok (bundle_of true text) h.1.0 new h.1.1 made.again in
    let here = subst (λ (p : Parts). IsSectionFault p fault) one h.1.2 in
    (is, (has_mapped units states bundle text made spelt, faults-same made.parts (rows_text (map spaced_row made.rows)) (rows_text made.rows) made.rows fault spelt.written spelt.own here))

fault-mapped : (units states : Homes) (bundle text : List ℕ) (made : IsExpanded units states bundle text) → IsText bundle → IsUtf8 text → (fault : SeasonFault) → HasFault true text fault
    → (fault ≡ TooLong) ⊎ HasMappedFault units states bundle fault
fault-mapped units states bundle text made is utf8 TooLong h = inl refl
fault-mapped units states bundle text made is utf8 NotUtf8 h = absurd (h.1 utf8)
fault-mapped units states bundle text made is utf8 BadFirstLine h = absurd (not_both (bundle_of true text) _ BadFirstLine made.again h.1)
fault-mapped units states bundle text made is utf8 (Section line) h = absurd (not_both (bundle_of true text) _ (Section line) made.again h.1)
fault-mapped units states bundle text made is utf8 (BadSeason row) h = inr (inside units states bundle text made is (BadSeason row) h)
fault-mapped units states bundle text made is utf8 (Register fault) h = inr (inside units states bundle text made is (Register fault) h)
fault-mapped units states bundle text made is utf8 (Matrix fault) h = inr (inside units states bundle text made is (Matrix fault) h)
fault-mapped units states bundle text made is utf8 (Choices fault) h = inr (inside units states bundle text made is (Choices fault) h)
fault-mapped units states bundle text made is utf8 (BadRequest row) h = inr (inside units states bundle text made is (BadRequest row) h)
fault-mapped units states bundle text made is utf8 ReadFault h = absurd h.1.2
fault-mapped units states bundle text made is utf8 OutOfMemory h = absurd h

-- Reading the text is reading the bundle with every row of its choices mapped.
pub reads_mapped : AreLawful → (units states : Homes) (bundle text : List ℕ) → length bundle ≤ most_bundle_bytes → (IsUtf8 bundle → IsUtf8 text) → expanded units states bundle ≡ Ok text → ReadsMapped units states bundle text
reads_mapped laws units states bundle text short utf8 e = by (is_utf8 bundle) refl e
  where
    cut : IsUtf8 bundle → (r : Result Parts SeasonFault) → bundle_of true bundle ≡ r → with_units units states bundle r ≡ Ok text → ReadsMapped units states bundle text
    cut is (Err wrong) found e =
        stays-gives units states bundle (λ content script h. not_both (bundle_of true bundle) h.1.0 wrong h.1.1 found) (no-cut units states bundle wrong found) text cc
    cut is (Ok parts) found e =
        let made = expanded-is laws units states bundle text parts found e in
        let whole : IsText bundle = record { short = short; utf8 = is } in
        record { gives = gives-mapped units states bundle text made whole; fault = fault-mapped units states bundle text made whole (utf8 is) }

    by : (b : Bool) → is_utf8 bundle ≡ b → (if b then with_units units states bundle (bundle_of true bundle) else Ok bundle) ≡ Ok text → ReadsMapped units states bundle text
    by true is h = cut (IsUtf8-from_is_utf8 bundle is) (bundle_of true bundle) refl h
    by false is h =
        let none : IsUtf8 bundle → ⊥ = λ u. (let f : true ≡ false = sym (is_utf8-from_IsUtf8 bundle u) ∙ is in cc) in
        stays-gives units states bundle (λ content script g. none g.0.utf8) (no-text units states bundle none) text cc
