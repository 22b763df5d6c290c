-- Bytes are a dossier or have one first fault.
use Rattle.std.proofs.Common.{◌≡◌, ◌<◌, ◌≤◌, ◌⊎◌, ◌-◌, inl, inr, ℕ, Bool, true, false, List, [], ◌++◌, Option, Some, Result, Ok, Err, length, refl, sym, ap, subst, ◌∙◌, arith, append_assoc}
use Rattle.std.proofs.lemmas.Bool.{cases_lt}
use Rattle.std.proofs.lemmas.Option.{slice_get-map}
use Rattle.std.specs.Option.{unwrap_or}
use Rattle.std.specs.Prelude.{option_map, slice_get}
use Rattle.std.specs.Str.{IsUtf8}
use Rattle.office_base.specs.Codes.{is_code}
use Rattle.office_asks.specs.declared.ask.Request.{Request}
use Rattle.office_base.specs.declared.person.Person.{Person}
use Rattle.section_rows.specs.Rows.{rows_of}
use Rattle.section_rows.proofs.StageLemmas.{EndsOnce, not_both, one_err, one_ok, then, then-once}
use Rattle.request_rows.specs.Requests.{script_of}
use Rattle.office_base.proofs.Lists.{all-get, there_is}
use Rattle.seat_matrix.specs.Laws.{AreCodes}
use Rattle.seat_matrix.specs.Matrix.{SeatTable, codes_in}
use Rattle.seat_matrix.specs.declared.entry.Home.{Home}
use Rattle.season_file.specs.Laws.{AreSound, HasFault, HaveOneReading}
use Rattle.season_file.specs.Season.{content_of}
use Rattle.season_file.specs.declared.content.Content.{Content}
use Rattle.season_file.specs.declared.fault.SeasonFault.{SeasonFault}
use Rattle.season_file.specs.declared.fault.SeasonFault.TheVariants.{NotUtf8, BadRequest}
use Rattle.season_file.specs.declared.season.Season.{Season}
use Rattle.published_texts.specs.Texts.{code_in}
use Rattle.text_readers.specs.Parts.{AreSpelled}
use Rattle.text_readers.specs.Reading.{Begins, Grammar, IsFaultLine, first_lines}
use Rattle.text_readers.proofs.KnownLemmas.{small-people}
use Rattle.office_base.specs.Limits.{most_bundle_bytes}
use Rattle.dossier_file.specs.Split.{HasNoSection, IsSplit}
use Rattle.dossier_file.specs.Dossier.{AreDossier, GivesContent, HasDossierFault, HasSeasonFault, IsBundleFault, IsRequestsFault, IsScript}
use Rattle.dossier_file.specs.Laws.{HaveOneDossier}
use Rattle.dossier_file.specs.Papers.{AreDuePapers}
use Rattle.dossier_file.specs.Texts.{AreReadable}
use Rattle.dossier_file.specs.declared.fault.DossierFault.{DossierFault}
use Rattle.dossier_file.specs.declared.fault.DossierFault.TheVariants.{ReadFault, TooLong, NoSection, Season as BadSeason, Published, OutOfMemory}
use Rattle.dossier_file.specs.declared.papers.Papers.{Papers}
use Rattle.dossier_file.proofs.SplitLemmas.{one_split}
use Rattle.dossier_file.proofs.LineLemmas.{first_fewer}

-- ---- requests

-- requests without a fault have none
apart_requests : (requests : List ℕ) (script : List Request) (fault : SeasonFault) → IsScript requests script → IsRequestsFault requests fault → ⊥
apart_requests requests script NotUtf8 is f = f is.0
apart_requests requests script (BadRequest row) is f = (let e = sym is.1 ∙ f.1 in cc)
apart_requests requests script _ is f = f

-- the first fault of requests is one
after_utf8 : (requests : List ℕ) (other : SeasonFault) → (IsUtf8 requests → ⊥) → IsRequestsFault requests other → NotUtf8 ≡ other
after_utf8 requests NotUtf8 f g = refl
after_utf8 requests (BadRequest row) f g = absurd (f g.0)
after_utf8 requests _ f g = absurd g

after_row : (requests : List ℕ) (row : ℕ) (other : SeasonFault) → IsUtf8 requests → script_of (rows_of requests) ≡ Err row → IsRequestsFault requests other → BadRequest row ≡ other
after_row requests row NotUtf8 utf8 e g = absurd (g utf8)
after_row requests row (BadRequest next) utf8 e g = (let both = sym e ∙ g.1 in let same : row ≡ next = cc in ap (λ (n : ℕ). BadRequest n) same)
after_row requests row _ utf8 e g = absurd g

one_requests : (requests : List ℕ) (fault other : SeasonFault) → IsRequestsFault requests fault → IsRequestsFault requests other → fault ≡ other
one_requests requests NotUtf8 other f g = after_utf8 requests other f g
one_requests requests (BadRequest row) other f g = after_row requests row other f.0 f.1 g
one_requests requests _ other f g = absurd f

-- ---- lines

-- bytes have one fault line
module _ {V : Type 0} (grammar : Grammar V) (bytes : List ℕ) where
  -- a beginning of what begins a text begins one
  begins_less : (n m : ℕ) → n ≤ m → Begins grammar (first_lines m bytes) → Begins grammar (first_lines n bytes)
  begins_less n m fewer begins =
      let front = first_fewer n m bytes fewer in
      (front.0 ++ begins.0, begins.1, subst (λ (z : List ℕ). grammar z begins.1) (ap (λ (z : List ℕ). z ++ begins.0) front.1 ∙ append_assoc (first_lines n bytes) front.0 begins.0) begins.2)

  not_before : (n m : ℕ) → n < m → IsFaultLine grammar bytes n → IsFaultLine grammar bytes m → ⊥
  not_before n m less a b = elim a.here [
    | inl here ↦ here.1 (begins_less n (m - 1) (omega (arith, less)) b.before)
    | inr end ↦ elim b.here [
      | inl here ↦ (let few = here.0 in let last = end.0 in omega (arith, few, last, less))
      | inr more ↦ (let this = more.0 in let last = end.0 in omega (arith, this, last, less))
    ]
  ]

  pub one_line : (n m : ℕ) → IsFaultLine grammar bytes n → IsFaultLine grammar bytes m → n ≡ m
  one_line n m a b = elim (cases_lt n m) [
    | inl less ↦ absurd (not_before n m less a b)
    | inr not ↦ elim (cases_lt m n) [
      | inl less ↦ absurd (not_before m n less b a)
      | inr same ↦ omega (arith, not, same)
    ]
  ]

-- ---- texts that can be read

-- where all codes are spelled as codes are, each is
each_code : (table : SeatTable) → AreCodes (codes_in table.programmes) → AreSpelled table
each_code table are prog less =
    let held = there_is table.programmes prog less in
    let here : code_in table prog ≡ held.0.0 = ap (λ (o : Option (List ℕ × Home)). unwrap_or (option_map (λ (h : List ℕ × Home). h.0) o) []) held.1 in
    let at : slice_get (codes_in table.programmes) prog ≡ Some held.0.0 =
    slice_get-map (λ (h : List ℕ × Home). h.0) table.programmes prog ∙ ap (λ (o : Option (List ℕ × Home)). option_map (λ (h : List ℕ × Home). h.0) o) held.1 in
    subst (λ (c : List ℕ). is_code c ≡ true) (sym here) (all-get (λ (c : List ℕ). is_code c ≡ true) (codes_in table.programmes) prog held.0.0 are at)

readable_of : (content : Content) → AreSound content → AreReadable content.matrix content.register.people
readable_of content sound = record {
  spelled = each_code content.matrix sound.spelled;
  codes = sound.seats.codes;
  small = small-people content.register.people (λ id person e. (sound.ranks.registered id person e).high);
  rising = sound.ranks.rising;
  few = (let all = sound.ranks.few in omega (arith, all));
}

-- ---- the stages of a reading

-- a bundle, the body of requests and published texts
abbrev Parts : Type 0
Parts = List ℕ × List ℕ × List ℕ

-- the bytes are cut
abbrev cut_ends : List ℕ → Result Parts DossierFault → Type 0
cut_ends bytes (Ok parts) = (length bytes ≤ most_bundle_bytes) × IsSplit bytes parts.0 parts.1 parts.2
cut_ends bytes (Err fault) = ((most_bundle_bytes < length bytes) × (fault ≡ TooLong)) ⊎ ((length bytes ≤ most_bundle_bytes) × HasNoSection bytes × (fault ≡ NoSection))

-- the bundle gives a season
abbrev bundle_ends : List ℕ → Result Content DossierFault → Type 0
bundle_ends bundle (Ok content) = GivesContent bundle content
bundle_ends bundle (Err fault) = (first : SeasonFault) × HasFault false bundle first × (fault ≡ BadSeason first)

-- the requests are a script
abbrev requests_end : List ℕ → Result (List Request) DossierFault → Type 0
requests_end requests (Ok script) = IsScript requests script
requests_end requests (Err fault) = (first : SeasonFault) × IsRequestsFault requests first × (fault ≡ BadSeason first)

-- the texts are those that are due by them
abbrev texts_end : List ℕ → Content → List Request → Result (Unit {0}) DossierFault → Type 0
texts_end published content script (Ok done) = (papers : Papers) × AreDuePapers content.matrix content.register.people content.head.rounds script published papers
texts_end published content script (Err fault) = (line : ℕ) × IsFaultLine (AreDuePapers content.matrix content.register.people content.head.rounds script) published line × (fault ≡ Published line)

-- what bytes end with: they are a dossier, or have a fault
abbrev after_cut : Parts → Result (Unit {0}) DossierFault → Type 0
after_cut parts = then (bundle_ends parts.0) (λ content. then (requests_end parts.1) (texts_end parts.2 content))

abbrev ends : List ℕ → Result (Unit {0}) DossierFault → Type 0
ends bytes = then (cut_ends bytes) after_cut

-- ---- each stage ends in one way

cut-once : (bytes : List ℕ) → EndsOnce (cut_ends bytes)
cut-once bytes (Ok parts) (Ok others) a b =
    let same = one_split bytes parts.0 parts.1 parts.2 others.0 others.1 others.2 a.1 b.1 in λ i. Ok (same.bundles i, same.scripts i, same.papers i)
cut-once bytes (Ok parts) (Err fault) a (inl b) = absurd (omega (arith, a.0, b.0))
cut-once bytes (Ok parts) (Err fault) a (inr b) = absurd (b.1 parts.0 parts.1 parts.2 a.1)
cut-once bytes (Err fault) (Ok parts) (inl a) b = absurd (omega (arith, a.0, b.0))
cut-once bytes (Err fault) (Ok parts) (inr a) b = absurd (a.1 parts.0 parts.1 parts.2 b.1)
cut-once bytes (Err fault) (Err other) (inl a) (inl b) = ap Err (a.1 ∙ sym b.1)
cut-once bytes (Err fault) (Err other) (inl a) (inr b) = absurd (omega (arith, a.0, b.0))
cut-once bytes (Err fault) (Err other) (inr a) (inl b) = absurd (omega (arith, a.0, b.0))
cut-once bytes (Err fault) (Err other) (inr a) (inr b) = ap Err (a.2 ∙ sym b.2)

bundle-once : (bundle : List ℕ) → HaveOneReading false bundle → EndsOnce (bundle_ends bundle)
bundle-once bundle reading (Ok content) (Ok other) a b = ap Ok (reading.one_content content other [] [] a b)
bundle-once bundle reading (Ok content) (Err fault) a b = absurd (reading.apart content [] b.0 a b.1)
bundle-once bundle reading (Err fault) (Ok content) a b = absurd (reading.apart content [] a.0 b a.1)
bundle-once bundle reading (Err fault) (Err other) a b = ap Err (a.2 ∙ ap (λ (f : SeasonFault). BadSeason f) (reading.one_fault a.0 b.0 a.1 b.1) ∙ sym b.2)

requests-once : (requests : List ℕ) → EndsOnce (requests_end requests)
requests-once requests (Ok script) (Ok other) a b = ap Ok (one_ok (script_of (rows_of requests)) script other a.1 b.1)
requests-once requests (Ok script) (Err fault) a b = absurd (apart_requests requests script b.0 a b.1)
requests-once requests (Err fault) (Ok script) a b = absurd (apart_requests requests script a.0 b a.1)
requests-once requests (Err fault) (Err other) a b = ap Err (a.2 ∙ ap (λ (f : SeasonFault). BadSeason f) (one_requests requests a.0 b.0 a.1 b.1) ∙ sym b.2)

texts-once : (published : List ℕ) (content : Content) (script : List Request) → EndsOnce (texts_end published content script)
texts-once published content script (Ok done) (Ok other) a b = refl
texts-once published content script (Ok done) (Err fault) a b = absurd (b.1.none a.0 a.1)
texts-once published content script (Err fault) (Ok done) a b = absurd (a.1.none b.0 b.1)
texts-once published content script (Err fault) (Err other) a b =
    ap Err (a.2 ∙ ap (λ (n : ℕ). Published n) (one_line (AreDuePapers content.matrix content.register.people content.head.rounds script) published a.0 b.0 a.1 b.1) ∙ sym b.2)

ends-once : ((requests : Bool) (bytes : List ℕ) → HaveOneReading requests bytes) → (bytes : List ℕ) → EndsOnce (ends bytes)
ends-once reading bytes =
    then-once (cut_ends bytes) after_cut (cut-once bytes) (λ parts. then-once (bundle_ends parts.0) _ (bundle-once parts.0 (reading false parts.0))
    (λ content. then-once (requests_end parts.1) (texts_end parts.2 content) (requests-once parts.1) (texts-once parts.2 content)))

-- ---- dossiers and their faults are ends

dossier-ends : (bytes : List ℕ) (season : Season) (script : List Request) (papers : Papers) → AreDossier bytes season script papers → ends bytes (Ok tt)
dossier-ends bytes season script papers d =
    inr ((d.bundle, d.requests, d.published), (d.short, d.cut), inr (content_of season d.of_season.row, d.of_season.given, inr (script, d.of_script, (papers, d.of_papers))))

season-ends : (bytes : List ℕ) (fault : SeasonFault) → HasSeasonFault bytes fault → ends bytes (Err (BadSeason fault))
season-ends bytes fault f =
    let inside : IsBundleFault f.bundle f.requests fault → after_cut (f.bundle, f.requests, f.published) (Err (BadSeason fault)) = λ is. elim is [
      | inl first ↦ inl (BadSeason fault, (fault, first, refl), refl)
      | inr first ↦ inr (first.0, first.1, inl (BadSeason fault, (fault, first.2, refl), refl))
    ] in
    inr ((f.bundle, f.requests, f.published), (f.short, f.cut), inside f.is)

fault-ends : (bytes : List ℕ) (fault : DossierFault) → HasDossierFault bytes fault → ends bytes (Err fault)
fault-ends bytes ReadFault f = absurd f
fault-ends bytes TooLong f = inl (TooLong, inl (f, refl), refl)
fault-ends bytes NoSection f = inl (NoSection, inr (f.0, f.1, refl), refl)
fault-ends bytes (BadSeason fault) f = season-ends bytes fault f
fault-ends bytes (Published line) f = inr ((f.bundle, f.requests, f.published), (f.short, f.cut), inr (f.content, f.of_season, inr (f.script, f.of_script, (line, f.is, refl))))
fault-ends bytes OutOfMemory f = absurd f

pub one_dossier_of : ((requests : Bool) (bytes : List ℕ) → HaveOneReading requests bytes) → (bytes : List ℕ) → HaveOneDossier bytes
one_dossier_of reading bytes = record {
  apart = λ season script papers fault d f.
      not_both (Ok tt) tt fault refl (ends-once reading bytes (Ok tt) (Err fault) (dossier-ends bytes season script papers d) (fault-ends bytes fault f));
  readable = λ season script papers is.
      readable_of (content_of season is.of_season.row) ((reading false is.bundle).sound (content_of season is.of_season.row) [] is.of_season.given);
  one_fault = λ fault other f g. one_err (Err fault) fault other refl (ends-once reading bytes (Err fault) (Err other) (fault-ends bytes fault f) (fault-ends bytes other g));
}
