-- The text of a season reads as the season.
use Rattle.std.proofs.Common.{◌≡◌, ◌<◌, ◌+◌, ◌-◌, inl, inr, ℕ, Bool, false, List, [], ◌∷◌, ◌++◌, length, take, get_or, Ok, refl, sym, ap, subst, ◌∙◌, arith}
use Rattle.std.proofs.Math.Seq.{get_or-append_seam, take-append_seam, take-length}
use Rattle.std.proofs.lemmas.List.{append-nil, length-append}
use Rattle.std.proofs.lemmas.Str.{IsUtf8-take, IsCharBoundary-before_ascii}
use Rattle.std.specs.Str.{IsUtf8}
use Rattle.office_base.specs.Version.{IsVersion}
use Rattle.office_asks.specs.declared.ask.Request.{Request}
use Rattle.request_rows.specs.Requests.{script_of}
use Rattle.season_file.specs.Bundle.{Parts, before_requests, bundle_of, season_text}
use Rattle.season_file.specs.Season.{BundleGives, IsText, SectionsGive, request_rows_of}
use Rattle.season_file.specs.declared.content.Content.{Content}
use Rattle.season_file.proofs.SplitLemmas.{IsAgain, IsNext, cut_again, no_requests, without_requests}

-- what comes before the last bytes
before_last : (front last : List ℕ) → take (length (front ++ last) - length last) (front ++ last) ≡ front
before_last front last =
    let n : length (front ++ last) - length last ≡ length front = omega (arith, length-append front last) in
    ap (λ (k : ℕ). take k (front ++ last)) n ∙ take-append_seam front last

front_utf8 : (front last : List ℕ) → IsNext last → IsUtf8 (front ++ last) → IsUtf8 front
front_utf8 front last (inl none) utf8 = subst IsUtf8 (ap (λ (bytes : List ℕ). front ++ bytes) none ∙ append-nil front) utf8
front_utf8 front last (inr more) utf8 =
    let whole : front ++ last ≡ front ++ 91 ∷ more.0 = ap (λ (bytes : List ℕ). front ++ bytes) more.1 in
    let all : IsUtf8 (front ++ 91 ∷ more.0) = subst IsUtf8 whole utf8 in
    let within : length front < length (front ++ 91 ∷ more.0) = omega (arith, length-append front (91 ∷ more.0)) in
    let here : get_or (front ++ 91 ∷ more.0) (length front) 0 ≡ 91 = get_or-append_seam front 91 more.0 0 in
    subst IsUtf8 (take-append_seam front (91 ∷ more.0))
    (IsUtf8-take (front ++ 91 ∷ more.0) (length front) all (IsCharBoundary-before_ascii (front ++ 91 ∷ more.0) (length front) within (omega arith)))

given_again : (bytes : List ℕ) (parts : Parts) (content : Content) → IsText bytes → SectionsGive parts content → IsAgain bytes parts → (text : List ℕ) → text ≡ take (length bytes - length parts.requests) bytes
    → IsText text × ((p : Parts) × (bundle_of false text ≡ Ok p) × SectionsGive p content × (script_of (request_rows_of p) ≡ Ok []))
given_again bytes parts content are give again text same =
    let shape = again.whole in
    let is : text ≡ again.front = same ∙ ap (λ (b : List ℕ). take (length b - length parts.requests) b) shape ∙ before_last again.front parts.requests in
    let utf8 : IsUtf8 (again.front ++ parts.requests) = subst IsUtf8 shape are.utf8 in
    let long : length bytes ≡ length again.front + length parts.requests = ap length shape ∙ length-append again.front parts.requests in
    subst (λ (t : List ℕ). IsText t × ((p : Parts) × (bundle_of false t ≡ Ok p) × SectionsGive p content × (script_of (request_rows_of p) ≡ Ok []))) (sym is) (
      record { short = omega (arith, long, are.short); utf8 = front_utf8 again.front parts.requests again.next utf8 },
      (
        without_requests parts,
        again.again,
        record {
          version = give.version;
          head = give.head;
          register = give.register;
          matrix = give.matrix;
          choices = give.choices;
          sound = give.sound;
        },
        refl,
      ),
    )

-- The text of a season, without its requests, gives the season.
pub text_gives : (requests : Bool) (bytes : List ℕ) (content : Content) (script : List Request) (text : List ℕ) → BundleGives requests bytes content script → text ≡ season_text requests bytes
    → BundleGives false text content []
text_gives requests bytes content script text gives same =
    let (parts, cut, give, scripted) = gives.1 in
    let (are, given) = given_again bytes parts content gives.0 give (cut_again requests bytes parts cut) text (same ∙ ap (before_requests bytes) cut) in
    (are, given, gives.2)

-- the version of a bundle that is cut is known
pub version_known : (requests : Bool) (bytes : List ℕ) (content : Content) (script : List Request) → BundleGives requests bytes content script → IsVersion content.version
version_known requests bytes content script gives =
    let (parts, cut, give, scripted) = gives.1 in
    let again = cut_again requests bytes parts cut in
    subst (λ (v : ℕ). IsVersion v) (sym give.version) again.version

-- Where requests are not read, the text is the whole bundle.
pub whole_text : (bytes : List ℕ) (content : Content) (script : List Request) → BundleGives false bytes content script → bytes ≡ season_text false bytes
whole_text bytes content script gives =
    let (parts, cut, give, scripted) = gives.1 in
    let all : length bytes - length {A = ℕ} [] ≡ length bytes = omega arith in
    sym (ap (before_requests bytes) cut ∙ ap (λ (last : List ℕ). take (length bytes - length last) bytes) (no_requests bytes parts cut) ∙ ap (λ (k : ℕ). take k bytes) all ∙ take-length bytes)
