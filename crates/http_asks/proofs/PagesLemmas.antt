-- Paths, from the pieces between their slashes.
use Rattle.std.proofs.Common.{◌≡◌, ◌<◌, ◌≤◌, ◌^◌, ℕ, Bool, true, false, cond, ◌==◌, List, [], ◌∷◌, ◌++◌, drop, Option, Some, None, unwrap_or, codes, refl, sym, ap, ◌∙◌, arith}
use Rattle.std.specs.Prelude.{bytes_eq}
use Rattle.std.specs.Fmt.{decimal}
use Rattle.std.specs.Option.{option_map}
use Rattle.std.proofs.lemmas.Bool.{and_parts, cond-true, eqb-true, leb-true}
use Rattle.std.proofs.lemmas.List.{append-nil}
use Rattle.std.proofs.lemmas.Slice.Eq.{bytes_eq-Decides}
use Rattle.std.proofs.lemmas.Option.{none-some}
use Rattle.office_base.specs.Codes.{is_code}
use Rattle.office_asks.specs.declared.ask.Ask.{Ask}
use Rattle.office_text.specs.Lines.{split_at_each, onto_first}
use Rattle.office_text.specs.Names.{code_of}
use Rattle.office_text.specs.Number.{AreInverse, is_number, number_within, value_of}
use Rattle.http_asks.specs.Laws.{page_text}
use Rattle.http_asks.specs.Pages.{page_among, page_at, page_named, page_of, path_of}
use Rattle.http_asks.specs.Roads.{Shape, alone, number, number_and_code, all_roads, asked_with, name_of, page_after, shape_of}
use Rattle.http_asks.specs.declared.pages.Page.{Page}
use Rattle.http_asks.specs.declared.pages.Page.TheVariants.{Reads}
use Rattle.http_asks.specs.declared.roads.Road.{Road}
use Rattle.http_asks.proofs.EachRoad.{highest, page_with, small, tail_with, texts}

-- the pieces with a slash before each
abbrev pub slashed : List (List ℕ) → List ℕ
slashed [] = []
slashed (piece ∷ pieces) = 47 ∷ (piece ++ slashed pieces)

slashed-onto : (byte : ℕ) (pieces : List (List ℕ)) (bytes : List ℕ) → slashed pieces ≡ 47 ∷ bytes → slashed (onto_first byte pieces) ≡ 47 ∷ byte ∷ bytes
slashed-onto byte [] bytes e = cc
slashed-onto byte (piece ∷ pieces) bytes e = ap (λ (text : List ℕ). 47 ∷ byte ∷ drop 1 text) e

slashed-step : (byte : ℕ) (bytes : List ℕ) (pieces : List (List ℕ)) (is : Bool) → (byte == 47) ≡ is → slashed pieces ≡ 47 ∷ bytes
    → slashed (cond is ([] ∷ pieces) (onto_first byte pieces)) ≡ 47 ∷ byte ∷ bytes
slashed-step byte bytes pieces true is same = ap (λ (text : List ℕ). 47 ∷ text) same ∙ ap (λ (n : ℕ). 47 ∷ n ∷ bytes) (sym (eqb-true byte 47 is))
slashed-step byte bytes pieces false is same = slashed-onto byte pieces bytes same

-- the pieces of bytes are the bytes
pub slashed-cut : (bytes : List ℕ) → slashed (split_at_each 47 bytes) ≡ 47 ∷ bytes
slashed-cut [] = refl
slashed-cut (byte ∷ bytes) = slashed-step byte bytes (split_at_each 47 bytes) (byte == 47) refl (slashed-cut bytes)

-- what is there under a test
pub cond-some : {X : Type 0} (is : Bool) (o : Option X) (x : X) → cond is o None ≡ Some x → (is ≡ true) × (o ≡ Some x)
cond-some true o x e = (refl, e)
cond-some false o x e = absurd (none-some x e)

-- what is there under a test is one of two
pub choose : {X : Type 0} (is : Bool) (here other : Option X) (x : X) (G : Type 0) → cond is here other ≡ Some x → (is ≡ true → here ≡ Some x → G) → (other ≡ Some x → G) → G
choose true here other x G e there elsewhere = there refl e
choose false here other x G e there elsewhere = elsewhere e

same-page : (known page : Page) → Some known ≡ Some page → known ≡ page
same-page known page e = ap (λ (o : Option Page). unwrap_or o known) e

below : (value n high : ℕ) → value ≡ n → value ≤ high → high < 2 ^ 64 → n < 2 ^ 64
below value n high same most small = omega arith

-- a piece that is read as a number is its digits
digits : AreInverse → (low high : ℕ) (text : List ℕ) (n : ℕ) → high < 2 ^ 64 → number_within low high text ≡ Some n → text ≡ decimal n
digits inverse low high text n small e =
    let (tests, same) = cond-some _ (Some (value_of text)) n e in
    let inside = and_parts _ _ tests in
    let most : value_of text ≤ high = leb-true _ _ inside.1 in
    let value : value_of text ≡ n = ap (λ (o : Option ℕ). unwrap_or o 0) same in
    inverse.written_back text n (below (value_of text) n high value most small) (cond-true (is_number text) (Some (value_of text)) None (and_parts _ _ inside.0).0 ∙ same)

-- a piece that is read as a code is it
coded : (text code : List ℕ) → code_of text ≡ Some code → text ≡ code
coded text code e = ap (λ (o : Option (List ℕ)). unwrap_or o text) (cond-some (is_code text) (Some text) code e).1

-- a page among roads is on one of them, which has the name
pub record IsAmong (name : List ℕ) (pieces : List (List ℕ)) (page : Page) : Type 0 where
  pub road : Road
  pub same : name ≡ name_of road
  pub here : page_after (shape_of road) pieces ≡ Some page

pub among : (roads : List Road) (name : List ℕ) (pieces : List (List ℕ)) (page : Page) → page_among roads name pieces ≡ Some page → IsAmong name pieces page
among [] name pieces page e = absurd (none-some page e)
among (road ∷ roads) name pieces page e =
    choose (bytes_eq name (name_of road)) (page_after (shape_of road) pieces) (page_among roads name pieces) page (IsAmong name pieces page) e
    (λ is here. record { road = road; same = (bytes_eq-Decides name (name_of road)).0 is; here = here })
    (λ e. among roads name pieces page e)

-- a number and a code with which a shape has that page, and these pieces
record Spells (shape : Shape) (pieces : List (List ℕ)) (page : Page) : Type 0 where
  n : ℕ
  code : List ℕ
  is : page_with shape n code ≡ page
  tail : slashed pieces ≡ tail_with shape n code

number-spells : AreInverse → (low high : ℕ) (asked : ℕ → Ask) → high < 2 ^ 64 → (piece : List ℕ) (page : Page) (read : Option ℕ) → number_within low high piece ≡ read
    → option_map (λ n. Reads (asked n)) read ≡ Some page → Spells (number low high asked) (piece ∷ []) page
number-spells inverse low high asked small piece page None is e = absurd (none-some page e)
number-spells inverse low high asked small piece page (Some n) is e = record {
  n = n;
  code = [];
  is = same-page (Reads (asked n)) page e;
  tail = ap (λ (text : List ℕ). 47 ∷ text) (append-nil piece ∙ digits inverse low high piece n small is);
}

both-spell : AreInverse → (low high : ℕ) (asked : ℕ → List ℕ → Ask) → high < 2 ^ 64 → (piece other : List ℕ) (page : Page) (read : Option ℕ) (code : Option (List ℕ))
    → number_within low high piece ≡ read → code_of other ≡ code → asked_with asked read code ≡ Some page → Spells (number_and_code low high asked) (piece ∷ other ∷ []) page
both-spell inverse low high asked small piece other page None code is there e = absurd (none-some page e)
both-spell inverse low high asked small piece other page (Some n) None is there e = absurd (none-some page e)
both-spell inverse low high asked small piece other page (Some n) (Some code) is there e = record {
  n = n;
  code = code;
  is = same-page (Reads (asked n code)) page e;
  tail = ap (λ (text : List ℕ). 47 ∷ (piece ++ 47 ∷ text)) (append-nil other ∙ coded other code there)
      ∙ ap (λ (text : List ℕ). 47 ∷ (text ++ 47 ∷ code)) (digits inverse low high piece n small is);
}

spells : AreInverse → (shape : Shape) → highest shape < 2 ^ 64 → (pieces : List (List ℕ)) (page : Page) → page_after shape pieces ≡ Some page → Spells shape pieces page
spells inverse (alone known) small [] page e = record { n = 0; code = []; is = same-page known page e; tail = refl }
spells inverse (alone known) small (piece ∷ pieces) page e = absurd (none-some page e)
spells inverse (number low high asked) small [] page e = absurd (none-some page e)
spells inverse (number low high asked) small (piece ∷ []) page e = number-spells inverse low high asked small piece page (number_within low high piece) refl e
spells inverse (number low high asked) small (piece ∷ other ∷ pieces) page e = absurd (none-some page e)
spells inverse (number_and_code low high asked) small [] page e = absurd (none-some page e)
spells inverse (number_and_code low high asked) small (piece ∷ []) page e = absurd (none-some page e)
spells inverse (number_and_code low high asked) small (piece ∷ other ∷ []) page e =
    both-spell inverse low high asked small piece other page (number_within low high piece) (code_of other) refl refl e
spells inverse (number_and_code low high asked) small (piece ∷ other ∷ third ∷ pieces) page e = absurd (none-some page e)

named-text : AreInverse → (pieces : List (List ℕ)) (page : Page) → page_named pieces ≡ Some page → codes "/v1" ++ slashed pieces ≡ page_text page
named-text inverse [] page e = absurd (none-some page e)
named-text inverse (name ∷ pieces) page e =
    let on = among all_roads name pieces page e in
    let spelled = spells inverse (shape_of on.road) (small on.road) pieces page on.here in
    ap (λ (text : List ℕ). codes "/v1/" ++ text ++ slashed pieces) on.same
    ∙ ap (λ (text : List ℕ). codes "/v1/" ++ name_of on.road ++ text) spelled.tail
    ∙ sym (texts on.road spelled.n spelled.code)
    ∙ ap page_text spelled.is

at-text : AreInverse → (pieces : List (List ℕ)) (page : Page) → page_at pieces ≡ Some page → slashed pieces ≡ 47 ∷ page_text page
at-text inverse [] page e = absurd (none-some page e)
at-text inverse (root ∷ []) page e = absurd (none-some page e)
at-text inverse (root ∷ version ∷ pieces) page e =
    let (tests, named) = cond-some _ (page_named pieces) page e in
    let parts = and_parts _ _ tests in
    let none : root ≡ [] = (bytes_eq-Decides root []).0 parts.0 in
    let first : version ≡ codes "v1" = (bytes_eq-Decides version (codes "v1")).0 parts.1 in
    rw (none, first) (ap (λ (text : List ℕ). 47 ∷ text) (named-text inverse pieces page named))

-- Each target that names a page has its path.
pub one_path : AreInverse → (target : List ℕ) (page : Page) → page_of target ≡ Some page → path_of target ≡ page_text page
unfolding page_of
one_path inverse target page e =
    ap (λ (text : List ℕ). drop 1 text) (sym (slashed-cut (path_of target)) ∙ at-text inverse (split_at_each 47 (path_of target)) page e)
