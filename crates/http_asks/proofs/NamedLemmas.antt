-- The path of a page names it.
use Rattle.std.proofs.Common.{◌≡◌, ◌<◌, ◌≤◌, ◌^◌, ℕ, Bool, true, false, not, ◌&&◌, ◌==◌, leb, List, [], ◌∷◌, ◌++◌, Option, Some, None, unwrap_or, codes, refl, sym, ap, subst, ◌∙◌, arith, eq-eqb, length}
use Rattle.std.specs.Char.{is_ascii_digit}
use Rattle.std.specs.Fmt.{decimal}
use Rattle.std.specs.List.{list_all}
use Rattle.std.specs.Option.{option_map}
use Rattle.std.proofs.lemmas.Bool.{and_from, and_parts, cond-false, cond-true, eqb-true, false≢true, le-leb}
use Rattle.std.proofs.lemmas.List.{append-nil}
use Rattle.std.proofs.lemmas.List.Folds.{list_all-append}
use Rattle.office_base.specs.Codes.{is_code, is_code_byte}
use Rattle.office_base.specs.Limits.{longest_code, shortest_code}
use Rattle.office_text.specs.Lines.{split_at_each, onto_first}
use Rattle.office_text.specs.Names.{code_of}
use Rattle.office_text.specs.Number.{AreInverse, is_number, number_within, value_of}
use Rattle.http_asks.specs.Laws.{HasPath, page_text}
use Rattle.http_asks.specs.Pages.{first_of_pieces, page_at, page_of, path_of}
use Rattle.http_asks.specs.Roads.{Shape, alone, number, number_and_code, asked_with, name_of, page_after, shape_of}
use Rattle.http_asks.specs.declared.pages.Page.{Page}
use Rattle.http_asks.specs.declared.pages.Page.TheVariants.{Reads}
use Rattle.http_asks.specs.declared.roads.Road.{Road}
use Rattle.http_asks.proofs.EachRoad.{IsWithin, highest, name-bytes, on-road, own-row, page_with, small, tail_with, texts}
use Rattle.http_asks.proofs.PagesLemmas.{cond-some}

-- ---- texts without a mark

-- a byte that passes a test which the mark fails is not the mark
no_mark : (passes : ℕ → Bool) (mark byte : ℕ) (is : Bool) → (byte == mark) ≡ is → passes mark ≡ false → passes byte ≡ true → is ≡ false
no_mark passes mark byte true same fails is = absurd (false≢true (sym fails ∙ ap passes (sym (eqb-true byte mark same)) ∙ is))
no_mark passes mark byte false same fails is = refl

-- bytes without the mark are one piece
uncut : (passes : ℕ → Bool) (mark : ℕ) → passes mark ≡ false → (text : List ℕ) → list_all passes text ≡ true → split_at_each mark text ≡ text ∷ []
uncut passes mark fails [] all = refl
uncut passes mark fails (byte ∷ text) all =
    let parts = and_parts (passes byte) (list_all passes text) all in
    cond-false (byte == mark) _ _ (no_mark passes mark byte (byte == mark) refl fails parts.0) ∙ ap (onto_first byte) (uncut passes mark fails text parts.1)

-- they are the first piece if the mark follows
cut_before : (passes : ℕ → Bool) (mark : ℕ) → passes mark ≡ false → (text rest : List ℕ) → list_all passes text ≡ true → split_at_each mark (text ++ mark ∷ rest) ≡ text ∷ split_at_each mark rest
cut_before passes mark fails [] rest all = cond-true (mark == mark) _ _ (eq-eqb mark mark refl)
cut_before passes mark fails (byte ∷ text) rest all =
    let parts = and_parts (passes byte) (list_all passes text) all in
    cond-false (byte == mark) _ _ (no_mark passes mark byte (byte == mark) refl fails parts.0) ∙ ap (onto_first byte) (cut_before passes mark fails text rest parts.1)

-- no byte begins a query
abbrev unqueried : ℕ → Bool
unqueried byte = not (byte == 63)

-- bytes that pass a test which `?` fails begin no query
all_unqueried : (passes : ℕ → Bool) → passes 63 ≡ false → (text : List ℕ) → list_all passes text ≡ true → list_all unqueried text ≡ true
all_unqueried passes fails [] all = refl
all_unqueried passes fails (byte ∷ text) all =
    let parts = and_parts (passes byte) (list_all passes text) all in
    and_from (unqueried byte) (list_all unqueried text) (ap not (no_mark passes 63 byte (byte == 63) refl fails parts.0)) (all_unqueried passes fails text parts.1)

-- ---- numbers and codes

-- a number is digits
number_digits : (text : List ℕ) → is_number text ≡ true → list_all is_ascii_digit text ≡ true
number_digits [] e = refl
number_digits (byte ∷ []) e = and_from (is_ascii_digit byte) true e refl
number_digits (byte ∷ next ∷ text) e =
    let parts = and_parts (leb 49 byte && leb byte 57) (list_all is_ascii_digit (next ∷ text)) e in
    let range = and_parts (leb 49 byte) (leb byte 57) parts.0 in
    and_from (is_ascii_digit byte) (list_all is_ascii_digit (next ∷ text)) (grind (arith, range.0, range.1)) parts.1

-- a number in decimal: it is digits, and is read back if it lies within the bounds
record IsDecimal (low high n : ℕ) (text : List ℕ) : Type 0 where
  digits : list_all is_ascii_digit text ≡ true
  within : number_within low high text ≡ Some n

in_bounds : (low high n : ℕ) (text : List ℕ) → is_number text ≡ true → value_of text ≡ n → low ≤ n → n ≤ high → number_within low high text ≡ Some n
in_bounds low high n text spelled value least most =
    let from : leb low (value_of text) ≡ true = ap (leb low) value ∙ le-leb low n least in
    let to : leb (value_of text) high ≡ true = ap (λ (m : ℕ). leb m high) value ∙ le-leb n high most in
    cond-true (is_number text && leb low (value_of text) && leb (value_of text) high) (Some (value_of text)) None
    (and_from (is_number text && leb low (value_of text)) (leb (value_of text) high) (and_from (is_number text) (leb low (value_of text)) spelled from) to)
    ∙ ap (λ (m : ℕ). Some m) value

decimals : AreInverse → (low high n : ℕ) → low ≤ n → n ≤ high → high < 2 ^ 64 → IsDecimal low high n (decimal n)
decimals inverse low high n least most small =
    let read = cond-some (is_number (decimal n)) (Some (value_of (decimal n))) n (inverse.read_back n (omega arith)) in
    let value : value_of (decimal n) ≡ n = ap (λ (o : Option ℕ). unwrap_or o 0) read.1 in
    record {
      digits = number_digits (decimal n) read.0;
      within = in_bounds low high n (decimal n) read.0 value least most;
    }

-- the bytes of a code
code_bytes : (text : List ℕ) → is_code text ≡ true → list_all is_code_byte text ≡ true
code_bytes text e = (and_parts (leb shortest_code (length text) && leb (length text) longest_code) (list_all is_code_byte text) e).1

coded : (text : List ℕ) → is_code text ≡ true → code_of text ≡ Some text
coded text e = cond-true (is_code text) (Some text) None e

-- ---- pages

-- the pieces of a path after its name
abbrev pieces_with : Shape → ℕ → List ℕ → List (List ℕ)
pieces_with (alone page) n code = []
pieces_with (number low high asked) n code = decimal n ∷ []
pieces_with (number_and_code low high asked) n code = decimal n ∷ code ∷ []

-- a name and what follows it: its pieces, the page that they name, and that no query begins
record IsTail (name : List ℕ) (shape : Shape) (n : ℕ) (code : List ℕ) : Type 0 where
  cut : split_at_each 47 (name ++ tail_with shape n code) ≡ name ∷ pieces_with shape n code
  names : page_after shape (pieces_with shape n code) ≡ Some (page_with shape n code)
  bare : list_all unqueried (tail_with shape n code) ≡ true

tail : AreInverse → (name : List ℕ) → list_all is_code_byte name ≡ true → (shape : Shape) (n : ℕ) (code : List ℕ) → highest shape < 2 ^ 64 → IsWithin shape n code → IsTail name shape n code
tail inverse name plain (alone page) n code small within = record {
  cut = ap (split_at_each 47) (append-nil name) ∙ uncut is_code_byte 47 refl name plain;
  names = refl;
  bare = refl;
}
tail inverse name plain (number low high asked) n code small within =
    let is = decimals inverse low high n within.0 within.1 small in record {
      cut = cut_before is_code_byte 47 refl name (decimal n) plain ∙ ap (λ (pieces : List (List ℕ)). name ∷ pieces) (uncut is_ascii_digit 47 refl (decimal n) is.digits);
      names = ap (λ (o : Option ℕ). option_map (λ n. Reads (asked n)) o) is.within;
      bare = all_unqueried is_ascii_digit refl (decimal n) is.digits;
    }
tail inverse name plain (number_and_code low high asked) n code small within =
    let is = decimals inverse low high n within.0 within.1 small in
    let bytes = code_bytes code within.2 in record {
      cut = cut_before is_code_byte 47 refl name (decimal n ++ 47 ∷ code) plain
          ∙ ap (λ (pieces : List (List ℕ)). name ∷ pieces) (cut_before is_ascii_digit 47 refl (decimal n) code is.digits)
          ∙ ap (λ (pieces : List (List ℕ)). name ∷ decimal n ∷ pieces) (uncut is_code_byte 47 refl code bytes);
      names = ap (λ (o : Option ℕ). asked_with asked o (code_of code)) is.within ∙ ap (λ (o : Option (List ℕ)). asked_with asked (Some n) o) (coded code within.2);
      bare = list_all-append unqueried (decimal n) (47 ∷ code)
          ∙ and_from (list_all unqueried (decimal n)) (list_all unqueried (47 ∷ code)) (all_unqueried is_ascii_digit refl (decimal n) is.digits) (all_unqueried is_code_byte refl code bytes);
    }

-- what the path of a page names, and that it has no query
record IsPathOf (page : Page) : Type 0 where
  names : page_at (split_at_each 47 (page_text page)) ≡ Some page
  bare : path_of (page_text page) ≡ page_text page

-- the path on a road with a number and a code
road-path : AreInverse → (road : Road) (n : ℕ) (code : List ℕ) → IsWithin (shape_of road) n code → IsPathOf (page_with (shape_of road) n code)
road-path inverse road n code within =
    let name = name_of road in
    let end = tail_with (shape_of road) n code in
    let is = tail inverse name (name-bytes road) (shape_of road) n code (small road) within in
    let path : List ℕ = codes "/v1/" ++ name ++ end in
    let text : page_text (page_with (shape_of road) n code) ≡ path = texts road n code in
    let bare : list_all unqueried (name ++ end) ≡ true =
    list_all-append unqueried name end ∙ and_from (list_all unqueried name) (list_all unqueried end) (all_unqueried is_code_byte refl name (name-bytes road)) is.bare in record {
      names = ap (λ (path : List ℕ). page_at (split_at_each 47 path)) text
          ∙ ap (λ (pieces : List (List ℕ)). page_at ([] ∷ codes "v1" ∷ pieces)) is.cut
          ∙ own-row road (pieces_with (shape_of road) n code)
          ∙ is.names;
      bare = ap path_of text ∙ ap first_of_pieces (uncut unqueried 63 refl path bare) ∙ sym text;
    }

path-of : AreInverse → (page : Page) → HasPath page → IsPathOf page
path-of inverse page has =
    let on = on-road page has in
    subst IsPathOf on.is (road-path inverse on.road on.n on.code on.within)

-- Each target with the path of a page names it.
pub queried_path : AreInverse → (target : List ℕ) (page : Page) → HasPath page → path_of target ≡ page_text page → page_of target ≡ Some page
unfolding page_of
queried_path inverse target page has same =
    ap (λ (path : List ℕ). page_at (split_at_each 47 path)) same ∙ (path-of inverse page has).names

-- The path of a page names it.
pub named_path : AreInverse → (page : Page) → HasPath page → page_of (page_text page) ≡ Some page
named_path inverse page has = queried_path inverse (page_text page) page has (path-of inverse page has).bare
