-- What the fields of a head say of the body and of the connection.
use Rattle.std.specs.Prelude.{ℕ, ◌==◌, ◌&&◌, ◌||◌, Bool, List, [], ◌∷◌, length, map, filter, Option, None, Some, is_some, Result, Ok, Err, nat_le, nat_lt, bytes_eq, codes, if◌then◌else◌}
use Rattle.std.specs.List.{list_all, list_any}
use Rattle.std.specs.Str.{str_eq_ignore_ascii_case}
use Rattle.http_wire.specs.Limits.{most_body_bytes}
use Rattle.httparse.specs.Grammar.{trim_ows}
use Rattle.office_text.specs.Lines.{split_at_each}
use Rattle.office_text.specs.Number.{are_digits, value_of}
use Rattle.http_wire.specs.Methods.{method_name}
use Rattle.http_wire.specs.declared.methods.Method.TheVariants.{Post}

-- a field: its name, and its value without the blanks around it
abbrev pub Pair : Type 0
Pair = List ℕ × List ℕ

-- the name of the field is this one, without regard to case
abbrev pub is_named : List ℕ → Pair → Bool
is_named name field = str_eq_ignore_ascii_case field.0 name

-- the value of a field
abbrev pub value : Pair → List ℕ
value field = field.1

-- the values of the fields of that name, in their order
abbrev pub values : List ℕ → List Pair → List (List ℕ)
values name fields = map value (filter (is_named name) fields)

-- the first of some values
abbrev pub first_of : List (List ℕ) → Option (List ℕ)
first_of [] = None
first_of (first ∷ others) = Some first

-- the value of the first field of that name
abbrev pub first_value : List ℕ → List Pair → Option (List ℕ)
first_value name fields = first_of (values name fields)

-- some field has that name
abbrev pub has_field : List ℕ → List Pair → Bool
has_field name fields = is_some (first_value name fields)

-- a run of 1 to 18 digits
abbrev pub is_length : List ℕ → Bool
is_length text = nat_le 1 (length text) && nat_le (length text) 18 && are_digits text

-- a run of 1 to 18 digits of that value
abbrev pub is_length_of : ℕ → List ℕ → Bool
is_length_of n text = is_length text && value_of text == n

-- The number that values spell as lengths, of which the first is given: none where there is no value, 400 where one spells no length, or two differ.
abbrev pub shared_length : Option (List ℕ) → List (List ℕ) → Result (Option ℕ) ℕ
shared_length None texts = Ok None
shared_length (Some first) texts = if is_length first && list_all (is_length_of (value_of first)) texts then Ok (Some (value_of first)) else Err 400

-- the number that all values spell as lengths, where there are any
abbrev pub one_length : List (List ℕ) → Result (Option ℕ) ℕ
one_length texts = shared_length (first_of texts) texts

-- How long a body is, by the method and the given length, or the status that refuses it. Without a length, a POST is 411, and
-- other methods have no body. A length above 4,096 is 413. A status that refuses the length stays.
abbrev pub length_for : List ℕ → Result (Option ℕ) ℕ → Result ℕ ℕ
length_for method (Err status) = Err status
length_for method (Ok None) = if bytes_eq method (method_name Post) then Err 411 else Ok 0
length_for method (Ok (Some n)) = if nat_lt most_body_bytes n then Err 413 else Ok n

-- How long the body after a head is, or the status that refuses it: first 501 for a transfer coding, then 400, 411 and 413 for the length.
abbrev pub body_len : List ℕ → List Pair → Result ℕ ℕ
body_len method fields = if has_field (codes "transfer-encoding") fields then Err 501 else length_for method (one_length (values (codes "content-length") fields))

-- the part is `close`, without regard to case and to the blanks around it
abbrev pub is_close : List ℕ → Bool
is_close part = str_eq_ignore_ascii_case (trim_ows part) (codes "close")

-- a part of the value between commas is `close`
abbrev pub lists_close : List ℕ → Bool
lists_close text = list_any is_close (split_at_each 44 text)

-- the connection closes after the reply: the version is 1.0, or a field says so
abbrev pub closes : ℕ → List Pair → Bool
closes minor fields = minor == 0 || list_any lists_close (values (codes "connection") fields)
