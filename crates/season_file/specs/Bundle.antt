-- How a bundle is cut into the bodies of its sections.
use Rattle.std.specs.Prelude.{◌+◌, ◌-◌, ℕ, suc, Bool, true, ◌==◌, ◌&&◌, List, [], ◌∷◌, Option, Some, None, Result, Ok, Err, length, take, drop, bytes_eq, codes, if◌then◌else◌}
use Rattle.office_text.specs.Lines.{drop_cr, lines_of, skip_mark, trimmed}
use Rattle.section_rows.specs.Steps.{after, needs}
use Rattle.season_file.specs.declared.splitting.Pieces.{Pieces}
use Rattle.season_file.specs.declared.fault.SeasonFault.{SeasonFault}
use Rattle.season_file.specs.declared.fault.SeasonFault.TheVariants.{BadFirstLine, Section}

-- What a bundle is cut into: its version, the bodies of four sections without their section lines, and the section of the
-- requests from its section line on, which is nothing where there is none.
pub record Parts : Type 0 where
  pub version : ℕ
  pub season : List ℕ
  pub register : List ℕ
  pub matrix : List ℕ
  pub choices : List ℕ
  pub requests : List ℕ

-- what these pieces are in the bytes
abbrev pub parts_of : Pieces → Parts
parts_of cut = record { version = cut.version; season = cut.season.now; register = cut.register.now; matrix = cut.matrix.now; choices = cut.choices.now; requests = cut.requests.now }

-- how many bytes come before the first LF
abbrev pub line_len : List ℕ → ℕ
line_len [] = 0
line_len (byte ∷ bytes) = if byte == 10 then 0 else suc (line_len bytes)

-- the first line, without its line end and the commas before it
abbrev pub title : List ℕ → List ℕ
title bytes = trimmed (drop_cr (take (line_len bytes) bytes))

-- the bytes after the first line
abbrev pub after_line : List ℕ → List ℕ
after_line bytes = drop (line_len bytes + 1) bytes

-- The bytes from the first line on that is not empty. A CR alone at the end is no line.
abbrev pub skip_empty : List ℕ → List ℕ
skip_empty [] = []
skip_empty (a ∷ []) = if a == 10 then [] else if a == 13 then [] else a ∷ []
skip_empty (a ∷ b ∷ bytes) = if a == 10 then skip_empty (b ∷ bytes) else if a == 13 && b == 10 then skip_empty bytes else a ∷ b ∷ bytes

-- how many bytes come before the next line that begins with `[`, where the first byte begins a line or does not
abbrev pub body_len : Bool → List ℕ → ℕ
body_len begins [] = 0
body_len begins (byte ∷ bytes) = if begins && byte == 91 then 0 else suc (body_len (byte == 10) bytes)

-- the body after a section line, and what follows the body
abbrev pub body_and_rest : List ℕ → List ℕ × List ℕ
body_and_rest bytes = (take (body_len true bytes) bytes, drop (body_len true bytes) bytes)

-- the body of the section of this name that begins the text, and what follows it; if another line begins the text,
-- the text
abbrev pub section : List ℕ → List ℕ → Result (List ℕ × List ℕ) (List ℕ)
section name text = if bytes_eq (title text) name then Ok (body_and_rest (after_line text)) else Err text

-- nothing may be left after the last section
abbrev pub closed : List ℕ → List ℕ → Result (List ℕ) (List ℕ)
closed [] value = Ok value
closed (byte ∷ bytes) value = Err (byte ∷ bytes)

-- What may follow the choices: nothing or, if requests are read, their section alone. Otherwise what there is from
-- the first wrong line on.
abbrev pub last_section : Bool → List ℕ → Result (List ℕ) (List ℕ)
last_section requests [] = Ok []
last_section requests (byte ∷ bytes) = if requests then after (section (codes "[requests]") (byte ∷ bytes)) (λ cut. closed cut.1 (byte ∷ bytes)) else Err (byte ∷ bytes)

-- the sections in their order, or what there is from the first wrong line on: nothing, if a section is missing
abbrev pub sections : Bool → ℕ → List ℕ → Result Parts (List ℕ)
sections requests version text =
    after (section (codes "[season]") text) (λ season. after (section (codes "[register]") season.1) (λ register.
    after (section (codes "[matrix]") register.1) (λ matrix. after (section (codes "[choices]") matrix.1)
    (λ choices. after (last_section requests choices.1) (λ last. Ok (record {
      version = version;
      season = season.0;
      register = register.0;
      matrix = matrix.0;
      choices = choices.0;
      requests = last;
    }))))))

-- how many LFs there are
abbrev pub breaks : List ℕ → ℕ
breaks [] = 0
breaks (byte ∷ bytes) = if byte == 10 then suc (breaks bytes) else breaks bytes

-- the line at which the rest of a text begins, or one more than the number of lines where nothing is left
abbrev pub fault_line : List ℕ → List ℕ → ℕ
fault_line text [] = length (lines_of text) + 1
fault_line text (byte ∷ rest) = breaks (take (length text - length (byte ∷ rest)) text) + 1

-- a wrong line is reported by its number
abbrev pub with_line : List ℕ → Result Parts (List ℕ) → Result Parts SeasonFault
with_line text (Ok parts) = Ok parts
with_line text (Err rest) = Err (Section (fault_line text rest))

-- the version that a first line gives
abbrev pub version_of : List ℕ → Option ℕ
version_of line = if bytes_eq line (codes "office bundle 1") then Some 1 else if bytes_eq line (codes "office bundle 2") then Some 2 else None

-- the sections after the first line, in this version
abbrev pub sections_after : Bool → ℕ → List ℕ → Result Parts SeasonFault
sections_after requests version text = with_line text (sections requests version (skip_empty (after_line text)))

-- the sections after the first line
abbrev pub text_of : Bool → List ℕ → Result Parts SeasonFault
text_of requests text = needs (version_of (title text)) BadFirstLine (λ version. sections_after requests version text)

-- what a bundle is cut into, or the fault of its first line or of its sections; with its requests, or without
abbrev pub bundle_of : Bool → List ℕ → Result Parts SeasonFault
bundle_of requests bytes = text_of requests (skip_mark bytes)

-- the part of the bytes before the section of the requests
abbrev pub before_requests : List ℕ → Result Parts SeasonFault → List ℕ
before_requests bytes (Ok parts) = take (length bytes - length parts.requests) bytes
before_requests bytes (Err fault) = bytes

-- the text of a bundle's season: all of it but the section of the requests
abbrev pub season_text : Bool → List ℕ → List ℕ
season_text requests bytes = before_requests bytes (bundle_of requests bytes)
