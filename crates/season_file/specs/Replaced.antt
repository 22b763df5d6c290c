-- That another body may take the place of the choices of a bundle.
use Rattle.std.specs.Prelude.{◌≡◌, ◌+◌, ℕ, true, List, [], ◌++◌, Ok, length}
use Rattle.season_file.specs.Bundle.{Parts, body_len, bundle_of}

-- the same parts with another body of the choices
abbrev pub with_choices : Parts → List ℕ → Parts
with_choices parts body = record { version = parts.version; season = parts.season; register = parts.register; matrix = parts.matrix; choices = body; requests = parts.requests }

-- no line begins with `[`, and what follows begins a line
abbrev pub IsWhole : List ℕ → Type 0
IsWhole text = (rest : List ℕ) → body_len true (text ++ rest) ≡ length text + body_len true rest

-- The bytes are a front, the choices and the requests, and with any other whole body between them they are cut into
-- the same parts with that body. The section line of choices without a body may end without LF: there no other body
-- may follow.
pub record IsReplaceable (bytes : List ℕ) (parts : Parts) : Type 0 where
  pub front : List ℕ
  pub whole : bytes ≡ front ++ (parts.choices ++ parts.requests)
  pub same : (body : List ℕ) → IsWhole body → (parts.choices ≡ [] → body ≡ []) → bundle_of true (front ++ (body ++ parts.requests)) ≡ Ok (with_choices parts body)
