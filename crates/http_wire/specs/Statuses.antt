-- The statuses of replies, and their phrases.
use Rattle.std.specs.Prelude.{ℕ, List, [], ◌∷◌, codes, unwrap_or}
use Rattle.http.specs.StatusCode.{reason_phrase}
use Rattle.http_wire.specs.declared.faults.Fault.{Fault}
use Rattle.http_wire.specs.declared.faults.Fault.TheVariants.{Keeper, Memory}

-- the phrase of a status, as the crate `http` gives it; nothing where it has none
unfoldable pub phrase : ℕ → List ℕ
phrase status = unwrap_or (reason_phrase status) []

-- The statuses that the office answers with, and their phrases. RFC 9110 names 413 Content Too Large; the office writes the older phrase.
abbrev pub phrases : List (ℕ × List ℕ)
phrases =
    (200, codes "OK") ∷ (400, codes "Bad Request") ∷ (403, codes "Forbidden") ∷ (404, codes "Not Found") ∷ (405, codes "Method Not Allowed")
    ∷ (409, codes "Conflict") ∷ (411, codes "Length Required") ∷ (413, codes "Payload Too Large") ∷ (431, codes "Request Header Fields Too Large")
    ∷ (501, codes "Not Implemented") ∷ (503, codes "Service Unavailable") ∷ (507, codes "Insufficient Storage") ∷ []

-- the status of a fault: the keeper failed, or there was no memory
abbrev pub fault_status : Fault → ℕ
fault_status Keeper = 503
fault_status Memory = 507
