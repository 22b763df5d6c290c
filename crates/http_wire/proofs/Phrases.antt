-- The phrases of statuses.
use Rattle.std.proofs.Common.{◌≡◌, ℕ, zero, suc, ◌<◌, ◌≤◌, Bool, true, ◌&&◌, List, [], length, nat_le, Option, Some, None, Bor, option_map, unwrap_or, refl, ap, ◌∙◌}
use Rattle.std.proofs.lemmas.Bool.{leb-true}
use Rattle.std.proofs.lemmas.Bool.Decides.{Decides-below_and}
use Rattle.http.specs.StatusCode.{reason_phrase}
use Rattle.http_wire.specs.Statuses.{phrase}

abbrev is_short : ℕ → Bool
is_short n = nat_le (length (unwrap_or (reason_phrase n) [])) 31

abbrev short_below : ℕ → Bool
short_below zero = true
short_below (suc n) = is_short n && short_below n

-- no phrase is longer than 31 bytes
pub short_phrase : (n : ℕ) → n < 1000 → length (phrase n) ≤ 31
unfolding phrase
short_phrase n h =
    leb-true _ _ ((Decides-below_and is_short (λ k. is_short k ≡ true) short_below (λ k. (λ x. x, λ x. x)) refl (λ _. refl) 1000).0 refl n h)

-- what the crate `http` gives, or the empty text
pub phrase_or : (found : Option (Bor (List ℕ))) (other : Bor (List ℕ)) (n : ℕ) → option_map (λ s. s.now) found ≡ reason_phrase n → other.now ≡ [] → (unwrap_or found other).now ≡ phrase n
unfolding phrase
phrase_or None other n e z = z ∙ ap (λ (o : Option (List ℕ)). unwrap_or o []) e
phrase_or (Some s) other n e z = ap (λ (o : Option (List ℕ)). unwrap_or o []) e
