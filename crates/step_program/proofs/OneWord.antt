-- A command line of one word.
use Rattle.std.proofs.Common.{◌≡◌, ℕ, List, [], ◌∷◌, Some, length, slice_get, arith}

-- It is that word alone.
pub one_word : (words : List (List ℕ)) (word : List ℕ) → slice_get words 0 ≡ Some word → length words ≡ 1 → words ≡ word ∷ []
one_word [] word here one = absurd (omega (arith, one))
one_word (first ∷ []) word here one = cc here
one_word (first ∷ second ∷ words) word here one = absurd (omega (arith, one))
