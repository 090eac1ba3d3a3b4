-- How it is computed, not what: the four reciprocals that the term k of Temme's sum takes, worked out together, since at the fraction 0
-- they are two.
-- The sum itself (specs/Sum.antt) divides where it stands. ZBKNU: RAK, 1/BK and STR behind the labels 60 and 90. Definitions only.
use Rattle.std.specs.Prelude.{ℕ, Bool, ◌&&◌, pos, Float}
use Rattle.std.specs.Float.{binary64}
use Rattle.std.specs.Float.Ieee.{of_int, eq}
use Rattle.laws.specs.Operators.{◌⊕◌, ◌⊖◌, ◌⊗◌, ◌⊘◌}
use Rattle.machine.specs.Small.{nothing, one}
use Rattle.temme.specs.declared.shares.Reciprocals.{Reciprocals}

abbrev pub term : ℕ → Float
term k = of_int binary64 (pos k)

unfoldable pub is_whole : Float → Float → Bool
is_whole fraction square = eq fraction nothing && eq square nothing

unfoldable pub share_of : ℕ → Float
share_of k = one ⊘ term k

unfoldable pub square_share_of : ℕ → Float
square_share_of k = one ⊘ (term k ⊗ term k)

-- at the fraction 0
unfoldable pub whole_shares_of : ℕ → Reciprocals
whole_shares_of k = record { of_k = share_of k; of_denominator = square_share_of k; of_lower = share_of k; of_upper = share_of k }

unfoldable pub shares_of : Float → Float → ℕ → Reciprocals
shares_of fraction square k =
    record {
      of_k = share_of k;
      of_denominator = one ⊘ (term k ⊗ term k ⊖ square);
      of_lower = one ⊘ (term k ⊖ fraction);
      of_upper = one ⊘ (term k ⊕ fraction);
    }
