-- Upper-case hexadecimal, read and written. A line is the list of its bytes. Definitions only.
use Rattle.std.specs.Prelude.{Bool, true, cond, ◌&&◌, ◌||◌, List, [], ◌∷◌, ◌++◌, ℕ, zero, suc, ◌+◌, ◌-◌, ◌*◌, ◌/◌, ◌%◌, ltb, leb, take, drop}

-- 0 to 9 are the bytes 48 to 57, A to F the bytes 65 to 70
unfoldable pub is_digit : ℕ → Bool
is_digit c = (leb 48 c && leb c 57) || (leb 65 c && leb c 70)

unfoldable pub are_digits : List ℕ → Bool
are_digits [] = true
are_digits (c ∷ cs) = is_digit c && are_digits cs

-- what a digit stands for
unfoldable pub worth_of : ℕ → ℕ
worth_of c = cond (leb c 57) (c - 48) (c - 55)

-- the digits' number, the most significant first
unfoldable pub number_from : ℕ → List ℕ → ℕ
number_from n [] = n
number_from n (c ∷ cs) = number_from (n * 16 + worth_of c) cs

unfoldable pub number_of : List ℕ → ℕ
number_of cs = number_from 0 cs

-- the number at a place of a line
abbrev pub field_of : ℕ → ℕ → List ℕ → ℕ
field_of at width line = number_of (take width (drop at line))

-- the digit of a number below 16
unfoldable pub digit_of : ℕ → ℕ
digit_of d = cond (ltb d 10) (48 + d) (55 + d)

-- the last k digits of n, the most significant first
unfoldable pub spelled_of : ℕ → ℕ → List ℕ
spelled_of zero n = []
spelled_of (suc k) n = spelled_of k (n / 16) ++ (digit_of (n % 16) ∷ [])
