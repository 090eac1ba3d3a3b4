-- What is told of a refused request: `request K: refusal N` and a newline, both in decimal. Definitions only.
use Rattle.std.specs.Prelude.{◌≡◌, List, [], ◌∷◌, ◌++◌, ℕ}
use Rattle.wording.specs.Decimal.{Decimal}
use Rattle.splitting.specs.Lines.{newline}

-- `request `
abbrev pub request_word : List ℕ
request_word = 114 ∷ 101 ∷ 113 ∷ 117 ∷ 101 ∷ 115 ∷ 116 ∷ 32 ∷ []

-- `: refusal `
abbrev pub refusal_word : List ℕ
refusal_word = 58 ∷ 32 ∷ 114 ∷ 101 ∷ 102 ∷ 117 ∷ 115 ∷ 97 ∷ 108 ∷ 32 ∷ []

pub record Told (k number : ℕ) (text : List ℕ) : Type 0 where
  pub which : List ℕ
  pub why : List ℕ
  pub counted : Decimal k which
  pub numbered : Decimal number why
  pub spelled : text ≡ (((request_word ++ which) ++ refusal_word) ++ why) ++ (newline ∷ [])
