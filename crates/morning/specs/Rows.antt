-- The page as text (docs/SCOPE.md, The page): a part a line, a word and its number in decimal, with no zero in front. Definitions only.
use Rattle.std.specs.Prelude.{cond, List, [], ◌∷◌, ◌++◌, ℕ, zero, suc, ◌+◌, get_or}
use Rattle.splitting.specs.Lines.{newline}
use Rattle.wording.specs.Decimal.{decimal_of}
use Rattle.refusal.specs.Number.{is_listed}
use Rattle.page.specs.Layout.{numbers, sums, longest_at, rungs_at, backward_at, zeros_at, unreadable_at}

-- ---- the words, each with the blank behind it: answered, refused, longest, rungs, backward, zeros, unreadable
abbrev pub answered_word : List ℕ
answered_word = 97 ∷ 110 ∷ 115 ∷ 119 ∷ 101 ∷ 114 ∷ 101 ∷ 100 ∷ 32 ∷ []

abbrev pub refused_word : List ℕ
refused_word = 114 ∷ 101 ∷ 102 ∷ 117 ∷ 115 ∷ 101 ∷ 100 ∷ 32 ∷ []

abbrev pub longest_word : List ℕ
longest_word = 108 ∷ 111 ∷ 110 ∷ 103 ∷ 101 ∷ 115 ∷ 116 ∷ 32 ∷ []

abbrev pub rungs_word : List ℕ
rungs_word = 114 ∷ 117 ∷ 110 ∷ 103 ∷ 115 ∷ 32 ∷ []

abbrev pub backward_word : List ℕ
backward_word = 98 ∷ 97 ∷ 99 ∷ 107 ∷ 119 ∷ 97 ∷ 114 ∷ 100 ∷ 32 ∷ []

abbrev pub zeros_word : List ℕ
zeros_word = 122 ∷ 101 ∷ 114 ∷ 111 ∷ 115 ∷ 32 ∷ []

abbrev pub unreadable_word : List ℕ
unreadable_word = 117 ∷ 110 ∷ 114 ∷ 101 ∷ 97 ∷ 100 ∷ 97 ∷ 98 ∷ 108 ∷ 101 ∷ 32 ∷ []

-- ---- a line: a word and a number; a word, what it counts, and how many
unfoldable pub row_of : List ℕ → ℕ → List ℕ
row_of word n = word ++ (decimal_of n ++ (newline ∷ []))

unfoldable pub pair_of : List ℕ → ℕ → ℕ → List ℕ
pair_of word k n = word ++ (decimal_of k ++ row_of (32 ∷ []) n)

-- ---- the refused lines, of each number of the list below k; the answered ones, by each longest sum below l
unfoldable pub number_row : ℕ → List ℕ → List ℕ
number_row k page = cond (is_listed k) (pair_of refused_word k (get_or page k 0)) []

unfoldable pub refused_rows : ℕ → List ℕ → List ℕ
refused_rows zero page = []
refused_rows (suc k) page = refused_rows k page ++ number_row k page

unfoldable pub longest_rows : ℕ → List ℕ → List ℕ
longest_rows zero page = []
longest_rows (suc l) page = longest_rows l page ++ pair_of longest_word l (get_or page (longest_at + l) 0)

-- ---- the totals, and last the unreadable lines
unfoldable pub last_rows : List ℕ → List ℕ
last_rows page =
    row_of rungs_word (get_or page rungs_at 0)
    ++ (row_of backward_word (get_or page backward_at 0)
    ++ (row_of zeros_word (get_or page zeros_at 0)
    ++ row_of unreadable_word (get_or page unreadable_at 0)))

unfoldable pub page_text : List ℕ → List ℕ
page_text page = row_of answered_word (get_or page 0 0) ++ (refused_rows numbers page ++ (longest_rows sums page ++ last_rows page))

-- room for any page
abbrev pub most_text : ℕ
most_text = 4096
