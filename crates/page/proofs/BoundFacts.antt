-- No total overflows: a line counts for at most 65,535 in any cell, so that of 2^32 - 1 lines no cell comes near 2^64. Assumes nothing.
use Rattle.frame.specs.declared.reading.Record.{Record}
use Rattle.std.proofs.Common.{Option, None, Some}
use mathlib.Core.Path.{◌≡◌, refl, sym, subst}
use mathlib.Core.Bool.{Bool, true, false, cond, ◌&&◌}
use mathlib.Core.List.{List, [], ◌∷◌}
use Prim.Native.Nat.{ℕ, zero, suc, ◌*◌, ◌≤◌, ◌<◌}
use native.Mathlib.Omega.{arith}
use lib.Dec.{eqb}
use lib.IntN.{ℤ, pos, negsuc, nat_abs}
use lib.ListN.{length}
use Rattle.splitting.specs.Count.{total_of}
use Rattle.frame.specs.Reading.{reading_of, FitsWord, RecordFits}
use Rattle.frame.proofs.ReadFacts.{taken}
use Rattle.page.specs.Layout.{cells, most_lines}
use Rattle.page.specs.Saying.{is_known, said_in, said_by}
use Rattle.page.specs.Parts.{as_number, as_longest, if_answered, rungs_in, backward_in, zeros_in, as_unreadable, end_at, part_at, cell_of}
use Rattle.page.proofs.PartFacts.{number-part, reserved-part, longest-part, end-part, at_cells}

-- ---- what is read fits its fields
unfoldable ReadFits : Option Record → Type 0
ReadFits (Some r) = RecordFits r
ReadFits None = Unit {0}

reading-fits : (line : List ℕ) (s : Option Record) → reading_of line ≡ s → ReadFits s
unfolding ReadFits
reading-fits line (Some r) e = (taken line r e).fits
reading-fits line None e = tt

kept-fits : (s : Option Record) → ReadFits s → ReadFits (said_in s)
unfolding ReadFits said_in
kept-fits (Some r) f = go (is_known r)
  where
    go : (b : Bool) → ReadFits (cond b (Some r) None)
    go true = f
    go false = tt
kept-fits None f = tt

said_fits : (line : List ℕ) → ReadFits (said_by line)
unfolding said_by
said_fits line = kept-fits (reading_of line) (reading-fits line (reading_of line) refl)

-- ---- what a line counts for
one-small : (b : Bool) → cond b 1 0 ≤ 65535
one-small true = omega arith
one-small false = omega arith

if-small : (b : Bool) (n : ℕ) → n ≤ 65535 → cond b n 0 ≤ 65535
if-small true n h = h
if-small false n h = omega arith

zeros-small : (z : ℤ) → FitsWord z → nat_abs z ≤ 65535
unfolding FitsWord
zeros-small (pos n) h = omega arith
zeros-small (negsuc n) h = omega arith

number_small : (i : ℕ) (s : Option Record) → as_number i s ≤ 65535
unfolding as_number
number_small i (Some r) = one-small (eqb r.number i)
number_small i None = omega arith

longest-small : (l : ℕ) (s : Option Record) → as_longest l s ≤ 65535
unfolding as_longest
longest-small l (Some r) = one-small (eqb r.number 0 && eqb r.longest_sum l)
longest-small l None = omega arith

end-small : (j : ℕ) (s : Option Record) → ReadFits s → end_at j s ≤ 65535
unfolding ReadFits end_at rungs_in backward_in zeros_in if_answered as_unreadable
end-small zero (Some r) f = if-small (eqb r.number 0) r.rungs (let h = f.rungs in omega arith)
end-small (suc zero) (Some r) f = if-small (eqb r.number 0) r.backward (let h = f.backward in omega arith)
end-small (suc (suc zero)) (Some r) f = if-small (eqb r.number 0) (nat_abs r.zeros) (zeros-small r.zeros f.zeros)
end-small (suc (suc (suc zero))) (Some r) f = omega arith
end-small (suc (suc (suc (suc zero)))) (Some r) f = omega arith
end-small (suc (suc (suc (suc (suc j))))) (Some r) f = omega arith
end-small zero None f = omega arith
end-small (suc zero) None f = omega arith
end-small (suc (suc zero)) None f = omega arith
end-small (suc (suc (suc zero))) None f = omega arith
end-small (suc (suc (suc (suc zero)))) None f = omega arith
end-small (suc (suc (suc (suc (suc j))))) None f = omega arith

part_small : (s : Option Record) → ReadFits s → (i : ℕ) → i < cells → part_at i s ≤ 65535
part_small s f =
    at_cells (λ i. part_at i s ≤ 65535)
    (λ i h. subst (λ (n : ℕ). n ≤ 65535) (sym (number-part s i h)) (number_small i s))
    (subst (λ (n : ℕ). n ≤ 65535) (sym (reserved-part s)) (omega arith))
    (λ l h. subst (λ (n : ℕ). n ≤ 65535) (sym (longest-part s l h)) (longest-small l s))
    (λ j h. subst (λ (n : ℕ). n ≤ 65535) (sym (end-part s j)) (end-small j s f))

-- ---- and so many lines
total-small : (f : List ℕ → ℕ) → ((l : List ℕ) → f l ≤ 65535) → (lines : List (List ℕ)) → total_of f lines ≤ 65535 * length lines
unfolding total_of
total-small f h [] = omega arith
total-small f h (l ∷ ls) = let e = total-small f h ls in let k = h l in omega arith

pub cell-small : (lines : List (List ℕ)) (i : ℕ) → i < cells → cell_of i lines ≤ 65535 * length lines
unfolding cell_of
cell-small lines i h = total-small (λ l. part_at i (said_by l)) (λ l. part_small (said_by l) (said_fits l) i h) lines

pub no_overflow : (lines : List (List ℕ)) → length lines ≤ most_lines → (i : ℕ) → i < cells → cell_of i lines ≤ 281470681677825
no_overflow lines h i k = let e = cell-small lines i k in omega arith
