-- What a K call begins in Temme's branch ends by its own test, and no other branch begins a sum. Assumes nothing.
use mathlib.Core.Path.{◌≡◌, refl, sym, subst}
use mathlib.Core.Bool.{Bool, true, false, not, cond}
use Prim.Native.Nat.{ℕ}
use Rattle.std.specs.Prelude.{Result, Ok, Err}
use lib.Dec.{T}
use lib.Ieee.{Float, binary64, fits, neg, le}
use lib.Ieee.Fits.{and_r}
use Rattle.laws.specs.Operators.{◌⊖◌}
use Rattle.laws.proofs.Value.{value-sign}
use Rattle.laws.proofs.Relative.{nonnegative, nonnegative-finite, nonnegative-value}
use lib.Ieee.Positive.{num, den}
use Rattle.machine.specs.Small.{half, two}
use Rattle.rounding.specs.Round.{round_of}
use Rattle.rounding.proofs.Rest.{rest-between}
use Rattle.complex.specs.declared.number.Complex.{Complex}
use Rattle.complex.specs.Functions.{argument_of, complex_ln_of}
use Rattle.roots.specs.Sqrt.{sqrt_of}
use Rattle.temme.specs.Begun.{total_of, MadeOf, EndByTests}
use Rattle.temme.proofs.BegunEnds.{made_of, begun-end}
use Rattle.refusal.specs.declared.refusal.Refusal.{Refusal}
use Rattle.miller.specs.declared.seeds.Miller.{Miller}
use Rattle.miller.specs.Seeds as miller
use Rattle.right_half_plane.specs.declared.ground.Ground.{Ground}
use Rattle.right_half_plane.specs.declared.seeds.Seeded.{Seeded}
use Rattle.right_half_plane.specs.Ground.{ground_of, is_alone}
use Rattle.right_half_plane.specs.ByTemme.{temme_seeds}
use Rattle.right_half_plane.specs.ByMiller.{is_half, order_of, point_with, is_far, coefficient_of, half_seeds, miller_seeds, other_seeds}
use Rattle.right_half_plane.specs.Seeds.{is_near, seed_of, terms_of}

-- the fraction of an order with no minus sign lies between -1/2 and 1/2
pub fraction-between : (order : Float) → T (fits binary64 order) → T (nonnegative order) → T (le (neg half) (order ⊖ round_of order)) × T (le (order ⊖ round_of order) half)
fraction-between order F p = rest-between order F (nonnegative-finite order p) (value-sign order false (num order) (den order) (nonnegative-value order p))

-- Temme's branch: the seeds are Temme's, read from the sum that ends
pub record NearEnds (g : Ground) (scaled : Bool) : Type 0 where
  pub seeds : seed_of g scaled ≡ Ok (temme_seeds g scaled)
  pub terms : terms_of (seed_of g scaled) ≡ (total_of g.z g.modulus (complex_ln_of g.two_over_z) g.fraction g.square).terms
  pub made : MadeOf g.z g.modulus (complex_ln_of g.two_over_z) g.fraction g.square
  pub ends : EndByTests g.z g.modulus (complex_ln_of g.two_over_z) g.fraction g.square

near-seeds : (g : Ground) (scaled : Bool) → is_near g ≡ true → seed_of g scaled ≡ Ok (temme_seeds g scaled)
unfolding seed_of
near-seeds g scaled e = rw e

temme-terms : (g : Ground) (scaled : Bool) → (temme_seeds g scaled).terms ≡ (total_of g.z g.modulus (complex_ln_of g.two_over_z) g.fraction g.square).terms
unfolding temme_seeds
temme-terms g scaled = either (is_alone g) _ _ (made_of g.z g.modulus (complex_ln_of g.two_over_z) g.fraction g.square).terms (made_of g.z g.modulus (complex_ln_of g.two_over_z) g.fraction g.square).terms
  where
    either : {n : ℕ} (b : Bool) (s t : Seeded) → s.terms ≡ n → t.terms ≡ n → (cond b s t).terms ≡ n
    either true s t p q = p
    either false s t p q = q

small-modulus : (g : Ground) → is_near g ≡ true → T (le g.modulus two)
unfolding is_near
small-modulus g e = and_r (not (is_half g.fraction)) (le g.modulus two) (subst T (sym e) tt)

pub near-ends : (scaled : Bool) (order : Float) (z : Complex) (modulus : Float) (n : ℕ) → T (fits binary64 order) → T (nonnegative order)
    → is_near (ground_of order z modulus n) ≡ true → NearEnds (ground_of order z modulus n) scaled
unfolding ground_of
near-ends scaled order z modulus n F p e =
    let g = ground_of order z modulus n in
    let f = fraction-between order F p in
    record {
      seeds = near-seeds g scaled e;
      terms = subst (λ (s : Result Seeded Refusal). terms_of s ≡ (total_of g.z g.modulus (complex_ln_of g.two_over_z) g.fraction g.square).terms) (sym (near-seeds g scaled e)) (unfold terms_of in temme-terms g scaled);
      made = made_of g.z g.modulus (complex_ln_of g.two_over_z) g.fraction g.square;
      ends = begun-end g.z g.modulus (complex_ln_of g.two_over_z) g.fraction (small-modulus g e) f.0 f.1;
    }

-- ---- any other branch: no term, and no log-gamma
miller-none : (u : Bool) (m : Result Miller Refusal) → terms_of (miller_seeds u m) ≡ 0
unfolding miller_seeds terms_of
miller-none u (Ok m) = refl
miller-none u (Err refusal) = refl

other_none : (g : Ground) (scaled : Bool) → terms_of (other_seeds g scaled) ≡ 0
unfolding other_seeds half_seeds terms_of
other_none g scaled = go (is_half g.fraction)
  where
    underflow : Bool
    underflow = is_far scaled g.z

    value : Complex
    value = coefficient_of scaled underflow g.z (sqrt_of g.modulus) (argument_of g.z)

    m : Result Miller Refusal
    m = miller.seeds_of (point_with g.z g.modulus (sqrt_of g.modulus) (argument_of g.z)) (order_of g.fraction g.square) value (is_alone g)

    go : (b : Bool) → terms_of (cond b (Ok (half_seeds underflow value)) (miller_seeds underflow m)) ≡ 0
    go true = refl
    go false = miller-none underflow m

pub far_none : (g : Ground) (scaled : Bool) → is_near g ≡ false → (seed_of g scaled ≡ other_seeds g scaled) × (terms_of (seed_of g scaled) ≡ 0)
unfolding seed_of
far_none g scaled e = (rw e, rw e (other_none g scaled))
