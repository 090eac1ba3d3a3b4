-- No sum of an answered call of K ends for want of steps. Assumes nothing.
use mathlib.Core.Path.{◌≡◌, ◌∙◌}
use mathlib.Core.Bool.{Bool, true, false}
use Prim.Native.Nat.{ℕ, ◌/◌}
use lib.Dec.{T}
use lib.Ieee.{Float, binary64, fits}
use Rattle.complex.specs.Functions.{complex_ln_of}
use Rattle.temme.specs.Begun.{total_of}
use Rattle.right_half_plane.specs.ByMiller.{other_seeds}
use Rattle.right_half_plane.specs.Seeds.{is_near, seed_of}
use Rattle.right_half_plane.proofs.SumsEnd.{NearEnds, near-ends, far_none}
use Rattle.bessel.specs.declared.arguments.Arguments.{Arguments}
use Rattle.bessel.specs.Arguments.{arguments_of}
use Rattle.bessel.specs.Outcome.{Outcome}
use Rattle.bessel.specs.K.{ground_by, k_outcome}
use Rattle.bessel.proofs.CheckFacts.{k-passed}
use Rattle.bessel.proofs.ArgumentFacts.{normalised-fits, order-limits}
use Rattle.bessel.proofs.KernelOutcome.{answered-whole, answered-counts}
use Rattle.call.specs.Answer.{number_in, longest_in}

-- of a call's ground: in Temme's branch the seeds are read from this sum, the longest sum counts its terms, and what is begun ends by its own test: the sum by the term 18, the
-- difference series where the fraction is at most 0.1 in magnitude, and the series of the one log-gamma, of 1 plus the fraction, which is above zero
pub record TemmeSums (scaled : Bool) (a : Arguments) (length : ℕ) (o : Outcome) : Type 0 where
  pub near : NearEnds (ground_by a length) scaled
  pub longest-sum :
      let g = ground_by a length in
      longest_in o.answer ≡ (total_of g.z g.modulus (complex_ln_of g.two_over_z) g.fraction g.square).terms

-- any other branch begins no sum, and asks for no log-gamma
pub record NoSums (scaled : Bool) (a : Arguments) (length : ℕ) (o : Outcome) : Type 0 where
  pub seeds : seed_of (ground_by a length) scaled ≡ other_seeds (ground_by a length) scaled
  pub longest-sum : longest_in o.answer ≡ 0

pub record Sums (scaled : Bool) (a : Arguments) (length : ℕ) (o : Outcome) : Type 0 where
  pub temme : is_near (ground_by a length) ≡ true → TemmeSums scaled a length o
  pub other : is_near (ground_by a length) ≡ false → NoSums scaled a length o

module _ (scaled : Bool) (v re im : Float) (length : ℕ) (F : T (fits binary64 v)) where
  order-fits : T (fits binary64 (arguments_of v re im).order)
  unfolding arguments_of
  order-fits = normalised-fits v F

  pub answered-sums-end : number_in (k_outcome scaled v re im length).answer ≡ 0 → Sums scaled (arguments_of v re im) length (k_outcome scaled v re im length)
  unfolding ground_by
  answered-sums-end h =
      let a = arguments_of v re im in
      let g = ground_by a length in
      let c = answered-counts scaled v re im length h in
      let o = order-limits v re im length (k-passed a length (answered-whole scaled v re im length h).passed) in
      record {
        temme = λ e.
            let n = near-ends scaled a.order a.z a.modulus (length / 2) order-fits o.0 e in
            record { near = n; longest-sum = c.terms ∙ n.terms };
        other = λ e. let n = far_none g scaled e in record { seeds = n.0; longest-sum = c.terms ∙ n.1 };
      }
