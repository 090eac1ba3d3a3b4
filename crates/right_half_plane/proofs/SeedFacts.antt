-- What the seed stage gives: one finished value only where r = 0 and n = 1, at most 256 backward steps, at most 18 terms of Temme's sum, and of the refusals 6 alone. Assumes nothing.
use mathlib.Core.Path.{◌≡◌, refl, sym, subst}
use mathlib.Core.Bool.{Bool, true, false, not, ◌&&◌, cond}
use Prim.Native.Nat.{◌≤◌, zero-le}
use Rattle.std.specs.Prelude.{Result, Ok, Err}
use lib.Dec.{T}
use lib.Ieee.{le}
use Rattle.machine.specs.Small.{two}
use Rattle.complex.specs.declared.number.Complex.{Complex}
use Rattle.complex.specs.Functions.{argument_of, complex_ln_of}
use Rattle.roots.specs.Sqrt.{sqrt_of}
use Rattle.refusal.specs.declared.refusal.Refusal.{Refusal}
use Rattle.refusal.specs.declared.refusal.Refusal.TheVariants as refusals
use Rattle.recurrence.specs.State.{scale_of}
use Rattle.recurrence.specs.declared.state.OverflowState.TheVariants.{None}
use Rattle.temme.specs.declared.seeds.Temme.{Temme}
use Rattle.temme.specs.Seeds.{seeds_of}
use Rattle.temme.proofs.TemmeBound.{seeds-terms}
use Rattle.miller.specs.declared.seeds.Miller.{Miller}
use Rattle.miller.specs.Seeds as miller
use Rattle.miller.proofs.Outcome.{Settled, seeds-settled}
use Rattle.right_half_plane.specs.declared.ground.Ground.{Ground}
use Rattle.right_half_plane.specs.declared.seeds.Seeds.{Seeds}
use Rattle.right_half_plane.specs.declared.seeds.Seeds.TheVariants.{Finished, Pair}
use Rattle.right_half_plane.specs.declared.seeds.Seeded.{Seeded}
use Rattle.right_half_plane.specs.Ground.{is_alone}
use Rattle.right_half_plane.specs.ByTemme.{growth_state, growth_of, grown_by, temme_pair, temme_seeds}
use Rattle.right_half_plane.specs.ByMiller.{is_half, order_of, point_with, is_far, coefficient_of, half_seeds, miller_seeds, other_seeds}
use Rattle.right_half_plane.specs.Seeds.{is_near, seed_of, terms_of}

abbrev pub Kind : Ground → Seeds → Type 0
Kind g (Finished value) = is_alone g ≡ true
Kind g (Pair first second) = Unit

pub record Seeding (g : Ground) (s : Seeded) : Type 0 where
  pub kind : Kind g s.seeds
  pub backward : s.backward ≤ 256

abbrev pub Stages : Ground → Result Seeded Refusal → Type 0
Stages g (Ok s) = Seeding g s
Stages g (Err refusal) = refusal ≡ refusals.Start

temme-seeding : (g : Ground) (scaled : Bool) → Seeding g (temme_seeds g scaled)
unfolding temme_seeds temme_pair
temme-seeding g scaled = go (is_alone g) refl
  where
    t : Temme
    t = seeds_of g.z g.modulus (complex_ln_of g.two_over_z) g.fraction g.square

    go : (b : Bool) → is_alone g ≡ b
        → Seeding g (cond b (record { seeds = Finished (grown_by scaled (growth_of scaled g.z) t.first); state = None; underflow = false; terms = t.terms; backward = 0 })
        (record { seeds = temme_pair g scaled (growth_of scaled g.z) (scale_of (growth_state g.order t.shinc)) t; state = growth_state g.order t.shinc; underflow = false; terms = t.terms; backward = 0 }))
    go true e = record { kind = e; backward = zero-le }
    go false e = record { kind = tt; backward = zero-le }

miller-seeding : (g : Ground) (underflow : Bool) (m : Result Miller Refusal) → Settled m → Stages g (miller_seeds underflow m)
unfolding miller_seeds
miller-seeding g underflow (Ok m) h = record { kind = tt; backward = h }
miller-seeding g underflow (Err refusal) h = h

other-seeding : (g : Ground) (scaled : Bool) → Stages g (other_seeds g scaled)
unfolding other_seeds half_seeds
other-seeding g scaled = go (is_half g.fraction)
  where
    underflow : Bool
    underflow = is_far scaled g.z

    value : Complex
    value = coefficient_of scaled underflow g.z (sqrt_of g.modulus) (argument_of g.z)

    m : Result Miller Refusal
    m = miller.seeds_of (point_with g.z g.modulus (sqrt_of g.modulus) (argument_of g.z)) (order_of g.fraction g.square) value (is_alone g)

    go : (b : Bool) → Stages g (cond b (Ok (half_seeds underflow value)) (miller_seeds underflow m))
    go true = record { kind = tt; backward = zero-le }
    go false = miller-seeding g underflow m (seeds-settled _ _ _ _)

pub seeding : (g : Ground) (scaled : Bool) → Stages g (seed_of g scaled)
unfolding seed_of
seeding g scaled = go (is_near g)
  where
    go : (b : Bool) → Stages g (cond b (Ok (temme_seeds g scaled)) (other_seeds g scaled))
    go true = temme-seeding g scaled
    go false = other-seeding g scaled

-- ---- Temme's sum, when it is begun, ends by its own test by the term 18
miller-terms : (u : Bool) (m : Result Miller Refusal) → terms_of (miller_seeds u m) ≤ 18
unfolding miller_seeds terms_of
miller-terms u (Ok m) = zero-le
miller-terms u (Err refusal) = zero-le

other-terms : (g : Ground) (scaled : Bool) → terms_of (other_seeds g scaled) ≤ 18
unfolding other_seeds half_seeds terms_of
other-terms g scaled = go (is_half g.fraction)
  where
    underflow : Bool
    underflow = is_far scaled g.z

    value : Complex
    value = coefficient_of scaled underflow g.z (sqrt_of g.modulus) (argument_of g.z)

    m : Result Miller Refusal
    m = miller.seeds_of (point_with g.z g.modulus (sqrt_of g.modulus) (argument_of g.z)) (order_of g.fraction g.square) value (is_alone g)

    go : (b : Bool) → terms_of (cond b (Ok (half_seeds underflow value)) (miller_seeds underflow m)) ≤ 18
    go true = zero-le
    go false = miller-terms underflow m

pub few-terms : (g : Ground) (scaled : Bool) → terms_of (seed_of g scaled) ≤ 18
unfolding seed_of is_near temme_seeds terms_of
few-terms g scaled = go (is_half g.fraction) (le g.modulus two) refl
  where
    t : Temme
    t = seeds_of g.z g.modulus (complex_ln_of g.two_over_z) g.fraction g.square

    alone : (b : Bool) → t.terms ≤ 18
        → (cond {A = Seeded} b (record { seeds = Finished (grown_by scaled (growth_of scaled g.z) t.first); state = None; underflow = false; terms = t.terms; backward = 0 })
        (record { seeds = temme_pair g scaled (growth_of scaled g.z) (scale_of (growth_state g.order t.shinc)) t; state = growth_state g.order t.shinc; underflow = false; terms = t.terms; backward = 0 })).terms
        ≤ 18
    alone true h = h
    alone false h = h

    go : (a b : Bool) → le g.modulus two ≡ b → terms_of (cond (not a && b) (Ok (temme_seeds g scaled)) (other_seeds g scaled)) ≤ 18
    go true b e = other-terms g scaled
    go false false e = other-terms g scaled
    go false true e = alone (is_alone g) (seeds-terms g.z g.modulus g.fraction g.square (subst T (sym e) tt) (complex_ln_of g.two_over_z))
