-- The four functions by the parts that the code goes by: the bits of x, the value without its sign, the reduced angle. Assumes nothing.
use mathlib.Core.Path.{◌≡◌, refl, sym, ap, ◌∙◌, subst}
use mathlib.Core.Bool.{Bool, true, false, not, cond}
use mathlib.Core.List.{[], ◌∷◌}
use Prim.Native.Nat.{ℕ, zero, suc, ◌+◌, ◌*◌, ◌/◌, ◌%◌, ◌^◌, ◌≤◌, ◌<◌}
use native.Mathlib.Omega.{arith}
use lib.Dec.{T, eqb, lit<}
use lib.ListN.{get_or}
use lib.Ieee.{Float, nan, inf, fin, binary64, of_bits, to_bits, fits, neg, ne}
use lib.Ieee.Compare.{differs_from_itself}
use lib.Ieee.Scale.{finite}
use Rattle.std.specs.Prelude.{Option, Some, None, is_some, is_none, unwrap_or}
use Rattle.laws.proofs.Value.{sign, bare}
use Rattle.laws.proofs.Bits.{inf_bits}
use Rattle.circular.specs.declared.reduce.Reduced.{Reduced}
use Rattle.circular.specs.declared.split.Split.{Split}
use Rattle.circular.specs.Split.{split_of}
use Rattle.circular.specs.Kernel.{sine_kernel, cosine_kernel, turned}
use Rattle.circular.specs.Reduce.{within_turns, quarters_of, reduce_of, halves_of, reduce_pi_of}
use Rattle.circular.specs.Sin.{sin_of}
use Rattle.circular.specs.Cos.{cos_of}
use Rattle.circular.specs.SinPi.{from_zero, sin_pi_of}
use Rattle.circular.specs.CosPi.{cos_pi_of}
use Rattle.circular.proofs.Size.{size-bare, size-finite, size-large, half-turn}

-- ---- the quarter turns are counted to 4
last-two : (n : ℕ) → n % 4 < 4
last-two n = omega arith

pub quarter-lt : (a : Float) → (reduce_of a).quarter < 4
unfolding reduce_of quarters_of
quarter-lt a = go (lib.Ieee.lt a (of_bits binary64 0x3FE9000000000000))
  where
    go : (t : Bool) → (cond t (record { hi = a; lo = of_bits binary64 0; quarter = 0 }) (quarters_of (within_turns a))).quarter < 4
    go true = lit< tt
    go false = last-two _

pub quarter-pi-lt : (a : Float) → (reduce_pi_of a).quarter < 4
unfolding reduce_pi_of halves_of
quarter-pi-lt a = last-two _

-- ---- the sine and the cosine of an angle, with its quarter turns and n more
abbrev pub at : (Float → Float) → Reduced → ℕ → Float
at minus r n = turned minus (r.quarter + n) (sine_kernel r.hi r.lo) (cosine_kernel r.hi r.lo)

-- what the four are for a finite argument, and for any other
pub sin-is : (x : Float) → T (finite x) → sin_of x ≡ at neg (reduce_of (bare x)) (cond (sign x) 2 0)
unfolding sin_of
sin-is nan h = absurd h
sin-is (inf s) h = absurd h
sin-is (fin s m e) h = refl

sin-none : (x : Float) → T (not (finite x)) → sin_of x ≡ nan
unfolding sin_of
sin-none nan h = refl
sin-none (inf s) h = refl
sin-none (fin s m e) h = absurd h

pub cos-is : (x : Float) → T (finite x) → cos_of x ≡ at neg (reduce_of (bare x)) (1)
unfolding cos_of
cos-is nan h = absurd h
cos-is (inf s) h = absurd h
cos-is (fin s m e) h = refl

cos-none : (x : Float) → T (not (finite x)) → cos_of x ≡ nan
unfolding cos_of
cos-none nan h = refl
cos-none (inf s) h = refl
cos-none (fin s m e) h = absurd h

pub sin_pi-is : (x : Float) → T (finite x) → sin_pi_of x ≡ at from_zero (reduce_pi_of (bare x)) (cond (sign x) 2 0)
unfolding sin_pi_of
sin_pi-is nan h = absurd h
sin_pi-is (inf s) h = absurd h
sin_pi-is (fin s m e) h = refl

sin_pi-none : (x : Float) → T (not (finite x)) → sin_pi_of x ≡ nan
unfolding sin_pi_of
sin_pi-none nan h = refl
sin_pi-none (inf s) h = refl
sin_pi-none (fin s m e) h = absurd h

pub cos_pi-is : (x : Float) → T (finite x) → cos_pi_of x ≡ at from_zero (reduce_pi_of (bare x)) (1)
unfolding cos_pi_of
cos_pi-is nan h = absurd h
cos_pi-is (inf s) h = absurd h
cos_pi-is (fin s m e) h = refl

cos_pi-none : (x : Float) → T (not (finite x)) → cos_pi_of x ≡ nan
unfolding cos_pi_of
cos_pi-none nan h = refl
cos_pi-none (inf s) h = refl
cos_pi-none (fin s m e) h = absurd h

-- ---- x taken apart, by its bits
split-none : (x : Float) → T (not (finite x)) → None ≡ split_of x
unfolding split_of
split-none nan h = refl
split-none (inf s) h = refl
split-none (fin s m e) h = absurd h

split-some : (x : Float) → T (finite x) → Some (record { size = bare x; turns = cond (sign x) 2 0 }) ≡ split_of x
unfolding split_of
split-some nan h = absurd h
split-some (inf s) h = absurd h
split-some (fin s m e) h = refl

-- what differs from itself is not a number
pub split-nan : (x : Float) → ne x x ≡ true → None ≡ split_of x
split-nan x h = split-none nan tt ∙ sym (ap split_of (differs_from_itself x (subst T (sym h) tt)))

module _ (x : Float) (b : ℕ) (F : T (fits binary64 x)) (B : b ≡ to_bits binary64 x) where
  pub split-large : inf_bits ≤ b % 2 ^ 63 → None ≡ split_of x
  split-large h = split-none x (size-large x F (subst (λ (n : ℕ). inf_bits ≤ n % 2 ^ 63) B h))

  pub split-at : b % 2 ^ 63 < inf_bits → (a : Float) → a ≡ of_bits binary64 (b % 2 ^ 63) → Some (record { size = a; turns = b / 2 ^ 63 * 2 }) ≡ split_of x
  split-at h a A =
      let f = size-finite x F (subst (λ (n : ℕ). n % 2 ^ 63 < inf_bits) B h) in
      ap (λ (y : Float). Some (record { size = y; turns = b / 2 ^ 63 * 2 })) (A ∙ ap (λ (n : ℕ). of_bits binary64 (n % 2 ^ 63)) B ∙ size-bare x F)
      ∙ ap (λ (n : ℕ). Some (record { size = bare x; turns = n })) (ap (λ (n : ℕ). n / 2 ^ 63 * 2) B ∙ half-turn x F f)
      ∙ split-some x f

-- ---- the four functions where x is not finite, and by the parts of a finite one
not-finite : (x : Float) → None ≡ split_of x → T (not (finite x))
unfolding split_of
not-finite nan e = tt
not-finite (inf s) e = tt
not-finite (fin s m e) e' = absurd (subst (λ (o : Option Split). T (is_none o)) e' tt)

pub sin-left : (x : Float) → None ≡ split_of x → sin_of x ≡ nan
sin-left x e = sin-none x (not-finite x e)

pub cos-left : (x : Float) → None ≡ split_of x → cos_of x ≡ nan
cos-left x e = cos-none x (not-finite x e)

pub sin_pi-left : (x : Float) → None ≡ split_of x → sin_pi_of x ≡ nan
sin_pi-left x e = sin_pi-none x (not-finite x e)

pub cos_pi-left : (x : Float) → None ≡ split_of x → cos_pi_of x ≡ nan
cos_pi-left x e = cos_pi-none x (not-finite x e)

record Apart (x : Float) (w : Split) : Type 0 where
  number : T (finite x)
  size : w.size ≡ bare x
  turns : w.turns ≡ cond (sign x) 2 0

apart : (x : Float) (w : Split) → Some w ≡ split_of x → Apart x w
unfolding split_of
apart nan w e = absurd (subst (λ (o : Option Split). T (is_some o)) e tt)
apart (inf s) w e = absurd (subst (λ (o : Option Split). T (is_some o)) e tt)
apart (fin s m e) w e' = record {
  number = tt;
  size = ap (λ (o : Option Split). (unwrap_or o w).size) e';
  turns = ap (λ (o : Option Split). (unwrap_or o w).turns) e';
}

-- a sign is worth two quarter turns at most
pub few-turns : (x : Float) (w : Split) → Some w ≡ split_of x → w.turns ≤ 2
few-turns x w e = go (sign x) w.turns (apart x w e).turns
  where
    go : (s : Bool) (n : ℕ) → n ≡ cond s 2 0 → n ≤ 2
    go true n h = omega arith
    go false n h = omega arith

module _ (x : Float) (w : Split) (e : Some w ≡ split_of x) (r : Reduced) where
  turned-at : (minus : Float → Float) (f : Float → Reduced) → r ≡ f w.size → (n : ℕ) → at minus r n ≡ at minus (f (bare x)) n
  turned-at minus f R n = ap (λ (y : Reduced). at minus y n) (R ∙ ap f (apart x w e).size)

  pub sin-at : r ≡ reduce_of w.size → at neg r w.turns ≡ sin_of x
  sin-at R = turned-at neg reduce_of R w.turns ∙ ap (λ (n : ℕ). at neg (reduce_of (bare x)) n) (apart x w e).turns ∙ sym (sin-is x (apart x w e).number)

  pub sin_pi-at : r ≡ reduce_pi_of w.size → at from_zero r w.turns ≡ sin_pi_of x
  sin_pi-at R = turned-at from_zero reduce_pi_of R w.turns ∙ ap (λ (n : ℕ). at from_zero (reduce_pi_of (bare x)) n) (apart x w e).turns ∙ sym (sin_pi-is x (apart x w e).number)

  pub cos-at : r ≡ reduce_of w.size → at neg r 1 ≡ cos_of x
  cos-at R = turned-at neg reduce_of R 1 ∙ sym (cos-is x (apart x w e).number)

  pub cos_pi-at : r ≡ reduce_pi_of w.size → at from_zero r 1 ≡ cos_pi_of x
  cos_pi-at R = turned-at from_zero reduce_pi_of R 1 ∙ sym (cos_pi-is x (apart x w e).number)

-- ---- the four sines in a row, taken by the last two bits of the quarter turns
pub turns : (q : ℕ) (s c : Float) → get_or (s ∷ c ∷ neg s ∷ neg c ∷ []) (q % 4) nan ≡ turned neg q s c
unfolding turned
turns q s c = go (q % 4) (last-two q) ∙ ap (λ (n : ℕ). by n (q % 4 % 2)) (half q) ∙ ap (λ (n : ℕ). by (q / 2 % 2) n) (parity q)
  where
    by : ℕ → ℕ → Float
    by h p = cond (eqb h 0) (cond (eqb p 0) s c) (neg (cond (eqb p 0) s c))

    half : (q : ℕ) → q % 4 / 2 ≡ q / 2 % 2
    half q = omega arith

    parity : (q : ℕ) → q % 4 % 2 ≡ q % 2
    parity q = omega arith

    more : (k : ℕ) → suc (suc (suc (suc k))) < 4 → ⊥
    more k h = omega arith

    go : (k : ℕ) → k < 4 → get_or (s ∷ c ∷ neg s ∷ neg c ∷ []) k nan ≡ by (k / 2) (k % 2)
    go zero h = refl
    go (suc zero) h = refl
    go (suc (suc zero)) h = refl
    go (suc (suc (suc zero))) h = refl
    go (suc (suc (suc (suc k)))) h = absurd (more k h)
