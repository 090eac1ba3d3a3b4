-- Values worked out by an independent program, as theorems by computation. Assumes nothing.
use mathlib.Core.Path.{◌≡◌, refl}
use lib.Ieee.{binary64, of_bits, to_bits, add, sub, mul, rem, lt, neg}
use Rattle.circular.specs.Kernel.{sine_kernel, cosine_kernel, turned}
use Rattle.circular.specs.Reduce.{within_turns, quarters_of, reduce_of, leading, within_two, halves_of, reduce_pi_of}
use Rattle.circular.specs.Sin.{sin_of}
use Rattle.circular.specs.Cos.{cos_of}
use Rattle.circular.specs.SinPi.{from_zero, sin_pi_of}
use Rattle.circular.specs.CosPi.{cos_pi_of}

-- sin 1.0 = 0.8414709848078965
sin-at-1 : sin_of (of_bits binary64 0x3FF0000000000000) ≡ of_bits binary64 0x3FEAED548F090CEE
unfolding sin_of reduce_of quarters_of within_turns turned sine_kernel cosine_kernel of_bits to_bits add sub mul rem lt neg
sin-at-1 = refl

-- sin -2.0 = -0.9092974268256817
sin-at-2 : sin_of (of_bits binary64 0xC000000000000000) ≡ of_bits binary64 0xBFED18F6EAD1B446
unfolding sin_of reduce_of quarters_of within_turns turned sine_kernel cosine_kernel of_bits to_bits add sub mul rem lt neg
sin-at-2 = refl

-- sin 4.0 = -0.7568024953079282
sin-at-3 : sin_of (of_bits binary64 0x4010000000000000) ≡ of_bits binary64 0xBFE837B9DDDC1EAE
unfolding sin_of reduce_of quarters_of within_turns turned sine_kernel cosine_kernel of_bits to_bits add sub mul rem lt neg
sin-at-3 = refl

-- sin 100.0 = -0.5063656411097588
sin-at-4 : sin_of (of_bits binary64 0x4059000000000000) ≡ of_bits binary64 0xBFE03425B78C4DB8
unfolding sin_of reduce_of quarters_of within_turns turned sine_kernel cosine_kernel of_bits to_bits add sub mul rem lt neg
sin-at-4 = refl

-- sin 32768.5 = 0.993066457834922
sin-at-5 : sin_of (of_bits binary64 0x40E0001000000000) ≡ of_bits binary64 0x3FEFC7334EE4FA4A
unfolding sin_of reduce_of quarters_of within_turns turned sine_kernel cosine_kernel of_bits to_bits add sub mul rem lt neg
sin-at-5 = refl

-- sin 10000000000.0 = -0.48750602520615116
sin-at-6 : sin_of (of_bits binary64 0x4202A05F20000000) ≡ of_bits binary64 0xBFDF334C78B74178
unfolding sin_of reduce_of quarters_of within_turns turned sine_kernel cosine_kernel of_bits to_bits add sub mul rem lt neg
sin-at-6 = refl

-- cos 1.0 = 0.5403023058681398
cos-at-7 : cos_of (of_bits binary64 0x3FF0000000000000) ≡ of_bits binary64 0x3FE14A280FB5068C
unfolding cos_of reduce_of quarters_of within_turns turned sine_kernel cosine_kernel of_bits to_bits add sub mul rem lt neg
cos-at-7 = refl

-- cos -3.0 = -0.9899924966004454
cos-at-8 : cos_of (of_bits binary64 0xC008000000000000) ≡ of_bits binary64 0xBFEFAE04BE85E5D2
unfolding cos_of reduce_of quarters_of within_turns turned sine_kernel cosine_kernel of_bits to_bits add sub mul rem lt neg
cos-at-8 = refl

-- cos 100.0 = 0.8623188722876839
cos-at-9 : cos_of (of_bits binary64 0x4059000000000000) ≡ of_bits binary64 0x3FEB981DBF665FDF
unfolding cos_of reduce_of quarters_of within_turns turned sine_kernel cosine_kernel of_bits to_bits add sub mul rem lt neg
cos-at-9 = refl

-- cos 20000.25 = 0.6439339472190464
cos-at-10 : cos_of (of_bits binary64 0x40D3881000000000) ≡ of_bits binary64 0x3FE49B1B5D82E13C
unfolding cos_of reduce_of quarters_of within_turns turned sine_kernel cosine_kernel of_bits to_bits add sub mul rem lt neg
cos-at-10 = refl

-- sin_pi 0.25 = 0.7071067811865476
sin_pi-at-11 : sin_pi_of (of_bits binary64 0x3FD0000000000000) ≡ of_bits binary64 0x3FE6A09E667F3BCD
unfolding sin_pi_of reduce_pi_of halves_of within_two leading from_zero turned sine_kernel cosine_kernel of_bits to_bits add sub mul rem lt neg
sin_pi-at-11 = refl

-- sin_pi -1234.4 = -0.9510565162952419
sin_pi-at-12 : sin_pi_of (of_bits binary64 0xC09349999999999A) ≡ of_bits binary64 0xBFEE6F0E1344581B
unfolding sin_pi_of reduce_pi_of halves_of within_two leading from_zero turned sine_kernel cosine_kernel of_bits to_bits add sub mul rem lt neg
sin_pi-at-12 = refl

-- sin_pi 3000000.5 = 1.0
sin_pi-at-13 : sin_pi_of (of_bits binary64 0x4146E36040000000) ≡ of_bits binary64 0x3FF0000000000000
unfolding sin_pi_of reduce_pi_of halves_of within_two leading from_zero turned sine_kernel cosine_kernel of_bits to_bits add sub mul rem lt neg
sin_pi-at-13 = refl

-- cos_pi 0.1 = 0.9510565162951535
cos_pi-at-14 : cos_pi_of (of_bits binary64 0x3FB999999999999A) ≡ of_bits binary64 0x3FEE6F0E134454FF
unfolding cos_pi_of reduce_pi_of halves_of within_two leading from_zero turned sine_kernel cosine_kernel of_bits to_bits add sub mul rem lt neg
cos_pi-at-14 = refl

-- cos_pi -0.75 = -0.7071067811865476
cos_pi-at-15 : cos_pi_of (of_bits binary64 0xBFE8000000000000) ≡ of_bits binary64 0xBFE6A09E667F3BCD
unfolding cos_pi_of reduce_pi_of halves_of within_two leading from_zero turned sine_kernel cosine_kernel of_bits to_bits add sub mul rem lt neg
cos_pi-at-15 = refl

-- cos_pi 1048577.25 = -0.7071067811865476
cos_pi-at-16 : cos_pi_of (of_bits binary64 0x4130000140000000) ≡ of_bits binary64 0xBFE6A09E667F3BCD
unfolding cos_pi_of reduce_pi_of halves_of within_two leading from_zero turned sine_kernel cosine_kernel of_bits to_bits add sub mul rem lt neg
cos_pi-at-16 = refl
