-- The coefficients of Stirling's series (DGAMLN's CF), DLMF 5.11.1, each the nearest f64. Written and confirmed by
-- tools/tables/gamma_ln.py. Definitions only.
use Rattle.std.specs.Prelude.{List, [], ◌∷◌, Float}
use Rattle.std.specs.Float.{binary64}
use Rattle.std.specs.Float.Ieee.{of_bits}

-- B(2k)/(2k(2k-1)) with k = i + 1
unfoldable pub coefficients : List Float
coefficients =
    of_bits binary64 0x3FB5555555555555 ∷  -- 0.08333333333333333
    of_bits binary64 0xBF66C16C16C16C17 ∷  -- -0.002777777777777778
    of_bits binary64 0x3F4A01A01A01A01A ∷  -- 0.0007936507936507937
    of_bits binary64 0xBF43813813813814 ∷  -- -0.0005952380952380953
    of_bits binary64 0x3F4B951E2B18FF23 ∷  -- 0.0008417508417508417
    of_bits binary64 0xBF5F6AB0D9993C7D ∷  -- -0.0019175269175269176
    of_bits binary64 0x3F7A41A41A41A41A ∷  -- 0.00641025641025641
    of_bits binary64 0xBF9E4286CB0F5398 ∷  -- -0.029550653594771242
    of_bits binary64 0x3FC6FE96381E0680 ∷  -- 0.17964437236883057
    of_bits binary64 0xBFF6476701181F3A ∷  -- -1.3924322169059011
    of_bits binary64 0x402ACE44322CE006 ∷  -- 13.402864044168393
    of_bits binary64 0xC0639B2525CCCC1B ∷  -- -156.84828462600203
    of_bits binary64 0x40A12234E81B4E82 ∷  -- 2193.1033333333335
    of_bits binary64 0xC0E1A198AE1C4AB8 ∷  -- -36108.77125372499
    of_bits binary64 0x41251A2089A6E11A ∷  -- 691472.268851313
    of_bits binary64 0xC16D1089B142D357 ∷  -- -15238221.539407415
    of_bits binary64 0x41B6D29A0F6433B8 ∷  -- 382900751.39141417
    of_bits binary64 0xC20445119D9E466F ∷  -- -10882266035.784391
    of_bits binary64 0x42543779BC9D4025 ∷  -- 347320283765.00226
    of_bits binary64 0xC2A6800B7BC07A8D ∷  -- -12369602142269.275
    of_bits binary64 0x42FBC8CD6F8F1F75 ∷  -- 488788064793079.3
    of_bits binary64 0xC352EFAEC50EEE53 ∷  -- -2.1320333960919372e+16
    []
