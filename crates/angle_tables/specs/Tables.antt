-- atan(j / 64) for j = 0 .. 64: the nearest f64, and the f64 nearest to what that leaves. Written by tools/tables/angle.py.
use Rattle.std.specs.Prelude.{List, [], ◌∷◌, ℕ, get_or, Float}
use Rattle.std.specs.Float.{nan, binary64}
use Rattle.std.specs.Float.Ieee.{of_bits, neg}
use Rattle.machine.specs.declared.pair.Pair.{Pair}

-- the nearest f64
unfoldable pub atan_high : List Float
atan_high =
    of_bits binary64 0x0000000000000000 ∷
    of_bits binary64 0x3F8FFF555BBB729B ∷
    of_bits binary64 0x3F9FFD55BBA97625 ∷
    of_bits binary64 0x3FA7FB818430DA2A ∷
    of_bits binary64 0x3FAFF55BB72CFDEA ∷
    of_bits binary64 0x3FB3F59F0E7C559D ∷
    of_bits binary64 0x3FB7EE182602F10F ∷
    of_bits binary64 0x3FBBE39EBE6F07C3 ∷
    of_bits binary64 0x3FBFD5BA9AAC2F6E ∷
    of_bits binary64 0x3FC1E1FAFB043727 ∷
    of_bits binary64 0x3FC3D6EEE8C6626C ∷
    of_bits binary64 0x3FC5C9811E3EC26A ∷
    of_bits binary64 0x3FC7B97B4BCE5B02 ∷
    of_bits binary64 0x3FC9A6A8E96C8626 ∷
    of_bits binary64 0x3FCB90D7529260A2 ∷
    of_bits binary64 0x3FCD77D5DF205736 ∷
    of_bits binary64 0x3FCF5B75F92C80DD ∷
    of_bits binary64 0x3FD09DC597D86362 ∷
    of_bits binary64 0x3FD18BF5A30BF178 ∷
    of_bits binary64 0x3FD278372057EF46 ∷
    of_bits binary64 0x3FD362773707EBCC ∷
    of_bits binary64 0x3FD44AA436C2AF0A ∷
    of_bits binary64 0x3FD530AD9951CD4A ∷
    of_bits binary64 0x3FD614840309CFE2 ∷
    of_bits binary64 0x3FD6F61941E4DEF1 ∷
    of_bits binary64 0x3FD7D5604B63B3F7 ∷
    of_bits binary64 0x3FD8B24D394A1B25 ∷
    of_bits binary64 0x3FD98CD5454D6B18 ∷
    of_bits binary64 0x3FDA64EEC3CC23FD ∷
    of_bits binary64 0x3FDB3A911DA65C6C ∷
    of_bits binary64 0x3FDC0DB4C94EC9F0 ∷
    of_bits binary64 0x3FDCDE53432C1351 ∷
    of_bits binary64 0x3FDDAC670561BB4F ∷
    of_bits binary64 0x3FDE77EB7F175A34 ∷
    of_bits binary64 0x3FDF40DD0B541418 ∷
    of_bits binary64 0x3FE0039C73C1A40C ∷
    of_bits binary64 0x3FE0657E94DB30D0 ∷
    of_bits binary64 0x3FE0C6145B5B43DA ∷
    of_bits binary64 0x3FE1255D9BFBD2A9 ∷
    of_bits binary64 0x3FE1835A88BE7C13 ∷
    of_bits binary64 0x3FE1E00BABDEFEB4 ∷
    of_bits binary64 0x3FE23B71E2CC9E6A ∷
    of_bits binary64 0x3FE2958E59308E31 ∷
    of_bits binary64 0x3FE2EE628406CBCA ∷
    of_bits binary64 0x3FE345F01CCE37BB ∷
    of_bits binary64 0x3FE39C391CD4171A ∷
    of_bits binary64 0x3FE3F13FB89E96F4 ∷
    of_bits binary64 0x3FE445065B795B56 ∷
    of_bits binary64 0x3FE4978FA3269EE1 ∷
    of_bits binary64 0x3FE4E8DE5BB6EC04 ∷
    of_bits binary64 0x3FE538F57B89061F ∷
    of_bits binary64 0x3FE587D81F732FBB ∷
    of_bits binary64 0x3FE5D58987169B18 ∷
    of_bits binary64 0x3FE6220D115D7B8E ∷
    of_bits binary64 0x3FE66D663923E087 ∷
    of_bits binary64 0x3FE6B798920B3D99 ∷
    of_bits binary64 0x3FE700A7C5784634 ∷
    of_bits binary64 0x3FE748978FBA8E0F ∷
    of_bits binary64 0x3FE78F6BBD5D315E ∷
    of_bits binary64 0x3FE7D528289FA093 ∷
    of_bits binary64 0x3FE819D0B7158A4D ∷
    of_bits binary64 0x3FE85D69576CC2C5 ∷
    of_bits binary64 0x3FE89FF5FF57F1F8 ∷
    of_bits binary64 0x3FE8E17AA99CC05E ∷
    of_bits binary64 0x3FE921FB54442D18 ∷
    []

-- what is left
unfoldable pub atan_low : List Float
atan_low =
    of_bits binary64 0x0000000000000000 ∷
    neg (of_bits binary64 0x3C2220C39D4DFF50) ∷
    neg (of_bits binary64 0x3C35EC431444912C) ∷
    neg (of_bits binary64 0x3C086EF8F794F105) ∷
    neg (of_bits binary64 0x3C3C934D86D23F1D) ∷
    of_bits binary64 0x3C5AC4CE285DF847 ∷
    neg (of_bits binary64 0x3C5CFB654C0C3D98) ∷
    of_bits binary64 0x3C5F7B8F29A05987 ∷
    neg (of_bits binary64 0x3C4CD37686760C17) ∷
    neg (of_bits binary64 0x3C4B485914DACF8C) ∷
    of_bits binary64 0x3C661A3B0CE9281B ∷
    neg (of_bits binary64 0x3C5054AB2C010F3D) ∷
    of_bits binary64 0x3C5347B0B4F881CA ∷
    of_bits binary64 0x3C4CF601E7B4348E ∷
    of_bits binary64 0x3C217B10D2E0E5AB ∷
    of_bits binary64 0x3C6C648D1534597E ∷
    of_bits binary64 0x3C68AB6E3CF7AFBD ∷
    of_bits binary64 0x3C762E47390CB865 ∷
    of_bits binary64 0x3C630CA4748B1BF9 ∷
    neg (of_bits binary64 0x3C7077CDD36DFC81) ∷
    neg (of_bits binary64 0x3C6963A544B672D8) ∷
    neg (of_bits binary64 0x3C75D5E43C55B3BA) ∷
    neg (of_bits binary64 0x3C62566480884082) ∷
    neg (of_bits binary64 0x3C7A725715711F00) ∷
    neg (of_bits binary64 0x3C7C63AAE6F6E918) ∷
    of_bits binary64 0x3C769C885C2B249A ∷
    of_bits binary64 0x3C7B6D0BA3748FA8 ∷
    of_bits binary64 0x3C79E6C988FD0A77 ∷
    neg (of_bits binary64 0x3C724DEC1B50B7FF) ∷
    of_bits binary64 0x3C7AE187B1CA5040 ∷
    neg (of_bits binary64 0x3C7CC1CE70934C34) ∷
    neg (of_bits binary64 0x3C7A2CFA4418F1AD) ∷
    of_bits binary64 0x3C7A2B7F222F65E2 ∷
    of_bits binary64 0x3C70E53DC1BF3435 ∷
    neg (of_bits binary64 0x3C6A3992DC382A23) ∷
    neg (of_bits binary64 0x3C8B32C949C9D593) ∷
    neg (of_bits binary64 0x3C7D5B495F6349E6) ∷
    of_bits binary64 0x3C5974FA13B5404F ∷
    neg (of_bits binary64 0x3C52BDAEE1C0EE35) ∷
    of_bits binary64 0x3C8C621CEC00C301 ∷
    neg (of_bits binary64 0x3C5928DF287A668F) ∷
    of_bits binary64 0x3C6C421C9F38224E ∷
    neg (of_bits binary64 0x3C709E73B0C6C087) ∷
    of_bits binary64 0x3C8C5D5E9FF0CF8D ∷
    of_bits binary64 0x3C81021137C71102 ∷
    neg (of_bits binary64 0x3C82304331D8BF46) ∷
    of_bits binary64 0x3C7ECF8B492644F0 ∷
    neg (of_bits binary64 0x3C7F76D0163F79C8) ∷
    of_bits binary64 0x3C72419A87F2A458 ∷
    of_bits binary64 0x3C84A33DBEB3796C ∷
    neg (of_bits binary64 0x3C81BB74ABDA520C) ∷
    neg (of_bits binary64 0x3C75E5C9D8C5A950) ∷
    of_bits binary64 0x3C60028E4BC5E7CA ∷
    neg (of_bits binary64 0x3C62B785350EE8C1) ∷
    neg (of_bits binary64 0x3C76EA6FEBE8BBBA) ∷
    neg (of_bits binary64 0x3C8A80386188C50E) ∷
    neg (of_bits binary64 0x3C78C34D25AADEF6) ∷
    of_bits binary64 0x3C47B2A6165884A1 ∷
    of_bits binary64 0x3C8406A089803740 ∷
    of_bits binary64 0x3C8560821E2F3AA9 ∷
    neg (of_bits binary64 0x3C7BF76229D3B917) ∷
    of_bits binary64 0x3C66B66E7FC8B8C3 ∷
    neg (of_bits binary64 0x3C855B9A5E177A1B) ∷
    neg (of_bits binary64 0x3C7EC182AB042F61) ∷
    of_bits binary64 0x3C81A62633145C07 ∷
    []

unfoldable pub tabled_of : ℕ → Pair
tabled_of j = record {
  hi = get_or atan_high j nan;
  lo = get_or atan_low j nan;
}
