-- sin x and cos x together. Definitions only.
use Rattle.std.specs.Prelude.{Float}
use Rattle.circular.specs.declared.sin_cos.SinCos.{SinCos}
use Rattle.circular.specs.Sin.{sin_of}
use Rattle.circular.specs.Cos.{cos_of}

unfoldable pub sin_cos_of : Float → SinCos
sin_cos_of x = record { sin = sin_of x; cos = cos_of x }
