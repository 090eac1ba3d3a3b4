-- `circular::sin_cos::sin_cos` meets its contract: the pair is sin and cos, each by the parts of x. Assumes nothing.
use mathlib.Core.Path.{◌≡◌, sym, ◌∙◌, subst, ap}
use mathlib.Core.List.{[], ◌∷◌}
use Prim.Native.Nat.{ℕ, ◌+◌, ◌%◌, ◌<◌}
use native.Mathlib.Omega.{arith}
use lib.ListN.{get_or}
use lib.Ieee.{Float, nan, neg}
use Rattle.circular.specs.declared.reduce.Reduced.{Reduced}
use Rattle.circular.specs.Reduce.{reduce_of}
use Rattle.circular.specs.Sin.{sin_of}
use Rattle.circular.specs.Cos.{cos_of}
use Rattle.circular.specs.SinCos.{sin_cos_of}
use Rattle.circular.specs.Kernel.{sine_kernel, cosine_kernel, turned}
use Rattle.circular.proofs.Parts.{quarter-lt, at, few-turns, sin-left, sin-at, cos-left, cos-at, turns}
use Rattle.circular.proofs.sin_cos.sin_cos.Goals as goal

both : {s c : Float} (x : Float) → s ≡ sin_of x → c ≡ cos_of x → record { sin = s; cos = c } ≡ sin_cos_of x
unfolding sin_cos_of
both x p q = λ i. record { sin = p i; cos = q i }

quarter-of : (a : Float) (r : Reduced) → r ≡ reduce_of a → r.quarter < 4
quarter-of a r e = subst (λ (q : Reduced). q.quarter < 4) (sym e) (quarter-lt a)

-- the kernels' results stand where the row's entry is taken
row : (r : Reduced) (s d : Float) → s ≡ sine_kernel r.hi r.lo → d ≡ cosine_kernel r.hi r.lo → (n : ℕ)
    → get_or (s ∷ d ∷ neg s ∷ neg d ∷ []) ((r.quarter + n) % 4) nan ≡ at neg r n
row r s d p q n =
    turns (r.quarter + n) s d
    ∙ ap (λ (t : Float). turned neg (r.quarter + n) t d) p
    ∙ ap (λ (t : Float). turned neg (r.quarter + n) (sine_kernel r.hi r.lo) t) q

pub returns-in_default : goal.returns-in_default
returns-in_default c =
    let x = c.args.x in
    let e = c.in_default.ensures in
    both x (c.not_a_number.ensures ∙ sym (sin-left x e)) (c.not_a_number-in_default.ensures ∙ sym (cos-left x e))

pub overflow_add-here : goal.overflow_add-here
overflow_add-here c = omega (arith, quarter-of c.in-Some.parts.size c.reduce-angle.result c.reduce-angle.ensures, few-turns c.args.x c.in-Some.parts c.in-Some.ensures)

pub overflow_add-next : goal.overflow_add-next
overflow_add-next c = omega (arith, quarter-of c.in-Some.parts.size c.reduce-angle.result c.reduce-angle.ensures)

pub returns : goal.returns
returns c =
    let x = c.args.x in
    let w = c.in-Some.parts in
    let e = c.in-Some.ensures in
    let r = c.reduce-angle in
    let turn = row r.result c.sine-s.result c.cosine-c.result c.sine-s.ensures c.cosine-c.ensures in
    both x (turn w.turns ∙ sin-at x w e r.result r.ensures) (turn 1 ∙ cos-at x w e r.result r.ensures)
