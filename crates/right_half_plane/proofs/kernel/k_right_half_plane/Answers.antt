-- `right_half_plane::kernel::k_right_half_plane` meets its contract: by what the seed stage gives. Assumes nothing.
use mathlib.Core.Path.{◌≡◌, refl, sym, ap, ◌∙◌, subst}
use native.Mathlib.Omega.{arith}
use Rattle.std.specs.Prelude.{Err}
use Rattle.std.proofs.lemmas.Result.{err_from_is_err_and}
use Rattle.complex.specs.Functions.{modulus_of}
use Rattle.right_half_plane.specs.declared.ground.Ground.{Ground}
use Rattle.right_half_plane.specs.Ground.{Sized, ground_of}
use Rattle.right_half_plane.specs.Kernel.{finished_kernel, refused_kernel, seeds_kernel, seeded_kernel, after_if, afterwards}
use Rattle.right_half_plane.proofs.Answers.{finished-alone, kernel-as, kernel-seeds}
use Rattle.right_half_plane.proofs.OrderFacts.{ground-sized}
use Rattle.right_half_plane.proofs.kernel.k_right_half_plane.Goals as goal

pub seed-requires : goal.seed-requires
unfolding ground_of
seed-requires c = subst (λ (g : Ground). g.modulus ≡ modulus_of g.z) (sym c.prepare.ensures) c.requires.5

pub finished-requires : goal.finished-requires
unfolding ground_of
finished-requires c =
    let n : c.prepare.result.count ≡ 1 = finished-alone _ _ _ _ (sym c.seed.ensures ∙ c.in_ok-s.was) c.in-Finished.is in
    let e = ap (λ (g : Ground). g.count) c.prepare.ensures in
    omega arith

pub invariant_of-call : goal.invariant_of-call
invariant_of-call c = record { sized = subst Sized (sym c.prepare.ensures) (ground-sized _ _ _ _ (omega arith) (omega arith) c.requires.3 c.requires.4) }

pub from_pair-requires : goal.from_pair-requires
unfolding ground_of
from_pair-requires c = let e = ap (λ (g : Ground). g.count) c.prepare.ensures in omega arith

pub returns-in_err-s : goal.returns-in_err-s
unfolding seeded_kernel refused_kernel afterwards after_if
returns-in_err-s c =
    let p = err_from_is_err_and c.from_residual.result c.from_residual.ensures.1 in
    rw (kernel-as _ _ _ _ _ c.prepare.ensures (sym c.in_err-s.was ∙ c.seed.ensures)) (p.1 ∙ ap Err p.2, refl)

pub returns-in-Finished : goal.returns-in-Finished
unfolding seeds_kernel finished_kernel afterwards after_if
returns-in-Finished c = rw (kernel-seeds _ _ _ _ _ c.prepare.ensures (sym c.in_ok-s.was ∙ c.seed.ensures) c.in-Finished.is) c.finished.ensures

pub returns-in-Pair : goal.returns-in-Pair
unfolding seeds_kernel
returns-in-Pair c = rw (kernel-seeds _ _ _ _ _ c.prepare.ensures (sym c.in_ok-s.was ∙ c.seed.ensures) c.in-Pair.is) c.from_pair.ensures
