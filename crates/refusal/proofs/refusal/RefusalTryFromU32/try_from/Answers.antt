-- `refusal::refusal::RefusalTryFromU32::try_from` meets its contract: what no arm takes is in no part of the list. Assumes nothing.
use Rattle.std.proofs.Common.{arith, ◌≡◌, refl, ℕ, ◌<◌, ◌⊎◌, inl, inr, false}
use borrow.Author.Tests.{lt-ltb, lt-leb, ne_eqb}
use Rattle.refusal.specs.Number.{is_listed}
use Rattle.refusal.proofs.refusal.RefusalTryFromU32.try_from.Goals as goal

between : (n : ℕ) → (n ≡ 0) ⊎ ((n ≡ 14) ⊎ (15 < n)) → is_listed n ≡ false
unfolding is_listed
between n (inl e) = rw e refl
between n (inr (inl e)) = rw e refl
between n (inr (inr h)) = simp (lt-ltb 0 n (omega arith), lt-leb n 13 (omega arith), ne_eqb n 15 (omega arith))

pub returns-in_default : goal.returns-in_default
returns-in_default c = (refl, between c.args.number (grind arith))
