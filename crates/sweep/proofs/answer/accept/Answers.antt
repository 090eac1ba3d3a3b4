-- `sweep::answer::accept` meets its contract: the frames, all of them, or a write that failed. Assumes nothing.
use mathlib.Core.Path.{◌≡◌, refl, ap}
use mathlib.Core.Logic.{inl}
use native.Mathlib.Omega.{arith}
use lib.ListN.{length}
use Rattle.sweeping.specs.Line.{line_bytes}
use Rattle.sweep.proofs.TurnFacts.{grown-accepted}
use Rattle.sweep.proofs.answer.accept.Goals as goal

pub returns : goal.returns
returns c =
    let a = c.args in
    let all : c.send-written.result ≡ length (line_bytes a.line.now) = omega (arith, c.if-written-frames.false, c.send-written.ensures, ap length c.requires.0) in
    inl (record {
      going = refl;
      grown = grown-accepted a.line.now a.turn _ c.send-written.result c.requires.1 all c.count.ensures refl c.count-2.ensures;
    })
