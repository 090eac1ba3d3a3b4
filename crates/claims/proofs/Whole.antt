-- The theorem that shows every claim of proofs/Claims.antt. Assumes nothing.
use Rattle.claims.proofs.Rows.{rows}
use Rattle.claims.proofs.Steps.{of_steps}
use Rattle.claims.proofs.Routines.{of-routines}
use Rattle.claims.proofs.Complexes.{of-complex}
use Rattle.claims.proofs.Sweeps.{of-sweep}
use Rattle.claims.proofs.Pages.{of-page}
use Rattle.claims.proofs.Claims.{Claims, of-checks, of-k, of-series, of-i, of-log-gamma, of-exports, of-frames, of-lines, of-input}

pub claims : Claims
claims = record {
  tried = rows;
  of-checks = of-checks;
  of-k = of-k;
  of-series = of-series;
  of-i = of-i;
  of_steps = of_steps;
  of-log-gamma = of-log-gamma;
  of-routines = of-routines;
  of-complex = of-complex;
  of-exports = of-exports;
  of-frames = of-frames;
  of-lines = of-lines;
  of-input = of-input;
  of-sweep = of-sweep;
  of-page = of-page;
}
