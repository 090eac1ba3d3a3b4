-- How it is computed, not what: the visit writes into the lent buffer, and concludes there. Definitions only.
use Rattle.std.specs.Prelude.{List, ◌*◌, drop, Float}
use Rattle.power_series.specs.declared.visit.Standing.{Standing}
use Rattle.power_series.specs.Visit.{Visited, visited_of}

-- the visit that ended at r, with these cells in the buffer
unfoldable pub concluded_of : Standing → List Float → Visited
concluded_of r out = visited_of (record { standing = r; cells = drop (r.left * 2) out })
