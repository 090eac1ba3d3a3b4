-- How it is computed, not what: one lead for both ways that a climb can end. Definitions only.
use Rattle.std.specs.Prelude.{◌≤◌}
use Rattle.right_half_plane.specs.declared.ground.Ground.{Ground}
use Rattle.right_half_plane.specs.declared.reach.Reached.{Reached}
use Rattle.right_half_plane.specs.declared.reach.Reached.TheVariants as reached
use Rattle.right_half_plane.specs.declared.lead.Lead.{Lead}
use Rattle.right_half_plane.specs.Lead.{on_scale_lead, first_lead}

-- a marked climb has few rungs behind it
abbrev pub MarkedFew : Reached → Type 0
MarkedFew (reached.OnScale c) = Unit
MarkedFew (reached.Marked c) = c.rungs ≤ 1000

-- the lead of where the climb stands
unfoldable pub led_of : Ground → Reached → Lead
led_of g (reached.OnScale c) = on_scale_lead c
led_of g (reached.Marked c) = first_lead g c
