-- The program's two buffers as the answers' definitions have them: what is held of a line, and what is written. Definitions only.
use Rattle.lichenoar.specs.declared.lines.Buffers.{Buffers}
use Rattle.answering.specs.Feed.{Feed}

abbrev pub feed_of : Buffers → Feed
feed_of b = record { held = b.line; written = b.out }
