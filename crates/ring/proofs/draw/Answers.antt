-- What the places and the lengths decide, `overlaid` decides alike.
use borrow.Author.Tests.{le-leb, lt-leb}
use Rattle.ring.specs.Ring.{overlaid}
use Rattle.ring.proofs.draw.Goals as goal
use Rattle.ring.proofs.draw.Goals.{else-places-le-RING_PLACES-via-then-places-le-RING_PLACES+else-places-ring, else-places-le-RING_PLACES-via-else-places-le-RING_PLACES}

pub returns-then-places-ring : goal.returns-then-places-ring
unfolding overlaid
returns-then-places-ring c = rw (le-leb _ _ c.if-places-le-RING_PLACES.true, le-leb _ _ c.if-places-ring.true, c.copy_from_slice.ensures.after)

pub returns-else-places-le-RING_PLACES : goal.returns-else-places-le-RING_PLACES
unfolding overlaid
returns-else-places-le-RING_PLACES c =
    elim c.else-places-le-RING_PLACES.branch [
      | else-places-le-RING_PLACES-via-then-places-le-RING_PLACES+else-places-ring w ↦
          rw (le-leb _ _ w.if-places-le-RING_PLACES.true, lt-leb _ _ w.if-places-ring.false)
      | else-places-le-RING_PLACES-via-else-places-le-RING_PLACES w ↦ rw (lt-leb _ _ w.if-places-le-RING_PLACES.false)
    ]
