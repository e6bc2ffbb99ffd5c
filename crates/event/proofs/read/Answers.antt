-- `read`: the three tests in the order of the definition, then `by_kind` of the bytes that follow.
use mathlib.Core.Path.{◌≡◌, ◌∙◌}
use lib.ListN.{drop}
use native.Mathlib.Omega.{arith}
use borrow.Author.Tests.{eq-eqb, ne_eqb}
use Rattle.event.specs.Event.{event_in}
use Rattle.event.proofs.Parts.{two_zeros, rest}
use Rattle.event.proofs.read.Goals as goal
use Rattle.event.proofs.read.Goals.{then-bytes-ne-EVENT_BYTES-via-then-bytes-ne-EVENT_BYTES, then-bytes-ne-EVENT_BYTES-via-else-bytes-ne-EVENT_BYTES+then-bytes-ne0, then-bytes-ne-EVENT_BYTES-via-else-bytes-ne-EVENT_BYTES+else-bytes-ne0+then-bytes-ne0-2}

pub returns-then-bytes-ne-EVENT_BYTES : goal.returns-then-bytes-ne-EVENT_BYTES
unfolding event_in
returns-then-bytes-ne-EVENT_BYTES c =
    let l = c.args.bytes.now in
    elim c.then-bytes-ne-EVENT_BYTES.branch [
      | then-bytes-ne-EVENT_BYTES-via-then-bytes-ne-EVENT_BYTES w ↦ rw (ne_eqb _ _ w.if-bytes-ne-EVENT_BYTES.true)
      | then-bytes-ne-EVENT_BYTES-via-else-bytes-ne-EVENT_BYTES+then-bytes-ne0 w ↦
          rw (eq-eqb _ _ w.if-bytes-ne-EVENT_BYTES.false, two_zeros l (omega arith), ne_eqb _ _ w.if-bytes-ne0.true)
      | then-bytes-ne-EVENT_BYTES-via-else-bytes-ne-EVENT_BYTES+else-bytes-ne0+then-bytes-ne0-2 w ↦
          rw (eq-eqb _ _ w.if-bytes-ne-EVENT_BYTES.false, two_zeros l (omega arith), eq-eqb _ _ w.if-bytes-ne0.false, ne_eqb _ _ w.if-bytes-ne0-2.true)
    ]

pub returns : goal.returns
unfolding event_in
returns c =
    let l = c.args.bytes.now in
    let body : c.copy_from_slice.new.self ≡ drop 3 l = c.copy_from_slice.ensures.after ∙ rest l in
    rw (eq-eqb _ _ c.if-bytes-ne-EVENT_BYTES.false, two_zeros l (omega arith), eq-eqb _ _ c.if-bytes-ne0.false, eq-eqb _ _ c.if-bytes-ne0-2.false, ← body)
    c.by_kind.ensures
