-- `settle`: places that make no sense; else what is behind moves up to the header, and a record that is too long is shortened.
use Rattle.std.proofs.Common.{◌≡◌, ℕ, ◌+◌, ◌-◌, false, cond, List, length, refl, subst, ◌∙◌, sym, le-leb}
use borrow.Author.Tests.{lt-leb}
use Rattle.pieces.specs.Pieces.{settled_kept, settled_buffer, in_order, too_long, kept_first, kept_all, trimmed}
use Rattle.pieces.proofs.Keeping.{carried-back, disordered}
use Rattle.pieces.proofs.keep.settle.Goals as goal
use Rattle.pieces.proofs.keep.settle.Goals.{then-at-lt-HEADER_BYTES-via-then-at-lt-HEADER_BYTES, then-at-lt-HEADER_BYTES-via-else-at-lt-HEADER_BYTES+then-have-at, then-at-lt-HEADER_BYTES-via-else-at-lt-HEADER_BYTES+else-have-at+then-buffer-have}

pub returns-then-at-lt-HEADER_BYTES : goal.returns-then-at-lt-HEADER_BYTES
returns-then-at-lt-HEADER_BYTES c =
    let p = c.args in
    let out : in_order p.buffer.now p.have p.at ≡ false =
    elim c.then-at-lt-HEADER_BYTES.branch [
      | then-at-lt-HEADER_BYTES-via-then-at-lt-HEADER_BYTES w ↦ rw (lt-leb 24 p.at w.if-at-lt-HEADER_BYTES.true) refl
      | then-at-lt-HEADER_BYTES-via-else-at-lt-HEADER_BYTES+then-have-at w ↦ rw (le-leb 24 p.at w.if-at-lt-HEADER_BYTES.false, lt-leb p.at p.have w.if-have-at.true) refl
      | then-at-lt-HEADER_BYTES-via-else-at-lt-HEADER_BYTES+else-have-at+then-buffer-have w ↦ rw (le-leb 24 p.at w.if-at-lt-HEADER_BYTES.false, le-leb p.at p.have w.if-have-at.false, lt-leb p.have (length p.buffer.now) w.if-buffer-have.true) refl
    ] in
    let same = disordered p.buffer.now p.have p.at out in
    record { value = c.kept_all.ensures ∙ sym same.0; buffer_after = sym same.1 }

pub returns : goal.returns
unfolding settled_kept settled_buffer
returns c =
    let p = c.args in
    let first = c.if-at-lt-HEADER_BYTES.false in
    let order = c.if-have-at.false in
    let a = le-leb 24 p.at first in
    let h = le-leb p.at p.have order in
    let l = le-leb p.have (length p.buffer.now) c.if-buffer-have.false in
    let e = carried-back p.buffer.now c.shift.new.s p.have p.at first order c.shift.ensures in
    let t = c.trim in
    let k = p.have - p.at in
    record {
      value = rw (a, h, l) (subst (λ (x : List ℕ). t.result ≡ cond (too_long x k) (kept_first k x) (kept_all (24 + k))) e t.ensures.value);
      buffer_after = rw (a, h, l) (subst (λ (x : List ℕ). t.new.buffer ≡ cond (too_long x k) (trimmed x) x) e t.ensures.buffer_after);
    }
