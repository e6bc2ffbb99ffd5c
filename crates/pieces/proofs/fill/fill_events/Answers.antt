-- `fill_events`: a turn that gives an event, or passes a packet; the end, by what the reader says; or no more room.
use Rattle.std.proofs.Common.{◌≡◌, ◌+◌, ◌≤◌, List, ℕ, length, refl, ap, ◌∙◌, arith, rules}
use Rattle.pcap.specs.Captures.{step_of, step_at}
use Rattle.pcap.specs.declared.Reader.{Reader}
use Rattle.pieces.specs.Pieces.{stop_said}
use Rattle.pieces.proofs.Filling.{Both, comes_to, promised, put_is, put_length, nearer_again, event_turn, skipped_turn, finished_turn, refused_turn, full_now}
use Rattle.pieces.proofs.fill.fill_events.Goals as goal
use Rattle.pieces.proofs.fill.fill_events.Goals.{then-out-filled-lt-EVENT_BYTES, else-out-filled-lt-EVENT_BYTES+in-Finished, else-out-filled-lt-EVENT_BYTES+in-Refused}

pub loop-out-smaller-in-Event : goal.loop-out-smaller-in-Event
loop-out-smaller-in-Event c =
    let r = c.loop-out.reader in
    let s = c.next-step.result in
    let e : step_of s ≡ step_at c.args.bytes.now r.at r.tally = c.next-step.ensures ∙ ap (λ (b : List ℕ). step_at b r.at r.tally) c.loop-out.invariant.same in
    let moved = c.moved-reader-in-loop-out.ensures in
    rw (moved.1.0, moved.1.1) (nearer_again c.args.bytes.now r.at r.tally s e (rw c.in-Event.is refl))

pub loop-out-preserved-in-Event : goal.loop-out-preserved-in-Event
loop-out-preserved-in-Event c =
    let f = c.args.bytes.now in
    let l = c.loop-out in
    let r = l.reader in
    let s = c.next-step.result in
    let ev = c.in-Event.event in
    let e : step_of s ≡ step_at f r.at r.tally = c.next-step.ensures ∙ ap (λ (b : List ℕ). step_at b r.at r.tally) l.invariant.same in
    let moved = c.moved-reader-in-loop-out.ensures in
    let sized : length ev ≡ 16 = search rules in
    let room : l.filled + 16 ≤ length l.out = omega (arith, c.if-out-filled-lt-EVENT_BYTES.false, l.invariant.within) in
    let put-is = put_is l.filled l.out c.copy_from_slice.new.self ev c.copy_from_slice.ensures.after in
    let long = put_length f r.at r.tally s e l.filled l.out room ev sized in
    record {
      same = cc;
      within = omega (arith, ap length put-is, long, room);
      comes =
          ap (λ (o : List ℕ). comes_to f c.moved-reader-in-loop-out.result.at c.moved-reader-in-loop-out.result.tally (l.filled + 16) o) put-is
          ∙ rw (moved.1.0, moved.1.1) (event_turn f r.at r.tally s e l.filled l.out room ev c.in-Event.is sized ∙ l.invariant.comes);
    }

pub loop-out-smaller : goal.loop-out-smaller
loop-out-smaller c =
    let r = c.loop-out.reader in
    let s = c.next-step.result in
    let e : step_of s ≡ step_at c.args.bytes.now r.at r.tally = c.next-step.ensures ∙ ap (λ (b : List ℕ). step_at b r.at r.tally) c.loop-out.invariant.same in
    let moved = c.moved-reader-in-loop-out.ensures in
    rw (moved.1.0, moved.1.1) (nearer_again c.args.bytes.now r.at r.tally s e (rw c.in-Skipped.is refl))

pub loop-out-preserved : goal.loop-out-preserved
loop-out-preserved c =
    let f = c.args.bytes.now in
    let l = c.loop-out in
    let r = l.reader in
    let s = c.next-step.result in
    let e : step_of s ≡ step_at f r.at r.tally = c.next-step.ensures ∙ ap (λ (b : List ℕ). step_at b r.at r.tally) l.invariant.same in
    let moved = c.moved-reader-in-loop-out.ensures in
    let room : l.filled + 16 ≤ length l.out = omega (arith, c.if-out-filled-lt-EVENT_BYTES.false, l.invariant.within) in
    record {
      same = cc;
      within = l.invariant.within;
      comes = rw (moved.1.0, moved.1.1) (skipped_turn f r.at r.tally s e l.filled l.out room c.in-Skipped.field-0 c.in-Skipped.is ∙ l.invariant.comes);
    }

pub returns : goal.returns
returns c =
    let f = c.args.bytes.now in
    let l = c.loop-out in
    let r = l.reader in
    let j = c.if-out-filled-lt-EVENT_BYTES in
    let done : ◌≡◌ {A = Both} (record { said = stop_said j.stop; at = j.reader.at; tally = j.reader.tally; filled = l.filled }, l.out) (promised f c.args.at c.args.tally c.args.out.now) =
    elim j.branch [
      | then-out-filled-lt-EVENT_BYTES w ↦
          rw (w.stop-is, ap (λ (x : Reader). x.at) w.reader-is, ap (λ (x : Reader). x.tally) w.reader-is)
          (full_now f r.at r.tally l.filled l.out w.if-out-filled-lt-EVENT_BYTES.true ∙ l.invariant.comes)
      | else-out-filled-lt-EVENT_BYTES+in-Finished w ↦
          let s = w.next-step.result in
          let e : step_of s ≡ step_at f r.at r.tally = w.next-step.ensures ∙ ap (λ (b : List ℕ). step_at b r.at r.tally) l.invariant.same in
          let room : l.filled + 16 ≤ length l.out = omega (arith, w.if-out-filled-lt-EVENT_BYTES.false, l.invariant.within) in
          let moved = w.moved-reader-in-loop-out.ensures in
          rw (w.stop-is, ap (λ (x : Reader). x.at) w.reader-is ∙ moved.1.0, ap (λ (x : Reader). x.tally) w.reader-is ∙ moved.1.1)
          (finished_turn f r.at r.tally s e l.filled l.out room w.in-Finished.is ∙ l.invariant.comes)
      | else-out-filled-lt-EVENT_BYTES+in-Refused w ↦
          let s = w.next-step.result in
          let e : step_of s ≡ step_at f r.at r.tally = w.next-step.ensures ∙ ap (λ (b : List ℕ). step_at b r.at r.tally) l.invariant.same in
          let room : l.filled + 16 ≤ length l.out = omega (arith, w.if-out-filled-lt-EVENT_BYTES.false, l.invariant.within) in
          let moved = w.moved-reader-in-loop-out.ensures in
          rw (w.stop-is, ap (λ (x : Reader). x.at) w.reader-is ∙ moved.1.0, ap (λ (x : Reader). x.tally) w.reader-is ∙ moved.1.1)
          (refused_turn f r.at r.tally s e l.filled l.out room w.in-Refused.refusal w.in-Refused.is ∙ l.invariant.comes)
    ] in
    record { value = ap (λ (p : Both). p.0) done; out_after = ap (λ (p : Both). p.1) done }
