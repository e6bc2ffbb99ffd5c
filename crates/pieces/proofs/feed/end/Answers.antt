-- `end`: what stands first in the window; then a packet that isn't all there.
use Rattle.std.proofs.Common.{◌∙◌}
use Rattle.pieces.specs.Streams.{stream_of}
use Rattle.pieces.proofs.Feeding.{ending_some, ending_short, ending_none}
use Rattle.pieces.proofs.feed.end.Goals as goal

pub returns-in-Some : goal.returns-in-Some
returns-in-Some c =
    let p = c.args in
    c.refused.ensures ∙ ending_some p.buffer.now (stream_of p.stream) c.refusal_at.result c.min-have.result c.min-have.ensures c.refusal_at.ensures c.in-Some.refusal c.in-Some.is

pub returns-in-None : goal.returns-in-None
returns-in-None c =
    let p = c.args in
    c.refused-in-None.ensures ∙ ending_short p.buffer.now (stream_of p.stream) c.refusal_at.result c.min-have.result c.min-have.ensures c.refusal_at.ensures c.in-None.is c.if-stream-ne0.true

pub returns-in-None-2 : goal.returns-in-None-2
returns-in-None-2 c =
    let p = c.args in
    ending_none p.buffer.now (stream_of p.stream) c.refusal_at.result c.min-have.result c.min-have.ensures c.refusal_at.ensures c.in-None.is c.if-stream-ne0.false
