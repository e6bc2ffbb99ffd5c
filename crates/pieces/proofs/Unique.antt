-- No second answer keeps the promise of a public function of this crate (that of `fill_events` is in UniqueFilling).
-- `Learnt` is what a caller learns from the function's contract; of a lent buffer, what it holds afterwards is part of the answer.
use Rattle.std.proofs.Common.{◌≡◌, Option, sym, ◌∙◌}
use Rattle.pieces.specs.declared.Kept.{Kept}
use Rattle.pieces.specs.declared.Stream.{Stream}
use Rattle.pieces.specs.declared.Advanced.{Advanced}
use Rattle.pieces.specs.declared.Ending.{Ending}
use Rattle.pieces.specs.declared.LastSaid.{LastSaid}
use Rattle.pieces.proofs.Stops.{last_one, stream_one, advanced_one, ending_one}
use Rattle.pieces.proofs.LastSaidFromStop.from.Reads.{Learnt as last-promise}
use Rattle.pieces.proofs.feed.begin.Reads.{Learnt as begin-promise}
use Rattle.pieces.proofs.feed.advance.Reads.{Learnt as advance-promise}
use Rattle.pieces.proofs.feed.end.Reads.{Learnt as end-promise}
use Rattle.pieces.proofs.keep.settle.Reads.{Learnt as settle-promise}

pub last-said_unique : (κs : _) (a : _) (x y : LastSaid) (e e' : _) → last-promise κs a x e → last-promise κs a y e' → x ≡ y
last-said_unique κs a x y e e' p q = last_one x y (p ∙ sym q)

pub begin_unique : (κs : _) (a : _) (x y : Stream) (e e' : _) → begin-promise κs a x e → begin-promise κs a y e' → x ≡ y
begin_unique κs a x y e e' p q = stream_one x y (p ∙ sym q)

pub end_unique : (κs : _) (a : _) (x y : Option Ending) (e e' : _) → end-promise κs a x e → end-promise κs a y e' → x ≡ y
end_unique κs a x y e e' p q = ending_one x y (p ∙ sym q)

pub settle_unique : (κs : _) (a : _) (x y : Kept) (e e' : _) → settle-promise κs a x e → settle-promise κs a y e'
    → (x ≡ y) × (e.0.now ≡ e'.0.now)
settle_unique κs a x y e e' p q = (p.0 ∙ sym q.0, p.1 ∙ sym q.1)

pub advance_unique : (κs : _) (a : _) (x y : Advanced) (e e' : _) → advance-promise κs a x e → advance-promise κs a y e'
    → (x ≡ y) × ((e.0.now ≡ e'.0.now) × (e.1.0.now ≡ e'.1.0.now))
advance_unique κs a x y e e' p q = (advanced_one x y (p.0 ∙ sym q.0), (p.1.0 ∙ sym q.1.0, p.1.1 ∙ sym q.1.1))
