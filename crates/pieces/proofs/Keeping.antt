-- What is kept of a window: the tests that the code makes, as the definition puts them.
use Rattle.std.proofs.Common.{◌≡◌, ℕ, ◌-◌, ◌≤◌, Bool, false, List, ◌++◌, length, take, drop, refl, ap, ◌∙◌, arith}
use borrow.Rule.Slice.PartMut.{post_of, Post-is}
use Rattle.spans.specs.Spans.{shifted}
use Rattle.pcap.specs.Captures.{low_first}
use Rattle.pieces.specs.Pieces.{most_read_bytes, trimmed, kept_all, carried, in_order, settled_kept, settled_buffer}

-- places that make no sense change nothing
pub disordered : (b : List ℕ) (have at : ℕ) → in_order b have at ≡ false → (settled_kept b have at ≡ kept_all have) × (settled_buffer b have at ≡ b)
unfolding settled_kept settled_buffer
disordered b have at e = (rw e refl, rw e refl)

-- four bytes put the length in
pub length_put : (b bytes : List ℕ) (low : Bool) → 36 ≤ length b → low ≡ low_first b → bytes ≡ most_read_bytes low
    → take 32 b ++ (bytes ++ post_of 32 4 b) ≡ trimmed b
length_put b bytes low there is e =
    ap (λ (l : List ℕ). take 32 b ++ (bytes ++ l)) (Post-is 32 36 b (omega arith))
    ∙ ap (λ (l : List ℕ). take 32 b ++ (l ++ drop 36 b)) (e ∙ ap most_read_bytes is)

-- the span behind the header, moved up and back in the buffer
pub carried-back : (b z : List ℕ) (have at : ℕ) → 24 ≤ at → at ≤ have → z ≡ shifted (at - 24) (take (have - 24) (drop 24 b))
    → take 24 b ++ (z ++ post_of 24 (have - 24) b) ≡ carried b have at
carried-back b z have at first order e = rw (Post-is 24 have b (omega arith), e) refl
