-- Packets and ends draw no ring.
use mathlib.Core.Bool.{false}
use mathlib.Core.List.{List}
use mathlib.Core.Path.{◌≡◌, refl}
use Prim.Native.Nat.{ℕ}
use lib.Dec.{ltb}
use Rattle.sets.proofs.Cases.{both}
use Rattle.ranking.specs.declared.Pick.{Pick}
use Rattle.table.specs.Table.{Finding, room}
use Rattle.rules.specs.Rules.{State, Change, packet, end}
use Rattle.rules.proofs.Ends.{Ends, first, next, nothing, ends}

pub packet_still : (key : List ℕ) (found : Finding) (p : Pick) (st : State) → (packet key found p st).redraw ≡ false
unfolding packet
packet_still key found p st =
    both
    found.found
    (λ a. rw a)
    (
    λ a. both
    p.flag
    (λ b. both (ltb found.reads (room st.table)) (λ d. rw (a, b, d)) (λ d. rw (a, b, d)))
    (λ b. rw (a, b)))

draws_none : {found : Finding} {st : State} {c : Change} → Ends found st c → c.redraw ≡ false
draws_none (first f t) = refl
draws_none (next f t) = refl
draws_none (nothing f) = refl

pub end_still : (found : Finding) (st : State) → (end found st).redraw ≡ false
end_still found st = draws_none (ends found st)
