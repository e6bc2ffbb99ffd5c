-- Demand 1 leaves no choice: two replies to one event record, each as the demand says, are the same.
use Prim.Native.Nat.{ℕ}
use mathlib.Core.List.{List}
use mathlib.Core.Path.{◌≡◌, refl, sym, ap, ◌∙◌}
use native.Mathlib.Omega.{arith}
use Rattle.ring.specs.declared.Entry.{Entry}
use Rattle.rules.specs.declared.Reply.{Reply}
use Rattle.rules.specs.declared.Reply.TheVariants.{Accepted, Refused}
use Rattle.rules.specs.Rules.{World}
use Rattle.table.specs.Table.{server_at, tag_at}
use Rattle.claims_demands.specs.Causes.{RecordAt, Given, by_choice, from_ring, from_row}
use Rattle.claims_demands.specs.Demand1.{ChosenMark, safe, recorded, no_room, PacketMark, known, chosen, EndMark, first, next, nothing, MarkRight, packet, end, other, Demand1}
use Rattle.claims_demands.proofs.Demand1Packet.{record_one}

-- what the method gives is one server, and one condition
given_one : {key : List ℕ} {w : World} {s s' : ℕ} {U U' : Type 0} → Given key w s U → Given key w s' U' → (s ≡ s') × (U → U')
given_one (by_choice m) (by_choice m') = (refl, λ u. u)
given_one (by_choice m) (from_ring m' e q) = absurd (omega arith)
given_one (by_choice m) (from_row m' row q) = absurd (omega arith)
given_one (from_ring m e q) (by_choice m') = absurd (omega arith)
given_one (from_ring m e q) (from_ring m' e' q') =
    let p : e ≡ e' = q ∙ sym q' in
    (ap (λ (x : Entry). x.server) p, λ u t. u (ap (λ (x : Entry). x.track) p ∙ t))
given_one (from_ring m e q) (from_row m' row q') = absurd (omega arith)
given_one (from_row m row q) (by_choice m') = absurd (omega arith)
given_one (from_row m row q) (from_ring m' e q') = absurd (omega arith)
given_one (from_row m row q) (from_row m' row' q') = let p : row ≡ row' = q ∙ sym q' in (rw p, rw p (λ u. u))

chosen_one : {U U' : Type 0} {t : List ℕ} {m m' : ℕ} → (U → U') → (U' → U) → ChosenMark U t m → ChosenMark U' t m' → m ≡ m'
chosen_one f g (safe n) (safe n') = refl
chosen_one f g (safe n) (recorded u h) = absurd (n (g u))
chosen_one f g (safe n) (no_room u h) = absurd (n (g u))
chosen_one f g (recorded u h) (safe n) = absurd (n (f u))
chosen_one f g (recorded u h) (recorded u' h') = refl
chosen_one f g (recorded u h) (no_room u' h') = absurd (omega arith)
chosen_one f g (no_room u h) (safe n) = absurd (n (f u))
chosen_one f g (no_room u h) (recorded u' h') = absurd (omega arith)
chosen_one f g (no_room u h) (no_room u' h') = refl

-- the same server, mark and reads
record Same (s mark reads s' mark' reads' : ℕ) : Type 0 where
  pub server : s ≡ s'
  pub marks : mark ≡ mark'
  pub read : reads ≡ reads'

packet_one : {key : List ℕ} {w : World} {s m n s' m' n' : ℕ} → PacketMark key w s m n → PacketMark key w s' m' n' → Same s m n s' m' n'
packet_one {key} {w} (known p r) (known p' r') =
    let q = record_one key w.state.table p p' r r' in
    record { server = ap (λ (i : ℕ). server_at i w.state.table) q; marks = refl; read = q }
packet_one (known p r) (chosen n s m U g c) = absurd (n _ r.here)
packet_one (chosen n s m U g c) (known p r) = absurd (n _ r.here)
packet_one (chosen n s m U g c) (chosen n' s' m' U' g' c') =
    record { server = (given_one g g').0; marks = chosen_one (given_one g g').1 (given_one g' g).1 c c'; read = refl }

-- a place has one tag
tags_apart : {key t : List ℕ} {p p' : ℕ} → RecordAt key t p → RecordAt key t p' → tag_at p t ≡ 1 → tag_at p' t ≡ 2 → ⊥
tags_apart {key} {t} {p} {p'} r r' one two = omega (arith, one, two, ap (λ (i : ℕ). tag_at i t) (record_one key t p p' r r'))

end_one : {key t : List ℕ} {m n m' n' : ℕ} → EndMark key t m n → EndMark key t m' n' → Same 0 m n 0 m' n'
end_one {key} {t} (first p r q) (first p' r' q') = record { server = refl; marks = refl; read = record_one key t p p' r r' }
end_one (first p r q) (next p' r' q') = absurd (tags_apart r r' q q')
end_one (first p r q) (nothing n) = absurd (n _ r.here)
end_one (next p r q) (first p' r' q') = absurd (tags_apart r' r q' q)
end_one {key} {t} (next p r q) (next p' r' q') = record { server = refl; marks = refl; read = record_one key t p p' r r' }
end_one (next p r q) (nothing n) = absurd (n _ r.here)
end_one (nothing n) (first p r q) = absurd (n _ r.here)
end_one (nothing n) (next p r q) = absurd (n _ r.here)
end_one (nothing n) (nothing n') = record { server = refl; marks = refl; read = refl }

mark_one : {kind : ℕ} {key : List ℕ} {w : World} {s m n s' m' n' : ℕ} → MarkRight kind key w s m n → MarkRight kind key w s' m' n'
    → Same s m n s' m' n'
mark_one (packet k s m n p) (packet k' s' m' n' p') = packet_one p p'
mark_one (packet k s m n p) (end k' m' n' p') = absurd (omega arith)
mark_one (packet k s m n p) (other low high) = absurd (omega arith)
mark_one (end k m n p) (packet k' s' m' n' p') = absurd (omega arith)
mark_one (end k m n p) (end k' m' n' p') = end_one p p'
mark_one (end k m n p) (other low high) = absurd (omega arith)
mark_one (other low high) (packet k' s' m' n' p') = absurd (omega arith)
mark_one (other low high) (end k' m' n' p') = absurd (omega arith)
mark_one (other low high) (other low' high') = record { server = refl; marks = refl; read = refl }

same_reply : {s m n s' m' n' : ℕ} → Same s m n s' m' n' → Accepted s m n ≡ Accepted s' m' n'
same_reply o = rw (o.server, o.marks, o.read)

pub demand1_one : (bytes : List ℕ) (before after after' : World) (reply reply' : Reply) → Demand1 bytes before after reply
    → Demand1 bytes before after' reply' → reply ≡ reply'
demand1_one bytes before after after' (Refused n) reply' d d' = sym ((d'.refused n).1 ((d.refused n).0 refl))
demand1_one bytes before after after' (Accepted s mark reads) reply' d d' =
    let (s', mark', reads', q) = d'.accepted.1 (d.accepted.0 (s, mark, reads, refl)) in
    same_reply (mark_one (d.marks s mark reads refl) (d'.marks s' mark' reads' q)) ∙ sym q
