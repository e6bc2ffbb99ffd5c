-- A ring of 63 entries: the event is refused by 9, so the ring afterwards is the ring before.
use Prim.Native.Nat.{ℕ, ◌%◌}
use mathlib.Core.Bool.{false}
use mathlib.Core.List.{List}
use mathlib.Core.Path.{◌≡◌, refl, sym, ap, ◌∙◌}
use lib.Dec.{eqb, leb}
use lib.ListN.{length}
use Rattle.sets.proofs.Cases.{both}
use Rattle.rules.specs.declared.Outcome.{Outcome}
use Rattle.ring.specs.declared.Entry.{Entry}
use Rattle.rules.specs.Answer.{answer_of}
use Rattle.rules.specs.Rules.{World, world_with, Done, sizes_right, lent_bar, admitted, judged, event_of, EventPromise}

-- the sizes are wrong where the ring has 63 entries
wrong : (t rows flags : ℕ) → sizes_right t rows flags 63 ≡ false
unfolding sizes_right
wrong t rows flags =
    both (eqb t 0) (λ a. rw a refl) (λ a.
    both (leb t 65520) (λ b. both (eqb (t % 20) 0) (λ c. both (eqb rows 4096) (λ d. both (eqb flags 4096) (λ f. rw (a, b, c, d, f) refl) (λ f. rw (a, b, c, d, f) refl)) (λ d. rw (a, b, c, d) refl)) (λ c. rw (a, b, c) refl)) (λ b. rw (a, b) refl))

-- so the ring stays
stays : (bytes : List ℕ) (w : World) → length w.ring ≡ 63 → (event_of bytes w).world.ring ≡ w.ring
unfolding event_of admitted lent_bar judged
stays bytes w n =
    rw n (rw (wrong (length w.state.table) (length w.state.rows) (length w.state.flags)) refl)

pub short_stays : (bytes : List ℕ) (w : World) (zs : List Entry) (o : Outcome) (t rows flags : List ℕ) → length w.ring ≡ 63
    → EventPromise bytes w (world_with t rows flags zs o.roster) o.reply
    → EventPromise bytes w (world_with t rows flags w.ring o.roster) o.reply
short_stays bytes w zs o t rows flags n e =
    ap (λ (es : List Entry). record { answer = answer_of o.reply; world = world_with t rows flags es o.roster })
    (sym (stays bytes w n) ∙ sym (ap (λ (d : Done). d.world.ring) e))
    ∙ e
