-- `engine::admit` meets its contract.
use mathlib.Core.Bool.{true, cond}
use mathlib.Core.Path.{◌≡◌, sym, ◌∙◌}
use Rattle.std.proofs.Common.{length, rules}
use Rattle.roster.specs.Roster.{sound}
use Rattle.packets.proofs.OfPackets.{lent-sound}
use Rattle.rules.specs.Rules.{is, lent_bar, admitted}
use Rattle.engine.specs.Looking.{asked_in, admitted_so_far}
use Rattle.engine.proofs.Admitting.{passed, either}
use Rattle.engine.proofs.admit.Goals.{else-not-is_packet-via-then-not-is_packet+else-not-sound, else-not-is_packet-via-else-not-is_packet}
use Rattle.engine.proofs.admit.Goals as goal

pub returns-then-not-sized : goal.returns-then-not-sized
unfolding admitted_so_far lent_bar admitted
returns-then-not-sized c = rw (c.if-not-sized.true, c.into.ensures)

pub returns-then-not-sound : goal.returns-then-not-sound
unfolding admitted_so_far lent_bar admitted
returns-then-not-sound c =
    let r = c.args.roster.now in
    let servers : length r.servers ≡ 64 = search rules in
    let states : length r.states ≡ 64 = search rules in
    -- what the test of the parts says of the roster
    let tested : c.sound.result ≡ sound r = rw (c.places.ensures.0, c.places.ensures.1) at c.sound.ensures ∙ lent-sound r servers states in
    rw (
      c.if-not-sized.false,
      sym c.is_packet.ensures ∙ c.if-not-is_packet.true,
      sym tested ∙ c.if-not-sound.true,
      c.into-then-not-sound.ensures,
    )

pub returns : goal.returns
returns c =
    let p = c.args in
    let r = p.roster.now in
    let servers : length r.servers ≡ 64 = search rules in
    let states : length r.states ≡ 64 = search rules in
    let o : cond (is 1 (asked_in p.event)) true (sound r) ≡ true = elim c.else-not-is_packet.branch [
      | else-not-is_packet-via-then-not-is_packet+else-not-sound w ↦
          let tested : w.sound.result ≡ sound r = rw (w.places.ensures.0, w.places.ensures.1) at w.sound.ensures ∙ lent-sound r servers states in
          either _ _ (sym tested ∙ w.if-not-sound.false)
      | else-not-is_packet-via-else-not-is_packet w ↦ rw (sym c.is_packet.ensures ∙ w.if-not-is_packet.false)
    ] in
    passed p.sized (sound r) (asked_in p.event) c.if-not-sized.false o
