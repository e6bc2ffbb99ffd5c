-- `packets::packet` meets its contract.
use Rattle.std.proofs.Common.{◌≡◌, length, true, refl, sym, ◌∙◌, rules}
use Rattle.roster.specs.Roster.{sound}
use Rattle.packets.proofs.OfPackets.{packet_11, packet-admitted, lent-sound}
use Rattle.packets.proofs.packet.Goals as goal

pub returns-then-not-sound : goal.returns-then-not-sound
returns-then-not-sound c =
    let p = c.args in
    let servers : length p.r.now.servers ≡ 64 = search rules in
    let states : length p.r.now.states ≡ 64 = search rules in
    -- what the test of the parts says of the roster
    let tested : c.sound.result ≡ sound p.r.now = rw (c.places.ensures.0, c.places.ensures.1) at c.sound.ensures ∙ lent-sound p.r.now servers states in
    packet_11 p.asked.key p.table.now p.rows.servers.now p.rows.flags.now _ p.r.now _ (sym tested ∙ c.if-not-sound.true)

pub returns : goal.returns
returns c =
    let p = c.args in
    let servers : length p.r.now.servers ≡ 64 = search rules in
    let states : length p.r.now.states ≡ 64 = search rules in
    let tested : c.sound.result ≡ sound p.r.now = rw (c.places.ensures.0, c.places.ensures.1) at c.sound.ensures ∙ lent-sound p.r.now servers states in
    let passed : sound p.r.now ≡ true = sym tested ∙ c.if-not-sound.false in
    c.lead.ensures p.r.now (record { sound = passed; servers = sym c.movers.ensures.0; states = sym c.movers.ensures.1 }) refl
    ∙ packet-admitted p.asked.key p.table.now p.rows.servers.now p.rows.flags.now _ p.r.now _ passed
