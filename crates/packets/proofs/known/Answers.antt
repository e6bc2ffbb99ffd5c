-- `packets::known` meets its contract.
use Rattle.std.proofs.Common.{true, ◌∙◌}
use Rattle.packets.proofs.OfPackets.{led_nowhere, led_on, known_1}
use Rattle.packets.proofs.known.Goals as goal

pub returns-then-state_in-ne-WORKING : goal.returns-then-state_in-ne-WORKING
returns-then-state_in-ne-WORKING c =
    λ key pick rows r l.
    let p = c.args in
    led_nowhere key p.table.now rows.servers rows.flags pick r (record { found = true; reads = p.place }) p.movers.servers.now p.movers.states.now l _ c.idle.ensures
    (rw (c.state_in.ensures, c.server_at-server.ensures) at c.if-state_in-ne-WORKING.true)

pub returns : goal.returns
returns c =
    λ key pick rows r l.
    let p = c.args in
    rw c.server_at-server.ensures (known_1 key p.table.now rows.servers rows.flags pick r p.place
    ∙ led_on key p.table.now rows.servers rows.flags pick r (record { found = true; reads = p.place }) p.movers.servers.now p.movers.states.now l
    (rw (c.state_in.ensures, c.server_at-server.ensures) at c.if-state_in-ne-WORKING.false))
