-- Rows and flags that are lent as one table.
use Rattle.std.specs.Prelude.{◌≡◌}
use Rattle.rows.specs.declared.RowTable.{RowTable}
use Rattle.rows.specs.declared.RowView.{RowView}
use Rattle.rows.specs.Rows.{Rows}

-- what a table holds
abbrev pub rows_in : RowTable → Rows
rows_in r = record { servers = r.servers.now; flags = r.flags.now }

abbrev pub rows_seen : RowView → Rows
rows_seen v = record { servers = v.servers.now; flags = v.flags.now }

-- the two lists that are lent are the same ones still, so their owner finds there what the table holds in the end
abbrev pub SameLists : RowTable → RowTable → Type 0
SameLists a b = (b.servers.ghost_name ≡ a.servers.ghost_name) × (b.flags.ghost_name ≡ a.flags.ghost_name)
