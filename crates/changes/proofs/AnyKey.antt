-- The key beside an event that has none is never read: what is promised of such an event with no key holds with every key.
use Prim.Native.Nat.{ℕ}
use mathlib.Core.Bool.{false}
use mathlib.Core.List.{List}
use mathlib.Core.Path.{◌≡◌}
use Rattle.ranking.specs.declared.Pick.{Pick}
use Rattle.event.specs.Event.{Request}
use Rattle.table.specs.Table.{Finding}
use Rattle.rules.specs.Rules.{State, is, judged, barred, effect}

abbrev pub with_key : List ℕ → Request → Request
with_key key e = record { refusal = e.refusal; kind = e.kind; key = key; server = e.server; settings = e.settings }

pub any_key : (e : Request) (key : List ℕ) (found : Finding) (pick : Pick) (st : State) → is 1 e ≡ false
    → judged (with_key key e) found pick st ≡ judged e found pick st
unfolding judged barred effect
any_key e key found pick st n = rw n
