-- What an end comes to, a case for each of its three ways. Who shows something of each case shows it of every end.
use mathlib.Core.Bool.{Bool, true, false, cond}
use mathlib.Core.Logic.{◌≢◌}
use mathlib.Core.Path.{◌≡◌, refl}
use lib.Dec.{eqb}
use borrow.Author.Tests.{eqb-true, eqb-false, eq-eqb, ne_eqb}
use Rattle.table.specs.Table.{Finding, tag_at, half_closed, removed}
use Rattle.rules.specs.Answer.{accepts}
use Rattle.rules.specs.Rules.{State, Change, answered, end}

pub data Ends (found : Finding) (st : State) : Change → Type 0 where
  first : found.found ≡ true → tag_at found.reads st.table ≡ 1
      → Ends found st (answered (accepts 0 8 found.reads) (half_closed found.reads st.table) st)
  next : found.found ≡ true → tag_at found.reads st.table ≢ 1
      → Ends found st (answered (accepts 0 5 found.reads) (removed found.reads st.table) st)
  nothing : found.found ≡ false → Ends found st (answered (accepts 0 6 found.reads) st.table st)

module _ (found : Finding) (st : State) where
  way : (f t : Bool) → found.found ≡ f → eqb (tag_at found.reads st.table) 1 ≡ t
      → Ends found st
      (cond f
      (cond t
      (answered (accepts 0 8 found.reads) (half_closed found.reads st.table) st)
      (answered (accepts 0 5 found.reads) (removed found.reads st.table) st))
      (answered (accepts 0 6 found.reads) st.table st))
  way true true f t = first f (eqb-true _ 1 t)
  way true false f t = next f (eqb-false _ 1 t)
  way false t f q = nothing f

  pub ends : Ends found st (end found st)
  unfolding end
  ends = way found.found (eqb (tag_at found.reads st.table) 1) refl refl

  -- each way as an equation
  pub end-first : found.found ≡ true → tag_at found.reads st.table ≡ 1
      → end found st ≡ answered (accepts 0 8 found.reads) (half_closed found.reads st.table) st
  unfolding end
  end-first f t = rw (f, eq-eqb (tag_at found.reads st.table) 1 t)

  pub end_next : found.found ≡ true → tag_at found.reads st.table ≢ 1
      → end found st ≡ answered (accepts 0 5 found.reads) (removed found.reads st.table) st
  unfolding end
  end_next f t = rw (f, ne_eqb (tag_at found.reads st.table) 1 t)

  pub end-nothing : found.found ≡ false → end found st ≡ answered (accepts 0 6 found.reads) st.table st
  unfolding end
  end-nothing f = rw f
